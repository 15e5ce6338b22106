use Rattle.std.proofs.Common.{arith}
use Rattle.bd_roll.specs.Shown.{catalogue_of_contents}
use Rattle.bd_roll.specs.Spelling.{spelled}
use Rattle.bd_catalog.proofs.FrameLemmas.{frame_put}
use Rattle.bd_catalog.proofs.frame.put_frame.Goals as goal

pub returns-clause-written : goal.returns-clause-written
returns-clause-written c =
    frame_put c.args.turn c.put_contents-count.result (spelled (catalogue_of_contents c.args.contents.now)) _ c.args.into.now c.put_contents-count.new.into _ c.put_u8.new.into c.put_u64.new.into c.put_u8-2.new.into
    c.put_contents-count.ensures.behind (omega (arith, c.requires.room)) c.put_contents-count.ensures.written (omega (arith, c.requires.room, c.put_contents-count.ensures.behind, c.put_u8.auto.into)) c.put_u8.ensures c.put_u64.ensures c.put_u8-2.ensures
