use Rattle.std.proofs.Common.{[], map, arith}
use Rattle.std.proofs.lemmas.List.{length-map}
use Rattle.bd_roll.proofs.OneSpelling.{many_none, took_entry, fits_entry, longer_by_one}
use Rattle.bd_roll.proofs.spelled.take_many.Goals as goal

pub returns-in_default : goal.returns-in_default
returns-in_default g c =
    let t = g.T.Spelled in
    let items = c.loop.items.items in
    many_none t.spell t.fits c.requires c.args.count (map t.entry items) c.args.cursor.now c.loop.cursor c.loop.invariant.fit
    (omega (arith, length-map items t.entry)) c.loop.invariant.so (rw c.in_default.is at c.in_ok-found.ensures)

pub loop-preserved : goal.loop-preserved
loop-preserved g c =
    let t = g.T.Spelled in
    let items = c.loop.items.items in
    let x = c.in-Some.item in
    let taken = rw c.in-Some.is at c.in_ok-found.ensures in
    let pushed = c.in_ok-push.ensures.items in
    record {
      so = took_entry t.entry items c.push.new.self.items x pushed t.spell [] c.args.cursor.now c.loop.cursor c.take.new.cursor c.loop.invariant.so taken.so;
      size = omega (arith, longer_by_one t.entry items c.push.new.self.items x pushed, c.loop.invariant.size);
      fit = fits_entry t.entry items c.push.new.self.items x pushed t.fits c.loop.invariant.fit taken.fit;
    }
