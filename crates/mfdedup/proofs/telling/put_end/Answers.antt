use Rattle.std.proofs.Common.{◌≡◌, ◌∙◌, refl, sym, subst, Bool, true, false, IsTrue}
use Rattle.bd_files.specs.Sinks.{HandsOn, HandsPart}
use Rattle.std.specs.Prelude.{IfOk, OnErr}
use Rattle.bd_files.specs.World.{with_disk, with_sink}
use Rattle.mfdedup.specs.Statuses.{end_text}
use Rattle.mfdedup.proofs.NotedLemmas.{tells_text}
use Rattle.mfdedup.proofs.telling.put_end.Goals as goal

not_empty : (b : Bool) → IsTrue b → b ≡ false → ⊥
not_empty b is other = let clash : false ≡ true = sym other ∙ is in cc clash

pub returns-then-not-is_empty : goal.returns-then-not-is_empty
returns-then-not-is_empty g c =
    let is = c.bytes.ensures.value ∙ c.end_line-line.ensures in
    record {
      tells = λ kept. tells_text g.O.Sink.tells (with_sink g.O.Sink (with_disk g.D.Disk kept c.args.disk.now) c.args.out.now) (with_sink g.O.Sink (with_disk g.D.Disk kept c.args.disk.now) c.put_text.new.out) g.D.Disk.tells (end_text c.args.end.now) c.put_text.result refl
          (λ none. not_empty _ (c.is_empty.ensures.1 (c.end_line-line.ensures ∙ none)) c.if-not-is_empty.true) c.put_text.ensures.later c.put_text.ensures.kept c.put_text.ensures.failed
          (subst (λ t. IfOk c.put_text.result (λ moment. g.O.Sink.tells → HandsOn g.D.Disk.tells moment t (g.O.Sink.handed c.args.out.now) (g.O.Sink.handed c.put_text.new.out))) is c.put_text.ensures.put)
          (subst (λ t. OnErr c.put_text.result (g.O.Sink.tells → HandsPart t (g.O.Sink.handed c.args.out.now) (g.O.Sink.handed c.put_text.new.out))) is c.put_text.ensures.part);
    }
