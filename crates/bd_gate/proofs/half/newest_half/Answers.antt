use Rattle.std.proofs.Common.{[], ◌∷◌, Some, sym, ◌∙◌, ap, arith}
use Rattle.bd_disk.specs.History.{contents}
use Rattle.bd_disk.proofs.RunLemmas.{same_contents}
use Rattle.bd_model.specs.Sizes.{sizes_of}
use Rattle.bd_gate.proofs.Fronts.{fronts_read, newest_of_fronts, first_half, second_half, second_number}
use Rattle.bd_gate.proofs.Newest.{first_newest, second_newest}
use Rattle.bd_disk.proofs.Traces.{reads_both}
use Rattle.bd_gate.proofs.half.newest_half.Goals as goal

pub returns-in-Some-eq0-clause-found : goal.returns-in-Some-eq0-clause-found
returns-in-Some-eq0-clause-found g c = λ told.
    let fronts = (fronts_read (sizes_of c.args.shape.now) (contents (g.D.Disk.history c.args.disk.now)) (contents (g.D.Disk.history c.read_front.new.disk)) _ _ (same_contents c.in_ok-first.ensures.disk told)
    (c.in_ok-first.ensures.gate told) (c.in_ok-first.ensures.turn told) (c.in_ok-first.ensures.length told) (c.in_ok-second.ensures.gate told) (c.in_ok-second.ensures.turn told) (c.in_ok-second.ensures.length told)) in (
      newest_of_fronts _ _ _ _ fronts ∙ sym c.in-Some-eq0.ensures ∙ ap Some c.in-Some-eq0.field-0-test,
      first_half _ _ _ _ fronts _ c.is_open.ensures,
    )

pub returns-in-Some-eq0-clause-range : goal.returns-in-Some-eq0-clause-range
returns-in-Some-eq0-clause-range g c = (omega arith, (first_newest _ _ _ _ (sym c.in-Some-eq0.ensures ∙ ap Some c.in-Some-eq0.field-0-test)).1)

pub returns-in-Some-clause-found : goal.returns-in-Some-clause-found
returns-in-Some-clause-found g c = λ told.
    let fronts = (fronts_read (sizes_of c.args.shape.now) (contents (g.D.Disk.history c.args.disk.now)) (contents (g.D.Disk.history c.read_front.new.disk)) _ _ (same_contents c.in_ok-first.ensures.disk told)
    (c.in_ok-first.ensures.gate told) (c.in_ok-first.ensures.turn told) (c.in_ok-first.ensures.length told) (c.in_ok-second.ensures.gate told) (c.in_ok-second.ensures.turn told) (c.in_ok-second.ensures.length told)) in (
      newest_of_fronts _ _ _ _ fronts ∙ second_number c.in-Some.field-0 c.in_ok-first.first c.in_ok-second.second c.in-Some.ensures c.in-Some.field-0-test.1,
      second_half _ _ _ _ fronts _ c.is_open-in-Some.ensures,
    )

pub returns-in-Some-clause-range : goal.returns-in-Some-clause-range
returns-in-Some-clause-range g c = (omega arith, (second_newest _ _ _ _ (second_number c.in-Some.field-0 c.in_ok-first.first c.in_ok-second.second c.in-Some.ensures c.in-Some.field-0-test.1)).1)

pub returns-in-None-clause-found : goal.returns-in-None-clause-found
returns-in-None-clause-found g c = λ told.
    let fronts = (fronts_read (sizes_of c.args.shape.now) (contents (g.D.Disk.history c.args.disk.now)) (contents (g.D.Disk.history c.read_front.new.disk)) _ _ (same_contents c.in_ok-first.ensures.disk told)
    (c.in_ok-first.ensures.gate told) (c.in_ok-first.ensures.turn told) (c.in_ok-first.ensures.length told) (c.in_ok-second.ensures.gate told) (c.in_ok-second.ensures.turn told) (c.in_ok-second.ensures.length told)) in (
      newest_of_fronts _ _ _ _ fronts ∙ sym c.in-None.ensures,
      (λ i. fronts.first_gate i ∷ fronts.second_gate i ∷ []),
      (λ i. fronts.first_turn i ∷ fronts.second_turn i ∷ []),
    )

pub returns-in-Some-eq0-clause-places : goal.returns-in-Some-eq0-clause-places
returns-in-Some-eq0-clause-places g c = λ told. reads_both (c.in_ok-first.ensures.places told) (c.in_ok-second.ensures.places told)

pub returns-in-Some-clause-places : goal.returns-in-Some-clause-places
returns-in-Some-clause-places g c = λ told. reads_both (c.in_ok-first.ensures.places told) (c.in_ok-second.ensures.places told)

pub returns-in-None-clause-places : goal.returns-in-None-clause-places
returns-in-None-clause-places g c = λ told. reads_both (c.in_ok-first.ensures.places told) (c.in_ok-second.ensures.places told)
