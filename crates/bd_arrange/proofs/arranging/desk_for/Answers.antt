use Rattle.std.proofs.Common.{◌≡◌, ℕ, zero, suc, ◌+◌, ◌-◌, ◌≤◌, List, [], ◌∷◌, length, map, get_or, sym, ◌∙◌, ap, arith}
use Rattle.std.specs.Prelude.{IfOk, Result, Ok, Err}
use Rattle.std.proofs.lemmas.List.{length-map}
use Rattle.bd_model.specs.declared.layout.CategoryRow.{CategoryRow}
use Rattle.bd_roll.specs.Catalogue.{Catalogue, oldest_in}
use Rattle.bd_roll.specs.Shown.{volume_entry}
use Rattle.bd_roll.specs.Splitting.{last_extents, last_rows}
use Rattle.bd_roll.specs.declared.rows.ClosedVolume.{ClosedVolume}
use Rattle.bd_roll.proofs.RuleLemmas.{NumbersHold, numbers_of, rules_of}
use Rattle.bd_roll.proofs.OwnedByStep.{waiting_volume}
use Rattle.bd_arrange.specs.Desks.{OnDesk}
use Rattle.bd_arrange.specs.Underway.{HasSplits}
use Rattle.bd_arrange.proofs.arranging.desk_for.Goals as goal

-- what a catalogue has of its last volume
record IsLast (vs : List ClosedVolume) (v : ClosedVolume) : Type 0 where
  rows : v.rows.items ≡ last_rows (map volume_entry vs)
  extents : v.extents.numbers ≡ last_extents (map volume_entry vs)

last_at : (vs : List ClosedVolume) (k : ℕ) (v : ClosedVolume) → k + 1 ≡ length vs → v ≡ get_or vs k v → IsLast vs v
last_at [] k v last is = absurd (omega (arith, last))
last_at (y ∷ []) zero v last is = record { rows = ap (λ (w : ClosedVolume). w.rows.items) is; extents = ap (λ (w : ClosedVolume). w.extents.numbers) is }
last_at (y ∷ []) (suc k) v last is = absurd (omega (arith, last))
last_at (y ∷ z ∷ zs) zero v last is = absurd (omega (arith, last))
last_at (y ∷ z ∷ zs) (suc k) v last is = let rest : IsLast (z ∷ zs) v = last_at (z ∷ zs) k v (omega (arith, last)) is in record { rows = rest.rows; extents = rest.extents }

begun : {E : Type 0} (c : Catalogue) (rows : List CategoryRow) (numbers : List ℕ) (oldest : ℕ) → rows ≡ last_rows c.volumes → numbers ≡ last_extents c.volumes → oldest ≡ oldest_in c → (r : Result OnDesk E) →
    IfOk r (λ desk. desk.filling.rows ≡ rows) → IfOk r (λ desk. desk.filling.numbers ≡ numbers) → IfOk r (λ desk. desk.filling.added ≡ []) → IfOk r (λ desk. desk.filling.oldest ≡ oldest) → IfOk r (λ desk. desk.splits ≡ []) →
    IfOk r (λ desk. HasSplits c [] desk)
begun c rows numbers oldest is_rows is_numbers is_oldest (Ok desk) has_rows has_numbers has_added has_oldest has_splits =
    record { rows = has_rows ∙ is_rows; numbers = has_numbers ∙ is_numbers; added = has_added; oldest = has_oldest ∙ is_oldest; splits = has_splits }
begun c rows numbers oldest is_rows is_numbers is_oldest (Err e) has_rows has_numbers has_added has_oldest has_splits = tt

pub returns : goal.returns
returns c =
    let found = c.args.catalog.now.found in
    let cat : Catalogue = found.catalogue in
    let vs : List ClosedVolume = c.volumes-volumes.result.now in
    let v : ClosedVolume = c.index-volumes-volumes.result in
    let count : length vs ≡ length cat.volumes = sym (length-map vs volume_entry) ∙ ap length c.volumes-volumes.ensures in
    let some : 1 ≤ length cat.volumes = waiting_volume found.sizes cat c.args.catalog.now.rules c.requires.waits in
    let numbers : NumbersHold found.sizes cat = numbers_of found.sizes cat (rules_of found.sizes cat c.args.catalog.now.rules).numbers in
    let is : IsLast vs v = last_at vs (length vs - 1) v (omega (arith, count, some)) c.index-volumes-volumes.is in
    let oldest : c.newest.result - length vs ≡ oldest_in cat = omega (arith, c.newest.ensures, count, numbers.volumes, numbers.base, some) in
    begun cat v.rows.items v.extents.numbers (c.newest.result - length vs) (is.rows ∙ ap last_rows c.volumes-volumes.ensures) (is.extents ∙ ap last_extents c.volumes-volumes.ensures) oldest c.new.result
    c.new.ensures.rows c.new.ensures.numbers c.new.ensures.added c.new.ensures.oldest c.new.ensures.splits
