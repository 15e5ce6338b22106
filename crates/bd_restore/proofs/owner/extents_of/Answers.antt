use Rattle.std.proofs.Common.{◌≡◌, ℕ, ◌<◌, ◌≤◌, List, length, get_or, map, sym, ◌∙◌, ap, subst, arith}
use Rattle.std.specs.Prelude.{Contains, IsTrue}
use Rattle.std.proofs.lemmas.List.{get_or-map, length-map}
use Rattle.bd_roll.specs.Catalogue.{Catalogue, OpenEntry}
use Rattle.bd_catalog.specs.Rows.{RowPlace, open_row}
use Rattle.bd_roll.specs.Rules.{obeys}
use Rattle.bd_roll.specs.declared.rows.ActiveCategory.{ActiveCategory}
use Rattle.bd_roll.specs.Shown.{open_entry, volume_entry}
use Rattle.bd_model.specs.Sizes.{Sizes}
use Rattle.bd_model.specs.declared.damage.Owner.TheVariants.{Active}
use Rattle.bd_volume.specs.Pieces.{extents_of}
use Rattle.bd_volume.proofs.PieceLemmas.{AreOwned, opens_owned}
use Rattle.bd_volume.proofs.RowLists.{ClosedIs, closed_is}
use Rattle.bd_restore.specs.Owners.{starts_in, AreRising, IsOwner}
use Rattle.bd_restore.proofs.WalkRows.{found_there, owned_at, starts_rise}
use Rattle.bd_restore.proofs.owner.extents_of.Goals as goal

pub begun_before-requires : goal.begun_before-requires
begun_before-requires c =
    subst (λ (l : List OpenEntry). AreRising (starts_in l)) (sym (ap (map open_entry) c.as_slice-actives.ensures ∙ c.actives.ensures)) (starts_rise c.args.catalog.now.found.sizes c.args.catalog.now.found.catalogue c.requires.rules)

pub returns-in-Volume : goal.returns-in-Volume
returns-in-Volume c =
    let found = c.args.catalog.now.found in
    let number = c.in-Volume.number in
    let closed : ClosedIs found.catalogue number (volume_entry c.unwrap.result.now) = closed_is found.sizes found.catalogue number (volume_entry c.unwrap.result.now) c.requires.rules (rw c.unwrap.ensures at c.volume.ensures.row) in
    c.numbers.ensures ∙ closed.extents ∙ ap (extents_of found.catalogue) (sym c.in-Volume.is)

-- the open category of this start was found
module _ (s : Sizes) (c : Catalogue) (actives : List ActiveCategory) (start k : ℕ) (rules : IsTrue (obeys s c)) (listed : map open_entry actives ≡ c.actives) (owner : IsOwner c (Active start))
    (before : (i : ℕ) → i < k → get_or (starts_in (map open_entry actives)) i 0 < start) (behind : (i : ℕ) → k ≤ i → i < length actives → start ≤ get_or (starts_in (map open_entry actives)) i 0) where
  abbrev starts : List ℕ
  starts = starts_in (map open_entry actives)

  counted : length starts ≡ length actives
  counted = length-map (map open_entry actives) (λ (e : OpenEntry). e.row.start) ∙ length-map actives open_entry

  found : (k < length starts) × (get_or starts k 0 ≡ start)
  found = found_there starts start k (subst (λ (l : List OpenEntry). AreRising (starts_in l)) (sym listed) (starts_rise s c rules)) (subst (λ (l : List OpenEntry). Contains (starts_in l) start) (sym listed) owner) before
      (λ i low lt. behind i low (omega (arith, lt, counted)))

  there : k < length actives
  there = omega (arith, found.0, counted)

  has_extents : (x : ActiveCategory) → (get_or actives k x).extents.numbers ≡ extents_of c (Active start)
  has_extents x =
      let e = get_or actives k x in
      let entries = map open_entry actives in
      let listed_there : k < length entries = omega (arith, there, length-map actives open_entry) in
      let entry : get_or entries k (open_entry x) ≡ open_entry e = get_or-map open_entry actives k x (open_entry x) there in
      let row : get_or (map open_row entries) k (open_row (open_entry x)) ≡ open_row (open_entry e) = get_or-map open_row entries k (open_entry x) (open_row (open_entry x)) listed_there ∙ ap open_row entry in
      let at_start : e.row.start ≡ start = sym (get_or-map (λ (y : OpenEntry). y.row.start) entries k (open_entry x) 0 listed_there ∙ ap (λ (y : OpenEntry). y.row.start) entry) ∙ found.1 in
      let own : extents_of c (get_or (map open_row entries) k (open_row (open_entry x))).who ≡ (get_or (map open_row entries) k (open_row (open_entry x))).extents =
      owned_at c (map open_row entries) k (open_row (open_entry x)) (subst (λ (l : List OpenEntry). AreOwned c (map open_row l)) (sym listed) (opens_owned s c rules)) (omega (arith, listed_there, length-map entries open_row)) in
      let mine : extents_of c (Active e.row.start) ≡ e.extents.numbers = subst (λ (p : RowPlace). extents_of c p.who ≡ p.extents) row own in
      sym mine ∙ ap (λ n. extents_of c (Active n)) at_start

pub bounds-actives-begun_before : goal.bounds-actives-begun_before
bounds-actives-begun_before c =
    let found = c.args.catalog.now.found in
    there found.sizes found.catalogue c.as_slice-actives.result.now c.in-Active.start c.begun_before.result c.requires.rules (ap (map open_entry) c.as_slice-actives.ensures ∙ c.actives.ensures)
    (subst (IsOwner found.catalogue) c.in-Active.is c.requires.owner) c.begun_before.ensures.before c.begun_before.ensures.behind

pub returns-in-Active : goal.returns-in-Active
returns-in-Active c =
    let found = c.args.catalog.now.found in
    c.numbers-in-Active.ensures
    ∙ has_extents found.sizes found.catalogue c.as_slice-actives.result.now c.in-Active.start c.begun_before.result c.requires.rules (ap (map open_entry) c.as_slice-actives.ensures ∙ c.actives.ensures)
    (subst (IsOwner found.catalogue) c.in-Active.is c.requires.owner) c.begun_before.ensures.before c.begun_before.ensures.behind c.index-actives-begun_before.result
    ∙ ap (extents_of found.catalogue) (sym c.in-Active.is)
