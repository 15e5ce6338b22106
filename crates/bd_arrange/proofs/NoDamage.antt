-- An image that stands for a state has no damage in its open categories.
use Rattle.std.proofs.Common.{◌≡◌, ⊎_elim, ℕ, zero, suc, ◌+◌, ◌-◌, ◌≤◌, Bool, true, false, cond, ◌&&◌, List, [], ◌∷◌, ◌++◌, length, map, filter, max, sum_by, refl, sym, ◌∙◌, ap, subst, arith, drop, le-leb, nat_le}
use Rattle.std.specs.Prelude.{Contains, ◌==◌, Ok}
use Rattle.std.specs.Str.{bytes_eq}
use Rattle.std.specs.List.{list_all}
use Rattle.std.proofs.lemmas.Bool.{eqb-true, false≢true, leb-true}
use Rattle.std.proofs.lemmas.List.Elements.{All-contains}
use Rattle.std.proofs.lemmas.List.Folds.{fold-map, list_all-append}
use Rattle.std.proofs.lemmas.List.Sums.{AllPass-from_list_all, sum_by-cons}
use Rattle.bd_disk.specs.History.{History, contents}
use Rattle.bd_model.specs.Chunks.{numbers}
use Rattle.bd_model.specs.History.{VersionHistory as Versions, contains, newest}
use Rattle.bd_model.specs.Layout.{arranged_to, is_arranged, open_category}
use Rattle.bd_model.specs.Marks.{mark}
use Rattle.bd_model.specs.Records.{Stored, stored_at}
use Rattle.bd_model.specs.Sizes.{Sizes, sizes_of}
use Rattle.bd_model.specs.State.{VersionState, history}
use Rattle.bd_model.specs.declared.damage.Damage.{Damage}
use Rattle.bd_model.specs.declared.damage.Damage.TheVariants.{Entry, Sum, Header, Row, Body, Length, Missing}
use Rattle.bd_model.specs.declared.layout.Phase.{Phase}
use Rattle.bd_model.specs.declared.shape.Shape.{Shape}
use Rattle.bd_model.proofs.ChunkListLemmas.{in_some}
use Rattle.bd_model.proofs.ListLemmas.{left_and, right_and}
use Rattle.bd_model.proofs.PlaceLemmas.{a_version_uses_a_front}
use Rattle.bd_roll.specs.Catalogue.{Catalogue, OpenEntry}
use Rattle.bd_catalog.specs.Damages.{BreaksRule, header_holds}
use Rattle.bd_catalog.specs.Opening.{Found, opened}
use Rattle.bd_catalog.specs.Rows.{RowPlace, Spot, open_row, records_at, row_bytes, row_end, row_spots, spots_from}
use Rattle.bd_catalog.specs.Sound.{length_holds, part_holds, part_records, stored_holds}
use Rattle.bd_catalog.specs.Standing.{StandsFor}
use Rattle.bd_roll.proofs.RuleLemmas.{bounded_of}
use Rattle.bd_catalog.proofs.StandingLemmas.{Shows, stands-shows}
use Rattle.bd_recipe.proofs.StandingRecipe.{version-bounded}
use Rattle.bd_volume.specs.Holding.{Group, HoldsLayout, chunks_of_groups, groups_over}
use Rattle.bd_volume.proofs.Held.{layout_held}
use Rattle.bd_volume.proofs.HeldRows.{held_parts}
use Rattle.bd_volume.proofs.HeldWalk.{chunks-over}
use Rattle.bd_volume.proofs.StoredChunks.{Bounded}
use Rattle.bd_volume.proofs.WalkRecords.{part_at, row_records}
use Rattle.bd_arrange.specs.Arranged.{IsDamageOfDue}
use Rattle.bd_arrange.specs.Cuts.{IsOfHeaders}
use Rattle.bd_arrange.specs.Turns.{due, is_due}
use Rattle.bd_arrange.proofs.TurnFrame.{among_map}

-- rows of some categories are rows of all
row_behind : (e : OpenEntry) (xs es : List OpenEntry) (p : RowPlace) → (Contains (map open_row xs) p → Contains (map open_row es) p) → Contains (open_row e ∷ map open_row xs) p → Contains (map open_row (e ∷ es)) p
row_behind e xs es p rest (zero, lt, at) = (0, omega arith, at)
row_behind e xs es p rest (suc k, lt, at) = let later = rest (k, omega (arith, lt), at) in (suc later.0, omega (arith, later.1), later.2)

row_among : (q : OpenEntry → Bool) (es : List OpenEntry) (p : RowPlace) → Contains (map open_row (filter q es)) p → Contains (map open_row es) p
row_among q [] p has = has
row_among q (e ∷ es) p has =
    elim (q e) as (λ t. Contains (map open_row (cond t (e ∷ filter q es) (filter q es))) p → Contains (map open_row (e ∷ es)) p) [
      | true ↦ λ here. row_behind e (filter q es) es p (row_among q es p) here
      | false ↦ λ here. let rest = row_among q es p here in (suc rest.0, omega (arith, rest.1), rest.2)
    ] has

-- records that hold, and fit, have headers that do
spots_hold : (s : Sizes) (p : RowPlace) (extents bytes : List ℕ) (n at : ℕ) → list_all (stored_holds s) (records_at (spots_from extents bytes n at)) ≡ true →
    at + sum_by (λ (x : Spot). 36 + x.stored.length) (spots_from extents bytes n at) ≤ row_end p → list_all (header_holds s p) (spots_from extents bytes n at) ≡ true
spots_hold s p extents bytes zero at hold fits = refl
spots_hold s p extents bytes (suc n) at hold fits =
    let r = stored_at (drop at bytes) in
    let x : Spot = record { extents = extents; at = at; stored = r } in
    let rest = spots_from extents bytes n (at + 36 + r.length) in
    let size = λ (y : Spot). 36 + y.stored.length in
    let total : sum_by size (x ∷ rest) ≡ 36 + r.length + sum_by size rest = sum_by-cons size x rest in
    let first : stored_holds s r ≡ true = left_and (stored_holds s r) (list_all (stored_holds s) (records_at rest)) hold in
    let later : list_all (stored_holds s) (records_at rest) ≡ true = right_and (stored_holds s r) (list_all (stored_holds s) (records_at rest)) hold in
    let same = length r.body == r.length in
    let long : length_holds s r.length ≡ true = left_and (length_holds s r.length) same (left_and (length_holds s r.length && same) (bytes_eq (mark r.body) r.mark) first) in
    let ends : nat_le (at + 36 + r.length) (row_end p) ≡ true = le-leb (at + 36 + r.length) (row_end p) (omega (arith, fits, total)) in
    let others : list_all (header_holds s p) rest ≡ true = spots_hold s p extents bytes n (at + 36 + r.length) later (omega (arith, fits, total)) in
    λ k. (long k && ends k) && others k

module _ (shape : Shape) (st : VersionState) (phase : Phase) (held : ℕ) (image : List ℕ) (found : Found) (stands : StandsFor shape st phase held image) (opens : opened image ≡ Ok found) where
  abbrev s : Sizes
  s = sizes_of shape

  abbrev h : Versions
  h = history shape st

  abbrev c : Catalogue
  c = found.catalogue

  layout : HoldsLayout s h phase c image
  layout = layout_held shape st phase held image found stands opens

  abbrev groups : List Group
  groups = groups_over (open_category h phase) (numbers (h.base + 1) (newest h))

  abbrev IsBounded : List ℕ → Type 0
  IsBounded x = (1 ≤ length x) × (length x ≤ s.max)

  bounded : Bounded s (chunks_of_groups groups)
  bounded x has =
      in_some (open_category h phase) x (IsBounded x) (h.base + 1) (newest h + 1 - (h.base + 1)) (ap (λ cs. contains cs x) (sym (chunks-over (open_category h phase) (numbers (h.base + 1) (newest h)))) ∙ has)
      (λ i from to there.
      let lasts : i ≤ arranged_to h phase i = elim (is_arranged phase i) as (λ t. i ≤ cond t (newest h) (max i (newest h - 1))) [ true ↦ omega arith | false ↦ omega arith ] in
      version-bounded shape st i x (a_version_uses_a_front.open_used h phase i i x (omega arith) lasts there))

  -- each row has its records, which fill it
  row_holds : (p : RowPlace) → Contains (map open_row c.actives) p → part_holds s (part_at s image p) ≡ true
  row_holds p has =
      let parts = map (part_at s image) (map open_row c.actives) in
      All-contains (λ x. part_holds s x ≡ true) parts (part_at s image p)
      (AllPass-from_list_all (part_holds s) parts (held_parts s (bounded_of shape).chunk image (map open_row c.actives) groups layout.actives bounded))
      (among_map (part_at s image) (map open_row c.actives) p has)

  module _ (p : RowPlace) (from : p.from ≡ 0) (has : Contains (map open_row c.actives) p) where
    abbrev spots : List Spot
    spots = row_spots s image p

    records : list_all (stored_holds s) (records_at spots) ≡ true
    records =
        ap (list_all (stored_holds s)) (row_records s image p)
        ∙ left_and (list_all (stored_holds s) (part_records (part_at s image p))) (sum_by (λ (r : Stored). 36 + r.length) (part_records (part_at s image p)) == p.row.bytes) (row_holds p has)

    fills : sum_by (λ (x : Spot). 36 + x.stored.length) spots ≡ p.row.bytes
    fills =
        sym (fold-map (λ n (r : Stored). n + (36 + r.length)) (λ (x : Spot). x.stored) 0 spots)
        ∙ ap (sum_by (λ (r : Stored). 36 + r.length)) (row_records s image p)
        ∙ eqb-true (sum_by (λ (r : Stored). 36 + r.length) (part_records (part_at s image p))) p.row.bytes
        (right_and (list_all (stored_holds s) (part_records (part_at s image p))) (sum_by (λ (r : Stored). 36 + r.length) (part_records (part_at s image p)) == p.row.bytes) (row_holds p has))

    headers : list_all (header_holds s p) spots ≡ true
    headers = spots_hold s p p.extents (row_bytes s image p) p.row.chunks p.from records (omega (arith, fills))

    -- the header of one of them
    one_header : (before behind : List Spot) (x : Spot) → spots ≡ before ++ (x ∷ behind) → header_holds s p x ≡ true
    one_header before behind x is =
        left_and (header_holds s p x) (list_all (header_holds s p) behind)
        (right_and (list_all (header_holds s p) before) (list_all (header_holds s p) (x ∷ behind))
        (sym (list_all-append (header_holds s p) before (x ∷ behind)) ∙ ap (list_all (header_holds s p)) (sym is) ∙ headers))

  ends_there : (p : RowPlace) (x : Spot) → header_holds s p x ≡ true → x.at + 36 + x.stored.length ≤ row_end p
  ends_there p x holds = leb-true (x.at + 36 + x.stored.length) (row_end p) (right_and (length_holds s x.stored.length) (nat_le (x.at + 36 + x.stored.length) (row_end p)) holds)

  from_first : (es : List OpenEntry) (p : RowPlace) → Contains (map open_row es) p → p.from ≡ 0
  from_first [] p none = absurd (omega (arith, none.1))
  from_first (e ∷ es) p (zero, lt, at) = ap (λ (q : RowPlace). q.from) (sym at)
  from_first (e ∷ es) p (suc k, lt, at) = from_first es p (k, omega (arith, lt), at)

  never_breaks : (damage : Damage) (places : List ℕ) → IsOfHeaders damage → BreaksRule s c image (map open_row (due c)) damage places → ⊥
  never_breaks (Entry v index said start) places part b = part
  never_breaks (Sum v recorded found_sum) places part b = part
  never_breaks (Header who at said left) places part b =
      let p = b.0 in
      let x = b.1 in
      let r = b.2 in
      let has : Contains (map open_row c.actives) p = row_among (is_due c.newest c.phase) c.actives p r.is_row in
      let holds : header_holds s p x ≡ true = one_header p (from_first c.actives p has) has r.before r.behind x r.so in
      ⊎_elim (λ short. omega (arith, short.0, short.1, ends_there p x holds)) (λ bad. false≢true (sym bad.2 ∙ holds)) b.3
  never_breaks (Row who start recorded found_bytes) places part b =
      let p = b.0 in
      let has : Contains (map open_row c.actives) p = row_among (is_due c.newest c.phase) c.actives p b.1 in
      let bad = b.5 in
      bad.2 (bad.1 ∙ fills p (from_first c.actives p has) has)
  never_breaks (Body who at recorded found_mark) places part b = part
  never_breaks (Length v m recorded found_length) places part b = part
  never_breaks (Missing v index m) places part b = part

pub never_damaged : (shape : Shape) (st : VersionState) (phase : Phase) (held : ℕ) (found : Found) (old new : History) → StandsFor shape st phase held (contents old) → opened (contents old) ≡ Ok found →
    (damage : Damage) → IsDamageOfDue found damage old new → ⊥
never_damaged shape st phase held found old new stands opens damage met =
    let shows : Shows shape st phase held found (contents old) = stands-shows stands opens in
    never_breaks shape st phase held (contents old) found stands opens damage met.seen.places met.part
    (subst (λ s. BreaksRule s found.catalogue (contents old) (map open_row (due found.catalogue)) damage met.seen.places) shows.sizes met.seen.breaks)
