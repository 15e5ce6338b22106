-- How many extents go with the oldest version.
use Rattle.std.proofs.Common.{◌≡◌, ◌∙◌, ℕ, zero, suc, ◌+◌, ◌<◌, ◌≤◌, ◌^◌, ◌++◌, Bool, true, nat_lt, List, [], ◌∷◌, append-nil, ap, arith, cond, get_or, length, length-append, map, sym, take}
use Rattle.std.specs.List.{flat_map, list_all}
use Rattle.std.specs.Prelude.{IsTrue}
use Rattle.std.proofs.lemmas.Bool.{le-leb, lt-leb}
use Rattle.std.proofs.lemmas.List.{length-map, take_more}
use Rattle.std.proofs.lemmas.List.Folds.{flat_map-map}
use Rattle.std.proofs.lemmas.List.Sorted.{length_permutation}
use Rattle.bd_model.proofs.ListLemmas.{left_and, right_and}
use Rattle.bd_model.specs.Sizes.{Sizes}
use Rattle.bd_roll.specs.declared.rows.ActiveCategory.{ActiveCategory}
use Rattle.bd_roll.specs.declared.rows.ClosedVolume.{ClosedVolume}
use Rattle.bd_roll.specs.declared.rows.VersionRow.{VersionRow}
use Rattle.bd_roll.specs.Catalogue.{Catalogue, OpenEntry, VersionEntry, VolumeEntry, all_extents, retained_in}
use Rattle.bd_roll.specs.Rules.{all_differ, extents_hold, obeys}
use Rattle.bd_roll.specs.Shown.{open_entry, version_entry, volume_entry}
use Rattle.bd_roll.specs.Splitting.{after_expire, expired}
use Rattle.bd_roll.proofs.GivenUp.{flat_map-last}
use Rattle.bd_roll.proofs.RuleLemmas.{NumbersHold, count_of, numbers_of, rules_of}
use Rattle.bd_roll.proofs.OwnedByStep.{own-drop}

-- one owner more, of several
pub one_more : {X : Type 0} (f : X → List ℕ) (xs : List X) (i : ℕ) (x : X) → i < length xs → x ≡ get_or xs i x → length (flat_map f (take (i + 1) xs)) ≡ length (flat_map f (take i xs)) + length (f x)
one_more f xs i x lt is =
    ap (λ l. length (flat_map f l)) (take_more xs i x lt ∙ ap (λ y. take i xs ++ y ∷ []) (sym is))
    ∙ ap (λ (ns : List ℕ). length ns) (flat_map-last f (take i xs) x)
    ∙ length-append (flat_map f (take i xs)) (f x)

-- the first of them have no more than all
pub part_le : {X : Type 0} (f : X → List ℕ) (i : ℕ) (xs : List X) → length (flat_map f (take i xs)) ≤ length (flat_map f xs)
part_le f zero xs = omega arith
part_le f (suc i) [] = omega arith
part_le f (suc i) (x ∷ xs) = omega (arith, part_le f i xs, length-append (f x) (flat_map f (take i xs)), length-append (f x) (flat_map f xs))

-- the first owner's
first_extents : {X Y : Type 0} (f : Y → List ℕ) (entry : X → Y) (xs : List X) (x : X) (ys : List Y) → map entry xs ≡ ys → 1 ≤ length xs → x ≡ get_or xs 0 x → length (flat_map f (take 1 ys)) ≡ length (f (entry x))
first_extents f entry [] x ys same some is = absurd (omega (arith, some))
first_extents f entry (z ∷ zs) x ys same some is =
    ap (λ l. length (flat_map f (take 1 l))) (sym same) ∙ ap (λ (ns : List ℕ). length ns) (append-nil (f (entry z))) ∙ ap (λ y. length (f (entry y))) (sym is)

-- the owners of a list of none or one
at_most_one : {Y : Type 0} (f : Y → List ℕ) (ys : List Y) → length ys ≤ 1 → flat_map f (take 1 ys) ≡ flat_map f ys
at_most_one f [] few = λ k. []
at_most_one f (y ∷ []) few = λ k. f y ++ []
at_most_one f (y ∷ z ∷ ys) few = absurd (omega (arith, few))

-- no more go than there are
pub few_expired : (s : Sizes) (c : Catalogue) → s.extents ≤ 65536 → IsTrue (obeys s c) → length (expired c) < 2 ^ 64
few_expired s c bounded rules =
    let extents : extents_hold s c ≡ true = (rules_of s c rules).extents in
    let below : Bool = list_all (λ n. nat_lt n s.extents) (all_extents c) in
    let all : length (all_extents c) ≤ s.extents = count_of s.extents (all_extents c) (left_and below (all_differ (all_extents c)) extents) (right_and below (all_differ (all_extents c)) extents) in
    let gone : length (all_extents (after_expire c) ++ expired c) ≡ length (all_extents c ++ []) = length_permutation (all_extents c ++ []) (all_extents (after_expire c) ++ expired c) (own-drop 1 c) in
    omega (arith, bounded, all, gone, length-append (all_extents (after_expire c)) (expired c), length-append (all_extents c) [])

module _ (s : Sizes) (c : Catalogue) (rules : IsTrue (obeys s c)) (some : 1 ≤ retained_in c) (rows : List VersionRow) (v : VersionRow) (are : map version_entry rows ≡ c.versions) (is : v ≡ get_or rows 0 v) where
  abbrev versions : List ℕ
  versions = flat_map (λ (e : VersionEntry). e.extents) c.versions

  abbrev volumes : List ℕ
  volumes = flat_map (λ (e : VolumeEntry). e.extents) c.volumes

  abbrev categories : List ℕ
  categories = flat_map (λ (e : OpenEntry). e.extents) c.actives

  numbers : NumbersHold s c
  numbers = numbers_of s c (rules_of s c rules).numbers

  recipe : length (flat_map (λ (e : VersionEntry). e.extents) (take 1 c.versions)) ≡ length v.recipe.numbers
  recipe = first_extents (λ (e : VersionEntry). e.extents) version_entry rows v c.versions are (omega (arith, some, ap (λ (l : List VersionEntry). length l) are, length-map rows version_entry)) is

  -- of several versions the oldest has its recipe and its closed volume
  pub with_volume : (closed : List ClosedVolume) (w : ClosedVolume) → map volume_entry closed ≡ c.volumes → 1 ≤ length closed → w ≡ get_or closed 0 w → length v.recipe.numbers + length w.extents.numbers ≡ length (expired c)
  with_volume closed w are_closed one is_closed =
      let two : 2 ≤ retained_in c = omega (arith, numbers.volumes, one, ap (λ (l : List VolumeEntry). length l) are_closed, length-map closed volume_entry) in
      let volume : length (flat_map (λ (e : VolumeEntry). e.extents) (take 1 c.volumes)) ≡ length w.extents.numbers = first_extents (λ (e : VolumeEntry). e.extents) volume_entry closed w c.volumes are_closed one is_closed in
      let gone : length (expired c) ≡ length (flat_map (λ (e : VersionEntry). e.extents) (take 1 c.versions) ++ flat_map (λ (e : VolumeEntry). e.extents) (take 1 c.volumes)) =
      ap (λ t. length (cond t (all_extents c) (flat_map (λ (e : VersionEntry). e.extents) (take 1 c.versions) ++ flat_map (λ (e : VolumeEntry). e.extents) (take 1 c.volumes)))) (lt-leb (retained_in c) 1 two) in
      omega (arith, gone, recipe, volume, length-append (flat_map (λ (e : VersionEntry). e.extents) (take 1 c.versions)) (flat_map (λ (e : VolumeEntry). e.extents) (take 1 c.volumes)))

  -- the only one has its recipe, and everything else goes with it
  pub with_categories : (owners : List ActiveCategory) → map open_entry owners ≡ c.actives → length c.volumes ≡ 0 → length v.recipe.numbers + length (flat_map (λ (a : ActiveCategory). a.extents.numbers) owners) ≡ length (expired c)
  with_categories owners are_open none =
      let one : retained_in c ≡ 1 = omega (arith, numbers.volumes, none, some) in
      let all : length (expired c) ≡ length (all_extents c) =
      ap (λ t. length (cond t (all_extents c) (flat_map (λ (e : VersionEntry). e.extents) (take 1 c.versions) ++ flat_map (λ (e : VolumeEntry). e.extents) (take 1 c.volumes)))) (le-leb (retained_in c) 1 (omega (arith, one))) in
      let no_volume : length volumes ≡ 0 = nothing c.volumes none in
      let here : length (flat_map (λ (a : ActiveCategory). a.extents.numbers) owners) ≡ length categories =
      ap (λ (ns : List ℕ). length ns) (sym (flat_map-map (λ (e : OpenEntry). e.extents) open_entry owners)) ∙ ap (λ l. length (flat_map (λ (e : OpenEntry). e.extents) l)) are_open in
      omega (arith, all, here, recipe, no_volume, ap (λ (ns : List ℕ). length ns) (at_most_one (λ (e : VersionEntry). e.extents) c.versions (omega (arith, one))), length-append (versions ++ volumes) categories, length-append versions volumes)
    where
      nothing : (es : List VolumeEntry) → length es ≡ 0 → length (flat_map (λ (e : VolumeEntry). e.extents) es) ≡ 0
      nothing [] none = omega arith
      nothing (e ∷ es) none = absurd (omega (arith, none))
