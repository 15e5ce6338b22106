-- Giving up what is owned, one list after the other.
use Rattle.std.proofs.Common.{◌≡◌, ℕ, zero, suc, ◌+◌, ◌<◌, ◌≤◌, true, false, cond, nat_le, length-append, List, [], ◌∷◌, ◌++◌, length, map, flat_map, take, drop, set, get_or, refl, sym, ◌∙◌, ap, arith, subst, append_assoc}
use Rattle.std.specs.Prelude.{All, Contains, nat_eq}
use Rattle.std.specs.List.{IsDistinct}
use Rattle.std.proofs.lemmas.List.{append-nil, nil_from_length}
use Rattle.std.proofs.lemmas.Bool.{lt-leb}
use Rattle.std.proofs.lemmas.List.{length-map}
use Rattle.std.proofs.lemmas.List.Concat.{flat_map-append}
use Rattle.std.proofs.lemmas.List.Folds.{flat_map-map}
use Rattle.std.proofs.lemmas.List.Sums.{sum_by-cons}
use Rattle.std.proofs.lemmas.List.Elements.{All-contains, All-contains_itself, All-weaker, Contains-append_right}
use Rattle.bd_space.specs.Allotment.{Allotment, IsTaken, Marks, TakenExactly, held_count}
use Rattle.bd_space.specs.declared.space.Use.TheVariants.{Free}
use Rattle.bd_space.proofs.Distinct.{distinct_right}
use Rattle.bd_space.proofs.Exact.{TakenExactly-left}
use Rattle.bd_model.specs.Laws.{both_rows}
use Rattle.bd_model.specs.declared.layout.CategoryRow.{CategoryRow}
use Rattle.bd_roll.specs.declared.contents.Contents.{Contents}
use Rattle.bd_roll.specs.declared.rows.ActiveCategory.{ActiveCategory}
use Rattle.bd_roll.specs.declared.rows.ClosedVolume.{ClosedVolume}
use Rattle.bd_roll.specs.declared.rows.VersionRow.{VersionRow}
use Rattle.bd_roll.specs.Catalogue.{Catalogue, OpenEntry, VersionEntry, VolumeEntry, all_extents}
use Rattle.bd_roll.specs.Giving.{AreOwned, GivesUp, SumsFit}
use Rattle.bd_roll.specs.Capacity.{last_room}
use Rattle.bd_roll.specs.Shown.{catalogue_of_contents, open_entry, version_entry, volume_entry}
use Rattle.bd_roll.specs.Splitting.{begun_from, expired, last_grown}

pub owned_taken : (space : Allotment) (numbers : List ℕ) → AreOwned space numbers → All (IsTaken space) numbers
owned_taken space numbers owned =
    All-weaker (Contains numbers) (IsTaken space)
    (λ n has. All-contains (IsTaken space) (owned.others ++ numbers) n owned.exactly.taken (Contains-append_right owned.others numbers n has))
    numbers (All-contains_itself numbers)

pub owned_once : (space : Allotment) (numbers : List ℕ) → AreOwned space numbers → IsDistinct nat_eq numbers
owned_once space numbers owned = distinct_right owned.others numbers owned.exactly.once

-- a list that was given back
pub gives_list : (numbers : List ℕ) (old new : Allotment) → Marks numbers Free old new → held_count new ≡ held_count old → GivesUp numbers old new
gives_list numbers old new marks held = record {
  owners = λ others exactly. TakenExactly-left old new others numbers exactly marks;
  extents = marks.size;
  held = held;
}

pub gives_none : (space : Allotment) → GivesUp [] space space
gives_none space = record { owners = λ others exactly. subst (TakenExactly space) (append-nil others) exactly; extents = refl; held = refl }

-- the second of two lists first
pub gives_both : {xs ys : List ℕ} {a b c : Allotment} → GivesUp ys a b → GivesUp xs b c → GivesUp (xs ++ ys) a c
gives_both {xs} {ys} {a} {b} {c} first second = record {
  owners = λ others exactly. second.owners others (first.owners (others ++ xs) (subst (TakenExactly a) (sym (append_assoc others xs ys)) exactly));
  extents = second.extents ∙ first.extents;
  held = second.held ∙ first.held;
}

-- before, and between
pub owned_second : (space : Allotment) (xs ys : List ℕ) → AreOwned space (xs ++ ys) → AreOwned space ys
owned_second space xs ys owned = record { others = owned.others ++ xs; exactly = subst (TakenExactly space) (sym (append_assoc owned.others xs ys)) owned.exactly }

pub owned_first : {old new : Allotment} (xs : List ℕ) {ys : List ℕ} → AreOwned old (xs ++ ys) → GivesUp ys old new → AreOwned new xs
owned_first {old} {new} xs {ys} owned gives = record {
  others = owned.others;
  exactly = gives.owners (owned.others ++ xs) (subst (TakenExactly old) (sym (append_assoc owned.others xs ys)) owned.exactly);
}

-- the last of several owners
pub flat_map-last : {X : Type 0} (f : X → List ℕ) (xs : List X) (x : X) → flat_map f (xs ++ x ∷ []) ≡ flat_map f xs ++ f x
flat_map-last f xs x = flat_map-append f xs (x ∷ []) ∙ ap (λ (ns : List ℕ). flat_map f xs ++ ns) (append-nil (f x))

-- ---- the first two rows, as one

pub joined_fit : (xs : List CategoryRow) (one two : CategoryRow) → 1 < length xs → one ≡ get_or xs 0 one → two ≡ get_or xs 1 two → SumsFit xs → SumsFit (set (drop 1 xs) 0 (both_rows one two))
joined_fit [] one two more first second fit = absurd (omega (arith, more))
joined_fit (x ∷ []) one two more first second fit = absurd (omega (arith, more))
joined_fit (x ∷ y ∷ xs) one two more first second fit =
    let chunks : CategoryRow → ℕ = λ row. row.chunks in
    let bytes : CategoryRow → ℕ = λ row. row.bytes in
    record {
      chunks = omega (arith, fit.chunks, sum_by-cons chunks (both_rows one two) xs, sum_by-cons chunks x (y ∷ xs), sum_by-cons chunks y xs, ap chunks first, ap chunks second);
      bytes = omega (arith, fit.bytes, sum_by-cons bytes (both_rows one two) xs, sum_by-cons bytes x (y ∷ xs), sum_by-cons bytes y xs, ap bytes first, ap bytes second);
    }

pub joined_fewer : (xs : List CategoryRow) (both : CategoryRow) → 1 < length xs → length (set (drop 1 xs) 0 both) < length xs
joined_fewer [] both more = absurd (omega (arith, more))
joined_fewer (x ∷ []) both more = absurd (omega (arith, more))
joined_fewer (x ∷ y ∷ xs) both more = omega arith

-- ---- volumes, one after the other

same_head : {X : Type 0} {x y : X} {xs ys : List X} → x ∷ xs ≡ y ∷ ys → x ≡ y
same_head e = cc e

pub same_tail : {X : Type 0} {x y : X} {xs ys : List X} → x ∷ xs ≡ y ∷ ys → xs ≡ ys
same_tail e = cc e

-- one volume more has its rows from the oldest version on
pub begun_more : (oldest i : ℕ) (xs ys : List ClosedVolume) (v : ClosedVolume) → i < length xs → i < length ys →
    map volume_entry (take i xs) ≡ map (begun_from oldest) (map volume_entry (take i ys)) → drop i xs ≡ drop i ys →
    ((x : ClosedVolume) → x ≡ get_or xs i x → volume_entry v ≡ begun_from oldest (volume_entry x)) →
    (map volume_entry (take (suc i) (set xs i v)) ≡ map (begun_from oldest) (map volume_entry (take (suc i) ys))) × (drop (suc i) (set xs i v) ≡ drop (suc i) ys)
begun_more oldest i [] ys v lt below begun rest is = absurd (omega (arith, lt))
begun_more oldest i (x ∷ xs) [] v lt below begun rest is = absurd (omega (arith, below))
begun_more oldest zero (x ∷ xs) (y ∷ ys) v lt below begun rest is =
    (ap (λ e. e ∷ []) (is x refl ∙ ap (λ w. begun_from oldest (volume_entry w)) (same_head rest)), same_tail rest)
begun_more oldest (suc i) (x ∷ xs) (y ∷ ys) v lt below begun rest is =
    let more = begun_more oldest i xs ys v (omega arith) (omega arith) (same_tail begun) rest (λ w at. is w at) in
    ((λ k. same_head begun k ∷ more.0 k), more.1)

-- ---- the oldest version, and the only one

first_of : {X Y : Type 0} (extents : Y → List ℕ) (entry : X → Y) (xs : List X) (x : X) → 1 ≤ length xs → x ≡ get_or xs 0 x → flat_map extents (take 1 (map entry xs)) ≡ extents (entry x)
first_of extents entry [] x some is = absurd (omega (arith, some))
first_of extents entry (y ∷ ys) x some is = append-nil (extents (entry y)) ∙ ap (λ z. extents (entry z)) (sym is)

-- of several versions the oldest gives up its recipe's extents and its closed volume's
pub expired_two : (c : Contents) (v : VersionRow) (w : ClosedVolume) → 2 ≤ length c.versions.items → 1 ≤ length c.volumes.items → v ≡ get_or c.versions.items 0 v → w ≡ get_or c.volumes.items 0 w →
    expired (catalogue_of_contents c) ≡ v.recipe.numbers ++ w.extents.numbers
expired_two c v w two some is_version is_volume =
    let d : Catalogue = catalogue_of_contents c in
    let several : nat_le (length (map version_entry c.versions.items)) 1 ≡ false = lt-leb (length (map version_entry c.versions.items)) 1 (omega (arith, length-map c.versions.items version_entry, two)) in
    ap (λ t. cond t (all_extents d) (flat_map (λ (e : VersionEntry). e.extents) (take 1 d.versions) ++ flat_map (λ (e : VolumeEntry). e.extents) (take 1 d.volumes))) several
    ∙ (λ k. first_of (λ (e : VersionEntry). e.extents) version_entry c.versions.items v (omega (arith, two)) is_version k ++ first_of (λ (e : VolumeEntry). e.extents) volume_entry c.volumes.items w some is_volume k)

-- the only version is all that is owned beside the open categories
pub owned_alone : (c : Contents) (rest : List VersionRow) (v : VersionRow) → length c.versions.items ≡ 1 → c.volumes.items ≡ [] → c.versions.items ≡ rest ++ v ∷ [] →
    all_extents (catalogue_of_contents c) ≡ v.recipe.numbers ++ flat_map (λ (a : ActiveCategory). a.extents.numbers) c.actives.items
owned_alone c rest v one none is =
    let empty : rest ≡ [] = nil_from_length rest (omega (arith, ap (λ (xs : List VersionRow). length xs) is, length-append rest (v ∷ []), one)) in
    let versions : flat_map (λ (e : VersionEntry). e.extents) (map version_entry c.versions.items) ≡ v.recipe.numbers =
    ap (λ xs. flat_map (λ (e : VersionEntry). e.extents) (map version_entry xs)) (is ∙ ap (λ xs. xs ++ v ∷ []) empty) ∙ append-nil v.recipe.numbers in
    let volumes : flat_map (λ (e : VolumeEntry). e.extents) (map volume_entry c.volumes.items) ≡ [] = ap (λ xs. flat_map (λ (e : VolumeEntry). e.extents) (map volume_entry xs)) none in
    (λ k. (versions k ++ volumes k) ++ flat_map-map (λ (e : OpenEntry). e.extents) open_entry c.actives.items k)
    ∙ ap (λ ns. ns ++ flat_map (λ (a : ActiveCategory). a.extents.numbers) c.actives.items) (append-nil v.recipe.numbers)

-- ---- the last volume

pub last_room-at : (room : ClosedVolume → ℕ) (xs : List ClosedVolume) (k : ℕ) (x : ClosedVolume) → k + 1 ≡ length xs → x ≡ get_or xs k x → last_room room xs ≡ room x
last_room-at room [] k x last is = absurd (omega (arith, last))
last_room-at room (y ∷ []) zero x last is = ap room (sym is)
last_room-at room (y ∷ []) (suc k) x last is = absurd (omega (arith, last))
last_room-at room (y ∷ z ∷ zs) zero x last is = absurd (omega (arith, last))
last_room-at room (y ∷ z ∷ zs) (suc k) x last is = last_room-at room (z ∷ zs) k x (omega (arith, last)) is

pub last_grown-set : (rows : List CategoryRow) (added : List ℕ) (xs : List ClosedVolume) (k : ℕ) (v x : ClosedVolume) → k + 1 ≡ length xs → x ≡ get_or xs k x →
    volume_entry v ≡ record { rows = rows; extents = x.extents.numbers ++ added } → map volume_entry (set xs k v) ≡ last_grown (λ _. rows) added (map volume_entry xs)
last_grown-set rows added [] k v x last is shown = absurd (omega (arith, last))
last_grown-set rows added (y ∷ []) zero v x last is shown =
    ap (λ e. e ∷ []) (shown ∙ ap (λ (w : ClosedVolume). record { rows = rows; extents = w.extents.numbers ++ added }) is)
last_grown-set rows added (y ∷ []) (suc k) v x last is shown = absurd (omega (arith, last))
last_grown-set rows added (y ∷ z ∷ zs) zero v x last is shown = absurd (omega (arith, last))
last_grown-set rows added (y ∷ z ∷ zs) (suc k) v x last is shown =
    ap (λ es. volume_entry y ∷ es) (last_grown-set rows added (z ∷ zs) k v x (omega (arith, last)) is shown)

-- where nothing could be taken out of a list, it is empty
pub none_left : {A : Type 0} (xs : List A) → (1 ≤ length xs → false ≡ true) → xs ≡ []
none_left [] some = refl
none_left (x ∷ xs) some = let no = some (omega arith) in cc
