-- Marks of the numbers that were seen.
use Rattle.std.proofs.Common.{◌≡◌, ◌≢◌, ℕ, ◌+◌, ◌<◌, ◌≤◌, Bool, true, false, not, ◌&&◌, ◌||◌, cond, ⊎_elim, List, [], ◌∷◌, ◌++◌, length, drop, set, get_or, replicate, Some, None, is_some, map, nat_eq, nat_lt, refl, sym, ◌∙◌, ap, arith}
use Rattle.std.specs.List.{flat_map, list_all, list_any}
use Rattle.std.proofs.lemmas.List.{at_drop_more, get_or-set_same, get_or-set_other, get_or_past, get_or-replicate, length-set, length-replicate}
use Rattle.std.proofs.lemmas.List.Folds.{flat_map-map}
use Rattle.std.proofs.lemmas.Bool.{eqb-true, eqb-false, ltb-true, ltb-false, cases_lt}
use Rattle.bd_model.proofs.ListLemmas.{and-true, and-false, and_assoc}
use Rattle.bd_roll.specs.Checked.{marked}
use Rattle.bd_roll.specs.Rules.{all_differ}

pub marked_refused : (seen : List Bool) (xs ys : List ℕ) → marked seen xs ≡ None → marked seen (xs ++ ys) ≡ None
marked_refused seen [] ys none = cc
marked_refused seen (x ∷ xs) ys none =
    elim (get_or seen x true) as (λ b. cond b None (marked (set seen x true) xs) ≡ None → cond b None (marked (set seen x true) (xs ++ ys)) ≡ None) [
      | true ↦ λ _. refl
      | false ↦ λ rest. marked_refused (set seen x true) xs ys rest
    ] none

pub marked_passed : (seen next : List Bool) (xs ys : List ℕ) → marked seen xs ≡ Some next → marked seen (xs ++ ys) ≡ marked next ys
marked_passed seen next [] ys some = let same : seen ≡ next = cc in ap (λ (s : List Bool). marked s ys) same
marked_passed seen next (x ∷ xs) ys some =
    elim (get_or seen x true) as (λ b. cond b None (marked (set seen x true) xs) ≡ Some next → cond b None (marked (set seen x true) (xs ++ ys)) ≡ marked next ys) [
      | true ↦ λ no. cc
      | false ↦ λ rest. marked_passed (set seen x true) next xs ys rest
    ] some

-- a step of a loop over owners
module _ {X : Type 0} (f : X → List ℕ) (xs : List X) (i : ℕ) (x : X) (is : x ≡ get_or xs i x) (more : i < length xs) (seen next : List Bool) (ns : List ℕ) (same : ns ≡ f x) where
  abbrev behind : List ℕ
  behind = flat_map f (drop (i + 1) xs)

  here : marked seen (flat_map f (drop i xs)) ≡ marked seen (ns ++ behind)
  here =
      at_drop_more (λ (ys : List X). marked seen (flat_map f ys)) xs i x more
      ∙ ap (λ (y : X). marked seen (f y ++ behind)) (sym is)
      ∙ ap (λ (ms : List ℕ). marked seen (ms ++ behind)) (sym same)

  pub owner_refused : marked seen ns ≡ None → marked seen (flat_map f (drop i xs)) ≡ None
  owner_refused none = here ∙ marked_refused seen ns behind none

  pub owner_passed : marked seen ns ≡ Some next → marked next (flat_map f (drop (i + 1) xs)) ≡ marked seen (flat_map f (drop i xs))
  owner_passed some = sym (here ∙ marked_passed seen next ns behind some)

-- a number is free where it has a mark and was not seen
abbrev free : List Bool → ℕ → Bool
free seen n = not (get_or seen n true)

set_seen : (seen : List Bool) (n : ℕ) → get_or (set seen n true) n true ≡ true
set_seen seen n = ⊎_elim (λ within. get_or-set_same seen n true true within) (λ past. get_or_past (set seen n true) n true (omega (arith, length-set {A = Bool}))) (cases_lt n (length seen))

free-set : (seen : List Bool) (n m : ℕ) → free (set seen n true) m ≡ (free seen m && not (nat_eq n m))
free-set seen n m =
    elim (nat_eq n m) as (λ b. nat_eq n m ≡ b → free (set seen n true) m ≡ (free seen m && not b)) [
      | true ↦ λ e. let same : n ≡ m = eqb-true n m e in ap (λ (k : ℕ). not (get_or (set seen n true) k true)) (sym same) ∙ ap not (set_seen seen n) ∙ sym (and-false (free seen m))
      | false ↦ λ e. let other : m ≢ n = λ same. eqb-false n m e (sym same) in ap not (get_or-set_other seen n m true true other) ∙ sym (and-true (free seen m))
    ] refl

regroup : (a b c d : Bool) → ((a && not b) && (c && not d)) ≡ ((a && c) && not (b || d))
regroup false b c d = refl
regroup true true true d = refl
regroup true true false d = refl
regroup true false c d = refl

list_all-free : (seen : List Bool) (n : ℕ) (ns : List ℕ) → list_all (free (set seen n true)) ns ≡ (list_all (free seen) ns && not (list_any (nat_eq n) ns))
list_all-free seen n [] = refl
list_all-free seen n (m ∷ ms) =
    ap (λ (b : Bool). b && list_all (free (set seen n true)) ms) (free-set seen n m)
    ∙ ap (λ (b : Bool). (free seen m && not (nat_eq n m)) && b) (list_all-free seen n ms)
    ∙ regroup (free seen m) (nat_eq n m) (list_all (free seen) ms) (list_any (nat_eq n) ms)

is_some-marked : (seen : List Bool) (ns : List ℕ) → is_some (marked seen ns) ≡ (list_all (free seen) ns && all_differ ns)
is_some-marked seen [] = refl
is_some-marked seen (n ∷ ns) =
    elim (get_or seen n true) as (λ b. is_some (cond b None (marked (set seen n true) ns)) ≡ ((not b && list_all (free seen) ns) && (not (list_any (nat_eq n) ns) && all_differ ns))) [
      | true ↦ refl
      | false ↦ is_some-marked (set seen n true) ns ∙ ap (λ (b : Bool). b && all_differ ns) (list_all-free seen n ns)
          ∙ and_assoc (list_all (free seen) ns) (not (list_any (nat_eq n) ns)) (all_differ ns)
    ]

free-fresh : (top n : ℕ) → free (replicate top false) n ≡ nat_lt n top
free-fresh top n =
    elim (nat_lt n top) as (λ b. nat_lt n top ≡ b → free (replicate top false) n ≡ b) [
      | true ↦ λ e. let within : n < top = ltb-true n top e in ap not (get_or-replicate top n false true within)
      | false ↦ λ e. let past : top ≤ n = ltb-false n top e in ap not (get_or_past (replicate top false) n true (omega (arith, length-replicate top false)))
    ] refl

list_all-fresh : (top : ℕ) (ns : List ℕ) → list_all (free (replicate top false)) ns ≡ list_all (λ n. nat_lt n top) ns
list_all-fresh top [] = refl
list_all-fresh top (n ∷ ns) = ap (λ (b : Bool). b && list_all (free (replicate top false)) ns) (free-fresh top n) ∙ ap (λ (b : Bool). nat_lt n top && b) (list_all-fresh top ns)

-- from no mark on, the numbers that can all be marked are those below the size that differ
pub marked_fresh : (top : ℕ) (ns : List ℕ) → is_some (marked (replicate top false) ns) ≡ (list_all (λ n. nat_lt n top) ns && all_differ ns)
marked_fresh top ns = is_some-marked (replicate top false) ns ∙ ap (λ (b : Bool). b && all_differ ns) (list_all-fresh top ns)

-- owners in memory have the numbers of the entries that they show
pub shown_numbers : {X Y : Type 0} (f : Y → List ℕ) (entry : X → Y) (xs : List X) (ys : List Y) → map entry xs ≡ ys → flat_map f ys ≡ flat_map (λ x. f (entry x)) xs
shown_numbers f entry xs ys shown = ap (flat_map f) (sym shown) ∙ flat_map-map f entry xs

-- the numbers of three kinds of owners, in turn
module _ (seen : List Bool) (xs ys zs : List ℕ) where
  pub first_refused : marked seen xs ≡ None → false ≡ is_some (marked seen (xs ++ ys ++ zs))
  first_refused none = sym (ap is_some (marked_refused seen (xs ++ ys) zs (marked_refused seen xs ys none)))

  pub second_refused : (next : List Bool) → marked seen xs ≡ Some next → marked next ys ≡ None → false ≡ is_some (marked seen (xs ++ ys ++ zs))
  second_refused next some none = sym (ap is_some (marked_refused seen (xs ++ ys) zs (marked_passed seen next xs ys some ∙ none)))

  pub third_decides : (next last : List Bool) → marked seen xs ≡ Some next → marked next ys ≡ Some last → is_some (marked last zs) ≡ is_some (marked seen (xs ++ ys ++ zs))
  third_decides next last some more = sym (ap is_some (marked_passed seen last (xs ++ ys) zs (marked_passed seen next xs ys some ∙ more)))

pub is_some-cond : {X : Type 0} (b : Bool) (x : X) → is_some (cond b (Some x) None) ≡ b
is_some-cond true x = refl
is_some-cond false x = refl
