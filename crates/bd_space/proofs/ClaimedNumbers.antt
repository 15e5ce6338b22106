-- Numbers of owners that are claimed one after the other.
use Rattle.std.proofs.Common.{◌≡◌, ℕ, ◌+◌, ◌<◌, ◌≤◌, List, [], ◌++◌, length, drop, get_or, refl, sym, ◌∙◌, ap, subst, All, nat_eq}
use Rattle.std.specs.List.{IsDistinct, flat_map}
use Rattle.std.proofs.lemmas.List.{at_drop_more, drop_all}
use Rattle.bd_space.specs.Allotment.{Allotment, IsFree, Marks, held_count}
use Rattle.bd_space.specs.declared.space.Use.TheVariants.{Taken}
use Rattle.bd_space.proofs.Distinct.{distinct_left, distinct_right}
use Rattle.bd_space.proofs.InTurn.{marks_none, marks_both, free_behind, free_front}

-- of all numbers these are still to claim
pub record IsClaiming (rest all : List ℕ) (old now : Allotment) : Type 0 where
  pub free : All (IsFree now) rest
  pub distinct : IsDistinct nat_eq rest
  pub taken : (new : Allotment) → Marks rest Taken now new → Marks all Taken old new
  pub held : held_count now ≡ held_count old

pub claiming_all : (all : List ℕ) (old : Allotment) → All (IsFree old) all → IsDistinct nat_eq all → IsClaiming all all old old
claiming_all all old free distinct = record { free = free; distinct = distinct; taken = λ new marks. marks; held = refl }

module _ {X : Type 0} (f : X → List ℕ) (xs : List X) (all : List ℕ) (old : Allotment) where
  -- the next owner's numbers stand first
  module _ (i : ℕ) (x : X) (is : x ≡ get_or xs i x) (more : i < length xs) (ns : List ℕ) (same : ns ≡ f x) (now : Allotment) (claiming : IsClaiming (flat_map f (drop i xs)) all old now) where
    abbrev behind : List ℕ
    behind = flat_map f (drop (i + 1) xs)

    here : flat_map f (drop i xs) ≡ ns ++ behind
    here = at_drop_more (λ (ys : List X). flat_map f ys) xs i x more ∙ ap (λ (y : X). f y ++ behind) (sym is) ∙ ap (λ (ms : List ℕ). ms ++ behind) (sym same)

    pub next_free : All (IsFree now) ns
    next_free = free_front now ns behind (subst (All (IsFree now)) here claiming.free)

    pub next_distinct : IsDistinct nat_eq ns
    next_distinct = distinct_left ns behind (subst (IsDistinct nat_eq) here claiming.distinct)

    pub next_claimed : (new : Allotment) → Marks ns Taken now new → held_count new ≡ held_count now → IsClaiming behind all old new
    next_claimed new marks held =
        let free : All (IsFree now) (ns ++ behind) = subst (All (IsFree now)) here claiming.free in
        let distinct : IsDistinct nat_eq (ns ++ behind) = subst (IsDistinct nat_eq) here claiming.distinct in
        record {
          free = free_behind Taken ns behind now new free distinct marks;
          distinct = distinct_right ns behind distinct;
          taken = λ last rest. claiming.taken last (subst (λ ms. Marks ms Taken now last) (sym here) (marks_both Taken ns behind now new last marks rest));
          held = held ∙ claiming.held;
        }

  -- once none is left
  pub all_claimed : (i : ℕ) (now : Allotment) → length xs ≤ i → IsClaiming (flat_map f (drop i xs)) all old now → Marks all Taken old now
  all_claimed i now past claiming =
      let none : flat_map f (drop i xs) ≡ [] = ap (flat_map f) (drop_all i xs past) in
      claiming.taken now (subst (λ ns. Marks ns Taken now now) (sym none) (marks_none Taken now))
