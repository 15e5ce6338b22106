-- Which extents an expiry frees.
use Rattle.std.proofs.Common.{◌≡◌, ◌∙◌, ℕ, ◌+◌, ◌-◌, ◌≤◌, true, false, cond, List, [], ◌∷◌, ◌++◌, map, take, get_or, inl, inr, refl, sym, ap, subst, arith}
use Rattle.std.specs.Prelude.{IsPermutation, nat_le}
use Rattle.std.specs.List.{flat_map}
use Rattle.std.proofs.lemmas.Bool.{leb-false, leb-true}
use Rattle.std.proofs.lemmas.List.{append-nil, length-drop}
use Rattle.std.proofs.lemmas.List.Sorted.{IsPermutation-append_comm, IsPermutation-append_left, IsPermutation-trans}
use Rattle.bd_model.specs.Sizes.{Sizes}
use Rattle.bd_roll.specs.Catalogue.{Catalogue, VersionEntry, VolumeEntry, all_extents, emptied_catalogue, oldest_in, recipe_extents, retained_in, volume_extents}
use Rattle.bd_roll.specs.Rules.{obeys}
use Rattle.bd_roll.specs.Splitting.{after_expire, fewer_in}
use Rattle.bd_roll.proofs.RuleLemmas.{NumbersHold, numbers_of, rules_of}
use Rattle.bd_roll.proofs.OwnedByStep.{own-drop}
use Rattle.bd_catalog.proofs.StandingExpired.{later_recipe, later_volume}
use Rattle.bd_session.specs.Drops.{Drops, DropsOldest}

-- what the first owner has
front : {X : Type 0} (f : X → List ℕ) (xs : List X) → flat_map f (take 1 xs) ≡ get_or (map f xs) 0 []
front f [] = refl
front f (x ∷ xs) = append-nil (f x)

module _ (s : Sizes) (c : Catalogue) (rules : obeys s c ≡ true) where
  abbrev nothing : Catalogue
  nothing = emptied_catalogue c

  abbrev rest : Catalogue
  rest = fewer_in 1 c

  abbrev version : VersionEntry → List ℕ
  version e = e.extents

  abbrev volume : VolumeEntry → List ℕ
  volume e = e.extents

  numbers : NumbersHold s c
  numbers = numbers_of s c (rules_of s c rules).numbers

  -- with others left the oldest goes
  module _ (two : 2 ≤ retained_in c) (more : nat_le (retained_in c) 1 ≡ false) where
    next : oldest_in rest ≡ oldest_in c + 1
    next = omega (arith, length-drop 1 c.versions, two, numbers.base)

    first : oldest_in c - oldest_in c ≡ 0
    first = omega arith

    freed : IsPermutation (all_extents c) (volume_extents c (oldest_in c) ++ recipe_extents c (oldest_in c) ++ all_extents rest)
    freed =
        let gone : List ℕ = flat_map version (take 1 c.versions) ++ flat_map volume (take 1 c.volumes) in
        let own : IsPermutation (all_extents c ++ []) (all_extents rest ++ gone) =
        subst (λ t. IsPermutation (all_extents c ++ []) (all_extents (cond t nothing rest) ++ cond t (all_extents c) gone)) more (own-drop 1 c) in
        let recipe : flat_map version (take 1 c.versions) ≡ recipe_extents c (oldest_in c) = front version c.versions ∙ ap (λ n. get_or (map version c.versions) n []) (sym first) in
        let closed : flat_map volume (take 1 c.volumes) ≡ volume_extents c (oldest_in c) = front volume c.volumes ∙ ap (λ n. get_or (map volume c.volumes) n []) (sym first) in
        let same : flat_map volume (take 1 c.volumes) ++ flat_map version (take 1 c.versions) ++ all_extents rest ≡ volume_extents c (oldest_in c) ++ recipe_extents c (oldest_in c) ++ all_extents rest =
        (λ k. closed k ++ recipe k ++ all_extents rest) in
        subst (IsPermutation (all_extents c)) same
        (IsPermutation-trans _ _ _ (subst (λ xs. IsPermutation xs (all_extents rest ++ gone)) (append-nil (all_extents c)) own)
        (IsPermutation-trans _ _ _ (IsPermutation-append_comm (all_extents rest) gone)
        (IsPermutation-append_left (all_extents rest) _ _ (IsPermutation-append_comm (flat_map version (take 1 c.versions)) (flat_map volume (take 1 c.volumes))))))

    drops : DropsOldest c rest
    drops = record { recipes = λ v above below. later_recipe c 1 next v (omega (arith, above)); volumes = λ j above below. later_volume c 1 next j (omega (arith, above)); actives = λ i. refl; freed = freed }

  pub drops_oldest : 1 ≤ retained_in c → Drops (retained_in c) c (after_expire c)
  drops_oldest some =
      elim (nat_le (retained_in c) 1) as (λ t. nat_le (retained_in c) 1 ≡ t → Drops (retained_in c) c (cond t nothing rest)) [
        | true ↦ λ e. (let one : retained_in c ≡ 1 = omega (arith, some, leb-true (retained_in c) 1 e) in inl (one, refl))
        | false ↦ λ e. (let two : 2 ≤ retained_in c = omega (arith, leb-false (retained_in c) 1 e) in inr (two, drops two e))
      ] refl
