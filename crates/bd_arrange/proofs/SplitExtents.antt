-- The extents of a desk while a category is split.
use Rattle.std.proofs.Common.{◌≡◌, ℕ, ◌+◌, List, [], ◌∷◌, ◌++◌, length, sym, ◌∙◌, ap, subst, arith, append_assoc, length-append, flat_map}
use Rattle.std.specs.Prelude.{All, IsPermutation}
use Rattle.std.proofs.lemmas.Grind.{flat_map-append}
use Rattle.std.proofs.lemmas.List.Elements.{All-weaker}
use Rattle.std.proofs.lemmas.List.Sorted.{IsPermutation-append, IsPermutation-append_comm, IsPermutation-refl}
use Rattle.bd_space.specs.Allotment.{Allotment, IsTaken, Marks, TakenExactly, free_count, held_count}
use Rattle.bd_space.specs.declared.space.Use.TheVariants.{Free}
use Rattle.bd_space.proofs.Exact.{TakenExactly-left, TakenExactly-permutation}
use Rattle.bd_space.proofs.Uses.{taken_still}
use Rattle.bd_roll.specs.Splitting.{KeptEntry, kept_extents}
use Rattle.bd_volume.specs.Growing.{Takes}
use Rattle.bd_volume.proofs.GrownExtents.{takes_exactly}
use Rattle.bd_arrange.specs.Desks.{KeepsExtents, OnDesk, new_extents}

module _ (space first then : Allotment) (old : OnDesk) (numbers more : List ℕ) (takes : Takes numbers space first) (adds : Takes more first then) where
  abbrev added : List ℕ
  added = old.filling.added

  abbrev kept : List ℕ
  kept = kept_extents old.splits

  -- what is taken once both were
  both_taken : (others : List ℕ) → TakenExactly space (others ++ new_extents old) → TakenExactly then (((others ++ new_extents old) ++ numbers) ++ more)
  both_taken others exact = takes_exactly ((others ++ new_extents old) ++ numbers) more first then (takes_exactly (others ++ new_extents old) numbers space first exact takes) adds

  moved : (others : List ℕ) → IsPermutation (((others ++ new_extents old) ++ numbers) ++ more) (others ++ ((added ++ more) ++ (kept ++ numbers)))
  moved others =
      let left : ((others ++ new_extents old) ++ numbers) ++ more ≡ others ++ (added ++ ((kept ++ numbers) ++ more)) =
      ap (λ l. l ++ more) (append_assoc others (added ++ kept) numbers ∙ ap (λ l. others ++ l) (append_assoc added kept numbers))
      ∙ append_assoc others (added ++ (kept ++ numbers)) more
      ∙ ap (λ l. others ++ l) (append_assoc added (kept ++ numbers) more) in
      let right : others ++ (added ++ (more ++ (kept ++ numbers))) ≡ others ++ ((added ++ more) ++ (kept ++ numbers)) = ap (λ l. others ++ l) (sym (append_assoc added more (kept ++ numbers))) in
      let inner : IsPermutation ((kept ++ numbers) ++ more) (more ++ (kept ++ numbers)) = IsPermutation-append_comm (kept ++ numbers) more in
      let middle : IsPermutation (added ++ ((kept ++ numbers) ++ more)) (added ++ (more ++ (kept ++ numbers))) = IsPermutation-append added added ((kept ++ numbers) ++ more) (more ++ (kept ++ numbers)) (IsPermutation-refl added) inner in
      let outer : IsPermutation (others ++ (added ++ ((kept ++ numbers) ++ more))) (others ++ (added ++ (more ++ (kept ++ numbers)))) =
      IsPermutation-append others others (added ++ ((kept ++ numbers) ++ more)) (added ++ (more ++ (kept ++ numbers))) (IsPermutation-refl others) middle in
      subst (λ l. IsPermutation l (others ++ ((added ++ more) ++ (kept ++ numbers)))) (sym left) (subst (λ l. IsPermutation (others ++ (added ++ ((kept ++ numbers) ++ more))) l) right outer)

  -- both are the desk's
  pub keeps_both : (new : OnDesk) (entry : KeptEntry) → new.filling.added ≡ added ++ more → new.splits ≡ old.splits ++ entry ∷ [] → kept_extents (entry ∷ []) ≡ numbers → KeepsExtents space then old new
  keeps_both new entry is_added is_splits is_numbers =
      let now : kept_extents new.splits ≡ kept ++ numbers = ap kept_extents is_splits ∙ flat_map-append (λ (e : KeptEntry). flat_map (λ a. a.extents) e.kept) old.splits (entry ∷ []) ∙ ap (λ l. kept ++ l) is_numbers in
      let all : new_extents new ≡ (added ++ more) ++ (kept ++ numbers) = λ i. is_added i ++ now i in
      record {
        owners = λ others exact. subst (λ l. TakenExactly then (others ++ l)) (sym all) (TakenExactly-permutation then (((others ++ new_extents old) ++ numbers) ++ more) (others ++ ((added ++ more) ++ (kept ++ numbers))) (moved others) (both_taken others exact));
        free = omega (arith, takes.counted, adds.counted, ap length all, length-append (added ++ more) (kept ++ numbers), length-append added more, length-append kept numbers, length-append added kept);
        extents = adds.marked.size ∙ takes.marked.size;
        held = adds.held ∙ takes.held;
      }

  -- the first ones are free again
  pub keeps_back : (back : Allotment) (new : OnDesk) → new.filling.added ≡ added ++ more → new.splits ≡ old.splits → Marks numbers Free then back → free_count back ≡ free_count then + length numbers → held_count back ≡ held_count then → KeepsExtents space back old new
  keeps_back back new is_added is_splits marks freed held =
      let all : new_extents new ≡ (added ++ more) ++ kept = λ i. is_added i ++ kept_extents (is_splits i) in
      record {
        owners = λ others exact.
            let line : others ++ ((added ++ more) ++ (kept ++ numbers)) ≡ (others ++ ((added ++ more) ++ kept)) ++ numbers =
            ap (λ l. others ++ l) (sym (append_assoc (added ++ more) kept numbers)) ∙ sym (append_assoc others ((added ++ more) ++ kept) numbers) in
            let exact_then : TakenExactly then (others ++ ((added ++ more) ++ (kept ++ numbers))) =
            TakenExactly-permutation then (((others ++ new_extents old) ++ numbers) ++ more) (others ++ ((added ++ more) ++ (kept ++ numbers))) (moved others) (both_taken others exact) in
            subst (λ l. TakenExactly back (others ++ l)) (sym all) (TakenExactly-left then back (others ++ ((added ++ more) ++ kept)) numbers (subst (TakenExactly then) line exact_then) marks);
        free = omega (arith, takes.counted, adds.counted, freed, ap length all, length-append (added ++ more) kept, length-append added more, length-append added kept);
        extents = marks.size ∙ adds.marked.size ∙ takes.marked.size;
        held = held ∙ adds.held ∙ takes.held;
      }

  pub taken_then : All (IsTaken then) numbers
  taken_then = All-weaker (IsTaken first) (IsTaken then) (λ n t. taken_still more first then n adds.marked t) numbers takes.marked.marked
