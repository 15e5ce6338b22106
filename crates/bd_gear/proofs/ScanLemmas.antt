-- The two parts of a scan.
use Rattle.std.proofs.Common.{◌≡◌, ℕ, ◌+◌, ◌-◌, ◌^◌, ◌≤◌, min, max, Bool, List, ◌++◌, sym, ◌∙◌, ap, arith, length, take, drop, slice_range, length-take, length-drop, drop-drop, ⊎_elim}
use Rattle.std.proofs.Math.Seq.{take-add}
use Rattle.std.proofs.lemmas.List.{take-take}
use Rattle.std.proofs.lemmas.List.Sums.{fold-append}
use Rattle.std.proofs.lemmas.Bool.{cases_lt}
use Rattle.bd_model.specs.Chunks.{Cut}
use Rattle.bd_model.specs.Laws.{IsCut}
use Rattle.bd_gear.specs.Rolling.{rolled_over, rolled_on, RollsTo, ScansTo}

module _ (cut : Cut) (held : List ℕ) (scanned hash most untried : ℕ) (is : IsCut cut)
    (inside : scanned ≤ length held) (at_most : scanned ≤ cut.most)
    (most_is : most ≡ min (length held) cut.most) (untried_is : untried ≡ max (min most (cut.least - 1)) scanned)
    (between : ℕ) (between_is : between ≡ rolled_on hash (slice_range held scanned untried)) where
  abbrev rest : List ℕ
  rest = slice_range held untried most

  ends : (scanned ≤ untried) × (untried ≤ most) × (most ≤ length held)
  ends = (omega arith, omega arith, omega arith)

  length-rest : length rest ≡ most - untried
  length-rest = length-take (most - untried) (drop untried held) ∙ omega (arith, length-drop untried held, ends.2)

  -- the bytes that were passed, then the first k of the rest
  slice-join : (k : ℕ) → k ≤ most - untried → slice_range held scanned (untried + k) ≡ slice_range held scanned untried ++ take k rest
  slice-join k le =
      let size : untried + k - scanned ≡ (untried - scanned) + k = omega (arith, ends.0) in
      let place : scanned + (untried - scanned) ≡ untried = omega (arith, ends.0) in
      ap (λ n. take n (drop scanned held)) size
      ∙ take-add (untried - scanned) k (drop scanned held)
      ∙ ap (λ xs. slice_range held scanned untried ++ take k xs) (drop-drop (untried - scanned) scanned held ∙ ap (λ n. drop n held) place)
      ∙ ap (λ xs. slice_range held scanned untried ++ xs) (sym (take-take k (most - untried) (drop untried held) le))

  rolled-join : (k : ℕ) → k ≤ most - untried → rolled_on between (take k rest) ≡ rolled_on hash (slice_range held scanned (untried + k))
  rolled-join k le =
      ap (λ h. rolled_on h (take k rest)) between_is ∙ sym (ap (rolled_on hash) (slice-join k le) ∙ fold-append rolled_over hash (slice_range held scanned untried) (take k rest))

  pub ScansTo-parts : (bound count end : ℕ) (found : Bool) → bound ≡ 2 ^ (64 - cut.bits) → RollsTo bound rest between count end found → ScansTo cut held scanned hash (untried + count) end found
  ScansTo-parts bound count end found bound_is to =
      let short : count ≤ most - untried = omega (arith, to.within, length-rest) in
      record {
        forward = omega (arith, ends.0);
        within = omega (arith, ends.1);
        hash_is = to.hash_is ∙ rolled-join count short;
        before = λ n new low high.
            ⊎_elim
            (λ later.
            let k = n - untried in
            let place : untried + k ≡ n = omega arith in
            let e : rolled_on between (take k rest) ≡ rolled_on hash (slice_range held scanned n) = rolled-join k (omega arith) ∙ ap (λ m. rolled_on hash (slice_range held scanned m)) place in
            omega (arith, e, bound_is, to.before k (omega arith) (omega arith)))
            (λ early. absurd (omega (arith, is.0)))
            (cases_lt untried n);
        here = λ some. let at = to.here some in (omega (arith, ends.0, at.0), omega (arith, at.0), omega (arith, at.1, bound_is));
        all = λ none.
            let at = to.all none in
            let whole : untried + count ≡ most = omega (arith, at.0, length-rest, ends.1) in (
              omega arith,
              λ new low.
                  ⊎_elim
                  (λ some. omega (arith, at.1 some, bound_is))
                  (λ stuck. absurd (omega (arith, is.0)))
                  (cases_lt 0 count),
            );
      }
