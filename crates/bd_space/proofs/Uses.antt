-- The uses of a space: each number below its size has one, and what a number has after some were marked.
use Rattle.std.proofs.Common.{◌≡◌, ◌≢◌, ◌⊎◌, inl, inr, ℕ, ◌+◌, ◌<◌, List, [], ◌∷◌, length, cond, refl, sym, ◌∙◌, arith, Contains, slice_get, Some, count_by}
use Rattle.std.proofs.lemmas.List.Sums.{sum_by-cons}
use Rattle.std.proofs.lemmas.List.Elements.{All-contains}
use Rattle.std.proofs.lemmas.Option.{slice_get-get_or}
use Rattle.bd_space.specs.declared.space.Use.{Use}
use Rattle.bd_space.specs.declared.space.Use.TheVariants.{Free, Taken, Held}
use Rattle.bd_space.specs.Allotment.{Allotment, IsFree, IsTaken, IsHeld, is_free, is_taken, is_held, free_count, taken_count, held_count, Marks}
use Rattle.bd_space.proofs.Numbers.{Contains_decided}

-- ---- one use each

counted : (us : List Use) → count_by is_free us + count_by is_taken us + count_by is_held us ≡ length us
counted [] = refl
counted (u ∷ us) =
    let free = sum_by-cons (λ x. cond (is_free x) 1 0) u us in
    let taken = sum_by-cons (λ x. cond (is_taken x) 1 0) u us in
    let held = sum_by-cons (λ x. cond (is_held x) 1 0) u us in
    let rest = counted us in
    let one : cond (is_free u) 1 0 + cond (is_taken u) 1 0 + cond (is_held u) 1 0 ≡ 1 = at u in
    omega (arith, free, taken, held, rest, one)
  where
    at : (v : Use) → cond (is_free v) 1 0 + cond (is_taken v) 1 0 + cond (is_held v) 1 0 ≡ 1
    at Free = refl
    at Taken = refl
    at Held = refl

pub counts-all : (space : Allotment) → free_count space + taken_count space + held_count space ≡ length space.uses
counts-all space = counted space.uses

pub use_of_each : (space : Allotment) (n : ℕ) → n < length space.uses → IsFree space n ⊎ (IsTaken space n ⊎ IsHeld space n)
use_of_each space n within = at _ (slice_get-get_or space.uses n Free within)
  where
    at : (u : Use) → slice_get space.uses n ≡ Some u → IsFree space n ⊎ (IsTaken space n ⊎ IsHeld space n)
    at Free is = inl is
    at Taken is = inr (inl is)
    at Held is = inr (inr is)

-- ---- after some numbers were marked

-- a number's use is the mark's, or the one that it had
pub Marks-use : (ns : List ℕ) (u v : Use) (old new : Allotment) (n : ℕ) → Marks ns u old new → slice_get new.uses n ≡ Some v
    → (Contains ns n × (u ≡ v)) ⊎ ((Contains ns n → ⊥) × (slice_get old.uses n ≡ Some v))
Marks-use ns u v old new n m now = elim (Contains_decided ns n) [
  | inl within ↦ inl (within, (let mark : slice_get new.uses n ≡ Some u = All-contains (λ k. slice_get new.uses k ≡ Some u) ns n m.marked within in cc))
  | inr without ↦ inr (without, sym (m.others n without) ∙ now)
]

-- after numbers were taken, the taken ones are those and the ones before
pub taken_after_taken : (ns : List ℕ) (old new : Allotment) (n : ℕ) → Marks ns Taken old new → IsTaken new n → Contains ns n ⊎ IsTaken old n
taken_after_taken ns old new n m now = elim (Marks-use ns Taken Taken old new n m now) [ inl within ↦ inl within.0 | inr before ↦ inr before.1 ]

pub taken_still : (ns : List ℕ) (old new : Allotment) (n : ℕ) → Marks ns Taken old new → IsTaken old n → IsTaken new n
taken_still ns old new n m was = elim (Contains_decided ns n) [
  | inl within ↦ All-contains (IsTaken new) ns n m.marked within
  | inr without ↦ m.others n without ∙ was
]

-- after numbers were freed, the taken ones are the others of those before
pub taken_after_freed : (ns : List ℕ) (old new : Allotment) (n : ℕ) → Marks ns Free old new → IsTaken new n → (Contains ns n → ⊥) × IsTaken old n
taken_after_freed ns old new n m now = elim (Marks-use ns Free Taken old new n m now) [ inl within ↦ absurd (free≢taken within.1) | inr before ↦ before ]
  where
    free≢taken : Free ≢ Taken
    free≢taken e = cc
