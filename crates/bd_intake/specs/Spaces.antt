-- What is taken of a space for what is staged.
use Rattle.std.specs.Prelude.{◌≡◌, ℕ, ◌+◌, List, ◌++◌, length, All, nat_eq}
use Rattle.std.specs.List.{IsDistinct}
use Rattle.bd_space.specs.Allotment.{Allotment, extent_count, IsFree, free_count, Marks, TakenExactly, KeepsHeld}
use Rattle.bd_space.specs.declared.space.Use.TheVariants.{Taken}

-- the list went on by numbers that were free and are taken now
pub record Adds (old new : Allotment) (before after : List ℕ) : Type 0 where
  pub added : List ℕ
  pub so : after ≡ before ++ added
  pub were_free : All (IsFree old) added
  pub once : IsDistinct nat_eq added
  pub marked : Marks added Taken old new
  pub counted : free_count new + length added ≡ free_count old
  pub held : KeepsHeld old new

-- Beside the numbers of `base` exactly these two lists are taken. They were free in the first space, and nothing became
-- free since.
pub record Owns (base : List ℕ) (first space : Allotment) (recipe fresh : List ℕ) : Type 0 where
  pub exact : TakenExactly space (base ++ recipe ++ fresh)
  pub were_free : All (IsFree first) (recipe ++ fresh)
  pub still : (n : ℕ) → IsFree space n → IsFree first n
  pub size : extent_count space ≡ extent_count first
  pub counted : free_count space + (length recipe + length fresh) ≡ free_count first
  pub held : KeepsHeld first space

-- beside some other numbers exactly these two lists are taken
pub record IsOwned (space : Allotment) (recipe fresh : List ℕ) : Type 0 where
  pub base : List ℕ
  pub exact : TakenExactly space (base ++ recipe ++ fresh)
