-- What a version needs.
use Rattle.std.specs.Prelude.{◌≡◌, ℕ, ◌≤◌, List}
use Rattle.bd_model.specs.Laws.{entries_of_chunks}
use Rattle.bd_model.specs.Room.{need_of}
use Rattle.bd_intake.specs.declared.fault.IntakeFault.{IntakeFault}
use Rattle.bd_intake.specs.Answers.{RefusesVersion}
use Rattle.bd_intake.specs.Given.{Given}

-- the extents that a version of these chunks needs
abbrev pub need_in : Given → List (List ℕ) → ℕ
need_in t chunks = need_of t.sizes.extent t.old (entries_of_chunks t.old t.version chunks)

-- it needs so many, and they were free
pub record Needs (t : Given) (chunks : List (List ℕ)) (need : ℕ) : Type 0 where
  pub so : need ≡ need_in t chunks
  pub fits : need ≤ t.free

-- a refusal of a version of these chunks
abbrev pub RefusesChunks : Given → List (List ℕ) → ℕ → IntakeFault → Type 0
RefusesChunks t chunks held fault = RefusesVersion t.sizes t.old t.version chunks t.free held fault
