-- Files by their names, and what a call changes of them.
use Rattle.std.specs.Prelude.{◌≡◌, ◌⊎◌, ◌↔◌, ℕ, ◌+◌, ◌≤◌, List, ◌∷◌, length, take, filter, not, Contains, Some, None, Result, OnOk, OnErr}
use Rattle.std.specs.FinMap as map
use Rattle.std.specs.Str.{bytes_eq}
use Rattle.bd_disk.specs.Calls.{Rose}
use Rattle.bd_disk.specs.Images.{bytes_at}
use Rattle.bd_model.specs.FileMap.{FileMap}

-- these bytes are under the name
pub record Holds (files : FileMap) (name bytes : List ℕ) : Type 0 where
  pub there : map.get files name ≡ Some bytes

-- nothing is under the name
pub record Lacks (files : FileMap) (name : List ℕ) : Type 0 where
  pub none : map.get files name ≡ None

-- what is under each other name stays
pub record ChangesOnly (name : List ℕ) (old new : FileMap) : Type 0 where
  pub others : (other : List ℕ) → (other ≡ name → ⊥) → map.get new other ≡ map.get old other

-- the first n bytes of `into` are those of the file from a place on, and n is 0 only at its end or for no room
pub record Fetches (files : FileMap) (name : List ℕ) (at room n : ℕ) (into : List ℕ) : Type 0 where
  pub bytes : List ℕ
  pub file : Holds files name bytes
  pub within : at + n ≤ length bytes ⊎ (n ≡ 0)
  pub so : take n into ≡ bytes_at at n bytes
  pub ends : (n ≡ 0) ↔ ((length bytes ≤ at) ⊎ (room ≡ 0))

-- how the count of missing sources goes on at a fetch: it rises where nothing is under the name, and there alone
pub record CountsStrays (files : FileMap) (name : List ℕ) (before now : ℕ) : Type 0 where
  pub later : before ≤ now
  pub rose : Lacks files name → Rose before now
  pub kept : (bytes : List ℕ) → Holds files name bytes → now ≡ before

-- each other name is as unfinished as it was
pub record UnfinishesOnly (name : List ℕ) (old new : List (List ℕ)) : Type 0 where
  pub others : (other : List ℕ) → (other ≡ name → ⊥) → Contains new other ↔ Contains old other

-- the names but this one
abbrev pub without : List ℕ → List (List ℕ) → List (List ℕ)
without name names = filter (λ other. not (bytes_eq other name)) names

-- how the unfinished names go on where this one is begun or filled; where that failed it may be among them
pub record Begins {T E : Type 0} (name : List ℕ) (old new : List (List ℕ)) (result : Result T E) : Type 0 where
  pub ok : OnOk result (new ≡ name ∷ old)
  pub failed : OnErr result ((new ≡ old) ⊎ (new ≡ name ∷ old))

-- how they go on where this one is finished
pub record Finishes {T E : Type 0} (name : List ℕ) (old new : List (List ℕ)) (result : Result T E) : Type 0 where
  pub ok : OnOk result (new ≡ without name old)
  pub failed : OnErr result (new ≡ old)

-- the name isn't among these unfinished ones
pub record IsFinished (name : List ℕ) (unfinished : List (List ℕ)) : Type 0 where
  pub so : ¬ Contains unfinished name
