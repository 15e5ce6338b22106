-- Bytes of an owner that are put one behind the other: what was put is what lies on the disk, and then what is held.
use Rattle.std.specs.Prelude.{◌≡◌, ℕ, ◌+◌, List, ◌++◌, length}
use Rattle.bd_disk.specs.History.{contents}
use Rattle.bd_disk.specs.declared.disk.Disk.{Ghosts}
use Rattle.bd_model.specs.Sizes.{Sizes}
use Rattle.bd_catalog.specs.Standing.{BeginWith}

-- the bytes that are held, and how many lie on the disk before them
pub record Held : Type 0 where
  pub held : List ℕ
  pub written : ℕ

-- how many were put
abbrev pub put_count : Held → ℕ
put_count p = p.written + length p.held

-- these bytes were put: the owner's extents begin with the first of them, and the others are held
pub record IsPut (s : Sizes) (extents : List ℕ) (p : Held) (bytes image : List ℕ) : Type 0 where
  pub first : List ℕ
  pub so : bytes ≡ first ++ p.held
  pub count : length first ≡ p.written
  pub begins : BeginWith s extents first image

-- the same where the disk tells it
abbrev pub IsPutOn : {D : Type 0} → Ghosts D → Sizes → List ℕ → Held → List ℕ → D → Type 0
IsPutOn g s extents p bytes disk = IsPut s extents p bytes (contents (g.history disk))

-- where the disk tells, whatever was put stays so
abbrev pub KeepsPut : {D : Type 0} → Ghosts D → Sizes → List ℕ → Held → Held → D → D → Type 0
KeepsPut g s extents p q old new = g.tells → (bytes : List ℕ) → IsPutOn g s extents p bytes old → IsPutOn g s extents q bytes new

-- and these bytes are put behind it
abbrev pub PutsBytes : {D : Type 0} → Ghosts D → Sizes → List ℕ → List ℕ → Held → Held → D → D → Type 0
PutsBytes g s extents more p q old new = g.tells → (bytes : List ℕ) → IsPutOn g s extents p bytes old → IsPutOn g s extents q (bytes ++ more) new
