-- What a space keeps, and the uses after some numbers were marked.
use Rattle.std.specs.Prelude.{◌≡◌, ◌≢◌, ◌<◌, ◌^◌, ℕ, List, [], ◌∷◌, length, slice_get, slice_set, count_by, Some}
use Rattle.bd_space.specs.declared.space.Use.{Use}
use Rattle.bd_space.specs.declared.space.Use.TheVariants.{Free}
use Rattle.bd_space.specs.Allotment.{is_free, is_held}

-- the uses after each of these numbers got this use
abbrev pub marked_uses : List Use → List ℕ → Use → List Use
marked_uses us [] usage = us
marked_uses us (n ∷ ns) usage = marked_uses (slice_set us n usage) ns usage

-- the counts are right, and no number below `lowest` is free
pub record IsCountedRight (us : List Use) (free held lowest : ℕ) : Type 0 where
  pub small : length us < 2 ^ 32
  pub free_counted : free ≡ count_by is_free us
  pub held_counted : held ≡ count_by is_held us
  pub below : (n : ℕ) → n < lowest → slice_get us n ≢ Some Free
