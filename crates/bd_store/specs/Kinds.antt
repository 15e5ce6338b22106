-- What kind of answer it is, in one table, a line an answer.
use Rattle.std.specs.Prelude.{ℕ}
use Rattle.bd_model.specs.declared.answer.Answer.{Answer}
use Rattle.bd_model.specs.declared.answer.Answer.TheVariants.{Arranged, BackedUp, Blanked, Expired, Formatted, FullExtents, FullNumbers, FullVersions, Listed, NothingRetained, NoVersion, Restored, Scrubbed, Soaked}

pub data Kind : Type 0 where
  -- a version more, with its entry's figures
  Gained : (bytes : ℕ) → (chunks : ℕ) → (fresh : ℕ) → Kind
  -- versions less, and so many extents with them
  Lost : (extents : ℕ) → Kind
  -- a version was given back
  Given : Kind
  -- the figures of a store that was arranged
  Figures : (owned : ℕ) → (free : ℕ) → Kind
  -- there is no room, in a store that was arranged
  NoRoom : (counted : ℕ) → (free : ℕ) → (held : ℕ) → Kind
  -- a refusal by the numbers of the catalogue alone
  ByNumbers : Kind
  -- what there is
  Shows : Kind
  -- of no command on a store
  Elsewhere : Kind

abbrev pub kind_of : Answer → Kind
kind_of (BackedUp version bytes chunks fresh need) = Gained bytes chunks fresh
kind_of (Restored version bytes) = Given
kind_of (Expired version extents) = Lost extents
kind_of (Arranged owned free) = Figures owned free
kind_of (Scrubbed report) = Shows
kind_of (Listed lines) = Shows
kind_of FullNumbers = ByNumbers
kind_of (FullVersions retained) = ByNumbers
kind_of (FullExtents counted free held) = NoRoom counted free held
kind_of (NoVersion asked oldest newest) = ByNumbers
kind_of (NothingRetained asked) = ByNumbers
kind_of Formatted = Elsewhere
kind_of (Blanked bytes) = Elsewhere
kind_of (Soaked seed versions bytes chunks fresh owned last) = Elsewhere
