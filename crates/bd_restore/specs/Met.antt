-- A damage that a restore meets on its walk, and the walks that meet none.
use Rattle.std.specs.Prelude.{◌≡◌, ◌≢◌, ℕ, ◌<◌, List, ◌∷◌, ◌++◌, length, Bool, All, Contains, IsTrue, IsFalse}
use Rattle.std.specs.List.{list_all}
use Rattle.bd_disk.specs.History.{History, contents}
use Rattle.bd_disk.specs.declared.disk.Disk.{Ghosts}
use Rattle.bd_disk.specs.Trace.{reads, HasRead}
use Rattle.bd_model.specs.Sizes.{Sizes}
use Rattle.bd_model.specs.Recipe.{has_mark}
use Rattle.bd_model.specs.Records.{Stored}
use Rattle.bd_model.specs.declared.damage.Damage.{Damage}
use Rattle.bd_model.specs.declared.damage.Damage.TheVariants.{Entry, Sum, Header, Row, Body, Length, Missing}
use Rattle.bd_model.specs.declared.layout.RecipeEntry.{RecipeEntry}
use Rattle.bd_roll.specs.Catalogue.{Catalogue}
use Rattle.bd_catalog.specs.Damages.{BreaksRule, IsBadBody, IsBadHeader, header_holds, record_places}
use Rattle.bd_catalog.specs.Rows.{RowPlace, Spot, records_at, row_spots, spot_in, spots_in, walk}
use Rattle.bd_catalog.specs.Sound.{is_stored, part_holds, parts_for, recipe_of, records_for}
use Rattle.bd_recipe.specs.Reading.{recipe_places}
use Rattle.bd_restore.specs.Target.{mark_at, length_at}
use Rattle.bd_restore.specs.Walk.{is_found, AreFlags, Sought}
use Rattle.bd_volume.specs.Headers.{HasGoodHeaders}
use Rattle.bd_restore.specs.Went.{Moment}

-- ---- at one record

-- some entry has the mark, and this length
pub record HasEntry (entries : List RecipeEntry) (m : List ℕ) (n : ℕ) : Type 0 where
  pub index : ℕ
  pub inside : index < length entries
  pub is_mark : mark_at entries index ≡ m
  pub is_length : length_at entries index ≡ n

-- The record x of the row p breaks the rule that the damage names, which names the bytes at these places; the records
-- `seen` lie before it on the walk.
abbrev pub BreaksAt : Sought → List Stored → RowPlace → Spot → Damage → List ℕ → Type 0
BreaksAt w seen p x (Header who at said left) places = (p.who ≡ who) × (x.at ≡ at) × IsBadHeader w.sizes p x said left places
BreaksAt w seen p x (Body who at recorded found) places =
    (p.who ≡ who) × (x.at ≡ at) × IsBadBody w.sizes p x recorded found places × IsTrue (has_mark w.entries recorded.0)
BreaksAt w seen p x (Length u m recorded found) places =
    (u ≡ w.version) × HasEntry w.entries m.0 recorded × (x.stored.mark ≡ m.0) × (x.stored.length ≡ found) × (found ≢ recorded) × IsFalse (is_found seen m.0)
    × IsTrue (header_holds w.sizes p x) × (places ≡ record_places w.sizes x)
BreaksAt w seen p x (Entry u index said start) places = ⊥
BreaksAt w seen p x (Sum u recorded found) places = ⊥
BreaksAt w seen p x (Row who start recorded found) places = ⊥
BreaksAt w seen p x (Missing u index m) places = ⊥

-- the reading of the record x of the row p met the damage, where an entry was filled for each mark that was seen
pub record MetAt (w : Sought) (filled : List Bool) (p : RowPlace) (x : Spot) (damage : Damage) (old new : History) : Type 0 where
  pub places : List ℕ
  pub breaks : (seen : List Stored) → AreFlags w.entries seen filled → BreaksAt w seen p x damage places
  pub read : HasRead places old new

-- where the disk tells, the reading of the record at this place of the row met the damage
abbrev pub MeetsAt : {D F : Type 0} → Ghosts D → Sought → RowPlace → ℕ → Moment D F → Moment D F → Damage → Type 0
MeetsAt d w p at old new damage =
    d.tells → MetAt w old.progress.filled.items p (spot_in w.sizes (contents (d.history old.disk)) p at) damage (d.history old.disk) (d.history new.disk)

-- ---- on a walk

-- the record x is one of the row p, which is one of these, and the header of each record before it holds
pub record IsReached (s : Sizes) (image : List ℕ) (rows : List RowPlace) (p : RowPlace) (x : Spot) : Type 0 where
  pub before : List RowPlace
  pub behind : List RowPlace
  pub so : rows ≡ before ++ (p ∷ behind)
  pub ahead : HasGoodHeaders s image before
  pub first : List Spot
  pub later : List Spot
  pub spots : row_spots s image p ≡ first ++ (x ∷ later)
  pub good : IsTrue (list_all (header_holds s p) first)

-- the records before it
abbrev pub records_before : {s : Sizes} {image : List ℕ} {rows : List RowPlace} {p : RowPlace} {x : Spot} → IsReached s image rows p x → List Stored
records_before {s} {image} reached = records_at (spots_in s image reached.before ++ reached.first)

-- the walk over these rows met the damage, at the record `spot` of the row `place`
pub record MetOn (w : Sought) (image : List ℕ) (filled : List Bool) (rows : List RowPlace) (damage : Damage) (old new : History) : Type 0 where
  pub place : RowPlace
  pub spot : Spot
  pub reached : IsReached w.sizes image rows place spot
  pub places : List ℕ
  pub breaks : (seen : List Stored) → AreFlags w.entries seen filled → BreaksAt w (seen ++ records_before reached) place spot damage places
  pub read : HasRead places old new

abbrev pub MeetsOn : {D F : Type 0} → Ghosts D → Sought → List RowPlace → Moment D F → Moment D F → Damage → Type 0
MeetsOn d w rows old new damage =
    d.tells → MetOn w (contents (d.history old.disk)) old.progress.filled.items rows damage (d.history old.disk) (d.history new.disk)

-- It is of the recipe, which is read and checked before the target is begun.
abbrev pub IsOfRecipe : Damage → Type 0
IsOfRecipe (Entry u index said start) = Unit {0}
IsOfRecipe (Sum u recorded found) = Unit {0}
IsOfRecipe (Header who at said left) = ⊥
IsOfRecipe (Row who start recorded found) = ⊥
IsOfRecipe (Body who at recorded found) = ⊥
IsOfRecipe (Length u m recorded found) = ⊥
IsOfRecipe (Missing u index m) = ⊥

-- A restore came to what the damage names: to a record that breaks the rule, behind records whose headers hold; to an entry
-- without a record behind a walk on which all hold. A damage of the recipe comes before the walk.
abbrev pub ComesTo : Sought → List ℕ → List RowPlace → Damage → List ℕ → Type 0
ComesTo w image rows (Entry u index said start) places = Unit {0}
ComesTo w image rows (Sum u recorded found) places = Unit {0}
ComesTo w image rows (Missing u index m) places = HasGoodHeaders w.sizes image rows
ComesTo w image rows damage places =
    (p : RowPlace) × (x : Spot) × (reached : IsReached w.sizes image rows p x) × BreaksAt w (records_before reached) p x damage places

-- each row of the walk of version v holds, and so is each of these entries stored there
pub record IsWholeVersion (s : Sizes) (c : Catalogue) (image : List ℕ) (v : ℕ) (entries : List RecipeEntry) : Type 0 where
  pub rows : IsTrue (list_all (part_holds s) (parts_for s c image v))
  pub entries_stored : IsTrue (list_all (is_stored (records_for s c image v)) entries)

-- the body of a record only where some entry has its mark
abbrev pub IsNeeded : List RecipeEntry → Damage → Type 0
IsNeeded entries (Entry u index said start) = Unit {0}
IsNeeded entries (Sum u recorded found) = Unit {0}
IsNeeded entries (Header who place said left) = Unit {0}
IsNeeded entries (Row who start recorded found) = Unit {0}
IsNeeded entries (Body who place recorded found) = IsTrue (has_mark entries recorded.0)
IsNeeded entries (Length u m recorded found) = Unit {0}
IsNeeded entries (Missing u index m) = Unit {0}

-- the bytes that the damage names were read between these moments, or are of the recipe of version v, which was read
-- before; they break its rule, where a restore of v looks, and the restore came to it
pub record IsSeenAfter (s : Sizes) (c : Catalogue) (image : List ℕ) (v : ℕ) (damage : Damage) (old new : History) : Type 0 where
  pub places : List ℕ
  pub more : List ℕ
  pub so : reads new ≡ reads old ++ more
  pub read : All (λ place. Contains (recipe_places s c v ++ more) place) places
  pub breaks : BreaksRule s c image (walk c v) damage places
  pub comes : ComesTo (record { sizes = s; version = v; entries = recipe_of s c image v }) image (walk c v) damage places
