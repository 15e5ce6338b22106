-- What a call reads of a retained version, as the catalogue has it.
use Rattle.std.proofs.Common.{◌≡◌, ◌≢◌, ℕ, ◌-◌, ◌*◌, ◌≤◌, true, List, [], length, sym, ◌∙◌, ap, subst, Option, Some}
use Rattle.std.specs.Prelude.{IsTrue, IfSome, Ok, Err, slice_get}
use Rattle.std.specs.Borrow.{Bor}
use Rattle.std.specs.List.{list_all}
use Rattle.bd_disk.specs.History.{History}
use Rattle.bd_disk.specs.Runs.{Reads}
use Rattle.bd_disk.specs.Trace.{ReadsOnly}
use Rattle.bd_disk.specs.declared.disk.Disk.{Ghosts}
use Rattle.bd_model.specs.Sizes.{Sizes, sizes_of}
use Rattle.bd_model.specs.Extents.{owner_bytes, places_at}
use Rattle.bd_model.specs.Records.{entries_in}
use Rattle.bd_model.specs.declared.damage.Damage.{Damage}
use Rattle.bd_model.specs.declared.damage.Damage.TheVariants.{Sum}
use Rattle.bd_model.specs.declared.layout.RecipeEntry.{RecipeEntry}
use Rattle.bd_model.specs.declared.shape.Shape.{Shape}
use Rattle.bd_extio.specs.Ranges.{AreExtents, IsWithin}
use Rattle.bd_roll.specs.Catalogue.{Catalogue, oldest_in, recipe_extents}
use Rattle.bd_catalog.specs.Damages.{IsSeen}
use Rattle.bd_roll.specs.Rules.{obeys}
use Rattle.bd_roll.specs.Shown.{version_entry}
use Rattle.bd_catalog.specs.Sound.{recipe_of, entry_holds}
use Rattle.bd_roll.specs.declared.rows.VersionRow.{VersionRow}
use Rattle.bd_recipe.specs.Entries.{is_within, limits_for}
use Rattle.bd_recipe.specs.Located.{IsLocated}
use Rattle.bd_recipe.specs.Pieces.{InEntries}
use Rattle.bd_recipe.specs.Reading.{InRecipe, IsRecipe, ReadsTo, chunks_in, length_in, recipe_found, recipe_places, total}
use Rattle.bd_recipe.specs.declared.limits.Limits.{Limits}
use Rattle.bd_recipe.proofs.Found.{moved, found-all, found-damaged, found-sum, is_recipe, seen-damaged, seen-sum}
use Rattle.bd_recipe.proofs.Versions.{VersionIs, version_is}

pub located : (s : Sizes) (c : Catalogue) (v : ℕ) (shape : Shape) (found : Option (Bor VersionRow)) (row : Bor VersionRow) (extents : List ℕ) (limits : Limits) → 1 ≤ shape.extent →
    sizes_of shape ≡ s → IsTrue (obeys s c) → IfSome found (λ r. slice_get c.versions (v - oldest_in c) ≡ Some (version_entry r.now)) → found ≡ Some row → extents ≡ row.now.recipe.numbers → limits ≡ limits_for s c v →
    IsLocated s c v (sizes_of shape) extents row.now.chunks row.now.length limits
located s c v shape found row extents limits some sizes rules has is numbers within =
    let here : slice_get c.versions (v - oldest_in c) ≡ Some (version_entry row.now) = subst (λ o. IfSome o (λ r. slice_get c.versions (v - oldest_in c) ≡ Some (version_entry r.now))) is has in
    let e = version_entry row.now in
    let known : VersionIs (sizes_of shape) c v e = version_is (sizes_of shape) c v e some (subst (λ t. IsTrue (obeys t c)) (sym sizes) rules) here in
    record {
      sizes = sizes;
      places = numbers ∙ known.extents;
      count = known.chunks;
      long = known.bytes;
      within = within;
      numbers = subst (AreExtents (sizes_of shape)) (sym numbers) known.numbers;
      range = subst (λ l. IsWithin (sizes_of shape) l 0 (40 * row.now.chunks)) (sym numbers) known.range;
    }

module _ {s : Sizes} {c : Catalogue} {v : ℕ} {t : Sizes} {extents : List ℕ} {chunks bytes : ℕ} {limits : Limits} (at : IsLocated s c v t extents chunks bytes limits) where
  pub reads_of_version : {D : Type 0} {g : Ghosts D} {a b : D} → Reads g (InEntries t extents 0 chunks) a b → Reads g (InRecipe s c v) a b
  reads_of_version {D} {g} {a} {b} = moved (λ x xs n l. Reads g (InEntries x xs 0 n) a b) at.sizes at.places at.count at.within

  pub reads_there : {a b : History} → ReadsOnly (places_at t extents 0 (40 * chunks)) a b → ReadsOnly (recipe_places s c v) a b
  reads_there {a} {b} = moved (λ x xs n l. ReadsOnly (places_at x xs 0 (40 * n)) a b) at.sizes at.places at.count at.within

  damaged_there : (image : List ℕ) {damage : Damage} {a b : History} → ReadsTo limits t extents (owner_bytes t extents image) chunks damage a b → ReadsTo (limits_for s c v) s (recipe_extents c v) (owner_bytes s (recipe_extents c v) image) (chunks_in c v) damage a b
  damaged_there image {damage} {a} {b} = moved (λ x xs n l. ReadsTo l x xs (owner_bytes x xs image) n damage a b) at.sizes at.places at.count at.within

  pub finds_damage : (image : List ℕ) {damage : Damage} {a b : History} → ReadsTo limits t extents (owner_bytes t extents image) chunks damage a b → recipe_found s c image v ≡ Err damage
  finds_damage image r = found-damaged s c v image (damaged_there image r)

  pub sees_damage : (image : List ℕ) {damage : Damage} {a b : History} → ReadsTo limits t extents (owner_bytes t extents image) chunks damage a b → IsSeen s c image [] damage a b
  sees_damage image r = seen-damaged s c v image (damaged_there image r)

  -- all entries were read
  module _ (items : List RecipeEntry) (hold : list_all (is_within limits) items ≡ true) where
    hold_there : list_all (entry_holds s c v) items ≡ true
    hold_there = subst (λ l. list_all (is_within l) items ≡ true) at.within hold

    pub recipe_there : length items ≡ chunks → total items ≡ bytes → IsRecipe s c v items
    recipe_there count sum = is_recipe s c v items (count ∙ at.count) hold_there (sum ∙ at.long)

    module _ (image : List ℕ) (is : items ≡ entries_in chunks (owner_bytes t extents image)) where
      items_there : items ≡ recipe_of s c image v
      items_there = moved (λ x xs n l. items ≡ entries_in n (owner_bytes x xs image)) at.sizes at.places at.count at.within is

      all_hold : list_all (entry_holds s c v) (recipe_of s c image v) ≡ true
      all_hold = subst (λ es. list_all (entry_holds s c v) es ≡ true) items_there hold_there

      pub finds_all : total items ≡ bytes → recipe_found s c image v ≡ Ok items
      finds_all sum = found-all s c v image all_hold (ap total (sym items_there) ∙ sum ∙ at.long) ∙ ap Ok (sym items_there)

      other_sum : total items ≢ bytes → total (recipe_of s c image v) ≢ length_in c v
      other_sum differ same = differ (ap total items_there ∙ same ∙ sym at.long)

      sum_there : (found : ℕ) → found ≡ total items → Sum v (length_in c v) (total (recipe_of s c image v)) ≡ Sum v bytes found
      sum_there found sum = λ i. Sum v (sym at.long i) ((ap total (sym items_there) ∙ sym sum) i)

      pub finds_sum : (found : ℕ) → found ≡ total items → found ≢ bytes → recipe_found s c image v ≡ Err (Sum v bytes found)
      finds_sum found sum differ = found-sum s c v image all_hold (other_sum (λ same. differ (sum ∙ same))) ∙ ap Err (sum_there found sum)

      pub sees_sum : (found : ℕ) {a b : History} → found ≡ total items → found ≢ bytes → ReadsOnly (places_at t extents 0 (40 * chunks)) a b → IsSeen s c image [] (Sum v bytes found) a b
      sees_sum found {a} {b} sum differ reads = subst (λ d. IsSeen s c image [] d a b) (sum_there found sum) (seen-sum s c v image all_hold (other_sum (λ same. differ (sum ∙ same))) (reads_there reads))
