-- The newest recipe stays where nothing that is named is written, and the same versions are named.
use Rattle.std.proofs.Common.{◌≡◌, ◌∙◌, ℕ, ◌-◌, ◌*◌, ◌<◌, ◌≤◌, List, [], ◌++◌, length, take, sym, ap, subst, arith, get_or, Result}
use Rattle.std.specs.Prelude.{map, Contains}
use Rattle.std.proofs.lemmas.List.{get_or-map, length-map, length-take-le}
use Rattle.std.proofs.lemmas.List.Elements.{All-contains, Contains-append_left}
use Rattle.bd_disk.specs.History.{History, contents}
use Rattle.bd_disk.specs.Images.{Agree}
use Rattle.bd_disk.specs.Made.{WritesOnly}
use Rattle.bd_disk.proofs.AgreeLemmas.{agree_fewer}
use Rattle.bd_disk.proofs.Frames.{same_contents}
use Rattle.bd_model.specs.Extents.{owner_bytes}
use Rattle.bd_model.specs.Sizes.{Sizes}
use Rattle.bd_model.specs.Records.{entries_in}
use Rattle.bd_model.specs.declared.damage.Damage.{Damage}
use Rattle.bd_model.specs.declared.layout.Phase.TheVariants.{Settled}
use Rattle.bd_model.specs.declared.layout.RecipeEntry.{RecipeEntry}
use Rattle.bd_catalog.specs.Agreement.{Agrees}
use Rattle.bd_roll.specs.Catalogue.{Catalogue, VersionEntry, oldest_in, recipe_extents, retained_in}
use Rattle.bd_catalog.specs.Opening.{Found}
use Rattle.bd_catalog.specs.Sound.{entry_holds, recipe_of}
use Rattle.bd_catalog.specs.Standing.{BeginWith}
use Rattle.bd_catalog.proofs.StandingFound.{IsFound, opened-found}
use Rattle.bd_extio.specs.Ranges.{InOwner}
use Rattle.bd_extio.proofs.Places.{length-owner_bytes}
use Rattle.bd_recipe.specs.Entries.{first_bad}
use Rattle.bd_recipe.specs.Reading.{chunks_in, length_in, recipe_found, with_sum}
use Rattle.bd_recipe.proofs.Entries.{entries_in-take}
use Rattle.bd_volume.specs.Named.{InNamed, named_by, open_named, recipe_named, volume_named}
use Rattle.bd_volume.proofs.NamedPlaces.{FitsNamed, all_fit, begin_named}
use Rattle.bd_arrange.specs.Arranged.{IsSettledFrom, IsSpared}
use Rattle.bd_store.specs.Newest.{IsNewestRecipe}

-- a catalogue of the same versions finds the same recipe in an image
same_found : (old new : Found) (image : List ℕ) → IsSettledFrom old new → recipe_found new.sizes new.catalogue image new.catalogue.newest ≡ recipe_found old.sizes old.catalogue image old.catalogue.newest
same_found old new image is = λ k. found (is.sizes k) (is.base k) (is.newest k) (is.versions k) where
  found : Sizes → ℕ → ℕ → List VersionEntry → Result (List RecipeEntry) Damage
  found s base newest versions = recipe_found s (record { base = base; newest = newest; phase = Settled; versions = versions; volumes = []; actives = [] }) image newest

-- so does an image that agrees on the bytes that the catalogue names
module _ (found : Found) (old new : List ℕ) (some : 1 ≤ found.sizes.extent) (is : IsFound old found) (agree : Agree (InNamed found.sizes found.catalogue) old new) (any : 1 ≤ retained_in found.catalogue) where
  abbrev c : Catalogue
  c = found.catalogue

  abbrev s : Sizes
  s = found.sizes

  abbrev none : VersionEntry
  none = record { length = 0; chunks = 0; fresh = 0; extents = [] }

  abbrev k : ℕ
  k = c.newest - oldest_in c

  abbrev e : VersionEntry
  e = get_or c.versions k none

  inside : k < length c.versions
  inside = omega (arith, any)

  extents : e.extents ≡ recipe_extents c c.newest
  extents = sym (get_or-map (λ (x : VersionEntry). x.extents) c.versions k none [] inside)

  chunks : e.chunks ≡ chunks_in c c.newest
  chunks = sym (get_or-map (λ (x : VersionEntry). x.chunks) c.versions k none 0 inside)

  among : Contains (named_by c) (recipe_named e)
  among =
      let recipes = map recipe_named c.versions in
      let volumes = map volume_named c.volumes in
      Contains-append_left (recipes ++ volumes) (map open_named c.actives) (recipe_named e)
      (Contains-append_left recipes volumes (recipe_named e) (k, omega (arith, length-map c.versions recipe_named, inside), get_or-map recipe_named c.versions k none (recipe_named e) inside))

  fits : FitsNamed s (recipe_named e)
  fits = All-contains (FitsNamed s) (named_by c) (recipe_named e) (all_fit s some c is.obeys) among

  abbrev owner : List ℕ → List ℕ
  owner image = owner_bytes s e.extents image

  abbrev n : ℕ
  n = 40 * e.chunks

  size : length (take n (owner old)) ≡ n
  size = length-take-le n (owner old) (omega (arith, fits.inside, length-owner_bytes s e.extents some fits.below old is.room))

  begins : BeginWith s e.extents (take n (owner old)) new
  begins =
      begin_named s e.extents (take n (owner old)) old new some fits.below is.room (omega (arith, fits.inside, size))
      (agree_fewer (InNamed s c) (InOwner s e.extents 0 (length (take n (owner old)))) old new
      (λ place p. record { owner = recipe_named e; among = among; within = subst (λ m. InOwner s e.extents 0 m place) size p }) agree)
      (record { front = ap (λ m. take m (owner old)) size })

  same_front : take n (owner new) ≡ take n (owner old)
  same_front = ap (λ m. take m (owner new)) (sym size) ∙ begins.front

  same_entries : entries_in e.chunks (owner new) ≡ entries_in e.chunks (owner old)
  same_entries = sym (entries_in-take e.chunks n (owner new) (omega arith)) ∙ ap (entries_in e.chunks) same_front ∙ entries_in-take e.chunks n (owner old) (omega arith)

  same_recipe : recipe_of s c new c.newest ≡ recipe_of s c old c.newest
  same_recipe = (λ j. entries_in (sym chunks j) (owner_bytes s (sym extents j) new)) ∙ same_entries ∙ (λ j. entries_in (chunks j) (owner_bytes s (extents j) old))

  recipe_stays : recipe_found s c new c.newest ≡ recipe_found s c old c.newest
  recipe_stays = ap (λ es. with_sum c.newest (length_in c c.newest) es (first_bad (entry_holds s c c.newest) c.newest 0 es)) same_recipe

pub newest_stays : (found mid : Found) {h1 h2 : History} (entries : List RecipeEntry) → 1 ≤ found.sizes.extent → Agrees found h1 → WritesOnly (IsSpared found) h1 h2 → IsSettledFrom found mid → IsNewestRecipe found (contents h1) entries →
    IsNewestRecipe mid (contents h2) entries
newest_stays found mid {h1} {h2} entries some agrees writes same is = record {
  none = λ none. is.none (ap length (sym same.versions) ∙ none);
  some = λ any.
      let there : 1 ≤ retained_in found.catalogue = subst (λ vs. 1 ≤ length vs) same.versions any in
      same_found found mid (contents h2) same
      ∙ recipe_stays found (contents h1) (contents h2) some (opened-found (contents h1) found agrees.opens)
      (agree_fewer (λ place. IsSpared found place → ⊥) (InNamed found.sizes found.catalogue) (contents h1) (contents h2) (λ place named spared. spared.beside.named named) (same_contents writes)) there
      ∙ is.some there;
}
