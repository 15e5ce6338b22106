-- The recipe of the newest version is so short that sums over it have room in 64 bits.
use Rattle.std.proofs.Common.{◌≡◌, ℕ, ◌-◌, ◌^◌, ◌<◌, ◌≤◌, true, ◌&&◌, List, [], length, sym, subst, arith, get_or, nat_le, nat_lt, ⊎_elim, leb-true}
use Rattle.std.specs.Prelude.{IsTrue}
use Rattle.std.proofs.lemmas.Bool.{cases_lt}
use Rattle.std.proofs.lemmas.List.Elements.{All-nil, All-weaker}
use Rattle.std.proofs.lemmas.Option.{slice_get-get_or}
use Rattle.bd_model.specs.Sizes.{sizes_of}
use Rattle.bd_model.specs.declared.layout.RecipeEntry.{RecipeEntry}
use Rattle.bd_model.specs.declared.shape.Shape.{Shape}
use Rattle.bd_model.proofs.ListLemmas.{left_and, right_and}
use Rattle.bd_roll.specs.Catalogue.{Catalogue, VersionEntry, oldest_in, retained_in}
use Rattle.bd_roll.specs.Rules.{obeys}
use Rattle.bd_catalog.specs.Sound.{entry_holds, length_holds}
use Rattle.bd_roll.proofs.RuleLemmas.{NumbersHold, numbers_of, rules_of}
use Rattle.bd_extio.proofs.Places.{range_small}
use Rattle.bd_recipe.specs.Reading.{IsRecipe, chunks_in}
use Rattle.bd_recipe.proofs.Versions.{VersionIs, version_is}
use Rattle.bd_intake.specs.Given.{FitsSums, IsRecipeOrNone}

-- an entry that holds is no longer than the longest chunk
holds_short : (shape : Shape) (c : Catalogue) (v : ℕ) (e : RecipeEntry) → entry_holds (sizes_of shape) c v e ≡ true → e.length ≤ 65536
holds_short shape c v e holds =
    let s = sizes_of shape in
    let length_is = left_and (length_holds s e.length) (nat_lt c.base e.start) (left_and (length_holds s e.length && nat_lt c.base e.start) (nat_le e.start v) holds) in
    let short : e.length ≤ s.max = leb-true e.length s.max (right_and (nat_le 1 e.length) (nat_le e.length s.max) length_is) in
    omega (arith, short, shape.in_range.max_high)

-- the newest version has fewer chunks than there is room for entries
newest_few : (shape : Shape) (c : Catalogue) → obeys (sizes_of shape) c ≡ true → 1 ≤ retained_in c → chunks_in c c.newest ≤ 2 ^ 40
newest_few shape c rules one =
    let s = sizes_of shape in
    let d : VersionEntry = record { length = 0; chunks = 0; fresh = 0; extents = [] } in
    let numbers : NumbersHold s c = numbers_of s c (rules_of s c rules).numbers in
    let i = c.newest - oldest_in c in
    let e = get_or c.versions i d in
    let inside : i < length c.versions = omega (arith, numbers.base, one) in
    let is : VersionIs s c c.newest e = version_is s c c.newest e (omega (arith, shape.in_range.extent_low)) rules (slice_get-get_or c.versions i d inside) in
    omega (arith, is.chunks, is.range, range_small s e.extents is.numbers (omega (arith, shape.in_range.extents_high)) (omega (arith, shape.in_range.extent_high)))

pub recipe_fits : (shape : Shape) (c : Catalogue) (entries : List RecipeEntry) → obeys (sizes_of shape) c ≡ true → IsRecipeOrNone (sizes_of shape) c entries → FitsSums entries
recipe_fits shape c entries rules is =
    ⊎_elim
    (λ none. subst FitsSums (sym (is.none (omega (arith, none)))) (record { few = omega arith; short = All-nil (λ (e : RecipeEntry). e.length ≤ 65536) }))
    (λ one.
    let recipe : IsRecipe (sizes_of shape) c c.newest entries = is.newest one in
    record {
      few = omega (arith, recipe.count, newest_few shape c rules one);
      short = All-weaker (λ e. IsTrue (entry_holds (sizes_of shape) c c.newest e)) (λ e. e.length ≤ 65536) (λ e holds. holds_short shape c c.newest e holds) entries recipe.each;
    })
    (cases_lt (retained_in c) 1)
