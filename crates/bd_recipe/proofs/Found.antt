-- What was read of a version's recipe, as the answer that is expected.
use Rattle.std.proofs.Common.{◌≡◌, ◌≢◌, ℕ, zero, suc, ◌+◌, ◌-◌, ◌*◌, ◌≤◌, true, cond, List, [], ◌∷◌, ◌++◌, length, take, drop, refl, sym, ◌∙◌, ap, subst, arith, Some, None, slice_get}
use Rattle.std.specs.Prelude.{Ok, Err}
use Rattle.std.specs.List.{All, Contains, list_all}
use Rattle.std.proofs.Math.Seq.{take-add}
use Rattle.std.proofs.lemmas.Bool.{eq-eqb, ne_eqb}
use Rattle.std.proofs.lemmas.List.Elements.{All-weaker, All-contains_itself, Contains-append_left, Contains-append_right}
use Rattle.std.proofs.lemmas.List.Sums.{AllPass-from_list_all}
use Rattle.std.proofs.lemmas.Option.{slice_get_within}
use Rattle.bd_disk.specs.History.{History}
use Rattle.bd_disk.specs.Trace.{ReadsOnly}
use Rattle.bd_model.specs.Sizes.{Sizes}
use Rattle.bd_model.specs.Extents.{owner_bytes, owner_places, places_at}
use Rattle.bd_model.specs.Records.{entries_in}
use Rattle.bd_model.specs.declared.layout.RecipeEntry.{RecipeEntry}
use Rattle.bd_model.specs.declared.damage.Damage.{Damage}
use Rattle.bd_model.specs.declared.damage.Damage.TheVariants.{Entry, Sum}
use Rattle.bd_roll.specs.Catalogue.{Catalogue, recipe_extents}
use Rattle.bd_catalog.specs.Damages.{IsSeen, entry_places_of}
use Rattle.bd_catalog.specs.Sound.{recipe_of, entry_holds}
use Rattle.bd_recipe.specs.Entries.{first_bad, limits_for}
use Rattle.bd_recipe.specs.Reading.{IsRecipe, ReadsTo, chunks_in, length_in, recipe_found, total, with_sum}
use Rattle.bd_recipe.specs.declared.limits.Limits.{Limits}
use Rattle.bd_recipe.proofs.Entries.{entries_in-add, first_bad-front, first_bad-is, first_bad-none, length-entries_in}

-- the same of equal sizes, extents, counts and limits
pub moved : (F : Sizes → List ℕ → ℕ → Limits → Type 0) {s s' : Sizes} {extents extents' : List ℕ} {n n' : ℕ} {l l' : Limits} → s' ≡ s → extents' ≡ extents → n' ≡ n → l' ≡ l → F s' extents' n' l' → F s extents n l
moved F {s} {s'} {extents} {extents'} {n} {n'} {l} {l'} same_s same_extents same_n same_l f =
    subst (λ x. F x extents n l) same_s (subst (λ x. F s' x n l) same_extents (subst (λ x. F s' extents' x l) same_n (subst (λ x. F s' extents' n' x) same_l f)))

-- an entry of a list is one of a longer list
slice_get-front : {X : Type 0} (xs ys : List X) (i : ℕ) (x : X) → slice_get xs i ≡ Some x → slice_get (xs ++ ys) i ≡ Some x
slice_get-front [] ys i x is = absurd (no_item is) where
  no_item : None ≡ Some x → ⊥
  no_item h = cc
slice_get-front (y ∷ xs) ys zero x is = is
slice_get-front (y ∷ xs) ys (suc i) x is = slice_get-front xs ys i x is

-- the places of an entry are among those of the entries up to it
pub places_of_entry : (s : Sizes) (extents : List ℕ) (index count : ℕ) → suc index ≤ count → All (λ place. Contains (places_at s extents 0 (40 * count)) place) (places_at s extents (40 * index) 40)
places_of_entry s extents index count lt =
    let places = owner_places s extents in
    let rest = 40 * (count - suc index) in
    let front = take (40 * index) places in
    let part = take 40 (drop (40 * index) places) in
    let behind = take rest (drop (40 * index + 40) places) in
    let size : 40 * count ≡ 40 * index + 40 + rest = omega arith in
    let all : take (40 * count) places ≡ (front ++ part) ++ behind =
    ap (λ n. take n places) size ∙ take-add (40 * index + 40) rest places ∙ ap (λ l. l ++ behind) (take-add (40 * index) 40 places) in
    All-weaker (Contains part) (λ place. Contains (take (40 * count) places) place) (λ place h. subst (λ l. Contains l place) (sym all) (Contains-append_left (front ++ part) behind place (Contains-append_right front part place h))) part (All-contains_itself part)

module _ (s : Sizes) (c : Catalogue) (v : ℕ) (image : List ℕ) where
  abbrev pub entries : List RecipeEntry
  entries = recipe_of s c image v

  abbrev pub owner : List ℕ
  owner = owner_bytes s (recipe_extents c v) image

  -- ---- an entry that doesn't hold

  front_of : {damage : Damage} {old new : History} (r : ReadsTo (limits_for s c v) s (recipe_extents c v) owner (chunks_in c v) damage old new) → entries ≡ entries_in r.count owner ++ entries_in (chunks_in c v - r.count) (drop (40 * r.count) owner)
  front_of r =
      let size : chunks_in c v ≡ r.count + (chunks_in c v - r.count) = omega (arith, r.inside) in
      ap (λ n. entries_in n owner) size ∙ entries_in-add r.count (chunks_in c v - r.count) owner

  pub found-damaged : {damage : Damage} {old new : History} → ReadsTo (limits_for s c v) s (recipe_extents c v) owner (chunks_in c v) damage old new → recipe_found s c image v ≡ Err damage
  found-damaged {damage} r =
      let more = entries_in (chunks_in c v - r.count) (drop (40 * r.count) owner) in
      ap (with_sum v (length_in c v) entries) (ap (first_bad (entry_holds s c v) v 0) (front_of r) ∙ first_bad-front (entry_holds s c v) v 0 (entries_in r.count owner) more damage r.bad)

  pub seen-damaged : {damage : Damage} {old new : History} → ReadsTo (limits_for s c v) s (recipe_extents c v) owner (chunks_in c v) damage old new → IsSeen s c image [] damage old new
  seen-damaged {damage} {old} {new} r =
      let bad = first_bad-is (entry_holds s c v) v 0 (entries_in r.count owner) damage r.bad in
      let more = entries_in (chunks_in c v - r.count) (drop (40 * r.count) owner) in
      let index : 0 + bad.place ≡ bad.place = omega arith in
      let there : slice_get entries bad.place ≡ Some bad.entry = ap (λ l. slice_get l bad.place) (front_of r) ∙ slice_get-front (entries_in r.count owner) more bad.place bad.entry bad.there in
      let inside : suc bad.place ≤ r.count = omega (arith, slice_get_within (entries_in r.count owner) bad.place bad.entry bad.there, length-entries_in r.count owner) in
      subst (λ d. IsSeen s c image [] d old new) (sym (bad.so ∙ ap (λ k. Entry v k bad.entry.length bad.entry.start) index)) (record {
        places = entry_places_of s c v bad.place;
        read = record { more = places_at s (recipe_extents c v) 0 (40 * r.count); so = r.reads.so; all = places_of_entry s (recipe_extents c v) bad.place r.count inside };
        breaks = (bad.entry, there, refl, refl, bad.fails, refl);
      })

  -- ---- another sum

  module _ (hold : list_all (entry_holds s c v) entries ≡ true) where
    pub found-sum : total entries ≢ length_in c v → recipe_found s c image v ≡ Err (Sum v (length_in c v) (total entries))
    found-sum differ =
        ap (with_sum v (length_in c v) entries) (first_bad-none (entry_holds s c v) v 0 entries hold)
        ∙ ap (λ b. cond b (Ok entries) (Err (Sum v (length_in c v) (total entries)))) (ne_eqb (total entries) (length_in c v) differ)

    pub found-all : total entries ≡ length_in c v → recipe_found s c image v ≡ Ok entries
    found-all same =
        ap (with_sum v (length_in c v) entries) (first_bad-none (entry_holds s c v) v 0 entries hold)
        ∙ ap (λ b. cond b (Ok entries) (Err (Sum v (length_in c v) (total entries)))) (eq-eqb (total entries) (length_in c v) same)

    pub seen-sum : {old new : History} → total entries ≢ length_in c v → ReadsOnly (places_at s (recipe_extents c v) 0 (40 * chunks_in c v)) old new → IsSeen s c image [] (Sum v (length_in c v) (total entries)) old new
    seen-sum {old} {new} differ reads =
        let all = places_at s (recipe_extents c v) 0 (40 * chunks_in c v) in
        record {
          places = all;
          read = record { more = all; so = reads.so; all = All-contains_itself all };
          breaks = (hold, refl, refl, differ, ap (λ n. places_at s (recipe_extents c v) 0 (40 * n)) (sym (length-entries_in (chunks_in c v) owner)));
        }

-- entries that were read over any disk
pub is_recipe : (s : Sizes) (c : Catalogue) (v : ℕ) (entries : List RecipeEntry) → length entries ≡ chunks_in c v → list_all (entry_holds s c v) entries ≡ true → total entries ≡ length_in c v → IsRecipe s c v entries
is_recipe s c v entries count hold same = record { count = count; each = AllPass-from_list_all (entry_holds s c v) entries hold; sum = same }
