-- Pieces of a recipe that are read one behind the other.
use Rattle.std.proofs.Common.{◌≡◌, ℕ, ◌+◌, ◌*◌, ◌≤◌, List, ◌++◌, length, take, drop, refl, sym, ◌∙◌, ap, subst, arith, Some, true}
use Rattle.std.proofs.Math.Seq.{take-add}
use Rattle.std.specs.List.{list_all}
use Rattle.bd_disk.specs.History.{History}
use Rattle.bd_disk.specs.Trace.{ReadsOnly}
use Rattle.bd_disk.proofs.Traces.{reads_both}
use Rattle.bd_model.specs.Sizes.{Sizes}
use Rattle.bd_model.specs.Extents.{owner_places, places_at}
use Rattle.bd_model.specs.Records.{entries_in}
use Rattle.bd_model.specs.declared.layout.RecipeEntry.{RecipeEntry}
use Rattle.bd_model.specs.declared.damage.Damage.{Damage}
use Rattle.bd_recipe.specs.Entries.{first_bad, is_within}
use Rattle.bd_recipe.specs.Reading.{ReadsTo}
use Rattle.bd_recipe.specs.declared.limits.Limits.{Limits}
use Rattle.bd_recipe.proofs.Entries.{entries_in-add, entries_in-take, length-entries_in, first_bad-behind}

-- the entries that a range of the owner's bytes says
pub entries_of-range : (done count : ℕ) (owner : List ℕ) → entries_in count (take (40 * count) (drop (40 * done) owner)) ≡ entries_in count (drop (40 * done) owner)
entries_of-range done count owner = entries_in-take count (40 * count) (drop (40 * done) owner) (omega arith)

module _ (s : Sizes) (extents : List ℕ) where
  -- one piece more is read
  pub reads_more : (done count now : ℕ) {a b c : History} → now ≡ done + count → ReadsOnly (places_at s extents 0 (40 * done)) a b → ReadsOnly (places_at s extents (40 * done) (40 * count)) b c → ReadsOnly (places_at s extents 0 (40 * now)) a c
  reads_more done count now {a} {b} {c} is first second =
      let places = owner_places s extents in
      let size : 40 * now ≡ 40 * done + 40 * count = omega arith in
      subst (λ l. ReadsOnly l a c) (sym (ap (λ n. take n places) size ∙ take-add (40 * done) (40 * count) places)) (reads_both first second)

-- and so the entries are those of the pieces
pub items_more : (owner : List ℕ) (done count now : ℕ) (old new : List RecipeEntry) → now ≡ done + count → old ≡ entries_in done owner → new ≡ old ++ entries_in count (drop (40 * done) owner) → new ≡ entries_in now owner
items_more owner done count now old new is before after =
    after ∙ ap (λ l. l ++ entries_in count (drop (40 * done) owner)) before ∙ sym (entries_in-add done count owner) ∙ ap (λ n. entries_in n owner) (sym is)

-- a piece has an entry that fails
pub reads_to-piece : (limits : Limits) (s : Sizes) (extents owner : List ℕ) (chunks done count : ℕ) (damage : Damage) {a b c : History} → done + count ≤ chunks → list_all (is_within limits) (entries_in done owner) ≡ true →
    first_bad (is_within limits) limits.version done (entries_in count (drop (40 * done) owner)) ≡ Some damage → ReadsOnly (places_at s extents 0 (40 * done)) a b → ReadsOnly (places_at s extents (40 * done) (40 * count)) b c → ReadsTo limits s extents owner chunks damage a c
reads_to-piece limits s extents owner chunks done count damage fits hold bad first second =
    let place : 0 + length (entries_in done owner) ≡ done = omega (arith, length-entries_in done owner) in
    let more = entries_in count (drop (40 * done) owner) in
    record {
      count = done + count;
      inside = fits;
      bad = ap (first_bad (is_within limits) limits.version 0) (entries_in-add done count owner)
          ∙ first_bad-behind (is_within limits) limits.version 0 (entries_in done owner) more hold
          ∙ ap (λ k. first_bad (is_within limits) limits.version k more) place
          ∙ bad;
      reads = reads_more s extents done count (done + count) refl first second;
    }
