-- All that a version needs, once its chunks are staged.
use Rattle.std.proofs.Common.{◌≡◌, ℕ, ◌+◌, ◌*◌, ◌≤◌, List, length, sym, ◌∙◌, ap, arith}
use Rattle.bd_model.specs.Laws.{entries_of_chunks}
use Rattle.bd_model.specs.Layout.{record_bytes}
use Rattle.bd_model.specs.Recipe.{has_mark}
use Rattle.bd_model.specs.Room.{up, need_of}
use Rattle.bd_intake.specs.declared.staging.Staging.{Staging}
use Rattle.bd_intake.specs.Firsts.{new_by_mark}
use Rattle.bd_intake.specs.Given.{Given}
use Rattle.bd_intake.specs.Needs.{need_in}
use Rattle.bd_intake.specs.Seen.{AreUsed}
use Rattle.bd_intake.specs.Staging.{OwnersHaveExtents, HasTaken}
use Rattle.bd_intake.specs.Tallies.{moved_of}
use Rattle.bd_intake.proofs.Firsts.{extents-in_need, has_mark-entries}

module _ (t : Given) (taken : List (List ℕ)) (a : Staging) (has : HasTaken t taken a) where
  -- the flags are those of the recipe
  pub used_by : AreUsed t.old (has_mark (entries_of_chunks t.old t.version taken)) a.seen.used
  used_by = record { count = has.used.count; firsts = λ m k at. has.used.firsts m k at ∙ sym (has_mark-entries t.old t.version taken m) }

  pub need_is : (some : 1 ≤ t.sizes.extent) → OwnersHaveExtents t.sizes a → (moved need : ℕ) → moved ≡ moved_of t.sizes.extent t.old (entries_of_chunks t.old t.version taken) →
      need ≡ length a.fresh.numbers + length a.recipe.numbers + moved → need ≡ need_in t taken
  unfolding need_of
  need_is some long moved need is sum =
      let extent = t.sizes.extent in
      let records : up extent a.fresh_bytes ≡ up extent (record_bytes (new_by_mark t.old taken)) = ap (up extent) has.record_bytes_is in
      let entries : up extent (40 * a.chunks) ≡ up extent (40 * length taken) = ap (λ n. up extent (40 * n)) has.chunk_count in
      omega (arith, sum, is, long.recipe, long.fresh, records, entries, extents-in_need t.old t.version extent some taken)
