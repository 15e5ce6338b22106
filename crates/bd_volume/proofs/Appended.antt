-- A volume once records came behind the others.
use Rattle.std.proofs.Common.{◌≡◌, ℕ, ◌+◌, ◌*◌, ◌<◌, ◌≤◌, ◌^◌, List, ◌++◌, length, take, max, sym, ◌∙◌, ap, subst, arith, All, length-take, length-append}
use Rattle.std.specs.List.{list_all}
use Rattle.std.specs.List.Sorted.{IsStrictlyIncreasing}
use Rattle.std.proofs.lemmas.List.{take-append-le}
use Rattle.std.proofs.lemmas.Grind.{flat_map-append}
use Rattle.bd_disk.specs.Images.{overwritten}
use Rattle.bd_model.specs.Extents.{extent_bytes, owner_bytes}
use Rattle.bd_model.specs.Laws.{rows_more}
use Rattle.bd_model.specs.Room.{up}
use Rattle.bd_model.specs.Sizes.{Sizes, disk_bytes}
use Rattle.bd_model.proofs.RoomLemmas.{up-enough}
use Rattle.bd_extio.specs.Ranges.{AreExtents}
use Rattle.bd_extio.proofs.Places.{length-owner_bytes}
use Rattle.bd_space.specs.Allotment.{Allotment, IsTaken}
use Rattle.bd_roll.specs.Catalogue.{bytes_of_rows, row_starts}
use Rattle.bd_roll.specs.Rules.{row_holds}
use Rattle.bd_catalog.specs.Standing.{BeginWith}
use Rattle.bd_catalog.proofs.AgreeLemmas.{begin_with_more}
use Rattle.bd_volume.specs.Filled.{Filled}
use Rattle.bd_volume.specs.Growing.{AddsExtents, AreCounted, CanGrow, HasExtents, NoneLater, rows_after}
use Rattle.bd_volume.proofs.RowsMore.{bytes-rows_more, rows_more-ascend, rows_more-hold}

-- one record
pub one_counted : (s : Sizes) (n : ℕ) → 1 ≤ n → n ≤ s.max → AreCounted s 1 (36 + n)
one_counted s n some short = record { some = omega arith; low = omega (arith, some); high = omega (arith, short) }

-- before, once there is room for them, and once their row is counted
module _ (s : Sizes) (some : 1 ≤ s.extent) (old room new : Filled) (start chunks bytes : ℕ) (space space_now : Allotment) (before : HasExtents s space old (bytes_of_rows old.rows))
    (rows : room.rows ≡ old.rows) (adds : AddsExtents space space_now old room) (after : HasExtents s space_now room (bytes_of_rows old.rows + bytes))
    (put : new ≡ record room { rows = rows_after room start chunks bytes; spare = new.spare }) where
  rows_put : new.rows ≡ rows_after old start chunks bytes
  rows_put = ap (λ (f : Filled). f.rows) put ∙ (λ k. rows_more (max start (adds.oldest k)) chunks bytes (rows k))

  numbers_put : new.numbers ≡ room.numbers
  numbers_put = ap (λ (f : Filled). f.numbers) put

  bytes-after : bytes_of_rows new.rows ≡ bytes_of_rows old.rows + bytes
  bytes-after = ap bytes_of_rows rows_put ∙ bytes-rows_more (max start old.oldest) chunks bytes old.rows

  -- it may get more of them
  pub grown : s.max ≤ 65536 → CanGrow s space old → NoneLater old start → AreCounted s chunks bytes → bytes_of_rows old.rows + bytes < 2 ^ 42 → CanGrow s space_now new
  grown short grows order counted small = record {
    rows = ap (list_all (row_holds s)) rows_put ∙ rows_more-hold s short (max start old.oldest) chunks bytes counted old.rows small grows.rows;
    ascend = subst (λ l. IsStrictlyIncreasing (row_starts l)) (sym rows_put) (rows_more-ascend (max start old.oldest) chunks bytes old.rows order grows.ascend);
    extents = record {
      sized = ap length numbers_put ∙ after.sized ∙ ap (up s.extent) (sym bytes-after);
      extents = subst (AreExtents s) (sym numbers_put) after.extents;
      taken = subst (All (IsTaken space_now)) (sym numbers_put) after.taken;
      count = after.count;
    };
  }

  -- the bytes of its records are those before, and these behind them
  pub appended : (image now written to : List ℕ) (place : ℕ) → disk_bytes s ≤ length image → length written ≡ bytes → to ≡ room.numbers → place ≡ bytes_of_rows old.rows →
      owner_bytes s to now ≡ overwritten (owner_bytes s to image) place written →
      take (bytes_of_rows new.rows) (owner_bytes s new.numbers now) ≡ take (bytes_of_rows old.rows) (owner_bytes s old.numbers image) ++ written
  appended image now written to place enough long target behind is =
      let known = bytes_of_rows old.rows in
      let owner = owner_bytes s old.numbers image in
      let all = owner_bytes s room.numbers image in
      let whole : length owner ≡ length old.numbers * s.extent = length-owner_bytes s old.numbers some before.extents.below image enough in
      let wide : length all ≡ length room.numbers * s.extent = length-owner_bytes s room.numbers some after.extents.below image enough in
      let inside : known ≤ length owner = omega (arith, whole, up-enough s.extent known (length old.numbers) some before.sized) in
      let fits : known + bytes ≤ length all = omega (arith, wide, up-enough s.extent (known + bytes) (length room.numbers) some after.sized) in
      let first = take known owner in
      let sized : length first ≡ known = omega (arith, length-take known owner, inside) in
      let begins : BeginWith s room.numbers first image = record {
        front = (λ k. take (sized k) (owner_bytes s (adds.numbers k) image))
            ∙ ap (take known) (flat_map-append (extent_bytes s image) old.numbers adds.more)
            ∙ take-append-le known owner (owner_bytes s adds.more image) inside;
      } in
      let whole_now : owner_bytes s room.numbers now ≡ overwritten all (length first) written =
      (λ k. owner_bytes s (sym target k) now) ∙ is ∙ (λ k. overwritten (owner_bytes s (target k) image) (behind k) written) ∙ ap (λ n. overwritten all n written) (sym sized) in
      let both = begin_with_more s room.numbers first written image now begins (omega (arith, sized, long, fits)) whole_now in
      let total : bytes_of_rows new.rows ≡ length (first ++ written) = omega (arith, bytes-after, length-append first written, sized, long) in
      (λ k. take (total k) (owner_bytes s (numbers_put k) now)) ∙ both.front
