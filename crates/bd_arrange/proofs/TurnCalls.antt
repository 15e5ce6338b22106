-- A turn of arranging, from what its calls promise.
use Rattle.std.proofs.Common.{◌≡◌, ℕ, ◌+◌, ◌<◌, ◌≤◌, true, false, List, [], ◌∷◌, ◌++◌, length, max, take, refl, sym, ◌∙◌, ap, subst, arith, eqb-true}
use Rattle.std.specs.Prelude.{All, ◌==◌}
use Rattle.std.proofs.lemmas.List.Elements.{All-weaker}
use Rattle.bd_disk.specs.History.{contents}
use Rattle.bd_disk.specs.declared.disk.Disk.{Ghosts}
use Rattle.bd_model.specs.Extents.{owner_bytes}
use Rattle.bd_model.specs.Records.{Stored}
use Rattle.bd_model.specs.Room.{up}
use Rattle.bd_model.specs.Sizes.{Sizes, disk_bytes}
use Rattle.bd_model.proofs.ListLemmas.{right_and}
use Rattle.bd_model.proofs.RoomLemmas.{up-enough}
use Rattle.bd_extio.specs.Ranges.{AreExtents}
use Rattle.bd_extio.proofs.Places.{length-owner_bytes}
use Rattle.bd_roll.specs.Rules.{active_holds, row_holds}
use Rattle.bd_volume.specs.Filled.{Filled}
use Rattle.bd_model.specs.declared.layout.RecipeEntry.{RecipeEntry}
use Rattle.bd_roll.specs.Catalogue.{OpenEntry, bytes_of_rows}
use Rattle.bd_category.specs.Laws.{written_records}
use Rattle.bd_volume.specs.Growing.{records_on}
use Rattle.bd_arrange.specs.Cuts.{TellsApart, bytes_in}
use Rattle.bd_arrange.specs.Desks.{IsToMove, OnDesk, Turned}
use Rattle.bd_arrange.specs.Moving.{CanSplit, IsKeptBy, SplitsBy, picked}
use Rattle.bd_arrange.specs.Turns.{IsKeptOf, archived_on, ground, kept_on}
use Rattle.bd_arrange.specs.declared.cut.Cut.{Cut}
use Rattle.bd_arrange.proofs.WrittenRecords.{archived-written, kept-written, length-kept}

module _ {D : Type 0} (g : Ghosts D) (s : Sizes) (entries : List RecipeEntry) (a : OpenEntry) (cut : Cut) (x y : D) (same : g.tells → contents (g.history y) ≡ contents (g.history x))
    (apart : g.tells → TellsApart s (contents (g.history x)) entries a cut) (free : ℕ) (desk : OnDesk) where
  abbrev image : List ℕ
  image = contents (g.history x)

  -- it can be split where a split is to be made
  to_move : g.tells → CanSplit s free desk.filling (max a.row.start desk.filling.oldest) cut → IsToMove (ground s entries image) free desk a
  to_move told can =
      let is = apart told in
      record {
        some = omega (arith, can.some, is.archived.chunks);
        order = can.order;
        room = subst (λ n. up s.extent (bytes_of_rows desk.filling.rows + n) + up s.extent (bytes_in (kept_on (ground s entries image) a)) ≤ length desk.filling.numbers + free) is.archived.bytes
            (subst (λ n. up s.extent (bytes_of_rows desk.filling.rows + cut.archived.bytes) + up s.extent n ≤ length desk.filling.numbers + free) is.kept.bytes can.room);
      }

  can_split : g.tells → IsToMove (ground s entries image) free desk a → CanSplit s free desk.filling (max a.row.start desk.filling.oldest) cut
  can_split told move =
      let is = apart told in
      record {
        some = omega (arith, move.some, is.archived.chunks);
        order = move.order;
        room = subst (λ n. up s.extent (bytes_of_rows desk.filling.rows + n) + up s.extent cut.kept.bytes ≤ length desk.filling.numbers + free) (sym is.archived.bytes)
            (subst (λ n. up s.extent (bytes_of_rows desk.filling.rows + bytes_in (archived_on (ground s entries image) a)) + up s.extent n ≤ length desk.filling.numbers + free) (sym is.kept.bytes) move.room);
      }

  pub turned_left : (new : OnDesk) → new ≡ desk → (CanSplit s free desk.filling (max a.row.start desk.filling.oldest) cut → ⊥) → Turned g s entries a free desk new x y
  turned_left new is cannot = record {
    split = [];
    becomes = is;
    whole = λ told. (apart told).whole;
    told = λ told move. cannot (can_split told move);
    archives = tt;
  }

  pub turned_split : (new : OnDesk) (z : D) → (g.tells → a.row.bytes ≤ length (owner_bytes s a.extents image)) → CanSplit s free desk.filling (max a.row.start desk.filling.oldest) cut → SplitsBy g s a cut desk new y z → Turned g s entries a free desk new x z
  turned_split new z enough can by =
      let items = cut.stretches.items in
      let raw = λ (told : g.tells). subst (λ (i : List ℕ). All (λ b. b < 256) (take a.row.bytes (owner_bytes s a.extents i))) (same told) (by.raw told) in
      record {
        split = by.entry ∷ [];
        becomes = by.becomes;
        whole = λ told. (apart told).whole;
        told = λ told.
            let is = apart told in
            let kept = kept_on (ground s entries image) a in
            let long : length (written_records kept) ≡ cut.kept.bytes = length-kept s image entries a items is.whole is.stretches (enough told) (raw told) ∙ sym is.kept.bytes in (
              to_move told can,
              record {
                chunks = by.chunks ∙ is.archived.chunks;
                bytes = by.bytes ∙ is.archived.bytes;
                kept = All-weaker (IsKeptBy g s a cut y z) (IsKeptOf (ground s entries image) (contents (g.history z)) a) (λ k by_cut. record {
                  chunks = by_cut.chunks ∙ is.kept.chunks;
                  bytes = by_cut.bytes ∙ is.kept.bytes;
                  records = record {
                    front = ap (λ n. take n (owner_bytes s k.extents (contents (g.history z)))) long
                        ∙ by_cut.records told
                        ∙ ap (λ i. picked true items (owner_bytes s a.extents i)) (same told)
                        ∙ kept-written s image entries a items is.whole is.stretches (enough told) (raw told);
                  };
                }) by.entry.kept by.kept;
                none = λ none. empty kept (sym is.kept.chunks ∙ by.none none);
              },
            );
        archives = λ told.
            let is = apart told in
            by.archives told
            ∙ (λ i. take (bytes_of_rows desk.filling.rows) (owner_bytes s desk.filling.numbers (same told i)) ++ picked false items (owner_bytes s a.extents (same told i)))
            ∙ ap (λ l. records_on g s desk.filling x ++ l) (archived-written s image entries a items is.whole is.stretches (enough told) (raw told));
      }
    where
      empty : (l : List Stored) → length l ≡ 0 → l ≡ []
      empty [] e = refl
      empty (r ∷ l) e = absurd (omega (arith, e))

-- the same of equal numbers
pub can_at : (s : Sizes) (free free_now latest latest_now : ℕ) (f h : Filled) (cut : Cut) → free ≡ free_now → f ≡ h → latest ≡ latest_now → CanSplit s free f latest cut → CanSplit s free_now h latest_now cut
can_at s free free_now latest latest_now f h cut is_free is_filling is_latest can =
    subst (λ (n : ℕ). CanSplit s free_now h n cut) is_latest (subst (λ (m : Filled). CanSplit s free_now m latest cut) is_filling (subst (λ (n : ℕ). CanSplit s n f latest cut) is_free can))

-- the category's bytes are there
pub row_in_owner : (s : Sizes) (a : OpenEntry) (image : List ℕ) → 1 ≤ s.extent → active_holds s a ≡ true → AreExtents s a.extents → disk_bytes s ≤ length image → a.row.bytes ≤ length (owner_bytes s a.extents image)
row_in_owner s a image some holds extents room =
    let sized = eqb-true (length a.extents) (up s.extent a.row.bytes) (right_and (row_holds s a.row) (length a.extents == up s.extent a.row.bytes) holds) in
    omega (arith, length-owner_bytes s a.extents some extents.below image room, up-enough s.extent a.row.bytes (length a.extents) some sized)
