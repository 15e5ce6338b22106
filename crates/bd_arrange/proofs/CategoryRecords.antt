-- The records of a category, read one after the other.
use Rattle.std.proofs.Common.{◌≡◌, ◌≢◌, ℕ, suc, ◌+◌, ◌<◌, true, List, [], ◌∷◌, ◌++◌, append-nil, refl, sym, ◌∙◌, ap, subst, arith}
use Rattle.std.specs.Prelude.{IsTrue, ◌&&◌}
use Rattle.std.specs.List.{flat_map, list_all, sum_by}
use Rattle.std.proofs.lemmas.List.{map-append}
use Rattle.std.proofs.lemmas.List.Folds.{list_all-append}
use Rattle.std.proofs.lemmas.List.Sums.{sum_by-cons}
use Rattle.std.proofs.lemmas.Grind.{flat_map-append}
use Rattle.bd_disk.specs.History.{Call, History}
use Rattle.bd_disk.specs.Made.{Made}
use Rattle.bd_disk.specs.Trace.{ReadsOnly}
use Rattle.bd_disk.proofs.Traces.{has_read_later, read_all, reads_both, reads_none}
use Rattle.bd_model.specs.Records.{Stored}
use Rattle.bd_model.specs.Sizes.{Sizes}
use Rattle.bd_model.specs.declared.damage.Damage.{Damage}
use Rattle.bd_model.specs.declared.damage.Damage.TheVariants.{Row}
use Rattle.bd_model.specs.declared.damage.Owner.TheVariants.{Active}
use Rattle.bd_model.specs.declared.layout.RecipeEntry.{RecipeEntry}
use Rattle.bd_roll.specs.Catalogue.{Catalogue, OpenEntry}
use Rattle.bd_catalog.specs.Damages.{IsRecordOf, header_holds, header_places}
use Rattle.bd_catalog.specs.Rows.{RowPlace, Spot, first_spots, open_row, past, records_at, row_bytes, row_spots, spot_in}
use Rattle.bd_volume.specs.Headers.{IsRefusedAt}
use Rattle.bd_volume.proofs.ReadHeaders.{headers_row}
use Rattle.bd_volume.proofs.Spots.{past_sum, past-more, spots-more, spots_split}
use Rattle.bd_arrange.specs.Cuts.{IsDamageIn, IsFoundAt, PutsStretch, Sorts, TellsApart, bytes_in, is_kept}
use Rattle.bd_arrange.specs.declared.cut.Cut.{Cut}
use Rattle.bd_arrange.specs.declared.cut.Stretch.{Stretch}
use Rattle.bd_arrange.proofs.Stretches.{sorts_more}

-- the first n records of the row end at this place, and the cut tells them apart; their headers hold, and were read
pub record Told (s : Sizes) (image : List ℕ) (entries : List RecipeEntry) (p : RowPlace) (n at : ℕ) (cut : Cut) (old new : History) : Type 0 where
  pub next : at ≡ past p.from (first_spots s image p n)
  pub good : IsTrue (list_all (header_holds s p) (first_spots s image p n))
  pub reads : ReadsOnly (flat_map (header_places s) (first_spots s image p n)) old new
  pub apart : Sorts entries (records_at (first_spots s image p n)) cut

module _ (s : Sizes) (image : List ℕ) (entries : List RecipeEntry) (p : RowPlace) where
  pub told_none : (cut : Cut) (h : History) → Sorts entries [] cut → Told s image entries p 0 p.from cut h h
  told_none cut h sorts = record { next = refl; good = refl; reads = reads_none h; apart = sorts }

  pub told_more : (n at : ℕ) (cut cut_now : Cut) (x : Stretch) {old mid new : History} → x.chunks ≡ 1 → PutsStretch cut x cut_now → IsFoundAt s image entries p at x mid new →
      Told s image entries p n at cut old mid → Told s image entries p (n + 1) (at + x.bytes) cut_now old new
  told_more n at cut cut_now x {old} {mid} {new} one puts found told =
      let spots = first_spots s image p n in
      let more : n + 1 ≡ suc n = omega arith in
      let last = spot_in s image p (past p.from spots) in
      let list : first_spots s image p (n + 1) ≡ spots ++ last ∷ [] = ap (first_spots s image p) more ∙ spots-more p.extents (row_bytes s image p) n p.from in
      let there = told.next in
      let r : Stored = last.stored in
      let here : spot_in s image p at ≡ last = ap (spot_in s image p) there in
      let ends : at + x.bytes ≡ at + 36 + r.length = found.goes.ends ∙ ap (λ (y : Spot). at + 36 + y.stored.length) here in
      let size : x.bytes ≡ 36 + r.length = omega (arith, ends) in
      let way : is_kept entries r ≡ x.kept = subst (λ (y : Spot). is_kept entries y.stored ≡ x.kept) here found.way in
      let holds : header_holds s p last ≡ true = subst (λ y. header_holds s p y ≡ true) here found.goes.good in
      let places : flat_map (header_places s) (spots ++ last ∷ []) ≡ flat_map (header_places s) spots ++ header_places s last =
      flat_map-append (header_places s) spots (last ∷ []) ∙ ap (λ l. flat_map (header_places s) spots ++ l) (append-nil (header_places s last)) in
      let records : records_at (spots ++ last ∷ []) ≡ records_at spots ++ r ∷ [] = map-append (λ (y : Spot). y.stored) spots (last ∷ []) in
      record {
        next = ends ∙ ap (λ k. k + 36 + r.length) there ∙ sym (ap (λ k. past p.from (first_spots s image p k)) more ∙ past-more p.extents (row_bytes s image p) n p.from);
        good = ap (list_all (header_holds s p)) list ∙ list_all-append (header_holds s p) spots (last ∷ []) ∙ (λ i. told.good i && (holds i && true));
        reads = subst (λ l. ReadsOnly l old new) (sym (ap (flat_map (header_places s)) list ∙ places)) (reads_both told.reads (subst (λ y. ReadsOnly (header_places s y) mid new) here found.reads));
        apart = subst (λ l. Sorts entries l cut_now) (sym (ap records_at list ∙ records)) (sorts_more entries x (records_at spots) r one size cut cut_now way puts told.apart);
      }

-- ---- what is met

spot_bytes : (spots : List Spot) → sum_by (λ (x : Spot). 36 + x.stored.length) spots ≡ bytes_in (records_at spots)
spot_bytes [] = refl
spot_bytes (x ∷ xs) =
    sum_by-cons (λ (y : Spot). 36 + y.stored.length) x xs ∙ ap (λ n. 36 + x.stored.length + n) (spot_bytes xs)
    ∙ sym (sum_by-cons (λ (r : Stored). 36 + r.length) x.stored (records_at xs))

module _ (s : Sizes) (image : List ℕ) (entries : List RecipeEntry) (a : OpenEntry) (cut : Cut) where
  abbrev p : RowPlace
  p = open_row a

  same_end : (at : ℕ) {old new : History} → Told s image entries p a.row.chunks at cut old new → at ≡ bytes_in (records_at (row_spots s image p))
  same_end at told = omega (arith, told.next ∙ past_sum 0 (row_spots s image p))

  pub all_told : (at : ℕ) {old new : History} → at ≡ a.row.bytes → Told s image entries p a.row.chunks at cut old new → TellsApart s image entries a cut
  all_told at full told = record {
    whole = record { headers = headers_row s image p told.good; fills = sym (same_end at told) ∙ full };
    stretches = told.apart.stretches;
    kept = told.apart.kept;
    archived = told.apart.archived;
  }

  -- the records take another number of bytes than the row has
  pub bad_row : (c : Catalogue) (at : ℕ) {old new : History} → at ≢ a.row.bytes → Told s image entries p a.row.chunks at cut old new →
      IsDamageIn s c image (p ∷ []) (Row (Active a.row.start) a.row.start a.row.bytes at) old new
  bad_row c at differs told = record {
    part = tt;
    seen = record {
      places = flat_map (header_places s) (row_spots s image p);
      read = read_all told.reads;
      breaks = (p, (0, omega arith, refl), refl, refl, refl, (told.good, same_end at told ∙ sym (spot_bytes (row_spots s image p)), differs, refl));
    };
  }

  -- the header behind the first n records breaks its rule
  pub bad_header : (c : Catalogue) (n at : ℕ) (damage : Damage) {Kind : Call → Type 0} {old mid new : History} → n < a.row.chunks → Made Kind old mid → IsRefusedAt s p (spot_in s image p at) damage mid new →
      Told s image entries p n at cut old mid → IsDamageIn s c image (p ∷ []) damage old new
  bad_header c n at damage {Kind} {old} {mid} {new} lt made refused told =
      let x = spot_in s image p at in
      let first = first_spots s image p n in
      let split = spots_split p.extents (row_bytes s image p) n p.row.chunks p.from lt in
      let of : IsRecordOf s image (p ∷ []) p.who x.at p x = record {
        is_row = (0, omega arith, refl);
        is_owner = refl;
        is_at = refl;
        before = first;
        behind = split.0;
        so = split.1 ∙ ap (λ k. first ++ (spot_in s image p k ∷ split.0)) (sym told.next);
        good = told.good;
      } in
      subst (λ d. IsDamageIn s c image (p ∷ []) d old new) (sym refused.so) (record {
        part = tt;
        seen = record {
          places = refused.places;
          read = has_read_later refused.places made refused.read;
          breaks = (p, x, of, refused.bad);
        };
      })
