-- Walks that follow each other, what is met on them, and the records and rows that they go over.
use Rattle.std.proofs.Common.{◌≡◌, ℕ, ◌+◌, ◌<◌, Bool, List, [], ◌∷◌, ◌++◌, length, take, drop, get_or, refl, sym, ◌∙◌, ap, subst, append_assoc}
use Rattle.std.specs.Prelude.{if◌then◌else◌, ◌&&◌, IsTrue}
use Rattle.std.proofs.lemmas.List.Folds.{list_all-append}
use Rattle.std.specs.List.{list_all}
use Rattle.std.proofs.lemmas.List.{append-nil, map-append, take-append-drop, take_more}
use Rattle.std.proofs.lemmas.Grind.{flat_map-append}
use Rattle.bd_disk.specs.History.{Call, History}
use Rattle.bd_disk.specs.Made.{Made}
use Rattle.bd_disk.specs.Trace.{ReadsOnly}
use Rattle.bd_disk.proofs.Traces.{has_read_later, reads_both, reads_none}
use Rattle.bd_model.specs.Sizes.{Sizes}
use Rattle.bd_model.specs.Extents.{places_at}
use Rattle.bd_model.specs.Records.{Stored}
use Rattle.bd_model.specs.declared.damage.Damage.{Damage}
use Rattle.bd_model.specs.declared.layout.RecipeEntry.{RecipeEntry}
use Rattle.bd_catalog.specs.Damages.{header_holds}
use Rattle.bd_catalog.specs.Rows.{row_bytes, spot_in, RowPlace, Spot, first_spots, records_at, row_spots, spots_in, past}
use Rattle.bd_restore.specs.Met.{BreaksAt, MetAt, MetOn}
use Rattle.bd_restore.specs.Walk.{is_wanted, walk_reads, AreFlags, AreGiven, Gives, Sought, Walks}
use Rattle.bd_volume.specs.Headers.{HasGoodHeaders}
use Rattle.bd_volume.proofs.Spots.{spots_split}

-- ---- walks

module _ (s : Sizes) (entries : List RecipeEntry) where
  reads-append : (seen : List Stored) (xs ys : List Spot) → walk_reads s entries seen (xs ++ ys) ≡ walk_reads s entries seen xs ++ walk_reads s entries (seen ++ records_at xs) ys
  reads-append seen [] ys = ap (λ l. walk_reads s entries l ys) (sym (append-nil seen))
  reads-append seen (x ∷ xs) ys =
      let here = places_at s x.extents x.at 36 ++ (if is_wanted entries seen x.stored.mark then places_at s x.extents (x.at + 36) x.stored.length else []) in
      let rest = walk_reads s entries (seen ++ x.stored ∷ []) xs in
      ap (λ l. here ++ l) (reads-append (seen ++ x.stored ∷ []) xs ys)
      ∙ sym (append_assoc here rest (walk_reads s entries ((seen ++ x.stored ∷ []) ++ records_at xs) ys))
      ∙ ap (λ l. (here ++ rest) ++ walk_reads s entries l ys) (append_assoc seen (x.stored ∷ []) (records_at xs))

  pub seen_both : (seen : List Stored) (xs ys : List Spot) → (seen ++ records_at xs) ++ records_at ys ≡ seen ++ records_at (xs ++ ys)
  seen_both seen xs ys = append_assoc seen (records_at xs) (records_at ys) ∙ ap (λ l. seen ++ l) (sym (map-append (λ (x : Spot). x.stored) xs ys))

  pub walks_none : (filled : List Bool) (h : History) → Walks s entries [] filled filled h h
  walks_none filled h = record {
    flags = λ seen flags. subst (λ l. AreFlags entries l filled) (sym (append-nil seen)) flags;
    reads = λ seen flags. reads_none h;
  }

  pub walks_both : (xs ys : List Spot) (f g h : List Bool) {a b c : History} → Walks s entries xs f g a b → Walks s entries ys g h b c → Walks s entries (xs ++ ys) f h a c
  walks_both xs ys f g h {a} {b} {c} one other = record {
    flags = λ seen flags. subst (λ l. AreFlags entries l h) (seen_both seen xs ys) (other.flags (seen ++ records_at xs) (one.flags seen flags));
    reads = λ seen flags. subst (λ l. ReadsOnly l a c) (sym (reads-append seen xs ys)) (reads_both (one.reads seen flags) (other.reads (seen ++ records_at xs) (one.flags seen flags)));
  }

  pub gives_none : (filled : List Bool) (file : List ℕ) → Gives entries [] filled file file
  gives_none filled file = record { each = λ seen flags given. subst (λ l. AreGiven entries l file) (sym (append-nil seen)) given }

  pub gives_both : (xs ys : List Spot) (f g : List Bool) (p q r : List ℕ) {a b : History} → Walks s entries xs f g a b → Gives entries xs f p q → Gives entries ys g q r → Gives entries (xs ++ ys) f p r
  gives_both xs ys f g p q r walk one other = record {
    each = λ seen flags given. subst (λ l. AreGiven entries l r) (seen_both seen xs ys) (other.each (seen ++ records_at xs) (walk.flags seen flags) (one.each seen flags given));
  }

-- ---- headers that hold

pub headers_none : (s : Sizes) (image : List ℕ) → HasGoodHeaders s image []
headers_none s image = record { each = refl }

pub headers_both : (s : Sizes) (image : List ℕ) (xs ys : List RowPlace) → HasGoodHeaders s image xs → HasGoodHeaders s image ys → HasGoodHeaders s image (xs ++ ys)
headers_both s image xs ys one other = record { each = list_all-append (λ p. list_all (header_holds s p) (row_spots s image p)) xs ys ∙ (λ i. one.each i && other.each i) }

-- ---- what is met on a walk

pub spots-append : (s : Sizes) (image : List ℕ) (xs ys : List RowPlace) → spots_in s image (xs ++ ys) ≡ spots_in s image xs ++ spots_in s image ys
spots-append s image xs ys = flat_map-append (row_spots s image) xs ys

module _ (w : Sought) (image : List ℕ) (damage : Damage) where
  -- at the record behind the first ones of a row
  pub met_here : {Kind : Call → Type 0} (f g : List Bool) (p : RowPlace) (count at : ℕ) {a b c : History} → count < p.row.chunks → at ≡ past p.from (first_spots w.sizes image p count) → IsTrue (list_all (header_holds w.sizes p) (first_spots w.sizes image p count)) → Made Kind a b →
      ((seen : List Stored) → AreFlags w.entries seen f → AreFlags w.entries (seen ++ records_at (first_spots w.sizes image p count)) g) →
      MetAt w g p (spot_in w.sizes image p at) damage b c → MetOn w image f (p ∷ []) damage a c
  met_here f g p count at {a} {b} {c} lt there good made flags met =
      let first = first_spots w.sizes image p count in
      let split = spots_split p.extents (row_bytes w.sizes image p) count p.row.chunks p.from lt in
      record {
        place = p;
        spot = spot_in w.sizes image p at;
        reached = record {
          before = [];
          behind = [];
          so = refl;
          ahead = headers_none w.sizes image;
          first = first;
          later = split.0;
          spots = split.1 ∙ ap (λ k. first ++ (spot_in w.sizes image p k ∷ split.0)) (sym there);
          good = good;
        };
        places = met.places;
        breaks = λ seen are. met.breaks (seen ++ records_at first) (flags seen are);
        read = has_read_later met.places made met.read;
      }

  -- what is met on these rows is met where others follow
  pub met_before : (f : List Bool) (xs ys : List RowPlace) {a b : History} → MetOn w image f xs damage a b → MetOn w image f (xs ++ ys) damage a b
  met_before f xs ys met =
      let r = met.reached in
      record {
        place = met.place;
        spot = met.spot;
        reached = record {
          before = r.before;
          behind = r.behind ++ ys;
          so = ap (λ l. l ++ ys) r.so ∙ append_assoc r.before (met.place ∷ r.behind) ys;
          ahead = r.ahead;
          first = r.first;
          later = r.later;
          spots = r.spots;
          good = r.good;
        };
        places = met.places;
        breaks = met.breaks;
        read = met.read;
      }

  -- and after the walk over others, whose headers hold
  pub met_after : {Kind : Call → Type 0} (f g : List Bool) (xs ys : List RowPlace) {a b c : History} → Made Kind a b → HasGoodHeaders w.sizes image xs →
      ((seen : List Stored) → AreFlags w.entries seen f → AreFlags w.entries (seen ++ records_at (spots_in w.sizes image xs)) g) → MetOn w image g ys damage b c → MetOn w image f (xs ++ ys) damage a c
  met_after f g xs ys made good flags met =
      let r = met.reached in
      let mine = spots_in w.sizes image xs in
      let theirs = spots_in w.sizes image r.before in
      record {
        place = met.place;
        spot = met.spot;
        reached = record {
          before = xs ++ r.before;
          behind = r.behind;
          so = ap (λ l. xs ++ l) r.so ∙ sym (append_assoc xs r.before (met.place ∷ r.behind));
          ahead = headers_both w.sizes image xs r.before good r.ahead;
          first = r.first;
          later = r.later;
          spots = r.spots;
          good = r.good;
        };
        places = met.places;
        breaks = λ seen are.
            let spots : mine ++ (theirs ++ r.first) ≡ spots_in w.sizes image (xs ++ r.before) ++ r.first = sym (append_assoc mine theirs r.first) ∙ ap (λ l. l ++ r.first) (sym (spots-append w.sizes image xs r.before)) in
            subst (λ l. BreaksAt w (seen ++ records_at l) met.place met.spot damage met.places) spots
            (subst (λ l. BreaksAt w l met.place met.spot damage met.places) (seen_both w.sizes w.entries seen mine (theirs ++ r.first))
            (met.breaks (seen ++ records_at mine) (flags seen are)));
        read = has_read_later met.places made met.read;
      }

-- ---- rows

-- one row more, and what is behind it
module _ (places : List RowPlace) (i : ℕ) (p : RowPlace) (lt : i < length places) (here : get_or places i p ≡ p) where
  pub row_next : take (i + 1) places ≡ take i places ++ p ∷ []
  row_next = take_more places i p lt ∙ ap (λ x. take i places ++ x ∷ []) here

  pub row_rest : places ≡ (take i places ++ p ∷ []) ++ drop (i + 1) places
  row_rest = sym (take-append-drop (i + 1) places) ∙ ap (λ l. l ++ drop (i + 1) places) row_next
