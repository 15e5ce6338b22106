-- Damages that the reading of a record meets.
use Rattle.std.proofs.Common.{◌≡◌, ◌≢◌, ℕ, ◌+◌, ◌-◌, ◌≤◌, Bool, true, not, List, [], ◌++◌, take, drop, refl, sym, ◌∙◌, ap, subst, arith, drop-drop}
use Rattle.std.specs.Prelude.{Ok, Err, nat_lt, if◌then◌else◌}
use Rattle.std.proofs.Math.Seq.{take-add}
use Rattle.bd_disk.specs.History.{History}
use Rattle.bd_disk.specs.Trace.{reads, HasRead, ReadsOnly}
use Rattle.bd_disk.proofs.Traces.{read_all}
use Rattle.bd_model.specs.Sizes.{Sizes}
use Rattle.bd_model.specs.Extents.{owner_bytes, owner_places, places_at}
use Rattle.bd_model.specs.Marks.{mark}
use Rattle.bd_model.specs.Recipe.{has_mark}
use Rattle.bd_model.specs.Records.{Stored}
use Rattle.bd_model.specs.declared.damage.Damage.{Damage}
use Rattle.bd_model.specs.declared.damage.Damage.TheVariants.{Body as BadBody, Length as BadLength}
use Rattle.bd_model.specs.declared.layout.RecipeEntry.{RecipeEntry}
use Rattle.bd_model.specs.declared.mark.Mark.{Mark}
use Rattle.bd_model.proofs.ListLemmas.{left_and}
use Rattle.bd_catalog.specs.Damages.{header_places, record_places}
use Rattle.bd_catalog.specs.Rows.{RowPlace, Spot, row_end, spot_in}
use Rattle.bd_category.specs.declared.fault.Header.{Header}
use Rattle.bd_category.specs.Records.{header_at, body_at}
use Rattle.bd_restore.specs.Met.{HasEntry, MetAt}
use Rattle.bd_restore.specs.Walk.{AreFlags, Sought, is_found, is_wanted}
use Rattle.bd_volume.proofs.ReadHeaders.{IsStored, good_header, is_stored, refused_header}
use Rattle.bd_restore.proofs.WalkLemmas.{both_true}

module _ (w : Sought) (image : List ℕ) (p : RowPlace) (at : ℕ) where
  abbrev s : Sizes
  s = w.sizes

  abbrev x : Spot
  x = spot_in s image p at

  abbrev owner : List ℕ
  owner = owner_bytes s p.extents image

  module _ (filled : List Bool) where
    abbrev entries : List RecipeEntry
    entries = w.entries

    pub header_met : (damage : Damage) {old new : History} → at ≤ row_end p → header_at s p.who at (row_end p) owner ≡ Err damage → ReadsOnly (if nat_lt (row_end p - at) 36 then [] else header_places s x) old new → MetAt w filled p x damage old new
    header_met damage {old} {new} low is reads =
        let refused = refused_header s image p at damage low is reads in
        subst (λ d. MetAt w filled p x d old new) (sym refused.so) (record {
          places = refused.places;
          breaks = λ seen flags. (refl, refl, refused.bad);
          read = refused.read;
        })

    -- ---- the body behind it

    module _ (h : Header) (is : header_at s p.who at (row_end p) owner ≡ Ok h) (fits : at + 36 + h.length ≤ row_end p) (wanted : (seen : List Stored) → AreFlags entries seen filled → true ≡ is_wanted entries seen h.mark.0) where
      stored : IsStored at (row_end p) owner h x.stored
      stored = is_stored s p.who at (row_end p) owner h (omega (arith, fits)) fits is

      whole_read : {old new : History} → ReadsOnly (header_places s x ++ places_at s p.extents (h.at + 36) h.length) old new → HasRead (record_places s x) old new
      whole_read {old} {new} reads =
          let here = owner_places s p.extents in
          let n = x.stored.length in
          let same : header_places s x ++ places_at s p.extents (h.at + 36) h.length ≡ record_places s x =
          (λ i. header_places s x ++ places_at s p.extents (stored.place i + 36) (stored.size i))
          ∙ sym (take-add 36 n (drop at here) ∙ ap (λ l. take 36 (drop at here) ++ take n l) (drop-drop 36 at here)) in
          read_all (subst (λ l. ReadsOnly l old new) same reads)

      pub body_met : (damage : Damage) (body : List ℕ) {old new : History} → body ≡ body_at h owner → damage ≡ BadBody p.who h.at h.mark (record { 0 = mark body }) → (mark body ≡ h.mark.0 → ⊥) →
          ReadsOnly (header_places s x ++ places_at s p.extents (h.at + 36) h.length) old new → MetAt w filled p x damage old new
      body_met damage body {old} {new} given so other reads =
          let differ : record { 0 = mark body } ≢ h.mark = λ same. other (ap (λ (m : Mark). m.0) same) in
          subst (λ d. MetAt w filled p x d old new) (sym so) (record {
            places = record_places s x;
            breaks = λ seen flags. (
              refl,
              sym stored.place,
              (good_header s image p at h fits is, stored.mark, ap mark (given ∙ stored.body), differ, refl),
              left_and (has_mark entries h.mark.0) (not (is_found seen h.mark.0)) (sym (wanted seen flags)),
            );
            read = whole_read reads;
          })

      pub length_met : (damage : Damage) (m : Mark) (recorded found : ℕ) {old new : History} → damage ≡ BadLength w.version m recorded found → m.0 ≡ h.mark.0 → found ≡ h.length → found ≢ recorded → HasEntry entries h.mark.0 recorded →
          ReadsOnly (header_places s x ++ places_at s p.extents (h.at + 36) h.length) old new → MetAt w filled p x damage old new
      length_met damage m recorded found {old} {new} so same size differ has reads =
          subst (λ d. MetAt w filled p x d old new) (sym so) (record {
            places = record_places s x;
            breaks = λ seen flags. (
              refl,
              subst (λ l. HasEntry entries l recorded) (sym same) has,
              sym (same ∙ stored.mark),
              sym (size ∙ stored.size),
              differ,
              ap (is_found seen) same ∙ both_true (has_mark entries h.mark.0) (is_found seen h.mark.0) (sym (wanted seen flags)),
              good_header s image p at h fits is,
              refl,
            );
            read = whole_read reads;
          })
