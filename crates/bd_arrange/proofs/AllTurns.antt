-- All turns of arranging, one after the other.
use Rattle.std.proofs.Common.{◌≡◌, ⊎_elim, ℕ, zero, suc, ◌+◌, ◌-◌, ◌<◌, ◌≤◌, max, not, true, false, cond, List, [], ◌∷◌, ◌++◌, append_assoc, length, map, filter, refl, sym, ◌∙◌, ap, subst, arith, nat_lt, lt-ltb}
use Rattle.std.specs.Prelude.{All, IsTrue}
use Rattle.std.specs.List.{flat_map, list_all, range_with_len}
use Rattle.std.proofs.lemmas.Bool.{cases_lt}
use Rattle.std.proofs.lemmas.List.{append-nil, length-map, nil_from_length}
use Rattle.std.proofs.lemmas.List.Elements.{All-weaker}
use Rattle.std.proofs.lemmas.Grind.{flat_map-append}
use Rattle.bd_model.specs.History.{VersionHistory, contains, newest, oldest}
use Rattle.bd_model.specs.Laws.{ArrangesOne, grown}
use Rattle.bd_model.specs.Layout.{closed_volume, open_category, record_bytes, row_of, rows}
use Rattle.bd_model.specs.Marks.{mark}
use Rattle.bd_model.specs.Recipe.{has_mark}
use Rattle.bd_model.specs.Records.{record_of, records_of}
use Rattle.bd_model.specs.Room.{archived, kept, up}
use Rattle.bd_model.specs.Sizes.{Sizes}
use Rattle.bd_model.specs.declared.layout.CategoryRow.{CategoryRow}
use Rattle.bd_model.specs.declared.layout.Phase.TheVariants.{Settled, Waiting}
use Rattle.bd_model.specs.declared.layout.RecipeEntry.{RecipeEntry}
use Rattle.bd_model.proofs.ArrangeLemmas.{one_step_of_arranging}
use Rattle.bd_model.proofs.ListLemmas.{left_and}
use Rattle.bd_model.proofs.RowLemmas.{no_chunks, rows_over}
use Rattle.bd_category.specs.Laws.{written_records}
use Rattle.bd_roll.specs.Catalogue.{Catalogue, OpenEntry, bytes_of_rows, oldest_in}
use Rattle.bd_catalog.specs.Rows.{open_row}
use Rattle.bd_roll.specs.Rules.{active_holds}
use Rattle.bd_roll.specs.Splitting.{MaySplit, MaySplits, SplitEntry, after_split, after_splits, last_rows}
use Rattle.bd_catalog.specs.Standing.{BeginWith, HasActives}
use Rattle.bd_roll.proofs.InPlace.{Named}
use Rattle.bd_roll.proofs.RuleLemmas.{open_row_of, row_of as row_rule, IsBounded}
use Rattle.bd_volume.specs.Holding.{HoldsRow, HoldsRows, group_at, groups_over}
use Rattle.bd_volume.proofs.StoredChunks.{Bounded, stored_of}
use Rattle.bd_arrange.specs.Cuts.{archived_records, bytes_in, kept_records, records_in}
use Rattle.bd_arrange.specs.Turns.{Ground, IsKeptOf, IsSplit, IsToSplit, Turns, archived_bytes, archived_on, ground, kept_on, taken_by}
use Rattle.bd_arrange.proofs.LastVolume.{rows_of}
use Rattle.bd_arrange.proofs.OneTurn.{IsAt, SplitsSo, has_room, left_at, rows_now, same_volume, split_at}
use Rattle.bd_arrange.proofs.OpenRows.{IsAlone}
use Rattle.bd_arrange.proofs.Told.{archived-told, bytes-stored, kept-told, records-held, written-stored}
use Rattle.bd_arrange.proofs.Splits.{starting}

-- The categories f wait from the cursor on, as they were before the version of the chunks w, and the entries tell which of
-- their chunks it uses.
pub record AreWaiting (s : Sizes) (h : VersionHistory) (w : List (List ℕ)) (entries : List RecipeEntry) (cursor : ℕ) (f : ℕ → List (List ℕ)) : Type 0 where
  pub sizes : IsBounded s
  pub some : h.expired < length h.versions
  pub low : h.base + 1 ≤ cursor
  pub as_before : (i : ℕ) → cursor ≤ i → i ≤ newest h → f i ≡ open_category h Settled i
  pub bounded : (i : ℕ) → cursor ≤ i → i ≤ newest h → Bounded s (f i)
  pub told : (i : ℕ) (x : List ℕ) → i ≤ newest h → contains (open_category h Settled i) x ≡ true → has_mark entries (mark x) ≡ contains w x

-- what the turns from start i on leave of a catalogue
pub record Leads (s : Sizes) (h : VersionHistory) (w : List (List ℕ)) (g : Ground) (now : List ℕ) (c : Catalogue) (i : ℕ) (d : Catalogue) (es : List SplitEntry) : Type 0 where
  pub actives : HasActives s (grown h w) (Waiting (newest h + 1)) (after_splits d es) now
  pub rows : rows_of (after_splits d es).volumes ≡ map (rows (grown h w) (Waiting (newest h + 1))) (range_with_len (oldest h) (suc (newest h - oldest h)))
  pub bytes : records_of (closed_volume (grown h w) (Waiting i) (newest h)) ++ flat_map (archived_bytes g c) es ≡ records_of (closed_volume (grown h w) (Waiting (newest h + 1)) (newest h))

no_stored : (cs : List (List ℕ)) → map stored_of cs ≡ [] → cs ≡ []
no_stored [] none = refl
no_stored (c ∷ cs) none = absurd (omega (arith, ap (λ l. length l) none))

module _ (s : Sizes) (h : VersionHistory) (w : List (List ℕ)) (entries : List RecipeEntry) (old now : List ℕ) (c : Catalogue) (cursor : ℕ) (f : ℕ → List (List ℕ)) (are : AreWaiting s h w entries cursor f) where
  abbrev next : VersionHistory
  next = grown h w

  abbrev g : Ground
  g = ground s entries old

  -- ---- the category of start i

  module _ (i : ℕ) (from : cursor ≤ i) (to : i ≤ newest h) where
    low : h.base + 1 ≤ i
    low = omega (arith, are.low)

    module _ (a : OpenEntry) (holds : HoldsRow s old (open_row a) (group_at f i)) where
      start : a.row.start ≡ i
      start = ap (λ (r : CategoryRow). r.start) holds.row

      records : records_in s old a ≡ map stored_of (open_category h Settled i)
      records = records-held s are.sizes.chunk old a (group_at f i) holds (are.bounded i from to) ∙ ap (map stored_of) (are.as_before i from to)

      kept_are : kept_on g a ≡ map stored_of (kept h w i)
      kept_are = ap (kept_records entries) records ∙ kept-told entries (contains w) (open_category h Settled i) (λ x has. are.told i x to has)

      archived_are : archived_on g a ≡ map stored_of (archived h w i)
      archived_are = ap (archived_records entries) records ∙ archived-told entries (contains w) (open_category h Settled i) (λ x has. are.told i x to has)

      archived_count : length (archived_on g a) ≡ length (archived h w i)
      archived_count = ap (λ l. length l) archived_are ∙ length-map (archived h w i) stored_of

      archived_size : bytes_in (archived_on g a) ≡ record_bytes (archived h w i)
      archived_size = ap bytes_in archived_are ∙ bytes-stored (archived h w i)

      kept_size : bytes_in (kept_on g a) ≡ record_bytes (kept h w i)
      kept_size = ap bytes_in kept_are ∙ bytes-stored (kept h w i)

      -- a split is to be made where something is archived
      to_split : (free : ℕ) (d : Catalogue) → IsAt s h w now free d i → 1 ≤ length (archived h w i) → IsToSplit g free d a
      to_split free d at more =
          let step : ArrangesOne h w i = one_step_of_arranging.each h w i low to are.some in
          record {
            some = omega (arith, archived_count);
            order = subst (All (λ row. row.start ≤ max a.row.start (oldest_in d))) (sym (rows_now s h w now are.sizes.extent are.some i low to free d at))
                (All-weaker (λ row. row.start ≤ max (i - 1) (oldest h)) (λ row. row.start ≤ max a.row.start (oldest_in d)) (λ row le. omega (arith, le, start, at.since)) (rows next (Waiting i) (newest h)) step.rows_end);
            room = omega (
              arith,
              has_room s h w now are.sizes.extent are.some i low to free d at more,
              ap (λ n. up s.extent (bytes_of_rows (last_rows d.volumes) + n)) archived_size,
              ap (up s.extent) kept_size,
            );
          }

      -- what is kept, as its row and its bytes
      kept_so : (ks : List OpenEntry) → length ks ≤ 1 → IsTrue (list_all (active_holds s) ks) → Named i ks → All (IsKeptOf g now a) ks → (ks ≡ [] → kept_on g a ≡ []) →
          (map (λ k. k.row) ks ≡ rows_over (λ _. kept h w i) (i ∷ [])) × BeginWith s (flat_map (λ k. k.extents) ks) (records_of (kept h w i)) now
      kept_so [] few hold named each none =
          let empty : kept h w i ≡ [] = no_stored (kept h w i) (sym kept_are ∙ none refl) in
          (ap (λ cs. rows_over (λ _. cs) (i ∷ [])) (sym empty), subst (λ cs. BeginWith s [] (records_of cs) now) (sym empty) (record { front = refl }))
      kept_so (k ∷ l ∷ ks) few hold named each none = absurd (omega (arith, few))
      kept_so (k ∷ []) few hold named each none =
          let own : IsKeptOf g now a k = each 0 k (omega arith) in
          let at_start : k.row.start ≡ i = named 0 k (omega arith) in
          let chunks : k.row.chunks ≡ length (kept h w i) = own.chunks ∙ ap (λ l. length l) kept_are ∙ length-map (kept h w i) stored_of in
          let bytes : k.row.bytes ≡ record_bytes (kept h w i) = own.bytes ∙ kept_size in
          let row : k.row ≡ row_of i (kept h w i) = λ j. record { start = at_start j; chunks = chunks j; bytes = bytes j } in
          let filled : nat_lt 0 (length (kept h w i)) ≡ true = lt-ltb 0 (length (kept h w i)) (omega (arith, chunks, (row_rule s are.sizes k.row (open_row_of s are.sizes k (left_and (active_holds s k) true hold))).some)) in (
            ap (λ r. r ∷ []) row ∙ sym (ap (λ t. cond t (row_of i (kept h w i) ∷ []) []) filled),
            subst (λ xs. BeginWith s xs (records_of (kept h w i)) now) (sym (append-nil k.extents))
                (subst (λ bytes. BeginWith s k.extents bytes now) (ap written_records kept_are ∙ written-stored (kept h w i)) own.records),
          )

      splits_so : (free : ℕ) (d : Catalogue) (e : SplitEntry) → IsSplit g now free d a e → MaySplit s d e → SplitsSo s h w now i e
      splits_so free d e split may =
          let begins : e.start ≡ i = split.start ∙ start in
          let named : Named i e.kept = subst (λ n. Named n e.kept) begins may.kept_starts in
          let left = kept_so e.kept may.one may.kept_holds named split.kept split.none in
          record {
            start = begins;
            some = omega (arith, split.made.some, archived_count);
            chunks = split.chunks ∙ archived_count;
            bytes = split.bytes ∙ archived_size;
            rows = left.0;
            records = left.1;
          }

      archived_so : (e : SplitEntry) → e.start ≡ a.row.start → IsAlone c.actives a → archived_bytes g c e ≡ records_of (archived h w i)
      archived_so e same alone =
          let written : OpenEntry → List ℕ = λ x. written_records (archived_on g x) in
          ap (λ n. flat_map written (starting n c.actives)) same
          ∙ ap (flat_map written) alone
          ∙ append-nil (written a)
          ∙ ap written_records archived_are ∙ written-stored (archived h w i)

    -- ---- from the next start on

    after_left : (d : Catalogue) (es : List SplitEntry) → archived h w i ≡ [] → Leads s h w g now c (i + 1) d es → Leads s h w g now c i d es
    after_left d es none leads = record {
      actives = leads.actives;
      rows = leads.rows;
      bytes = ap (λ cs. records_of cs ++ flat_map (archived_bytes g c) es) (sym (same_volume s h w now are.sizes.extent are.some i low to none)) ∙ leads.bytes;
    }

    after_one : (d : Catalogue) (e : SplitEntry) (es : List SplitEntry) → archived_bytes g c e ≡ records_of (archived h w i) → Leads s h w g now c (i + 1) (after_split d e) es → Leads s h w g now c i d (e ∷ es)
    after_one d e es archives leads =
        let step : ArrangesOne h w i = one_step_of_arranging.each h w i low to are.some in
        let before = closed_volume next (Waiting i) (newest h) in
        let rest = flat_map (archived_bytes g c) es in
        record {
          actives = leads.actives;
          rows = leads.rows;
          bytes =
              ap (λ bytes. records_of before ++ (bytes ++ rest)) archives
              ∙ sym (append_assoc (records_of before) (records_of (archived h w i)) rest)
              ∙ ap (λ bytes. bytes ++ rest) (sym (flat_map-append record_of before (archived h w i)) ∙ ap records_of (sym step.volume))
              ∙ leads.bytes;
        }

    -- what the later turns make of each catalogue at the next start
    abbrev LaterTurns : ℕ → Type 0
    LaterTurns n = (free : ℕ) (d : Catalogue) (more : List OpenEntry) (es : List SplitEntry) → IsAt s h w now free d (i + 1) → HoldsRows s old (map open_row more) (groups_over f (range_with_len (i + 1) n)) →
        All (IsAlone c.actives) more → MaySplits s d es → Turns g now free d more es → Leads s h w g now c (i + 1) d es

    -- the turn of a category, and then those
    turn : (n free : ℕ) (d : Catalogue) (more : List OpenEntry) (es : List SplitEntry) → IsAt s h w now free d i → HoldsRows s old (map open_row more) (group_at f i ∷ groups_over f (range_with_len (i + 1) n)) →
        All (IsAlone c.actives) more → MaySplits s d es → Turns g now free d more es → LaterTurns n → Leads s h w g now c i d es
    turn n free d [] es at holds alone may turns later = absurd holds
    turn n free d (a ∷ more) es at holds alone may turns later =
        let others : All (IsAlone c.actives) more = λ k x below. alone (suc k) x (omega (arith, below)) in
        ⊎_elim
        (λ left.
        let none : archived h w i ≡ [] =
        nil_from_length (archived h w i) (⊎_elim (λ some. absurd (left.0.stays (to_split a holds.0 free d at (omega (arith, some))))) (λ le. omega (arith, le)) (cases_lt 0 (length (archived h w i)))) in
        after_left d es none (later free d more es (left_at s h w now are.sizes.extent are.some i low to none free d at) holds.1 others may left.1))
        (λ split.
        let e = split.0 in
        let rest = split.1 in
        let may_all : MaySplits s d (e ∷ rest) = subst (MaySplits s d) split.2 may in
        let so : SplitsSo s h w now i e = splits_so a holds.0 free d e split.3 may_all.0 in
        subst (Leads s h w g now c i d) (sym split.2)
        (after_one d e rest (archived_so a holds.0 e split.3.start (alone 0 a (omega arith)))
        (later (free - taken_by e) (after_split d e) more rest (split_at s h w now are.sizes.extent are.some i low to free d at e may_all.0 so) holds.1 others may_all.1 split.4)))
        turns

  -- ---- all starts

  turns_from : (n i free : ℕ) (d : Catalogue) (more : List OpenEntry) (es : List SplitEntry) → i + n ≡ newest h + 1 → cursor ≤ i → IsAt s h w now free d i → HoldsRows s old (map open_row more) (groups_over f (range_with_len i n)) →
      All (IsAlone c.actives) more → MaySplits s d es → Turns g now free d more es → Leads s h w g now c i d es
  turns_from zero i free d [] es end from at holds alone may turns =
      let last : i ≡ newest h + 1 = omega arith in
      let done : IsAt s h w now free d (newest h + 1) = subst (IsAt s h w now free d) last at in
      subst (Leads s h w g now c i d) (sym turns)
      (record {
        actives = done.actives;
        rows = done.rows;
        bytes = append-nil (records_of (closed_volume next (Waiting i) (newest h))) ∙ ap (λ n. records_of (closed_volume next (Waiting n) (newest h))) last;
      })
  turns_from zero i free d (a ∷ more) es end from at holds alone may turns = absurd holds
  turns_from (suc n) i free d more es end from at holds alone may turns =
      let to : i ≤ newest h = omega arith in
      let groups = groups_over f (range_with_len (i + 1) n) in
      let later : LaterTurns i from to n = λ free_later d_later more_later es_later. turns_from n (i + 1) free_later d_later more_later es_later (omega arith) (omega arith) in
      elim (nat_lt 0 (length (f i))) as (λ t. nat_lt 0 (length (f i)) ≡ t → HoldsRows s old (map open_row more) (cond t (group_at f i ∷ groups) groups) → Leads s h w g now c i d es) [
        | true ↦ λ _ held. turn i from to n free d more es at held alone may turns later
        | false ↦ λ none held.
            let empty : open_category h Settled i ≡ [] = sym (are.as_before i from to) ∙ no_chunks (f i) none in
            let gone : archived h w i ≡ [] = ap (filter (λ c. not (contains w c))) empty in
            after_left i from to d es gone (later free d more es (left_at s h w now are.sizes.extent are.some i (low i from to) to gone free d at) held alone may turns)
      ] refl holds

  -- from the cursor on
  pub turns_lead : (free : ℕ) (more : List OpenEntry) (es : List SplitEntry) → cursor ≤ newest h + 1 → IsAt s h w now free c cursor →
      HoldsRows s old (map open_row more) (groups_over f (range_with_len cursor (newest h + 1 - cursor))) → All (IsAlone c.actives) more → MaySplits s c es → Turns g now free c more es → Leads s h w g now c cursor c es
  turns_lead free more es high at holds alone may turns = turns_from (newest h + 1 - cursor) cursor free c more es (omega arith) (omega arith) at holds alone may turns
