-- What all turns leave is the settled layout.
use Rattle.std.proofs.Common.{◌≡◌, ⊎_elim, ℕ, suc, ◌+◌, ◌-◌, ◌<◌, ◌≤◌, true, List, [], ◌∷◌, ◌++◌, length, map, filter, take, nat_eq, refl, sym, ◌∙◌, ap, subst, arith}
use Rattle.std.specs.Prelude.{IsTrue}
use Rattle.std.specs.List.{IsDistinct, flat_map, list_all, range_with_len}
use Rattle.std.proofs.lemmas.List.{length-map}
use Rattle.std.proofs.lemmas.List.Elements.{All-filter}
use Rattle.std.proofs.lemmas.List.FromFn.{length-map-range_with_len}
use Rattle.bd_model.specs.Chunks.{numbers}
use Rattle.bd_model.specs.Extents.{owner_bytes}
use Rattle.bd_model.specs.History.{VersionHistory, newest, oldest}
use Rattle.bd_model.specs.Laws.{grown}
use Rattle.bd_model.specs.Layout.{closed_volume, open_category, record_bytes, rows}
use Rattle.bd_model.specs.Records.{records_of}
use Rattle.bd_model.specs.Room.{reserve_left, up}
use Rattle.bd_model.specs.Sizes.{Sizes}
use Rattle.bd_model.specs.declared.layout.Phase.TheVariants.{Settled, Waiting}
use Rattle.bd_model.specs.declared.layout.RecipeEntry.{RecipeEntry}
use Rattle.bd_model.proofs.ArrangeLemmas.{all_done}
use Rattle.bd_model.proofs.HistoryLemmas.{newest-grown}
use Rattle.bd_model.proofs.LawLemmas.{closed_volumes_grow, from_start, owned-same}
use Rattle.bd_model.proofs.ListLemmas.{left_and, right_and}
use Rattle.bd_model.proofs.RecordLemmas.{length-records}
use Rattle.bd_model.proofs.RowLemmas.{rows_describe_the_volume, rows_over-same}
use Rattle.bd_roll.specs.Catalogue.{Catalogue, VolumeEntry, active_extents, bytes_of_rows, oldest_in, volume_extents}
use Rattle.bd_roll.specs.Rules.{obeys, volume_holds}
use Rattle.bd_roll.specs.Splitting.{SplitEntry, after_splits, last_extents, last_rows}
use Rattle.bd_catalog.specs.Standing.{BeginWith, HasActives, HasNumbers, HasReserve, HasVolumes}
use Rattle.bd_roll.proofs.InPlace.{same_or_not, starts}
use Rattle.bd_roll.proofs.RuleLemmas.{count_in_volume, open_ascend, rules_of}
use Rattle.bd_roll.proofs.OwnedByStep.{distinct_ascending}
use Rattle.bd_catalog.proofs.StandingFound.{obeys-each}
use Rattle.bd_catalog.proofs.StandingLists.{map-range_with_len}
use Rattle.bd_catalog.specs.Rows.{open_row}
use Rattle.bd_volume.specs.Holding.{HoldsRows, groups_over}
use Rattle.bd_arrange.specs.Turns.{AreArranged, Ground, archived_bytes, due, ground, grown_bytes, is_due}
use Rattle.bd_arrange.proofs.AllTurns.{AreWaiting, Leads, turns_lead}
use Rattle.bd_arrange.proofs.DueHeld.{due_held, waiting_numbers, waits}
use Rattle.bd_arrange.proofs.LastVolume.{front-splits, last_extents-at, last_rows-are, length-splits, rows_of}
use Rattle.bd_arrange.proofs.OneTurn.{IsAt}
use Rattle.bd_arrange.proofs.OpenRows.{IsAlone, each_alone}
use Rattle.bd_arrange.proofs.Splits.{same_oldest}

-- the last volume has the extents of its rows
last_sized : (s : Sizes) (es : List VolumeEntry) → 1 ≤ length es → list_all (volume_holds s) es ≡ true → length (last_extents es) ≡ up s.extent (bytes_of_rows (last_rows es))
last_sized s [] some hold = absurd (omega (arith, some))
last_sized s (e ∷ []) some hold = count_in_volume s e (left_and (volume_holds s e) true hold)
last_sized s (e ∷ second ∷ es) some hold = last_sized s (second ∷ es) (omega arith) (right_and (volume_holds s e) (list_all (volume_holds s) (second ∷ es)) hold)

-- ---- what is owned

nothing_left : (extent : ℕ) (h : VersionHistory) → reserve_left extent h Settled ≡ 0
unfolding reserve_left
nothing_left extent h = refl

-- ---- a catalogue that waits, with the layout of the version of the chunks w

module _ (s : Sizes) (h : VersionHistory) (w : List (List ℕ)) (entries : List RecipeEntry) (old now : List ℕ) (c : Catalogue) (cursor : ℕ) (are : AreWaiting s h w entries cursor (open_category (grown h w) (Waiting cursor))) (high : cursor ≤ newest h + 1) where
  abbrev next : VersionHistory
  next = grown h w

  abbrev f : ℕ → List (List ℕ)
  f = open_category next (Waiting cursor)

  abbrev g : Ground
  g = ground s entries old

  count : newest next - 1 + 1 - oldest next ≡ suc (newest h - oldest h)
  count = omega (arith, newest-grown h w, are.some)

  module _ (numbered : HasNumbers next c) (rules : IsTrue (obeys s c)) (at_phase : c.phase ≡ Waiting cursor) (volumes : HasVolumes s next (Waiting cursor) c old) (volumes_now : HasVolumes s next (Waiting cursor) c now) (actives_now : HasActives s next (Waiting cursor) c now)
      (held_rows : HoldsRows s old (map open_row c.actives) (groups_over f (numbers (h.base + 1) (newest next)))) where
    since : oldest_in c ≡ oldest h
    since = omega (arith, numbered.newest, numbered.retained, newest-grown h w, are.some)

    rows_begin : rows_of c.volumes ≡ map (rows next (Waiting cursor)) (range_with_len (oldest h) (suc (newest h - oldest h)))
    rows_begin = volumes.rows ∙ ap (λ n. map (rows next (Waiting cursor)) (range_with_len (oldest h) n)) count

    differ : IsDistinct nat_eq (starts c.actives)
    differ = distinct_ascending (c.base + 1) c.newest (starts c.actives) (open_ascend c (rules_of s c rules).open_starts)

    length_volumes : length c.volumes ≡ suc (newest h - oldest h)
    length_volumes =
        sym (length-map c.volumes (λ (v : VolumeEntry). v.rows))
        ∙ ap (λ l. length l) rows_begin ∙ length-map-range_with_len (rows next (Waiting cursor)) (oldest h) (suc (newest h - oldest h))

    last_bytes : bytes_of_rows (last_rows c.volumes) ≡ record_bytes (closed_volume next (Waiting cursor) (newest h))
    last_bytes =
        let last : oldest h + (newest h - oldest h) ≡ newest h = omega (arith, are.some) in
        ap bytes_of_rows (last_rows-are c.volumes (rows next (Waiting cursor)) (oldest h) (newest h - oldest h) rows_begin ∙ ap (rows next (Waiting cursor)) last)
        ∙ rows_describe_the_volume.bytes next (Waiting cursor) (newest h) (omega (arith, are.some))

    begins : (free : ℕ) → reserve_left s.extent next (Waiting cursor) ≤ free → IsAt s h w now free c cursor
    begins free reserved = record {
      actives = actives_now;
      rows = rows_begin;
      differ = differ;
      since = since;
      size = last_sized s c.volumes (omega (arith, length_volumes)) (obeys-each s c rules).volumes ∙ ap (up s.extent) last_bytes;
      reserved = reserved;
    }

    due_rows : HoldsRows s old (map open_row (due c)) (groups_over f (range_with_len cursor (newest h + 1 - cursor)))
    due_rows =
        let left : newest next - cursor ≡ newest h + 1 - cursor = omega (arith, newest-grown h w) in
        let held_due : HoldsRows s old (map open_row (filter (is_due (newest next) (Waiting cursor)) c.actives)) (groups_over f (filter (waits (newest next) cursor) (numbers (h.base + 1) (newest next)))) =
        due_held s old (newest next) cursor f c.actives (numbers (h.base + 1) (newest next)) held_rows in
        subst (λ es. HoldsRows s old (map open_row es) (groups_over f (range_with_len cursor (newest h + 1 - cursor)))) (sym (λ k. filter (is_due (numbered.newest k) (at_phase k)) c.actives))
        (subst (λ is. HoldsRows s old (map open_row (filter (is_due (newest next) (Waiting cursor)) c.actives)) (groups_over f is))
        (waiting_numbers h.base (newest next) cursor are.low (omega (arith, newest-grown h w)) ∙ ap (range_with_len cursor) left) held_due)

    -- the turns lead on from there
    module _ (free : ℕ) (es : List SplitEntry) (reserved : reserve_left s.extent next (Waiting cursor) ≤ free) (arranged : AreArranged g now free c es) where
      abbrev d : Catalogue
      d = after_splits c es

      abbrev settled : Catalogue
      settled = record d { phase = Settled }

      pub leads : Leads s h w g now c cursor c es
      leads =
          turns_lead s h w entries old now c cursor f are free (due c) es high (begins free reserved) due_rows
          (All-filter (is_due c.newest c.phase) (IsAlone c.actives) c.actives (each_alone c.actives differ)) arranged.may arranged.turns

      grown_records : grown_bytes g c es ≡ records_of (closed_volume next Settled (newest h))
      grown_records =
          let before = records_of (closed_volume next (Waiting cursor) (newest h)) in
          let place : length c.volumes ≡ suc (newest h - oldest_in c) = length_volumes ∙ ap (λ n. suc (newest h - n)) (sym since) in
          let extents : last_extents c.volumes ≡ volume_extents c (newest h) = sym (last_extents-at c.volumes (newest h - oldest_in c) place) in
          let size : bytes_of_rows (last_rows c.volumes) ≡ length before = last_bytes ∙ sym (length-records (closed_volume next (Waiting cursor) (newest h))) in
          (λ k. take (size k) (owner_bytes s (extents k) old) ++ flat_map (archived_bytes g c) es)
          ∙ ap (λ bytes. bytes ++ flat_map (archived_bytes g c) es) (volumes.records (newest h) (omega (arith, are.some)) (omega (arith, newest-grown h w))).front
          ∙ leads.bytes
          ∙ ap records_of ((all_done h w).volumes (newest h))

      pub volumes_settle : HasVolumes s next Settled settled now
      volumes_settle = record {
        rows =
            leads.rows
            ∙ map-range_with_len (rows next (Waiting (newest h + 1))) (rows next Settled) (oldest h) (suc (newest h - oldest h)) (λ j from to. (all_done h w).rows j)
            ∙ sym (ap (λ n. map (rows next Settled) (range_with_len (oldest h) n)) count);
        records = λ j from to.
            ⊎_elim
            (λ here.
            let place : length d.volumes ≡ suc (newest h - oldest_in d) = length-splits c es ∙ length_volumes ∙ ap (λ n. suc (newest h - n)) (sym (same_oldest c es ∙ since)) in
            subst (λ n. BeginWith s (volume_extents d n) (records_of (closed_volume next Settled n)) now) (sym here)
            (subst (λ xs. BeginWith s xs (records_of (closed_volume next Settled (newest h))) now) (sym (last_extents-at d.volumes (newest h - oldest_in d) place))
            (subst (λ bytes. BeginWith s (last_extents d.volumes) bytes now) grown_records arranged.volume)))
            (λ other.
            let earlier : j < newest h = omega (arith, to, other, newest-grown h w) in
            let extents : volume_extents d j ≡ volume_extents c j = front-splits c es j (omega (arith, length_volumes, since, from, earlier)) in
            let chunks : closed_volume next Settled j ≡ closed_volume next (Waiting cursor) j = closed_volumes_grow.earlier h w Settled j earlier ∙ sym (closed_volumes_grow.earlier h w (Waiting cursor) j earlier) in
            subst (λ xs. BeginWith s xs (records_of (closed_volume next Settled j)) now) (sym extents)
            (subst (λ cs. BeginWith s (volume_extents c j) (records_of cs) now) (sym chunks) (volumes_now.records j from to)))
            (same_or_not j (newest h));
      }

      pub actives_settle : HasActives s next Settled settled now
      actives_settle = record {
        rows = leads.actives.rows
            ∙ rows_over-same (open_category next (Waiting (newest h + 1))) (open_category next Settled) (h.base + 1) (newest next + 1 - (h.base + 1)) (λ i from to. (all_done h w).categories i (omega (arith, from, to)));
        records = λ i from to. subst (λ cs. BeginWith s (active_extents d i) (records_of cs) now) ((all_done h w).categories i to) (leads.actives.records i from to);
      }

    pub reserve_settles : (held : ℕ) → HasReserve s next (Waiting cursor) held → HasReserve s next Settled held
    reserve_settles held reserve = record {
      fits = omega (
        arith,
        reserve.fits,
        nothing_left s.extent next,
        from_start s.extent h w cursor (newest h + 1 - cursor) are.sizes.extent are.low (omega arith) are.some,
        owned-same s.extent next (Waiting (newest h + 1)) Settled (all_done h w),
      );
    }
