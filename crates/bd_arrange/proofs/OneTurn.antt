-- One turn of arranging, where the categories of a state wait.
use Rattle.std.proofs.Common.{◌≡◌, ⊎_elim, ℕ, suc, ◌+◌, ◌-◌, ◌<◌, ◌≤◌, max, not, true, false, cond, List, [], ◌∷◌, ◌++◌, length, map, refl, sym, ◌∙◌, ap, subst, arith, nat_eq, nat_lt, lt-ltb, length-append}
use Rattle.std.specs.Prelude.{IsTrue}
use Rattle.std.specs.List.{IsDistinct, flat_map, list_all, range_with_len}
use Rattle.std.proofs.lemmas.List.{append-nil, length-map}
use Rattle.std.proofs.lemmas.List.Filters.{length-filter_both}
use Rattle.std.proofs.lemmas.List.Sums.{sum_by-append}
use Rattle.std.proofs.lemmas.List.FromFn.{length-map-range_with_len}
use Rattle.bd_model.specs.History.{VersionHistory, contains, newest, oldest}
use Rattle.bd_model.specs.Laws.{ArrangesOne, grown, rows_more, rows_with}
use Rattle.bd_model.specs.Layout.{closed_volume, open_category, record_bytes, row_of, rows}
use Rattle.bd_model.specs.Records.{records_of}
use Rattle.bd_model.specs.Room.{archived, kept, lacks_some, reserve_left, up}
use Rattle.bd_model.specs.Sizes.{Sizes}
use Rattle.bd_model.specs.declared.layout.CategoryRow.{CategoryRow}
use Rattle.bd_model.specs.declared.layout.Phase.TheVariants.{Settled, Waiting}
use Rattle.bd_model.proofs.ArrangeLemmas.{one_step_of_arranging}
use Rattle.bd_model.proofs.HistoryLemmas.{newest-grown}
use Rattle.bd_model.proofs.LawLemmas.{a_backup_leaves_its_reserve, a_new_version_splits_the_categories}
use Rattle.bd_model.proofs.ListLemmas.{left_and, not_nil}
use Rattle.bd_model.proofs.RowLemmas.{rows_describe_the_volume, rows_over, rows_over-same}
use Rattle.bd_roll.specs.Catalogue.{Catalogue, OpenEntry, VolumeEntry, active_extents, bytes_of_rows, oldest_in}
use Rattle.bd_roll.specs.Rules.{active_holds}
use Rattle.bd_roll.specs.Splitting.{MaySplit, SplitEntry, after_split, extents_at, last_extents, last_rows, put_in_place}
use Rattle.bd_catalog.specs.Standing.{BeginWith, HasActives}
use Rattle.bd_roll.proofs.InPlace.{at_other, put_differ, same_or_not, starts}
use Rattle.bd_catalog.proofs.StandingLists.{map-range_with_len}
use Rattle.bd_roll.proofs.RuleLemmas.{count_in_category}
use Rattle.bd_arrange.specs.Turns.{taken_by}
use Rattle.bd_arrange.proofs.LastVolume.{extents-grown, last_rows-are, rows-grown, rows_of}
use Rattle.bd_arrange.proofs.OpenRows.{at_put, put_rows}
use Rattle.bd_arrange.proofs.Told.{some_pass}

-- The catalogue has the layout in which the starts below i are arranged: what its open categories begin with stands on the
-- image, and as many extents are free as the later starts take.
pub record IsAt (s : Sizes) (h : VersionHistory) (w : List (List ℕ)) (now : List ℕ) (free : ℕ) (d : Catalogue) (i : ℕ) : Type 0 where
  pub actives : HasActives s (grown h w) (Waiting i) d now
  pub rows : rows_of d.volumes ≡ map (rows (grown h w) (Waiting i)) (range_with_len (oldest h) (suc (newest h - oldest h)))
  pub differ : IsDistinct nat_eq (starts d.actives)
  pub since : oldest_in d ≡ oldest h
  pub size : length (last_extents d.volumes) ≡ up s.extent (record_bytes (closed_volume (grown h w) (Waiting i) (newest h)))
  pub reserved : reserve_left s.extent (grown h w) (Waiting i) ≤ free

-- a split of the category of start i, by the new version's chunks
pub record SplitsSo (s : Sizes) (h : VersionHistory) (w : List (List ℕ)) (now : List ℕ) (i : ℕ) (e : SplitEntry) : Type 0 where
  pub start : e.start ≡ i
  pub some : 1 ≤ length (archived h w i)
  pub chunks : e.chunks ≡ length (archived h w i)
  pub bytes : e.bytes ≡ record_bytes (archived h w i)
  pub rows : map (λ k. k.row) e.kept ≡ rows_over (λ _. kept h w i) (i ∷ [])
  pub records : BeginWith s (flat_map (λ k. k.extents) e.kept) (records_of (kept h w i)) now

rows_counted : (r : ℕ) (cs : List (List ℕ)) (xs : List CategoryRow) → 1 ≤ length cs → rows_with r cs xs ≡ rows_more r (length cs) (record_bytes cs) xs
rows_counted r [] xs some = absurd (omega (arith, some))
rows_counted r (c ∷ cs) xs some = rows_describe_the_volume.by_number r c cs xs

-- what is kept has no more extents than its bytes take
few_kept : (s : Sizes) (i : ℕ) (cs : List (List ℕ)) (ks : List OpenEntry) → length ks ≤ 1 → IsTrue (list_all (active_holds s) ks) → map (λ k. k.row) ks ≡ rows_over (λ _. cs) (i ∷ []) →
    length (flat_map (λ (k : OpenEntry). k.extents) ks) ≤ up s.extent (record_bytes cs)
few_kept s i cs [] few hold is = omega arith
few_kept s i cs (k ∷ l ∷ ks) few hold is = absurd (omega (arith, few))
few_kept s i cs (k ∷ []) few hold is =
    elim (nat_lt 0 (length cs)) as (λ t. map (λ (x : OpenEntry). x.row) (k ∷ []) ≡ cond t (row_of i cs ∷ []) [] → length (k.extents ++ []) ≤ up s.extent (record_bytes cs)) [
      | true ↦ λ same.
          let row : k.row ≡ row_of i cs = cc in
          let size : length k.extents ≡ up s.extent k.row.bytes = count_in_category s k (left_and (active_holds s k) true hold) in
          omega (arith, length-append k.extents [], size, ap (λ (r : CategoryRow). up s.extent r.bytes) row)
      | false ↦ λ same. absurd (not_nil same)
    ] is

module _ (s : Sizes) (h : VersionHistory) (w : List (List ℕ)) (now : List ℕ) (one : 1 ≤ s.extent) (some : h.expired < length h.versions) (i : ℕ) (low : h.base + 1 ≤ i) (high : i ≤ newest h) where
  abbrev next : VersionHistory
  next = grown h w

  step : ArrangesOne h w i
  step = one_step_of_arranging.each h w i low high some

  last : oldest h + (newest h - oldest h) ≡ newest h
  last = omega arith

  -- ---- where nothing is archived

  module _ (none : archived h w i ≡ []) where
    pub same_volume : closed_volume next (Waiting (i + 1)) (newest h) ≡ closed_volume next (Waiting i) (newest h)
    same_volume = step.volume ∙ ap (λ cs. closed_volume next (Waiting i) (newest h) ++ cs) none ∙ append-nil (closed_volume next (Waiting i) (newest h))

    same_category : (k : ℕ) → open_category next (Waiting (i + 1)) k ≡ open_category next (Waiting i) k
    same_category k =
        ⊎_elim
        (λ here. subst (λ n. open_category next (Waiting (i + 1)) n ≡ open_category next (Waiting i) n) (sym here)
        (step.category ∙ a_new_version_splits_the_categories.untouched h w i none ∙ sym step.before))
        (step.other_categories k)
        (same_or_not k i)

    same_rows : (j : ℕ) → rows next (Waiting (i + 1)) j ≡ rows next (Waiting i) j
    same_rows j =
        ⊎_elim
        (λ here. subst (λ n. rows next (Waiting (i + 1)) n ≡ rows next (Waiting i) n) (sym here)
        (step.rows_grow ∙ ap (λ cs. rows_with (max i (oldest h)) cs (rows next (Waiting i) (newest h))) none))
        (step.other_rows j)
        (same_or_not j (newest h))

    pub left_at : (free : ℕ) (d : Catalogue) → IsAt s h w now free d i → IsAt s h w now free d (i + 1)
    left_at free d at = record {
      actives = record {
        rows = at.actives.rows ∙ sym (rows_over-same (open_category next (Waiting (i + 1))) (open_category next (Waiting i)) (h.base + 1) (newest next + 1 - (h.base + 1)) (λ k from to. same_category k));
        records = λ k from to. subst (λ cs. BeginWith s (active_extents d k) (records_of cs) now) (sym (same_category k)) (at.actives.records k from to);
      };
      rows = at.rows ∙ sym (map-range_with_len (rows next (Waiting (i + 1))) (rows next (Waiting i)) (oldest h) (suc (newest h - oldest h)) (λ j from to. same_rows j));
      differ = at.differ;
      since = at.since;
      size = at.size ∙ ap (λ cs. up s.extent (record_bytes cs)) (sym same_volume);
      reserved = omega (arith, at.reserved, a_backup_leaves_its_reserve.arranging s.extent h w i one high);
    }

  -- ---- a split

  module _ (free : ℕ) (d : Catalogue) (at : IsAt s h w now free d i) where
    -- the rows of the newest closed volume, and their bytes
    pub rows_now : last_rows d.volumes ≡ rows next (Waiting i) (newest h)
    rows_now = last_rows-are d.volumes (rows next (Waiting i)) (oldest h) (newest h - oldest h) at.rows ∙ ap (rows next (Waiting i)) last

    pub bytes_grow : bytes_of_rows (last_rows d.volumes) + record_bytes (archived h w i) ≡ record_bytes (closed_volume next (Waiting (i + 1)) (newest h))
    bytes_grow =
        let before : bytes_of_rows (last_rows d.volumes) ≡ record_bytes (closed_volume next (Waiting i) (newest h)) = ap bytes_of_rows rows_now ∙ rows_describe_the_volume.bytes next (Waiting i) (newest h) (omega arith) in
        ap (λ n. n + record_bytes (archived h w i)) before
        ∙ sym (sum_by-append (λ c. 36 + length c) (closed_volume next (Waiting i) (newest h)) (archived h w i))
        ∙ ap record_bytes (sym step.volume)

    -- what is archived and kept has room
    pub has_room : 1 ≤ length (archived h w i) →
        up s.extent (bytes_of_rows (last_rows d.volumes) + record_bytes (archived h w i)) + up s.extent (record_bytes (kept h w i)) + reserve_left s.extent next (Waiting (i + 1)) ≤ length (last_extents d.volumes) + free
    has_room more =
        let grown_by : up s.extent (bytes_of_rows (last_rows d.volumes) + record_bytes (archived h w i)) ≡ up s.extent (record_bytes (closed_volume next (Waiting (i + 1)) (newest h))) = ap (up s.extent) bytes_grow in
        let lacks : lacks_some w (open_category h Settled i) ≡ true = some_pass (λ c. not (contains w c)) _ more in
        let total : reserve_left s.extent next (Waiting i) ≡
        (up s.extent (record_bytes (closed_volume next (Waiting (i + 1)) (newest h))) - up s.extent (record_bytes (closed_volume next (Waiting i) (newest h)))) + up s.extent (record_bytes (kept h w i)) + reserve_left s.extent next (Waiting (i + 1)) =
        a_backup_leaves_its_reserve.arranging s.extent h w i one high
        ∙ ap (λ t. (up s.extent (record_bytes (closed_volume next (Waiting (i + 1)) (newest h))) - up s.extent (record_bytes (closed_volume next (Waiting i) (newest h)))) + cond t (up s.extent (record_bytes (kept h w i))) 0 + reserve_left s.extent next (Waiting (i + 1))) lacks in
        omega (arith, at.reserved, at.size, grown_by, total)

    module _ (e : SplitEntry) (may : MaySplit s d e) (so : SplitsSo s h w now i e) where
      abbrev after : Catalogue
      after = after_split d e

      begun : nat_lt 0 (length (open_category next (Waiting i) i)) ≡ true
      begun =
          let is : length (open_category next (Waiting i) i) ≡ length (open_category h Settled i) = ap (λ cs. length cs) step.before in
          lt-ltb 0 (length (open_category next (Waiting i) i))
          (omega (arith, so.some, is, length-filter_both (λ c. not (contains w c)) (λ c. not (not (contains w c))) (λ c. refl) (open_category h Settled i)))

      rows_next : map (λ a. a.row) after.actives ≡ rows_over (open_category next (Waiting (i + 1))) (range_with_len (h.base + 1) (newest next + 1 - (h.base + 1)))
      rows_next =
          ap (λ n. map (λ (a : OpenEntry). a.row) (put_in_place n e.kept d.actives)) so.start
          ∙ put_rows (open_category next (Waiting i)) (open_category next (Waiting (i + 1))) i e.kept d.actives (h.base + 1) (newest next + 1 - (h.base + 1)) at.actives.rows step.other_categories low
          (omega (arith, newest-grown h w)) begun (so.rows ∙ ap (λ cs. rows_over (λ _. cs) (i ∷ [])) (sym step.category))

      begins_next : (k : ℕ) → h.base < k → k ≤ newest next → BeginWith s (active_extents after k) (records_of (open_category next (Waiting (i + 1)) k)) now
      begins_next k from to =
          ⊎_elim
          (λ here.
          let own : extents_at i (put_in_place e.start e.kept d.actives) ≡ flat_map (λ x. x.extents) e.kept =
          ap (λ n. extents_at n (put_in_place e.start e.kept d.actives)) (sym so.start) ∙ at_put e.start e.kept d.actives at.differ may.is_open may.kept_starts may.one in
          subst (λ n. BeginWith s (active_extents after n) (records_of (open_category next (Waiting (i + 1)) n)) now) (sym here)
          (subst (λ xs. BeginWith s xs (records_of (open_category next (Waiting (i + 1)) i)) now) (sym own)
          (subst (λ cs. BeginWith s (flat_map (λ x. x.extents) e.kept) (records_of cs) now) (sym step.category) so.records)))
          (λ other.
          let same : extents_at k (put_in_place e.start e.kept d.actives) ≡ extents_at k d.actives = at_other e.start k e.kept d.actives (λ own. other (sym own ∙ so.start)) may.kept_starts in
          subst (λ xs. BeginWith s xs (records_of (open_category next (Waiting (i + 1)) k)) now) (sym same)
          (subst (λ cs. BeginWith s (extents_at k d.actives) (records_of cs) now) (sym (step.other_categories k other)) (at.actives.records k from to)))
          (same_or_not k i)

      some_volume : 1 ≤ length d.volumes
      some_volume = omega (arith, ap (λ l. length l) at.rows, length-map d.volumes (λ (v : VolumeEntry). v.rows), length-map-range_with_len (rows next (Waiting i)) (oldest h) (suc (newest h - oldest h)))

      last_next : rows next (Waiting (i + 1)) (oldest h + (newest h - oldest h)) ≡ rows_more (max e.start (oldest_in d)) e.chunks e.bytes (rows next (Waiting i) (oldest h + (newest h - oldest h)))
      last_next =
          ap (rows next (Waiting (i + 1))) last
          ∙ step.rows_grow
          ∙ rows_counted (max i (oldest h)) (archived h w i) (rows next (Waiting i) (newest h)) so.some
          ∙ (λ k. rows_more (max (sym so.start k) (sym at.since k)) (sym so.chunks k) (sym so.bytes k) (rows next (Waiting i) (sym last k)))

      size_next : length (last_extents d.volumes ++ e.added) ≡ up s.extent (record_bytes (closed_volume next (Waiting (i + 1)) (newest h)))
      size_next = may.room ∙ ap (λ n. up s.extent (bytes_of_rows (last_rows d.volumes) + n)) so.bytes ∙ ap (up s.extent) bytes_grow

      reserved_next : reserve_left s.extent next (Waiting (i + 1)) ≤ free - taken_by e
      reserved_next =
          let added : length (last_extents d.volumes ++ e.added) ≡ length (last_extents d.volumes) + length e.added = length-append (last_extents d.volumes) e.added in
          let taken : taken_by e ≡ length e.added + length (flat_map (λ (k : OpenEntry). k.extents) e.kept) = length-append e.added (flat_map (λ k. k.extents) e.kept) in
          let grows : up s.extent (bytes_of_rows (last_rows d.volumes) + record_bytes (archived h w i)) ≡ up s.extent (record_bytes (closed_volume next (Waiting (i + 1)) (newest h))) = ap (up s.extent) bytes_grow in
          omega (arith, has_room so.some, size_next, added, taken, grows, few_kept s i (kept h w i) e.kept may.one may.kept_holds so.rows)

      pub split_at : IsAt s h w now (free - taken_by e) after (i + 1)
      split_at = record {
        actives = record { rows = rows_next; records = begins_next };
        rows = rows-grown (rows_more (max e.start (oldest_in d)) e.chunks e.bytes) e.added d.volumes (rows next (Waiting i)) (rows next (Waiting (i + 1))) (oldest h) (newest h - oldest h) at.rows
            (λ j from to. step.other_rows j (λ same. absurd (omega arith))) last_next;
        differ = put_differ e.start e.kept d.actives may.kept_starts may.one at.differ;
        since = at.since;
        size = ap (λ xs. length xs) (extents-grown (rows_more (max e.start (oldest_in d)) e.chunks e.bytes) e.added d.volumes some_volume) ∙ size_next;
        reserved = reserved_next;
      }
