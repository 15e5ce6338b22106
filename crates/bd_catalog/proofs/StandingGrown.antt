-- What an image stands for where its catalogue has a version more.
use Rattle.std.proofs.Common.{◌≡◌, ⊎_elim, ℕ, ◌+◌, ◌-◌, ◌<◌, ◌≤◌, Bool, true, false, cond, List, [], ◌∷◌, ◌++◌, length, take, refl, sym, ◌∙◌, ap, subst, arith, filter, flat_map, map, get_or, nat_eq, nat_lt, lt-ltb, eq-eqb}
use Rattle.std.proofs.lemmas.Bool.{ne_eqb, cases_lt}
use Rattle.std.proofs.lemmas.List.{map-append, append-nil, length-map, length_push, get_or_at, get_or_append_left}
use Rattle.std.proofs.lemmas.List.FromFn.{length-map-range_with_len}
use Rattle.std.proofs.lemmas.List.Elements.{filter-append}
use Rattle.bd_model.specs.declared.shape.Shape.{Shape}
use Rattle.bd_model.specs.declared.answer.VersionLine.{VersionLine}
use Rattle.bd_model.specs.declared.layout.CategoryRow.{CategoryRow}
use Rattle.bd_model.specs.declared.layout.Phase.{Phase}
use Rattle.bd_model.specs.declared.layout.Phase.TheVariants.{Settled, Waiting}
use Rattle.bd_model.specs.Sizes.{Sizes}
use Rattle.bd_model.specs.Extents.{owner_bytes}
use Rattle.bd_model.specs.Chunks.{chunks, numbers}
use Rattle.bd_model.specs.History.{VersionHistory, newest, oldest}
use Rattle.bd_model.specs.Layout.{closed_volume, open_category, row_of, rows}
use Rattle.bd_model.specs.Laws.{grown}
use Rattle.bd_model.specs.Recipe.{recipe}
use Rattle.bd_model.specs.Room.{fresh}
use Rattle.bd_model.specs.State.{VersionState, history, cut_of}
use Rattle.bd_model.specs.Step.{with_version, version_line, version_lines}
use Rattle.bd_model.specs.Records.{records_of, spelled_recipe}
use Rattle.bd_model.proofs.HistoryLemmas.{newest-grown}
use Rattle.bd_model.proofs.ListLemmas.{numbers-suc}
use Rattle.bd_model.proofs.LawLemmas.{closed_volumes_grow}
use Rattle.bd_model.proofs.GrownLemmas.{recipes_stay, lines_stay}
use Rattle.bd_model.proofs.RowLemmas.{rows_over, rows_over-same}
use Rattle.bd_model.proofs.StepLemmas.{length-history, history-grown}
use Rattle.bd_roll.specs.Catalogue.{Catalogue, VersionEntry, VolumeEntry, OpenEntry, oldest_in, recipe_extents, volume_extents, active_extents}
use Rattle.bd_roll.specs.Growing.{with_entries, entry_for, empty_volume, own_category}
use Rattle.bd_catalog.specs.Standing.{BeginWith, HasNumbers, HasVolumes, HasActives, lines_from, open_rows, line_of}
use Rattle.bd_catalog.proofs.StandingLists.{lines_from-push, map-numbers, rows_over-push, rows_over-past, filter-map_none, rows-earlier, newest_rows-empty, newest_volume-empty}

-- what is nothing begins everywhere
begin_with_nothing : (s : Sizes) (extents bytes image : List ℕ) → bytes ≡ [] → BeginWith s extents bytes image
begin_with_nothing s extents bytes image none = subst (λ b. BeginWith s extents b image) (sym none) (record { front = refl })

begin_same : (s : Sizes) (image : List ℕ) {extents other bytes others : List ℕ} → extents ≡ other → bytes ≡ others → BeginWith s other others image → BeginWith s extents bytes image
begin_same s image same same_bytes begins = record { front = (λ k. take (length (same_bytes k)) (owner_bytes s (same k) image)) ∙ begins.front ∙ sym same_bytes }

module _ (h : VersionHistory) (w : List (List ℕ)) (c : Catalogue) (kept : h.expired ≤ length h.versions) (numbered : HasNumbers h c) where
  count : length c.versions + oldest h ≡ newest h + 1
  count = omega (arith, numbered.retained)

  oldest-is : oldest_in c ≡ oldest h
  oldest-is = omega (arith, numbered.newest, count)

  module _ (phase : Phase) (entry : VersionEntry) (volumes : List VolumeEntry) (actives : List OpenEntry) where
    abbrev next : Catalogue
    next = with_entries c phase entry volumes actives

    oldest-same : oldest_in next ≡ oldest_in c
    oldest-same = omega (arith, length_push c.versions entry)

    pub numbers-more : HasNumbers (grown h w) next
    numbers-more = record {
      base = numbered.base;
      newest = omega (arith, numbered.newest, newest-grown h w);
      retained = omega (arith, numbered.retained, length_push c.versions entry, length_push h.versions w);
    }

    recipe_extents-earlier : (v : ℕ) → oldest h ≤ v → v ≤ newest h → recipe_extents next v ≡ recipe_extents c v
    recipe_extents-earlier v low high =
        let f : VersionEntry → List ℕ = λ e. e.extents in
        (λ k. get_or (map-append f c.versions (entry ∷ []) k) (v - oldest-same k) [])
        ∙ get_or_append_left (map f c.versions) (entry.extents ∷ []) [] (v - oldest_in c) (omega (arith, count, oldest-is, length-map c.versions f))

    recipe_extents-own : recipe_extents next (newest h + 1) ≡ entry.extents
    recipe_extents-own =
        let f : VersionEntry → List ℕ = λ e. e.extents in
        ap (λ es. get_or es (newest h + 1 - oldest_in next) []) (map-append f c.versions (entry ∷ []))
        ∙ get_or_at (map f c.versions) entry.extents [] [] (newest h + 1 - oldest_in next) (omega (arith, count, oldest-is, oldest-same, length-map c.versions f))

    -- each version's extents begin with its recipe
    pub recipes-more : (s : Sizes) (image : List ℕ) →
        ((v : ℕ) → oldest h ≤ v → v ≤ newest h → BeginWith s (recipe_extents c v) (spelled_recipe (recipe h v)) image) →
        BeginWith s entry.extents (spelled_recipe (recipe (grown h w) (newest h + 1))) image →
        (v : ℕ) → oldest h ≤ v → v ≤ newest (grown h w) → BeginWith s (recipe_extents next v) (spelled_recipe (recipe (grown h w) v)) image
    recipes-more s image earlier own v low high =
        ⊎_elim
        (λ before. begin_same s image (recipe_extents-earlier v low (omega arith)) (ap spelled_recipe (recipes_stay.earlier h w v (omega arith))) (earlier v low (omega arith)))
        (λ past.
        let last : v ≡ newest h + 1 = omega (arith, newest-grown h w) in
        begin_same s image (ap (recipe_extents next) last ∙ recipe_extents-own) (ap (λ n. spelled_recipe (recipe (grown h w) n)) last) own)
        (cases_lt v (newest h + 1))

    -- the open categories: those that were open wait as they are, and the new version's own comes behind them
    module _ (s : Sizes) (later : Phase) (waits : (i : ℕ) → h.base < i → i ≤ newest h → open_category (grown h w) later i ≡ open_category h Settled i) where
      open_rows-more : open_rows (grown h w) later ≡ open_rows h Settled ++ cond (nat_lt 0 (length (fresh h w))) (row_of (newest h + 1) (fresh h w) ∷ []) []
      open_rows-more =
          let f : ℕ → List (List ℕ) = open_category (grown h w) later in
          ap (λ n. rows_over f (numbers (h.base + 1) n)) (newest-grown h w)
          ∙ ap (rows_over f) (numbers-suc (h.base + 1) (newest h) (omega arith))
          ∙ rows_over-push f (numbers (h.base + 1) (newest h)) (newest h + 1)
          ∙ (λ k. rows_over-same f (open_category h Settled) (h.base + 1) (newest h + 1 - (h.base + 1)) (λ i low high. waits i (omega arith) (omega arith)) k
          ++ cond (nat_lt 0 (length (closed_volumes_grow.own h w later k))) (row_of (newest h + 1) (closed_volumes_grow.own h w later k) ∷ []) [])

      own_rows : (v : ℕ) (begun : List (List ℕ)) (ys : List ℕ) → map (λ (e : OpenEntry). e.row) (own_category v begun ys) ≡ cond (nat_lt 0 (length begun)) (row_of v begun ∷ []) []
      own_rows v begun ys =
          elim (nat_lt 0 (length begun)) as (λ t. map (λ (e : OpenEntry). e.row) (cond t (record { row = row_of v begun; extents = ys } ∷ []) []) ≡ cond t (row_of v begun ∷ []) []) [ true ↦ refl | false ↦ refl ]

      -- the extents of an open category of those that were
      active_extents-earlier : (ys : List ℕ) (i : ℕ) → actives ≡ own_category (newest h + 1) (fresh h w) ys → i ≤ newest h → active_extents next i ≡ active_extents c i
      active_extents-earlier ys i own le =
          let starts : OpenEntry → Bool = λ e. nat_eq e.row.start i in
          let none : filter starts actives ≡ [] = ap (filter starts) own ∙ other (nat_lt 0 (length (fresh h w))) in
          ap (flat_map (λ e. e.extents)) (filter-append starts c.actives actives ∙ (λ k. filter starts c.actives ++ none k) ∙ append-nil (filter starts c.actives))
        where
          other : (t : Bool) → filter (λ (e : OpenEntry). nat_eq e.row.start i) (cond t (record { row = row_of (newest h + 1) (fresh h w); extents = ys } ∷ []) []) ≡ []
          other true = let differs : nat_eq (newest h + 1) i ≡ false = ne_eqb (newest h + 1) i (λ e. absurd (omega arith)) in
              ap (λ t. cond t (record { row = row_of (newest h + 1) (fresh h w); extents = ys } ∷ []) []) differs
          other false = refl

      -- and those of the new one
      active_extents-own : (ys : List ℕ) (b : List ℕ) (bs : List (List ℕ)) → fresh h w ≡ b ∷ bs → actives ≡ own_category (newest h + 1) (fresh h w) ys → map (λ e. e.row) c.actives ≡ open_rows h Settled → active_extents next (newest h + 1) ≡ ys
      active_extents-own ys b bs some own rows_are =
          let v = newest h + 1 in
          let starts : OpenEntry → Bool = λ e. nat_eq e.row.start v in
          let none : filter starts c.actives ≡ [] =
          filter-map_none (λ (e : OpenEntry). e.row) (λ row. nat_eq row.start v) c.actives
          (ap (filter (λ row. nat_eq row.start v)) rows_are ∙ rows_over-past (open_category h Settled) v (h.base + 1) (newest h + 1 - (h.base + 1)) (omega arith)) in
          let mine : OpenEntry = record { row = row_of v (b ∷ bs); extents = ys } in
          let last : filter starts actives ≡ mine ∷ [] =
          ap (filter starts) (own ∙ ap (λ cs. own_category v cs ys) some ∙ ap (λ t. cond t (mine ∷ []) []) (lt-ltb 0 (length (b ∷ bs)) (omega arith))) ∙ ap (λ t. cond t (mine ∷ []) []) (eq-eqb v v refl) in
          ap (flat_map (λ e. e.extents)) (filter-append starts c.actives actives ∙ (λ k. none k ++ last k)) ∙ append-nil ys

      pub actives-more : (image : List ℕ) (ys : List ℕ) → actives ≡ own_category (newest h + 1) (fresh h w) ys → HasActives s h Settled c image → BeginWith s ys (records_of (fresh h w)) image →
          HasActives s (grown h w) later next image
      actives-more image ys own has begins = record {
        rows =
            map-append (λ e. e.row) c.actives actives
            ∙ (λ k. has.rows k ++ (ap (map (λ e. e.row)) own ∙ own_rows (newest h + 1) (fresh h w) ys) k)
            ∙ sym open_rows-more;
        records = λ i low high.
            ⊎_elim
            (λ before. begin_same s image (active_extents-earlier ys i own (omega arith)) (ap records_of (waits i low (omega arith))) (has.records i low (omega arith)))
            (λ past.
            let last : i ≡ newest h + 1 = omega (arith, newest-grown h w) in
            let chunks_are : open_category (grown h w) later i ≡ fresh h w = ap (open_category (grown h w) later) last ∙ closed_volumes_grow.own h w later in
            begin_same s image (ap (active_extents next) last) (ap records_of chunks_are) (own_begins (fresh h w) refl))
            (cases_lt i (newest h + 1));
      }
        where
          own_begins : (cs : List (List ℕ)) → fresh h w ≡ cs → BeginWith s (active_extents next (newest h + 1)) (records_of (fresh h w)) image
          own_begins [] none = begin_with_nothing s _ _ image (ap records_of none)
          own_begins (b ∷ bs) some = begin_same s image (active_extents-own ys b bs some own has.rows) refl begins

  -- the closed volumes where a version was retained: those that there were stay, and an empty one comes behind them
  module _ (some : h.expired < length h.versions) (phase : Phase) (entry : VersionEntry) (actives : List OpenEntry) where
    abbrev waiting : Phase
    waiting = Waiting (h.base + 1)

    abbrev with_volume : Catalogue
    with_volume = with_entries c phase entry (empty_volume ∷ []) actives

    back : newest h - 1 + 1 ≡ newest h
    back = omega arith

    volumes_are : (s : Sizes) (image : List ℕ) → HasVolumes s h Settled c image → length c.volumes + oldest h ≡ newest h
    volumes_are s image has =
        omega (arith, ap length has.rows, length-map c.volumes (λ e. e.rows), length-map-range_with_len (rows h Settled) (oldest h) (newest h - 1 + 1 - oldest h))

    volume_extents-earlier : (j : ℕ) → oldest h ≤ j → j < newest h → length c.volumes + oldest h ≡ newest h → volume_extents with_volume j ≡ volume_extents c j
    volume_extents-earlier j low high long =
        let f : VolumeEntry → List ℕ = λ e. e.extents in
        (λ k. get_or (map-append f c.volumes (empty_volume ∷ []) k) (j - oldest-same phase entry (empty_volume ∷ []) actives k) [])
        ∙ get_or_append_left (map f c.volumes) ([] ∷ []) [] (j - oldest_in c) (omega (arith, oldest-is, length-map c.volumes f))

    pub volumes-more : (s : Sizes) (image : List ℕ) → HasVolumes s h Settled c image → HasVolumes s (grown h w) waiting with_volume image
    volumes-more s image has =
        let last : newest (grown h w) - 1 ≡ newest h - 1 + 1 = omega (arith, newest-grown h w) in
        let f : ℕ → List CategoryRow = rows (grown h w) waiting in
        record {
          rows =
              map-append (λ e. e.rows) c.volumes (empty_volume ∷ [])
              ∙ (λ k. has.rows k ++ [] ∷ [])
              ∙ sym (
              ap (λ n. map f (numbers (oldest h) n)) last
              ∙ ap (map f) (numbers-suc (oldest h) (newest h - 1) (omega arith))
              ∙ map-append f (numbers (oldest h) (newest h - 1)) ((newest h - 1 + 1) ∷ [])
              ∙ (λ k. map-numbers f (rows h Settled) (oldest h) (newest h - 1) (λ j low high. rows-earlier h w waiting j low (omega arith)) k
              ++ (ap f back ∙ newest_rows-empty h w (omega arith)) k ∷ [])
              );
          records = λ j low high.
              ⊎_elim
              (λ before. begin_same s image (volume_extents-earlier j low before (volumes_are s image has)) (ap records_of (closed_volumes_grow.earlier h w waiting j before)) (has.records j low before))
              (λ past.
              let here : j ≡ newest h = omega (arith, newest-grown h w) in
              begin_with_nothing s _ _ image (ap records_of (ap (closed_volume (grown h w) waiting) here ∙ newest_volume-empty h w)))
              (cases_lt j (newest h));
        }

-- the lines of the versions and one more
module _ (shape : Shape) (st : VersionState) (stream : List ℕ) (c : Catalogue) where
  abbrev h : VersionHistory
  h = history shape st

  abbrev w : List (List ℕ)
  w = chunks (cut_of shape) stream

  pub lines-more : st.expired ≤ length st.versions → HasNumbers h c → (phase : Phase) (xs : List ℕ) (volumes : List VolumeEntry) (actives : List OpenEntry) →
      lines_from (oldest_in c) c.versions ≡ version_lines st h →
      let next : Catalogue = with_entries c phase (entry_for stream w (fresh h w) xs) volumes actives in
      lines_from (oldest_in next) next.versions ≡ version_lines (with_version st stream) (history shape (with_version st stream))
  lines-more kept numbered phase xs volumes actives lines =
      let entry : VersionEntry = entry_for stream w (fresh h w) xs in
      let after : VersionState = with_version st stream in
      let f : ℕ → VersionLine = version_line after (history shape after) in
      let within : h.expired ≤ length h.versions = omega (arith, length-history shape st) in
      let last : newest (history shape after) ≡ newest h + 1 = ap newest (history-grown shape st stream) ∙ newest-grown h w in
      let first : oldest_in c + length c.versions ≡ newest h + 1 = omega (arith, oldest-is h w c within numbered, count h w c within numbered) in
      ap (λ n. lines_from n (c.versions ++ entry ∷ [])) (oldest-same h w c within numbered phase entry volumes actives)
      ∙ lines_from-push (oldest_in c) c.versions entry
      ∙ (λ k. lines k ++ line_of (first k) entry ∷ [])
      ∙ sym (
      ap (λ n. map f (numbers (oldest h) n)) last
      ∙ ap (map f) (numbers-suc (oldest h) (newest h) (omega arith))
      ∙ map-append f (numbers (oldest h) (newest h)) ((newest h + 1) ∷ [])
      ∙ (λ k. map-numbers f (version_line st h) (oldest h) (newest h) (λ v low high. lines_stay.earlier shape st stream v high) k ++ lines_stay.own shape st stream k ∷ [])
      )
