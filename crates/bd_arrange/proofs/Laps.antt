-- Arranging, one category after the other: what holds between two turns, and that it holds after one more.
use Rattle.std.proofs.Common.{◌≡◌, ◌≢◌, ⊎_elim, ℕ, zero, suc, ◌+◌, ◌-◌, ◌<◌, ◌≤◌, true, false, cond, ◌&&◌, List, [], ◌∷◌, ◌++◌, length, take, map, filter, flat_map, get_or, max, nat_eq, nat_lt, nat_le, refl, sym, ◌∙◌, ap, subst, arith, sum_by, append_assoc, length-append}
use Rattle.std.specs.Prelude.{All, Contains, IsTrue, ◌==◌, Result, Ok, Err}
use Rattle.std.specs.List.{IsDistinct, list_all}
use Rattle.std.specs.List.Sorted.{IsStrictlyIncreasing}
use Rattle.std.proofs.lemmas.Bool.{false≢true, ltb-true}
use Rattle.std.proofs.lemmas.List.{append-nil, map-append}
use Rattle.std.proofs.lemmas.List.Concat.{flat_map-append}
use Rattle.std.proofs.lemmas.List.Elements.{All-append, All-cons, All-nil, All-contains, All-contains_itself, All-weaker, Contains-append_cases, Contains-append_left, Contains-append_right}
use Rattle.std.proofs.lemmas.List.Folds.{flat_map-map}
use Rattle.std.proofs.lemmas.List.Sums.{AllPass-from_list_all}
use Rattle.std.proofs.lemmas.Option.{slice_get_within}
use Rattle.bd_disk.specs.History.{contents}
use Rattle.bd_disk.specs.Images.{Agree, AgreeBut}
use Rattle.bd_disk.specs.Runs.{Works}
use Rattle.bd_disk.specs.declared.disk.Disk.{Ghosts}
use Rattle.bd_disk.proofs.AgreeLemmas.{agree_fewer}
use Rattle.bd_disk.proofs.Frames.{same_contents}
use Rattle.bd_disk.proofs.RunLemmas.{both_work, work_written}
use Rattle.bd_disk.proofs.Traces.{has_read_later}
use Rattle.bd_model.specs.Extents.{owner_bytes}
use Rattle.bd_model.specs.Room.{up}
use Rattle.bd_model.specs.Laws.{rows_more}
use Rattle.bd_model.specs.Sizes.{Sizes, disk_bytes}
use Rattle.bd_model.specs.declared.damage.Damage.{Damage}
use Rattle.bd_model.specs.declared.damage.Damage.TheVariants.{Entry, Sum, Header, Row, Body, Length, Missing}
use Rattle.bd_model.specs.declared.layout.CategoryRow.{CategoryRow}
use Rattle.bd_model.specs.declared.layout.Phase.{Phase}
use Rattle.bd_model.specs.declared.layout.Phase.TheVariants.{Settled, Waiting}
use Rattle.bd_model.specs.declared.layout.RecipeEntry.{RecipeEntry}
use Rattle.bd_model.proofs.ListLemmas.{left_and, right_and}
use Rattle.bd_category.specs.Laws.{written_records}
use Rattle.bd_extio.specs.Ranges.{AreExtents}
use Rattle.bd_space.specs.Allotment.{Allotment, free_count, IsTaken, TakenExactly}
use Rattle.bd_space.specs.declared.space.Use.TheVariants.{Taken}
use Rattle.bd_space.proofs.Distinct.{IsDistinct-append, distinct_apart, distinct_left, distinct_right}
use Rattle.bd_catalog.specs.Agreement.{Agrees}
use Rattle.bd_roll.specs.Catalogue.{Catalogue, OpenEntry, VersionEntry, VolumeEntry, all_extents, bytes_of_rows, oldest_in, row_starts}
use Rattle.bd_catalog.specs.Damages.{BreaksRule, header_holds, header_places}
use Rattle.bd_catalog.specs.Opening.{Found}
use Rattle.bd_catalog.specs.Rows.{RowPlace, Spot, open_row, row_spots}
use Rattle.bd_roll.specs.Rules.{active_holds, all_differ, ascends, fits_eight, obeys, row_holds, starts_hold, volume_holds}
use Rattle.bd_roll.specs.Splitting.{KeptEntry, MaySplit, MaySplits, SplitEntry, after_split, after_splits, kept_extents, kept_of, last_extents, last_rows}
use Rattle.bd_catalog.specs.Standing.{BeginWith}
use Rattle.bd_roll.proofs.RulesAfterDrop.{AscendsFrom, ascends_first}
use Rattle.bd_roll.proofs.RulesAfterBackup.{all_differ-once}
use Rattle.bd_roll.proofs.InPlace.{starts}
use Rattle.bd_roll.proofs.RuleLemmas.{IsBounded, count_in_volume, distinct_of, open_ascend, rules_of}
use Rattle.bd_roll.proofs.SplitsAsOne.{splits_rules}
use Rattle.bd_roll.proofs.OwnedByStep.{distinct_ascending, in_categories, waiting_volume}
use Rattle.bd_catalog.proofs.StandingFound.{Obeys, obeys-each, opened-found}
use Rattle.bd_recipe.specs.Reading.{IfDamaged}
use Rattle.bd_recipe.specs.declared.fault.ReadFault.{ReadFault}
use Rattle.bd_recipe.specs.declared.fault.ReadFault.TheVariants.{DiskFault, Damaged, OutOfMemory}
use Rattle.bd_recipe.proofs.Versions.{are_all, are_left, are_right}
use Rattle.bd_volume.specs.Growing.{CanGrow}
use Rattle.bd_volume.specs.Named.{InNamed}
use Rattle.bd_volume.proofs.CopyLemmas.{no_work, work_told}
use Rattle.bd_volume.proofs.RowsMore.{bytes-rows_more}
use Rattle.bd_volume.proofs.Unnamed.{in_flat}
use Rattle.bd_arrange.specs.Arranged.{InDue, IsAllotted, IsDamageOfDue}
use Rattle.bd_arrange.specs.Cuts.{InCategory, IsDamageIn, IsOfHeaders, IsWholeCategory, archived_records, bytes_in, kept_records, records_in}
use Rattle.bd_arrange.specs.Desks.{Archives, Becomes, BecomesSplit, InRoom, IsCategory, IsToMove, KeepsExtents, OnDesk, Tells, Turned, new_extents}
use Rattle.bd_arrange.specs.Turns.{Ground, IsKeptOf, IsLeft, IsSplit, Turns, archived_on, due, ground, grown_bytes, is_due, taken_by}
use Rattle.bd_arrange.specs.Underway.{HasSplits, HasTurned, IsStaged, IsTakenFor, filled_bytes}
use Rattle.bd_arrange.proofs.Splits.{SameNumbers, added_by, ascends_last, bytes_later, extents_after, extents_grown, kept_by, may_last, rows_grown, same_numbers, same_oldest, some_volume, splits-last, splits_among, start_among, still_open}
use Rattle.bd_arrange.proofs.TurnFrame.{IsAtWork, active_among_all, among_map, kept_stays, last_among_all, open_apart, records_stay, room_staged, spots_stay, volume_stays, whole_before}
use Rattle.bd_arrange.proofs.TakingTurns.{KeptStays, free_after, free_last, grown-last, to_move, to_split, turns_later, turns_left, turns_split}

-- ---- lists

pub due_below : (newest : ℕ) (phase : Phase) (a : OpenEntry) → is_due newest phase a ≡ true → a.row.start < newest
due_below newest Settled a is = absurd (false≢true is)
due_below newest (Waiting cursor) a is = ltb-true a.row.start newest (right_and (nat_le cursor a.row.start) (nat_lt a.row.start newest) is)

-- ---- what a turn does

pub record Turn {D : Type 0} (d : Ghosts D) (s : Sizes) (entries : List RecipeEntry) (a : OpenEntry) (space space_now : Allotment) (desk desk_now : OnDesk) (disk disk_now : D) : Type 0 where
  pub works : Works d (InCategory s a) (InRoom s space desk) disk disk_now
  pub faults : d.faults disk_now ≡ d.faults disk
  pub extents : KeepsExtents space space_now desk desk_now
  pub grows : CanGrow s space_now desk_now.filling
  pub turned : Turned d s entries a (free_count space) desk desk_now disk disk_now

-- ---- between two turns

-- of the open categories these are left
pub record Lap {D : Type 0} (d : Ghosts D) (found : Found) (entries : List RecipeEntry) (before : Allotment) (rest : List OpenEntry) (space : Allotment) (desk : OnDesk) (old now : D) : Type 0 where
  pub done : List OpenEntry
  pub splits : List SplitEntry
  pub low : ℕ
  pub all : done ++ filter (is_due found.catalogue.newest found.catalogue.phase) rest ≡ due found.catalogue
  pub among : All (Contains found.catalogue.actives) rest
  pub begins : found.catalogue.base + 1 ≤ low
  pub later : ascends low found.catalogue.newest (starts rest) ≡ true
  pub early : All (λ n. n < low) (map (λ e. e.start) splits)
  pub ascend : ascends (found.catalogue.base + 1) found.catalogue.newest (map (λ e. e.start) splits) ≡ true
  pub has : HasSplits found.catalogue splits desk
  pub may : MaySplits found.sizes found.catalogue splits
  pub works : Works d (InDue found) (IsStaged found) old now
  pub faults : d.faults now ≡ d.faults old
  pub taken : IsTakenFor found before space desk
  pub grows : CanGrow found.sizes space desk.filling
  pub free : free_count space ≡ free_after (free_count before) splits
  pub told : d.tells → HasTurned (ground found.sizes entries (contents (d.history old))) (contents (d.history now)) (free_count before) found.catalogue done splits desk.filling

module _ {D : Type 0} (d : Ghosts D) (found : Found) (entries : List RecipeEntry) (bounded : IsBounded found.sizes) (rules : IsTrue (obeys found.sizes found.catalogue)) (waits : found.catalogue.phase ≢ Settled)
    (before space : Allotment) (desk : OnDesk) (old now : D) (agrees : d.tells → Agrees found (d.history old)) where
  abbrev s : Sizes
  s = found.sizes

  abbrev c : Catalogue
  c = found.catalogue

  some : 1 ≤ length c.volumes
  some = waiting_volume s c rules waits

  some_extent : 1 ≤ s.extent
  some_extent = bounded.extent

  differ : IsDistinct nat_eq (starts c.actives)
  differ = distinct_ascending (c.base + 1) c.newest (starts c.actives) (open_ascend c (rules_of s c rules).open_starts)

  module _ (a : OpenEntry) (rest : List OpenEntry) (lap : Lap d found entries before (a ∷ rest) space desk old now) where
    abbrev cc : Catalogue
    cc = after_splits c lap.splits

    has_a : Contains c.actives a
    has_a = lap.among 0 a (omega arith)

    next : AscendsFrom lap.low c.newest a.row.start (starts rest)
    next = ascends_first lap.low c.newest a.row.start (starts rest) lap.later

    pub at_work : IsAtWork found space desk
    at_work = record {
      grows = lap.grows;
      owners = lap.taken.owners;
      count = lap.taken.count;
      volume = some;
      numbers = lap.has.numbers ∙ extents_after c lap.splits some ∙ ap (λ ns. last_extents c.volumes ++ ns) (sym lap.has.added);
      bytes = omega (arith, bytes_later c lap.splits some, ap bytes_of_rows lap.has.rows);
    }

    -- ---- what a turn asks for

    own_extents : AreExtents s a.extents
    own_extents =
        let versions = flat_map (λ (e : VersionEntry). e.extents) c.versions in
        let volumes = flat_map (λ (e : VolumeEntry). e.extents) c.volumes in
        let actives = in_categories c.actives in
        are_in c.actives has_a (are_right s (versions ++ volumes) actives (are_all s c (obeys-each s c rules).extents))
      where
        are_in : (cs : List OpenEntry) → Contains cs a → AreExtents s (in_categories cs) → AreExtents s a.extents
        are_in [] none are = absurd (omega (arith, none.1))
        are_in (x ∷ cs) (zero, lt, at) are = subst (λ (y : OpenEntry). AreExtents s y.extents) at (are_left s x.extents (in_categories cs) are)
        are_in (x ∷ cs) (suc k, lt, at) are = are_in cs (k, omega (arith, lt), at) (are_right s x.extents (in_categories cs) are)

    pub is_category : IsCategory s space desk a
    is_category = record {
      holds = All-contains (λ x. active_holds s x ≡ true) c.actives a (AllPass-from_list_all (active_holds s) c.actives (obeys-each s c rules).categories) has_a;
      extents = own_extents;
      taken = All-weaker (Contains a.extents) (IsTaken space)
          (λ n own. All-contains (IsTaken space) (all_extents c ++ new_extents desk) n lap.taken.owners.taken (Contains-append_left (all_extents c) (new_extents desk) n (active_among_all c a has_a n own)))
          a.extents (All-contains_itself a.extents);
      apart = record { each = open_apart found some_extent rules space desk at_work a has_a };
    }

    -- a category that isn't due is passed over
    pub lap_skip : is_due c.newest c.phase a ≡ false → Lap d found entries before rest space desk old now
    lap_skip not_due = record {
      done = lap.done;
      splits = lap.splits;
      low = a.row.start + 1;
      all = ap (λ t. lap.done ++ cond t (a ∷ filter (is_due c.newest c.phase) rest) (filter (is_due c.newest c.phase) rest)) (sym not_due) ∙ lap.all;
      among = λ i x below. lap.among (suc i) x (omega (arith, below));
      begins = omega (arith, lap.begins, next.above);
      later = next.rest;
      early = All-weaker (λ n. n < lap.low) (λ n. n < a.row.start + 1) (λ n lt. omega (arith, lt, next.above)) (map (λ (e : SplitEntry). e.start) lap.splits) lap.early;
      ascend = lap.ascend;
      has = lap.has;
      may = lap.may;
      works = lap.works;
      faults = lap.faults;
      taken = lap.taken;
      grows = lap.grows;
      free = lap.free;
      told = lap.told;
    }

    module _ (is : is_due c.newest c.phase a ≡ true) where
      all_now : (lap.done ++ a ∷ []) ++ filter (is_due c.newest c.phase) rest ≡ due c
      all_now =
          let others = filter (is_due c.newest c.phase) rest in
          append_assoc lap.done (a ∷ []) others ∙ ap (λ t. lap.done ++ cond t (a ∷ others) others) (sym is) ∙ lap.all

      is_among : Contains (due c) a
      is_among =
          subst (λ l. Contains l a) all_now
          (Contains-append_left (lap.done ++ a ∷ []) (filter (is_due c.newest c.phase) rest) a (Contains-append_right lap.done (a ∷ []) a (0, omega arith, refl)))

      pub works_wide : {disk_now : D} → Works d (InCategory s a) (InRoom s space desk) now disk_now → Works d (InDue found) (IsStaged found) old disk_now
      works_wide works =
          both_work lap.works
          (work_told (InDue found) (IsStaged found) (λ place inside. record { category = a; waits = is_among; within = inside })
          (λ told place inside. room_staged found some_extent rules space desk at_work place inside) works)

      -- ---- images

      module _ (told : d.tells) where
        abbrev image0 : List ℕ
        image0 = contents (d.history old)

        abbrev image1 : List ℕ
        image1 = contents (d.history now)

        staged : AgreeBut (IsStaged found) image0 image1
        staged = same_contents (work_written lap.works told)

        pub named : Agree (InNamed s c) image0 image1
        named = agree_fewer _ (InNamed s c) image0 image1 (λ place inside out. out.unnamed.unnamed inside) staged

        room : disk_bytes s ≤ length image0
        room = (opened-found image0 found (agrees told).opens).room

        room_now : disk_bytes s ≤ length image1
        room_now = omega (arith, room, staged.size)

        pub same_records : records_in s image1 a ≡ records_in s image0 a
        same_records = records_stay s c some_extent rules image0 image1 room named a has_a

      -- ---- a damage

      module _ (told : d.tells) where
        spots_of : (p : RowPlace) → open_row a ≡ p → row_spots s (image1 told) p ≡ row_spots s (image0 told) p
        spots_of p is_row = subst (λ q. row_spots s (image1 told) q ≡ row_spots s (image0 told) q) is_row (spots_stay s c some_extent rules (image0 told) (image1 told) (room told) (named told) a has_a)

        only : (p : RowPlace) → Contains (open_row a ∷ []) p → open_row a ≡ p
        only p here = let first : here.0 ≡ 0 = omega (arith, here.1) in ap (λ k. get_or (open_row a ∷ []) k p) (sym first) ∙ here.2

        row_due : (p : RowPlace) → open_row a ≡ p → Contains (map open_row (due c)) p
        row_due p is_row = subst (Contains (map open_row (due c))) is_row (among_map open_row (due c) a is_among)

        breaks_due : (damage : Damage) (places : List ℕ) → IsOfHeaders damage → BreaksRule s c (image1 told) (open_row a ∷ []) damage places → BreaksRule s c (image0 told) (map open_row (due c)) damage places
        breaks_due (Entry v index said start) places part h = absurd part
        breaks_due (Sum v recorded found_sum) places part h = absurd part
        breaks_due (Header who at said left) places part h =
            let r = h.2 in
            let is_row : open_row a ≡ h.0 = only h.0 r.is_row in (
              h.0,
              h.1,
              record { is_row = row_due h.0 is_row; is_owner = r.is_owner; is_at = r.is_at; before = r.before; behind = r.behind; so = sym (spots_of h.0 is_row) ∙ r.so; good = r.good },
              h.3,
            )
        breaks_due (Row who start recorded found_bytes) places part h =
            let p = h.0 in
            let is_row : open_row a ≡ p = only p h.1 in (
              p,
              row_due p is_row,
              h.2,
              h.3,
              h.4,
              subst (λ spots. IsTrue (list_all (header_holds s p) spots) × (found_bytes ≡ sum_by (λ (x : Spot). 36 + x.stored.length) spots) × (found_bytes ≢ p.row.bytes) × (places ≡ flat_map (header_places s) spots)) (spots_of p is_row) h.5,
            )
        breaks_due (Body who at recorded found_mark) places part h = absurd part
        breaks_due (Length v m recorded found_length) places part h = absurd part
        breaks_due (Missing v index m) places part h = absurd part

        damage_due : (damage : Damage) (disk_now : D) → IsDamageIn s c (image1 told) (open_row a ∷ []) damage (d.history now) (d.history disk_now) → IsDamageOfDue found damage (d.history old) (d.history disk_now)
        damage_due damage disk_now met = record {
          part = met.part;
          seen = record {
            places = met.seen.places;
            read = has_read_later met.seen.places (work_written lap.works told) met.seen.read;
            breaks = breaks_due damage met.seen.places met.part met.seen.breaks;
          };
        }

      pub damaged_due : (disk_now : D) (result : Result (Unit {0}) ReadFault) →
          IfDamaged result (λ damage. d.tells → (any : Catalogue) → IsDamageIn s any (contents (d.history now)) (open_row a ∷ []) damage (d.history now) (d.history disk_now)) →
          IfDamaged result (λ damage. d.tells → IsDamageOfDue found damage (d.history old) (d.history disk_now))
      damaged_due disk_now (Ok value) met = tt
      damaged_due disk_now (Err DiskFault) met = tt
      damaged_due disk_now (Err (Damaged damage)) met = λ told. damage_due told damage disk_now (met told c)
      damaged_due disk_now (Err OutOfMemory) met = tt

      -- ---- one turn

      module _ (space_now : Allotment) (desk_now : OnDesk) (disk_now : D) (turn : Turn d s entries a space space_now desk desk_now now disk_now) where
        taken_now : IsTakenFor found before space_now desk_now
        taken_now = record {
          owners = turn.extents.owners (all_extents c) lap.taken.owners;
          count = turn.extents.extents ∙ lap.taken.count;
          held = turn.extents.held ∙ lap.taken.held;
        }

        module _ (told : d.tells) where
          abbrev image2 : List ℕ
          image2 = contents (d.history disk_now)

          abbrev g : Ground
          g = ground s entries (image0 told)

          abbrev g1 : Ground
          g1 = ground s entries (image1 told)

          written : AgreeBut (InRoom s space desk) (image1 told) image2
          written = same_contents (work_written turn.works told)

          stay : All (KeptStays g (image1 told) image2) lap.splits
          stay =
              All-weaker (Contains lap.splits) (KeptStays g (image1 told) image2)
              (λ e among bytes. All-weaker (Contains e.kept) (λ (k : OpenEntry). BeginWith s k.extents bytes (image1 told) → BeginWith s k.extents bytes image2)
              (λ k own begins. kept_stays found some_extent rules space desk at_work (image1 told) image2 written k.extents bytes
              (λ n inside. subst (λ es. Contains (kept_extents es) n) (sym lap.has.splits)
              (in_flat (λ (x : KeptEntry). in_categories x.kept) (map kept_of lap.splits) (kept_of e) n (mapped lap.splits e among) (in_flat (λ (x : OpenEntry). x.extents) e.kept k n own inside)))
              begins) e.kept (All-contains_itself e.kept))
              lap.splits (All-contains_itself lap.splits)
            where
              mapped : (xs : List SplitEntry) (x : SplitEntry) → Contains xs x → Contains (map kept_of xs) (kept_of x)
              mapped [] x none = absurd (omega (arith, none.1))
              mapped (y ∷ xs) x (zero, lt, at) = (0, omega arith, ap kept_of at)
              mapped (y ∷ xs) x (suc k, lt, at) = let more = mapped xs x (k, omega (arith, lt), at) in (suc more.0, omega (arith, more.1), more.2)

          turns_now : Turns g image2 (free_count before) c lap.done lap.splits
          turns_now = turns_later g (image1 told) image2 (free_count before) c lap.done lap.splits stay (lap.told told).turns

          pub whole : IsWholeCategory s (image0 told) a
          whole = whole_before s c some_extent rules (image0 told) (image1 told) (room told) (named told) a has_a (turn.turned.whole told)

          volume_now : filled_bytes g image2 desk.filling ≡ grown_bytes g c lap.splits
          volume_now = volume_stays found some_extent rules space desk at_work (image1 told) image2 written (room_now told) ∙ (lap.told told).volume

          same : records_in s (image1 told) a ≡ records_in s (image0 told) a
          same = same_records told

          -- the records are the same ones
          move_before : (free : ℕ) → IsToMove g1 free desk a → IsToMove g free desk a
          move_before free is_to = record {
            some = subst (λ rs. 1 ≤ length (archived_records entries rs)) same is_to.some;
            order = is_to.order;
            room = subst (λ rs. up s.extent (bytes_of_rows desk.filling.rows + bytes_in (archived_records entries rs)) + up s.extent (bytes_in (kept_records entries rs)) ≤ length desk.filling.numbers + free) same is_to.room;
          }

          move_now : (free : ℕ) → IsToMove g free desk a → IsToMove g1 free desk a
          move_now free is_to = record {
            some = subst (λ rs. 1 ≤ length (archived_records entries rs)) (sym same) is_to.some;
            order = is_to.order;
            room = subst (λ rs. up s.extent (bytes_of_rows desk.filling.rows + bytes_in (archived_records entries rs)) + up s.extent (bytes_in (kept_records entries rs)) ≤ length desk.filling.numbers + free) (sym same) is_to.room;
          }

        -- ---- left

        module _ (stays : desk_now ≡ desk) (tells : (told : d.tells) → Tells (g1 told) (image2 told) (free_count space) a desk []) where
          left : (told : d.tells) → IsLeft (g told) (free_after (free_count before) lap.splits) cc a
          left told = record {
            whole = whole told;
            stays = λ is_to. tells told (subst (λ n. IsToMove (g1 told) n desk a) (sym lap.free)
                (move_now told (free_after (free_count before) lap.splits) (to_move (g told) (free_after (free_count before) lap.splits) c lap.splits desk lap.has a is_to)));
          }

          lap_left : Lap d found entries before rest space_now desk_now old disk_now
          lap_left = record {
            done = lap.done ++ a ∷ [];
            splits = lap.splits;
            low = a.row.start + 1;
            all = all_now;
            among = λ i x below. lap.among (suc i) x (omega (arith, below));
            begins = omega (arith, lap.begins, next.above);
            later = next.rest;
            early = All-weaker (λ n. n < lap.low) (λ n. n < a.row.start + 1) (λ n lt. omega (arith, lt, next.above)) (map (λ (e : SplitEntry). e.start) lap.splits) lap.early;
            ascend = lap.ascend;
            has = subst (HasSplits c lap.splits) (sym stays) lap.has;
            may = lap.may;
            works = works_wide turn.works;
            faults = turn.faults ∙ lap.faults;
            taken = taken_now;
            grows = turn.grows;
            free = (let same_free : free_count space_now ≡ free_count space = omega (arith, turn.extents.free, ap (λ x. length (new_extents x)) stays) in same_free ∙ lap.free);
            told = λ told. record {
              turns = turns_left (g told) (image2 told) (free_count before) c lap.done lap.splits a (turns_now told) (left told);
              volume = subst (λ (x : OnDesk). filled_bytes (g told) (image2 told) x.filling ≡ grown_bytes (g told) c lap.splits) (sym stays) (volume_now told);
            };
          }

        -- ---- split

        module _ (e : SplitEntry) (becomes : BecomesSplit s a desk desk_now e) (tells : (told : d.tells) → Tells (g1 told) (image2 told) (free_count space) a desk (e ∷ []))
            (archives : (told : d.tells) → filled_bytes (g told) (image2 told) desk_now.filling ≡ filled_bytes (g told) (image1 told) desk.filling ++ written_records (archived_on (g1 told) a)) where
          abbrev own : List ℕ
          own = in_categories e.kept

          abbrev f : List CategoryRow → List CategoryRow
          f = rows_more (max e.start (oldest_in cc)) e.chunks e.bytes

          some_now : 1 ≤ length cc.volumes
          some_now = some_volume c lap.splits some

          last_is : after_splits c (lap.splits ++ e ∷ []) ≡ after_split cc e
          last_is = splits-last c lap.splits e

          rows_is : desk_now.filling.rows ≡ f (last_rows cc.volumes)
          rows_is = becomes.rows ∙ (λ k. rows_more (max e.start ((lap.has.oldest ∙ sym (same_oldest c lap.splits)) k)) e.chunks e.bytes (lap.has.rows k))

          numbers_is : desk_now.filling.numbers ≡ last_extents cc.volumes ++ e.added
          numbers_is = becomes.numbers ∙ ap (λ ns. ns ++ e.added) lap.has.numbers

          has_now : HasSplits c (lap.splits ++ e ∷ []) desk_now
          has_now = record {
            rows = rows_is ∙ sym (rows_grown f e.added cc.volumes some_now) ∙ sym (ap (λ (x : Catalogue). last_rows x.volumes) last_is);
            numbers = numbers_is ∙ sym (extents_grown f e.added cc.volumes some_now) ∙ sym (ap (λ (x : Catalogue). last_extents x.volumes) last_is);
            added = becomes.added ∙ ap (λ ns. ns ++ e.added) lap.has.added ∙ sym (flat_map-append (λ (x : SplitEntry). x.added) lap.splits (e ∷ []) ∙ ap (λ ns. added_by lap.splits ++ ns) (append-nil e.added));
            oldest = becomes.oldest ∙ lap.has.oldest;
            splits = becomes.splits ∙ ap (λ es. es ++ kept_of e ∷ []) lap.has.splits ∙ sym (map-append kept_of lap.splits (e ∷ []));
          }

          -- the extents that it took
          new_is : new_extents desk_now ≡ (desk.filling.added ++ e.added) ++ (kept_extents desk.splits ++ own)
          new_is =
              (λ k. becomes.added k ++ kept_extents (becomes.splits k))
              ∙ ap (λ ns. (desk.filling.added ++ e.added) ++ ns) (flat_map-append (λ (x : KeptEntry). in_categories x.kept) desk.splits (kept_of e ∷ []) ∙ ap (λ ns. kept_extents desk.splits ++ ns) (append-nil own))

          once : IsDistinct nat_eq (all_extents c ++ ((desk.filling.added ++ e.added) ++ (kept_extents desk.splits ++ own)))
          once = subst (λ ns. IsDistinct nat_eq (all_extents c ++ ns)) new_is taken_now.owners.once

          taken_own : (n : ℕ) → Contains (e.added ++ own) n → n < s.extents
          taken_own n has =
              let added = desk.filling.added in
              let kept = kept_extents desk.splits in
              let inside : Contains ((added ++ e.added) ++ (kept ++ own)) n =
              ⊎_elim
              (λ first. Contains-append_left (added ++ e.added) (kept ++ own) n (Contains-append_right added e.added n first))
              (λ later. Contains-append_right (added ++ e.added) (kept ++ own) n (Contains-append_right kept own n later))
              (Contains-append_cases e.added own n has) in
              let is_taken : IsTaken space_now n =
              All-contains (IsTaken space_now) (all_extents c ++ new_extents desk_now) n taken_now.owners.taken (Contains-append_right (all_extents c) (new_extents desk_now) n (subst (λ ns. Contains ns n) (sym new_is) inside)) in
              omega (arith, slice_get_within space_now.uses n Taken is_taken, taken_now.count)

          differ_now : IsDistinct nat_eq (all_extents cc ++ (e.added ++ own))
          differ_now =
              let added = desk.filling.added in
              let kept = kept_extents desk.splits in
              let both : IsDistinct nat_eq ((added ++ e.added) ++ (kept ++ own)) = distinct_right (all_extents c) ((added ++ e.added) ++ (kept ++ own)) once in
              let firsts : IsDistinct nat_eq (added ++ e.added) = distinct_left (added ++ e.added) (kept ++ own) both in
              let lasts : IsDistinct nat_eq (kept ++ own) = distinct_right (added ++ e.added) (kept ++ own) both in
              let apart : (n : ℕ) → Contains (added ++ e.added) n → Contains (kept ++ own) n → ⊥ = λ n. distinct_apart (added ++ e.added) (kept ++ own) n both in
              let kept_is : kept_by lap.splits ≡ kept = sym (flat_map-map (λ (x : KeptEntry). in_categories x.kept) kept_of lap.splits) ∙ ap kept_extents (sym lap.has.splits) in
              let mine : IsDistinct nat_eq (e.added ++ own) =
              IsDistinct-append e.added own (distinct_right added e.added firsts) (distinct_right kept own lasts)
              (λ n first later. apart n (Contains-append_right added e.added n first) (Contains-append_right kept own n later)) in
              IsDistinct-append (all_extents cc) (e.added ++ own) (distinct_of (all_extents cc) (right_and (list_all (λ n. nat_lt n s.extents) (all_extents cc)) (all_differ (all_extents cc)) (rules_of s cc (splits_rules s bounded c lap.splits rules lap.may)).extents)) mine
              (λ n there here.
              let new : Contains ((added ++ e.added) ++ (kept ++ own)) n =
              ⊎_elim
              (λ first. Contains-append_left (added ++ e.added) (kept ++ own) n (Contains-append_right added e.added n first))
              (λ later. Contains-append_right (added ++ e.added) (kept ++ own) n (Contains-append_right kept own n later))
              (Contains-append_cases e.added own n here) in
              ⊎_elim
              (λ owned. distinct_apart (all_extents c) ((added ++ e.added) ++ (kept ++ own)) n once owned new)
              (λ earlier. ⊎_elim
              (λ by_added.
              let in_added : Contains added n = subst (λ ns. Contains ns n) (sym lap.has.added) by_added in
              ⊎_elim (λ first. distinct_apart added e.added n firsts in_added first) (λ later. apart n (Contains-append_left added e.added n in_added) (Contains-append_right kept own n later)) (Contains-append_cases e.added own n here))
              (λ by_kept.
              let in_kept : Contains kept n = subst (λ ns. Contains ns n) kept_is by_kept in
              ⊎_elim (λ first. apart n (Contains-append_right added e.added n first) (Contains-append_left kept own n in_kept)) (λ later. distinct_apart kept own n lasts in_kept later) (Contains-append_cases e.added own n here))
              earlier)
              (splits_among n c lap.splits there))

          not_early : Contains (map (λ (x : SplitEntry). x.start) lap.splits) e.start → ⊥
          not_early has =
              let lt : e.start < lap.low = All-contains (λ n. n < lap.low) (map (λ (x : SplitEntry). x.start) lap.splits) e.start lap.early has in
              omega (arith, lt, becomes.start, next.above)

          one : MaySplit s cc e
          one =
              let numbers : SameNumbers c cc = same_numbers c lap.splits in
              record {
                waits = λ settled. waits (sym numbers.phase ∙ settled);
                is_open = still_open c lap.splits e.start not_early (subst (Contains (starts c.actives)) (sym becomes.start) (start_among c.actives a has_a));
                below = omega (arith, becomes.start, due_below c.newest c.phase a is, numbers.newest);
                some = becomes.counted.some;
                low = becomes.counted.low;
                high = becomes.counted.high;
                order = subst (λ rows. All (λ row. row.start ≤ max e.start (oldest_in cc)) rows) lap.has.rows
                    (subst (λ n. All (λ row. row.start ≤ max e.start n) desk.filling.rows) (lap.has.oldest ∙ sym (same_oldest c lap.splits)) becomes.order);
                room = sym (ap length numbers_is) ∙ turn.grows.extents.sized
                    ∙ ap (up s.extent) (ap bytes_of_rows rows_is ∙ bytes-rows_more (max e.start (oldest_in cc)) e.chunks e.bytes (last_rows cc.volumes));
                kept_holds = becomes.kept;
                kept_starts = becomes.named;
                one = becomes.one;
                extents_below = All-weaker (Contains (e.added ++ own)) (λ n. n < s.extents) taken_own (e.added ++ own) (All-contains_itself (e.added ++ own));
                once = all_differ-once (all_extents cc ++ e.added ++ own) (subst (IsDistinct nat_eq) (sym (append_assoc (all_extents cc) e.added own)) differ_now);
              }

          taken_by_is : free_count space_now ≡ free_count space - taken_by e
          taken_by_is =
              let added = desk.filling.added in
              let kept = kept_extents desk.splits in
              omega (
                arith,
                turn.extents.free,
                ap length new_is,
                length-append (added ++ e.added) (kept ++ own),
                length-append added e.added,
                length-append kept own,
                length-append e.added own,
                length-append added kept,
              )

          split : (told : d.tells) → IsSplit (g told) (image2 told) (free_after (free_count before) lap.splits) cc a e
          split told =
              let moves = (tells told).1 in
              let records : records_in s (image1 told) a ≡ records_in s (image0 told) a = same told in
              record {
                whole = whole told;
                made = to_split (g told) (free_after (free_count before) lap.splits) c lap.splits desk lap.has a
                    (move_before told (free_after (free_count before) lap.splits) (subst (λ n. IsToMove (g1 told) n desk a) lap.free (tells told).0));
                start = becomes.start;
                chunks = moves.chunks ∙ ap (λ rs. length (archived_records entries rs)) records;
                bytes = moves.bytes ∙ ap (λ rs. bytes_in (archived_records entries rs)) records;
                kept = All-weaker (IsKeptOf (g1 told) (image2 told) a) (IsKeptOf (g told) (image2 told) a)
                    (λ k kept. record {
                      chunks = kept.chunks ∙ ap (λ rs. length (kept_records entries rs)) records;
                      bytes = kept.bytes ∙ ap (λ rs. bytes_in (kept_records entries rs)) records;
                      records = subst (λ rs. BeginWith s k.extents (written_records (kept_records entries rs)) (image2 told)) records kept.records;
                    }) e.kept moves.kept;
                none = λ nothing. ap (λ rs. kept_records entries rs) (sym records) ∙ moves.none nothing;
              }

          lap_split : Lap d found entries before rest space_now desk_now old disk_now
          lap_split = record {
            done = lap.done ++ a ∷ [];
            splits = lap.splits ++ e ∷ [];
            low = a.row.start + 1;
            all = all_now;
            among = λ i x below. lap.among (suc i) x (omega (arith, below));
            begins = omega (arith, lap.begins, next.above);
            later = next.rest;
            early = subst (All (λ n. n < a.row.start + 1)) (sym (map-append (λ (x : SplitEntry). x.start) lap.splits (e ∷ [])))
                (All-append (λ n. n < a.row.start + 1) (map (λ (x : SplitEntry). x.start) lap.splits) (e.start ∷ [])
                (All-weaker (λ n. n < lap.low) (λ n. n < a.row.start + 1) (λ n lt. omega (arith, lt, next.above)) (map (λ (x : SplitEntry). x.start) lap.splits) lap.early)
                (All-cons (λ n. n < a.row.start + 1) e.start [] (omega (arith, becomes.start)) (All-nil (λ n. n < a.row.start + 1))));
            ascend = ap (ascends (c.base + 1) c.newest) (map-append (λ (x : SplitEntry). x.start) lap.splits (e ∷ []))
                ∙ ascends_last (c.base + 1) c.newest e.start (map (λ (x : SplitEntry). x.start) lap.splits) lap.ascend
                (All-weaker (λ n. n < lap.low) (λ n. n < e.start) (λ n lt. omega (arith, lt, next.above, becomes.start)) (map (λ (x : SplitEntry). x.start) lap.splits) lap.early)
                (omega (arith, lap.begins, next.above, becomes.start)) (omega (arith, next.below, becomes.start));
            has = has_now;
            may = may_last s c lap.splits e lap.may one;
            works = works_wide turn.works;
            faults = turn.faults ∙ lap.faults;
            taken = taken_now;
            grows = turn.grows;
            free = taken_by_is ∙ ap (λ n. n - taken_by e) lap.free ∙ sym (free_last (free_count before) lap.splits e);
            told = λ told. record {
              turns = turns_split (g told) (image2 told) (free_count before) c lap.done lap.splits a e (turns_now told) (split told);
              volume = archives told
                  ∙ ap (λ l. l ++ written_records (archived_on (g1 told) a)) (lap.told told).volume
                  ∙ ap (λ rs. grown_bytes (g told) c lap.splits ++ written_records (archived_records entries rs)) (same told)
                  ∙ sym (grown-last (g told) c lap.splits e a differ has_a becomes.start);
            };
          }

        -- ---- one of the two

        by_split : (split : List SplitEntry) → Becomes s a desk desk_now split → ((told : d.tells) → Tells (g1 told) (image2 told) (free_count space) a desk split) →
            Archives d (ground s entries (contents (d.history now))) a desk desk_now split now disk_now → Lap d found entries before rest space_now desk_now old disk_now
        by_split [] becomes tells archives = lap_left becomes tells
        by_split (e ∷ []) becomes tells archives = lap_split e becomes tells archives
        by_split (e ∷ more ∷ es) becomes tells archives = absurd becomes

        pub lap_turn : Lap d found entries before rest space_now desk_now old disk_now
        lap_turn = by_split turn.turned.split turn.turned.becomes turn.turned.told turn.turned.archives

-- ---- the newest closed volume as it is found

module _ (s : Sizes) where
  last_holds : (es : List VolumeEntry) → 1 ≤ length es → list_all (volume_holds s) es ≡ true → volume_holds s (record { rows = last_rows es; extents = last_extents es }) ≡ true
  last_holds [] some holds = absurd (omega (arith, some))
  last_holds (e ∷ []) some holds = left_and (volume_holds s e) true holds
  last_holds (e ∷ second ∷ es) some holds = last_holds (second ∷ es) (omega arith) (right_and (volume_holds s e) (list_all (volume_holds s) (second ∷ es)) holds)

  are_last : (es : List VolumeEntry) → AreExtents s (flat_map (λ (e : VolumeEntry). e.extents) es) → AreExtents s (last_extents es)
  are_last [] are = are
  are_last (e ∷ []) are = are_left s e.extents [] are
  are_last (e ∷ second ∷ es) are = are_last (second ∷ es) (are_right s e.extents (flat_map (λ (x : VolumeEntry). x.extents) (second ∷ es)) are)

last_ascends : (oldest j : ℕ) (es : List VolumeEntry) → 1 ≤ length es → starts_hold oldest j es ≡ true → (top : ℕ) × (ascends oldest top (row_starts (last_rows es)) ≡ true)
last_ascends oldest j [] some hold = absurd (omega (arith, some))
last_ascends oldest j (e ∷ []) some hold = (j, left_and (ascends oldest j (row_starts e.rows)) true hold)
last_ascends oldest j (e ∷ second ∷ es) some hold = last_ascends oldest (j + 1) (second ∷ es) (omega arith) (right_and (ascends oldest j (row_starts e.rows)) (starts_hold oldest (j + 1) (second ∷ es)) hold)

rising : (low high : ℕ) (ns : List ℕ) → ascends low high ns ≡ true → IsStrictlyIncreasing ns
rising low high [] ascending k lt = absurd (omega (arith, lt))
rising low high (n ∷ []) ascending k lt = absurd (omega (arith, lt))
rising low high (n ∷ m ∷ ns) ascending zero lt =
    let first : AscendsFrom low high n (m ∷ ns) = ascends_first low high n (m ∷ ns) ascending in
    let second : AscendsFrom (n + 1) high m ns = ascends_first (n + 1) high m ns first.rest in
    omega (arith, second.above)
rising low high (n ∷ m ∷ ns) ascending (suc k) lt =
    let first : AscendsFrom low high n (m ∷ ns) = ascends_first low high n (m ∷ ns) ascending in
    let behind : suc k + 1 ≡ suc (k + 1) = omega arith in
    omega (arith, rising (n + 1) high (m ∷ ns) first.rest k (omega (arith, lt)), ap (λ i. get_or (n ∷ m ∷ ns) i 0) behind)

grows_first : (found : Found) → IsTrue (obeys found.sizes found.catalogue) → (space : Allotment) (desk : OnDesk) → IsAllotted found space → HasSplits found.catalogue [] desk → 1 ≤ length found.catalogue.volumes →
    CanGrow found.sizes space desk.filling
grows_first found rules space desk allotted begins some =
    let s = found.sizes in
    let c = found.catalogue in
    let rows = last_rows c.volumes in
    let extents = last_extents c.volumes in
    let each : Obeys s c = obeys-each s c rules in
    let held : volume_holds s (record { rows = rows; extents = extents }) ≡ true = last_holds s c.volumes some each.volumes in
    let sized = length extents == up s.extent (bytes_of_rows rows) in
    let up_to = last_ascends (oldest_in c) (oldest_in c) c.volumes some each.starts in
    let versions = flat_map (λ (e : VersionEntry). e.extents) c.versions in
    let volumes = flat_map (λ (e : VolumeEntry). e.extents) c.volumes in
    let are : AreExtents s extents = are_last s c.volumes (are_right s versions volumes (are_left s (versions ++ volumes) (in_categories c.actives) (are_all s c each.extents))) in
    let taken : All (IsTaken space) extents =
    All-weaker (Contains extents) (IsTaken space) (λ n own. All-contains (IsTaken space) (all_extents c) n allotted.owners.taken (last_among_all c n own)) extents (All-contains_itself extents) in
    record {
      rows = subst (λ l. list_all (row_holds s) l ≡ true) (sym begins.rows) (left_and (list_all (row_holds s) rows) sized (left_and (list_all (row_holds s) rows && sized) (fits_eight (bytes_of_rows rows)) held));
      ascend = subst (λ l. IsStrictlyIncreasing (row_starts l)) (sym begins.rows) (rising (oldest_in c) up_to.0 (row_starts rows) up_to.1);
      extents = record {
        sized = ap length begins.numbers ∙ count_in_volume s (record { rows = rows; extents = extents }) held ∙ ap (λ l. up s.extent (bytes_of_rows l)) (sym begins.rows);
        extents = subst (AreExtents s) (sym begins.numbers) are;
        taken = subst (All (IsTaken space)) (sym begins.numbers) taken;
        count = allotted.count;
      };
    }

-- ---- before the first turn

module _ {D : Type 0} (d : Ghosts D) (found : Found) (entries : List RecipeEntry) (bounded : IsBounded found.sizes) (rules : IsTrue (obeys found.sizes found.catalogue)) (waits : found.catalogue.phase ≢ Settled)
    (before : Allotment) (desk : OnDesk) (disk : D) (allotted : IsAllotted found before) (begins : HasSplits found.catalogue [] desk) where
  pub lap_begin : Lap d found entries before found.catalogue.actives before desk disk disk
  lap_begin =
      let s = found.sizes in
      let c = found.catalogue in
      let some : 1 ≤ length c.volumes = waiting_volume s c rules waits in
      let none : new_extents desk ≡ [] = λ k. begins.added k ++ kept_extents (begins.splits k) in
      let owners : TakenExactly before (all_extents c ++ new_extents desk) =
      subst (λ ns. TakenExactly before (all_extents c ++ ns)) (sym none) (subst (TakenExactly before) (sym (append-nil (all_extents c))) allotted.owners) in
      record {
        done = [];
        splits = [];
        low = c.base + 1;
        all = refl;
        among = All-contains_itself c.actives;
        begins = omega arith;
        later = open_ascend c (rules_of s c rules).open_starts;
        early = All-nil (λ n. n < c.base + 1);
        ascend = refl;
        has = begins;
        may = tt;
        works = no_work;
        faults = refl;
        taken = record { owners = owners; count = allotted.count; held = refl };
        grows = grows_first found rules before desk allotted begins some;
        free = refl;
        told = λ told. record {
          turns = refl;
          volume = (λ k. take (bytes_of_rows (begins.rows k)) (owner_bytes s (begins.numbers k) (contents (d.history disk)))) ∙ sym (append-nil (take (bytes_of_rows (last_rows c.volumes)) (owner_bytes s (last_extents c.volumes) (contents (d.history disk)))));
        };
      }
