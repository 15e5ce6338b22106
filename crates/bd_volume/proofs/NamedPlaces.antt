-- An image shows what another one does that agrees with it on the bytes that the catalogue names.
use Rattle.std.proofs.Common.{◌≡◌, ⊎_elim, ℕ, zero, suc, ◌+◌, ◌-◌, ◌*◌, ◌<◌, ◌≤◌, Bool, true, false, cond, ◌&&◌, List, [], ◌∷◌, ◌++◌, length, take, map, get_or, refl, sym, ◌∙◌, ap, subst, arith, nat_lt, length-append}
use Rattle.std.specs.Prelude.{All, Contains, IsTrue, Ok}
use Rattle.std.specs.List.{flat_map, list_all, range_with_len}
use Rattle.std.proofs.lemmas.Bool.{cases_lt, false≢true, ltb-true}
use Rattle.std.proofs.lemmas.List.{get_or-map, get_or-take, length-map, length-take}
use Rattle.std.proofs.lemmas.List.Elements.{All-append, All-cons, All-contains, All-nil, All-weaker, Contains-append_left, Contains-append_right}
use Rattle.std.proofs.lemmas.List.FromFn.{length-range_with_len}
use Rattle.std.proofs.lemmas.List.Folds.{list_all-append}
use Rattle.std.proofs.lemmas.List.Sums.{AllPass-from_list_all}
use Rattle.std.proofs.lemmas.Grind.{same_number_lists}
use Rattle.bd_disk.specs.Images.{Agree}
use Rattle.bd_disk.proofs.AgreeLemmas.{agree_fewer}
use Rattle.bd_model.specs.declared.layout.CategoryRow.{CategoryRow}
use Rattle.bd_model.specs.declared.layout.Phase.{Phase}
use Rattle.bd_model.specs.declared.shape.Shape.{Shape}
use Rattle.bd_model.specs.Chunks.{numbers}
use Rattle.bd_model.specs.Extents.{owner_bytes}
use Rattle.bd_model.specs.History.{VersionHistory, newest, oldest, version}
use Rattle.bd_model.specs.Layout.{closed_volume, open_category, row_of, rows}
use Rattle.bd_model.specs.Recipe.{entry_of, recipe}
use Rattle.bd_model.specs.Records.{records_of, spelled_entry, spelled_recipe}
use Rattle.bd_model.specs.Room.{up}
use Rattle.bd_model.specs.Sizes.{Sizes, disk_bytes, sizes_of}
use Rattle.bd_model.specs.State.{VersionState, history}
use Rattle.bd_model.proofs.ListLemmas.{left_and, right_and}
use Rattle.bd_model.proofs.RecordLemmas.{length-mark, length-records, length-spelled_entry}
use Rattle.bd_model.proofs.RoomLemmas.{up-enough}
use Rattle.bd_model.proofs.RowLemmas.{no_chunks, rows_describe_the_volume, rows_over}
use Rattle.bd_extio.specs.Ranges.{InOwner, place_of}
use Rattle.bd_extio.proofs.Places.{get_or-owner_bytes, length-owner_bytes}
use Rattle.bd_roll.specs.Catalogue.{Catalogue, OpenEntry, VersionEntry, VolumeEntry, active_extents, all_extents, bytes_of_rows, oldest_in, recipe_extents, volume_extents, entry_with}
use Rattle.bd_catalog.specs.Opening.{Found, opened}
use Rattle.bd_catalog.specs.Rows.{open_row}
use Rattle.bd_roll.specs.Rules.{active_holds, all_differ, obeys, version_holds, volume_holds}
use Rattle.bd_catalog.specs.Standing.{BeginWith, HasActives, HasNumbers, HasVersions, HasVolumes, StandsFor}
use Rattle.bd_catalog.proofs.StandingLemmas.{Shows, shows_same, stands-shown, stands-shows}
use Rattle.bd_catalog.proofs.StandingFound.{Obeys, obeys-each, opened-found}
use Rattle.bd_catalog.proofs.StandingLines.{chunks_recorded}
use Rattle.bd_roll.proofs.RuleLemmas.{count_in_category, count_in_version, count_in_volume}
use Rattle.bd_volume.specs.Named.{InNamed, Named, named_by, open_named, recipe_named, volume_named}
use Rattle.bd_volume.proofs.Held.{one_entry, rows_stand}
use Rattle.bd_volume.proofs.PieceLemmas.{AreOwned, opens_owned}

-- what an owner begins with lies in so many of its first places
module _ (s : Sizes) (extents bytes old new : List ℕ) (some : 1 ≤ s.extent) (below : All (λ e. e < s.extents) extents) (room : disk_bytes s ≤ length old) (inside : length bytes ≤ length extents * s.extent)
    (agree : Agree (InOwner s extents 0 (length bytes)) old new) where
  room_now : disk_bytes s ≤ length new
  room_now = omega (arith, room, agree.size)

  pub begin_named : BeginWith s extents bytes old → BeginWith s extents bytes new
  begin_named begins =
      let n = length bytes in
      let long_old : length (take n (owner_bytes s extents old)) ≡ n = omega (arith, length-take n (owner_bytes s extents old), length-owner_bytes s extents some below old room) in
      let long_new : length (take n (owner_bytes s extents new)) ≡ n = omega (arith, length-take n (owner_bytes s extents new), length-owner_bytes s extents some below new room_now) in
      let same : take n (owner_bytes s extents new) ≡ take n (owner_bytes s extents old) =
      same_number_lists _ _ (omega (arith, long_old, long_new)) (λ k lt.
      let low : k < n = omega (arith, long_new) in
      let from_start : k ≡ 0 + k = omega arith in
      let within : k < length extents * s.extent = omega (arith, inside) in
      get_or-take n (owner_bytes s extents new) k 0 low
      ∙ get_or-owner_bytes s extents some below new room_now k within
      ∙ agree.each (place_of s extents k) (record { k = k; within = low; so = ap (place_of s extents) from_start })
      ∙ sym (get_or-owner_bytes s extents some below old room k within)
      ∙ sym (get_or-take n (owner_bytes s extents old) k 0 low)) in
      record { front = same ∙ begins.front }

-- ---- owners have their bytes

-- the extents are there, and have room for the bytes
pub record FitsNamed (s : Sizes) (o : Named) : Type 0 where
  pub below : All (λ e. e < s.extents) o.extents
  pub inside : o.bytes ≤ length o.extents * s.extent

module _ (s : Sizes) (some : 1 ≤ s.extent) where
  abbrev are_below : List ℕ → Bool
  are_below ns = list_all (λ n. nat_lt n s.extents) ns

  below_all : (ns : List ℕ) → are_below ns ≡ true → All (λ e. e < s.extents) ns
  below_all ns h = All-weaker (λ n. nat_lt n s.extents ≡ true) (λ n. n < s.extents) (λ n lt. ltb-true n s.extents lt) ns (AllPass-from_list_all (λ n. nat_lt n s.extents) ns h)

  -- entries of a kind, each of which has the extents of its bytes
  fit_each : {X : Type 0} (name : X → Named) (test : X → Bool) → ((x : X) → test x ≡ true → length (name x).extents ≡ up s.extent (name x).bytes) →
      (xs : List X) → list_all test xs ≡ true → are_below (flat_map (λ x. (name x).extents) xs) ≡ true → All (FitsNamed s) (map name xs)
  fit_each name test sized [] hold below = All-nil (FitsNamed s)
  fit_each name test sized (x ∷ xs) hold below =
      let own = (name x).extents in
      let rest = flat_map (λ y. (name y).extents) xs in
      let both : (are_below own && are_below rest) ≡ true = sym (list_all-append (λ n. nat_lt n s.extents) own rest) ∙ below in
      All-cons (FitsNamed s) (name x) (map name xs)
      (record {
        below = below_all own (left_and (are_below own) (are_below rest) both);
        inside = up-enough s.extent (name x).bytes (length own) some (sized x (left_and (test x) (list_all test xs) hold));
      })
      (fit_each name test sized xs (right_and (test x) (list_all test xs) hold) (right_and (are_below own) (are_below rest) both))

  pub all_fit : (c : Catalogue) → IsTrue (obeys s c) → All (FitsNamed s) (named_by c)
  all_fit c rules =
      let each : Obeys s c = obeys-each s c rules in
      let versions = flat_map (λ (e : VersionEntry). e.extents) c.versions in
      let volumes = flat_map (λ (e : VolumeEntry). e.extents) c.volumes in
      let actives = flat_map (λ (e : OpenEntry). e.extents) c.actives in
      let all : are_below (all_extents c) ≡ true = left_and (are_below (all_extents c)) (all_differ (all_extents c)) each.extents in
      let closed : are_below (versions ++ volumes) ≡ true = left_and (are_below (versions ++ volumes)) (are_below actives) (sym (list_all-append (λ n. nat_lt n s.extents) (versions ++ volumes) actives) ∙ all) in
      let opens : are_below actives ≡ true = right_and (are_below (versions ++ volumes)) (are_below actives) (sym (list_all-append (λ n. nat_lt n s.extents) (versions ++ volumes) actives) ∙ all) in
      let parts : (are_below versions && are_below volumes) ≡ true = sym (list_all-append (λ n. nat_lt n s.extents) versions volumes) ∙ closed in
      All-append (FitsNamed s) (map recipe_named c.versions ++ map volume_named c.volumes) (map open_named c.actives)
      (All-append (FitsNamed s) (map recipe_named c.versions) (map volume_named c.volumes)
      (fit_each recipe_named (version_holds s) (count_in_version s) c.versions each.versions (left_and (are_below versions) (are_below volumes) parts))
      (fit_each volume_named (volume_holds s) (count_in_volume s) c.volumes each.volumes (right_and (are_below versions) (are_below volumes) parts)))
      (fit_each open_named (active_holds s) (count_in_category s) c.actives each.categories opens)

-- ---- owners among those that are named

mapped : {X : Type 0} (name : X → Named) (xs : List X) (k : ℕ) (d : X) → k < length xs → Contains (map name xs) (name (get_or xs k d))
mapped name xs k d lt = (k, omega (arith, length-map xs name, lt), get_or-map name xs k d (name (get_or xs k d)) lt)

module _ (c : Catalogue) where
  abbrev recipes : List Named
  recipes = map recipe_named c.versions

  abbrev volumes : List Named
  volumes = map volume_named c.volumes

  abbrev opens : List Named
  opens = map open_named c.actives

  recipe_among : (o : Named) → Contains recipes o → Contains (named_by c) o
  recipe_among o has = Contains-append_left (recipes ++ volumes) opens o (Contains-append_left recipes volumes o has)

  volume_among : (o : Named) → Contains volumes o → Contains (named_by c) o
  volume_among o has = Contains-append_left (recipes ++ volumes) opens o (Contains-append_right recipes volumes o has)

  open_among : (o : Named) → Contains opens o → Contains (named_by c) o
  open_among o has = Contains-append_right (recipes ++ volumes) opens o has

-- an entry with this row, that it is named, and that its start finds its extents
record OpenAt (c : Catalogue) (es : List OpenEntry) (row : CategoryRow) : Type 0 where
  entry : OpenEntry
  among : Contains (map open_named es) (open_named entry)
  is : entry.row ≡ row
  owned : active_extents c entry.row.start ≡ entry.extents

-- an open category that isn't empty has one
open_at : (c : Catalogue) (f : ℕ → List (List ℕ)) (es : List OpenEntry) (a n : ℕ) → map (λ (e : OpenEntry). e.row) es ≡ rows_over f (range_with_len a n) → AreOwned c (map open_row es) →
    (i : ℕ) → a ≤ i → i < a + n → nat_lt 0 (length (f i)) ≡ true → OpenAt c es (row_of i (f i))
open_at c f es a zero is owned i from to has = absurd (omega arith)
open_at c f es a (suc n) is owned i from to has =
    let rest = rows_over f (range_with_len (a + 1) n) in
    elim (nat_lt 0 (length (f a))) as (λ t. nat_lt 0 (length (f a)) ≡ t → map (λ (e : OpenEntry). e.row) es ≡ cond t (row_of a (f a) ∷ rest) rest → OpenAt c es (row_of i (f i))) [
      | false ↦ λ none same.
          ⊎_elim
          (λ later. open_at c f es (a + 1) n same owned i (omega arith) (omega arith) has)
          (λ le. let here : a ≡ i = omega arith in absurd (false≢true (sym none ∙ ap (λ k. nat_lt 0 (length (f k))) here ∙ has)))
          (cases_lt a i)
      | true ↦ λ _ same. one_entry es (row_of a (f a)) rest same (λ xs. AreOwned c (map open_row xs) → OpenAt c xs (row_of i (f i))) (λ e later row more own.
          ⊎_elim
          (λ past.
          let found : OpenAt c later (row_of i (f i)) = open_at c f later (a + 1) n more own.1 i (omega arith) (omega arith) has in
          record { entry = found.entry; among = Contains-append_right (open_named e ∷ []) (map open_named later) (open_named found.entry) found.among; is = found.is; owned = found.owned })
          (λ le. let here : a ≡ i = omega arith in record { entry = e; among = (0, omega arith, refl); is = row ∙ ap (λ k. row_of k (f k)) here; owned = own.0 })
          (cases_lt a i)) owned
    ] refl is

-- ---- the parts of a state

length-recipe : (h : VersionHistory) (v : ℕ) (cs : List (List ℕ)) → length (spelled_recipe (map (entry_of h v) cs)) ≡ 40 * length cs
length-recipe h v [] = refl
length-recipe h v (c ∷ cs) =
    omega (arith, length-append (spelled_entry (entry_of h v c)) (spelled_recipe (map (entry_of h v) cs)), length-spelled_entry (entry_of h v c) (length-mark c), length-recipe h v cs)

module _ (s : Sizes) (some : 1 ≤ s.extent) (c : Catalogue) (rules : IsTrue (obeys s c)) (old new : List ℕ) (room : disk_bytes s ≤ length old) (agree : Agree (InNamed s c) old new) where
  -- what an owner that is named begins with, within its bytes
  owner_begins : (o : Named) → Contains (named_by c) o → (bytes : List ℕ) → length bytes ≤ o.bytes → BeginWith s o.extents bytes old → BeginWith s o.extents bytes new
  owner_begins o among bytes within =
      let fits : FitsNamed s o = All-contains (FitsNamed s) (named_by c) o (all_fit s some c rules) among in
      begin_named s o.extents bytes old new some fits.below room (omega (arith, fits.inside))
      (agree_fewer (InNamed s c) (InOwner s o.extents 0 (length bytes)) old new
      (λ place p. record { owner = o; among = among; within = record { k = p.k; within = omega (arith, p.within); so = p.so } }) agree)

  module _ (h : VersionHistory) (phase : Phase) (numbered : HasNumbers h c) where
    pub volumes_begin : HasVolumes s h phase c old → HasVolumes s h phase c new
    volumes_begin has = record {
      rows = has.rows;
      records = λ j low high.
          let none : VolumeEntry = record { rows = []; extents = [] } in
          let k = j - oldest_in c in
          let n = newest h - 1 + 1 - oldest h in
          let inside : k < length c.volumes =
          omega (arith, numbered.newest, numbered.retained, ap (λ l. length l) has.rows, length-map c.volumes (λ (e : VolumeEntry). e.rows), length-map (numbers (oldest h) (newest h - 1)) (rows h phase), length-range_with_len (oldest h) n) in
          let e = get_or c.volumes k none in
          let extents : e.extents ≡ volume_extents c j = sym (get_or-map (λ (x : VolumeEntry). x.extents) c.volumes k none [] inside) in
          let rows_of : e.rows ≡ rows h phase j = sym (get_or-map (λ (x : VolumeEntry). x.rows) c.volumes k none [] inside) ∙ rows_stand s h phase c old numbered has j low high in
          let size : length (records_of (closed_volume h phase j)) ≡ bytes_of_rows e.rows = length-records (closed_volume h phase j) ∙ sym (rows_describe_the_volume.bytes h phase j low) ∙ ap bytes_of_rows (sym rows_of) in
          subst (λ xs. BeginWith s xs (records_of (closed_volume h phase j)) new) extents
          (owner_begins (volume_named e) (volume_among c (volume_named e) (mapped volume_named c.volumes k none inside)) (records_of (closed_volume h phase j)) (omega (arith, size))
          (subst (λ xs. BeginWith s xs (records_of (closed_volume h phase j)) old) (sym extents) (has.records j low high)));
    }

    pub actives_begin : HasActives s h phase c old → HasActives s h phase c new
    actives_begin has = record {
      rows = has.rows;
      records = λ i low high.
          let cs = open_category h phase i in
          elim (nat_lt 0 (length cs)) as (λ t. nat_lt 0 (length cs) ≡ t → BeginWith s (active_extents c i) (records_of cs) new) [
            | false ↦ λ none. subst (λ xs. BeginWith s (active_extents c i) (records_of xs) new) (sym (no_chunks cs none)) (record { front = refl })
            | true ↦ λ filled.
                let at : OpenAt c c.actives (row_of i cs) = open_at c (open_category h phase) c.actives (h.base + 1) (newest h + 1 - (h.base + 1)) has.rows (opens_owned s c rules) i (omega arith) (omega arith) filled in
                let e = at.entry in
                let extents : e.extents ≡ active_extents c i = sym at.owned ∙ ap (λ (r : CategoryRow). active_extents c r.start) at.is in
                let size : length (records_of cs) ≡ e.row.bytes = length-records cs ∙ ap (λ (r : CategoryRow). r.bytes) (sym at.is) in
                subst (λ xs. BeginWith s xs (records_of cs) new) extents
                (owner_begins (open_named e) (open_among c (open_named e) at.among) (records_of cs) (omega (arith, size))
                (subst (λ xs. BeginWith s xs (records_of cs) old) (sym extents) (has.records i low high)))
          ] refl;
    }

module _ (shape : Shape) (st : VersionState) (c : Catalogue) (rules : IsTrue (obeys (sizes_of shape) c)) (old new : List ℕ) (room : disk_bytes (sizes_of shape) ≤ length old) (agree : Agree (InNamed (sizes_of shape) c) old new) where
  pub versions_begin : HasNumbers (history shape st) c → HasVersions shape st c old → HasVersions shape st c new
  versions_begin numbered has = record {
    lines = has.lines;
    recipes = λ v low high.
        let s = sizes_of shape in
        let h = history shape st in
        let none = entry_with 0 0 0 [] in
        let k = v - oldest_in c in
        let inside : k < length c.versions = omega (arith, numbered.newest, numbered.retained) in
        let e = get_or c.versions k none in
        let extents : e.extents ≡ recipe_extents c v = sym (get_or-map (λ (x : VersionEntry). x.extents) c.versions k none [] inside) in
        let chunks : e.chunks ≡ length (version h v) = sym (get_or-map (λ (x : VersionEntry). x.chunks) c.versions k none 0 inside) ∙ chunks_recorded shape st c old numbered has v low high in
        let bytes = spelled_recipe (recipe h v) in
        let size : length bytes ≡ 40 * e.chunks = length-recipe h v (version h v) ∙ ap (λ n. 40 * n) (sym chunks) in
        subst (λ xs. BeginWith s xs bytes new) extents
        (owner_begins s (omega (arith, shape.in_range.extent_low)) c rules old new room agree (recipe_named e) (recipe_among c (recipe_named e) (mapped recipe_named c.versions k none inside)) bytes (omega (arith, size))
        (subst (λ xs. BeginWith s xs bytes old) (sym extents) (has.recipes v low high)));
  }

module _ {shape : Shape} {st : VersionState} {phase : Phase} {held : ℕ} {found : Found} {old new : List ℕ} where
  -- what was found shows the state in an image that agrees on the bytes that the catalogue names
  pub named_agrees : IsTrue (obeys found.sizes found.catalogue) → disk_bytes found.sizes ≤ length old → Agree (InNamed found.sizes found.catalogue) old new → Shows shape st phase held found old → Shows shape st phase held found new
  named_agrees obeyed long agree shows =
      let s = sizes_of shape in
      let c = found.catalogue in
      let h = history shape st in
      let some : 1 ≤ s.extent = omega (arith, shape.in_range.extent_low) in
      let rules : IsTrue (obeys s c) = subst (λ t. IsTrue (obeys t c)) shows.sizes obeyed in
      let room : disk_bytes s ≤ length old = subst (λ t. disk_bytes t ≤ length old) shows.sizes long in
      let same : Agree (InNamed s c) old new = subst (λ t. Agree (InNamed t c) old new) shows.sizes agree in
      record {
        sizes = shows.sizes;
        at_phase = shows.at_phase;
        numbers = shows.numbers;
        versions = versions_begin shape st c rules old new room same shows.numbers shows.versions;
        volumes = volumes_begin s some c rules old new room same h phase shows.numbers shows.volumes;
        actives = actives_begin s some c rules old new room same h phase shows.numbers shows.actives;
        reserve = shows.reserve;
      }

-- an image stands for what another one does that has its catalogue and agrees on them
pub stands_named : (shape : Shape) (st : VersionState) (phase : Phase) (held : ℕ) (old new : List ℕ) (found again : Found) → opened old ≡ Ok found → opened new ≡ Ok again →
    again.sizes ≡ found.sizes → again.catalogue ≡ found.catalogue → Agree (InNamed found.sizes found.catalogue) old new → StandsFor shape st phase held old → StandsFor shape st phase held new
stands_named shape st phase held old new found again opens opens_new sizes catalogue agree stands =
    let is = opened-found old found opens in
    stands-shown stands.state opens_new (shows_same found again sizes catalogue (named_agrees is.obeys is.room agree (stands-shows stands opens)))
