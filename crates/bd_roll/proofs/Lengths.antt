-- A catalogue that obeys the rules is spelled in no more bytes than there is room for.
use Rattle.std.proofs.Common.{◌≡◌, ℕ, ◌+◌, ◌-◌, ◌*◌, ◌^◌, ◌<◌, ◌≤◌, true, List, [], ◌∷◌, ◌++◌, length, refl, ◌∙◌, ap, arith, length-append}
use Rattle.std.specs.List.{flat_map, list_all}
use Rattle.std.proofs.lemmas.Nat.{le-div}
use Rattle.std.proofs.lemmas.List.{length-map}
use Rattle.std.proofs.Math.Nat.{mul-le-mul_left, mul-le-mul_right}
use Rattle.bd_model.proofs.ListLemmas.{left_and, right_and}
use Rattle.bd_model.specs.Room.{up}
use Rattle.bd_model.specs.Sizes.{Sizes, payload_room}
use Rattle.bd_model.specs.Records.{four}
use Rattle.bd_model.specs.declared.layout.Phase.{Phase}
use Rattle.bd_model.specs.declared.layout.Phase.TheVariants.{Settled, Waiting}
use Rattle.bd_model.specs.declared.layout.CategoryRow.{CategoryRow}
use Rattle.bd_roll.specs.Catalogue.{Catalogue, VersionEntry, VolumeEntry, OpenEntry, oldest_in, row_starts}
use Rattle.bd_roll.specs.Spelling.{spelled_extents, spelled_phase, spelled_row, spelled_version, spelled_volume, spelled_active, spelled}
use Rattle.bd_roll.specs.Rules.{ascends, starts_hold, active_holds, obeys}
use Rattle.bd_roll.proofs.RuleLemmas.{ascends_count, IsBounded, rules_of, numbers_of, owned_of, row_of, open_row_of, count_in_category}

pub length-fours : (ns : List ℕ) → length (flat_map four ns) ≡ 4 * length ns
length-fours [] = refl
length-fours (n ∷ ns) = omega (arith, length-append (four n) (flat_map four ns), length-fours ns)

pub length-spelled_extents : (ns : List ℕ) → length (spelled_extents ns) ≡ 4 + 4 * length ns
length-spelled_extents ns = omega (arith, length-append (four (length ns)) (flat_map four ns), length-fours ns)

pub length-rows : (rows : List CategoryRow) → length (flat_map spelled_row rows) ≡ 20 * length rows
length-rows [] = refl
length-rows (row ∷ rows) = omega (arith, length-append (spelled_row row) (flat_map spelled_row rows), length-rows rows)

length-versions : (es : List VersionEntry) → length (flat_map spelled_version es) ≡ 28 * length es + 4 * length (flat_map (λ e. e.extents) es)
length-versions [] = refl
length-versions (e ∷ es) =
    let one : length (spelled_version e) ≡ 28 + 4 * length e.extents = omega (arith, length-spelled_extents e.extents) in
    omega (arith, length-append (spelled_version e) (flat_map spelled_version es), length-versions es, length-append e.extents (flat_map (λ (v : VersionEntry). v.extents) es))

length-volume : (e : VolumeEntry) → length (spelled_volume e) ≡ 8 + 20 * length e.rows + 4 * length e.extents
length-volume e =
    omega (
      arith,
      length-append (four (length e.rows) ++ flat_map spelled_row e.rows) (spelled_extents e.extents),
      length-append (four (length e.rows)) (flat_map spelled_row e.rows),
      length-rows e.rows,
      length-spelled_extents e.extents,
    )

-- the volume behind `i` others has at most i + 1 rows
length-volumes : (oldest i : ℕ) (es : List VolumeEntry) → starts_hold oldest (oldest + i) es ≡ true →
    length (flat_map spelled_volume es) + 10 * (i * (i + 1)) ≤ 8 * length es + 10 * ((i + length es) * (i + length es + 1)) + 4 * length (flat_map (λ e. e.extents) es)
length-volumes oldest i [] h = omega arith
length-volumes oldest i (e ∷ es) h =
    let up_to = left_and (ascends oldest (oldest + i) (row_starts e.rows)) (starts_hold oldest (oldest + i + 1) es) h in
    let behind : starts_hold oldest (oldest + (i + 1)) es ≡ true = ap (λ (j : ℕ). starts_hold oldest j es) (omega arith) ∙ right_and (ascends oldest (oldest + i) (row_starts e.rows)) (starts_hold oldest (oldest + i + 1) es) h in
    let rows : length e.rows ≤ i + 1 = omega (arith, ascends_count oldest (oldest + i) (row_starts e.rows) up_to, length-map e.rows (λ (row : CategoryRow). row.start)) in
    omega (arith, length-volume e, length-append (spelled_volume e) (flat_map spelled_volume es), length-volumes oldest (i + 1) es behind, length-append e.extents (flat_map (λ (v : VolumeEntry). v.extents) es))

some_extent : (s : Sizes) → IsBounded s → (e : OpenEntry) → active_holds s e ≡ true → 1 ≤ length e.extents
some_extent s bounded e h =
    let row = row_of s bounded e.row (open_row_of s bounded e h) in
    let one : 1 ≤ up s.extent e.row.bytes = le-div 1 (e.row.bytes + (s.extent - 1)) s.extent bounded.extent (omega (arith, row.some, row.least)) in
    omega (arith, count_in_category s e h)

length-actives : (s : Sizes) → IsBounded s → (es : List OpenEntry) → list_all (active_holds s) es ≡ true →
    length (flat_map spelled_active es) ≤ 28 * length (flat_map (λ e. e.extents) es)
length-actives s bounded [] h = omega arith
length-actives s bounded (e ∷ es) h =
    let one : length (spelled_active e) ≡ 24 + 4 * length e.extents = omega (arith, length-append (spelled_row e.row) (spelled_extents e.extents), length-spelled_extents e.extents) in
    omega (
      arith,
      some_extent s bounded e (left_and (active_holds s e) (list_all (active_holds s) es) h),
      length-append (spelled_active e) (flat_map spelled_active es),
      length-actives s bounded es (right_and (active_holds s e) (list_all (active_holds s) es) h),
      length-append e.extents (flat_map (λ (o : OpenEntry). o.extents) es),
    )

length-spelled_phase : (phase : Phase) → length (spelled_phase phase) ≡ 5
length-spelled_phase Settled = refl
length-spelled_phase (Waiting cursor) = refl

length-parts : (c : Catalogue) → length (spelled c) ≡
    21 + length (flat_map spelled_version c.versions) + length (flat_map spelled_volume c.volumes) + length (flat_map spelled_active c.actives)
length-parts c =
    let head = four c.base ++ four c.newest ++ four (length c.versions) in
    let versions = flat_map spelled_version c.versions in
    let volumes = flat_map spelled_volume c.volumes in
    let actives = flat_map spelled_active c.actives in
    omega (
      arith,
      length-append ((head ++ spelled_phase c.phase ++ versions) ++ volumes ++ four (length c.actives)) actives,
      length-append ((head ++ spelled_phase c.phase ++ versions) ++ volumes) (four (length c.actives)),
      length-append (head ++ spelled_phase c.phase ++ versions) volumes,
      length-append (head ++ spelled_phase c.phase) versions,
      length-append head (spelled_phase c.phase),
      length-spelled_phase c.phase,
    )

pub length-spelled : (s : Sizes) → IsBounded s → (c : Catalogue) → obeys s c ≡ true → length (spelled c) ≤ payload_room s
length-spelled s bounded c h =
    let rules = rules_of s c h in
    let numbers = numbers_of s c rules.numbers in
    let own = owned_of s bounded c rules.extents in
    let versions = flat_map (λ (e : VersionEntry). e.extents) c.versions in
    let volumes = flat_map (λ (e : VolumeEntry). e.extents) c.volumes in
    let actives = flat_map (λ (e : OpenEntry). e.extents) c.actives in
    let m = length c.volumes in
    let few : m ≤ s.retain = omega (arith, numbers.few, numbers.volumes) in
    let square : m * (m + 1) ≤ s.retain * (s.retain + 1) = omega (arith, mul-le-mul_right {m = m} {n = s.retain} (m + 1) few, mul-le-mul_left {m = m + 1} {n = s.retain + 1} s.retain (omega arith)) in
    let starts : starts_hold (oldest_in c) (oldest_in c + 0) c.volumes ≡ true = ap (λ (j : ℕ). starts_hold (oldest_in c) j c.volumes) (omega arith) ∙ rules.starts in
    omega (
      arith,
      length-parts c,
      length-versions c.versions,
      length-volumes (oldest_in c) 0 c.volumes starts,
      length-actives s bounded c.actives rules.actives,
      own.few,
      length-append (versions ++ volumes) actives,
      length-append versions volumes,
      numbers.few,
      numbers.volumes,
    )

pub payload_room-small : (s : Sizes) → IsBounded s → payload_room s < 2 ^ 32
payload_room-small s bounded =
    let square : s.retain * (s.retain + 1) ≤ 256 * 257 = omega (arith, bounded.retain, mul-le-mul_right {m = s.retain} {n = 256} (s.retain + 1) bounded.retain) in
    omega (arith, bounded.retain, bounded.extents)
