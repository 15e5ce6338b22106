-- What is known of an image that opens.
use Rattle.std.proofs.Common.{◌≡◌, ℕ, ◌+◌, ◌%◌, ◌≤◌, Bool, true, false, cond, ◌&&◌, ◌||◌, ◌-◌, ◌<◌, ◌^◌, map, le-ltb, not, List, [], ◌∷◌, length, refl, sym, ◌∙◌, ap, subst, arith, Option, Some, None, IfSome, nat_le, nat_lt, replicate}
use Rattle.std.specs.Prelude.{Result, Ok, Err, IfOk, IsTrue, bytes_eq, ◌==◌}
use Rattle.std.proofs.lemmas.Bool.{leb-true, ltb-true, ltb-false, eqb-true}
use Rattle.std.proofs.lemmas.List.{nil_from_length}
use Rattle.bd_disk.specs.Images.{bytes_at}
use Rattle.bd_model.specs.Sizes.{Sizes, payload_room, disk_bytes, is_shape}
use Rattle.bd_model.specs.declared.place.Place.{Place}
use Rattle.bd_model.specs.declared.place.Place.TheVariants.{Short, Gate, Magic, Number, Shape, Padding, Room, Payload}
use Rattle.bd_model.proofs.ListLemmas.{left_and, right_and}
use Rattle.bd_model.proofs.ChunkListLemmas.{bytes_eq-same}
use Rattle.bd_gate.specs.Superblock.{open_gate, magic, byte_at, four_at, sizes_at}
use Rattle.bd_gate.specs.Halves.{half_at, newest_half, newest_by, newer, payload_of, log_place}
use Rattle.bd_roll.specs.Catalogue.{Catalogue, oldest_in, retained_in, empty_catalogue}
use Rattle.bd_roll.specs.Spelling.{spelled, read_catalogue}
use Rattle.bd_roll.specs.Rules.{ascends, obeys, catalogue_of, numbers_hold, phase_holds, version_holds, starts_hold, actives_hold, volume_holds, active_holds, extents_hold}
use Rattle.std.specs.List.{list_all}
use Rattle.bd_model.specs.declared.layout.Phase.{Phase}
use Rattle.bd_model.specs.declared.layout.Phase.TheVariants.{Settled, Waiting}
use Rattle.bd_catalog.specs.Opening.{Found, opened, opened_half, opened_payload}

-- what an opening found in the image, test by test
pub record IsFound (image : List ℕ) (found : Found) : Type 0 where
  pub sizes : found.sizes ≡ sizes_at image
  pub shape : IsTrue (is_shape found.sizes)
  pub room : disk_bytes found.sizes ≤ length image
  pub newest : newest_half found.sizes image ≡ Some found.half.number
  pub half : found.half ≡ half_at found.sizes image found.half.number
  pub fits : found.half.length ≤ payload_room found.sizes
  pub catalogue : catalogue_of found.sizes (payload_of found.sizes found.half image) ≡ Some found.catalogue
  pub obeys : IsTrue (obeys found.sizes found.catalogue)
  pub spelled : spelled found.catalogue ≡ payload_of found.sizes found.half image
  pub log_end : found.log_end ≡ log_place found.sizes found.half

-- bytes that are some catalogue spell it, and it obeys the rules
pub record Spells (s : Sizes) (bytes : List ℕ) (c : Catalogue) : Type 0 where
  pub rules : IsTrue (obeys s c)
  pub same : spelled c ≡ bytes

pub catalogue_of-spells : (s : Sizes) (bytes : List ℕ) → IfSome (catalogue_of s bytes) (Spells s bytes)
catalogue_of-spells s bytes =
    let c = read_catalogue bytes in
    elim (obeys s c && bytes_eq (spelled c) bytes) as (λ t. (obeys s c && bytes_eq (spelled c) bytes) ≡ t → IfSome (cond t (Some c) None) (Spells s bytes)) [
      | true ↦ λ e. record { rules = left_and (obeys s c) (bytes_eq (spelled c) bytes) e; same = bytes_eq-same (spelled c) bytes (right_and (obeys s c) (bytes_eq (spelled c) bytes) e) }
      | false ↦ λ e. tt
    ] refl

-- the rules that a catalogue obeys, one by one
pub record Obeys (s : Sizes) (c : Catalogue) : Type 0 where
  pub numbers : IsTrue (numbers_hold s c)
  pub phase : IsTrue (phase_holds c c.phase)
  pub versions : IsTrue (list_all (version_holds s) c.versions)
  pub starts : IsTrue (starts_hold (oldest_in c) (oldest_in c) c.volumes)
  pub actives : IsTrue (actives_hold c)
  pub volumes : IsTrue (list_all (volume_holds s) c.volumes)
  pub categories : IsTrue (list_all (active_holds s) c.actives)
  pub extents : IsTrue (extents_hold s c)

pub obeys-each : (s : Sizes) (c : Catalogue) → IsTrue (obeys s c) → Obeys s c
obeys-each s c all =
    let numbers = numbers_hold s c in
    let phase = phase_holds c c.phase in
    let versions = list_all (version_holds s) c.versions in
    let starts = starts_hold (oldest_in c) (oldest_in c) c.volumes in
    let actives = actives_hold c in
    let volumes = list_all (volume_holds s) c.volumes in
    let categories = list_all (active_holds s) c.actives in
    let seven = numbers && phase && versions && starts && actives && volumes && categories in
    let six = numbers && phase && versions && starts && actives && volumes in
    let five = numbers && phase && versions && starts && actives in
    let four = numbers && phase && versions && starts in
    let three = numbers && phase && versions in
    let first_seven : seven ≡ true = left_and seven (extents_hold s c) all in
    let first_six : six ≡ true = left_and six categories first_seven in
    let first_five : five ≡ true = left_and five volumes first_six in
    let first_four : four ≡ true = left_and four actives first_five in
    let first_three : three ≡ true = left_and three starts first_four in
    let first_two : (numbers && phase) ≡ true = left_and (numbers && phase) versions first_three in
    record {
      numbers = left_and numbers phase first_two;
      phase = right_and numbers phase first_two;
      versions = right_and (numbers && phase) versions first_three;
      starts = right_and three starts first_four;
      actives = right_and four actives first_five;
      volumes = right_and five volumes first_six;
      categories = right_and six categories first_seven;
      extents = right_and seven (extents_hold s c) all;
    }

-- the numbers that are retained, one by one
pub record Numbered (s : Sizes) (c : Catalogue) : Type 0 where
  pub few : length c.versions ≤ s.retain
  pub since : c.base + length c.versions ≤ c.newest
  pub none : length c.versions ≡ 0 → c.base ≡ c.newest
  pub small : c.newest < 2 ^ 32
  pub volumes : length c.volumes ≡ length c.versions - 1

either : (a b : Bool) → (a || b) ≡ true → a ≡ false → b ≡ true
either a b e f = sym (ap (λ t. t || b) f) ∙ e

pub numbers-each : (s : Sizes) (c : Catalogue) → IsTrue (numbers_hold s c) → Numbered s c
numbers-each s c all =
    let few = nat_le (length c.versions) s.retain in
    let since = nat_le (c.base + length c.versions) c.newest in
    let none = nat_lt 0 (length c.versions) || c.base == c.newest in
    let small = nat_lt c.newest (2 ^ 32) in
    let volumes = length c.volumes == length c.versions - 1 in
    let four : (few && since && none && small) ≡ true = left_and (few && since && none && small) volumes all in
    let three : (few && since && none) ≡ true = left_and (few && since && none) small four in
    let two : (few && since) ≡ true = left_and (few && since) none three in
    record {
      few = leb-true (length c.versions) s.retain (left_and few since two);
      since = leb-true (c.base + length c.versions) c.newest (right_and few since two);
      none = λ e. eqb-true c.base c.newest (either (nat_lt 0 (length c.versions)) (c.base == c.newest) (right_and (few && since) none three) (le-ltb 0 (length c.versions) (omega arith)));
      small = ltb-true c.newest (2 ^ 32) (right_and (few && since && none) small four);
      volumes = eqb-true (length c.volumes) (length c.versions - 1) (right_and (few && since && none && small) volumes all);
    }

no_phase : (c : Catalogue) (phase : Phase) → IsTrue (phase_holds c phase) → length c.versions ≡ 0 → phase ≡ Settled
no_phase c Settled holds none = refl
no_phase c (Waiting cursor) holds none =
    let two : nat_le 2 (length c.versions) ≡ true = left_and (nat_le 2 (length c.versions)) (nat_lt c.base cursor) (left_and (nat_le 2 (length c.versions) && nat_lt c.base cursor) (nat_le cursor c.newest) holds) in
    absurd (omega (arith, none, leb-true 2 (length c.versions) two))

-- a catalogue without versions has nothing else either
pub nothing-else : (s : Sizes) (c : Catalogue) → Obeys s c → retained_in c ≡ 0 → c ≡ record empty_catalogue { base = c.base; newest = c.base }
nothing-else s c rules none =
    let numbered : Numbered s c = numbers-each s c rules.numbers in
    let ascending = ascends (c.base + 1) c.newest (map (λ e. e.row.start) c.actives) in
    let open_none : (nat_lt 0 (length c.versions) || length c.actives == 0) ≡ true = right_and ascending (nat_lt 0 (length c.versions) || length c.actives == 0) rules.actives in
    let actives : length c.actives ≡ 0 = eqb-true (length c.actives) 0 (either (nat_lt 0 (length c.versions)) (length c.actives == 0) open_none (le-ltb 0 (length c.versions) (omega (arith, none)))) in
    λ k. record {
      base = c.base;
      newest = sym (numbered.none none) k;
      phase = no_phase c c.phase rules.phase none k;
      versions = nil_from_length c.versions none k;
      volumes = nil_from_length c.volumes (omega (arith, numbered.volumes, none)) k;
      actives = nil_from_length c.actives actives k;
    }

-- the newest half is one of the two
pub newest_by-small : (open0 : Bool) (turn0 : ℕ) (open1 : Bool) (turn1 : ℕ) → IfSome (newest_by open0 turn0 open1 turn1) (λ k. k ≤ 1)
unfolding newest_by
newest_by-small true turn0 true turn1 =
    elim (nat_le turn0 2 && nat_le turn1 2) as (λ t. IfSome (cond t (newer turn0 turn1) None) (λ k. k ≤ 1)) [
      | true ↦ elim (turn1 == (turn0 + 1) % 3) as (λ t. IfSome (cond t (Some 1) (cond (turn0 == (turn1 + 1) % 3) (Some 0) None)) (λ k. k ≤ 1)) [
        | true ↦ omega arith
        | false ↦ elim (turn0 == (turn1 + 1) % 3) as (λ t. IfSome (cond t (Some 0) None) (λ k. k ≤ 1)) [ true ↦ omega arith | false ↦ tt ]
      ]
      | false ↦ tt
    ]
newest_by-small true turn0 false turn1 = elim (nat_le turn0 2) as (λ t. IfSome (cond t (Some 0) None) (λ k. k ≤ 1)) [ true ↦ omega arith | false ↦ tt ]
newest_by-small false turn0 open1 turn1 = elim (open1 && nat_le turn1 2) as (λ t. IfSome (cond t (Some 1) None) (λ k. k ≤ 1)) [ true ↦ omega arith | false ↦ tt ]

-- the checks of an opening, on what they read
abbrev pub opened_by : Sizes → ℕ → ℕ → List ℕ → ℕ → List ℕ → Result Found Place → Result Found Place
opened_by s long gate mark number padding half =
    cond (nat_lt long 64) (Err Short)
    (cond (not (gate == open_gate)) (Err Gate)
    (cond (not (bytes_eq mark magic)) (Err Magic)
    (cond (not (number == 1)) (Err Number)
    (cond (not (is_shape s)) (Err Shape)
    (cond (not (bytes_eq padding (replicate 28 0))) (Err Padding)
    (cond (nat_lt long (disk_bytes s)) (Err Room) half))))))

pub opened-is : (image : List ℕ) → opened image ≡ opened_by (sizes_at image) (length image) (byte_at image 0) (bytes_at 1 7 image) (four_at image 8) (bytes_at 36 28 image) (opened_half (sizes_at image) image (newest_half (sizes_at image) image))
unfolding opened
opened-is image = refl

-- what a passed check leaves
passed : (P : Found → Type 0) (failed : Bool) (place : Place) (rest : Result Found Place) → (failed ≡ false → IfOk rest P) → IfOk (cond failed (Err place) rest) P
passed P true place rest holds = tt
passed P false place rest holds = holds refl

not-false : (b : Bool) → not b ≡ false → b ≡ true
not-false true e = refl
not-false false e = sym e

opened_by-finds : (P : Found → Type 0) (s : Sizes) (long gate : ℕ) (mark : List ℕ) (number : ℕ) (padding : List ℕ) (half : Result Found Place) →
    (IsTrue (is_shape s) → disk_bytes s ≤ long → IfOk half P) → IfOk (opened_by s long gate mark number padding half) P
opened_by-finds P s long gate mark number padding half holds =
    let room = cond (nat_lt long (disk_bytes s)) (Err Room) half in
    let pad = cond (not (bytes_eq padding (replicate 28 0))) (Err Padding) room in
    let shape = cond (not (is_shape s)) (Err Shape) pad in
    let format = cond (not (number == 1)) (Err Number) shape in
    let text = cond (not (bytes_eq mark magic)) (Err Magic) format in
    let first = cond (not (gate == open_gate)) (Err Gate) text in
    passed P (nat_lt long 64) Short first (λ a.
    passed P (not (gate == open_gate)) Gate text (λ b.
    passed P (not (bytes_eq mark magic)) Magic format (λ c.
    passed P (not (number == 1)) Number shape (λ d.
    passed P (not (is_shape s)) Shape pad (λ is.
    passed P (not (bytes_eq padding (replicate 28 0))) Padding room (λ e.
    passed P (nat_lt long (disk_bytes s)) Room half (λ fits.
    holds (not-false (is_shape s) is) (ltb-false long (disk_bytes s) fits))))))))

module _ (image : List ℕ) (shaped : IsTrue (is_shape (sizes_at image))) (room : disk_bytes (sizes_at image) ≤ length image) where
  abbrev s : Sizes
  s = sizes_at image

  found_payload : (k : ℕ) (c : Option Catalogue) → newest_half s image ≡ Some k → (half_at s image k).length ≤ payload_room s → catalogue_of s (payload_of s (half_at s image k) image) ≡ c → IfSome c (Spells s (payload_of s (half_at s image k) image)) →
      IfOk (opened_payload s (half_at s image k) image c) (IsFound image)
  found_payload k None newest fits is spells = tt
  found_payload k (Some c) newest fits is spells =
      record { sizes = refl; shape = shaped; room = room; newest = newest; half = refl; fits = fits; catalogue = is; obeys = spells.rules; spelled = spells.same; log_end = refl }

  found_half : (k : Option ℕ) → newest_half s image ≡ k → IfOk (opened_half s image k) (IsFound image)
  found_half None newest = tt
  found_half (Some k) newest =
      let half = half_at s image k in
      elim (nat_le half.length (payload_room s))
      as (λ t. nat_le half.length (payload_room s) ≡ t → IfOk (cond t (opened_payload s half image (catalogue_of s (payload_of s half image))) (Err Payload)) (IsFound image)) [
        | true ↦ λ e. found_payload k (catalogue_of s (payload_of s half image)) newest (leb-true half.length (payload_room s) e) refl (catalogue_of-spells s (payload_of s half image))
        | false ↦ λ e. tt
      ] refl

-- where an image opens each check passed
pub opened-found : (image : List ℕ) (found : Found) → opened image ≡ Ok found → IsFound image found
opened-found image found opens =
    let s = sizes_at image in
    let half = opened_half s image (newest_half s image) in
    let finds : IfOk (opened_by s (length image) (byte_at image 0) (bytes_at 1 7 image) (four_at image 8) (bytes_at 36 28 image) half) (IsFound image) =
    opened_by-finds (IsFound image) s (length image) (byte_at image 0) (bytes_at 1 7 image) (four_at image 8) (bytes_at 36 28 image) half
    (λ shaped room. found_half image shaped room (newest_half s image) refl) in
    subst (λ r. IfOk r (IsFound image)) (sym (opened-is image) ∙ opens) finds

-- ---- the checks before the halves

-- the checks that fail with these places, one after the other
abbrev checks : List (Bool × Place) → Result Found Place → Result Found Place
checks [] half = half
checks (c ∷ cs) half = cond c.0 (Err c.1) (checks cs half)

all_passed : (cs : List (Bool × Place)) (half other : Result Found Place) (found : Found) → checks cs half ≡ Ok found → checks cs other ≡ other
all_passed [] half other found = λ e. refl
all_passed (c ∷ cs) half other found =
    elim c.0 as (λ t. cond t (Err c.1) (checks cs half) ≡ Ok found → cond t (Err c.1) (checks cs other) ≡ other) [
      | true ↦ λ e. absurd (no_ok c.1 found e)
      | false ↦ all_passed cs half other found
    ]
  where
    no_ok : (place : Place) (f : Found) → Err place ≡ Ok f → ⊥
    no_ok place f e = cc

-- checks that one image passed leave to its halves what is found, whatever they hold
pub checks_passed : (s : Sizes) (long gate : ℕ) (mark : List ℕ) (number : ℕ) (padding : List ℕ) (half other : Result Found Place) (found : Found) →
    opened_by s long gate mark number padding half ≡ Ok found → opened_by s long gate mark number padding other ≡ other
checks_passed s long gate mark number padding half other found =
    all_passed
    ((nat_lt long 64, Short) ∷ (not (gate == open_gate), Gate) ∷ (not (bytes_eq mark magic), Magic) ∷ (not (number == 1), Number) ∷ (not (is_shape s), Shape)
    ∷ (not (bytes_eq padding (replicate 28 0)), Padding) ∷ (nat_lt long (disk_bytes s), Room) ∷ [])
    half other found
