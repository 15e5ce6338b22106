-- Images that agree where a store reads them open alike, and owners have the same bytes in them.
use Rattle.std.proofs.Common.{◌≡◌, ⊎_elim, ℕ, zero, suc, ◌+◌, ◌-◌, ◌*◌, ◌/◌, ◌%◌, get_or, ◌<◌, ◌≤◌, true, false, cond, List, [], ◌∷◌, ◌++◌, length, take, length-take, length-append, get_or-take, refl, sym, ◌∙◌, ap, subst, arith, Option, Some, None, IfSome, option_map, min, nat_le}
use Rattle.std.specs.Prelude.{Result, Ok, Err, Contains, ◌==◌}
use Rattle.std.specs.Int.{w32, w64, from_be_bytes}
use Rattle.std.proofs.lemmas.Bool.{leb-true, le-leb, cases_lt}
use Rattle.std.proofs.Math.Nat.{mul-le-mul_right, div-lt_iff_lt-mul, mod-lt}
use Rattle.std.proofs.lemmas.List.Elements.{Contains-get_or}
use Rattle.bd_disk.specs.Images.{InRange, Agree, bytes_at, overwritten}
use Rattle.std.proofs.lemmas.List.{get_or_append_left, get_or-append_right}
use Rattle.bd_disk.proofs.AgreeLemmas.{same_bytes_at, agree_fewer, length-bytes_at, get_or-bytes_at, length-overwritten, overwritten_elsewhere, overwritten_there}
use Rattle.bd_model.specs.Sizes.{Sizes, half_bytes, half_place, payload_room, extent_place}
use Rattle.bd_model.specs.Extents.{owner_bytes}
use Rattle.bd_model.specs.declared.place.Place.{Place}
use Rattle.bd_model.specs.declared.place.Place.TheVariants.{Payload}
use Rattle.bd_model.proofs.ListLemmas.{same_some}
use Rattle.bd_gate.specs.Superblock.{open_gate, byte_at, four_at, sizes_at}
use Rattle.bd_gate.specs.Standing.{Standing, SameStanding, behind}
use Rattle.bd_gate.specs.Halves.{Half, half_at, newest_half, newest_by, is_open, turn_at, payload_of, log_place, half_of}
use Rattle.bd_catalog.specs.Agreement.{InExtents}
use Rattle.bd_roll.specs.Catalogue.{Catalogue}
use Rattle.bd_roll.specs.Rules.{catalogue_of}
use Rattle.bd_catalog.specs.Opening.{Found, opened, opened_half, opened_payload}
use Rattle.bd_catalog.specs.Standing.{BeginWith}
use Rattle.std.proofs.lemmas.Grind.{same_number_lists}
use Rattle.bd_catalog.proofs.StandingFound.{IsFound, newest_by-small, opened_by, opened-is, opened-found, checks_passed}

-- the places of superblock and halves
abbrev pub InFront : Sizes → ℕ → Type 0
InFront s place = place < extent_place s 0

-- a byte of an owner lies in its extents
pub in_extents : (s : Sizes) (extents : List ℕ) → 1 ≤ s.extent → (at : ℕ) → at < length extents * s.extent → InExtents s extents (extent_place s (get_or extents (at / s.extent) 0) + at % s.extent)
in_extents s extents some at lt =
    let positive : 0 < s.extent = omega arith in
    record {
      extent = get_or extents (at / s.extent) 0;
      among = Contains-get_or extents (at / s.extent) 0 ((div-lt_iff_lt-mul {k = s.extent} {x = at} {y = length extents} positive).1 lt);
      within = (omega arith, omega (arith, mod-lt at positive));
    }

before_next : (s : Sizes) (a b : ℕ) → a < b → extent_place s a + s.extent ≤ extent_place s b
before_next s a b lt = omega (arith, mul-le-mul_right {m = a + 1} {n = b} s.extent (omega arith))

-- a place lies in one extent
pub one_extent : (s : Sizes) (a b place : ℕ) → InRange (extent_place s a) s.extent place → InRange (extent_place s b) s.extent place → a ≡ b
one_extent s a b place in_a in_b =
    ⊎_elim
    (λ less. absurd (omega (arith, before_next s a b less, in_a.1, in_b.0)))
    (λ le. ⊎_elim (λ more. absurd (omega (arith, before_next s b a more, in_b.1, in_a.0))) (λ back. omega arith) (cases_lt b a))
    (cases_lt a b)

-- owners with different extents have no place in common
pub owners_apart : (s : Sizes) (one other : List ℕ) → ((e : ℕ) → Contains one e → Contains other e → ⊥) → (place : ℕ) → InExtents s one place → InExtents s other place → ⊥
owners_apart s one other apart place in_one in_other =
    apart in_one.extent in_one.among (subst (Contains other) (one_extent s in_other.extent in_one.extent place in_other.within in_one.within) in_other.among)

-- superblock and halves lie before every extent
pub front_apart : (s : Sizes) (extents : List ℕ) (place : ℕ) → InFront s place → InExtents s extents place → ⊥
front_apart s extents place front inside = omega (arith, front, inside.within.0)

-- images with the same numbers in their superblocks name the same sizes
pub sizes_by_fields : (old new : List ℕ) → ((at : ℕ) → at + 4 ≤ 64 → four_at new at ≡ four_at old at) → sizes_at new ≡ sizes_at old
sizes_by_fields old new field = λ k. record {
  extent = field 12 (omega arith) k;
  extents = field 16 (omega arith) k;
  retain = field 20 (omega arith) k;
  min = field 24 (omega arith) k;
  bits = field 28 (omega arith) k;
  max = field 32 (omega arith) k;
}

-- the places of the superblock
abbrev pub InSuperblock : ℕ → Type 0
InSuperblock place = place < 64

module _ (old new : List ℕ) (agree : Agree InSuperblock old new) where
  super_at : (at n : ℕ) → at + n ≤ 64 → bytes_at at n new ≡ bytes_at at n old
  super_at at n within = same_bytes_at InSuperblock old new at n (λ place r. omega (arith, r.1, within)) agree

  super_four : (at : ℕ) → at + 4 ≤ 64 → four_at new at ≡ four_at old at
  super_four at within = ap (from_be_bytes w32) (super_at at 4 within)

  -- images that agree on the superblock name the same sizes
  pub same_sizes : sizes_at new ≡ sizes_at old
  same_sizes = sizes_by_fields old new super_four

  -- and pass the same checks
  same_checks : (half : Result Found Place) →
      opened_by (sizes_at new) (length new) (byte_at new 0) (bytes_at 1 7 new) (four_at new 8) (bytes_at 36 28 new) half
      ≡ opened_by (sizes_at old) (length old) (byte_at old 0) (bytes_at 1 7 old) (four_at old 8) (bytes_at 36 28 old) half
  same_checks half = λ k. opened_by (same_sizes k) (agree.size k) (agree.each 0 (omega arith) k) (super_at 1 7 (omega arith) k) (super_four 8 (omega arith) k) (super_at 36 28 (omega arith) k) half

  -- an image opens by its newest half, where it has the superblock of one that opens
  pub opens_by_half : (before found : Found) → opened old ≡ Ok before → opened_half before.sizes new (newest_half before.sizes new) ≡ Ok found → opened new ≡ Ok found
  opens_by_half before found opens half =
      let s : before.sizes ≡ sizes_at old = (opened-found old before opens).sizes in
      let same : sizes_at new ≡ before.sizes = same_sizes ∙ sym s in
      let here : opened_half (sizes_at new) new (newest_half (sizes_at new) new) ≡ Ok found = ap (λ t. opened_half t new (newest_half t new)) same ∙ half in
      opened-is new ∙ same_checks (opened_half (sizes_at new) new (newest_half (sizes_at new) new))
      ∙ checks_passed (sizes_at old) (length old) (byte_at old 0) (bytes_at 1 7 old) (four_at old 8) (bytes_at 36 28 old)
      (opened_half (sizes_at old) old (newest_half (sizes_at old) old)) (opened_half (sizes_at new) new (newest_half (sizes_at new) new)) before (sym (opened-is old) ∙ opens)
      ∙ here

  -- so it opens where that half has a payload that fits and spells a catalogue
  pub opens_with : (before : Found) (k : ℕ) (c : Catalogue) → opened old ≡ Ok before → let half = half_at before.sizes new k in
      newest_half before.sizes new ≡ Some k → half.length ≤ payload_room before.sizes → catalogue_of before.sizes (payload_of before.sizes half new) ≡ Some c →
      opened new ≡ Ok (record { sizes = before.sizes; half = half; catalogue = c; log_end = log_place before.sizes half })
  opens_with before k c opens newest fits spells =
      let s = before.sizes in
      let half : Half = half_at s new k in
      opens_by_half before (record { sizes = s; half = half; catalogue = c; log_end = log_place s half }) opens
      (ap (opened_half s new) newest
      ∙ ap (λ t. cond t (opened_payload s half new (catalogue_of s (payload_of s half new))) (Err Payload)) (le-leb half.length (payload_room s) fits)
      ∙ ap (opened_payload s half new) spells)

module _ (s : Sizes) (old new : List ℕ) (agree : Agree (InFront s) old new) where
  same_at : (at n : ℕ) → at + n ≤ extent_place s 0 → bytes_at at n new ≡ bytes_at at n old
  same_at at n within = same_bytes_at (InFront s) old new at n (λ place r. omega (arith, r.1, within)) agree

  same_byte : (at : ℕ) → at < extent_place s 0 → byte_at new at ≡ byte_at old at
  same_byte at within = agree.each at within

  half_within : (k : ℕ) → k ≤ 1 → half_place s k + half_bytes s ≤ extent_place s 0
  half_within zero le = omega arith
  half_within (suc zero) le = omega arith
  half_within (suc (suc k)) le = absurd (omega arith)

  same_open : (k : ℕ) → k ≤ 1 → is_open s new k ≡ is_open s old k
  same_open k le = ap (λ b. b == open_gate) (same_byte (half_place s k) (omega (arith, half_within k le)))

  same_turn : (k : ℕ) → k ≤ 1 → turn_at s new k ≡ turn_at s old k
  same_turn k le = same_byte (half_place s k + 1) (omega (arith, half_within k le))

  same_newest : newest_half s new ≡ newest_half s old
  same_newest = λ k. newest_by (same_open 0 (omega arith) k) (same_turn 0 (omega arith) k) (same_open 1 (omega arith) k) (same_turn 1 (omega arith) k)

  same_half : (k : ℕ) → k ≤ 1 → half_at s new k ≡ half_at s old k
  same_half k le = λ i. half_of k (same_turn k le i) (from_be_bytes w64 (same_at (half_place s k + 2) 8 (omega (arith, half_within k le)) i)) (same_open (1 - k) (omega arith) i)

  same_payload : (half : Half) → half.number ≤ 1 → half.length ≤ payload_room s → payload_of s half new ≡ payload_of s half old
  same_payload half le fits = same_at (half_place s half.number + 10) half.length (omega (arith, half_within half.number le))

  same_opened_payload : (half : Half) (found : Option Catalogue) → opened_payload s half new found ≡ opened_payload s half old found
  same_opened_payload half None = refl
  same_opened_payload half (Some c) = refl

  after_half : (half : Half) → half.number ≤ 1 →
      cond (nat_le half.length (payload_room s)) (opened_payload s half new (catalogue_of s (payload_of s half new))) (Err Payload)
      ≡ cond (nat_le half.length (payload_room s)) (opened_payload s half old (catalogue_of s (payload_of s half old))) (Err Payload)
  after_half half le =
      elim (nat_le half.length (payload_room s))
      as (λ t. nat_le half.length (payload_room s) ≡ t → cond t (opened_payload s half new (catalogue_of s (payload_of s half new))) (Err Payload) ≡ cond t (opened_payload s half old (catalogue_of s (payload_of s half old))) (Err Payload)) [
        | true ↦ λ e. same_opened_payload half (catalogue_of s (payload_of s half new)) ∙ ap (λ bytes. opened_payload s half old (catalogue_of s bytes)) (same_payload half le (leb-true half.length (payload_room s) e))
        | false ↦ λ e. refl
      ] refl

  same_opened_half : (k : Option ℕ) → IfSome k (λ n. n ≤ 1) → opened_half s new k ≡ opened_half s old k
  same_opened_half None small = refl
  same_opened_half (Some k) small =
      ap (λ half. cond (nat_le half.length (payload_room s)) (opened_payload s half new (catalogue_of s (payload_of s half new))) (Err Payload)) (same_half k small)
      ∙ after_half (half_at s old k) small

-- images that agree on superblock and halves open alike
pub same_opened : (old new : List ℕ) → Agree (InFront (sizes_at old)) old new → opened new ≡ opened old
same_opened old new agree =
    let s = sizes_at old in
    let super : Agree InSuperblock old new = agree_fewer (InFront s) InSuperblock old new (λ place lt. omega (arith, lt)) agree in
    let half : opened_half (sizes_at new) new (newest_half (sizes_at new) new) ≡ opened_half s old (newest_half s old) =
    ap (λ t. opened_half t new (newest_half t new)) (same_sizes old new super)
    ∙ ap (opened_half s new) (same_newest s old new agree)
    ∙ same_opened_half s old new agree (newest_half s old) (newest_by-small (is_open s old 0) (turn_at s old 0) (is_open s old 1) (turn_at s old 1)) in
    opened-is new
    ∙ same_checks old new super (opened_half (sizes_at new) new (newest_half (sizes_at new) new))
    ∙ ap (opened_by s (length old) (byte_at old 0) (bytes_at 1 7 old) (four_at old 8) (bytes_at 36 28 old)) half
    ∙ sym (opened-is old)

-- so what was found is found again
pub opens_again : (found : Found) (old new : List ℕ) → opened old ≡ Ok found → Agree (InFront found.sizes) old new → opened new ≡ Ok found
opens_again found old new opens agree = same_opened old new (subst (λ s. Agree (InFront s) old new) (opened-found old found opens).sizes agree) ∙ opens

-- the bytes of an owner are the same in images that agree on its extents
pub same_owner_bytes : (s : Sizes) (extents old new : List ℕ) → Agree (InExtents s extents) old new → owner_bytes s extents new ≡ owner_bytes s extents old
same_owner_bytes s [] old new agree = refl
same_owner_bytes s (e ∷ es) old new agree =
    let first : bytes_at (extent_place s e) s.extent new ≡ bytes_at (extent_place s e) s.extent old =
    same_bytes_at (InExtents s (e ∷ es)) old new (extent_place s e) s.extent (λ place r. record { extent = e; among = (0, omega arith, refl); within = r }) agree in
    let rest : owner_bytes s es new ≡ owner_bytes s es old =
    same_owner_bytes s es old new (agree_fewer (InExtents s (e ∷ es)) (InExtents s es) old new (λ place p. record { extent = p.extent; among = (suc p.among.0, omega (arith, p.among.1), p.among.2); within = p.within }) agree) in
    λ k. first k ++ rest k

-- what they begin with carries over
pub begin_with_agrees : (s : Sizes) (extents bytes old new : List ℕ) → Agree (InExtents s extents) old new → BeginWith s extents bytes old → BeginWith s extents bytes new
begin_with_agrees s extents bytes old new agree begins = record { front = ap (take (length bytes)) (same_owner_bytes s extents old new agree) ∙ begins.front }

-- an owner's bytes begin with more once this is written behind what they begin with
pub begin_with_more : (s : Sizes) (extents first second old new : List ℕ) → BeginWith s extents first old → length first + length second ≤ length (owner_bytes s extents old) →
    owner_bytes s extents new ≡ overwritten (owner_bytes s extents old) (length first) second → BeginWith s extents (first ++ second) new
begin_with_more s extents first second old new begins fits written =
    let before = owner_bytes s extents old in
    let at = length first in
    let after = overwritten before at second in
    let both : length (first ++ second) ≡ at + length second = length-append first second in
    let size : length after ≡ length before = length-overwritten before at second in
    let front : length (take (length (first ++ second)) after) ≡ length (first ++ second) = omega (arith, length-take (length (first ++ second)) after, both, size) in
    record {
      front = ap (take (length (first ++ second))) written ∙ same_number_lists _ _ front (λ k lt.
          let within : k < length (first ++ second) = omega (arith, front) in
          get_or-take (length (first ++ second)) after k 0 within
          ∙ ⊎_elim
          (λ less.
          overwritten_elsewhere before at second k (λ r. omega (arith, r.0))
          ∙ sym (get_or-take at before k 0 less) ∙ ap (λ bytes. get_or bytes k 0) begins.front ∙ sym (get_or_append_left first second 0 k less))
          (λ past.
          let back : at + (k - at) ≡ k = omega arith in
          ap (λ n. get_or after n 0) (sym back) ∙ overwritten_there before at second (k - at) (omega (arith, both)) (omega (arith, both))
          ∙ sym (get_or-append_right first second at k 0 refl past))
          (cases_lt k at));
    }

-- ---- the same newest half

-- bytes among other bytes
bytes_at-within : (a m i n : ℕ) (image : List ℕ) → i + n ≤ m → bytes_at (a + i) n image ≡ bytes_at i n (bytes_at a m image)
bytes_at-within a m i n image fits =
    let outer : length (bytes_at a m image) ≡ min m (length image - a) = length-bytes_at a m image in
    let one : length (bytes_at (a + i) n image) ≡ min n (length image - (a + i)) = length-bytes_at (a + i) n image in
    let other : length (bytes_at i n (bytes_at a m image)) ≡ min n (length (bytes_at a m image) - i) = length-bytes_at i n (bytes_at a m image) in
    same_number_lists _ _ (omega (arith, outer, one, other)) (λ k lt.
    let in_n : k < n = omega (arith, one) in
    let at : a + i + k ≡ a + (i + k) = omega arith in
    get_or-bytes_at (a + i) n image k in_n ∙ ap (λ p. get_or image p 0) at ∙ sym (get_or-bytes_at a m image (i + k) (omega arith)) ∙ sym (get_or-bytes_at i n (bytes_at a m image) k in_n))

module _ (s : Sizes) (old new : List ℕ) (k : ℕ) (same : behind s new k ≡ behind s old k) where
  behind_at : (at i n : ℕ) → at ≡ half_place s k + 1 + i → i + n ≤ half_bytes s - 1 → bytes_at at n new ≡ bytes_at at n old
  behind_at at i n e fits =
      let place = half_place s k + 1 in
      let long = half_bytes s - 1 in
      ap (λ p. bytes_at p n new) e ∙ bytes_at-within place long i n new fits ∙ ap (bytes_at i n) same ∙ sym (bytes_at-within place long i n old fits) ∙ sym (ap (λ p. bytes_at p n old) e)

  behind_length : (half_at s new k).length ≡ (half_at s old k).length
  behind_length = ap (from_be_bytes w64) (behind_at (half_place s k + 2) 1 8 (omega arith) (omega arith))

  behind_payload : (half_at s old k).length ≤ payload_room s → payload_of s (half_at s new k) new ≡ payload_of s (half_at s old k) old
  behind_payload fits = ap (λ n. bytes_at (half_place s k + 10) n new) behind_length ∙ behind_at (half_place s k + 10) 9 (half_at s old k).length (omega arith) (omega (arith, fits))

-- a half as it stands
abbrev standing_at : Sizes → List ℕ → ℕ → Standing
standing_at s image k = record { number = k; bytes = behind s image k }

-- an image with the same superblock and the same newest half opens with the same catalogue
pub same_standing_opens : (found : Found) (old new : List ℕ) → opened old ≡ Ok found → Agree InSuperblock old new → SameStanding found.sizes old new →
    (again : Found) × (opened new ≡ Ok again) × (again.sizes ≡ found.sizes) × (again.catalogue ≡ found.catalogue)
same_standing_opens found old new opens agree same =
    let s = found.sizes in
    let k = found.half.number in
    let is : IsFound old found = opened-found old found opens in
    let there : option_map (standing_at s new) (newest_half s new) ≡ Some (standing_at s old k) = same ∙ ap (option_map (standing_at s old)) is.newest in
    let stands : (newest_half s new ≡ Some k) × (behind s new k ≡ behind s old k) = from_standing s k (behind s old k) (newest_half s new) refl there in
    let half : Half = half_at s new k in
    let size : half.length ≡ found.half.length = behind_length s old new k stands.1 ∙ sym (ap (λ h. h.length) is.half) in
    let payload : payload_of s half new ≡ payload_of s found.half old =
    behind_payload s old new k stands.1 (omega (arith, is.fits, ap (λ h. h.length) is.half)) ∙ sym (ap (λ h. payload_of s h old) is.half) in (
      record { sizes = s; half = half; catalogue = found.catalogue; log_end = log_place s half },
      opens_with old new agree found k found.catalogue opens stands.0 (omega (arith, size, is.fits)) (ap (catalogue_of s) payload ∙ is.catalogue),
      refl,
      refl,
    )
  where
    from_standing : (s : Sizes) (k : ℕ) (bytes : List ℕ) (o : Option ℕ) → newest_half s new ≡ o → option_map (standing_at s new) o ≡ Some (record { number = k; bytes = bytes }) →
        (newest_half s new ≡ Some k) × (behind s new k ≡ bytes)
    from_standing s k bytes None e f = absurd (none_some f)
      where
        none_some : {x : Standing} → None ≡ Some x → ⊥
        none_some g = cc
    from_standing s k bytes (Some j) e f =
        let both : standing_at s new j ≡ record { number = k; bytes = bytes } = same_some f in
        let number : j ≡ k = ap (λ x. x.number) both in
        (e ∙ ap Some number, sym (ap (behind s new) number) ∙ ap (λ x. x.bytes) both)
