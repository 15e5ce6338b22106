-- Where the bytes of an owner lie.
use Rattle.std.proofs.Common.{◌≡◌, ⊎_elim, ℕ, zero, suc, ◌+◌, ◌-◌, ◌*◌, ◌/◌, ◌%◌, ◌<◌, ◌≤◌, ◌^◌, eqb-true, List, [], ◌∷◌, ◌++◌, length, drop, get_or, refl, sym, ◌∙◌, ap, subst, arith, length-take, length-drop, get_or-take, get_or-drop, length-append}
use Rattle.std.proofs.Math.Nat.{mul-le-mul_right, div-lt_iff_lt-mul, mod-lt}
use Rattle.std.proofs.lemmas.Nat.{div-mul-add, div-add-mod'}
use Rattle.std.proofs.lemmas.Grind.{same_number_lists}
use Rattle.std.proofs.lemmas.List.{get_or_append_left, get_or-append_right}
use Rattle.std.proofs.lemmas.List.FromFn.{length-range_with_len, get_or-range_with_len}
use Rattle.std.proofs.lemmas.Bool.{cases_lt}
use Rattle.std.proofs.lemmas.Bool.Decides.{Decides-eqb}
use Rattle.std.proofs.lemmas.Map.Made.{IsDistinct-from_AllPairs}
use Rattle.std.proofs.lemmas.Map.Steps.{length-le_from_distinct_below}
use Rattle.std.proofs.lemmas.Map.Views.{Contains-from_any}
use Rattle.std.specs.List.{flat_map, range_with_len, All}
use Rattle.bd_model.specs.Sizes.{Sizes, extent_place, disk_bytes}
use Rattle.bd_model.specs.Extents.{extent_bytes, owner_bytes, owner_places, places_at}
use Rattle.bd_extio.specs.Ranges.{place_of, AreExtents}

-- ---- a list of pieces of one length

-- each piece has this length
abbrev pub SameLength : (ℕ → List ℕ) → ℕ → List ℕ → Type 0
SameLength f size es = (i : ℕ) → i < length es → length (f (get_or es i 0)) ≡ size

module _ (f : ℕ → List ℕ) (size : ℕ) where
  tail_same : (e : ℕ) (es : List ℕ) → SameLength f size (e ∷ es) → SameLength f size es
  tail_same e es same i lt = same (suc i) (omega arith)

  head_same : (e : ℕ) (es : List ℕ) → SameLength f size (e ∷ es) → length (f e) ≡ size
  head_same e es same = same 0 (omega arith)

  pub length-pieces : (es : List ℕ) → SameLength f size es → length (flat_map f es) ≡ length es * size
  length-pieces [] same = omega arith
  length-pieces (e ∷ es) same =
      omega (arith, length-append (f e) (flat_map f es), head_same e es same, length-pieces es (tail_same e es same))

  pub get_or-pieces : (es : List ℕ) → SameLength f size es → (i j : ℕ) → i < length es → j < size → get_or (flat_map f es) (i * size + j) 0 ≡ get_or (f (get_or es i 0)) j 0
  get_or-pieces [] same i j in_es in_piece = absurd (omega arith)
  get_or-pieces (e ∷ es) same zero j in_es in_piece =
      let at : zero * size + j ≡ j = omega arith in
      ap (λ n. get_or (f e ++ flat_map f es) n 0) at ∙ get_or_append_left (f e) (flat_map f es) 0 j (omega (arith, head_same e es same))
  get_or-pieces (e ∷ es) same (suc i) j in_es in_piece =
      let at : suc i * size + j ≡ length (f e) + (i * size + j) = omega (arith, head_same e es same) in
      let back : length (f e) + (i * size + j) - length (f e) ≡ i * size + j = omega arith in
      ap (λ n. get_or (f e ++ flat_map f es) n 0) at
      ∙ get_or-append_right (f e) (flat_map f es) (length (f e)) (length (f e) + (i * size + j)) 0 refl (omega arith)
      ∙ ap (λ n. get_or (flat_map f es) n 0) back
      ∙ get_or-pieces es (tail_same e es same) i j (omega arith) in_piece

  -- a byte by its number
  pub get_or-number : (es : List ℕ) → SameLength f size es → 1 ≤ size → (at : ℕ) → at < length es * size → get_or (flat_map f es) at 0 ≡ get_or (f (get_or es (at / size) 0)) (at % size) 0
  get_or-number es same some at lt =
      let positive : 0 < size = omega arith in
      let piece : at / size < length es = (div-lt_iff_lt-mul {k = size} {x = at} {y = length es} positive).1 lt in
      let byte : at % size < size = mod-lt at positive in
      ap (λ n. get_or (flat_map f es) n 0) (sym (div-add-mod' at size)) ∙ get_or-pieces es same (at / size) (at % size) piece byte

-- ---- the bytes of an owner

module _ (s : Sizes) (extents : List ℕ) (some : 1 ≤ s.extent) where
  abbrev pub owned_bytes : ℕ
  owned_bytes = length extents * s.extent

  -- the extent of a byte, and its place in it
  pub extent_of : (at : ℕ) → at < owned_bytes → at / s.extent < length extents
  extent_of at lt = let positive : 0 < s.extent = omega arith in (div-lt_iff_lt-mul {k = s.extent} {x = at} {y = length extents} positive).1 lt

  within_extent : (at : ℕ) → at % s.extent < s.extent
  within_extent at = let positive : 0 < s.extent = omega arith in mod-lt at positive

  same_extent : (at k : ℕ) → at % s.extent + k < s.extent → ((at + k) / s.extent ≡ at / s.extent) × ((at + k) % s.extent ≡ at % s.extent + k)
  same_extent at k fits =
      let split : at + k ≡ at / s.extent * s.extent + (at % s.extent + k) = omega (arith, div-add-mod' at s.extent) in
      let number : (at + k) / s.extent ≡ at / s.extent = ap (λ n. n / s.extent) split ∙ div-mul-add (at / s.extent) s.extent (at % s.extent + k) fits in
      let back : (at + k) / s.extent * s.extent + (at + k) % s.extent ≡ at + k = div-add-mod' (at + k) s.extent in
      let there : (at + k) / s.extent * s.extent ≡ at / s.extent * s.extent = ap (λ n. n * s.extent) number in
      (number, omega (arith, split, back, there))

  -- bytes of one extent follow each other on the disk
  pub place_of-next : (at k : ℕ) → at % s.extent + k < s.extent → place_of s extents (at + k) ≡ place_of s extents at + k
  place_of-next at k fits =
      let there = same_extent at k fits in
      let e = extent_place s (get_or extents (at / s.extent) 0) in
      (λ i. extent_place s (get_or extents (there.0 i) 0) + there.1 i) ∙ omega arith

  -- a place lies within its extent
  pub place_of-low : (at : ℕ) → extent_place s (get_or extents (at / s.extent) 0) ≤ place_of s extents at
  place_of-low at = omega arith

  pub place_of-high : (at : ℕ) → place_of s extents at < extent_place s (get_or extents (at / s.extent) 0) + s.extent
  place_of-high at = omega (arith, within_extent at)

  -- where extents are of one number, or lie apart
  pub extents_apart : (a b : ℕ) → a < b → extent_place s a + s.extent ≤ extent_place s b
  extents_apart a b lt = omega (arith, mul-le-mul_right {m = a + 1} {n = b} s.extent (omega arith))

  -- no two bytes of different extents have one place
  pub place_of-injective : AreExtents s extents → (p q : ℕ) → p < owned_bytes → q < owned_bytes → place_of s extents p ≡ place_of s extents q → p ≡ q
  place_of-injective are p q in_p in_q is =
      let i = p / s.extent in
      let j = q / s.extent in
      let e = get_or extents i 0 in
      let d = get_or extents j 0 in
      let low_p = place_of-low p in
      let high_p = place_of-high p in
      let low_q = place_of-low q in
      let high_q = place_of-high q in
      let same_number : e ≡ d = ⊎_elim (λ lt. absurd (omega (arith, extents_apart e d lt, low_p, high_p, low_q, high_q, is)))
      (λ le. ⊎_elim (λ lt. absurd (omega (arith, extents_apart d e lt, low_p, high_p, low_q, high_q, is))) (λ ge. omega (arith, le, ge)) (cases_lt d e)) (cases_lt e d) in
      let same_index : i ≡ j = ⊎_elim (λ lt. absurd (are.differ i j 0 lt (extent_of q in_q) same_number))
      (λ le. ⊎_elim (λ lt. absurd (are.differ j i 0 lt (extent_of p in_p) (sym same_number))) (λ ge. omega (arith, le, ge)) (cases_lt j i)) (cases_lt i j) in
      let start : extent_place s e ≡ extent_place s d = ap (extent_place s) same_number in
      let offset : p % s.extent ≡ q % s.extent = omega (arith, is, start) in
      let whole : i * s.extent ≡ j * s.extent = ap (λ n. n * s.extent) same_index in
      omega (arith, div-add-mod' p s.extent, div-add-mod' q s.extent, whole, offset)

  -- ---- the places, as a list

  pub length-owner_places : length (owner_places s extents) ≡ owned_bytes
  length-owner_places = length-pieces (λ e. range_with_len (extent_place s e) s.extent) s.extent extents (λ i lt. length-range_with_len (extent_place s (get_or extents i 0)) s.extent)

  pub get_or-owner_places : (at : ℕ) → at < owned_bytes → get_or (owner_places s extents) at 0 ≡ place_of s extents at
  get_or-owner_places at lt =
      get_or-number (λ e. range_with_len (extent_place s e) s.extent) s.extent extents (λ i in_es. length-range_with_len (extent_place s (get_or extents i 0)) s.extent) some at lt
      ∙ get_or-range_with_len (extent_place s (get_or extents (at / s.extent) 0)) s.extent (at % s.extent) 0 (within_extent at)

  pub length-places_at : (at n : ℕ) → at + n ≤ owned_bytes → length (places_at s extents at n) ≡ n
  length-places_at at n fits = omega (arith, length-take n (drop at (owner_places s extents)), length-drop at (owner_places s extents), length-owner_places)

  -- a range within one extent
  pub places_at-piece : (at n : ℕ) → at + n ≤ owned_bytes → at % s.extent + n ≤ s.extent → places_at s extents at n ≡ range_with_len (place_of s extents at) n
  places_at-piece at n fits inside =
      let sized : length (places_at s extents at n) ≡ n = length-places_at at n fits in
      same_number_lists _ _ (sized ∙ sym (length-range_with_len (place_of s extents at) n)) (λ k lt.
      let in_n : k < n = omega (arith, sized) in
      get_or-take n (drop at (owner_places s extents)) k 0 in_n ∙ get_or-drop at (owner_places s extents) k 0 ∙ get_or-owner_places (at + k) (omega arith)
      ∙ place_of-next at k (omega arith) ∙ sym (get_or-range_with_len (place_of s extents at) n k 0 in_n))

  -- ---- the bytes of an image

  module _ (below : All (λ e. e < s.extents) extents) where
    pub in_image : (e : ℕ) → e < s.extents → extent_place s e + s.extent ≤ disk_bytes s
    in_image e lt = omega (arith, mul-le-mul_right {m = e + 1} {n = s.extents} s.extent (omega arith))

    -- a piece of an extent lies on the disk
    pub place_of-room : (at n : ℕ) → 1 ≤ n → at + n ≤ owned_bytes → at % s.extent + n ≤ s.extent → place_of s extents at + n ≤ disk_bytes s
    place_of-room at n one fits inside = omega (arith, in_image (get_or extents (at / s.extent) 0) (below (at / s.extent) 0 (extent_of at (omega arith))))

    each_whole : (image : List ℕ) → disk_bytes s ≤ length image → SameLength (extent_bytes s image) s.extent extents
    each_whole image room i lt =
        let e = get_or extents i 0 in
        omega (arith, length-take s.extent (drop (extent_place s e) image), length-drop (extent_place s e) image, in_image e (below i 0 lt))

    pub length-owner_bytes : (image : List ℕ) → disk_bytes s ≤ length image → length (owner_bytes s extents image) ≡ owned_bytes
    length-owner_bytes image room = length-pieces (extent_bytes s image) s.extent extents (each_whole image room)

    pub get_or-owner_bytes : (image : List ℕ) → disk_bytes s ≤ length image → (at : ℕ) → at < owned_bytes → get_or (owner_bytes s extents image) at 0 ≡ get_or image (place_of s extents at) 0
    get_or-owner_bytes image room at lt =
        let e = get_or extents (at / s.extent) 0 in
        get_or-number (extent_bytes s image) s.extent extents (each_whole image room) some at lt
        ∙ get_or-take s.extent (drop (extent_place s e) image) (at % s.extent) 0 (within_extent at)
        ∙ get_or-drop (extent_place s e) image (at % s.extent) 0

-- different numbers below a bound are no more than it
pub length-extents : (s : Sizes) (extents : List ℕ) → AreExtents s extents → length extents ≤ s.extents
length-extents s extents are =
    length-le_from_distinct_below extents s.extents (IsDistinct-from_AllPairs Decides-eqb extents are.differ)
    (λ q has. let found = Contains-from_any eqb-true q extents has in subst (λ e. e < s.extents) found.2 (are.below found.0 q found.1))

-- so a place among an owner's bytes is a small number
pub range_small : (s : Sizes) (extents : List ℕ) → AreExtents s extents → s.extents ≤ 65536 → s.extent ≤ 16777216 → length extents * s.extent ≤ 2 ^ 40
range_small s extents are few short =
    let most : length extents ≤ 65536 = omega (arith, length-extents s extents are) in
    omega (arith, mul-le-mul_right {m = length extents} {n = 65536} s.extent most)
