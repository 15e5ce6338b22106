-- When two images have the same newest half with the same bytes, for halves of one size.
use Rattle.std.proofs.Common.{◌≡◌, ◌⊎◌, inl, inr, ⊎_elim, ℕ, ◌+◌, ◌-◌, ◌*◌, ◌%◌, ◌<◌, ◌≤◌, Bool, true, false, eqb, List, [], Option, Some, None, option_map, refl, sym, ◌∙◌, ap, arith}
use Rattle.std.proofs.lemmas.Bool.{cases_eq, eqb-true}
use Rattle.bd_disk.specs.Images.{InRange, Agree, AgreeBut, bytes_at}
use Rattle.bd_disk.proofs.AgreeLemmas.{agree_fewer, same_bytes_at}
use Rattle.bd_gate.specs.Superblock.{byte_at}
use Rattle.bd_gate.specs.Standing.{Standing}
use Rattle.bd_gate.proofs.Newest.{place, opened, turn, newest, newest_is_open, newest_alone, newest_next, places, none_or_half}

abbrev pub bytes_behind : ℕ → List ℕ → ℕ → List ℕ
bytes_behind size image k = bytes_at (place size k + 1) (size - 1) image

abbrev pub standing_of : ℕ → List ℕ → Option Standing
standing_of size image = option_map (λ k. record { number = k; bytes = bytes_behind size image k }) (newest size image)

number_of : (f : ℕ → Standing) → ((k : ℕ) → (f k).number ≡ k) → (x : Option ℕ) → option_map (λ st. st.number) (option_map f x) ≡ x
number_of f same None = refl
number_of f same (Some k) = ap Some (same k)

-- the same standing is the same newest half
pub newest_of_standing : (size : ℕ) (a b : List ℕ) → standing_of size b ≡ standing_of size a → newest size b ≡ newest size a
newest_of_standing size a b e =
    sym (number_of (λ k. record { number = k; bytes = bytes_behind size b k }) (λ k. refl) (newest size b))
    ∙ ap (option_map (λ st. st.number)) e
    ∙ number_of (λ k. record { number = k; bytes = bytes_behind size a k }) (λ k. refl) (newest size a)

-- the bytes of a standing, or none
bytes_of : Option Standing → List ℕ
bytes_of None = []
bytes_of (Some st) = st.bytes

-- and the same bytes of it
pub bytes_of_standing : (size k : ℕ) (a b : List ℕ) → standing_of size b ≡ standing_of size a → newest size a ≡ Some k → bytes_behind size b k ≡ bytes_behind size a k
unfolding bytes_of
bytes_of_standing size k a b e is =
    let there : newest size b ≡ Some k = newest_of_standing size a b e ∙ is in
    sym (ap (λ x. bytes_of (option_map (λ n. record { number = n; bytes = bytes_behind size b n }) x)) there)
    ∙ ap bytes_of e
    ∙ ap (λ x. bytes_of (option_map (λ n. record { number = n; bytes = bytes_behind size a n }) x)) is

same_at : (size k : ℕ) (a b : List ℕ) → newest size a ≡ Some k → newest size b ≡ newest size a → bytes_behind size b k ≡ bytes_behind size a k → standing_of size b ≡ standing_of size a
same_at size k a b is same bytes = rw (same ∙ is, is, bytes)

bytes_of_half : (size k : ℕ) (a b : List ℕ) → Agree (InRange (place size k) size) a b → bytes_behind size b k ≡ bytes_behind size a k
bytes_of_half size k a b half = same_bytes_at _ a b (place size k + 1) (size - 1) (λ at r. (omega (arith, r.0), omega (arith, r.0, r.1))) half

gate_of_half : (size k : ℕ) (a b : List ℕ) → 1 < size → Agree (InRange (place size k) size) a b → opened size b k ≡ opened size a k
gate_of_half size k a b long half = ap (λ g. eqb g 79) (half.each (place size k) (omega arith, omega arith))

turn_of_half : (size k : ℕ) (a b : List ℕ) → 1 < size → Agree (InRange (place size k) size) a b → turn size b k ≡ turn size a k
turn_of_half size k a b long half = half.each (place size k + 1) (omega arith, omega arith)

-- The other half is the newest. It stays so, with its bytes, where its bytes stay and this half is closed.
pub same_beside : (size number : ℕ) (a b : List ℕ) → number < 2 → 1 < size → newest size a ≡ Some (1 - number) → opened size b number ≡ false → Agree (InRange (place size (1 - number)) size) a b → standing_of size b ≡ standing_of size a
same_beside size number a b lt long is shut half =
    let was = newest_is_open size number a lt is in
    let other_turn = turn_of_half size (1 - number) a b long half in
    let there : newest size b ≡ Some (1 - number) =
    newest_alone size number b lt shut (gate_of_half size (1 - number) a b long half ∙ was.0) (omega (arith, was.1, other_turn)) in
    same_at size (1 - number) a b is (there ∙ sym is) (bytes_of_half size (1 - number) a b half)

-- images that agree on both halves
pub same_halves : (size : ℕ) (a b : List ℕ) → 1 < size → Agree (InRange 64 (2 * size)) a b → standing_of size b ≡ standing_of size a
same_halves size a b long both =
    let first : Agree (InRange (place size 0) size) a b = agree_fewer _ _ a b (λ at r. (omega (arith, r.0), omega (arith, r.1))) both in
    let second : Agree (InRange (place size 1) size) a b = agree_fewer _ _ a b (λ at r. (omega (arith, r.0), omega (arith, r.1))) both in
    let same : newest size b ≡ newest size a =
    rw (gate_of_half size 0 a b long first, turn_of_half size 0 a b long first, gate_of_half size 1 a b long second, turn_of_half size 1 a b long second) in
    ⊎_elim (λ (none : newest size a ≡ None). rw (same ∙ none, none))
    (λ half. ⊎_elim (λ (zeroth : newest size a ≡ Some 0). same_at size 0 a b zeroth same (bytes_of_half size 0 a b first))
    (λ (other : newest size a ≡ Some 1). same_at size 1 a b other same (bytes_of_half size 1 a b second)) half)
    (none_or_half (opened size a 0) (turn size a 0) (opened size a 1) (turn size a 1))

-- ---- what a write in one half leaves, where both were as in a

-- the other half stays
other_stays : (size number at n : ℕ) (a before image : List ℕ) → number < 2 → place size number ≤ at → at + n ≤ place size number + size → Agree (InRange 64 (2 * size)) a before → AgreeBut (InRange at n) before image → Agree (InRange (place size (1 - number)) size) a image
other_stays size number at n a before image lt from to was but =
    let p = places size number lt in
    record {
      size = but.size ∙ was.size;
      each = λ at_place r.
          but.each at_place (λ s. ⊎_elim (λ e. omega (arith, e, r.0, r.1, s.0, s.1)) (λ e. omega (arith, e, r.0, r.1, s.0, s.1)) p.apart)
          ∙ was.each at_place (omega (arith, r.0, p.other_from), omega (arith, r.1, p.other_to));
    }

-- a write behind the gate of a closed half
pub filling_image : (size number n : ℕ) (a before image : List ℕ) → number < 2 → n + 1 ≤ size → 1 < size → newest size a ≡ Some (1 - number) → opened size a number ≡ false
    → Agree (InRange 64 (2 * size)) a before → AgreeBut (InRange (place size number + 1) n) before image → standing_of size image ≡ standing_of size a
filling_image size number n a before image lt fits long is shut was but =
    let p = places size number lt in
    let gate : byte_at image (place size number) ≡ byte_at a (place size number) =
    but.each _ (λ r. omega (arith, r.0)) ∙ was.each _ (omega (arith, p.this_from), omega (arith, p.this_to)) in
    same_beside size number a image lt long is (ap (λ g. eqb g 79) gate ∙ shut)
    (other_stays size number (place size number + 1) n a before image lt (omega arith) (omega arith) was but)

-- both halves are the same but for the gate of this one
pub but_gate : (size number : ℕ) (a before image : List ℕ) → Agree (InRange 64 (2 * size)) a before → AgreeBut (InRange (place size number) 1) before image
    → Agree (λ at. InRange 64 (2 * size) at × (InRange (place size number) 1 at → ⊥)) a image
but_gate size number a before image was but = record { size = but.size ∙ was.size; each = λ at r. but.each at r.1 ∙ was.each at r.0 }

cases_bool : (b : Bool) → (b ≡ true) ⊎ (b ≡ false)
cases_bool true = inl refl
cases_bool false = inr refl

-- a write of the gate of an open half that isn't the newest
pub closing_image : (size number : ℕ) (a before image : List ℕ) → number < 2 → 1 < size → newest size a ≡ Some (1 - number) → opened size a number ≡ true
    → Agree (InRange 64 (2 * size)) a before → AgreeBut (InRange (place size number) 1) before image → standing_of size image ≡ standing_of size a
closing_image size number a before image lt long is was_open was but =
    let same = but_gate size number a before image was but in
    ⊎_elim
    (λ (still : opened size image number ≡ true).
    let gate : byte_at image (place size number) ≡ byte_at a (place size number) =
    eqb-true (byte_at image (place size number)) 79 still ∙ sym (eqb-true (byte_at a (place size number)) 79 was_open) in
    same_halves size a image long (record {
      size = same.size;
      each = λ at r. elim (cases_eq at (place size number)) [
        | inl here ↦ ap (byte_at image) here ∙ gate ∙ sym (ap (byte_at a) here)
        | inr apart ↦ same.each at (r, λ q. apart (omega (arith, q.0, q.1)))
      ];
    }))
    (λ shut. same_beside size number a image lt long is shut (other_stays size number (place size number) 1 a before image lt (omega arith) (omega arith) was but)) (cases_bool (opened size image number))

-- this half is the newest, with these bytes behind its gate
abbrev pub IsOpenWith : ℕ → ℕ → List ℕ → List ℕ → Type 0
IsOpenWith size number bytes image = (newest size image ≡ Some number) × (bytes_behind size image number ≡ bytes)

-- the gate alone has changed, and is open
pub opened_image : (size number : ℕ) (a image : List ℕ) → number < 2 → 1 < size → newest size a ≡ Some (1 - number) → turn size a number ≡ (turn size a (1 - number) + 1) % 3
    → Agree (λ at. InRange 64 (2 * size) at × (InRange (place size number) 1 at → ⊥)) a image → opened size image number ≡ true → IsOpenWith size number (bytes_behind size a number) image
opened_image size number a image lt long is next same gate =
    let p = places size number lt in
    let was = newest_is_open size number a lt is in
    let other : Agree (InRange (place size (1 - number)) size) a image = agree_fewer _ _ a image (λ at r.
    ((omega (arith, r.0, p.other_from), omega (arith, r.1, p.other_to)), λ s. ⊎_elim (λ e. omega (arith, e, r.0, r.1, s.0, s.1)) (λ e. omega (arith, e, r.0, r.1, s.0, s.1)) p.apart)) same in
    let other_turn = turn_of_half size (1 - number) a image long other in
    let this_turn : turn size image number ≡ turn size a number = same.each (place size number + 1) ((omega (arith, p.this_from), omega (arith, p.this_to)), λ s. omega (arith, s.1)) in (
      newest_next size number image lt gate (gate_of_half size (1 - number) a image long other ∙ was.0) (omega (arith, was.1, other_turn)) (this_turn ∙ next ∙ ap (λ t. (t + 1) % 3) (sym other_turn)),
      same_bytes_at _ a image (place size number + 1) (size - 1) (λ at r. ((omega (arith, r.0, p.this_from), omega (arith, r.1, p.this_to)), λ s. omega (arith, r.0, s.1))) same,
    )

-- a write of the gate of a closed half with the next turn
pub opening_image : (size number : ℕ) (a before image : List ℕ) → number < 2 → 1 < size → newest size a ≡ Some (1 - number) → turn size a number ≡ (turn size a (1 - number) + 1) % 3
    → Agree (InRange 64 (2 * size)) a before → AgreeBut (InRange (place size number) 1) before image → (standing_of size image ≡ standing_of size a) ⊎ IsOpenWith size number (bytes_behind size a number) image
opening_image size number a before image lt long is next was but =
    ⊎_elim (λ (gate : opened size image number ≡ true). inr (opened_image size number a image lt long is next (but_gate size number a before image was but) gate))
    (λ shut. inl (same_beside size number a image lt long is shut (other_stays size number (place size number) 1 a before image lt (omega arith) (omega arith) was but))) (cases_bool (opened size image number))
