-- What the superblock decides of an opening.
use Rattle.std.proofs.Common.{◌≡◌, ℕ, ◌+◌, ◌<◌, ◌≤◌, Bool, true, false, not, ◌==◌, List, length, refl, sym, ◌∙◌, ap, arith, replicate, Some, None, Err, Result, nat_lt, le-ltb, lt-ltb, zero-add, if◌then◌else◌}
use Rattle.std.specs.Prelude.{bytes_eq}
use Rattle.std.specs.Int.{w32, from_be_bytes}
use Rattle.bd_disk.specs.Images.{bytes_at}
use Rattle.bd_disk.proofs.AgreeLemmas.{get_or-bytes_at, sub_bytes}
use Rattle.bd_model.specs.Sizes.{Sizes, is_shape, disk_bytes}
use Rattle.bd_model.specs.declared.place.Place.{Place}
use Rattle.bd_model.specs.declared.place.Place.TheVariants.{Short, Gate, Magic, Number, Shape, Padding, Room}
use Rattle.bd_gate.specs.Superblock.{byte_at, four_at, open_gate, magic, sizes_at}
use Rattle.bd_gate.specs.Halves.{newest_half}
use Rattle.bd_catalog.specs.Opening.{Found, opened, opened_half}
use Rattle.bd_catalog.proofs.AgreeLemmas.{sizes_by_fields}
use Rattle.bd_recover.specs.Opens.{first_failing, superblock_fault}

-- the checks of an opening in their order
abbrev in_order : (short gate text number shape padding room : Bool) → Result Found Place → Result Found Place
in_order short gate text number shape padding room found =
    if short then Err Short else (if not gate then Err Gate else (if not text then Err Magic else (if not number then Err Number else (if not shape then Err Shape else (if not padding then Err Padding else (if room then Err Room else found))))))

fails : (gate text number shape padding room : Bool) (found : Result Found Place) (place : Place) → first_failing gate text number shape padding ≡ Some place
    → in_order false gate text number shape padding room found ≡ Err place
fails false text number shape padding room found place is = let same : Gate ≡ place = cc is in ap (λ p. Err p) same
fails true false number shape padding room found place is = let same : Magic ≡ place = cc is in ap (λ p. Err p) same
fails true true false shape padding room found place is = let same : Number ≡ place = cc is in ap (λ p. Err p) same
fails true true true false padding room found place is = let same : Shape ≡ place = cc is in ap (λ p. Err p) same
fails true true true true false room found place is = let same : Padding ≡ place = cc is in ap (λ p. Err p) same
fails true true true true true room found place is = absurd (cc is)

passes : (gate text number shape padding room : Bool) (found : Result Found Place) → first_failing gate text number shape padding ≡ None
    → in_order false gate text number shape padding room found ≡ (if room then Err Room else found)
passes false text number shape padding room found is = absurd (cc is)
passes true false number shape padding room found is = absurd (cc is)
passes true true false shape padding room found is = absurd (cc is)
passes true true true false padding room found is = absurd (cc is)
passes true true true true false room found is = absurd (cc is)
passes true true true true true room found is = refl

in_order_is : (image : List ℕ) → opened image ≡ in_order (nat_lt (length image) 64) (byte_at image 0 == open_gate) (bytes_eq (bytes_at 1 7 image) magic)
    (four_at image 8 == 1) (is_shape (sizes_at image)) (bytes_eq (bytes_at 36 28 image) (replicate 28 0)) (nat_lt (length image) (disk_bytes (sizes_at image)))
    (opened_half (sizes_at image) image (newest_half (sizes_at image) image))
unfolding opened
in_order_is image = refl

pub too_short : (image : List ℕ) → length image < 64 → opened image ≡ Err Short
unfolding opened
too_short image less = let short : nat_lt (length image) 64 ≡ true = lt-ltb (length image) 64 less in rw short refl

-- a part of the first 64 bytes
first_bytes : (k n : ℕ) (image : List ℕ) → k + n ≤ 64 → bytes_at k n (bytes_at 0 64 image) ≡ bytes_at k n image
first_bytes k n image fits = sym (sub_bytes 0 64 k n image fits) ∙ ap (λ at. bytes_at at n image) (zero-add k)

pub same_sizes : (image : List ℕ) → sizes_at (bytes_at 0 64 image) ≡ sizes_at image
same_sizes image = sizes_by_fields image (bytes_at 0 64 image) (λ k fits. ap (from_be_bytes w32) (first_bytes k 4 image fits))

same_fault : (image : List ℕ) → superblock_fault (bytes_at 0 64 image) ≡ superblock_fault image
same_fault image =
    let gate : byte_at (bytes_at 0 64 image) 0 ≡ byte_at image 0 = get_or-bytes_at 0 64 image 0 (omega arith) in
    let text : bytes_at 1 7 (bytes_at 0 64 image) ≡ bytes_at 1 7 image = first_bytes 1 7 image (omega arith) in
    let number : four_at (bytes_at 0 64 image) 8 ≡ four_at image 8 = ap (from_be_bytes w32) (first_bytes 8 4 image (omega arith)) in
    let padding : bytes_at 36 28 (bytes_at 0 64 image) ≡ bytes_at 36 28 image = first_bytes 36 28 image (omega arith) in
    λ i. first_failing (gate i == open_gate) (bytes_eq (text i) magic) (number i == 1) (is_shape (same_sizes image i)) (bytes_eq (padding i) (replicate 28 0))

module _ (image bytes : List ℕ) (long : 64 ≤ length image) (read : bytes ≡ bytes_at 0 64 image) where
  fault_is : superblock_fault bytes ≡ superblock_fault image
  fault_is = ap superblock_fault read ∙ same_fault image

  long_enough : nat_lt (length image) 64 ≡ false
  long_enough = le-ltb (length image) 64 long

  abbrev less : Bool
  less = nat_lt (length image) (disk_bytes (sizes_at image))

  abbrev half : Result Found Place
  half = opened_half (sizes_at image) image (newest_half (sizes_at image) image)

  abbrev rest : Bool → Result Found Place
  rest short = in_order short (byte_at image 0 == open_gate) (bytes_eq (bytes_at 1 7 image) magic)
      (four_at image 8 == 1) (is_shape (sizes_at image)) (bytes_eq (bytes_at 36 28 image) (replicate 28 0)) less half

  pub superblock_fails : (place : Place) → superblock_fault bytes ≡ Some place → opened image ≡ Err place
  superblock_fails place is = in_order_is image ∙ ap rest long_enough ∙ fails _ _ _ _ _ less half place (sym fault_is ∙ is)

  module _ (s : Sizes) (none : superblock_fault bytes ≡ None) (named : s ≡ sizes_at bytes) where
    pub sizes_named : s ≡ sizes_at image
    sizes_named = named ∙ ap sizes_at read ∙ same_sizes image

    decided : opened image ≡ (if nat_lt (length image) (disk_bytes s) then Err Room else opened_half s image (newest_half s image))
    decided =
        in_order_is image ∙ ap rest long_enough ∙ passes _ _ _ _ _ less half (sym fault_is ∙ none)
        ∙ ap (λ t. if nat_lt (length image) (disk_bytes t) then Err Room else opened_half t image (newest_half t image)) (sym sizes_named)

    pub no_room : length image < disk_bytes s → opened image ≡ Err Room
    no_room less = decided ∙ ap (λ b. if b then Err Room else opened_half s image (newest_half s image)) (lt-ltb (length image) (disk_bytes s) less)

    pub goes_on : disk_bytes s ≤ length image → opened image ≡ opened_half s image (newest_half s image)
    goes_on room = decided ∙ ap (λ b. if b then Err Room else opened_half s image (newest_half s image)) (le-ltb (length image) (disk_bytes s) room)
