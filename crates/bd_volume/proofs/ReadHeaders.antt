-- A header as it was read is that of the record there, or names a damage of it.
use Rattle.std.proofs.Common.{◌≡◌, ℕ, ◌+◌, ◌-◌, ◌<◌, ◌≤◌, Bool, true, false, ◌&&◌, List, [], ◌∷◌, take, drop, le-leb, refl, sym, ◌∙◌, ap, subst, arith, ◌⊎◌, inl, inr, drop-drop}
use Rattle.std.specs.Prelude.{Result, Ok, Err, nat_lt, nat_le, IsTrue, if◌then◌else◌}
use Rattle.std.specs.Int.{w32, from_be_bytes}
use Rattle.std.specs.List.{list_all}
use Rattle.std.proofs.lemmas.Bool.{cases_lt, le-ltb, lt-leb, ltb-true, ltb-false}
use Rattle.std.proofs.lemmas.List.{take-take, drop-take}
use Rattle.bd_disk.specs.History.{History}
use Rattle.bd_disk.specs.Trace.{ReadsOnly}
use Rattle.bd_disk.proofs.Traces.{read_all}
use Rattle.bd_model.specs.Sizes.{Sizes}
use Rattle.bd_model.specs.Extents.{owner_bytes, places_at}
use Rattle.bd_model.specs.Records.{Stored, stored_at}
use Rattle.bd_model.specs.declared.damage.Damage.{Damage}
use Rattle.bd_model.specs.declared.damage.Damage.TheVariants.{Header as BadHeader}
use Rattle.bd_model.specs.declared.damage.Owner.{Owner}
use Rattle.bd_category.specs.declared.fault.Header.{Header}
use Rattle.bd_category.specs.Places.{header_room, ReadsHeader}
use Rattle.bd_category.specs.Records.{header_at, header_in, body_at}
use Rattle.bd_catalog.specs.Damages.{header_holds, header_places}
use Rattle.bd_catalog.specs.Rows.{RowPlace, Spot, row_end, row_spots, spot_in}
use Rattle.bd_catalog.specs.Sound.{length_holds}
use Rattle.bd_volume.specs.Headers.{HasGoodHeaders, IsRefusedAt}
use Rattle.bd_volume.proofs.Spots.{same_length}

-- ---- the record behind a header

second : (b : Bool) (e : Damage) (x : Result Header Damage) (h : Header) → (if b then Err e else x) ≡ Ok h → (b ≡ false) × (x ≡ Ok h)
second true e x h is = absurd (wrong is) where
  wrong : Err e ≡ Ok h → ⊥
  wrong eq = cc
second false e x h is = (refl, is)

passed : (b : Bool) (x h : Header) (e : Damage) → (if b then Ok x else Err e) ≡ Ok h → b ≡ true
passed true x h e is = refl
passed false x h e is = absurd (wrong is) where
  wrong : Err e ≡ Ok h → ⊥
  wrong eq = cc

first : (b : Bool) (x h : Header) (e : Damage) → (if b then Ok x else Err e) ≡ Ok h → x ≡ h
first true x h e is = cc
first false x h e is = absurd (wrong is) where
  wrong : Err e ≡ Ok h → ⊥
  wrong eq = cc

pub record IsStored (at to : ℕ) (owner : List ℕ) (h : Header) (r : Stored) : Type 0 where
  pub place : h.at ≡ at
  pub size : h.length ≡ r.length
  pub mark : h.mark.0 ≡ r.mark
  pub body : body_at h owner ≡ r.body

-- bytes of a front are those of the whole
of_front : (at n from to : ℕ) (owner : List ℕ) → at ≤ from → from + n ≤ to → take n (drop (from - at) (drop at (take to owner))) ≡ take n (drop from owner)
of_front at n from to owner low fits =
    let place : at + (from - at) ≡ from = omega (arith, low) in
    let size : to ≡ from + (to - from) = omega (arith, fits) in
    ap (take n) (drop-drop (from - at) at (take to owner) ∙ (λ i. drop (place i) (take (size i) owner)) ∙ drop-take from (to - from) owner)
    ∙ take-take n (to - from) (drop from owner) (omega (arith, fits))

-- a part that begins with the same bytes
stored_in : (s : Sizes) (who : Owner) (at to : ℕ) (owner part : List ℕ) (h : Header) → header_at s who at to owner ≡ Ok h → take 4 part ≡ take 4 (drop at owner) → take 32 (drop 4 part) ≡ take 32 (drop (at + 4) owner) →
    take h.length (drop 36 part) ≡ take h.length (drop (at + 36) owner) → IsStored at to owner h (stored_at part)
stored_in s who at to owner part h is front middle whole =
    let bytes = take 36 (drop at owner) in
    let n = from_be_bytes w32 (take 4 bytes) in
    let read = second (nat_lt (to - at) 36) (BadHeader who at 0 (to - at)) (header_in s.max who at (to - at - 36) bytes) h is in
    let same : record { length = n; mark = record { 0 = take 32 (drop 4 bytes) }; at = at } ≡ h =
    first (nat_le 1 n && nat_le n s.max && nat_le n (to - at - 36)) (record { length = n; mark = record { 0 = take 32 (drop 4 bytes) }; at = at }) h (BadHeader who at n (to - at - 36)) read.1 in
    let size : h.length ≡ from_be_bytes w32 (take 4 part) =
    ap (λ (x : Header). x.length) (sym same) ∙ ap (from_be_bytes w32) (take-take 4 36 (drop at owner) (omega arith) ∙ sym front) in
    let place : h.at ≡ at = ap (λ (x : Header). x.at) (sym same) in
    let behind : take 32 (drop 4 bytes) ≡ take 32 (drop (at + 4) owner) = ap (take 32) (drop-take 4 32 (drop at owner) ∙ ap (take 32) (drop-drop 4 at owner)) ∙ take-take 32 32 (drop (at + 4) owner) (omega arith) in
    record {
      place = place;
      size = size;
      mark = ap (λ (x : Header). x.mark.0) (sym same) ∙ behind ∙ sym middle;
      body = (λ i. take h.length (drop (place i + 36) owner)) ∙ sym whole ∙ (λ i. take (size i) (drop 36 part));
    }

-- the record among the bytes up to the end of the row
pub is_stored : (s : Sizes) (who : Owner) (at to : ℕ) (owner : List ℕ) (h : Header) → at ≤ to → at + 36 + h.length ≤ to → header_at s who at to owner ≡ Ok h → IsStored at to owner h (stored_at (drop at (take to owner)))
is_stored s who at to owner h low fits is =
    let part = drop at (take to owner) in
    let zero_on : at - at ≡ 0 = omega arith in
    let four_on : at + 4 - at ≡ 4 = omega arith in
    let body_on : at + 36 - at ≡ 36 = omega arith in
    let front : take 4 part ≡ take 4 (drop at owner) = (λ i. take 4 (drop (sym zero_on i) part)) ∙ of_front at 4 at to owner (omega arith) (omega (arith, fits)) in
    let middle : take 32 (drop 4 part) ≡ take 32 (drop (at + 4) owner) = (λ i. take 32 (drop (sym four_on i) part)) ∙ of_front at 32 (at + 4) to owner (omega arith) (omega (arith, fits)) in
    let whole : take h.length (drop 36 part) ≡ take h.length (drop (at + 36) owner) = (λ i. take h.length (drop (sym body_on i) part)) ∙ of_front at h.length (at + 36) to owner (omega arith) (omega (arith, fits)) in
    stored_in s who at to owner part h is front middle whole

-- where a header was given, its 36 bytes were read
pub header_read : (s : Sizes) (extents : List ℕ) (at to : ℕ) (h : Header) {old new : History} → at + 36 + h.length ≤ to → ReadsHeader s extents at to old new (Ok h) → ReadsOnly (places_at s extents at 36) old new
header_read s extents at to h {old} {new} fits reads =
    subst (λ b. ReadsOnly (if b then [] else places_at s extents at 36) old new) (le-ltb (to - at) 36 (omega (arith, fits))) reads

-- the header lies within the row
pub header_within : (at to : ℕ) → at ≤ to → at + header_room at to ≤ to
header_within at to low =
    elim (nat_lt (to - at) 36) as (λ b. nat_lt (to - at) 36 ≡ b → at + (if b then 0 else 36) ≤ to) [
      | true ↦ λ _. omega (arith, low)
      | false ↦ λ long. omega (arith, low, ltb-false (to - at) 36 long)
    ] refl

-- ---- the header holds, or is refused

refused : (b : Bool) (x : Header) (e damage : Damage) → (if b then Ok x else Err e) ≡ Err damage → (b ≡ false) × (damage ≡ e)
refused true x e damage is = absurd (wrong is) where
  wrong : Ok x ≡ Err damage → ⊥
  wrong eq = cc
refused false x e damage is = (refl, cc)

either : (b : Bool) (e : Damage) (x : Result Header Damage) (damage : Damage) → (if b then Err e else x) ≡ Err damage → ((b ≡ true) × (damage ≡ e)) ⊎ ((b ≡ false) × (x ≡ Err damage))
either true e x damage is = inl (refl, cc)
either false e x damage is = inr (refl, is)

same_fit : (at n end : ℕ) → at + 36 ≤ end → nat_le (at + 36 + n) end ≡ nat_le n (end - at - 36)
same_fit at n end room =
    elim (cases_lt end (at + 36 + n)) [
      | inl over ↦ lt-leb (at + 36 + n) end over ∙ sym (lt-leb n (end - at - 36) (omega (arith, over, room)))
      | inr fits ↦ le-leb (at + 36 + n) end fits ∙ sym (le-leb n (end - at - 36) (omega (arith, fits)))
    ]

module _ (s : Sizes) (image : List ℕ) (p : RowPlace) (at : ℕ) where
  abbrev x : Spot
  x = spot_in s image p at

  abbrev owner : List ℕ
  owner = owner_bytes s p.extents image

  abbrev header : List ℕ
  header = take 36 (drop at owner)

  -- the length that the header says
  abbrev said : ℕ
  said = from_be_bytes w32 (take 4 header)

  abbrev left : ℕ
  left = row_end p - at - 36

  abbrev test : Bool
  test = nat_le 1 said && nat_le said s.max && nat_le said left

  abbrev as_read : Header
  as_read = record { length = said; mark = record { 0 = take 32 (drop 4 header) }; at = at }

  said_is : at + 36 ≤ row_end p → x.stored.length ≡ said
  said_is room = same_length at (row_end p) owner (omega (arith, room)) ∙ sym (ap (from_be_bytes w32) (take-take 4 36 (drop at owner) (omega arith)))

  holds_is : at + 36 ≤ row_end p → header_holds s p x ≡ test
  holds_is room = (λ i. length_holds s (said_is room i) && nat_le (at + 36 + said_is room i) (row_end p)) ∙ ap (λ b. length_holds s said && b) (same_fit at said (row_end p) room)

  pub good_header : (h : Header) → at + 36 + h.length ≤ row_end p → header_at s p.who at (row_end p) owner ≡ Ok h → header_holds s p x ≡ true
  good_header h fits is =
      let read = second (nat_lt (row_end p - at) 36) (BadHeader p.who at 0 (row_end p - at)) (header_in s.max p.who at left header) h is in
      holds_is (omega (arith, fits)) ∙ passed test as_read h (BadHeader p.who at said left) read.1

  pub refused_header : (damage : Damage) {old new : History} → at ≤ row_end p → header_at s p.who at (row_end p) owner ≡ Err damage → ReadsOnly (if nat_lt (row_end p - at) 36 then [] else header_places s x) old new → IsRefusedAt s p x damage old new
  refused_header damage {old} {new} low is reads =
      elim (either (nat_lt (row_end p - at) 36) (BadHeader p.who at 0 (row_end p - at)) (header_in s.max p.who at left header) damage is) [
        | inl short ↦
            (let few : row_end p - at < 36 = ltb-true (row_end p - at) 36 short.0 in
            record {
              said = 0;
              left = row_end p - at;
              places = [];
              so = short.1;
              bad = inl (few, omega (arith, low), refl, refl);
              read = read_all (subst (λ b. ReadsOnly (if b then [] else header_places s x) old new) short.0 reads);
            })
        | inr long ↦
            (let room : 36 ≤ row_end p - at = ltb-false (row_end p - at) 36 long.0 in
            let bad = refused test as_read (BadHeader p.who at said left) damage long.1 in
            let inside : at + 36 ≤ row_end p = omega (arith, room, low) in
            record {
              said = said;
              left = left;
              places = header_places s x;
              so = bad.1;
              bad = inr (omega (arith, inside), sym (said_is inside), holds_is inside ∙ bad.0, refl);
              read = read_all (subst (λ b. ReadsOnly (if b then [] else header_places s x) old new) long.0 reads);
            })
      ]

-- ---- a row whose headers hold

pub headers_row : (s : Sizes) (image : List ℕ) (p : RowPlace) → IsTrue (list_all (header_holds s p) (row_spots s image p)) → HasGoodHeaders s image (p ∷ [])
headers_row s image p good = record { each = λ i. good i && true }
