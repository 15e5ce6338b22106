-- The records of a row, one behind the other.
use Rattle.std.proofs.Common.{◌≡◌, ℕ, zero, suc, ◌+◌, ◌-◌, ◌<◌, ◌≤◌, List, [], ◌∷◌, ◌++◌, take, drop, refl, sym, ◌∙◌, ap, arith}
use Rattle.std.specs.List.{sum_by}
use Rattle.std.specs.Int.{w32, from_be_bytes}
use Rattle.std.proofs.lemmas.List.{drop-take, take-take}
use Rattle.std.proofs.lemmas.List.Sums.{sum_by-cons}
use Rattle.bd_model.specs.Records.{Stored, stored_at}
use Rattle.bd_catalog.specs.Rows.{Spot, past, records_at, spots_from}

-- ---- a record of a front of the bytes

-- its length is that of the record among all bytes
pub same_length : (at end : ℕ) (bytes : List ℕ) → at + 4 ≤ end → (stored_at (drop at (take end bytes))).length ≡ (stored_at (drop at bytes)).length
same_length at end bytes fits =
    let size : end ≡ at + (end - at) = omega (arith, fits) in
    ap (λ l. from_be_bytes w32 (take 4 l)) (ap (λ n. drop at (take n bytes)) size ∙ drop-take at (end - at) bytes)
    ∙ ap (from_be_bytes w32) (take-take 4 (end - at) (drop at bytes) (omega (arith, fits)))

-- ---- records end to end

abbrev pub taken : List Stored → ℕ
taken records = sum_by (λ r. 36 + r.length) records

pub past_sum : (at : ℕ) (spots : List Spot) → past at spots ≡ at + taken (records_at spots)
past_sum at [] = omega arith
past_sum at (x ∷ xs) =
    let sum : taken (records_at (x ∷ xs)) ≡ 36 + x.stored.length + taken (records_at xs) = sum_by-cons (λ (r : Stored). 36 + r.length) x.stored (records_at xs) in
    omega (arith, past_sum (at + 36 + x.stored.length) xs, sum)

pub spots_add : (extents bytes : List ℕ) (n m k at : ℕ) → k ≡ n + m → spots_from extents bytes k at ≡ spots_from extents bytes n at ++ spots_from extents bytes m (past at (spots_from extents bytes n at))
spots_add extents bytes zero m k at e = let same : k ≡ m = omega (arith, e) in ap (λ j. spots_from extents bytes j at) same
spots_add extents bytes (suc n) m zero at e = absurd (omega (arith, e))
spots_add extents bytes (suc n) m (suc k) at e =
    let r = stored_at (drop at bytes) in
    ap (λ l. record { extents = extents; at = at; stored = r } ∷ l) (spots_add extents bytes n m k (at + 36 + r.length) (omega (arith, e)))

-- the record behind the first `count` ones, and those behind it
pub spots_split : (extents bytes : List ℕ) (count chunks at : ℕ) → count < chunks →
    (rest : List Spot) × (spots_from extents bytes chunks at ≡ spots_from extents bytes count at ++ (record { extents = extents; at = past at (spots_from extents bytes count at); stored = stored_at (drop (past at (spots_from extents bytes count at)) bytes) } ∷ rest))
spots_split extents bytes count chunks at lt =
    let size : chunks ≡ count + suc (chunks - count - 1) = omega (arith, lt) in
    (_, spots_add extents bytes count (suc (chunks - count - 1)) chunks at size)

-- nothing has an element
split_none : {X : Type 0} (before : List X) (x : X) (behind : List X) → [] ≡ before ++ (x ∷ behind) → ⊥
split_none [] x behind e = cc
split_none (b ∷ before) x behind e = cc

-- a record lies where those before it end
pub place_is : (extents bytes : List ℕ) (n at : ℕ) (before : List Spot) (x : Spot) (behind : List Spot) → spots_from extents bytes n at ≡ before ++ (x ∷ behind) → x.at ≡ past at before
place_is extents bytes zero at before x behind e = absurd (split_none before x behind e)
place_is extents bytes (suc n) at [] x behind e =
    let here : record { extents = extents; at = at; stored = stored_at (drop at bytes) } ≡ x = cc in
    sym (ap (λ (y : Spot). y.at) here)
place_is extents bytes (suc n) at (b ∷ before) x behind e =
    let r = stored_at (drop at bytes) in
    let first : record { extents = extents; at = at; stored = r } ≡ b = cc in
    let rest : spots_from extents bytes n (at + 36 + r.length) ≡ before ++ (x ∷ behind) = cc in
    place_is extents bytes n (at + 36 + r.length) before x behind rest ∙ ap (λ (y : Spot). past (at + 36 + y.stored.length) before) first

-- ---- one record more

module _ (extents bytes : List ℕ) where
  pub spots-more : (n at : ℕ) → spots_from extents bytes (suc n) at ≡ spots_from extents bytes n at ++ record { extents = extents; at = past at (spots_from extents bytes n at); stored = stored_at (drop (past at (spots_from extents bytes n at)) bytes) } ∷ []
  spots-more zero at = refl
  spots-more (suc n) at =
      let r = stored_at (drop at bytes) in
      ap (λ l. record { extents = extents; at = at; stored = r } ∷ l) (spots-more n (at + 36 + r.length))

  pub past-more : (n at : ℕ) → past at (spots_from extents bytes (suc n) at) ≡ past at (spots_from extents bytes n at) + 36 + (stored_at (drop (past at (spots_from extents bytes n at)) bytes)).length
  past-more zero at = refl
  past-more (suc n) at = past-more n (at + 36 + (stored_at (drop at bytes)).length)
