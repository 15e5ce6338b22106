-- Stretches that go one way: their sums, and their bytes.
use Rattle.std.proofs.Common.{◌≡◌, ℕ, ◌+◌, ◌*◌, ◌≤◌, Bool, true, false, cond, List, [], ◌∷◌, ◌++◌, take, drop, refl, sym, ◌∙◌, ap, arith, append_assoc, append-nil, drop-drop}
use Rattle.std.specs.Prelude.{All, sum_by}
use Rattle.std.proofs.Math.Nat.{mul-add}
use Rattle.std.proofs.lemmas.List.Elements.{All-filter, All-head, All-tail, filter-append}
use Rattle.std.proofs.lemmas.List.Sums.{sum_by-append, sum_by-cons}
use Rattle.bd_model.specs.Sizes.{Sizes}
use Rattle.bd_volume.specs.Growing.{AreCounted}
use Rattle.bd_arrange.specs.Cuts.{going}
use Rattle.bd_arrange.specs.Moving.{bytes_if, bytes_of, chunks_of, goes, picked, share}
use Rattle.bd_arrange.specs.declared.cut.Stretch.{Stretch}

-- one more at the end
pub sum-going : (f : Stretch → ℕ) (way : Bool) (xs : List Stretch) (x : Stretch) → sum_by f (going way (xs ++ x ∷ [])) ≡ sum_by f (going way xs) + share (goes way x) (f x)
sum-going f way xs x =
    ap (sum_by f) (filter-append (goes way) xs (x ∷ []))
    ∙ sum_by-append f (going way xs) (going way (x ∷ []))
    ∙ ap (λ n. sum_by f (going way xs) + n) (one (goes way x))
  where
    one : (t : Bool) → sum_by f (cond t (x ∷ []) []) ≡ share t (f x)
    one true = omega (arith, sum_by-cons f x [])
    one false = refl

pub bytes-push : (xs : List Stretch) (x : Stretch) → bytes_of (xs ++ x ∷ []) ≡ bytes_of xs + x.bytes
bytes-push xs x = omega (arith, sum_by-append (λ (y : Stretch). y.bytes) xs (x ∷ []), sum_by-cons (λ (y : Stretch). y.bytes) x [])

-- a part of them has no more
pub going-part : (way : Bool) (xs more : List Stretch) → bytes_of (going way xs) ≤ bytes_of (going way (xs ++ more))
going-part way xs more = omega (arith, ap bytes_of (filter-append (goes way) xs more), sum_by-append (λ (y : Stretch). y.bytes) (going way xs) (going way more))

pub going-le : (way : Bool) (xs : List Stretch) → bytes_of (going way xs) ≤ bytes_of xs
going-le way [] = omega arith
going-le way (x ∷ xs) =
    let first = sum_by-cons (λ (y : Stretch). y.bytes) x xs in
    elim (goes way x) as (λ t. bytes_of (cond t (x ∷ going way xs) (going way xs)) ≤ bytes_of (x ∷ xs)) [
      | true ↦ omega (arith, first, sum_by-cons (λ (y : Stretch). y.bytes) x (going way xs), going-le way xs)
      | false ↦ omega (arith, first, going-le way xs)
    ]

pub bytes-part : (xs more : List Stretch) → bytes_of xs ≤ bytes_of (xs ++ more)
bytes-part xs more = omega (arith, sum_by-append (λ (y : Stretch). y.bytes) xs more)

pub picked-push : (way : Bool) (xs : List Stretch) (x : Stretch) (bytes : List ℕ) → picked way (xs ++ x ∷ []) bytes ≡ picked way xs bytes ++ bytes_if (goes way x) (take x.bytes (drop (bytes_of xs) bytes))
picked-push way [] x bytes = append-nil (bytes_if (goes way x) (take x.bytes bytes))
picked-push way (y ∷ ys) x bytes =
    let first = bytes_if (goes way y) (take y.bytes bytes) in
    let total : y.bytes + bytes_of ys ≡ bytes_of (y ∷ ys) = sym (sum_by-cons (λ (z : Stretch). z.bytes) y ys) in
    ap (λ l. first ++ l) (picked-push way ys x (drop y.bytes bytes))
    ∙ sym (append_assoc first (picked way ys (drop y.bytes bytes)) (bytes_if (goes way x) (take x.bytes (drop (bytes_of ys) (drop y.bytes bytes)))))
    ∙ ap (λ l. picked way (y ∷ ys) bytes ++ bytes_if (goes way x) (take x.bytes l)) (drop-drop (bytes_of ys) y.bytes bytes ∙ ap (λ n. drop n bytes) total)

-- what they may have together
pub record AreSummed (s : Sizes) (chunks bytes : ℕ) : Type 0 where
  pub low : 37 * chunks ≤ bytes
  pub high : bytes ≤ (36 + s.max) * chunks

pub summed : (s : Sizes) (xs : List Stretch) → All (λ x. AreCounted s x.chunks x.bytes) xs → AreSummed s (chunks_of xs) (bytes_of xs)
summed s [] all = record { low = omega arith; high = omega arith }
summed s (x ∷ xs) all =
    let P = λ (y : Stretch). AreCounted s y.chunks y.bytes in
    let here = All-head P x xs all in
    let rest = summed s xs (All-tail P x xs all) in
    let chunks = sum_by-cons (λ (y : Stretch). y.chunks) x xs in
    let bytes = sum_by-cons (λ (y : Stretch). y.bytes) x xs in
    record {
      low = omega (arith, here.low, rest.low, chunks, bytes);
      high = omega (arith, here.high, rest.high, bytes, mul-add (36 + s.max) x.chunks (chunks_of xs), ap (λ n. (36 + s.max) * n) chunks);
    }

pub summed_going : (s : Sizes) (way : Bool) (xs : List Stretch) → All (λ x. AreCounted s x.chunks x.bytes) xs → AreSummed s (chunks_of (going way xs)) (bytes_of (going way xs))
summed_going s way xs all = summed s (going way xs) (All-filter (goes way) (λ (y : Stretch). AreCounted s y.chunks y.bytes) xs all)

-- none has no bytes
pub none_summed : (s : Sizes) (chunks bytes : ℕ) → AreSummed s chunks bytes → chunks ≡ 0 → bytes ≡ 0
none_summed s chunks bytes is none =
    let high : bytes ≤ (36 + s.max) * 0 = omega (arith, is.high, ap (λ n. (36 + s.max) * n) none) in
    omega (arith, high)
