-- Bodies that are put at the places of entries.
use Rattle.std.proofs.Common.{◌≡◌, ◌≢◌, ℕ, zero, suc, ◌+◌, ◌<◌, ◌≤◌, Bool, true, false, List, [], ◌∷◌, length, take, set, refl, sym, ◌∙◌, ap, subst, arith, inl, inr, Some, unwrap_or}
use Rattle.std.specs.FinMap as map
use Rattle.std.proofs.lemmas.List.{take_all, length-set, get_or-set_same, get_or-set_other}
use Rattle.std.proofs.lemmas.List.Sums.{sum_by-cons}
use Rattle.std.proofs.lemmas.Bool.{cases_order}
use Rattle.bd_disk.specs.Images.{InRange, bytes_at, overwritten}
use Rattle.bd_disk.proofs.AgreeLemmas.{bytes_at-overwritten, length-overwritten, overwrite_agrees, same_bytes_at}
use Rattle.bd_model.specs.FileMap.{FileMap}
use Rattle.bd_model.specs.declared.layout.RecipeEntry.{RecipeEntry}
use Rattle.bd_files.proofs.FileLemmas.{held_put}
use Rattle.bd_recipe.specs.Reading.{total}
use Rattle.bd_restore.specs.Target.{mark_at, length_at, place_at, held, IsTarget, chunk_at, flag_at, Fills, PutsBody}

-- ---- places

pub place-cons : (x : RecipeEntry) (xs : List RecipeEntry) (k : ℕ) → place_at (x ∷ xs) (suc k) ≡ x.length + place_at xs k
place-cons x xs k = sum_by-cons (λ e. e.length) x (take k xs)

pub place_next : (entries : List RecipeEntry) (k : ℕ) → k < length entries → place_at entries (suc k) ≡ place_at entries k + length_at entries k
place_next [] k lt = absurd (omega arith)
place_next (x ∷ xs) zero lt =
    let one : place_at (x ∷ xs) (suc zero) ≡ x.length + place_at xs zero = place-cons x xs zero in
    let none : place_at (x ∷ xs) zero ≡ 0 = refl in
    let start : place_at xs zero ≡ 0 = refl in
    let here : length_at (x ∷ xs) zero ≡ x.length = refl in
    omega (arith, one, none, start, here)
place_next (x ∷ xs) (suc k) lt =
    let two : place_at (x ∷ xs) (suc (suc k)) ≡ x.length + place_at xs (suc k) = place-cons x xs (suc k) in
    let one : place_at (x ∷ xs) (suc k) ≡ x.length + place_at xs k = place-cons x xs k in
    let here : length_at (x ∷ xs) (suc k) ≡ length_at xs k = refl in
    omega (arith, two, one, here, place_next xs k (omega arith))

place_le : (entries : List RecipeEntry) (j k : ℕ) → j ≤ k → place_at entries j ≤ place_at entries k
place_le xs zero k le = omega arith
place_le [] (suc j) k le = omega arith
place_le (x ∷ xs) (suc j) zero le = absurd (omega arith)
place_le (x ∷ xs) (suc j) (suc k) le =
    let one : place_at (x ∷ xs) (suc j) ≡ x.length + place_at xs j = place-cons x xs j in
    let other : place_at (x ∷ xs) (suc k) ≡ x.length + place_at xs k = place-cons x xs k in
    omega (arith, one, other, place_le xs j k (omega arith))

place_end : (entries : List RecipeEntry) → place_at entries (length entries) ≡ total entries
place_end entries = ap total (take_all (length entries) entries (omega arith))

pub place_within : (entries : List RecipeEntry) (k : ℕ) → k < length entries → place_at entries k + length_at entries k ≤ total entries
place_within entries k lt = omega (arith, place_next entries k lt, place_le entries (suc k) (length entries) (omega arith), place_end entries)

-- the chunks of two entries don't overlap
pub places_apart : (entries : List RecipeEntry) (j k place : ℕ) → j < length entries → k < length entries → j ≢ k → InRange (place_at entries j) (length_at entries j) place → InRange (place_at entries k) (length_at entries k) place → ⊥
places_apart entries j k place jl kl apart a b =
    let order = cases_order j k in
    elim order [
      | inl same ↦ apart same
      | inr rest ↦ elim rest [
        | inl lt ↦ omega (arith, place_next entries j jl, place_le entries (suc j) k (omega (arith, lt)), a, b)
        | inr gt ↦ omega (arith, place_next entries k kl, place_le entries (suc k) j (omega (arith, gt)), a, b)
      ]
    ]

-- ---- one body

module _ (entries : List RecipeEntry) (j : ℕ) (body file : List ℕ) (lt : j < length entries) (sized : length body ≡ length_at entries j) (long : length file ≡ total entries) where
  pub put_here : chunk_at entries j (overwritten file (place_at entries j) body) ≡ body
  put_here =
      ap (λ n. bytes_at (place_at entries j) n (overwritten file (place_at entries j) body)) (sym sized)
      ∙ bytes_at-overwritten file (place_at entries j) body (omega (arith, place_within entries j lt, sized, long))

  pub put_other : (k : ℕ) → k < length entries → k ≢ j → chunk_at entries k (overwritten file (place_at entries j) body) ≡ chunk_at entries k file
  put_other k kl apart =
      same_bytes_at (λ place. InRange (place_at entries j) (length body) place → ⊥) file (overwritten file (place_at entries j) body) (place_at entries k) (length_at entries k)
      (λ place a b. places_apart entries k j place kl lt apart a (b.0, subst (λ n. place < place_at entries j + n) sized b.1))
      (overwrite_agrees file (place_at entries j) body)

-- ---- names

pub held_is : (files : FileMap) (name bytes : List ℕ) → map.get files name ≡ Some bytes → held files name ≡ bytes
held_is files name bytes is = ap (λ o. unwrap_or o []) is

module _ (entries : List RecipeEntry) (name body : List ℕ) (j : ℕ) (files new : FileMap) (target : IsTarget entries name files) (so : new ≡ map.insert files name (overwritten (held files name) (place_at entries j) body)) where
  now_held : held new name ≡ overwritten (held files name) (place_at entries j) body
  now_held = held_is new name _ (held_put files new name _ so)

  pub target_after : IsTarget entries name new
  target_after = record {
    there = held_put files new name _ so ∙ ap Some (sym now_held);
    long = ap length now_held ∙ length-overwritten (held files name) (place_at entries j) body ∙ target.long;
  }

  -- one more of the entries with the mark, where none lies between it and the limit
  pub puts_more : (m first : List ℕ) (limit : ℕ) → j < length entries → length body ≡ length_at entries j → mark_at entries j ≡ m → ((k : ℕ) → j < k → k < limit → k < length entries → mark_at entries k ≢ m) →
      PutsBody entries m body j first (held files name) → PutsBody entries m body limit first (held new name)
  puts_more m first limit lt sized here gap was =
      record {
        here = λ k low high same.
            ap (chunk_at entries k) now_held ∙
            (let order = cases_order k j in
            elim order [
              | inl eq ↦ subst (λ i. chunk_at entries i (overwritten (held files name) (place_at entries j) body) ≡ body) (sym eq) (put_here entries j body (held files name) lt sized target.long)
              | inr rest ↦ elim rest [
                | inl below ↦ put_other entries j body (held files name) lt sized target.long k high (λ (eq : k ≡ j). omega (arith, eq, below)) ∙ was.here k below high same
                | inr above ↦ absurd (gap k above low high same)
              ]
            ]);
        others = λ k lt_k differ.
            ap (chunk_at entries k) now_held
            ∙ put_other entries j body (held files name) lt sized target.long k lt_k (λ eq. differ (ap (mark_at entries) eq ∙ here))
            ∙ was.others k lt_k differ;
      }

-- where no entry up to the limit has the mark, nothing need be put
pub puts_none : (entries : List RecipeEntry) (m body file : List ℕ) (limit : ℕ) → ((k : ℕ) → k < limit → k < length entries → mark_at entries k ≢ m) → PutsBody entries m body limit file file
puts_none entries m body file limit none = record { here = λ k low lt same. absurd (none k low lt same); others = λ k lt differ. refl }

pub fills_none : (entries : List RecipeEntry) (m : List ℕ) (filled : List Bool) (limit : ℕ) → ((k : ℕ) → k < limit → k < length entries → mark_at entries k ≢ m) → Fills entries m limit filled filled
fills_none entries m filled limit none = record { count = refl; here = λ k low lt same. absurd (none k low lt same); others = λ k lt differ. refl }

-- one more flag
pub fills_more : (entries : List RecipeEntry) (m : List ℕ) (j limit : ℕ) (first old new : List Bool) → j < length entries → length old ≡ length entries → mark_at entries j ≡ m →
    ((k : ℕ) → j < k → k < limit → k < length entries → mark_at entries k ≢ m) → new ≡ set old j true → Fills entries m j first old → Fills entries m limit first new
fills_more entries m j limit first old new lt sized here gap so was = record {
  count = ap length so ∙ length-set old j true ∙ was.count;
  here = λ k low high same.
      ap (λ l. flag_at l k) so ∙
      (let order = cases_order k j in
      elim order [
        | inl eq ↦ ap (λ i. flag_at (set old j true) i) eq ∙ get_or-set_same old j true false (omega (arith, lt, sized))
        | inr rest ↦ elim rest [
          | inl below ↦ get_or-set_other old j k true false (λ (eq : k ≡ j). omega (arith, eq, below)) ∙ was.here k below high same
          | inr above ↦ absurd (gap k above low high same)
        ]
      ]);
  others = λ k lt_k differ.
      ap (λ l. flag_at l k) so
      ∙ get_or-set_other old j k true false (λ (eq : k ≡ j). differ (ap (mark_at entries) eq ∙ here))
      ∙ was.others k lt_k differ;
}
