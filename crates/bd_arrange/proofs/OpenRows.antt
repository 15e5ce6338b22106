-- Open categories while splits are made.
use Rattle.std.proofs.Common.{◌≡◌, ◌≢◌, ⊎_elim, ℕ, zero, suc, ◌+◌, ◌<◌, ◌≤◌, true, false, cond, List, [], ◌∷◌, ◌++◌, length, map, refl, sym, ◌∙◌, ap, subst, arith, nat_eq, nat_lt, eq-eqb}
use Rattle.std.specs.Prelude.{All, Contains}
use Rattle.std.specs.List.{IsDistinct, flat_map, range_with_len}
use Rattle.std.proofs.lemmas.Bool.{cases_lt}
use Rattle.std.proofs.lemmas.List.{append-nil, map-append}
use Rattle.std.proofs.lemmas.List.Elements.{All-contains_itself, All-weaker}
use Rattle.bd_model.specs.Layout.{row_of}
use Rattle.bd_model.specs.declared.layout.CategoryRow.{CategoryRow}
use Rattle.bd_model.proofs.RowLemmas.{rows_over}
use Rattle.bd_model.proofs.ListLemmas.{not_nil}
use Rattle.bd_space.proofs.Distinct.{distinct_head, distinct_tail}
use Rattle.bd_roll.specs.Catalogue.{OpenEntry}
use Rattle.bd_roll.specs.Splitting.{extents_at, put_in_place}
use Rattle.bd_roll.proofs.InPlace.{Named, among, at_head, at_later, at_none, put_head, put_later, same_or_not, starts}
use Rattle.bd_volume.proofs.Held.{one_entry}
use Rattle.bd_arrange.proofs.Splits.{one_starting, starting}

abbrev pub entry_rows : List OpenEntry → List CategoryRow
entry_rows es = map (λ e. e.row) es

-- ---- their rows

-- categories that begin later stay
put_past : (i : ℕ) (kept : List OpenEntry) (f : ℕ → List (List ℕ)) (es : List OpenEntry) (a n : ℕ) → entry_rows es ≡ rows_over f (range_with_len a n) → i < a → put_in_place i kept es ≡ es
put_past i kept f [] a n is past = refl
put_past i kept f (e ∷ es) a zero is past = absurd (not_nil is)
put_past i kept f (e ∷ es) a (suc n) is past =
    let rest = rows_over f (range_with_len (a + 1) n) in
    elim (nat_lt 0 (length (f a))) as (λ t. entry_rows (e ∷ es) ≡ cond t (row_of a (f a) ∷ rest) rest → put_in_place i kept (e ∷ es) ≡ e ∷ es) [
      | true ↦ λ same.
          let row : e.row ≡ row_of a (f a) = cc in
          let more : entry_rows es ≡ rest = cc in
          let start : e.row.start ≡ a = ap (λ (r : CategoryRow). r.start) row in
          put_later i e es kept (λ own. absurd (omega arith)) ∙ ap (λ xs. e ∷ xs) (put_past i kept f es (a + 1) n more (omega arith))
      | false ↦ λ same. put_past i kept f (e ∷ es) (a + 1) n same (omega arith)
    ] is

module _ (f now : ℕ → List (List ℕ)) where
  one_row : (a : ℕ) (rest : List CategoryRow) → rows_over now (a ∷ []) ++ rest ≡ cond (nat_lt 0 (length (now a))) (row_of a (now a) ∷ rest) rest
  one_row a rest = elim (nat_lt 0 (length (now a))) as (λ t. cond t (row_of a (now a) ∷ []) [] ++ rest ≡ cond t (row_of a (now a) ∷ rest) rest) [ true ↦ refl | false ↦ refl ]

  put_here : (kept es : List OpenEntry) (a n : ℕ) → entry_rows es ≡ rows_over f (range_with_len a (suc n)) → ((j : ℕ) → a < j → now j ≡ f j) → nat_lt 0 (length (f a)) ≡ true → entry_rows kept ≡ rows_over now (a ∷ []) →
      entry_rows (put_in_place a kept es) ≡ rows_over now (range_with_len a (suc n))
  put_here kept es a n is other some left =
      let rest = rows_over f (range_with_len (a + 1) n) in
      let rest_now = rows_over now (range_with_len (a + 1) n) in
      let same : rest ≡ rest_now = rows_over-later (a + 1) n (λ j low. sym (other j (omega arith))) in
      one_entry es (row_of a (f a)) rest (is ∙ ap (λ t. cond t (row_of a (f a) ∷ rest) rest) some) (λ xs. entry_rows (put_in_place a kept xs) ≡ rows_over now (range_with_len a (suc n))) (λ e more row rows.
      let here : nat_eq e.row.start a ≡ true = eq-eqb e.row.start a (ap (λ (r : CategoryRow). r.start) row) in
      let past : put_in_place a kept more ≡ more = put_past a kept f more (a + 1) n rows (omega arith) in
      (λ k. entry_rows (cond (here k) kept (e ∷ []) ++ past k))
      ∙ map-append (λ (x : OpenEntry). x.row) kept more
      ∙ (λ k. left k ++ (rows ∙ same) k)
      ∙ one_row a rest_now)
    where
      rows_over-later : (b m : ℕ) → ((j : ℕ) → b ≤ j → f j ≡ now j) → rows_over f (range_with_len b m) ≡ rows_over now (range_with_len b m)
      rows_over-later b zero agree = refl
      rows_over-later b (suc m) agree =
          let tail = rows_over-later (b + 1) m (λ j low. agree j (omega arith)) in
          let head = agree b (omega arith) in
          λ k. cond (nat_lt 0 (length (head k))) (row_of b (head k) ∷ tail k) (tail k)

  -- where what is kept of one category stands in its place, the rows are those of the chunks now
  pub put_rows : (i : ℕ) (kept es : List OpenEntry) (a n : ℕ) → entry_rows es ≡ rows_over f (range_with_len a n) → ((j : ℕ) → j ≢ i → now j ≡ f j) → a ≤ i → i < a + n → nat_lt 0 (length (f i)) ≡ true →
      entry_rows kept ≡ rows_over now (i ∷ []) → entry_rows (put_in_place i kept es) ≡ rows_over now (range_with_len a n)
  put_rows i kept es a zero is other low high some left = absurd (omega arith)
  put_rows i kept es a (suc n) is other low high some left =
      ⊎_elim
      (λ before.
      let rest = rows_over f (range_with_len (a + 1) n) in
      let rest_now = rows_over now (range_with_len (a + 1) n) in
      let own : now a ≡ f a = other a (λ same. absurd (omega arith)) in
      elim (nat_lt 0 (length (f a))) as (λ t. entry_rows es ≡ cond t (row_of a (f a) ∷ rest) rest → entry_rows (put_in_place i kept es) ≡ cond t (row_of a (f a) ∷ rest_now) rest_now) [
        | true ↦ λ same. one_entry es (row_of a (f a)) rest same (λ xs. entry_rows (put_in_place i kept xs) ≡ row_of a (f a) ∷ rest_now) (λ e more row rows.
            let start : e.row.start ≡ a = ap (λ (r : CategoryRow). r.start) row in
            ap entry_rows (put_later i e more kept (λ here. absurd (omega arith)))
            ∙ (λ k. row k ∷ put_rows i kept more (a + 1) n rows other (omega arith) (omega arith) some left k))
        | false ↦ λ same. put_rows i kept es (a + 1) n same other (omega arith) (omega arith) some left
      ] is
      ∙ sym (λ k. cond (nat_lt 0 (length (own k))) (row_of a (own k) ∷ rest_now) rest_now))
      (λ le.
      let here : i ≡ a = omega arith in
      subst (λ b. entry_rows (put_in_place b kept es) ≡ rows_over now (range_with_len a (suc n))) (sym here)
      (put_here kept es a n is (λ j after. other j (λ same. absurd (omega arith))) (ap (λ b. nat_lt 0 (length (f b))) (sym here) ∙ some) (left ∙ ap (λ b. rows_over now (b ∷ [])) here)))
      (cases_lt a i)

-- ---- their extents

-- what stands in the place of a category has its start alone
pub at_put : (i : ℕ) (kept cs : List OpenEntry) → IsDistinct nat_eq (starts cs) → Contains (starts cs) i → Named i kept → length kept ≤ 1 → extents_at i (put_in_place i kept cs) ≡ flat_map (λ a. a.extents) kept
at_put i kept [] differ has named one = absurd (omega (arith, has.1))
at_put i kept (a ∷ cs) differ has named one =
    ⊎_elim
    (λ same. ap (extents_at i) (put_head i a cs kept differ same) ∙ in_front kept named one same)
    (λ other.
    ap (extents_at i) (put_later i a cs kept other) ∙ at_later i a (put_in_place i kept cs) other
    ∙ at_put i kept cs (distinct_tail a.row.start (starts cs) differ) (⊎_elim (λ same. absurd (other same)) (λ rest. rest) (among a.row.start (starts cs) i has)) named one)
    (same_or_not a.row.start i)
  where
    in_front : (ks : List OpenEntry) → Named i ks → length ks ≤ 1 → a.row.start ≡ i → extents_at i (ks ++ cs) ≡ flat_map (λ x. x.extents) ks
    in_front [] all few same = at_none i cs (λ more. distinct_head a.row.start (starts cs) differ (subst (Contains (starts cs)) (sym same) more))
    in_front (k ∷ []) all few same =
        let own : k.row.start ≡ i = all 0 k (omega arith) in
        at_head i k cs (subst (λ n. IsDistinct nat_eq (n ∷ starts cs)) (same ∙ sym own) differ) own ∙ sym (append-nil k.extents)
    in_front (k ∷ l ∷ ks) all few same = absurd (omega (arith, few))

-- ---- a category by its start

-- it is the only one of its start
abbrev pub IsAlone : List OpenEntry → OpenEntry → Type 0
IsAlone cs a = starting a.row.start cs ≡ a ∷ []

pub each_alone : (cs : List OpenEntry) → IsDistinct nat_eq (starts cs) → All (IsAlone cs) cs
each_alone cs differ = All-weaker (Contains cs) (IsAlone cs) (λ x has. one_starting cs x differ has) cs (All-contains_itself cs)
