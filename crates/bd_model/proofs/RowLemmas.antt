-- How the rows of the newest closed volume grow.
use Rattle.std.proofs.Common.{◌≡◌, ◌≢◌, ℕ, zero, suc, ◌+◌, ◌-◌, ◌<◌, ◌≤◌, max, Bool, true, false, cond, not, ◌||◌, ◌&&◌, List, [], ◌∷◌, ◌++◌, refl, sym, ◌∙◌, ap, arith, filter, map, length, length-append, nat_le, nat_lt, nat_eq, lt-ltb, le-ltb, eq-eqb, ◌⊎◌, inl, inr, ⊎_elim, subst, sum_by}
use Rattle.std.proofs.lemmas.Bool.{ne_eqb, cases_lt, eqb-true, eqb-false, false≢true, le-leb, leb-true, lt-leb, ltb-true, ltb-false}
use Rattle.std.proofs.lemmas.List.{append-nil}
use Rattle.std.proofs.lemmas.List.Elements.{All-nil, All-cons}
use Rattle.std.proofs.lemmas.List.Sums.{sum_by-append, sum_by-cons}
use Rattle.std.proofs.lemmas.Grind.{flat_map-append}
use Rattle.std.specs.List.{All, flat_map, list_all, range_with_len}
use Rattle.bd_model.specs.Chunks.{numbers}
use Rattle.bd_model.specs.History.{VersionHistory, newest, oldest, contains}
use Rattle.bd_model.specs.Category.{category}
use Rattle.bd_model.specs.declared.layout.CategoryRow.{CategoryRow}
use Rattle.bd_model.specs.declared.layout.Phase.TheVariants.{Waiting}
use Rattle.bd_model.specs.Layout.{recorded_as, row_chunks, row_of, rows, record_bytes}
use Rattle.bd_model.specs.Room.{archived}
use Rattle.bd_model.proofs.LayoutLemmas.{closed_volume-rows, row_chunks-merged, row_chunks-later}
use Rattle.bd_model.specs.declared.layout.Phase.{Phase}
use Rattle.bd_model.specs.Laws.{both_rows, given_up, rows_to, taking_in, RowsDescribeTheVolume, row_with, rows_with, rows_more}
use Rattle.bd_model.proofs.ListLemmas.{sum_by-flat_map, left_and, right_and, filter-same, filter-numbers, filter-numbers_none, filter-below, numbers-split, numbers-cons, numbers-none, numbers-suc}
use Rattle.bd_model.proofs.HistoryLemmas.{grown, newest-grown}
use Rattle.bd_model.proofs.CategoryLemmas.{category-archived, category-newest}

rows_with-front : (r : ℕ) (chunks : List (List ℕ)) (xs : List CategoryRow) (y : CategoryRow) → rows_with r chunks (xs ++ y ∷ []) ≡ xs ++ rows_with r chunks (y ∷ [])
rows_with-front r [] xs y = refl
rows_with-front r (c ∷ cs) [] y = refl
rows_with-front r (c ∷ cs) (x ∷ []) y = refl
rows_with-front r (c ∷ cs) (x ∷ x' ∷ xs) y = ap (λ ys. x ∷ ys) (rows_with-front r (c ∷ cs) (x' ∷ xs) y)

-- whether no row has the start
abbrev has_no : ℕ → List CategoryRow → Bool
has_no r xs = list_all (λ row. not (nat_eq row.start r)) xs

last_other : (b : Bool) (x y z : List CategoryRow) → not b ≡ true → y ≡ z → cond b x y ≡ z
last_other false x y z e f = f
last_other true x y z e f = absurd (false≢true e)

rows_with-none : (r : ℕ) (c : List ℕ) (cs : List (List ℕ)) (xs : List CategoryRow) → has_no r xs ≡ true → rows_with r (c ∷ cs) xs ≡ xs ++ row_of r (c ∷ cs) ∷ []
rows_with-none r c cs [] none = refl
rows_with-none r c cs (x ∷ []) none = last_other (nat_eq x.start r) _ _ _ (left_and (not (nat_eq x.start r)) true none) refl
rows_with-none r c cs (x ∷ x' ∷ xs) none = ap (λ ys. x ∷ ys) (rows_with-none r c cs (x' ∷ xs) (right_and (not (nat_eq x.start r)) (has_no r (x' ∷ xs)) none))

row_of-append : (r : ℕ) (cs ds : List (List ℕ)) → row_of r (cs ++ ds) ≡ row_with (row_of r cs) ds
row_of-append r cs ds = λ k. record { start = r; chunks = length-append cs ds k; bytes = sum_by-append (λ c. 36 + length c) cs ds k }

-- the rows of these starts, where `f` gives the chunks of each
abbrev pub rows_over : (ℕ → List (List ℕ)) → List ℕ → List CategoryRow
rows_over f starts = filter (λ row. nat_lt 0 row.chunks) (map (λ r. row_of r (f r)) starts)

abbrev row_or_none : ℕ → List (List ℕ) → List CategoryRow
row_or_none r cs = cond (nat_lt 0 (length cs)) (row_of r cs ∷ []) []

one_row : (r : ℕ) (c : List ℕ) (cs : List (List ℕ)) → row_or_none r (c ∷ cs) ≡ row_of r (c ∷ cs) ∷ []
one_row r c cs = let some : nat_lt 0 (length (c ∷ cs)) ≡ true = lt-ltb 0 (length (c ∷ cs)) (omega arith) in ap (λ t. cond t (row_of r (c ∷ cs) ∷ []) []) some

-- more chunks of the last start
rows_with-last : (r : ℕ) (front : List CategoryRow) (old new : List (List ℕ)) → has_no r front ≡ true → front ++ row_or_none r (old ++ new) ≡ rows_with r new (front ++ row_or_none r old)
rows_with-last r front old [] none = ap (λ cs. front ++ row_or_none r cs) (append-nil old)
rows_with-last r front [] (c ∷ cs) none = ap (λ xs. front ++ xs) (one_row r c cs) ∙ sym (rows_with-none r c cs front none) ∙ ap (rows_with r (c ∷ cs)) (sym (append-nil front))
rows_with-last r front (d ∷ ds) (c ∷ cs) none =
    let same : nat_eq r r ≡ true = eq-eqb r r refl in
    ap (λ xs. front ++ xs) (one_row r d (ds ++ c ∷ cs) ∙ ap (λ row. row ∷ []) (row_of-append r (d ∷ ds) (c ∷ cs)))
    ∙ ap (λ t. front ++ cond t (row_with (row_of r (d ∷ ds)) (c ∷ cs) ∷ []) (row_of r (d ∷ ds) ∷ row_of r (c ∷ cs) ∷ [])) (sym same)
    ∙ sym (rows_with-front r (c ∷ cs) front (row_of r (d ∷ ds)))
    ∙ ap (λ xs. rows_with r (c ∷ cs) (front ++ xs)) (sym (one_row r d ds))

rows_over-append : (f : ℕ → List (List ℕ)) (xs ys : List ℕ) → rows_over f (xs ++ ys) ≡ rows_over f xs ++ rows_over f ys
rows_over-append f [] ys = refl
rows_over-append f (x ∷ xs) ys =
    elim (nat_lt 0 (length (f x))) as (λ t. cond t (row_of x (f x) ∷ rows_over f (xs ++ ys)) (rows_over f (xs ++ ys)) ≡ cond t (row_of x (f x) ∷ rows_over f xs) (rows_over f xs) ++ rows_over f ys) [
      | true ↦ ap (λ rs. row_of x (f x) ∷ rs) (rows_over-append f xs ys)
      | false ↦ rows_over-append f xs ys
    ]

pub rows_over-same : (f g : ℕ → List (List ℕ)) (a n : ℕ) → ((v : ℕ) → a ≤ v → v < a + n → f v ≡ g v) → rows_over f (range_with_len a n) ≡ rows_over g (range_with_len a n)
rows_over-same f g a zero agree = refl
rows_over-same f g a (suc n) agree =
    let tail = rows_over-same f g (a + 1) n (λ v low high. agree v (omega arith) (omega arith)) in
    let head = agree a (omega arith) (omega arith) in
    λ k. cond (nat_lt 0 (length (head k))) (row_of a (head k) ∷ tail k) (tail k)

rows_over-none : (starts : List ℕ) → rows_over (λ _. []) starts ≡ []
rows_over-none [] = refl
rows_over-none (x ∷ xs) = rows_over-none xs

-- a test that all starts pass
rows_over-all : (p : ℕ → Bool) (f : ℕ → List (List ℕ)) (a n : ℕ) → ((v : ℕ) → a ≤ v → v < a + n → p v ≡ true) → list_all (λ row. p row.start) (rows_over f (range_with_len a n)) ≡ true
rows_over-all p f a zero passes = refl
rows_over-all p f a (suc n) passes =
    let tail = rows_over-all p f (a + 1) n (λ v low high. passes v (omega arith) (omega arith)) in
    elim (nat_lt 0 (length (f a))) as (λ t. list_all (λ row. p row.start) (cond t (row_of a (f a) ∷ rows_over f (range_with_len (a + 1) n)) (rows_over f (range_with_len (a + 1) n))) ≡ true) [
      | true ↦ λ k. passes a (omega arith) (omega arith) k && tail k
      | false ↦ tail
    ]

rows_over-below : (f : ℕ → List (List ℕ)) (r a n : ℕ) → a + n ≤ r → has_no r (rows_over f (range_with_len a n)) ≡ true
rows_over-below f r a n le = rows_over-all (λ v. not (nat_eq v r)) f a n (λ v low high. ap not (ne_eqb v r (λ e. absurd (omega arith))))

-- where no start above `top` has chunks, no row has such a start
rows_over-end : (f : ℕ → List (List ℕ)) (top a n : ℕ) → ((v : ℕ) → top < v → v < a + n → f v ≡ []) → All (λ row. row.start ≤ top) (rows_over f (range_with_len a n))
rows_over-end f top a zero none = All-nil (λ row. row.start ≤ top)
rows_over-end f top a (suc n) none =
    let rest = rows_over f (range_with_len (a + 1) n) in
    let tail = rows_over-end f top (a + 1) n (λ v above below. none v above (omega arith)) in
    ⊎_elim
    (λ past. ap_all (λ k. cond (nat_lt 0 (length (none a past (omega arith) k))) (row_of a (none a past (omega arith) k) ∷ rest) rest) tail)
    (λ low. elim (nat_lt 0 (length (f a))) as (λ t. All (λ row. row.start ≤ top) (cond t (row_of a (f a) ∷ rest) rest)) [
      | true ↦ All-cons (λ row. row.start ≤ top) (row_of a (f a)) rest low tail
      | false ↦ tail
    ])
    (cases_lt top a)
  where
    ap_all : {xs ys : List CategoryRow} → xs ≡ ys → All (λ row. row.start ≤ top) ys → All (λ row. row.start ≤ top) xs
    ap_all same each = subst (λ rs. All (λ row. row.start ≤ top) rs) (sym same) each

-- where only the last start that has chunks gets more, the rows get them
rows_over-more : (f g : ℕ → List (List ℕ)) (a r b : ℕ) (more : List (List ℕ)) → 1 ≤ a → a ≤ r → r ≤ b →
    ((v : ℕ) → a ≤ v → v ≤ b → v ≢ r → g v ≡ f v) → g r ≡ f r ++ more → ((v : ℕ) → r < v → v ≤ b → f v ≡ []) →
    rows_over g (numbers a b) ≡ rows_with r more (rows_over f (numbers a b))
rows_over-more f g a r b more one low high same last none =
    let back : r - 1 + 1 ≡ r = omega arith in
    let split : numbers a b ≡ numbers a (r - 1) ++ r ∷ numbers (r + 1) b =
    numbers-split a (r - 1) b (omega arith) (omega arith) ∙ ap (λ n. numbers a (r - 1) ++ numbers n b) back ∙ ap (λ ns. numbers a (r - 1) ++ ns) (numbers-cons r b high) in
    let nothing : (v : ℕ) → r + 1 ≤ v → v < r + 1 + (b + 1 - (r + 1)) → f v ≡ [] = λ v above below. none v (omega arith) (omega arith) in
    let behind : (x : ℕ → List (List ℕ)) → ((v : ℕ) → r + 1 ≤ v → v < r + 1 + (b + 1 - (r + 1)) → x v ≡ []) → rows_over x (numbers a b) ≡ rows_over x (numbers a (r - 1)) ++ row_or_none r (x r) =
    λ x empty.
    ap (rows_over x) split
    ∙ rows_over-append x (numbers a (r - 1)) (r ∷ numbers (r + 1) b)
    ∙ ap (λ rs. rows_over x (numbers a (r - 1)) ++ rs) (rows_over-append x (r ∷ []) (numbers (r + 1) b)
    ∙ ap (λ rs. row_or_none r (x r) ++ rs) (rows_over-same x (λ _. []) (r + 1) (b + 1 - (r + 1)) empty ∙ rows_over-none (numbers (r + 1) b))
    ∙ append-nil (row_or_none r (x r))) in
    let front : rows_over g (numbers a (r - 1)) ≡ rows_over f (numbers a (r - 1)) =
    rows_over-same g f a (r - 1 + 1 - a) (λ v above below. same v above (omega arith) (λ e. absurd (omega arith))) in
    behind g (λ v above below. same v (omega arith) (omega arith) (λ e. absurd (omega arith)) ∙ nothing v above below)
    ∙ (λ k. front k ++ row_or_none r (last k))
    ∙ rows_with-last r (rows_over f (numbers a (r - 1))) (f r) more (rows_over-below f r a (r - 1 + 1 - a) (omega arith))
    ∙ ap (rows_with r more) (sym (behind f nothing))

numbers-one : (k : ℕ) → numbers k k ≡ k ∷ []
numbers-one k = numbers-cons k k (omega arith) ∙ ap (λ ns. k ∷ ns) (numbers-none (k + 1) k (omega arith))

-- the starts that are recorded as one are numbers up to it
pub recorded_as-numbers : (h : VersionHistory) (k : ℕ) → recorded_as h k ≡ numbers (cond (nat_eq k (oldest h)) (h.base + 1) k) k
recorded_as-numbers h k =
    elim (nat_eq k (oldest h)) as (λ t. cond t (numbers (h.base + 1) k) (k ∷ []) ≡ numbers (cond t (h.base + 1) k) k) [ true ↦ refl | false ↦ sym (numbers-one k) ]

pub one_more : (x i : ℕ) → x ≢ i → nat_lt x (i + 1) ≡ nat_lt x i
one_more x i other =
    ⊎_elim (λ less. lt-ltb x (i + 1) (omega arith) ∙ sym (lt-ltb x i less)) (λ past. le-ltb x (i + 1) (omega arith) ∙ sym (le-ltb x i past)) (cases_lt x i)

-- where no chunk is counted there is none
pub no_chunks : (cs : List (List ℕ)) → nat_lt 0 (length cs) ≡ false → cs ≡ []
no_chunks [] e = refl
no_chunks (c ∷ cs) e = absurd (omega (arith, ltb-false 0 (length (c ∷ cs)) e))

-- what is summed over rows is summed over their chunks
sum_by-rows_over : (g : CategoryRow → ℕ) (size : List (List ℕ) → ℕ) (f : ℕ → List (List ℕ)) → ((r : ℕ) (cs : List (List ℕ)) → g (row_of r cs) ≡ size cs) → size [] ≡ 0 →
    (starts : List ℕ) → sum_by g (rows_over f starts) ≡ sum_by (λ r. size (f r)) starts
sum_by-rows_over g size f same nothing [] = refl
sum_by-rows_over g size f same nothing (x ∷ xs) =
    let tail = sum_by-rows_over g size f same nothing xs in
    elim (nat_lt 0 (length (f x))) as (λ t. nat_lt 0 (length (f x)) ≡ t → sum_by g (cond t (row_of x (f x) ∷ rows_over f xs) (rows_over f xs)) ≡ sum_by (λ r. size (f r)) (x ∷ xs)) [
      | true ↦ λ e. omega (arith, sum_by-cons g (row_of x (f x)) (rows_over f xs), sum_by-cons (λ r. size (f r)) x xs, same x (f x), tail)
      | false ↦ λ e. omega (arith, sum_by-cons (λ r. size (f r)) x xs, ap size (no_chunks (f x) e), nothing, tail)
    ] refl

length-flat_map : (f : ℕ → List (List ℕ)) (xs : List ℕ) → length (flat_map f xs) ≡ sum_by (λ x. length (f x)) xs
length-flat_map f [] = refl
length-flat_map f (x ∷ xs) = omega (arith, length-append (f x) (flat_map f xs), sum_by-cons (λ y. length (f y)) x xs, length-flat_map f xs)

starts-rows_over : (f : ℕ → List (List ℕ)) (xs : List ℕ) → map (λ row. row.start) (rows_over f xs) ≡ filter (λ r. nat_lt 0 (length (f r))) xs
starts-rows_over f [] = refl
starts-rows_over f (x ∷ xs) =
    elim (nat_lt 0 (length (f x))) as (λ t. map (λ row. row.start) (cond t (row_of x (f x) ∷ rows_over f xs) (rows_over f xs)) ≡ cond t (x ∷ filter (λ r. nat_lt 0 (length (f r))) xs) (filter (λ r. nat_lt 0 (length (f r))) xs)) [
      | true ↦ ap (λ ys. x ∷ ys) (starts-rows_over f xs)
      | false ↦ starts-rows_over f xs
    ]

rows_with-by_number : (r : ℕ) (c : List ℕ) (cs : List (List ℕ)) (rows : List CategoryRow) → rows_with r (c ∷ cs) rows ≡ rows_more r (length (c ∷ cs)) (record_bytes (c ∷ cs)) rows
rows_with-by_number r c cs [] = refl
rows_with-by_number r c cs (row ∷ []) = refl
rows_with-by_number r c cs (row ∷ second ∷ rows) = ap (λ rs. row ∷ rs) (rows_with-by_number r c cs (second ∷ rows))

pub rows_describe_the_volume : RowsDescribeTheVolume
rows_describe_the_volume = record {
  chunks = λ h phase j le.
      sum_by-rows_over (λ row. row.chunks) length (row_chunks h phase j) (λ r cs. refl) refl (numbers (oldest h) j)
      ∙ sym (length-flat_map (row_chunks h phase j) (numbers (oldest h) j)) ∙ ap length (sym (closed_volume-rows h phase j le));
  bytes = λ h phase j le.
      sum_by-rows_over (λ row. row.bytes) record_bytes (row_chunks h phase j) (λ r cs. refl) refl (numbers (oldest h) j)
      ∙ sym (sum_by-flat_map (λ c. 36 + length c) (row_chunks h phase j) (numbers (oldest h) j)) ∙ ap record_bytes (sym (closed_volume-rows h phase j le));
  starts = λ h phase j. starts-rows_over (row_chunks h phase j) (numbers (oldest h) j);
  by_number = rows_with-by_number;
}

some_row : (c : List ℕ) (cs : List (List ℕ)) (xs ys : List CategoryRow) → cond (nat_lt 0 (length (c ∷ cs))) xs ys ≡ xs
some_row c cs xs ys = let some : nat_lt 0 (length (c ∷ cs)) ≡ true = lt-ltb 0 (length (c ∷ cs)) (omega arith) in ap (λ t. cond t xs ys) some

-- whether all rows begin after the start
abbrev all_after : ℕ → List CategoryRow → Bool
all_after r rows = list_all (λ row. nat_lt r row.start) rows

-- rows that begin later are left
taking_in-late : (r : ℕ) (row : CategoryRow) (rest : List CategoryRow) → all_after r rest ≡ true → taking_in r row rest ≡ record row { start = max r row.start } ∷ rest
taking_in-late r row [] late = refl
taking_in-late r row (second ∷ rest) late =
    ap (λ t. cond t (taking_in r (both_rows row second) rest) (record row { start = max r row.start } ∷ second ∷ rest))
    (lt-leb second.start r (ltb-true r second.start (left_and (nat_lt r second.start) (all_after r rest) late)))

-- rows from r on stay
rows_to-same : (r : ℕ) (row : CategoryRow) (rest : List CategoryRow) → r ≤ row.start → all_after r rest ≡ true → rows_to r (row ∷ rest) ≡ row ∷ rest
rows_to-same r row rest le late = let same : max r row.start ≡ row.start = omega arith in taking_in-late r row rest late ∙ ap (λ n. record row { start = n } ∷ rest) same

rows_to-rest : (r : ℕ) (rest : List CategoryRow) → all_after r rest ≡ true → rows_to r rest ≡ rest
rows_to-rest r [] late = refl
rows_to-rest r (row ∷ rest) late =
    let lt : r < row.start = ltb-true r row.start (left_and (nat_lt r row.start) (all_after r rest) late) in
    rows_to-same r row rest (omega arith) (right_and (nat_lt r row.start) (all_after r rest) late)

rows_to-lower : (r o : ℕ) (cs : List (List ℕ)) (rest : List CategoryRow) → o < r → all_after r rest ≡ true → row_of r cs ∷ rest ≡ rows_to r (row_of o cs ∷ rest)
rows_to-lower r o cs rest lt late = let same : r ≡ max r o = omega arith in ap (λ n. row_of n cs ∷ rest) same ∙ sym (taking_in-late r (row_of o cs) rest late)

rows_to-first : (r o : ℕ) (cs ds : List (List ℕ)) (rest : List CategoryRow) → o < r → all_after r rest ≡ true →
    cond (nat_lt 0 (length (cs ++ ds))) (row_of r (cs ++ ds) ∷ rest) rest
    ≡ rows_to r (cond (nat_lt 0 (length cs)) (row_of o cs ∷ cond (nat_lt 0 (length ds)) (row_of r ds ∷ rest) rest) (cond (nat_lt 0 (length ds)) (row_of r ds ∷ rest) rest))
rows_to-first r o [] [] rest lt late = sym (rows_to-rest r rest late)
rows_to-first r o [] (d ∷ ds) rest lt late =
    some_row d ds (row_of r (d ∷ ds) ∷ rest) rest ∙ sym (rows_to-same r (row_of r (d ∷ ds)) rest (omega arith) late) ∙ ap (rows_to r) (sym (some_row d ds (row_of r (d ∷ ds) ∷ rest) rest))
rows_to-first r o (c ∷ cs) [] rest lt late =
    some_row c (cs ++ []) (row_of r (c ∷ cs ++ []) ∷ rest) rest
    ∙ ap (λ es. row_of r (c ∷ es) ∷ rest) (append-nil cs)
    ∙ rows_to-lower r o (c ∷ cs) rest lt late
    ∙ ap (rows_to r) (sym (some_row c cs (row_of o (c ∷ cs) ∷ rest) rest))
rows_to-first r o (c ∷ cs) (d ∷ ds) rest lt late =
    let first : r ≡ max r o = omega arith in
    let both : CategoryRow = both_rows (row_of o (c ∷ cs)) (row_of r (d ∷ ds)) in
    let second : List CategoryRow = cond (nat_lt 0 (length (d ∷ ds))) (row_of r (d ∷ ds) ∷ rest) rest in
    some_row d (cs ++ d ∷ ds) (row_of r (c ∷ cs ++ d ∷ ds) ∷ rest) rest
    ∙ ap (λ row. row ∷ rest) (row_of-append r (c ∷ cs) (d ∷ ds))
    ∙ ap (λ n. record both { start = n } ∷ rest) first
    ∙ sym (ap (λ t. cond t (taking_in r both rest) (record (row_of o (c ∷ cs)) { start = max r o } ∷ row_of r (d ∷ ds) ∷ rest)) (le-leb r r (omega arith)) ∙ taking_in-late r both rest late)
    ∙ ap (λ xs. rows_to r (row_of o (c ∷ cs) ∷ xs)) (sym (some_row d ds (row_of r (d ∷ ds) ∷ rest) rest))
    ∙ ap (rows_to r) (sym (some_row c cs (row_of o (c ∷ cs) ∷ second) second))

-- a first row that began between is the same
begun_between : (r q : ℕ) → r ≤ q → (row : CategoryRow) (rows : List CategoryRow) → taking_in q (record row { start = max r row.start }) rows ≡ taking_in q row rows
begun_between r q le row [] = let same : max q (max r row.start) ≡ max q row.start = omega arith in ap (λ n. record row { start = n } ∷ []) same
begun_between r q le row (second ∷ rows) =
    let same : max q (max r row.start) ≡ max q row.start = omega arith in
    λ i. cond (nat_le second.start q) (begun_between r q le (both_rows row second) rows i) (record row { start = same i } ∷ second ∷ rows)

taken_on : (r q : ℕ) → r ≤ q → (row : CategoryRow) (rows : List CategoryRow) → rows_to q (taking_in r row rows) ≡ taking_in q row rows
taken_on r q le row [] = begun_between r q le row []
taken_on r q le row (second ∷ rows) =
    elim (nat_le second.start r) as (λ t. nat_le second.start r ≡ t → rows_to q (cond t (taking_in r (both_rows row second) rows) (record row { start = max r row.start } ∷ second ∷ rows)) ≡ taking_in q row (second ∷ rows)) [
      | true ↦ λ e. taken_on r q le (both_rows row second) rows
          ∙ ap (λ t. cond t (taking_in q (both_rows row second) rows) (record row { start = max q row.start } ∷ second ∷ rows)) (sym (le-leb second.start q (omega (arith, leb-true second.start r e, le))))
      | false ↦ λ e. begun_between r q le row (second ∷ rows)
    ] refl

-- giving up more, later, is giving up all of it at once
pub rows_in_turn : (r q : ℕ) → r ≤ q → (rows : List CategoryRow) → rows_to q (rows_to r rows) ≡ rows_to q rows
rows_in_turn r q le [] = refl
rows_in_turn r q le (row ∷ rows) = taken_on r q le row rows

-- where the oldest version is given up the first two recorded starts become one row
pub rows-given_up : (h : VersionHistory) (phase : Phase) (j : ℕ) → oldest h < j → rows (given_up 1 h) phase j ≡ rows_to (oldest h + 1) (rows h phase j)
rows-given_up h phase j lt =
    let o = oldest h in
    let f = row_chunks h phase j in
    let g = row_chunks (given_up 1 h) phase j in
    let next : oldest (given_up 1 h) ≡ o + 1 = omega arith in
    let rest : rows_over g (numbers (o + 1 + 1) j) ≡ rows_over f (numbers (o + 1 + 1) j) =
    rows_over-same g f (o + 1 + 1) (j + 1 - (o + 1 + 1)) (λ v low high. row_chunks-later (given_up 1 h) phase j v (omega arith) ∙ sym (row_chunks-later h phase j v (omega arith))) in
    let first : g (o + 1) ≡ f o ++ f (o + 1) = ap g (sym next) ∙ row_chunks-merged h phase j in
    ap (λ n. rows_over g (numbers n j)) next
    ∙ ap (rows_over g) (numbers-cons (o + 1) j (omega arith))
    ∙ (λ k. cond (nat_lt 0 (length (first k))) (row_of (o + 1) (first k) ∷ rest k) (rest k))
    ∙ rows_to-first (o + 1) o (f o) (f (o + 1)) (rows_over f (numbers (o + 1 + 1) j)) (omega arith)
    (rows_over-all (λ v. nat_lt (o + 1) v) f (o + 1 + 1) (j + 1 - (o + 1 + 1)) (λ v low high. lt-ltb (o + 1) v (omega arith)))
    ∙ sym (ap (λ ns. rows_to (o + 1) (rows_over f ns)) (numbers-cons o j (omega arith) ∙ ap (λ ns. o ∷ ns) (numbers-cons (o + 1) j (omega arith))))

module _ (h : VersionHistory) (w : List (List ℕ)) where
  abbrev cats : ℕ → List (List ℕ)
  cats i = category (grown h w) i (newest h)

  -- the least start that is recorded as k
  abbrev least : ℕ → ℕ
  least k = cond (nat_eq k (oldest h)) (h.base + 1) k

  row_chunks-waiting : (cursor k : ℕ) → row_chunks (grown h w) (Waiting cursor) (newest h) k ≡ flat_map cats (filter (λ x. nat_lt x cursor) (numbers (least k) k))
  row_chunks-waiting cursor k =
      let «open» : nat_lt (newest h + 1) (newest (grown h w)) ≡ false = le-ltb (newest h + 1) (newest (grown h w)) (omega (arith, newest-grown h w)) in
      let last : nat_eq (newest h + 1) (newest (grown h w)) ≡ true = eq-eqb (newest h + 1) (newest (grown h w)) (sym (newest-grown h w)) in
      ap (flat_map cats) (filter-same (λ i j. «open» j || (last j && nat_lt i cursor)) (recorded_as-numbers (grown h w) k))

  least_is : (k : ℕ) → oldest h ≤ k → ((k ≡ oldest h) × (least k ≡ h.base + 1)) ⊎ ((oldest h < k) × (least k ≡ k))
  least_is k le =
      elim (nat_eq k (oldest h)) as (λ t. nat_eq k (oldest h) ≡ t → ((k ≡ oldest h) × (cond t (h.base + 1) k ≡ h.base + 1)) ⊎ ((oldest h < k) × (cond t (h.base + 1) k ≡ k))) [
        | true ↦ λ e. inl (eqb-true k (oldest h) e, refl)
        | false ↦ λ e. let other : k ≢ oldest h = eqb-false k (oldest h) e in inr (omega arith, refl)
      ] refl

  -- behind the starts before the cursor no start has chunks
  row_chunks-none : (cursor v : ℕ) → oldest h < v → cursor ≤ v → row_chunks (grown h w) (Waiting cursor) (newest h) v ≡ []
  row_chunks-none cursor v above past =
      row_chunks-waiting cursor v
      ∙ ap (flat_map cats) (filter-numbers_none _ (least v) v (λ x from to. le-ltb x cursor (⊎_elim (λ l. omega arith) (λ l. omega arith) (least_is v (omega arith)))))

  pub rows-end : (cursor : ℕ) → All (λ row. row.start ≤ max (cursor - 1) (oldest h)) (rows (grown h w) (Waiting cursor) (newest h))
  rows-end cursor =
      rows_over-end (row_chunks (grown h w) (Waiting cursor) (newest h)) (max (cursor - 1) (oldest h)) (oldest h) (newest h + 1 - oldest h)
      (λ v above below. row_chunks-none cursor v (omega arith) (omega arith))

  -- what is archived of the category i goes into the row of its recorded start
  pub rows-step : (i : ℕ) → h.base < i → i ≤ newest h → h.expired < length h.versions →
      rows (grown h w) (Waiting (i + 1)) (newest h) ≡ rows_with (max i (oldest h)) (archived h w i) (rows (grown h w) (Waiting i) (newest h))
  rows-step i low high some =
      let r = max i (oldest h) in
      let f = row_chunks (grown h w) (Waiting i) (newest h) in
      let g = row_chunks (grown h w) (Waiting (i + 1)) (newest h) in
      let archives : cats i ≡ archived h w i = category-archived h w i high ∙ ap (filter (λ c. not (contains w c))) (category-newest h i) in
      let before : f r ≡ flat_map cats (numbers (least r) (i - 1)) =
      row_chunks-waiting i r ∙ ap (flat_map cats) (⊎_elim (λ e. filter-below (least r) i r (omega arith) (omega arith) (omega arith)) (λ e. filter-below (least r) i r (omega arith) (omega arith) (omega arith)) (least_is r (omega arith))) in
      let after : g r ≡ flat_map cats (numbers (least r) (i - 1)) ++ archived h w i =
      row_chunks-waiting (i + 1) r
      ∙ ap (flat_map cats) (⊎_elim (λ e. grows (least r) r (omega arith) (omega arith) (omega arith)) (λ e. grows (least r) r (omega arith) (omega arith) (omega arith)) (least_is r (omega arith)))
      ∙ flat_map-append cats (numbers (least r) (i - 1)) (i ∷ [])
      ∙ (λ k. flat_map cats (numbers (least r) (i - 1)) ++ append-nil (archives k) k) in
      rows_over-more f g (oldest h) r (newest h) (archived h w i) (omega arith) (omega arith) (omega arith)
      (λ v above below other. row_chunks-waiting (i + 1) v
      ∙ ap (flat_map cats) (filter-numbers _ _ (least v) v (λ x from to. one_more x i (λ e. ⊎_elim (λ l. other (omega arith)) (λ l. other (omega arith)) (least_is v above))))
      ∙ sym (row_chunks-waiting i v))
      (after ∙ ap (λ cs. cs ++ archived h w i) (sym before))
      (λ v above below. row_chunks-none i v (omega arith) (omega arith))
    where
      grows : (a r : ℕ) → 1 ≤ a → a ≤ i → i ≤ r → filter (λ x. nat_lt x (i + 1)) (numbers a r) ≡ numbers a (i - 1) ++ i ∷ []
      grows a r one from to =
          let back : i + 1 - 1 ≡ i - 1 + 1 = omega arith in
          let here : i - 1 + 1 ≡ i = omega arith in
          filter-below a (i + 1) r one (omega arith) (omega arith) ∙ ap (numbers a) back ∙ numbers-suc a (i - 1) (omega arith) ∙ ap (λ n. numbers a (i - 1) ++ n ∷ []) here
