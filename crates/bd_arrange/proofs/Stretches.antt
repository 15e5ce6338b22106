-- A stretch more behind those of a cut.
use Rattle.std.proofs.Common.{◌≡◌, ℕ, ◌+◌, ◌≤◌, Bool, true, false, not, cond, List, [], ◌∷◌, ◌++◌, length, take, drop, length-append, refl, sym, ◌∙◌, ap, subst, arith, inl, inr}
use Rattle.std.specs.Prelude.{Some, if◌then◌else◌}
use Rattle.std.specs.List.{All, filter, sum_by}
use Rattle.std.proofs.lemmas.List.{append-nil, drop-append-le, drop_all, length-take, take-append-drop, take-append-le, take_all}
use Rattle.std.proofs.lemmas.List.Elements.{All-append, All-cons, All-nil, All-pop, All-push, All-same, All-weaker, filter-append}
use Rattle.std.proofs.lemmas.List.Sums.{sum_by-append, sum_by-cons, sum_by_push}
use Rattle.bd_model.specs.Records.{Stored}
use Rattle.bd_model.specs.Sizes.{Sizes}
use Rattle.bd_model.specs.declared.layout.CategoryRow.{CategoryRow}
use Rattle.bd_model.specs.declared.layout.RecipeEntry.{RecipeEntry}
use Rattle.bd_volume.specs.Growing.{AreCounted}
use Rattle.bd_arrange.specs.Cuts.{AreStretches, CountsRecords, IsCutOf, IsStretch, Joins, PutsStretch, Sorts, Sums, bytes_in, going, is_kept, longer, more_of}
use Rattle.bd_arrange.specs.declared.cut.Cut.{Cut}
use Rattle.bd_arrange.specs.declared.cut.Stretch.{Stretch}
use Rattle.bd_arrange.specs.declared.cut.Tally.{Tally}

-- ---- what goes one way is no more than all

pub some_of_all : (test : Stretch → Bool) (f : Stretch → ℕ) (xs : List Stretch) → sum_by f (filter test xs) ≤ sum_by f xs
some_of_all test f [] = omega arith
some_of_all test f (x ∷ xs) =
    let rest = some_of_all test f xs in
    let all : sum_by f (x ∷ xs) ≡ f x + sum_by f xs = sum_by-cons f x xs in
    elim (test x) as (λ b. sum_by f (cond b (x ∷ filter test xs) (filter test xs)) ≤ sum_by f (x ∷ xs)) [
      | true ↦ (let some : sum_by f (x ∷ filter test xs) ≡ f x + sum_by f (filter test xs) = sum_by-cons f x (filter test xs) in omega arith)
      | false ↦ omega arith
    ]

-- ---- sums

joins_sum : (f : Stretch → ℕ) → ((x y : Stretch) → f (longer x y) ≡ f x + f y) → (xs ys : List Stretch) (x : Stretch) → Joins xs x ys → sum_by f ys ≡ sum_by f xs + f x
joins_sum f adds xs ys x (inl l) =
    let before : sum_by f xs ≡ sum_by f l.front + f l.last = ap (sum_by f) l.so ∙ sum_by_push f l.front l.last in
    let behind : sum_by f ys ≡ sum_by f l.front + f (longer l.last x) = ap (sum_by f) l.now ∙ sum_by_push f l.front (longer l.last x) in
    omega (arith, before, behind, adds l.last x)
joins_sum f adds xs ys x (inr now) = ap (sum_by f) now ∙ sum_by_push f xs x

abbrev goes : Bool → Stretch → Bool
goes way x = if way then x.kept else not x.kept

-- of a last stretch what goes one way
last_part : (test : Stretch → Bool) (f : Stretch → ℕ) (xs : List Stretch) (x : Stretch) → sum_by f (filter test (xs ++ x ∷ [])) ≡ sum_by f (filter test xs) + cond (test x) (f x) 0
last_part test f xs x = ap (sum_by f) (filter-append test xs (x ∷ [])) ∙ sum_by-append f (filter test xs) (filter test (x ∷ [])) ∙ one (test x) where
  one : (b : Bool) → sum_by f (filter test xs) + sum_by f (cond b (x ∷ []) []) ≡ sum_by f (filter test xs) + cond b (f x) 0
  one true = omega (arith, sum_by-cons f x [])
  one false = refl

joins_part : (way : Bool) (f : Stretch → ℕ) → ((x y : Stretch) → f (longer x y) ≡ f x + f y) → (xs ys : List Stretch) (x : Stretch) → Joins xs x ys → sum_by f (going way ys) ≡ sum_by f (going way xs) + cond (goes way x) (f x) 0
joins_part way f adds xs ys x (inl l) =
    let same : goes way l.last ≡ goes way x = ap (λ k. if way then k else not k) l.same in
    let before : sum_by f (going way xs) ≡ sum_by f (going way l.front) + cond (goes way x) (f l.last) 0 =
    ap (λ z. sum_by f (going way z)) l.so ∙ last_part (goes way) f l.front l.last ∙ ap (λ b. sum_by f (going way l.front) + cond b (f l.last) 0) same in
    let behind : sum_by f (going way ys) ≡ sum_by f (going way l.front) + cond (goes way x) (f (longer l.last x)) 0 =
    ap (λ z. sum_by f (going way z)) l.now ∙ last_part (goes way) f l.front (longer l.last x) ∙ ap (λ b. sum_by f (going way l.front) + cond b (f (longer l.last x)) 0) same in
    omega (arith, before, behind, both (goes way x)) where
      both : (b : Bool) → cond b (f (longer l.last x)) 0 ≡ cond b (f l.last) 0 + cond b (f x) 0
      both true = adds l.last x
      both false = omega arith
joins_part way f adds xs ys x (inr now) = ap (λ z. sum_by f (going way z)) now ∙ last_part (goes way) f xs x

-- ---- what is counted

chunks_more : (b : Bool) (tally : Tally) (x : Stretch) → (if b then more_of tally x else tally).chunks ≡ tally.chunks + cond b x.chunks 0
chunks_more true tally x = refl
chunks_more false tally x = omega arith

bytes_more : (b : Bool) (tally : Tally) (x : Stretch) → (if b then more_of tally x else tally).bytes ≡ tally.bytes + cond b x.bytes 0
bytes_more true tally x = refl
bytes_more false tally x = omega arith

turned : {X : Type 0} (b : Bool) (x y : X) → (if b then x else y) ≡ (if not b then y else x)
turned true x y = refl
turned false x y = refl

sums_more : (way : Bool) (xs ys : List Stretch) (x : Stretch) (tally now : Tally) → Joins xs x ys → now ≡ (if goes way x then more_of tally x else tally) → Sums (going way xs) tally → Sums (going way ys) now
sums_more way xs ys x tally now joins is sums = record {
  chunks = ap (λ (t : Tally). t.chunks) is ∙ chunks_more (goes way x) tally x ∙ ap (λ n. n + cond (goes way x) x.chunks 0) sums.chunks ∙ sym (joins_part way (λ (y : Stretch). y.chunks) (λ u v. refl) xs ys x joins);
  bytes = ap (λ (t : Tally). t.bytes) is ∙ bytes_more (goes way x) tally x ∙ ap (λ n. n + cond (goes way x) x.bytes 0) sums.bytes ∙ sym (joins_part way (λ (y : Stretch). y.bytes) (λ u v. refl) xs ys x joins);
}

counted_both : (s : Sizes) (a b c d : ℕ) → AreCounted s a b → AreCounted s c d → AreCounted s (a + c) (b + d)
counted_both s a b c d one other = record {
  some = omega (arith, one.some);
  low = omega (arith, one.low, other.low);
  high = omega (arith, one.high, other.high);
}

joins_counted : (s : Sizes) (xs ys : List Stretch) (x : Stretch) → Joins xs x ys → AreCounted s x.chunks x.bytes → All (λ y. AreCounted s y.chunks y.bytes) xs → All (λ y. AreCounted s y.chunks y.bytes) ys
joins_counted s xs ys x (inl l) counted each =
    let P : Stretch → Type 0 = λ y. AreCounted s y.chunks y.bytes in
    let parts = All-pop P xs l.front (Some l.last) l.so each in
    All-same P ys (l.front ++ longer l.last x ∷ []) l.now (All-push P l.front (longer l.last x) parts.0 (counted_both s l.last.chunks l.last.bytes x.chunks x.bytes parts.1 counted))
joins_counted s xs ys x (inr now) counted each =
    let P : Stretch → Type 0 = λ y. AreCounted s y.chunks y.bytes in
    All-same P ys (xs ++ x ∷ []) now (All-push P xs x each counted)

-- ---- a cut

-- a row of which this was read
abbrev pub row_read : ℕ → ℕ → CategoryRow
row_read chunks bytes = record { start = 0; chunks = chunks; bytes = bytes }

module _ (cut : Cut) (items : cut.stretches.items ≡ []) (kept : cut.kept ≡ record { chunks = 0; bytes = 0 }) (archived : cut.archived ≡ record { chunks = 0; bytes = 0 }) where
  sums_none : (way : Bool) (tally : Tally) → tally ≡ record { chunks = 0; bytes = 0 } → Sums (going way cut.stretches.items) tally
  sums_none way tally none = record {
    chunks = ap (λ (t : Tally). t.chunks) none ∙ sym (ap (λ z. sum_by (λ (y : Stretch). y.chunks) (going way z)) items);
    bytes = ap (λ (t : Tally). t.bytes) none ∙ sym (ap (λ z. sum_by (λ (y : Stretch). y.bytes) (going way z)) items);
  }

  pub cut_none : (s : Sizes) → IsCutOf s (row_read 0 0) cut
  cut_none s = record {
    each = All-same (λ y. AreCounted s y.chunks y.bytes) cut.stretches.items [] items (All-nil (λ y. AreCounted s y.chunks y.bytes));
    chunks = ap (sum_by (λ (y : Stretch). y.chunks)) items;
    bytes = ap (sum_by (λ (y : Stretch). y.bytes)) items;
    kept = sums_none true cut.kept kept;
    archived = sums_none false cut.archived archived;
  }

  pub sorts_none : (entries : List RecipeEntry) → Sorts entries [] cut
  sorts_none entries = record {
    stretches = subst (λ z. AreStretches entries z []) (sym items) refl;
    kept = record { chunks = ap (λ (t : Tally). t.chunks) kept; bytes = ap (λ (t : Tally). t.bytes) kept };
    archived = record { chunks = ap (λ (t : Tally). t.chunks) archived; bytes = ap (λ (t : Tally). t.bytes) archived };
  }

pub cut_more : (s : Sizes) (chunks bytes : ℕ) (old new : Cut) (x : Stretch) → x.chunks ≡ 1 → AreCounted s x.chunks x.bytes → PutsStretch old x new → IsCutOf s (row_read chunks bytes) old → IsCutOf s (row_read (chunks + 1) (bytes + x.bytes)) new
cut_more s chunks bytes old new x one counted puts cut =
    let xs = old.stretches.items in
    let ys = new.stretches.items in
    record {
      each = joins_counted s xs ys x puts.stretches counted cut.each;
      chunks = joins_sum (λ (y : Stretch). y.chunks) (λ u v. refl) xs ys x puts.stretches ∙ (λ i. cut.chunks i + one i);
      bytes = joins_sum (λ (y : Stretch). y.bytes) (λ u v. refl) xs ys x puts.stretches ∙ ap (λ n. n + x.bytes) cut.bytes;
      kept = sums_more true xs ys x old.kept new.kept puts.stretches puts.kept cut.kept;
      archived = sums_more false xs ys x old.archived new.archived puts.stretches (puts.archived ∙ turned x.kept old.archived (more_of old.archived x)) cut.archived;
    }

-- ---- the records that it tells apart

module _ (entries : List RecipeEntry) where
  -- the stretches behind the first ones become others, where more records follow
  onto : (front tail now : List Stretch) (more : List Stored) → ((records : List Stored) → AreStretches entries tail records → AreStretches entries now (records ++ more)) →
      (records : List Stored) → AreStretches entries (front ++ tail) records → AreStretches entries (front ++ now) (records ++ more)
  onto [] tail now more step records are = step records are
  onto (y ∷ front) tail now more step records are =
      let n = y.chunks in
      let fits : n ≤ length records = omega (arith, are.0.count, length-take n records) in (
        subst (IsStretch entries y) (sym (take-append-le n records more fits)) are.0,
        subst (AreStretches entries (front ++ now)) (sym (drop-append-le n records more fits)) (onto front tail now more step (drop n records) are.1),
      )

  -- a stretch of all of these records
  alone : (x : Stretch) (records : List Stored) → IsStretch entries x records → AreStretches entries (x ∷ []) records
  alone x records is = (subst (IsStretch entries x) (sym (take_all x.chunks records (omega (arith, is.count)))) is, drop_all x.chunks records (omega (arith, is.count)))

  all_of : (x : Stretch) (records : List Stored) → AreStretches entries (x ∷ []) records → IsStretch entries x records
  all_of x records are = subst (IsStretch entries x) (sym (append-nil (take x.chunks records)) ∙ ap (λ l. take x.chunks records ++ l) (sym are.1) ∙ take-append-drop x.chunks records) are.0

  longer_is : (x y : Stretch) (records more : List Stored) → x.kept ≡ y.kept → IsStretch entries x records → IsStretch entries y more → IsStretch entries (longer x y) (records ++ more)
  longer_is x y records more same one other = record {
    some = omega (arith, one.some);
    count = length-append records more ∙ (λ i. one.count i + other.count i);
    bytes = sum_by-append (λ (r : Stored). 36 + r.length) records more ∙ (λ i. one.bytes i + other.bytes i);
    alike = All-append (λ r. is_kept entries r ≡ x.kept) records more one.alike (All-weaker (λ r. is_kept entries r ≡ y.kept) (λ r. is_kept entries r ≡ x.kept) (λ r is. is ∙ sym same) more other.alike);
  }

  stretches_more : (xs ys : List Stretch) (x : Stretch) (records more : List Stored) → Joins xs x ys → IsStretch entries x more → AreStretches entries xs records → AreStretches entries ys (records ++ more)
  stretches_more xs ys x records more (inl l) is are =
      subst (λ z. AreStretches entries z (records ++ more)) (sym l.now)
      (onto l.front (l.last ∷ []) (longer l.last x ∷ []) more (λ some last. alone (longer l.last x) (some ++ more) (longer_is l.last x some more l.same (all_of l.last some last) is)) records
      (subst (λ z. AreStretches entries z records) l.so are))
  stretches_more xs ys x records more (inr now) is are =
      subst (λ z. AreStretches entries z (records ++ more)) (sym now)
      (onto xs [] (x ∷ []) more (λ some none. alone x (some ++ more) (subst (λ z. IsStretch entries x (z ++ more)) (sym none) is)) records
      (subst (λ z. AreStretches entries z records) (sym (append-nil xs)) are))

  module _ (x : Stretch) (records : List Stored) (r : Stored) (one : x.chunks ≡ 1) (size : x.bytes ≡ 36 + r.length) where
    counts_more : (test : Stored → Bool) (b : Bool) (tally now : Tally) → test r ≡ b → now ≡ (if b then more_of tally x else tally) → CountsRecords (filter test records) tally → CountsRecords (filter test (records ++ r ∷ [])) now
    counts_more test b tally now way is counts = by b is (filter-append test records (r ∷ []) ∙ ap (λ t. filter test records ++ cond t (r ∷ []) []) way) where
      by : (t : Bool) → now ≡ (if t then more_of tally x else tally) → filter test (records ++ r ∷ []) ≡ filter test records ++ cond t (r ∷ []) [] → CountsRecords (filter test (records ++ r ∷ [])) now
      by true is list = record {
        chunks =
            let count : length (filter test (records ++ r ∷ [])) ≡ length (filter test records) + 1 = ap length list ∙ length-append (filter test records) (r ∷ []) in
            ap (λ (t : Tally). t.chunks) is ∙ (λ i. counts.chunks i + one i) ∙ sym count;
        bytes = ap (λ (t : Tally). t.bytes) is ∙ (λ i. counts.bytes i + size i) ∙ sym (ap bytes_in list ∙ sum_by_push (λ (y : Stored). 36 + y.length) (filter test records) r);
      }
      by false is list = subst (λ l. CountsRecords l now) (sym (list ∙ append-nil (filter test records))) (subst (CountsRecords (filter test records)) (sym is) counts)

    pub sorts_more : (old new : Cut) → is_kept entries r ≡ x.kept → PutsStretch old x new → Sorts entries records old → Sorts entries (records ++ r ∷ []) new
    sorts_more old new way puts sorts =
        let alone_bytes : bytes_in (r ∷ []) ≡ x.bytes = omega (arith, sum_by-cons (λ (y : Stored). 36 + y.length) r [], size) in
        let stretch : IsStretch entries x (r ∷ []) = record {
          some = omega (arith, one);
          count = sym one;
          bytes = alone_bytes;
          alike = All-cons (λ y. is_kept entries y ≡ x.kept) r [] way (All-nil (λ y. is_kept entries y ≡ x.kept));
        } in
        record {
          stretches = stretches_more old.stretches.items new.stretches.items x records (r ∷ []) puts.stretches stretch sorts.stretches;
          kept = counts_more (is_kept entries) x.kept old.kept new.kept way puts.kept sorts.kept;
          archived = counts_more (λ y. not (is_kept entries y)) (not x.kept) old.archived new.archived (ap not way) (puts.archived ∙ turned x.kept old.archived (more_of old.archived x)) sorts.archived;
        }
