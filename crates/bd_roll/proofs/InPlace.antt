-- What stands in the place of open categories that are split.
use Rattle.std.proofs.Common.{◌≡◌, ◌≢◌, ◌⊎◌, inl, inr, ⊎_elim, ℕ, zero, suc, ◌<◌, ◌≤◌, true, false, cond, List, [], ◌∷◌, ◌++◌, length, map, filter, flat_map, set, get_or, refl, sym, ◌∙◌, ap, arith, subst, nat_eq, eq-eqb}
use Rattle.std.specs.Prelude.{All, Contains, remove}
use Rattle.std.specs.List.{IsDistinct}
use Rattle.std.proofs.lemmas.Bool.{ne_eqb}
use Rattle.std.proofs.lemmas.Bool.Decides.{eqb_tells}
use Rattle.std.proofs.lemmas.List.{append-nil, map-append}
use Rattle.std.proofs.lemmas.List.Concat.{flat_map-append}
use Rattle.std.proofs.lemmas.List.Elements.{All-contains, All-contains_itself, All-weaker, Contains-append_cases, Contains-append_left, Contains-append_right, Contains-push, filter-append}
use Rattle.bd_space.proofs.Distinct.{distinct_apart, distinct_cons, distinct_head, distinct_left, distinct_tail}
use Rattle.bd_roll.specs.Catalogue.{OpenEntry}
use Rattle.bd_roll.specs.declared.rows.ActiveCategory.{ActiveCategory}
use Rattle.bd_roll.specs.Shown.{open_entry}
use Rattle.bd_roll.specs.Splitting.{KeptEntry, AreSplits, extents_at, in_place, put_in_place, replaced}
use Rattle.bd_roll.proofs.GivenUp.{flat_map-last}

abbrev pub starts : List OpenEntry → List ℕ
starts cs = map (λ a. a.row.start) cs

abbrev pub Named : ℕ → List OpenEntry → Type 0
Named i kept = All (λ a. a.row.start ≡ i) kept

pub same_or_not : (a b : ℕ) → (a ≡ b) ⊎ (a ≢ b)
same_or_not a b = elim (eqb_tells a b) [ inl same ↦ inl same.1 | inr differ ↦ inr differ.1 ]

pub later : (n : ℕ) (ns : List ℕ) (i : ℕ) → Contains ns i → Contains (n ∷ ns) i
later n ns i has = (suc has.0, omega (arith, has.1), has.2)

pub first : (n : ℕ) (ns : List ℕ) (i : ℕ) → n ≡ i → Contains (n ∷ ns) i
first n ns i same = (0, omega arith, same)

pub among : (n : ℕ) (ns : List ℕ) (i : ℕ) → Contains (n ∷ ns) i → (n ≡ i) ⊎ Contains ns i
among n ns i (zero, lt, at) = inl at
among n ns i (suc k, lt, at) = inr (k, omega (arith, lt), at)

-- ---- a category that isn't there

pub put_none : (i : ℕ) (kept cs : List OpenEntry) → (Contains (starts cs) i → ⊥) → put_in_place i kept cs ≡ cs
put_none i kept [] none = refl
put_none i kept (a ∷ cs) none =
    let other : nat_eq a.row.start i ≡ false = ne_eqb a.row.start i (λ e. none (first a.row.start (starts cs) i e)) in
    ap (λ t. cond t kept (a ∷ []) ++ put_in_place i kept cs) other ∙ ap (λ rest. a ∷ rest) (put_none i kept cs (λ has. none (later a.row.start (starts cs) i has)))

at_cons : (i : ℕ) (a : OpenEntry) (cs : List OpenEntry) → extents_at i (a ∷ cs) ≡ cond (nat_eq a.row.start i) a.extents [] ++ extents_at i cs
at_cons i a cs = elim (nat_eq a.row.start i) as (λ t. flat_map (λ (x : OpenEntry). x.extents) (cond t (a ∷ filter (λ (x : OpenEntry). nat_eq x.row.start i) cs) (filter (λ (x : OpenEntry). nat_eq x.row.start i) cs)) ≡ cond t a.extents [] ++ extents_at i cs) [ true ↦ refl | false ↦ refl ]

pub at_none : (i : ℕ) (cs : List OpenEntry) → (Contains (starts cs) i → ⊥) → extents_at i cs ≡ []
at_none i [] none = refl
at_none i (a ∷ cs) none =
    at_cons i a cs
    ∙ ap (λ t. cond t a.extents [] ++ extents_at i cs) (ne_eqb a.row.start i (λ e. none (first a.row.start (starts cs) i e)))
    ∙ at_none i cs (λ has. none (later a.row.start (starts cs) i has))

-- ---- the first category, and the later ones

module _ (i : ℕ) (a : OpenEntry) (cs : List OpenEntry) where
  alone : IsDistinct nat_eq (starts (a ∷ cs)) → a.row.start ≡ i → Contains (starts cs) i → ⊥
  alone differ same has = distinct_head a.row.start (starts cs) differ (subst (Contains (starts cs)) (sym same) has)

  pub put_head : (kept : List OpenEntry) → IsDistinct nat_eq (starts (a ∷ cs)) → a.row.start ≡ i → put_in_place i kept (a ∷ cs) ≡ kept ++ cs
  put_head kept differ same =
      ap (λ t. cond t kept (a ∷ []) ++ put_in_place i kept cs) (eq-eqb a.row.start i same) ∙ ap (λ rest. kept ++ rest) (put_none i kept cs (alone differ same))

  pub put_later : (kept : List OpenEntry) → a.row.start ≢ i → put_in_place i kept (a ∷ cs) ≡ a ∷ put_in_place i kept cs
  put_later kept other = ap (λ t. cond t kept (a ∷ []) ++ put_in_place i kept cs) (ne_eqb a.row.start i other)

  pub at_head : IsDistinct nat_eq (starts (a ∷ cs)) → a.row.start ≡ i → extents_at i (a ∷ cs) ≡ a.extents
  at_head differ same =
      at_cons i a cs ∙ ap (λ t. cond t a.extents [] ++ extents_at i cs) (eq-eqb a.row.start i same) ∙ ap (λ rest. a.extents ++ rest) (at_none i cs (alone differ same)) ∙ append-nil a.extents

  pub at_later : a.row.start ≢ i → extents_at i (a ∷ cs) ≡ extents_at i cs
  at_later other = at_cons i a cs ∙ ap (λ t. cond t a.extents [] ++ extents_at i cs) (ne_eqb a.row.start i other)

-- ---- the category at an index

abbrev StartsAt : List ActiveCategory → ℕ → ℕ → Type 0
StartsAt xs k i = (d : ActiveCategory) → (get_or xs k d).row.start ≡ i

has_start : (xs : List ActiveCategory) (k i : ℕ) → k < length xs → StartsAt xs k i → Contains (starts (map open_entry xs)) i
has_start [] k i lt at = absurd (omega (arith, lt))
has_start (x ∷ xs) zero i lt at = first x.row.start (starts (map open_entry xs)) i (at x)
has_start (x ∷ xs) (suc k) i lt at = later x.row.start (starts (map open_entry xs)) i (has_start xs k i (omega (arith, lt)) at)

other_start : (x : ActiveCategory) (xs : List ActiveCategory) (k i : ℕ) → IsDistinct nat_eq (starts (map open_entry (x ∷ xs))) → k < length xs → StartsAt xs k i → x.row.start ≢ i
other_start x xs k i differ lt at e = distinct_head x.row.start (starts (map open_entry xs)) differ (subst (Contains (starts (map open_entry xs))) (sym e) (has_start xs k i lt at))

pub put_set : (xs : List ActiveCategory) (k i : ℕ) (v : ActiveCategory) → IsDistinct nat_eq (starts (map open_entry xs)) → k < length xs → StartsAt xs k i →
    map open_entry (set xs k v) ≡ put_in_place i (open_entry v ∷ []) (map open_entry xs)
put_set [] k i v differ lt at = absurd (omega (arith, lt))
put_set (x ∷ xs) zero i v differ lt at = sym (put_head i (open_entry x) (map open_entry xs) (open_entry v ∷ []) differ (at x))
put_set (x ∷ xs) (suc k) i v differ lt at =
    ap (λ rest. open_entry x ∷ rest) (put_set xs k i v (distinct_tail x.row.start (starts (map open_entry xs)) differ) (omega (arith, lt)) at)
    ∙ sym (put_later i (open_entry x) (map open_entry xs) (open_entry v ∷ []) (other_start x xs k i differ (omega (arith, lt)) at))

pub put_remove : (xs : List ActiveCategory) (k i : ℕ) → IsDistinct nat_eq (starts (map open_entry xs)) → k < length xs → StartsAt xs k i →
    map open_entry (remove xs k) ≡ put_in_place i [] (map open_entry xs)
put_remove [] k i differ lt at = absurd (omega (arith, lt))
put_remove (x ∷ xs) zero i differ lt at = sym (put_head i (open_entry x) (map open_entry xs) [] differ (at x))
put_remove (x ∷ xs) (suc k) i differ lt at =
    ap (λ rest. open_entry x ∷ rest) (put_remove xs k i (distinct_tail x.row.start (starts (map open_entry xs)) differ) (omega (arith, lt)) at)
    ∙ sym (put_later i (open_entry x) (map open_entry xs) [] (other_start x xs k i differ (omega (arith, lt)) at))

pub at_index : (xs : List ActiveCategory) (k i : ℕ) (d : ActiveCategory) → IsDistinct nat_eq (starts (map open_entry xs)) → k < length xs → StartsAt xs k i →
    extents_at i (map open_entry xs) ≡ (get_or xs k d).extents.numbers
at_index [] k i d differ lt at = absurd (omega (arith, lt))
at_index (x ∷ xs) zero i d differ lt at = at_head i (open_entry x) (map open_entry xs) differ (at x)
at_index (x ∷ xs) (suc k) i d differ lt at =
    at_later i (open_entry x) (map open_entry xs) (other_start x xs k i differ (omega (arith, lt)) at)
    ∙ at_index xs k i d (distinct_tail x.row.start (starts (map open_entry xs)) differ) (omega (arith, lt)) at

pub none_among : (xs : List ActiveCategory) (i : ℕ) → All (λ x. x.row.start ≢ i) xs → Contains (starts (map open_entry xs)) i → ⊥
none_among [] i none has = omega (arith, has.1)
none_among (x ∷ xs) i none (zero, lt, at) = none 0 x (omega arith) at
none_among (x ∷ xs) i none (suc k, lt, at) = none_among xs i (λ j d below. none (suc j) d (omega (arith, below))) (k, omega (arith, lt), at)

-- ---- categories of other starts

-- what stands there afterwards stood there before
pub put_contains : (i j : ℕ) (kept cs : List OpenEntry) → Named i kept → Contains (starts (put_in_place i kept cs)) j → Contains (starts cs) j
put_contains i j kept [] named has = has
put_contains i j kept (a ∷ cs) named has =
    ⊎_elim
    (λ same.
    let parts : starts (put_in_place i kept (a ∷ cs)) ≡ starts kept ++ starts (put_in_place i kept cs) =
    ap (λ t. starts (cond t kept (a ∷ []) ++ put_in_place i kept cs)) (eq-eqb a.row.start i same) ∙ map-append (λ (x : OpenEntry). x.row.start) kept (put_in_place i kept cs) in
    ⊎_elim
    (λ here. first a.row.start (starts cs) j (same ∙ sym (kept_start kept named here)))
    (λ rest. later a.row.start (starts cs) j (put_contains i j kept cs named rest))
    (Contains-append_cases (starts kept) (starts (put_in_place i kept cs)) j (subst (λ ns. Contains ns j) parts has)))
    (λ other.
    ⊎_elim
    (λ here. first a.row.start (starts cs) j here)
    (λ rest. later a.row.start (starts cs) j (put_contains i j kept cs named rest))
    (among a.row.start (starts (put_in_place i kept cs)) j (subst (λ xs. Contains (starts xs) j) (put_later i a cs kept other) has)))
    (same_or_not a.row.start i)
  where
    kept_start : (xs : List OpenEntry) → All (λ x. x.row.start ≡ i) xs → Contains (starts xs) j → j ≡ i
    kept_start [] all here = absurd (omega (arith, here.1))
    kept_start (x ∷ xs) all (zero, lt, at) = sym at ∙ all 0 x (omega arith)
    kept_start (x ∷ xs) all (suc k, lt, at) = kept_start xs (λ n d below. all (suc n) d (omega (arith, below))) (k, omega (arith, lt), at)

-- and what has another start stands there still
pub put_keeps : (i j : ℕ) (kept cs : List OpenEntry) → i ≢ j → Contains (starts cs) j → Contains (starts (put_in_place i kept cs)) j
put_keeps i j kept [] differ has = has
put_keeps i j kept (a ∷ cs) differ has =
    ⊎_elim
    (λ same.
    subst (λ t. Contains (starts (cond t kept (a ∷ []) ++ put_in_place i kept cs)) j) (sym (eq-eqb a.row.start i same))
    (subst (λ ns. Contains ns j) (sym (map-append (λ (x : OpenEntry). x.row.start) kept (put_in_place i kept cs)))
    (Contains-append_right (starts kept) (starts (put_in_place i kept cs)) j
    (put_keeps i j kept cs differ (⊎_elim (λ here. absurd (differ (sym same ∙ here))) (λ rest. rest) (among a.row.start (starts cs) j has))))))
    (λ other. subst (λ xs. Contains (starts xs) j) (sym (put_later i a cs kept other))
    (⊎_elim
    (λ here. first a.row.start (starts (put_in_place i kept cs)) j here)
    (λ rest. later a.row.start (starts (put_in_place i kept cs)) j (put_keeps i j kept cs differ rest))
    (among a.row.start (starts cs) j has)))
    (same_or_not a.row.start i)

-- the starts differ as before
pub put_differ : (i : ℕ) (kept cs : List OpenEntry) → Named i kept → length kept ≤ 1 → IsDistinct nat_eq (starts cs) → IsDistinct nat_eq (starts (put_in_place i kept cs))
put_differ i kept [] named one differ = differ
put_differ i kept (a ∷ cs) named one differ =
    ⊎_elim
    (λ same. subst (λ xs. IsDistinct nat_eq (starts xs)) (sym (put_head i a cs kept differ same)) (with_kept kept named one same))
    (λ other.
    subst (λ xs. IsDistinct nat_eq (starts xs)) (sym (put_later i a cs kept other))
    (distinct_cons a.row.start (starts (put_in_place i kept cs)) (λ has. distinct_head a.row.start (starts cs) differ (put_contains i a.row.start kept cs named has))
    (put_differ i kept cs named one (distinct_tail a.row.start (starts cs) differ))))
    (same_or_not a.row.start i)
  where
    with_kept : (ks : List OpenEntry) → Named i ks → length ks ≤ 1 → a.row.start ≡ i → IsDistinct nat_eq (starts (ks ++ cs))
    with_kept [] all few same = distinct_tail a.row.start (starts cs) differ
    with_kept (k ∷ []) all few same = subst (λ n. IsDistinct nat_eq (n ∷ starts cs)) (same ∙ sym (all 0 k (omega arith))) differ
    with_kept (k ∷ l ∷ ks) all few same = absurd (omega (arith, few))

-- the extents of a category with another start are the same
pub at_other : (i j : ℕ) (kept cs : List OpenEntry) → i ≢ j → Named i kept → extents_at j (put_in_place i kept cs) ≡ extents_at j cs
at_other i j kept [] differ named = refl
at_other i j kept (a ∷ cs) differ named =
    ⊎_elim
    (λ same.
    ap (λ t. extents_at j (cond t kept (a ∷ []) ++ put_in_place i kept cs)) (eq-eqb a.row.start i same)
    ∙ at_append kept (put_in_place i kept cs) ∙ (λ k. at_none j kept (no_start kept named) k ++ at_other i j kept cs differ named k)
    ∙ sym (at_later j a cs (λ e. differ (sym same ∙ e))))
    (λ other.
    ap (extents_at j) (put_later i a cs kept other) ∙ at_cons j a (put_in_place i kept cs)
    ∙ ap (λ rest. cond (nat_eq a.row.start j) a.extents [] ++ rest) (at_other i j kept cs differ named) ∙ sym (at_cons j a cs))
    (same_or_not a.row.start i)
  where
    at_append : (xs ys : List OpenEntry) → extents_at j (xs ++ ys) ≡ extents_at j xs ++ extents_at j ys
    at_append xs ys =
        ap (flat_map (λ (x : OpenEntry). x.extents)) (filter-append (λ (x : OpenEntry). nat_eq x.row.start j) xs ys)
        ∙ flat_map-append (λ (x : OpenEntry). x.extents) (filter (λ (x : OpenEntry). nat_eq x.row.start j) xs) (filter (λ (x : OpenEntry). nat_eq x.row.start j) ys)

    no_start : (xs : List OpenEntry) → Named i xs → Contains (starts xs) j → ⊥
    no_start [] all has = omega (arith, has.1)
    no_start (x ∷ xs) all (zero, lt, at) = differ (sym (all 0 x (omega arith)) ∙ at)
    no_start (x ∷ xs) all (suc k, lt, at) = no_start xs (λ n d below. all (suc n) d (omega (arith, below))) (k, omega (arith, lt), at)

-- ---- one split after the other

pub in_place-last : (es : List KeptEntry) (e : KeptEntry) (cs : List OpenEntry) → in_place (es ++ e ∷ []) cs ≡ in_place es (put_in_place e.start e.kept cs)
in_place-last [] e cs = refl
in_place-last (x ∷ es) e cs = ap (put_in_place x.start x.kept) (in_place-last es e cs)

replaced-last : (es : List KeptEntry) (e : KeptEntry) (cs : List OpenEntry) → replaced (es ++ e ∷ []) cs ≡ replaced es cs ++ extents_at e.start cs
replaced-last es e cs = flat_map-last (λ (x : KeptEntry). extents_at x.start cs) es e

-- what splits of other categories give up is the same
replaced_other : (es : List KeptEntry) (e : KeptEntry) (cs : List OpenEntry) → Named e.start e.kept → (Contains (map (λ x. x.start) es) e.start → ⊥) → replaced es (put_in_place e.start e.kept cs) ≡ replaced es cs
replaced_other [] e cs named apart = refl
replaced_other (x ∷ es) e cs named apart =
    let rest : Contains (map (λ (y : KeptEntry). y.start) es) e.start → ⊥ = λ has. apart (later x.start (map (λ (y : KeptEntry). y.start) es) e.start has) in
    λ k. at_other e.start x.start e.kept cs (λ same. apart (first x.start (map (λ (y : KeptEntry). y.start) es) e.start (sym same))) named k ++ replaced_other es e cs named rest k

-- the last of several splits is made: what it leaves for the others, and what it gives up before them
pub record LastSplit (es : List KeptEntry) (e : KeptEntry) (cs : List OpenEntry) : Type 0 where
  pub splits : AreSplits es (put_in_place e.start e.kept cs)
  pub placed : in_place (es ++ e ∷ []) cs ≡ in_place es (put_in_place e.start e.kept cs)
  pub gives : replaced (es ++ e ∷ []) cs ≡ replaced es (put_in_place e.start e.kept cs) ++ extents_at e.start cs

pub last_split : (es : List KeptEntry) (e : KeptEntry) (cs : List OpenEntry) → AreSplits (es ++ e ∷ []) cs → LastSplit es e cs
last_split es e cs splits =
    let at : KeptEntry → ℕ = λ x. x.start in
    let apart : IsDistinct nat_eq (map at es ++ e.start ∷ []) = subst (IsDistinct nat_eq) (map-append at es (e ∷ [])) splits.apart in
    let named : Named e.start e.kept = All-last (λ x. Named x.start x.kept) splits.named in
    let other : Contains (map at es) e.start → ⊥ = λ has. distinct_apart (map at es) (e.start ∷ []) e.start apart has (first e.start [] e.start refl) in
    record {
      splits = record {
        apart = distinct_left (map at es) (e.start ∷ []) apart;
        named = All-front (λ x. Named x.start x.kept) splits.named;
        one = All-front (λ x. length x.kept ≤ 1) splits.one;
        differ = put_differ e.start e.kept cs named (All-last (λ x. length x.kept ≤ 1) splits.one) splits.differ;
      };
      placed = in_place-last es e cs;
      gives = replaced-last es e cs ∙ ap (λ ns. ns ++ extents_at e.start cs) (sym (replaced_other es e cs named other));
    }
  where
    All-last : (P : KeptEntry → Type 0) → All P (es ++ e ∷ []) → P e
    All-last P all = All-contains P (es ++ e ∷ []) e all (Contains-push es e)

    All-front : (P : KeptEntry → Type 0) → All P (es ++ e ∷ []) → All P es
    All-front P all = All-weaker (Contains es) P (λ x has. All-contains P (es ++ e ∷ []) x all (Contains-append_left es (e ∷ []) x has)) es (All-contains_itself es)

-- ---- what all splits leave

in_place_keeps : (es : List KeptEntry) (cs : List OpenEntry) (j : ℕ) → (Contains (map (λ e. e.start) es) j → ⊥) → Contains (starts cs) j → Contains (starts (in_place es cs)) j
in_place_keeps [] cs j other has = has
in_place_keeps (e ∷ es) cs j other has =
    put_keeps e.start j e.kept (in_place es cs) (λ same. other (first e.start (map (λ (x : KeptEntry). x.start) es) j same))
    (in_place_keeps es cs j (λ among_others. other (later e.start (map (λ (x : KeptEntry). x.start) es) j among_others)) has)

in_place_other : (es : List KeptEntry) (cs : List OpenEntry) (j : ℕ) → (Contains (map (λ e. e.start) es) j → ⊥) → All (λ e. Named e.start e.kept) es → extents_at j (in_place es cs) ≡ extents_at j cs
in_place_other [] cs j other named = refl
in_place_other (e ∷ es) cs j other named =
    at_other e.start j e.kept (in_place es cs) (λ same. other (first e.start (map (λ (x : KeptEntry). x.start) es) j same)) (named 0 e (omega arith))
    ∙ in_place_other es cs j (λ among_others. other (later e.start (map (λ (x : KeptEntry). x.start) es) j among_others)) (λ k d below. named (suc k) d (omega (arith, below)))

in_place_differ : (es : List KeptEntry) (cs : List OpenEntry) → All (λ e. Named e.start e.kept) es → All (λ e. length e.kept ≤ 1) es → IsDistinct nat_eq (starts cs) → IsDistinct nat_eq (starts (in_place es cs))
in_place_differ [] cs named one differ = differ
in_place_differ (e ∷ es) cs named one differ =
    put_differ e.start e.kept (in_place es cs) (named 0 e (omega arith)) (one 0 e (omega arith))
    (in_place_differ es cs (λ k d below. named (suc k) d (omega (arith, below))) (λ k d below. one (suc k) d (omega (arith, below))) differ)

-- one split after others of which none is of its category
pub record NextSplit (e : KeptEntry) (es : List KeptEntry) (cs : List OpenEntry) : Type 0 where
  pub there : Contains (starts (in_place es cs)) e.start
  pub differ : IsDistinct nat_eq (starts (in_place es cs))
  pub same : extents_at e.start (in_place es cs) ≡ extents_at e.start cs
  pub others : AreSplits es cs

pub next_split : (e : KeptEntry) (es : List KeptEntry) (cs : List OpenEntry) → AreSplits (e ∷ es) cs → Contains (starts cs) e.start → NextSplit e es cs
next_split e es cs splits has =
    let at : KeptEntry → ℕ = λ x. x.start in
    let other : Contains (map at es) e.start → ⊥ = distinct_head e.start (map at es) splits.apart in
    let named : All (λ (x : KeptEntry). Named x.start x.kept) es = λ k d below. splits.named (suc k) d (omega (arith, below)) in
    let one : All (λ (x : KeptEntry). length x.kept ≤ 1) es = λ k d below. splits.one (suc k) d (omega (arith, below)) in
    record {
      there = in_place_keeps es cs e.start other has;
      differ = in_place_differ es cs named one splits.differ;
      same = in_place_other es cs e.start other named;
      others = record { apart = distinct_tail e.start (map at es) splits.apart; named = named; one = one; differ = splits.differ };
    }
