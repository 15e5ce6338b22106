-- What is counted over all entries has room in 64 bits.
use Rattle.std.proofs.Common.{◌≡◌, ℕ, zero, suc, ◌+◌, ◌-◌, ◌*◌, ◌/◌, ◌^◌, ◌<◌, ◌≤◌, Bool, true, false, cond, not, ◌&&◌, List, [], ◌∷◌, refl, sym, ◌∙◌, ap, subst, arith, filter, length, length-take, take, get_or, sum_by, nat_eq, ⊎_elim}
use Rattle.std.specs.Str.{bytes_eq}
use Rattle.std.specs.List.{AllByRecursion}
use Rattle.std.proofs.Math.Nat.{mul-le-mul_right}
use Rattle.std.proofs.lemmas.Bool.{cases_lt, eqb-true}
use Rattle.std.proofs.lemmas.List.Elements.{All-from_recursion, recursion_from_All}
use Rattle.std.proofs.lemmas.List.Sums.{sum_by-cons, sum_by-le-sum_by, sum_by_more_le}
use Rattle.bd_model.specs.Recipe.{first_entries, entry_records, has_mark, starts_of}
use Rattle.bd_model.specs.Room.{up, kept_entries, archived_entries, entries_from}
use Rattle.bd_model.specs.declared.layout.RecipeEntry.{RecipeEntry}
use Rattle.bd_model.proofs.ListLemmas.{filter-filter, sum_by-agree, sum_by-filter}
use Rattle.bd_model.proofs.ChunkListLemmas.{sum_by-cond}
use Rattle.bd_intake.specs.declared.tally.Share.{Share}
use Rattle.bd_intake.specs.declared.tally.Tally.{Tally}
use Rattle.bd_intake.specs.Given.{FitsSums}
use Rattle.bd_intake.specs.Tallies.{CountsNeighbour, moved_of, share_at, share_of}

-- ---- parts of a list have no more bytes

cond-le : (b : Bool) (n : ℕ) → cond b n 0 ≤ n
cond-le true n = omega arith
cond-le false n = omega arith

sum_by-part : {X : Type 0} (f : X → ℕ) (p : X → Bool) (xs : List X) → sum_by f (filter p xs) ≤ sum_by f xs
sum_by-part f p [] = omega arith
sum_by-part f p (x ∷ xs) = omega (arith, sum_by-cond f (p x) x (filter p xs), cond-le (p x) (f x), sum_by-cons f x xs, sum_by-part f p xs)

-- a list in two parts
sum_by-parts : {X : Type 0} (f : X → ℕ) (p : X → Bool) (xs : List X) → sum_by f (filter p xs) + sum_by f (filter (λ x. not (p x)) xs) ≡ sum_by f xs
sum_by-parts f p [] = refl
sum_by-parts f p (x ∷ xs) = omega (
  arith,
  sum_by-cond f (p x) x (filter p xs),
  sum_by-cond f (not (p x)) x (filter (λ y. not (p y)) xs),
  sum_by-cons f x xs,
  sum_by-parts f p xs,
  either (p x) (f x),
)
  where
    either : (b : Bool) (n : ℕ) → cond b n 0 + cond (not b) n 0 ≡ n
    either true n = omega arith
    either false n = omega arith

firsts-part : (es : List RecipeEntry) → entry_records (first_entries es) ≤ entry_records es
firsts-part [] = omega arith
firsts-part (e ∷ es) = omega (
  arith,
  sum_by-cons (λ x. 36 + x.length) e (filter (λ f. not (bytes_eq e.mark.0 f.mark.0)) (first_entries es)),
  sum_by-cons (λ x. 36 + x.length) e es,
  sum_by-part (λ x. 36 + x.length) (λ f. not (bytes_eq e.mark.0 f.mark.0)) (first_entries es),
  firsts-part es,
)

short-bytes : (es : List RecipeEntry) → AllByRecursion (λ e. e.length ≤ 65536) es → entry_records es ≤ 65572 * length es
short-bytes [] all = omega arith
short-bytes (e ∷ es) all = omega (arith, sum_by-cons (λ x. 36 + x.length) e es, all.0, short-bytes es all.1)

-- the records of entries that fit
pub bytes_fit : (es : List RecipeEntry) → FitsSums es → entry_records es ≤ 2 ^ 57
bytes_fit es fits = omega (arith, short-bytes es (recursion_from_All (λ e. e.length ≤ 65536) es fits.short), fits.few)

-- and those of a front of them
pub fits_front : (n : ℕ) (es : List RecipeEntry) → FitsSums es → FitsSums (take n es)
fits_front n es fits = record {
  few = omega (arith, length-take n es, fits.few);
  short = All-from_recursion (λ e. e.length ≤ 65536) (take n es) (front n es (recursion_from_All (λ e. e.length ≤ 65536) es fits.short));
}
  where
    front : (n : ℕ) (es : List RecipeEntry) → AllByRecursion (λ e. e.length ≤ 65536) es → AllByRecursion (λ e. e.length ≤ 65536) (take n es)
    front zero es all = tt
    front (suc n) [] all = tt
    front (suc n) (e ∷ es) all = (all.0, front n es all.1)

pub kept_fit : (old new : List RecipeEntry) (i : ℕ) → FitsSums old → (share_of old new i).kept ≤ 2 ^ 57
kept_fit old new i fits = omega (
  arith,
  sum_by-part (λ x. 36 + x.length) (λ x. nat_eq x.start i) (kept_entries old new),
  sum_by-part (λ x. 36 + x.length) (λ x. has_mark new x.mark.0) (first_entries old),
  firsts-part old,
  bytes_fit old fits,
)

pub archived_fit : (old new : List RecipeEntry) → FitsSums old → entry_records (archived_entries old new) ≤ 2 ^ 57
archived_fit old new fits = omega (arith, sum_by-part (λ x. 36 + x.length) (λ x. not (has_mark new x.mark.0)) (first_entries old), firsts-part old, bytes_fit old fits)

-- ---- what begins at different versions is apart

module _ (s : ℕ) where
  abbrev others : List RecipeEntry → List RecipeEntry
  others xs = filter (λ x. not (nat_eq x.start s)) xs

  -- what begins elsewhere is among the others
  from_others : (i : ℕ) → nat_eq s i ≡ false → (xs : List RecipeEntry) → entries_from i (others xs) ≡ entries_from i xs
  from_others i away [] = refl
  from_others i away (x ∷ xs) =
      elim (nat_eq x.start s) as (λ b. nat_eq x.start s ≡ b → entries_from i (cond (not b) (x ∷ others xs) (others xs)) ≡ entries_from i (x ∷ xs)) [
        | true ↦ λ at.
            let elsewhere : nat_eq x.start i ≡ false = ap (λ n. nat_eq n i) (eqb-true x.start s at) ∙ away in
            from_others i away xs ∙ sym (ap (λ b. cond b (x ∷ entries_from i xs) (entries_from i xs)) elsewhere)
        | false ↦ λ other. ap (λ ys. cond (nat_eq x.start i) (x ∷ ys) ys) (from_others i away xs)
      ] refl

-- over different starts no record is counted twice
starts-part : (q : ℕ → Bool) (es xs : List RecipeEntry) → sum_by (λ i. entry_records (entries_from i xs)) (filter q (starts_of es)) ≤ entry_records xs
starts-part q [] xs = omega arith
starts-part q (e ∷ es) xs =
    let s = e.start in
    let from : ℕ → ℕ = λ i. entry_records (entries_from i xs) in
    let from_rest : ℕ → ℕ = λ i. entry_records (entries_from i (others s xs)) in
    let other : ℕ → Bool = λ i. not (nat_eq s i) in
    let both : ℕ → Bool = λ i. other i && q i in
    let later : sum_by from (filter q (filter other (starts_of es))) ≡ sum_by from_rest (filter both (starts_of es)) =
    ap (sum_by from) (filter-filter q other (starts_of es))
    ∙ sum_by-filter from both (starts_of es)
    ∙ sum_by-agree (λ i. cond (both i) (from i) 0) (λ i. cond (both i) (from_rest i) 0) (λ i. same i) (starts_of es)
    ∙ sym (sum_by-filter from_rest both (starts_of es)) in
    omega (
      arith,
      sum_by-cond from (q s) s (filter q (filter other (starts_of es))),
      cond-le (q s) (from s),
      later,
      starts-part both es (others s xs),
      sum_by-parts (λ x. 36 + x.length) (λ x. nat_eq x.start s) xs,
    )
  where
    same : (i : ℕ) → cond (not (nat_eq e.start i) && q i) (entry_records (entries_from i xs)) 0 ≡ cond (not (nat_eq e.start i) && q i) (entry_records (entries_from i (others e.start xs))) 0
    same i =
        elim (nat_eq e.start i) as (λ b. nat_eq e.start i ≡ b → cond (not b && q i) (entry_records (entries_from i xs)) 0 ≡ cond (not b && q i) (entry_records (entries_from i (others e.start xs))) 0) [
          | true ↦ λ at. refl
          | false ↦ λ away. ap (λ ys. cond (q i) (entry_records ys) 0) (sym (from_others e.start i away xs))
        ] refl

-- ---- extents

-- bytes take no more extents than they are
pub up-le_bytes : (extent bytes : ℕ) → 1 ≤ extent → up extent bytes ≤ bytes
up-le_bytes extent bytes some =
    let q = (bytes + (extent - 1)) / extent in
    ⊎_elim
    (λ more. absurd (omega (arith, more, some, mul-le-mul_right {m = bytes + 1} {n = q} extent (omega (arith, more)), mul-le-mul_right {m = 1} {n = extent} bytes some)))
    (λ le. le)
    (cases_lt bytes q)

-- what is taken for the share of a start
abbrev pub taken_for : ℕ → Tally → ℕ → ℕ
taken_for extent tally i = cond (share_at tally i).goes (up extent (share_at tally i).kept) 0

module _ (extent : ℕ) (some : 1 ≤ extent) (tally : Tally) (old new : List RecipeEntry) (fits : FitsSums old) (counts : CountsNeighbour old new tally) where
  taken-le : sum_by (taken_for extent tally) tally.starts.items ≤ entry_records (kept_entries old new)
  taken-le = omega (
    arith,
    sum_by-le-sum_by (taken_for extent tally) (λ i. (share_at tally i).kept) tally.starts.items (λ i. le_kept (share_at tally i)),
    sum_by-agree (λ i. (share_at tally i).kept) (λ i. (share_of old new i).kept) (λ i. ap (λ (s : Share). s.kept) (counts.shares i)) tally.starts.items,
    ap (sum_by (λ i. (share_of old new i).kept)) counts.starts,
    all_starts,
  )
    where
      le_kept : (s : Share) → cond s.goes (up extent s.kept) 0 ≤ s.kept
      le_kept s = omega (arith, cond-le s.goes (up extent s.kept), up-le_bytes extent s.kept some)

      all_true : (ns : List ℕ) → filter (λ n. true) ns ≡ ns
      all_true [] = refl
      all_true (n ∷ ns) = ap (λ ms. n ∷ ms) (all_true ns)

      all_starts : sum_by (λ i. entry_records (entries_from i (kept_entries old new))) (starts_of old) ≤ entry_records (kept_entries old new)
      all_starts = subst (λ ns. sum_by (λ i. entry_records (entries_from i (kept_entries old new))) ns ≤ entry_records (kept_entries old new)) (all_true (starts_of old)) (starts-part (λ n. true) old (kept_entries old new))

  pub taken_fit : sum_by (taken_for extent tally) tally.starts.items ≤ 2 ^ 57
  taken_fit = omega (arith, taken-le, sum_by-part (λ x. 36 + x.length) (λ x. has_mark new x.mark.0) (first_entries old), firsts-part old, bytes_fit old fits)

  pub moved_is : up extent tally.archived + sum_by (taken_for extent tally) tally.starts.items ≡ moved_of extent old new
  moved_is =
      (λ k. up extent (counts.archived k) + (sum_by-agree (taken_for extent tally) (λ i. cond (share_of old new i).goes (up extent (share_of old new i).kept) 0) (λ i. ap (λ (s : Share). cond s.goes (up extent s.kept) 0) (counts.shares i)) tally.starts.items
      ∙ ap (sum_by (λ i. cond (share_of old new i).goes (up extent (share_of old new i).kept) 0)) counts.starts
      ∙ sym (sum_by-filter (λ i. up extent (share_of old new i).kept) (λ i. (share_of old new i).goes) (starts_of old))) k)

  pub archived_small : tally.archived ≤ 2 ^ 57
  archived_small = omega (arith, counts.archived, archived_fit old new fits)

  pub share_small : (i : ℕ) → (share_at tally i).kept ≤ 2 ^ 57
  share_small i = omega (arith, ap (λ (s : Share). s.kept) (counts.shares i), kept_fit old new i fits)

  pub archived_taken : up extent tally.archived ≤ 2 ^ 57
  archived_taken = omega (arith, up-le_bytes extent tally.archived some, archived_small)

  -- the sum goes on within its bound
  pub sum_on : (xs : List ℕ) (i : ℕ) (share : Share) → xs ≡ tally.starts.items → i < length xs → share ≡ share_at tally (get_or xs i 0) → share.goes ≡ true →
      sum_by (taken_for extent tally) (take i tally.starts.items) + up extent share.kept ≤ 2 ^ 57
  sum_on xs i share same inside is goes =
      let here : taken_for extent tally (get_or tally.starts.items i 0) ≡ up extent share.kept =
      ap (λ ys. taken_for extent tally (get_or ys i 0)) (sym same) ∙ ap (λ (s : Share). cond s.goes (up extent s.kept) 0) (sym is) ∙ ap (λ b. cond b (up extent share.kept) 0) goes in
      omega (arith, here, sum_by_more_le (taken_for extent tally) tally.starts.items i 0 (omega (arith, inside, ap length same)), taken_fit)
