-- One record more on a walk, and walks that follow each other.
use Rattle.std.proofs.Common.{◌≡◌, ◌≢◌, ℕ, ◌+◌, ◌<◌, Bool, true, false, cond, ◌&&◌, not, List, [], ◌∷◌, ◌++◌, length, get_or, refl, sym, ◌∙◌, ap, subst, arith, length-append, ◌⊎◌, inl, inr}
use Rattle.std.specs.Prelude.{Some, None, is_some, bytes_eq, nat_lt}
use Rattle.std.proofs.lemmas.List.{append-nil}
use Rattle.std.proofs.lemmas.List.Elements.{filter-append}
use Rattle.std.proofs.lemmas.List.Folds.{list_any_at}
use Rattle.std.proofs.lemmas.Bool.{false≢true, lt-ltb}
use Rattle.std.proofs.lemmas.Slice.Eq.{bytes_eq-Decides}
use Rattle.bd_disk.specs.History.{History}
use Rattle.bd_disk.specs.Trace.{ReadsOnly}
use Rattle.bd_model.specs.Sizes.{Sizes}
use Rattle.bd_model.specs.Extents.{places_at}
use Rattle.bd_model.specs.Marks.{mark}
use Rattle.bd_model.specs.Recipe.{has_mark}
use Rattle.bd_model.specs.Records.{Stored}
use Rattle.bd_model.specs.declared.layout.RecipeEntry.{RecipeEntry}
use Rattle.bd_catalog.specs.Rows.{Spot}
use Rattle.bd_catalog.specs.Sound.{with_mark, first_body}
use Rattle.bd_recipe.specs.Marked.{first_from}
use Rattle.bd_recipe.proofs.EntriesByMark.{first_from-some}
use Rattle.bd_restore.specs.Target.{mark_at, flag_at, Fills, PutsBody}
use Rattle.bd_restore.specs.Walk.{is_found, is_wanted, AreFlags, AreGiven, Walks, Gives}
use Rattle.bd_restore.proofs.Marks.{mark_here, no_entry, first_is}

-- ---- tests

pub bool_cases : (b : Bool) → (b ≡ true) ⊎ (b ≡ false)
bool_cases true = inl refl
bool_cases false = inr refl

not_false : (a b : Bool) → a ≡ true → (a && not b) ≡ false → b ≡ true
not_false a true hit is = refl
not_false true false hit is = absurd (false≢true (sym is))
not_false false false hit is = absurd (false≢true hit)

pub both_true : (a b : Bool) → (a && not b) ≡ true → b ≡ false
both_true a false is = refl
both_true true true is = absurd (false≢true is)
both_true false true is = absurd (false≢true is)

clash : {A : Type 0} (b : Bool) → b ≡ true → b ≡ false → A
clash {A} b hit miss = absurd (false≢true (sym miss ∙ hit))

-- ---- entries with a mark

pub has_true : (entries : List RecipeEntry) (m : List ℕ) (k : ℕ) → k < length entries → mark_at entries k ≡ m → has_mark entries m ≡ true
has_true entries m k lt same =
    list_any_at (λ e. bytes_eq m e.mark.0) entries k no_entry lt ((bytes_eq-Decides m (get_or entries k no_entry).mark.0).1 (sym same ∙ mark_here entries k no_entry lt))

-- ---- a body that is wanted, by the first entry with its mark

module _ (entries : List RecipeEntry) (m : List ℕ) (filled : List Bool) (seen : List Stored) (flags : AreFlags entries seen filled) where
  pub wanted_by : (index : ℕ) → index < length entries → Some index ≡ first_from 0 entries m → not (flag_at filled index) ≡ is_wanted entries seen m
  wanted_by index lt is =
      let has : has_mark entries m ≡ true = sym (first_from-some 0 entries m) ∙ ap is_some (sym is) in
      let flag : flag_at filled index ≡ is_found seen m = flags.each index lt ∙ ap (is_found seen) (first_is entries m index lt is) in
      ap not flag ∙ ap (λ b. b && not (is_found seen m)) (sym has)

  pub unwanted_by : None ≡ first_from 0 entries m → false ≡ is_wanted entries seen m
  unwanted_by is =
      let has : has_mark entries m ≡ false = sym (first_from-some 0 entries m) ∙ ap is_some (sym is) in
      ap (λ b. b && not (is_found seen m)) (sym has)

-- ---- one record more

front_body : (xs ys : List Stored) → nat_lt 0 (length xs) ≡ true → first_body (xs ++ ys) ≡ first_body xs
front_body [] ys some = absurd (false≢true some)
front_body (x ∷ xs) ys some = refl

pub none_found : {X : Type 0} (xs : List X) → nat_lt 0 (length xs) ≡ false → xs ≡ []
none_found [] miss = refl
none_found (x ∷ xs) miss = clash (nat_lt 0 (length (x ∷ xs))) (lt-ltb 0 (length (x ∷ xs)) (omega arith)) miss

module _ (seen : List Stored) (r : Stored) (m : List ℕ) where
  more : with_mark m (seen ++ r ∷ []) ≡ with_mark m seen ++ with_mark m (r ∷ [])
  more = filter-append (λ x. bytes_eq x.mark m) seen (r ∷ [])

  same_first : is_found seen m ≡ true → first_body (with_mark m (seen ++ r ∷ [])) ≡ first_body (with_mark m seen)
  same_first some = ap first_body more ∙ front_body (with_mark m seen) (with_mark m (r ∷ [])) some

  other_same : bytes_eq r.mark m ≡ false → with_mark m (seen ++ r ∷ []) ≡ with_mark m seen
  other_same miss = more ∙ ap (λ b. with_mark m seen ++ cond b (r ∷ []) []) miss ∙ append-nil (with_mark m seen)

  with_it : bytes_eq r.mark m ≡ true → with_mark m (seen ++ r ∷ []) ≡ with_mark m seen ++ r ∷ []
  with_it hit = more ∙ ap (λ b. with_mark m seen ++ cond b (r ∷ []) []) hit

  now_found : bytes_eq r.mark m ≡ true → is_found (seen ++ r ∷ []) m ≡ true
  now_found hit = ap (λ l. nat_lt 0 (length l)) (with_it hit) ∙ lt-ltb 0 (length (with_mark m seen ++ r ∷ [])) (omega (arith, length-append (with_mark m seen) (r ∷ [])))

  first_now : is_found seen m ≡ false → bytes_eq r.mark m ≡ true → first_body (with_mark m (seen ++ r ∷ [])) ≡ r.body
  first_now miss hit = ap first_body (with_it hit) ∙ ap (λ l. first_body (l ++ r ∷ [])) (none_found (with_mark m seen) miss)

module _ (entries : List RecipeEntry) (seen : List Stored) (r : Stored) where
  mark_is : (k : ℕ) → bytes_eq r.mark (mark_at entries k) ≡ true → mark_at entries k ≡ r.mark
  mark_is k hit = sym ((bytes_eq-Decides r.mark (mark_at entries k)).0 hit)

  module _ (unwanted : is_wanted entries seen r.mark ≡ false) where
    found_then : (k : ℕ) → k < length entries → bytes_eq r.mark (mark_at entries k) ≡ true → is_found seen (mark_at entries k) ≡ true
    found_then k lt hit = ap (is_found seen) (mark_is k hit) ∙ not_false (has_mark entries r.mark) (is_found seen r.mark) (has_true entries r.mark k lt (mark_is k hit)) unwanted

    same_found : (k : ℕ) → k < length entries → is_found seen (mark_at entries k) ≡ is_found (seen ++ r ∷ []) (mark_at entries k)
    same_found k lt =
        let which = bool_cases (bytes_eq r.mark (mark_at entries k)) in
        elim which [
          | inl hit ↦ found_then k lt hit ∙ sym (now_found seen r (mark_at entries k) hit)
          | inr miss ↦ ap (λ l. nat_lt 0 (length l)) (sym (other_same seen r (mark_at entries k) miss))
        ]

    pub flags_unwanted : (filled : List Bool) → AreFlags entries seen filled → AreFlags entries (seen ++ r ∷ []) filled
    flags_unwanted filled flags = record { count = flags.count; each = λ k lt. flags.each k lt ∙ same_found k lt }

    pub given_unwanted : (file : List ℕ) → AreGiven entries seen file → AreGiven entries (seen ++ r ∷ []) file
    given_unwanted file given = record {
      each = λ k lt found.
          let some : is_found seen (mark_at entries k) ≡ true = same_found k lt ∙ found in
          given.each k lt some ∙ sym (same_first seen r (mark_at entries k) some);
      marks = λ k lt found. given.marks k lt (same_found k lt ∙ found);
    }

  module _ (wanted : is_wanted entries seen r.mark ≡ true) where
    mark_differs : (k : ℕ) → bytes_eq r.mark (mark_at entries k) ≡ false → mark_at entries k ≢ r.mark
    mark_differs k miss same = clash (bytes_eq r.mark (mark_at entries k)) ((bytes_eq-Decides r.mark (mark_at entries k)).1 (sym same)) miss

    pub flags_wanted : (filled now : List Bool) → Fills entries r.mark (length entries) filled now → AreFlags entries seen filled → AreFlags entries (seen ++ r ∷ []) now
    flags_wanted filled now fills flags = record {
      count = fills.count ∙ flags.count;
      each = λ k lt.
          let which = bool_cases (bytes_eq r.mark (mark_at entries k)) in
          elim which [
            | inl hit ↦ fills.here k lt lt (mark_is k hit) ∙ sym (now_found seen r (mark_at entries k) hit)
            | inr miss ↦ fills.others k lt (mark_differs k miss) ∙ flags.each k lt ∙ ap (λ l. nat_lt 0 (length l)) (sym (other_same seen r (mark_at entries k) miss))
          ];
    }

    pub given_wanted : mark r.body ≡ r.mark → (file now : List ℕ) → PutsBody entries r.mark r.body (length entries) file now → AreGiven entries seen file → AreGiven entries (seen ++ r ∷ []) now
    given_wanted marked file now puts given = record {
      each = λ k lt found.
          let which = bool_cases (bytes_eq r.mark (mark_at entries k)) in
          let unseen : is_found seen r.mark ≡ false = both_true (has_mark entries r.mark) (is_found seen r.mark) wanted in
          elim which [
            | inl hit ↦ puts.here k lt lt (mark_is k hit) ∙ sym (first_now seen r (mark_at entries k) (ap (is_found seen) (mark_is k hit) ∙ unseen) hit)
            | inr miss ↦
                let same = other_same seen r (mark_at entries k) miss in
                puts.others k lt (mark_differs k miss) ∙ given.each k lt (ap (λ l. nat_lt 0 (length l)) (sym same) ∙ found) ∙ ap first_body (sym same)
          ];
      marks = λ k lt found.
          let which = bool_cases (bytes_eq r.mark (mark_at entries k)) in
          elim which [
            | inl hit ↦ ap mark (puts.here k lt lt (mark_is k hit)) ∙ marked ∙ sym (mark_is k hit)
            | inr miss ↦
                ap mark (puts.others k lt (mark_differs k miss))
                ∙ given.marks k lt (ap (λ l. nat_lt 0 (length l)) (sym (other_same seen r (mark_at entries k) miss)) ∙ found)
          ];
    }

-- ---- the walk over one record

abbrev pub spot_at : List ℕ → ℕ → Stored → Spot
spot_at extents at r = record { extents = extents; at = at; stored = r }

module _ (s : Sizes) (entries : List RecipeEntry) (extents : List ℕ) (at : ℕ) (r : Stored) (filled : List Bool) where
  abbrev header : List ℕ
  header = places_at s extents at 36

  abbrev body : List ℕ
  body = places_at s extents (at + 36) r.length

  pub walks_unwanted : ((seen : List Stored) → AreFlags entries seen filled → false ≡ is_wanted entries seen r.mark) → {a b : History} → ReadsOnly header a b → Walks s entries (spot_at extents at r ∷ []) filled filled a b
  walks_unwanted unwanted {a} {b} reads = record {
    flags = λ seen flags. flags_unwanted entries seen r (sym (unwanted seen flags)) filled flags;
    reads = λ seen flags. subst (λ l. ReadsOnly l a b) (sym (append-nil header) ∙ sym (append-nil (header ++ [])) ∙ ap (λ w. (header ++ cond w body []) ++ []) (unwanted seen flags)) reads;
  }

  pub gives_unwanted : ((seen : List Stored) → AreFlags entries seen filled → false ≡ is_wanted entries seen r.mark) → (file : List ℕ) → Gives entries (spot_at extents at r ∷ []) filled file file
  gives_unwanted unwanted file = record { each = λ seen flags given. given_unwanted entries seen r (sym (unwanted seen flags)) file given }

  pub walks_wanted : (now : List Bool) → ((seen : List Stored) → AreFlags entries seen filled → true ≡ is_wanted entries seen r.mark) → Fills entries r.mark (length entries) filled now →
      {a b : History} → ReadsOnly (header ++ body) a b → Walks s entries (spot_at extents at r ∷ []) filled now a b
  walks_wanted now wanted fills {a} {b} reads = record {
    flags = λ seen flags. flags_wanted entries seen r (sym (wanted seen flags)) filled now fills flags;
    reads = λ seen flags. subst (λ l. ReadsOnly l a b) (sym (append-nil (header ++ body)) ∙ ap (λ w. (header ++ cond w body []) ++ []) (wanted seen flags)) reads;
  }

  pub gives_wanted : ((seen : List Stored) → AreFlags entries seen filled → true ≡ is_wanted entries seen r.mark) → mark r.body ≡ r.mark → (file now : List ℕ) → PutsBody entries r.mark r.body (length entries) file now → Gives entries (spot_at extents at r ∷ []) filled file now
  gives_wanted wanted marked file now puts = record { each = λ seen flags given. given_wanted entries seen r (sym (wanted seen flags)) marked file now puts given }
