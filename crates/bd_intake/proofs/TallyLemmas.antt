-- What is counted over the entries of the version before, one after the other.
use Rattle.std.proofs.Common.{◌≡◌, ℕ, ◌+◌, Bool, true, false, cond, not, ◌&&◌, ◌||◌, List, [], ◌∷◌, ◌++◌, refl, sym, ◌∙◌, ap, arith, filter, nat_eq, eq-eqb, unwrap_or, Some, None, is_some}
use Rattle.std.specs.Prelude.{Option}
use Rattle.std.specs.List.{list_any}
use Rattle.std.specs.Map.{lookup}
use Rattle.std.specs.Str.{bytes_eq}
use Rattle.std.proofs.lemmas.Bool.{eqb-true}
use Rattle.std.proofs.lemmas.List.{append-nil}
use Rattle.std.proofs.lemmas.List.Elements.{filter-append}
use Rattle.std.proofs.lemmas.List.Folds.{list_any-append}
use Rattle.std.proofs.lemmas.List.Sums.{sum_by-append, sum_by-cons}
use Rattle.bd_model.specs.Recipe.{first_entries, entry_records, has_mark, starts_of}
use Rattle.bd_model.specs.Room.{kept_entries, archived_entries, entries_from}
use Rattle.bd_model.specs.declared.layout.RecipeEntry.{RecipeEntry}
use Rattle.bd_model.proofs.ChunkListLemmas.{bytes_eq-sym}
use Rattle.bd_intake.specs.declared.tally.Share.{Share}
use Rattle.bd_intake.specs.declared.tally.Tally.{Tally}
use Rattle.bd_intake.proofs.Firsts.{filter-cond}
use Rattle.bd_intake.specs.Tallies.{CountsNeighbour, gone_with, no_share, share_at, share_of, share_with, some_from}

-- ---- one entry more at the end

module _ (es : List RecipeEntry) (e : RecipeEntry) where
  or-false : (b : Bool) → (b || false) ≡ b
  or-false true = refl
  or-false false = refl

  pub some_from-push : (i : ℕ) → some_from i (es ++ e ∷ []) ≡ (some_from i es || nat_eq e.start i)
  some_from-push i = list_any-append (λ f. nat_eq f.start i) es (e ∷ []) ∙ ap (λ b. some_from i es || b) (or-false (nat_eq e.start i))

-- the first of a list, and one more behind
one_more : {X : Type 0} (same known : Bool) (d e : X) (others : List X) →
    d ∷ cond known others (others ++ cond (not same) (e ∷ []) []) ≡ cond (same || known) (d ∷ others) ((d ∷ others) ++ e ∷ [])
one_more true true d e others = refl
one_more true false d e others = ap (λ xs. d ∷ xs) (append-nil others)
one_more false true d e others = refl
one_more false false d e others = refl

pub first_entries-push : (es : List RecipeEntry) (e : RecipeEntry) → first_entries (es ++ e ∷ []) ≡ cond (has_mark es e.mark.0) (first_entries es) (first_entries es ++ e ∷ [])
first_entries-push [] e = refl
first_entries-push (d ∷ es) e =
    let other : RecipeEntry → Bool = λ f. not (bytes_eq d.mark.0 f.mark.0) in
    let known = has_mark es e.mark.0 in
    let before = first_entries es in
    ap (λ xs. d ∷ filter other xs) (first_entries-push es e)
    ∙ ap (λ xs. d ∷ xs) (filter-cond other known before (before ++ e ∷ []))
    ∙ ap (λ xs. d ∷ cond known (filter other before) xs) (filter-append other before (e ∷ []))
    ∙ ap (λ b. d ∷ cond known (filter other before) (filter other before ++ cond (not b) (e ∷ []) [])) (bytes_eq-sym d.mark.0 e.mark.0)
    ∙ one_more (bytes_eq e.mark.0 d.mark.0) known d e (filter other before)

pub starts_of-push : (es : List RecipeEntry) (e : RecipeEntry) → starts_of (es ++ e ∷ []) ≡ cond (some_from e.start es) (starts_of es) (starts_of es ++ e.start ∷ [])
starts_of-push [] e = refl
starts_of-push (d ∷ es) e =
    let other : ℕ → Bool = λ i. not (nat_eq d.start i) in
    let known = some_from e.start es in
    let before = starts_of es in
    ap (λ xs. d.start ∷ filter other xs) (starts_of-push es e)
    ∙ ap (λ xs. d.start ∷ xs) (filter-cond other known before (before ++ e.start ∷ []))
    ∙ ap (λ xs. d.start ∷ cond known (filter other before) xs) (filter-append other before (e.start ∷ []))
    ∙ one_more (nat_eq d.start e.start) known d.start e.start (filter other before)

-- ---- what one entry more adds to a share

module _ (p : RecipeEntry → Bool) (firsts : List RecipeEntry) (e : RecipeEntry) (i : ℕ) where
  passes : filter p (firsts ++ e ∷ []) ≡ filter p firsts ++ cond (p e) (e ∷ []) []
  passes = filter-append p firsts (e ∷ [])

  one_record : (b : Bool) → entry_records (cond b (e ∷ []) []) ≡ cond b (36 + e.length) 0
  one_record true = sum_by-cons (λ x. 36 + x.length) e [] ∙ add-zero
    where
      add-zero : 36 + e.length + 0 ≡ 36 + e.length
      add-zero = omega arith
  one_record false = refl

  records-push : entry_records (filter p (firsts ++ e ∷ [])) ≡ entry_records (filter p firsts) + cond (p e) (36 + e.length) 0
  records-push = ap entry_records passes ∙ sum_by-append (λ x. 36 + x.length) (filter p firsts) (cond (p e) (e ∷ []) []) ∙ ap (λ n. entry_records (filter p firsts) + n) (one_record (p e))

  from_one : (b : Bool) → entries_from i (cond b (e ∷ []) []) ≡ cond (b && nat_eq e.start i) (e ∷ []) []
  from_one true = refl
  from_one false = refl

  from-push : entry_records (entries_from i (filter p (firsts ++ e ∷ []))) ≡ entry_records (entries_from i (filter p firsts)) + cond (p e && nat_eq e.start i) (36 + e.length) 0
  from-push =
      ap (λ xs. entry_records (entries_from i xs)) passes
      ∙ ap entry_records (filter-append (λ x. nat_eq x.start i) (filter p firsts) (cond (p e) (e ∷ []) []))
      ∙ sum_by-append (λ x. 36 + x.length) (entries_from i (filter p firsts)) (entries_from i (cond (p e) (e ∷ []) []))
      ∙ ap (λ xs. entry_records (entries_from i (filter p firsts)) + entry_records xs) (from_one (p e))
      ∙ ap (λ n. entry_records (entries_from i (filter p firsts)) + n) (one_record (p e && nat_eq e.start i))

  some_one : (b : Bool) → some_from i (cond b (e ∷ []) []) ≡ (b && nat_eq e.start i)
  some_one true = or-false [] e (nat_eq e.start i)
  some_one false = refl

  some-push : some_from i (filter p (firsts ++ e ∷ [])) ≡ (some_from i (filter p firsts) || (p e && nat_eq e.start i))
  some-push =
      ap (some_from i) passes ∙ list_any-append (λ f. nat_eq f.start i) (filter p firsts) (cond (p e) (e ∷ []) []) ∙ ap (λ b. some_from i (filter p firsts) || b) (some_one (p e))

-- the share with one record more, where it begins there and elsewhere
share_here : (share : Share) (e : RecipeEntry) (used : Bool) →
    record { kept = share.kept + cond (used && true) (36 + e.length) 0; goes = share.goes || (not used && true) } ≡ share_with share e true used
share_here share e true = λ k. record { kept = sum k; goes = or-false [] e share.goes k }
  where
    sum : share.kept + (36 + e.length) ≡ share.kept + 36 + e.length
    sum = omega arith
share_here share e false = λ k. record { kept = sum k; goes = always share.goes k }
  where
    sum : share.kept + 0 ≡ share.kept
    sum = omega arith

    always : (b : Bool) → (b || true) ≡ true
    always true = refl
    always false = refl

share_elsewhere : (share : Share) (e : RecipeEntry) (used : Bool) → record { kept = share.kept + cond (used && false) (36 + e.length) 0; goes = share.goes || (not used && false) } ≡ share
share_elsewhere share e used = λ k. record { kept = sum used k; goes = none used share.goes k }
  where
    sum : (b : Bool) → share.kept + cond (b && false) (36 + e.length) 0 ≡ share.kept
    sum true = omega arith
    sum false = omega arith

    none : (b goes : Bool) → (goes || (not b && false)) ≡ goes
    none true true = refl
    none true false = refl
    none false true = refl
    none false false = refl

module _ (old new : List RecipeEntry) (e : RecipeEntry) where
  abbrev used : RecipeEntry → Bool
  used f = has_mark new f.mark.0

  abbrev unused : RecipeEntry → Bool
  unused f = not (has_mark new f.mark.0)

  -- of the second and later entries with a mark there is no record
  share-again : has_mark old e.mark.0 ≡ true → (i : ℕ) → share_of (old ++ e ∷ []) new i ≡ share_of old new i
  share-again known i =
      let same : first_entries (old ++ e ∷ []) ≡ first_entries old = first_entries-push old e ∙ ap (λ b. cond b (first_entries old) (first_entries old ++ e ∷ [])) known in
      λ k. record { kept = entry_records (entries_from i (filter used (same k))); goes = list_any (λ x. nat_eq x.start i) (filter unused (same k)) }

  share-first : has_mark old e.mark.0 ≡ false → (i : ℕ) → share_of (old ++ e ∷ []) new i ≡
      record { kept = (share_of old new i).kept + cond (used e && nat_eq e.start i) (36 + e.length) 0; goes = (share_of old new i).goes || (unused e && nat_eq e.start i) }
  share-first lacks i =
      let more : first_entries (old ++ e ∷ []) ≡ first_entries old ++ e ∷ [] = first_entries-push old e ∙ ap (λ b. cond b (first_entries old) (first_entries old ++ e ∷ [])) lacks in
      let kept : entry_records (entries_from i (kept_entries (old ++ e ∷ []) new)) ≡ (share_of old new i).kept + cond (used e && nat_eq e.start i) (36 + e.length) 0 =
      ap (λ xs. entry_records (entries_from i (filter used xs))) more ∙ from-push used (first_entries old) e i in
      let goes : some_from i (archived_entries (old ++ e ∷ []) new) ≡ ((share_of old new i).goes || (unused e && nat_eq e.start i)) =
      ap (λ xs. some_from i (filter unused xs)) more ∙ some-push unused (first_entries old) e i in
      λ k. record { kept = kept k; goes = goes k }

  share-here : (is_first is_used : Bool) → is_first ≡ not (has_mark old e.mark.0) → (is_first ≡ true → is_used ≡ used e) → share_of (old ++ e ∷ []) new e.start ≡ share_with (share_of old new e.start) e is_first is_used
  share-here is_first is_used is meets =
      elim (has_mark old e.mark.0) as (λ b. has_mark old e.mark.0 ≡ b → is_first ≡ not b → share_of (old ++ e ∷ []) new e.start ≡ share_with (share_of old new e.start) e is_first is_used) [
        | true ↦ λ known none. share-again known e.start ∙ ap (λ b. share_with (share_of old new e.start) e b is_used) (sym none)
        | false ↦ λ lacks first.
            share-first lacks e.start
            ∙ ap (λ b. record { kept = (share_of old new e.start).kept + cond (used e && b) (36 + e.length) 0; goes = (share_of old new e.start).goes || (unused e && b) }) (eq-eqb e.start e.start refl)
            ∙ share_here (share_of old new e.start) e (used e)
            ∙ (λ k. share_with (share_of old new e.start) e (sym first k) (sym (meets first) k))
      ] refl is

  share-elsewhere : (i : ℕ) → nat_eq e.start i ≡ false → share_of (old ++ e ∷ []) new i ≡ share_of old new i
  share-elsewhere i away =
      elim (has_mark old e.mark.0) as (λ b. has_mark old e.mark.0 ≡ b → share_of (old ++ e ∷ []) new i ≡ share_of old new i) [
        | true ↦ λ known. share-again known i
        | false ↦ λ lacks.
            share-first lacks i
            ∙ ap (λ b. record { kept = (share_of old new i).kept + cond (used e && b) (36 + e.length) 0; goes = (share_of old new i).goes || (unused e && b) }) away
            ∙ share_elsewhere (share_of old new i) e (used e)
      ] refl

  gone-push : (is_first is_used : Bool) → is_first ≡ not (has_mark old e.mark.0) → (is_first ≡ true → is_used ≡ used e) →
      entry_records (archived_entries (old ++ e ∷ []) new) ≡ entry_records (archived_entries old new) + gone_with e is_first is_used
  gone-push is_first is_used is meets =
      elim (has_mark old e.mark.0) as (λ b. has_mark old e.mark.0 ≡ b → is_first ≡ not b → entry_records (archived_entries (old ++ e ∷ []) new) ≡ entry_records (archived_entries old new) + gone_with e is_first is_used) [
        | true ↦ λ known none.
            ap (λ xs. entry_records (filter unused xs)) (first_entries-push old e ∙ ap (λ b. cond b (first_entries old) (first_entries old ++ e ∷ [])) known)
            ∙ nothing (entry_records (archived_entries old new)) ∙ ap (λ b. entry_records (archived_entries old new) + gone_with e b is_used) (sym none)
        | false ↦ λ lacks first.
            ap (λ xs. entry_records (filter unused xs)) (first_entries-push old e ∙ ap (λ b. cond b (first_entries old) (first_entries old ++ e ∷ [])) lacks)
            ∙ records-push unused (first_entries old) e 0
            ∙ (λ k. entry_records (archived_entries old new) + gone_with e (sym first k) (sym (meets first) k))
      ] refl is
    where
      nothing : (n : ℕ) → n ≡ n + 0
      nothing n = omega arith

  -- one entry more is counted
  pub counts-push : (before after : Tally) (is_first is_used : Bool) → CountsNeighbour old new before → is_first ≡ not (has_mark old e.mark.0) → (is_first ≡ true → is_used ≡ used e) →
      ((i : ℕ) → lookup (nat_eq i) after.shares.entries ≡ cond (nat_eq e.start i) (Some (share_with (share_at before e.start) e is_first is_used)) (lookup (nat_eq i) before.shares.entries)) →
      after.archived ≡ before.archived + gone_with e is_first is_used →
      after.starts.items ≡ cond (is_some (lookup (nat_eq e.start) before.shares.entries)) before.starts.items (before.starts.items ++ e.start ∷ []) → CountsNeighbour (old ++ e ∷ []) new after
  counts-push before after is_first is_used counts is meets shares gone starts = record {
    starts = starts
        ∙ (λ k. cond (counts.there e.start k) (counts.starts k) (counts.starts k ++ e.start ∷ []))
        ∙ sym (starts_of-push old e);
    there = λ i.
        ap is_some (shares i) ∙ some_cond (nat_eq e.start i) (share_with (share_at before e.start) e is_first is_used) (lookup (nat_eq i) before.shares.entries)
        ∙ ap (λ b. b || nat_eq e.start i) (counts.there i) ∙ sym (some_from-push old e i);
    shares = λ i.
        ap (λ o. unwrap_or o no_share) (shares i)
        ∙ elim (nat_eq e.start i) as (λ b. nat_eq e.start i ≡ b → unwrap_or (cond b (Some (share_with (share_at before e.start) e is_first is_used)) (lookup (nat_eq i) before.shares.entries)) no_share ≡ share_of (old ++ e ∷ []) new i) [
          | true ↦ λ at.
              ap (λ s. share_with s e is_first is_used) (counts.shares e.start) ∙ sym (share-here is_first is_used is meets) ∙ ap (share_of (old ++ e ∷ []) new) (eqb-true e.start i at)
          | false ↦ λ away. counts.shares i ∙ sym (share-elsewhere i away)
        ] refl;
    archived = gone ∙ ap (λ n. n + gone_with e is_first is_used) counts.archived ∙ sym (gone-push is_first is_used is meets);
  }
    where
      some_cond : (b : Bool) (x : Share) (o : Option Share) → is_some (cond b (Some x) o) ≡ (is_some o || b)
      some_cond true x None = refl
      some_cond true x (Some y) = refl
      some_cond false x None = refl
      some_cond false x (Some y) = refl
