-- What is under each name after bytes were put under one.
use Rattle.std.proofs.Common.{◌≡◌, ℕ, Bool, true, false, cond, not, T, List, [], ◌∷◌, refl, sym, ap, subst, ◌∙◌, ⊎_elim, arith, Some, unwrap_or, Result, Ok, Err, OnOk}
use Rattle.std.specs.declared.cmp.Ordering.{Ordering}
use Rattle.std.specs.declared.cmp.Ordering.TheVariants.{Less, Equal, Greater}
use Rattle.std.specs.Ordering.{nat_cmp, is_eq, eq_by_cmp}
use Rattle.std.specs.Cmp.Lexicographic.{slice_cmp, nat_list_cmp_total}
use Rattle.std.specs.Cmp.{tied_itself}
use Rattle.std.specs.FinMap as map
use Rattle.std.specs.FinMap.{get-insert, IsAntisymmetric, nat_cmp-IsAntisymmetric, slice_cmp-IsAntisymmetric}
use Rattle.std.specs.Str.{bytes_eq}
use Rattle.std.specs.List.{Contains, filter}
use Rattle.std.proofs.lemmas.Bool.{false_from_ne_true}
use Rattle.std.proofs.lemmas.List.Elements.{All-contains, Contains-append_cases, Contains-append_left, Contains-append_right, Contains-push_cases, filter_passes}
use Rattle.std.proofs.lemmas.Slice.Eq.{bytes_eq-Decides}
use Rattle.bd_model.specs.FileMap.{FileMap}
use Rattle.bd_model.proofs.ChunkListLemmas.{bytes_eq-refl}
use Rattle.bd_files.specs.Files.{Begins, ChangesOnly, Finishes, Holds, IsFinished, UnfinishesOnly, without}

equal : (r : Ordering) → T (is_eq r) → r ≡ Equal
equal Less p = absurd p
equal Equal p = refl
equal Greater p = absurd p

-- names that tie are one name
pub only_equal_names_tie : (a b : List ℕ) → T (eq_by_cmp (slice_cmp nat_cmp) a b) → a ≡ b
only_equal_names_tie a b tie =
    let same : IsAntisymmetric (slice_cmp nat_cmp) = slice_cmp-IsAntisymmetric nat_cmp-IsAntisymmetric in
    same a b (equal _ tie)

not_chosen : {A : Type 0} (b : Bool) (x y : A) → (T b → ⊥) → cond b x y ≡ y
not_chosen true x y apart = absurd (apart tt)
not_chosen false x y apart = refl

-- bytes that were put under a name are there
pub holds_what_was_put : (files : FileMap) (name bytes : List ℕ) → Holds (map.insert files name bytes) name bytes
holds_what_was_put files name bytes = record {
  there = get-insert nat_list_cmp_total files name bytes name ∙ ap (λ r. cond (is_eq r) (Some bytes) (map.get files name)) (tied_itself nat_list_cmp_total name);
}

-- to put bytes under a name changes no other name
pub changes_only_what_was_put : (old new : FileMap) (name bytes : List ℕ) → new ≡ map.insert old name bytes → ChangesOnly name old new
changes_only_what_was_put old new name bytes is = record {
  others = λ other apart. ap (λ files. map.get files other) is ∙ get-insert nat_list_cmp_total old name bytes other ∙ not_chosen _ _ _ (λ tie. apart (only_equal_names_tie other name tie));
}

-- only these bytes are under the name
pub held_once : (files : FileMap) (name some other : List ℕ) → Holds files name some → Holds files name other → some ≡ other
held_once files name some other holds again = ap (λ found. unwrap_or found []) (sym holds.there ∙ again.there)

-- a name that was taken away isn't among the others
without-finishes : (name : List ℕ) (names : List (List ℕ)) → IsFinished name (without name names)
without-finishes name names = record {
  so = λ there.
      let passes : not (bytes_eq name name) ≡ true = All-contains (λ other. not (bytes_eq other name) ≡ true) (without name names) name (filter_passes (λ other. not (bytes_eq other name)) names) there in
      clash (sym (ap not (bytes_eq-refl name)) ∙ passes);
} where
  clash : false ≡ true → ⊥
  clash e = cc e

-- where a finish answered Ok, the name is finished
pub finished : {T E : Type 0} {result : Result T E} (tells : Type 0) (name : List ℕ) (old new : List (List ℕ)) → (tells → Finishes name old new result) → OnOk result (tells → IsFinished name new)
finished {result = Ok x} tells name old new finishes = λ told. subst (IsFinished name) (sym (finishes told).ok) (without-finishes name old)
finished {result = Err e} tells name old new finishes = tt

-- bytes put under a name are held there
pub held_put : (files new : FileMap) (name bytes : List ℕ) → new ≡ map.insert files name bytes → map.get new name ≡ Some bytes
held_put files new name bytes so = ap (λ fs. map.get fs name) so ∙ (holds_what_was_put files name bytes).there

-- ---- what changes under one name

pub changes_none : (name : List ℕ) (files : FileMap) → ChangesOnly name files files
changes_none name files = record { others = λ other apart. refl }

pub changes_both : (name : List ℕ) (a b c : FileMap) → ChangesOnly name a b → ChangesOnly name b c → ChangesOnly name a c
changes_both name a b c f g = record { others = λ other apart. g.others other apart ∙ f.others other apart }

-- ---- which names are unfinished

-- what is kept of a list is there, and what is there and passes is kept
kept_there : (p : List ℕ → Bool) (names : List (List ℕ)) (x : List ℕ) → Contains (filter p names) x → Contains names x
kept_there p [] x there = there
kept_there p (y ∷ ys) x there = by (p y) (kept_there p ys x) there where
  by : (b : Bool) → (Contains (filter p ys) x → Contains ys x) → Contains (cond b (y ∷ filter p ys) (filter p ys)) x → Contains (y ∷ ys) x
  by true later here =
      ⊎_elim (λ first. Contains-append_left (y ∷ []) ys x first) (λ rest. Contains-append_right (y ∷ []) ys x (later rest)) (Contains-append_cases (y ∷ []) (filter p ys) x here)
  by false later here = Contains-append_right (y ∷ []) ys x (later here)

only_one : (y x : List ℕ) → Contains (y ∷ []) x → y ≡ x
only_one y x here = ⊎_elim (λ none. absurd (omega (arith, none.1))) (λ same. same) (Contains-push_cases [] y x here)

there_kept : (p : List ℕ → Bool) (names : List (List ℕ)) (x : List ℕ) → p x ≡ true → Contains names x → Contains (filter p names) x
there_kept p [] x passes there = there
there_kept p (y ∷ ys) x passes there =
    ⊎_elim
    (λ first. subst (λ b. Contains (cond b (y ∷ filter p ys) (filter p ys)) x) (sym (ap p (only_one y x first) ∙ passes)) (Contains-append_left (y ∷ []) (filter p ys) x first))
    (λ rest. by (p y) (there_kept p ys x passes rest))
    (Contains-append_cases (y ∷ []) ys x there) where
      by : (b : Bool) → Contains (filter p ys) x → Contains (cond b (y ∷ filter p ys) (filter p ys)) x
      by true rest = Contains-append_right (y ∷ []) (filter p ys) x rest
      by false rest = rest

pub unfinishes_none : (name : List ℕ) (names : List (List ℕ)) → UnfinishesOnly name names names
unfinishes_none name names = record { others = λ other apart. (λ there. there, λ there. there) }

pub unfinishes_both : (name : List ℕ) (a b c : List (List ℕ)) → UnfinishesOnly name a b → UnfinishesOnly name b c → UnfinishesOnly name a c
unfinishes_both name a b c f g = record {
  others = λ other apart. (λ there. (f.others other apart).0 ((g.others other apart).0 there), λ there. (g.others other apart).1 ((f.others other apart).1 there));
}

with_name : (name : List ℕ) (names : List (List ℕ)) → UnfinishesOnly name names (name ∷ names)
with_name name names = record {
  others = λ other apart. (
    λ there. ⊎_elim (λ first. absurd (apart (sym (only_one name other first)))) (λ rest. rest) (Contains-append_cases (name ∷ []) names other there),
    λ there. Contains-append_right (name ∷ []) names other there,
  );
}

without_name : (name : List ℕ) (names : List (List ℕ)) → UnfinishesOnly name names (without name names)
without_name name names = record {
  others = λ other apart.
      let p : List ℕ → Bool = λ x. not (bytes_eq x name) in
      let passes : p other ≡ true = ap not (false_from_ne_true (bytes_eq other name) (λ same. apart ((bytes_eq-Decides other name).0 same))) in
      (kept_there p names other, there_kept p names other passes);
}

-- a name that is begun or filled, or finished
pub begins_only : {T E : Type 0} {result : Result T E} {name : List ℕ} {old new : List (List ℕ)} → Begins name old new result → UnfinishesOnly name old new
begins_only {result = Ok x} {name} {old} {new} begins = subst (UnfinishesOnly name old) (sym begins.ok) (with_name name old)
begins_only {result = Err e} {name} {old} {new} begins =
    ⊎_elim (λ same. subst (UnfinishesOnly name old) (sym same) (unfinishes_none name old)) (λ more. subst (UnfinishesOnly name old) (sym more) (with_name name old)) begins.failed

pub finishes_only : {T E : Type 0} {result : Result T E} {name : List ℕ} {old new : List (List ℕ)} → Finishes name old new result → UnfinishesOnly name old new
finishes_only {result = Ok x} {name} {old} {new} finishes = subst (UnfinishesOnly name old) (sym finishes.ok) (without_name name old)
finishes_only {result = Err e} {name} {old} {new} finishes = subst (UnfinishesOnly name old) (sym finishes.failed) (unfinishes_none name old)
