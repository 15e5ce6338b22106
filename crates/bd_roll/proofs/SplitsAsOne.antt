-- Splits one after the other are one arranging.
use Rattle.std.proofs.Common.{◌≡◌, ◌≢◌, ⊎_elim, ℕ, suc, ◌+◌, ◌≤◌, true, false, cond, max, List, [], ◌∷◌, ◌++◌, length, map, flat_map, nat_eq, eq-eqb, refl, sym, ◌∙◌, ap, arith, subst, append_assoc}
use Rattle.std.specs.Prelude.{All, Contains}
use Rattle.std.proofs.lemmas.Bool.{ne_eqb}
use Rattle.std.proofs.lemmas.List.{append-nil}
use Rattle.std.proofs.lemmas.List.Elements.{All-cons, All-nil, All-weaker}
use Rattle.std.proofs.lemmas.List.Concat.{flat_map-append}
use Rattle.bd_model.specs.Laws.{rows_more}
use Rattle.bd_model.specs.Sizes.{Sizes}
use Rattle.bd_model.specs.declared.layout.CategoryRow.{CategoryRow}
use Rattle.bd_model.specs.declared.layout.Phase.TheVariants.{Settled}
use Rattle.bd_space.proofs.Distinct.{distinct_head, distinct_tail}
use Rattle.bd_roll.specs.Catalogue.{Catalogue, VolumeEntry, OpenEntry, oldest_in}
use Rattle.bd_roll.specs.Rules.{ascends, obeys}
use Rattle.bd_roll.specs.Splitting.{AreSplits, FitsArrange, KeptEntry, MaySplits, SplitEntry, after_arrange, after_split, after_splits, in_place, kept_of, last_grown, last_rows, put_in_place}
use Rattle.bd_roll.proofs.RulesAfterDrop.{obeys_by_rules}
use Rattle.bd_roll.proofs.InPlace.{Named, among, first, later, put_contains, put_differ, put_none, same_or_not, starts}
use Rattle.bd_roll.proofs.RuleLemmas.{IsBounded, Rules, open_ascend, rules_of}
use Rattle.bd_roll.proofs.OwnedByStep.{distinct_ascending}
use Rattle.bd_roll.proofs.RulesAfterSplit.{split_rules}

-- ---- the volumes

-- a volume that grows by nothing
grown_same : (es : List VolumeEntry) → last_grown (λ _. last_rows es) [] es ≡ es
grown_same [] = refl
grown_same (e ∷ []) = ap (λ ns. record { rows = e.rows; extents = ns } ∷ []) (append-nil e.extents)
grown_same (e ∷ second ∷ es) = ap (λ rest. e ∷ rest) (grown_same (second ∷ es))

-- two growths of the last volume are one
grown_twice : (f g : List CategoryRow → List CategoryRow) (xs ys : List ℕ) (es : List VolumeEntry) → last_grown g ys (last_grown f xs es) ≡ last_grown (λ rows. g (f rows)) (xs ++ ys) es
grown_twice f g xs ys [] = refl
grown_twice f g xs ys (e ∷ []) = ap (λ ns. record { rows = g (f e.rows); extents = ns } ∷ []) (append_assoc e.extents xs ys)
grown_twice f g xs ys (e ∷ second ∷ []) = ap (λ ns. e ∷ record { rows = g (f second.rows); extents = ns } ∷ []) (append_assoc second.extents xs ys)
grown_twice f g xs ys (e ∷ second ∷ third ∷ es) = ap (λ rest. e ∷ rest) (grown_twice f g xs ys (second ∷ third ∷ es))

abbrev pub added_by : List SplitEntry → List ℕ
added_by es = flat_map (λ e. e.added) es

splits_volumes : (c : Catalogue) (es : List SplitEntry) → (after_splits c es).volumes ≡ last_grown (λ _. last_rows (after_splits c es).volumes) (added_by es) c.volumes
splits_volumes c [] = sym (grown_same c.volumes)
splits_volumes c (e ∷ es) =
    splits_volumes (after_split c e) es
    ∙ grown_twice (rows_more (max e.start (oldest_in c)) e.chunks e.bytes) (λ _. last_rows (after_splits (after_split c e) es).volumes) e.added (added_by es) c.volumes

-- ---- the open categories

module _ (i : ℕ) (kept : List OpenEntry) where
  put_append : (xs ys : List OpenEntry) → put_in_place i kept (xs ++ ys) ≡ put_in_place i kept xs ++ put_in_place i kept ys
  put_append xs ys = flat_map-append (λ a. cond (nat_eq a.row.start i) kept (a ∷ [])) xs ys

no_other : (i j : ℕ) (kept : List OpenEntry) → i ≢ j → Named i kept → Contains (starts kept) j → ⊥
no_other i j [] differ named has = omega (arith, has.1)
no_other i j (x ∷ kept) differ named has =
    ⊎_elim
    (λ here. differ (sym (named 0 x (omega arith)) ∙ here))
    (λ rest. no_other i j kept differ (λ k d below. named (suc k) d (omega (arith, below))) rest)
    (among x.row.start (starts kept) j has)

-- what stands in place of two categories may come in any order
put_commute : (i j : ℕ) (ks ls cs : List OpenEntry) → i ≢ j → Named i ks → Named j ls → put_in_place i ks (put_in_place j ls cs) ≡ put_in_place j ls (put_in_place i ks cs)
put_commute i j ks ls [] differ named_i named_j = refl
put_commute i j ks ls (a ∷ cs) differ named_i named_j =
    let rest : put_in_place i ks (put_in_place j ls cs) ≡ put_in_place j ls (put_in_place i ks cs) = put_commute i j ks ls cs differ named_i named_j in
    put_append i ks (cond (nat_eq a.row.start j) ls (a ∷ [])) (put_in_place j ls cs)
    ∙ (λ k. here k ++ rest k)
    ∙ sym (put_append j ls (cond (nat_eq a.row.start i) ks (a ∷ [])) (put_in_place i ks cs))
  where
    here : put_in_place i ks (cond (nat_eq a.row.start j) ls (a ∷ [])) ≡ put_in_place j ls (cond (nat_eq a.row.start i) ks (a ∷ []))
    here =
        ⊎_elim
        (λ is_j.
        let not_i : nat_eq a.row.start i ≡ false = ne_eqb a.row.start i (λ e. differ (sym e ∙ is_j)) in
        ap (λ t. put_in_place i ks (cond t ls (a ∷ []))) (eq-eqb a.row.start j is_j)
        ∙ put_none i ks ls (no_other j i ls (λ e. differ (sym e)) named_j)
        ∙ sym (append-nil ls) ∙ sym (ap (λ t. cond t ls (a ∷ []) ++ []) (eq-eqb a.row.start j is_j))
        ∙ sym (ap (λ t. put_in_place j ls (cond t ks (a ∷ []))) not_i))
        (λ not_j.
        let other_j : nat_eq a.row.start j ≡ false = ne_eqb a.row.start j not_j in
        ap (λ t. put_in_place i ks (cond t ls (a ∷ []))) other_j
        ∙ ⊎_elim
        (λ is_i.
        ap (λ t. cond t ks (a ∷ []) ++ []) (eq-eqb a.row.start i is_i) ∙ append-nil ks
        ∙ sym (put_none j ls ks (no_other i j ks differ named_i)) ∙ sym (ap (λ t. put_in_place j ls (cond t ks (a ∷ []))) (eq-eqb a.row.start i is_i)))
        (λ not_i.
        let other_i : nat_eq a.row.start i ≡ false = ne_eqb a.row.start i not_i in
        ap (λ t. cond t ks (a ∷ []) ++ []) other_i
        ∙ sym (ap (λ t. cond t ls (a ∷ []) ++ []) other_j) ∙ sym (ap (λ t. put_in_place j ls (cond t ks (a ∷ []))) other_i))
        (same_or_not a.row.start i))
        (same_or_not a.row.start j)

-- one split may be made before the others or after them
in_place_commute : (es : List KeptEntry) (i : ℕ) (kept cs : List OpenEntry) → (Contains (map (λ e. e.start) es) i → ⊥) → Named i kept → All (λ e. Named e.start e.kept) es →
    in_place es (put_in_place i kept cs) ≡ put_in_place i kept (in_place es cs)
in_place_commute [] i kept cs other named each = refl
in_place_commute (e ∷ es) i kept cs other named each =
    ap (put_in_place e.start e.kept) (in_place_commute es i kept cs (λ has. other (later e.start (map (λ (x : KeptEntry). x.start) es) i has)) named (λ k d below. each (suc k) d (omega (arith, below))))
    ∙ put_commute e.start i e.kept kept (in_place es cs) (λ same. other (first e.start (map (λ (x : KeptEntry). x.start) es) i same)) (each 0 e (omega arith)) named

splits_actives : (c : Catalogue) (es : List SplitEntry) → AreSplits (map kept_of es) c.actives → (after_splits c es).actives ≡ in_place (map kept_of es) c.actives
splits_actives c [] splits = refl
splits_actives c (e ∷ es) splits =
    let at : KeptEntry → ℕ = λ x. x.start in
    let named : All (λ (x : KeptEntry). Named x.start x.kept) (map kept_of es) = λ k d below. splits.named (suc k) d (omega (arith, below)) in
    let rest : AreSplits (map kept_of es) (after_split c e).actives = record {
      apart = distinct_tail e.start (map at (map kept_of es)) splits.apart;
      named = named;
      one = λ k d below. splits.one (suc k) d (omega (arith, below));
      differ = put_differ e.start e.kept c.actives (splits.named 0 (kept_of e) (omega arith)) (splits.one 0 (kept_of e) (omega arith)) splits.differ;
    } in
    splits_actives (after_split c e) es rest
    ∙ in_place_commute (map kept_of es) e.start e.kept c.actives (distinct_head e.start (map at (map kept_of es)) splits.apart) (splits.named 0 (kept_of e) (omega arith)) named

-- ---- the whole catalogue

-- splits change volumes and open categories alone
splits_else : (c : Catalogue) (es : List SplitEntry) → after_splits c es ≡ record c { volumes = (after_splits c es).volumes; actives = (after_splits c es).actives }
splits_else c [] = refl
splits_else c (e ∷ es) = splits_else (after_split c e) es

abbrev settled : Catalogue → Catalogue
settled d = record d { phase = Settled }

-- splits one after the other, and then settled, are one arranging
pub one_arranging : (c : Catalogue) (es : List SplitEntry) → AreSplits (map kept_of es) c.actives →
    after_arrange c (last_rows (after_splits c es).volumes) (added_by es) (map kept_of es) ≡ record (after_splits c es) { phase = Settled }
one_arranging c es splits =
    (λ k. record c { phase = Settled; volumes = sym (splits_volumes c es) k; actives = sym (splits_actives c es splits) k })
    ∙ ap settled (sym (splits_else c es))

-- ---- splits that may be made one after the other

are_named : (s : Sizes) (c : Catalogue) (es : List SplitEntry) → MaySplits s c es → All (λ e. Named e.start e.kept) (map kept_of es)
are_named s c [] may = All-nil (λ e. Named e.start e.kept)
are_named s c (e ∷ es) may = All-cons (λ x. Named x.start x.kept) (kept_of e) (map kept_of es) may.0.kept_starts (are_named s (after_split c e) es may.1)

are_few : (s : Sizes) (c : Catalogue) (es : List SplitEntry) → MaySplits s c es → All (λ e. length e.kept ≤ 1) (map kept_of es)
are_few s c [] may = All-nil (λ e. length e.kept ≤ 1)
are_few s c (e ∷ es) may = All-cons (λ x. length x.kept ≤ 1) (kept_of e) (map kept_of es) may.0.one (are_few s (after_split c e) es may.1)

pub may_splits : (s : Sizes) (c : Catalogue) (es : List SplitEntry) → obeys s c ≡ true → MaySplits s c es → ascends (c.base + 1) c.newest (map (λ e. e.start) (map kept_of es)) ≡ true → AreSplits (map kept_of es) c.actives
may_splits s c es rules may ascend = record {
  apart = distinct_ascending (c.base + 1) c.newest (map (λ (e : KeptEntry). e.start) (map kept_of es)) ascend;
  named = are_named s c es may;
  one = are_few s c es may;
  differ = distinct_ascending (c.base + 1) c.newest (starts c.actives) (open_ascend c (rules_of s c rules).open_starts);
}

-- ---- and its step fits

module _ (s : Sizes) (bounded : IsBounded s) where
  -- after splits that may be made, the rules hold
  pub splits_rules : (c : Catalogue) (es : List SplitEntry) → obeys s c ≡ true → MaySplits s c es → obeys s (after_splits c es) ≡ true
  splits_rules c [] rules may = rules
  splits_rules c (e ∷ es) rules may = splits_rules (after_split c e) es (split_rules s bounded c e rules may.0) may.1

  settled_rules : (c : Catalogue) → obeys s c ≡ true → obeys s (record c { phase = Settled }) ≡ true
  settled_rules c rules =
      let each : Rules s c = rules_of s c rules in
      obeys_by_rules s (record c { phase = Settled })
      (record { numbers = each.numbers; phase = refl; versions = each.versions; starts = each.starts; open_starts = each.open_starts; volumes = each.volumes; actives = each.actives; extents = each.extents })

  abbrev IsOpen : Catalogue → KeptEntry → Type 0
  IsOpen c e = Contains (starts c.actives) e.start

  are_open : (c : Catalogue) (es : List SplitEntry) → MaySplits s c es → All (IsOpen c) (map kept_of es)
  are_open c [] may = All-nil (IsOpen c)
  are_open c (e ∷ es) may =
      All-cons (IsOpen c) (kept_of e) (map kept_of es) may.0.is_open
      (All-weaker (IsOpen (after_split c e)) (IsOpen c) (λ x has. put_contains e.start x.start e.kept c.actives may.0.kept_starts has) (map kept_of es) (are_open (after_split c e) es may.1))

  -- Where each split may be made once the ones before it were, and their starts ascend, the step that makes them at once fits.
  pub arrange_fits : (c : Catalogue) (es : List SplitEntry) → obeys s c ≡ true → c.phase ≢ Settled → MaySplits s c es → ascends (c.base + 1) c.newest (map (λ e. e.start) (map kept_of es)) ≡ true →
      FitsArrange s c (last_rows (after_splits c es).volumes) (added_by es) (map kept_of es)
  arrange_fits c es rules waits may ascend =
      let splits : AreSplits (map kept_of es) c.actives = may_splits s c es rules may ascend in
      record {
        waits = waits;
        rules = subst (λ d. obeys s d ≡ true) (sym (one_arranging c es splits)) (settled_rules (after_splits c es) (splits_rules c es rules may));
        is_open = are_open c es may;
        ascend = ascend;
        named = splits.named;
        one = splits.one;
      }
