-- What was moved lies in extents that the arranged catalogue owns, so that an image with the same bytes there is arranged too.
use Rattle.std.proofs.Common.{◌≡◌, ⊎_elim, ℕ, zero, suc, ◌+◌, ◌-◌, true, false, cond, Bool, List, [], ◌∷◌, ◌++◌, length, map, filter, flat_map, nat_eq, refl, sym, ◌∙◌, ap, subst, arith}
use Rattle.std.specs.Prelude.{All, Contains, IsTrue}
use Rattle.std.specs.List.{IsDistinct}
use Rattle.std.proofs.lemmas.List.Elements.{All-contains_itself, All-weaker, Contains-append_cases, Contains-append_left, Contains-append_right}
use Rattle.bd_disk.specs.Images.{Agree, InRange}
use Rattle.bd_disk.proofs.AgreeLemmas.{agree_fewer}
use Rattle.bd_model.specs.Sizes.{Sizes, extent_place}
use Rattle.bd_model.specs.declared.layout.Phase.TheVariants.{Settled}
use Rattle.bd_space.proofs.Distinct.{distinct_head, distinct_tail}
use Rattle.bd_roll.specs.Catalogue.{Catalogue, OpenEntry, VersionEntry, VolumeEntry, all_extents}
use Rattle.bd_roll.specs.Rules.{ascends, obeys}
use Rattle.bd_roll.specs.Splitting.{AreSplits, MaySplits, SplitEntry, after_split, after_splits, extents_at, kept_of, last_extents}
use Rattle.bd_roll.proofs.RulesAfterDrop.{ascends_cons, ascends_first}
use Rattle.bd_roll.proofs.InPlace.{at_other, first, later, put_differ, starts}
use Rattle.bd_roll.proofs.RuleLemmas.{open_ascend, rules_of}
use Rattle.bd_roll.proofs.SplitsAsOne.{may_splits, one_arranging}
use Rattle.bd_roll.proofs.OwnedByStep.{in_categories}
use Rattle.bd_roll.proofs.RulesAfterSplit.{ascends_lower}
use Rattle.bd_catalog.specs.Agreement.{InExtents}
use Rattle.bd_catalog.specs.Opening.{Found}
use Rattle.bd_catalog.specs.Standing.{BeginWith}
use Rattle.bd_catalog.proofs.AgreeLemmas.{begin_with_agrees}
use Rattle.bd_volume.proofs.Unnamed.{in_flat}
use Rattle.bd_arrange.specs.Arranged.{IsArrangedFrom}
use Rattle.bd_arrange.specs.Turns.{Ground, Turns, due, ground, grown_bytes, is_due, taken_by}
use Rattle.bd_arrange.proofs.OpenRows.{at_put}
use Rattle.bd_arrange.proofs.TurnFrame.{last_among_all}
use Rattle.bd_arrange.proofs.TakingTurns.{KeptStays, turns_later}

abbrev splits_starts : List SplitEntry → List ℕ
splits_starts es = map (λ e. e.start) (map kept_of es)

-- ---- the starts of splits ascend

some_ascend : (p : OpenEntry → Bool) (low high : ℕ) (cs : List OpenEntry) → ascends low high (starts cs) ≡ true → ascends low high (starts (filter p cs)) ≡ true
some_ascend p low high [] up = refl
some_ascend p low high (a ∷ cs) up =
    let next = ascends_first low high a.row.start (starts cs) up in
    let rest = some_ascend p (a.row.start + 1) high cs next.rest in
    elim (p a) as (λ b. ascends low high (starts (cond b (a ∷ filter p cs) (filter p cs))) ≡ true) [
      | true ↦ ascends_cons low high a.row.start (starts (filter p cs)) next.above next.below rest
      | false ↦ ascends_lower low (a.row.start + 1) high (starts (filter p cs)) (omega (arith, next.above)) rest
    ]

turns_ascend : (g : Ground) (now : List ℕ) (free : ℕ) (c : Catalogue) (low high : ℕ) (done : List OpenEntry) (es : List SplitEntry) → ascends low high (starts done) ≡ true → Turns g now free c done es → ascends low high (splits_starts es) ≡ true
turns_ascend g now free c low high [] es up turns = ap (λ xs. ascends low high (splits_starts xs)) turns
turns_ascend g now free c low high (a ∷ done) es up turns =
    let next = ascends_first low high a.row.start (starts done) up in
    ⊎_elim
    (λ left. ascends_lower low (a.row.start + 1) high (splits_starts es) (omega (arith, next.above)) (turns_ascend g now free c (a.row.start + 1) high done es next.rest left.1))
    (λ splits.
    let e = splits.0 in
    let rest = splits.1 in
    let more : ascends (a.row.start + 1) high (splits_starts rest) ≡ true = turns_ascend g now (free - taken_by e) (after_split c e) (a.row.start + 1) high done rest next.rest splits.4 in
    ap (λ xs. ascends low high (splits_starts xs)) splits.2
    ∙ subst (λ n. ascends low high (n ∷ splits_starts rest) ≡ true) (sym splits.3.start) (ascends_cons low high a.row.start (splits_starts rest) next.above next.below more))
    turns

pub splits_ascend : (g : Ground) (now : List ℕ) (free : ℕ) (c : Catalogue) (es : List SplitEntry) → IsTrue (obeys g.sizes c) → Turns g now free c (due c) es → ascends (c.base + 1) c.newest (splits_starts es) ≡ true
splits_ascend g now free c es rules turns =
    turns_ascend g now free c (c.base + 1) c.newest (due c) es (some_ascend (is_due c.newest c.phase) (c.base + 1) c.newest c.actives (open_ascend c (rules_of g.sizes c rules).open_starts)) turns

-- ---- what is kept of a split stands in the catalogue

at_among : (i : ℕ) (cs : List OpenEntry) (n : ℕ) → Contains (extents_at i cs) n → Contains (in_categories cs) n
at_among i [] n has = has
at_among i (a ∷ cs) n has =
    elim (nat_eq a.row.start i) as (λ t. Contains (in_categories (cond t (a ∷ filter (λ x. nat_eq x.row.start i) cs) (filter (λ x. nat_eq x.row.start i) cs))) n → Contains (a.extents ++ in_categories cs) n) [
      | true ↦ λ all. ⊎_elim (λ own. Contains-append_left a.extents (in_categories cs) n own) (λ rest. Contains-append_right a.extents (in_categories cs) n (at_among i cs n rest)) (Contains-append_cases a.extents (extents_at i cs) n all)
      | false ↦ λ rest. Contains-append_right a.extents (in_categories cs) n (at_among i cs n rest)
    ] has

module _ (s : Sizes) where
  at_splits : (c : Catalogue) (es : List SplitEntry) (j : ℕ) → (Contains (splits_starts es) j → ⊥) → MaySplits s c es → extents_at j (after_splits c es).actives ≡ extents_at j c.actives
  at_splits c [] j other may = refl
  at_splits c (e ∷ es) j other may =
      at_splits (after_split c e) es j (λ has. other (later e.start (splits_starts es) j has)) may.1
      ∙ at_other e.start j e.kept c.actives (λ same. other (first e.start (splits_starts es) j same)) may.0.kept_starts

  kept_owned : (c : Catalogue) (es : List SplitEntry) → IsDistinct nat_eq (starts c.actives) → IsDistinct nat_eq (splits_starts es) → MaySplits s c es → (e : SplitEntry) → Contains es e → (n : ℕ) → Contains (in_categories e.kept) n → Contains (in_categories (after_splits c es).actives) n
  kept_owned c [] differ apart may e has n own = absurd (omega (arith, has.1))
  kept_owned c (x ∷ es) differ apart may e (zero, lt, at) n own =
      let stays : extents_at x.start (after_splits (after_split c x) es).actives ≡ in_categories x.kept =
      at_splits (after_split c x) es x.start (distinct_head x.start (splits_starts es) apart) may.1 ∙ at_put x.start x.kept c.actives differ may.0.is_open may.0.kept_starts may.0.one in
      at_among x.start (after_splits (after_split c x) es).actives n (subst (λ ns. Contains ns n) (sym stays) (subst (λ (y : SplitEntry). Contains (in_categories y.kept) n) (sym at) own))
  kept_owned c (x ∷ es) differ apart may e (suc k, lt, at) n own =
      kept_owned (after_split c x) es (put_differ x.start x.kept c.actives may.0.kept_starts may.0.one differ) (distinct_tail x.start (splits_starts es) apart) may.1 e (k, omega (arith, lt), at) n own

-- ---- an image with the same bytes in each owner's extents

module _ (held : ℕ) (found after : Found) (old now image : List ℕ) (rules : IsTrue (obeys found.sizes found.catalogue)) (is : IsArrangedFrom held found after old now)
    (agree : Agree (InExtents after.sizes (all_extents after.catalogue)) now image) where
  abbrev s : Sizes
  s = found.sizes

  abbrev c : Catalogue
  c = found.catalogue

  abbrev es : List SplitEntry
  es = is.splits

  abbrev g : Ground
  g = ground s is.entries old

  abbrev free : ℕ
  free = s.extents - held - length (all_extents c)

  splits : AreSplits (map kept_of es) c.actives
  splits = may_splits s c es rules is.turns.may (splits_ascend g now free c es rules is.turns.turns)

  one : after.catalogue ≡ record (after_splits c es) { phase = Settled }
  one = is.catalogue ∙ one_arranging c es splits

  agree_owner : (extents : List ℕ) → ((n : ℕ) → Contains extents n → Contains (all_extents (after_splits c es)) n) → Agree (InExtents s extents) now image
  agree_owner extents owned = agree_fewer _ (InExtents s extents) now image (λ place inside. record {
    extent = inside.extent;
    among = subst (λ (d : Catalogue). Contains (all_extents d) inside.extent) (sym one) (owned inside.extent inside.among);
    within = subst (λ (t : Sizes). InRange (extent_place t inside.extent) t.extent place) (sym is.sizes) inside.within;
  }) agree

  kept_among_all : (e : SplitEntry) → Contains es e → (k : OpenEntry) → Contains e.kept k → (n : ℕ) → Contains k.extents n → Contains (all_extents (after_splits c es)) n
  kept_among_all e among k own n has =
      let d = after_splits c es in
      Contains-append_right (flat_map (λ (x : VersionEntry). x.extents) d.versions ++ flat_map (λ (x : VolumeEntry). x.extents) d.volumes) (in_categories d.actives) n
      (kept_owned s c es splits.differ splits.apart is.turns.may e among n (in_flat (λ (x : OpenEntry). x.extents) e.kept k n own has))

  stay : All (KeptStays g now image) es
  stay =
      All-weaker (Contains es) (KeptStays g now image)
      (λ e among bytes. All-weaker (Contains e.kept) (λ (k : OpenEntry). BeginWith s k.extents bytes now → BeginWith s k.extents bytes image)
      (λ k own begins. begin_with_agrees s k.extents bytes now image (agree_owner k.extents (kept_among_all e among k own)) begins) e.kept (All-contains_itself e.kept))
      es (All-contains_itself es)

  pub arranged_stays : IsArrangedFrom held found after old image
  arranged_stays = record {
    entries = is.entries;
    newest = is.newest;
    splits = es;
    turns = record {
      turns = turns_later g now image free c (due c) es stay is.turns.turns;
      may = is.turns.may;
      volume = begin_with_agrees s (last_extents (after_splits c es).volumes) (grown_bytes g c es) now image (agree_owner (last_extents (after_splits c es).volumes) (last_among_all (after_splits c es))) is.turns.volume;
    };
    sizes = is.sizes;
    catalogue = is.catalogue;
  }
