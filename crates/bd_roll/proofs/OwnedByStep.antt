-- What a catalogue owns before a step, with what the step brings, is what it owns afterwards and what the step gives up.
use Rattle.std.proofs.Common.{◌≡◌, ◌≢◌, ⊎_elim, ℕ, zero, suc, ◌+◌, ◌<◌, ◌≤◌, true, false, cond, ◌&&◌, nat_eq, nat_le, List, [], ◌∷◌, ◌++◌, length, map, take, drop, refl, sym, ◌∙◌, ap, arith, subst, append_assoc}
use Rattle.std.specs.Prelude.{All, Contains, IsPermutation, ◌==◌}
use Rattle.std.specs.List.{flat_map, IsDistinct}
use Rattle.std.proofs.lemmas.Bool.{cases_lt, leb-true}
use Rattle.bd_model.proofs.ListLemmas.{left_and, right_and}
use Rattle.bd_model.specs.Sizes.{Sizes}
use Rattle.bd_model.specs.declared.layout.CategoryRow.{CategoryRow}
use Rattle.bd_space.proofs.Distinct.{distinct_cons, distinct_tail}
use Rattle.std.proofs.lemmas.List.{append-nil}
use Rattle.std.proofs.lemmas.List.Sorted.{IsPermutation-refl, IsPermutation-append_left, IsPermutation-append_right, IsPermutation-append_comm}
use Rattle.std.proofs.lemmas.Grind.{flat_map-append}
use Rattle.bd_roll.specs.Catalogue.{Catalogue, VersionEntry, VolumeEntry, OpenEntry, all_extents, emptied_catalogue, oldest_in, retained_in}
use Rattle.bd_model.specs.declared.layout.Phase.{Phase}
use Rattle.bd_model.specs.declared.layout.Phase.TheVariants.{Settled, Waiting}
use Rattle.bd_roll.specs.Growing.{with_entries, empty_volume, after_backup}
use Rattle.bd_roll.specs.declared.step.Step.{Step}
use Rattle.bd_roll.specs.declared.step.Step.TheVariants.{Backup, Expire, Arrange}
use Rattle.bd_roll.specs.Shown.{version_entry}
use Rattle.bd_roll.specs.Splitting.{KeptEntry, AreSplits, FitsArrange, after_arrange, after_drop, begun_from, dropped_by, extents_at, fewer_in, in_place, kept_extents, last_grown, put_in_place, replaced}
use Rattle.bd_roll.specs.Rules.{ascends, obeys}
use Rattle.bd_roll.specs.Steps.{Fits, brought, dropped, fresh_actives, kept_entry, stepped}
use Rattle.bd_roll.proofs.CountedNumbers.{permutation_by_times, times, times-append}
use Rattle.bd_roll.proofs.InPlace.{NextSplit, among, at_head, at_later, next_split, put_head, put_later, same_or_not, starts}
use Rattle.bd_roll.proofs.RuleLemmas.{NumbersHold, numbers_of, open_ascend, rules_of, settled_with_few}

same_lists : (xs ys : List ℕ) → xs ≡ ys → IsPermutation xs ys
same_lists xs ys same = subst (IsPermutation xs) same (IsPermutation-refl xs)

-- one list put in behind the first of three, and one behind the last
put_between : (versions volumes actives own fresh : List ℕ) → IsPermutation (((versions ++ volumes) ++ actives) ++ (own ++ fresh)) (((versions ++ own) ++ volumes) ++ (actives ++ fresh))
put_between versions volumes actives own fresh =
    let before : (((versions ++ volumes) ++ actives) ++ own) ++ fresh ≡ ((versions ++ volumes) ++ actives) ++ (own ++ fresh) = append_assoc ((versions ++ volumes) ++ actives) own fresh in
    let front : versions ++ ((volumes ++ actives) ++ own) ≡ ((versions ++ volumes) ++ actives) ++ own =
    sym (append_assoc versions (volumes ++ actives) own) ∙ ap (λ (xs : List ℕ). xs ++ own) (sym (append_assoc versions volumes actives)) in
    let back : versions ++ (own ++ (volumes ++ actives)) ≡ ((versions ++ own) ++ volumes) ++ actives = sym (append_assoc versions own (volumes ++ actives)) ∙ sym (append_assoc (versions ++ own) volumes actives) in
    let moved : IsPermutation (versions ++ ((volumes ++ actives) ++ own)) (versions ++ (own ++ (volumes ++ actives))) = IsPermutation-append_right versions _ _ (IsPermutation-append_comm (volumes ++ actives) own) in
    let placed : IsPermutation (((versions ++ volumes) ++ actives) ++ own) (((versions ++ own) ++ volumes) ++ actives) =
    subst (λ xs. IsPermutation xs (((versions ++ own) ++ volumes) ++ actives)) front (subst (IsPermutation (versions ++ ((volumes ++ actives) ++ own))) back moved) in
    subst (λ xs. IsPermutation xs (((versions ++ own) ++ volumes) ++ (actives ++ fresh))) before
    (subst (IsPermutation ((((versions ++ volumes) ++ actives) ++ own) ++ fresh)) (append_assoc ((versions ++ own) ++ volumes) actives fresh)
    (IsPermutation-append_left fresh _ _ placed))

-- a catalogue with a version more, and more open categories, and more volumes that own nothing
own-with_entries : (c : Catalogue) (phase : Phase) (entry : VersionEntry) (volumes : List VolumeEntry) (actives : List OpenEntry) → flat_map (λ (e : VolumeEntry). e.extents) volumes ≡ [] →
    IsPermutation (all_extents c ++ (entry.extents ++ flat_map (λ (e : OpenEntry). e.extents) actives)) (all_extents (with_entries c phase entry volumes actives))
own-with_entries c phase entry volumes actives nothing =
    let version : VersionEntry → List ℕ = λ e. e.extents in
    let volume : VolumeEntry → List ℕ = λ e. e.extents in
    let active : OpenEntry → List ℕ = λ e. e.extents in
    let first : flat_map version c.versions ++ entry.extents ≡ flat_map version (c.versions ++ entry ∷ []) =
    ap (λ (xs : List ℕ). flat_map version c.versions ++ xs) (sym (append-nil entry.extents)) ∙ sym (flat_map-append version c.versions (entry ∷ [])) in
    let second : flat_map volume c.volumes ≡ flat_map volume (c.volumes ++ volumes) =
    sym (append-nil (flat_map volume c.volumes)) ∙ ap (λ (xs : List ℕ). flat_map volume c.volumes ++ xs) (sym nothing) ∙ sym (flat_map-append volume c.volumes volumes) in
    let third : flat_map active c.actives ++ flat_map active actives ≡ flat_map active (c.actives ++ actives) = sym (flat_map-append active c.actives actives) in
    let same : ((flat_map version c.versions ++ entry.extents) ++ flat_map volume c.volumes) ++ (flat_map active c.actives ++ flat_map active actives) ≡ all_extents (with_entries c phase entry volumes actives) =
    λ k. (first k ++ second k) ++ third k in
    subst (IsPermutation (all_extents c ++ (entry.extents ++ flat_map active actives))) same
    (put_between (flat_map version c.versions) (flat_map volume c.volumes) (flat_map active c.actives) entry.extents (flat_map active actives))

pub own-backup : (c : Catalogue) (entry : VersionEntry) (fresh : List OpenEntry) → IsPermutation (all_extents c ++ (entry.extents ++ flat_map (λ (e : OpenEntry). e.extents) fresh)) (all_extents (after_backup c entry fresh))
own-backup c entry fresh =
    elim (retained_in c == 0)
    as (λ t. IsPermutation (all_extents c ++ (entry.extents ++ flat_map (λ (e : OpenEntry). e.extents) fresh)) (all_extents (cond t (with_entries c Settled entry [] fresh) (with_entries c (Waiting (c.base + 1)) entry (empty_volume ∷ []) fresh)))) [
      | true ↦ own-with_entries c Settled entry [] fresh refl
      | false ↦ own-with_entries c (Waiting (c.base + 1)) entry (empty_volume ∷ []) fresh refl
    ]

-- ---- splits

abbrev pub in_categories : List OpenEntry → List ℕ
in_categories cs = flat_map (λ a. a.extents) cs

-- what is kept of one category comes, and what the category had goes
pub put_times : (n i : ℕ) (kept cs : List OpenEntry) → IsDistinct nat_eq (starts cs) → Contains (starts cs) i →
    times n (in_categories cs) + times n (in_categories kept) ≡ times n (in_categories (put_in_place i kept cs)) + times n (extents_at i cs)
put_times n i kept [] differ has = absurd (omega (arith, has.1))
put_times n i kept (a ∷ cs) differ has =
    ⊎_elim
    (λ same.
    let put : in_categories (put_in_place i kept (a ∷ cs)) ≡ in_categories kept ++ in_categories cs =
    ap in_categories (put_head i a cs kept differ same) ∙ flat_map-append (λ (x : OpenEntry). x.extents) kept cs in
    omega (arith, ap (times n) put, times-append n (in_categories kept) (in_categories cs), ap (times n) (at_head i a cs differ same), times-append n a.extents (in_categories cs)))
    (λ other.
    let rest : Contains (starts cs) i = ⊎_elim (λ same. absurd (other same)) (λ later. later) (among a.row.start (starts cs) i has) in
    omega (
      arith,
      ap (λ xs. times n (in_categories xs)) (put_later i a cs kept other),
      times-append n a.extents (in_categories (put_in_place i kept cs)),
      times-append n a.extents (in_categories cs),
      ap (times n) (at_later i a cs other),
      put_times n i kept cs (distinct_tail a.row.start (starts cs) differ) rest,
    ))
    (same_or_not a.row.start i)

place_times : (n : ℕ) (es : List KeptEntry) (cs : List OpenEntry) → AreSplits es cs → All (λ e. Contains (starts cs) e.start) es →
    times n (in_categories cs) + times n (kept_extents es) ≡ times n (in_categories (in_place es cs)) + times n (replaced es cs)
place_times n [] cs splits is_open = refl
place_times n (e ∷ es) cs splits is_open =
    let next : NextSplit e es cs = next_split e es cs splits (is_open 0 e (omega arith)) in
    omega (
      arith,
      times-append n (in_categories e.kept) (kept_extents es),
      times-append n (extents_at e.start cs) (replaced es cs),
      place_times n es cs next.others (λ k d below. is_open (suc k) d (omega (arith, below))),
      put_times n e.start e.kept (in_place es cs) next.differ next.there,
      ap (times n) next.same,
    )

pub last_times : (n : ℕ) (f : List CategoryRow → List CategoryRow) (added : List ℕ) (es : List VolumeEntry) → 1 ≤ length es →
    times n (flat_map (λ e. e.extents) (last_grown f added es)) ≡ times n (flat_map (λ e. e.extents) es) + times n added
last_times n f added [] some = absurd (omega (arith, some))
last_times n f added (e ∷ []) some =
    omega (arith, times-append n (e.extents ++ added) [], times-append n e.extents added, times-append n e.extents [])
last_times n f added (e ∷ second ∷ es) some =
    let ext : VolumeEntry → List ℕ = λ x. x.extents in
    omega (
      arith,
      times-append n e.extents (flat_map ext (last_grown f added (second ∷ es))),
      times-append n e.extents (flat_map ext (second ∷ es)),
      last_times n f added (second ∷ es) (omega arith),
    )

-- how often a number is owned
pub all_times : (n : ℕ) (c : Catalogue) →
    times n (all_extents c) ≡ times n (flat_map (λ e. e.extents) c.versions) + times n (flat_map (λ e. e.extents) c.volumes) + times n (flat_map (λ e. e.extents) c.actives)
all_times n c =
    let versions : List ℕ = flat_map (λ (e : VersionEntry). e.extents) c.versions in
    let volumes : List ℕ = flat_map (λ (e : VolumeEntry). e.extents) c.volumes in
    omega (arith, times-append n (versions ++ volumes) (flat_map (λ (e : OpenEntry). e.extents) c.actives), times-append n versions volumes)

own-arrange : (c : Catalogue) (rows : List CategoryRow) (added : List ℕ) (es : List KeptEntry) → 1 ≤ length c.volumes → AreSplits es c.actives → All (λ e. Contains (starts c.actives) e.start) es →
    IsPermutation (all_extents c ++ (added ++ kept_extents es)) (all_extents (after_arrange c rows added es) ++ replaced es c.actives)
own-arrange c rows added es some splits is_open =
    permutation_by_times _ _ (λ n.
    let after : Catalogue = after_arrange c rows added es in
    omega (
      arith,
      times-append n (all_extents c) (added ++ kept_extents es),
      times-append n added (kept_extents es),
      times-append n (all_extents after) (replaced es c.actives),
      all_times n c,
      all_times n after,
      last_times n (λ _. rows) added c.volumes some,
      place_times n es c.actives splits is_open,
    ))

-- ---- an expiry

front_and_rest : {X : Type 0} (f : X → List ℕ) (n d : ℕ) (xs : List X) → times n (flat_map f xs) ≡ times n (flat_map f (take d xs)) + times n (flat_map f (drop d xs))
front_and_rest f n zero xs = omega arith
front_and_rest f n (suc d) [] = omega arith
front_and_rest f n (suc d) (x ∷ xs) = omega (arith, front_and_rest f n d xs, times-append n (f x) (flat_map f xs), times-append n (f x) (flat_map f (take d xs)))

same_extents : (r : ℕ) (es : List VolumeEntry) → flat_map (λ e. e.extents) (map (begun_from r) es) ≡ flat_map (λ (e : VolumeEntry). e.extents) es
same_extents r [] = refl
same_extents r (e ∷ es) = ap (λ ns. e.extents ++ ns) (same_extents r es)

pub own-drop : (d : ℕ) (c : Catalogue) → IsPermutation (all_extents c ++ []) (all_extents (after_drop d c) ++ dropped_by d c)
own-drop d c =
    let rest : Catalogue = fewer_in d c in
    let version : VersionEntry → List ℕ = λ e. e.extents in
    let volume : VolumeEntry → List ℕ = λ e. e.extents in
    let gone : List ℕ = flat_map version (take d c.versions) ++ flat_map volume (take d c.volumes) in
    elim (nat_le (retained_in c) d) as (λ t. IsPermutation (all_extents c ++ []) (all_extents (cond t (emptied_catalogue c) rest) ++ cond t (all_extents c) gone)) [
      | true ↦ same_lists (all_extents c ++ []) (all_extents c) (append-nil (all_extents c))
      | false ↦ permutation_by_times _ _ (λ n. omega (
        arith,
        times-append n (all_extents c) [],
        times-append n (all_extents rest) gone,
        times-append n (flat_map version (take d c.versions)) (flat_map volume (take d c.volumes)),
        all_times n c,
        all_times n rest,
        front_and_rest version n d c.versions,
        front_and_rest volume n d c.volumes,
        ap (times n) (same_extents (oldest_in c + d) (drop d c.volumes)),
      ))
    ]

-- ---- any step

-- numbers that ascend differ
pub distinct_ascending : (low high : ℕ) (ns : List ℕ) → ascends low high ns ≡ true → IsDistinct nat_eq ns
unfolding IsDistinct
distinct_ascending low high [] h = tt
distinct_ascending low high (n ∷ ns) h =
    let bounds = nat_le low n && nat_le n high in
    let rest : ascends (n + 1) high ns ≡ true = right_and bounds (ascends (n + 1) high ns) h in
    distinct_cons n ns (λ has. below_none (n + 1) high ns rest n (omega arith) has) (distinct_ascending (n + 1) high ns rest)
  where
    below_none : (low high : ℕ) (ns : List ℕ) → ascends low high ns ≡ true → (k : ℕ) → k < low → Contains ns k → ⊥
    below_none low high [] h k less has = omega (arith, has.1)
    below_none low high (n ∷ ns) h k less has =
        let bounds = nat_le low n && nat_le n high in
        let above : low ≤ n = leb-true low n (left_and (nat_le low n) (nat_le n high) (left_and bounds (ascends (n + 1) high ns) h)) in
        ⊎_elim (λ same. omega (arith, same, above, less)) (λ later. below_none (n + 1) high ns (right_and bounds (ascends (n + 1) high ns) h) k (omega (arith, above, less)) later) (among n ns k has)

-- splits that ascend, of open categories that ascend, are of different ones
pub fit_splits : (s : Sizes) (c : Catalogue) (rows : List CategoryRow) (added : List ℕ) (es : List KeptEntry) → obeys s c ≡ true → FitsArrange s c rows added es → AreSplits es c.actives
fit_splits s c rows added es rules fits = record {
  apart = distinct_ascending (c.base + 1) c.newest (map (λ e. e.start) es) fits.ascend;
  named = fits.named;
  one = fits.one;
  differ = distinct_ascending (c.base + 1) c.newest (map (λ a. a.row.start) c.actives) (open_ascend c (rules_of s c rules).open_starts);
}

-- a catalogue that waits has a closed volume
pub waiting_volume : (s : Sizes) (c : Catalogue) → obeys s c ≡ true → c.phase ≢ Settled → 1 ≤ length c.volumes
waiting_volume s c rules waits =
    let numbers : NumbersHold s c = numbers_of s c (rules_of s c rules).numbers in
    ⊎_elim (λ few. absurd (waits (settled_with_few s c rules (omega (arith, few))))) (λ two. omega (arith, numbers.volumes, two)) (cases_lt (retained_in c) 2)

-- what is owned before, with what the step brings, is what is owned afterwards and what the step gives up
pub own-stepped : (s : Sizes) (c : Catalogue) (step : Step) → obeys s c ≡ true → Fits s c step → IsPermutation (all_extents c ++ brought step) (all_extents (stepped c step) ++ dropped c step)
own-stepped s c (Backup version fresh) rules fits =
    let after : List ℕ = all_extents (after_backup c (version_entry version) (fresh_actives fresh)) in
    subst (IsPermutation (all_extents c ++ brought (Backup version fresh))) (sym (append-nil after)) (own-backup c (version_entry version) (fresh_actives fresh))
own-stepped s c Expire rules fits = own-drop 1 c
own-stepped s c (Arrange volume splits) rules fits =
    own-arrange c volume.rows.items volume.extents.numbers (map kept_entry splits.items) (waiting_volume s c rules fits.waits)
    (fit_splits s c volume.rows.items volume.extents.numbers (map kept_entry splits.items) rules fits) fits.is_open
