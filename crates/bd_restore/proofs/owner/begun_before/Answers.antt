use Rattle.std.proofs.Common.{◌≡◌, ℕ, ◌<◌, ◌≤◌, true, false, List, [], length, get_or, map, nat_lt, ◌∙◌, ap, subst, arith, rules, of_calls, inl, inr}
use Rattle.std.specs.List.Sorted.{IsPartitionPoint}
use Rattle.std.proofs.lemmas.Bool.{cases_lt, lt-ltb, ltb-false, ltb-true}
use Rattle.std.proofs.lemmas.Fn.{always_returns_same}
use Rattle.std.proofs.lemmas.List.{get_or-map, length-map}
use Rattle.bd_roll.specs.Catalogue.{OpenEntry}
use Rattle.bd_roll.specs.Shown.{open_entry}
use Rattle.bd_roll.specs.declared.rows.ActiveCategory.{ActiveCategory}
use Rattle.bd_restore.specs.Owners.{starts_in, AreRising}
use Rattle.bd_restore.proofs.owner.begun_before.Goals as goal

abbrev none : ActiveCategory
none = record { row = record { start = 0; chunks = 0; bytes = 0 }; extents = record { numbers = []; spare = 0 } }

-- a start as it is listed
start_is : (actives : List ActiveCategory) (k : ℕ) (d : ActiveCategory) → k < length actives → get_or (starts_in (map open_entry actives)) k 0 ≡ (get_or actives k d).row.start
start_is actives k d lt =
    let inside : k < length (map open_entry actives) = omega (arith, lt, length-map actives open_entry) in
    get_or-map (λ (e : OpenEntry). e.row.start) (map open_entry actives) k (open_entry d) 0 inside ∙ ap (λ (e : OpenEntry). e.row.start) (get_or-map open_entry actives k d (open_entry d) lt)

counted : (actives : List ActiveCategory) → length (starts_in (map open_entry actives)) ≡ length actives
counted actives = length-map (map open_entry actives) (λ (e : OpenEntry). e.row.start) ∙ length-map actives open_entry

-- none that begins before comes after one that doesn't
parted : (actives : List ActiveCategory) (start : ℕ) → AreRising (starts_in (map open_entry actives)) → (i j : ℕ) (d : ActiveCategory) → i ≤ j → j < length actives → nat_lt (get_or actives j d).row.start start ≡ true → nat_lt (get_or actives i d).row.start start ≡ true
parted actives start rising i j d low lt is =
    let starts = starts_in (map open_entry actives) in
    let upper : (get_or actives j d).row.start < start = ltb-true (get_or actives j d).row.start start is in
    elim (cases_lt i j) [
      | inl less ↦ lt-ltb (get_or actives i d).row.start start (omega (arith, start_is actives i d (omega (arith, low, lt)), start_is actives j d lt, upper, rising.each i j less (omega (arith, lt, counted actives))))
      | inr same ↦ let one : j ≡ i = omega (arith, same, low) in subst (λ k. nat_lt (get_or actives k d).row.start start ≡ true) one is
    ]

pub returns-clause-before : goal.returns-clause-before
returns-clause-before c = λ k lt.
    let actives = c.args.actives.now in
    let point : IsPartitionPoint (λ (a : ActiveCategory). nat_lt a.row.start c.args.start ≡ true) (λ a. nat_lt a.row.start c.args.start ≡ false) actives c.partition_point.result =
    c.partition_point.ensures.partitioned (λ a. nat_lt a.row.start c.args.start) (always_returns_same _ _ _ (λ a r f k. search (rules, of_calls))) (parted actives c.args.start c.requires) in
    omega (arith, start_is actives k none (omega (arith, lt, c.partition_point.ensures.bound)), ltb-true (get_or actives k none).row.start c.args.start (point.0 k none (omega arith) lt))

pub returns-clause-behind : goal.returns-clause-behind
returns-clause-behind c = λ k low lt.
    let actives = c.args.actives.now in
    let point : IsPartitionPoint (λ (a : ActiveCategory). nat_lt a.row.start c.args.start ≡ true) (λ a. nat_lt a.row.start c.args.start ≡ false) actives c.partition_point.result =
    c.partition_point.ensures.partitioned (λ a. nat_lt a.row.start c.args.start) (always_returns_same _ _ _ (λ a r f k. search (rules, of_calls))) (parted actives c.args.start c.requires) in
    omega (arith, start_is actives k none lt, ltb-false (get_or actives k none).row.start c.args.start (point.1 k none low lt))
