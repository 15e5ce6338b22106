-- The catalogue with a new version obeys the rules.
use Rattle.std.proofs.Common.{◌≡◌, ℕ, ◌+◌, ◌-◌, ◌*◌, ◌^◌, ◌<◌, ◌≤◌, Bool, true, false, cond, not, ◌&&◌, ◌||◌, List, [], ◌∷◌, ◌++◌, length, map, flat_map, refl, sym, ◌∙◌, ap, subst, arith, nat_lt, nat_le, nat_eq, eq-eqb, lt-ltb, length-append}
use Rattle.std.specs.Prelude.{All, IsPermutation, ◌==◌}
use Rattle.std.specs.List.{AllByRecursion, list_all, list_any, IsDistinct}
use Rattle.std.proofs.lemmas.Bool.{and_from, eqb-true, le-leb, leb-true}
use Rattle.std.proofs.lemmas.List.{map-append}
use Rattle.std.proofs.lemmas.List.Elements.{All-from_recursion, recursion_from_All}
use Rattle.std.proofs.lemmas.List.Folds.{list_all-append}
use Rattle.std.proofs.lemmas.List.Sorted.{All-permutation}
use Rattle.std.proofs.lemmas.Map.Keys.{IsDistinct-IsPermutation}
use Rattle.bd_model.specs.Sizes.{Sizes}
use Rattle.bd_model.specs.Room.{up}
use Rattle.bd_model.specs.declared.layout.Phase.{Phase}
use Rattle.bd_model.specs.declared.layout.Phase.TheVariants.{Settled, Waiting}
use Rattle.bd_model.proofs.ListLemmas.{left_and, right_and}
use Rattle.bd_model.proofs.RoomLemmas.{up-zero}
use Rattle.bd_roll.specs.Catalogue.{Catalogue, VersionEntry, VolumeEntry, OpenEntry, all_extents, oldest_in, retained_in, row_starts}
use Rattle.bd_roll.specs.Growing.{after_backup, empty_volume, with_entries}
use Rattle.bd_roll.specs.Rules.{obeys, ascends, all_differ, numbers_hold, phase_holds, version_holds, starts_hold, actives_hold, volume_holds, row_holds, active_holds, extents_hold, fits_eight}
use Rattle.bd_roll.specs.Steps.{FitsBackup}
use Rattle.bd_roll.proofs.RuleLemmas.{Rules, NumbersHold, numbers_of, rules_of}
use Rattle.bd_roll.proofs.OwnedByStep.{own-backup}

-- ---- lists of extents

none_equal : (n : ℕ) (ns : List ℕ) → AllByRecursion (λ y. nat_eq n y ≡ false) ns → list_any (nat_eq n) ns ≡ false
none_equal n [] all = refl
none_equal n (m ∷ ns) all = (λ k. all.0 k || list_any (nat_eq n) ns) ∙ none_equal n ns all.1

pub all_differ-once : (ns : List ℕ) → IsDistinct nat_eq ns → all_differ ns ≡ true
unfolding IsDistinct
all_differ-once [] once = refl
all_differ-once (n ∷ ns) once = and_from (not (list_any (nat_eq n) ns)) (all_differ ns) (ap not (none_equal n ns once.0)) (all_differ-once ns once.1)

pub all_below : (top : ℕ) (ns : List ℕ) → AllByRecursion (λ n. n < top) ns → list_all (λ n. nat_lt n top) ns ≡ true
all_below top [] all = refl
all_below top (n ∷ ns) all = and_from (nat_lt n top) (list_all (λ m. nat_lt m top) ns) (lt-ltb n top all.0) (all_below top ns all.1)

-- ---- the parts

pub record VersionFacts (s : Sizes) (e : VersionEntry) : Type 0 where
  pub fresh : e.fresh ≤ e.chunks
  pub some : e.chunks ≤ e.length
  pub short : e.length ≤ s.max * e.chunks
  pub extents : length e.extents ≡ up s.extent (40 * e.chunks)
  pub most : s.max * e.chunks < 2 ^ 64
  pub entries : 40 * e.chunks < 2 ^ 64

version-holds : (s : Sizes) (e : VersionEntry) → VersionFacts s e → version_holds s e ≡ true
version-holds s e f =
    let one = nat_le e.fresh e.chunks in
    let two = nat_le e.chunks e.length in
    let three = nat_le e.length (s.max * e.chunks) in
    let four = length e.extents == up s.extent (40 * e.chunks) in
    let five = fits_eight (s.max * e.chunks) in
    let six = fits_eight (40 * e.chunks) in
    and_from (one && two && three && four && five && six) (fits_eight e.length)
    (and_from (one && two && three && four && five) six
    (and_from (one && two && three && four) five
    (and_from (one && two && three) four
    (and_from (one && two) three
    (and_from one two (le-leb e.fresh e.chunks f.fresh) (le-leb e.chunks e.length f.some))
    (le-leb e.length (s.max * e.chunks) f.short))
    (eq-eqb (length e.extents) (up s.extent (40 * e.chunks)) f.extents))
    (lt-ltb (s.max * e.chunks) (2 ^ 64) f.most))
    (lt-ltb (40 * e.chunks) (2 ^ 64) f.entries))
    (lt-ltb e.length (2 ^ 64) (omega (arith, f.short, f.most)))

pub record CategoryFacts (s : Sizes) (e : OpenEntry) : Type 0 where
  pub some : 1 ≤ e.row.chunks
  pub low : 37 * e.row.chunks ≤ e.row.bytes
  pub high : e.row.bytes ≤ (36 + s.max) * e.row.chunks
  pub fits : (36 + s.max) * e.row.chunks < 2 ^ 64
  pub extents : length e.extents ≡ up s.extent e.row.bytes

category_is : (s : Sizes) (e : OpenEntry) → CategoryFacts s e → active_holds s e ≡ true
category_is s e f =
    let n = e.row.chunks in
    let one = nat_le 1 n in
    let two = nat_le (37 * n) e.row.bytes in
    let three = nat_le e.row.bytes ((36 + s.max) * n) in
    and_from (row_holds s e.row) (length e.extents == up s.extent e.row.bytes)
    (and_from (one && two && three) (fits_eight ((36 + s.max) * n))
    (and_from (one && two) three
    (and_from one two (le-leb 1 n f.some) (le-leb (37 * n) e.row.bytes f.low))
    (le-leb e.row.bytes ((36 + s.max) * n) f.high))
    (lt-ltb ((36 + s.max) * n) (2 ^ 64) f.fits))
    (eq-eqb (length e.extents) (up s.extent e.row.bytes) f.extents)

-- at most one category, and it begins with the version
pub record FreshFacts (s : Sizes) (start count : ℕ) (fresh : List OpenEntry) : Type 0 where
  pub hold : list_all (active_holds s) fresh ≡ true
  pub ascend : ascends start start (map (λ e. e.row.start) fresh) ≡ true
  pub begins : All (λ e. (e.row.start ≡ start) × (e.row.chunks ≡ count)) fresh
  pub none : fresh ≡ [] → count ≡ 0

pub no_category : (s : Sizes) (start count : ℕ) → count ≡ 0 → FreshFacts s start count []
no_category s start count none = record { hold = refl; ascend = refl; begins = All-from_recursion (λ (e : OpenEntry). (e.row.start ≡ start) × (e.row.chunks ≡ count)) [] tt; none = λ e. none }

pub one_category : (s : Sizes) (start count : ℕ) (e : OpenEntry) → CategoryFacts s e → e.row.start ≡ start → e.row.chunks ≡ count → FreshFacts s start count (e ∷ [])
one_category s start count e facts at number = record {
  hold = and_from (active_holds s e) true (category_is s e facts) refl;
  ascend = and_from (nat_le start e.row.start && nat_le e.row.start start) true (and_from (nat_le start e.row.start) (nat_le e.row.start start) (le-leb start e.row.start (omega (arith, at))) (le-leb e.row.start start (omega (arith, at)))) refl;
  begins = All-from_recursion (λ (x : OpenEntry). (x.row.start ≡ start) × (x.row.chunks ≡ count)) (e ∷ []) ((at, number), tt);
  none = λ same. absurd (some_none same);
}
  where
    some_none : e ∷ [] ≡ [] → ⊥
    some_none same = cc

-- ---- lists that go on

list_all-push : {X : Type 0} (p : X → Bool) (xs ys : List X) → list_all p xs ≡ true → list_all p ys ≡ true → list_all p (xs ++ ys) ≡ true
list_all-push p xs ys all more = list_all-append p xs ys ∙ and_from (list_all p xs) (list_all p ys) all more

-- what ascends from one past the end of what ascends before
ascends-append : (low high : ℕ) (ns ms : List ℕ) → low ≤ high + 1 → ascends low high ns ≡ true → ascends (high + 1) (high + 1) ms ≡ true → ascends low (high + 1) (ns ++ ms) ≡ true
ascends-append low high [] [] le first then = refl
ascends-append low high [] (m ∷ ms) le first then =
    let bounds = left_and (nat_le (high + 1) m && nat_le m (high + 1)) (ascends (m + 1) (high + 1) ms) then in
    let above : high + 1 ≤ m = leb-true (high + 1) m (left_and (nat_le (high + 1) m) (nat_le m (high + 1)) bounds) in
    and_from (nat_le low m && nat_le m (high + 1)) (ascends (m + 1) (high + 1) ms)
    (and_from (nat_le low m) (nat_le m (high + 1)) (le-leb low m (omega (arith, above, le))) (right_and (nat_le (high + 1) m) (nat_le m (high + 1)) bounds))
    (right_and (nat_le (high + 1) m && nat_le m (high + 1)) (ascends (m + 1) (high + 1) ms) then)
ascends-append low high (n ∷ ns) ms le first then =
    let bounds = left_and (nat_le low n && nat_le n high) (ascends (n + 1) high ns) first in
    let below : n ≤ high = leb-true n high (right_and (nat_le low n) (nat_le n high) bounds) in
    and_from (nat_le low n && nat_le n (high + 1)) (ascends (n + 1) (high + 1) (ns ++ ms))
    (and_from (nat_le low n) (nat_le n (high + 1)) (left_and (nat_le low n) (nat_le n high) bounds) (le-leb n (high + 1) (omega (arith, below))))
    (ascends-append (n + 1) high ns ms (omega (arith, below)) (right_and (nat_le low n && nat_le n high) (ascends (n + 1) high ns) first) then)

starts-append : (oldest j : ℕ) (es fs : List VolumeEntry) → starts_hold oldest j es ≡ true → starts_hold oldest (j + length es) fs ≡ true → starts_hold oldest j (es ++ fs) ≡ true
starts-append oldest j [] fs first then = subst (λ i. starts_hold oldest i fs ≡ true) (omega arith) then
starts-append oldest j (e ∷ es) fs first then =
    let next : j + length (e ∷ es) ≡ j + 1 + length es = omega arith in
    and_from (ascends oldest j (row_starts e.rows)) (starts_hold oldest (j + 1) (es ++ fs)) (left_and (ascends oldest j (row_starts e.rows)) (starts_hold oldest (j + 1) es) first)
    (starts-append oldest (j + 1) es fs (right_and (ascends oldest j (row_starts e.rows)) (starts_hold oldest (j + 1) es) first) (subst (λ i. starts_hold oldest i fs ≡ true) next then))

-- ---- the whole

-- what is brought beside what is there: each number below the top, and no two the same
pub record AreApart (top : ℕ) (numbers : List ℕ) : Type 0 where
  pub below : All (λ n. n < top) numbers
  pub once : IsDistinct nat_eq numbers

pub flips : (a b : ℕ) → nat_eq a b ≡ nat_eq b a
flips a b = grind arith

module _ (s : Sizes) (some : 1 ≤ s.extent) (c : Catalogue) (rules : obeys s c ≡ true) (room : retained_in c < s.retain) (number : c.newest < 4294967295) (entry : VersionEntry) (fresh : List OpenEntry)
    (version : VersionFacts s entry) (facts : FreshFacts s (c.newest + 1) entry.fresh fresh) where
  abbrev own : List ℕ
  own = entry.extents ++ flat_map (λ (e : OpenEntry). e.extents) fresh

  each : Rules s c
  each = rules_of s c rules

  counts : NumbersHold s c
  counts = numbers_of s c each.numbers

  -- the catalogue with the version, for whatever phase and volumes
  module _ (phase : Phase) (volumes : List VolumeEntry) (apart : AreApart s.extents (all_extents (with_entries c phase entry volumes fresh)))
      (waits : phase_holds (with_entries c phase entry volumes fresh) phase ≡ true) (as_many : length c.volumes + length volumes ≡ length c.versions)
      (held : list_all (volume_holds s) volumes ≡ true) (begun : (j : ℕ) → starts_hold (oldest_in c) j volumes ≡ true) where
    abbrev next : Catalogue
    next = with_entries c phase entry volumes fresh

    long : length next.versions ≡ length c.versions + 1
    long = length-append c.versions (entry ∷ [])

    numbers_are : numbers_hold s next ≡ true
    numbers_are =
        let one = nat_le (length next.versions) s.retain in
        let two = nat_le (c.base + length next.versions) (c.newest + 1) in
        let three = nat_lt 0 (length next.versions) || c.base == c.newest + 1 in
        let four = nat_lt (c.newest + 1) (2 ^ 32) in
        let five = length next.volumes == length next.versions - 1 in
        and_from (one && two && three && four) five
        (and_from (one && two && three) four
        (and_from (one && two) three
        (and_from one two (le-leb (length next.versions) s.retain (omega (arith, long, room))) (le-leb (c.base + length next.versions) (c.newest + 1) (omega (arith, long, counts.base))))
        (ap (λ b. b || c.base == c.newest + 1) (lt-ltb 0 (length next.versions) (omega (arith, long)))))
        (lt-ltb (c.newest + 1) (2 ^ 32) (omega (arith, number))))
        (eq-eqb (length next.volumes) (length next.versions - 1) (omega (arith, long, length-append c.volumes volumes, as_many)))

    oldest-stays : oldest_in next ≡ oldest_in c
    oldest-stays = omega (arith, long)

    starts_are : starts_hold (oldest_in next) (oldest_in next) next.volumes ≡ true
    starts_are = ap (λ o. starts_hold o o next.volumes) oldest-stays ∙ starts-append (oldest_in c) (oldest_in c) c.volumes volumes each.starts (begun (oldest_in c + length c.volumes))

    actives_are : actives_hold next ≡ true
    actives_are =
        let start : OpenEntry → ℕ = λ e. e.row.start in
        and_from (ascends (c.base + 1) (c.newest + 1) (map start next.actives)) (nat_lt 0 (length next.versions) || length next.actives == 0)
        (ap (ascends (c.base + 1) (c.newest + 1)) (map-append start c.actives fresh)
        ∙ ascends-append (c.base + 1) c.newest (map start c.actives) (map start fresh) (omega (arith, counts.base)) (left_and (ascends (c.base + 1) c.newest (map start c.actives)) (nat_lt 0 (length c.versions) || length c.actives == 0) each.open_starts) facts.ascend)
        (ap (λ b. b || length next.actives == 0) (lt-ltb 0 (length next.versions) (omega (arith, long))))

    extents_are : extents_hold s next ≡ true
    extents_are = and_from (list_all (λ n. nat_lt n s.extents) (all_extents next)) (all_differ (all_extents next)) (all_below s.extents (all_extents next) (recursion_from_All (λ n. n < s.extents) (all_extents next) apart.below)) (all_differ-once (all_extents next) apart.once)

    obeys_next : obeys s next ≡ true
    obeys_next =
        let one = numbers_hold s next in
        let two = phase_holds next phase in
        let three = list_all (version_holds s) next.versions in
        let four = starts_hold (oldest_in next) (oldest_in next) next.volumes in
        let five = actives_hold next in
        let six = list_all (volume_holds s) next.volumes in
        let seven = list_all (active_holds s) next.actives in
        and_from (one && two && three && four && five && six && seven) (extents_hold s next)
        (and_from (one && two && three && four && five && six) seven
        (and_from (one && two && three && four && five) six
        (and_from (one && two && three && four) five
        (and_from (one && two && three) four
        (and_from (one && two) three
        (and_from one two numbers_are waits)
        (list_all-push (version_holds s) c.versions (entry ∷ []) each.versions (and_from (version_holds s entry) true (version-holds s entry version) refl)))
        starts_are)
        actives_are)
        (list_all-push (volume_holds s) c.volumes volumes each.volumes held))
        (list_all-push (active_holds s) c.actives fresh each.actives facts.hold))
        extents_are

  -- a volume of which nothing is archived
  empty_holds : list_all (volume_holds s) (empty_volume ∷ []) ≡ true
  empty_holds = and_from (volume_holds s empty_volume) true (and_from (true && 0 == up s.extent 0) true (and_from true (0 == up s.extent 0) refl (eq-eqb 0 (up s.extent 0) (sym (up-zero s.extent some)))) refl) refl

  moved : AreApart s.extents (all_extents c ++ own) → AreApart s.extents (all_extents (after_backup c entry fresh))
  moved apart =
      let perm : IsPermutation (all_extents c ++ own) (all_extents (after_backup c entry fresh)) = own-backup c entry fresh in
      record {
        below = All-permutation (λ n. n < s.extents) (all_extents c ++ own) (all_extents (after_backup c entry fresh)) perm apart.below;
        once = IsDistinct-IsPermutation nat_eq flips (all_extents c ++ own) (all_extents (after_backup c entry fresh)) perm apart.once;
      }

  obeys_rules : AreApart s.extents (all_extents (after_backup c entry fresh)) → obeys s (after_backup c entry fresh) ≡ true
  obeys_rules =
      elim (retained_in c == 0) as (λ b. (retained_in c == 0) ≡ b → AreApart s.extents (all_extents (cond b (with_entries c Settled entry [] fresh) (with_entries c (Waiting (c.base + 1)) entry (empty_volume ∷ []) fresh)))
      → obeys s (cond b (with_entries c Settled entry [] fresh) (with_entries c (Waiting (c.base + 1)) entry (empty_volume ∷ []) fresh)) ≡ true) [
        | true ↦ λ none apart.
            let nothing : length c.versions ≡ 0 = eqb-true (length c.versions) 0 none in
            obeys_next Settled [] apart refl (omega (arith, nothing, counts.volumes)) refl (λ j. refl)
        | false ↦ λ there apart.
            let one : 1 ≤ length c.versions = not_zero (length c.versions) there in
            obeys_next (Waiting (c.base + 1)) (empty_volume ∷ []) apart (waits one) (omega (arith, one, counts.volumes)) empty_holds (λ j. refl)
      ] refl
    where
      not_zero : (n : ℕ) → (n == 0) ≡ false → 1 ≤ n
      not_zero n is = grind arith

      waits : 1 ≤ length c.versions → phase_holds (with_entries c (Waiting (c.base + 1)) entry (empty_volume ∷ []) fresh) (Waiting (c.base + 1)) ≡ true
      waits one =
          let n = length (c.versions ++ entry ∷ []) in
          and_from (nat_le 2 n && nat_lt c.base (c.base + 1)) (nat_le (c.base + 1) (c.newest + 1))
          (and_from (nat_le 2 n) (nat_lt c.base (c.base + 1)) (le-leb 2 n (omega (arith, length-append c.versions (entry ∷ []), one))) (lt-ltb c.base (c.base + 1) (omega arith)))
          (le-leb (c.base + 1) (c.newest + 1) (omega (arith, counts.base)))

  -- a version whose extents are apart from those that are owned fits where fewer are retained than may be
  pub fits_backup : AreApart s.extents (all_extents c ++ own) → FitsBackup s c entry fresh
  fits_backup apart = record { rules = obeys_rules (moved apart); begins = facts.begins; none = facts.none }
