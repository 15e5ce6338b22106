-- The categories that are due hold their chunks.
use Rattle.std.proofs.Common.{◌≡◌, ℕ, ◌+◌, ◌-◌, ◌<◌, ◌≤◌, Bool, true, false, cond, ◌&&◌, List, [], ◌∷◌, ◌++◌, length, map, filter, refl, sym, ◌∙◌, ap, subst, arith, nat_lt, nat_le, le-leb, lt-ltb, le-ltb}
use Rattle.std.specs.List.{range_with_len}
use Rattle.std.proofs.lemmas.Bool.{leb-true}
use Rattle.std.proofs.lemmas.List.{append-nil}
use Rattle.std.proofs.lemmas.List.Elements.{filter-append}
use Rattle.bd_model.specs.Chunks.{numbers}
use Rattle.bd_model.specs.Sizes.{Sizes}
use Rattle.bd_model.specs.declared.layout.CategoryRow.{CategoryRow}
use Rattle.bd_model.specs.declared.layout.Phase.TheVariants.{Waiting}
use Rattle.bd_model.proofs.ListLemmas.{and-false, filter-all, filter-numbers, filter-numbers_none, numbers-split}
use Rattle.bd_roll.specs.Catalogue.{OpenEntry}
use Rattle.bd_catalog.specs.Rows.{open_row}
use Rattle.bd_volume.specs.Holding.{Group, HoldsRows, group_at, groups_over}
use Rattle.bd_arrange.specs.Turns.{is_due}

-- from the cursor up to the newest version's own
abbrev pub waits : ℕ → ℕ → ℕ → Bool
waits newest cursor i = nat_le cursor i && nat_lt i newest

module _ (s : Sizes) (image : List ℕ) (newest cursor : ℕ) (f : ℕ → List (List ℕ)) where
  abbrev over : List ℕ → List Group
  over is = groups_over f is

  abbrev due_of : List OpenEntry → List OpenEntry
  due_of es = filter (is_due newest (Waiting cursor)) es

  one_more : (b : Bool) (i : ℕ) (is : List ℕ) → over (cond b (i ∷ is) is) ≡ cond b (cond (nat_lt 0 (length (f i))) (group_at f i ∷ over is) (over is)) (over is)
  one_more true i is = refl
  one_more false i is = refl

  pub due_held : (es : List OpenEntry) (is : List ℕ) → HoldsRows s image (map open_row es) (over is) → HoldsRows s image (map open_row (due_of es)) (over (filter (waits newest cursor) is))
  due_held [] [] holds = tt
  due_held (e ∷ es) [] holds = absurd holds
  due_held es (i ∷ is) holds =
      let rest = over (filter (waits newest cursor) is) in
      subst (HoldsRows s image (map open_row (due_of es))) (sym (one_more (waits newest cursor i) i (filter (waits newest cursor) is)))
      (elim (nat_lt 0 (length (f i)))
      as (λ t. HoldsRows s image (map open_row es) (cond t (group_at f i ∷ over is) (over is)) → HoldsRows s image (map open_row (due_of es)) (cond (waits newest cursor i) (cond t (group_at f i ∷ rest) rest) rest)) [
        | false ↦ λ held. subst (HoldsRows s image (map open_row (due_of es))) (same (waits newest cursor i) rest) (due_held es is held)
        | true ↦ λ held. first es held (λ xs h. due_held xs is h)
      ] holds)
    where
      same : (b : Bool) (gs : List Group) → gs ≡ cond b gs gs
      same true gs = refl
      same false gs = refl

      first : (xs : List OpenEntry) → HoldsRows s image (map open_row xs) (group_at f i ∷ over is) →
          ((ys : List OpenEntry) → HoldsRows s image (map open_row ys) (over is) → HoldsRows s image (map open_row (due_of ys)) (over (filter (waits newest cursor) is))) →
          HoldsRows s image (map open_row (due_of xs)) (cond (waits newest cursor i) (group_at f i ∷ over (filter (waits newest cursor) is)) (over (filter (waits newest cursor) is)))
      first [] held rest = absurd held
      first (x ∷ xs) held rest =
          let start : x.row.start ≡ i = ap (λ (r : CategoryRow). r.start) held.0.row in
          let groups = over (filter (waits newest cursor) is) in
          subst (λ n. HoldsRows s image (map open_row (cond (waits newest cursor n) (x ∷ due_of xs) (due_of xs))) (cond (waits newest cursor i) (group_at f i ∷ groups) groups)) (sym start)
          (elim (waits newest cursor i) as (λ t. HoldsRows s image (map open_row (cond t (x ∷ due_of xs) (due_of xs))) (cond t (group_at f i ∷ groups) groups)) [
            | true ↦ (held.0, rest xs held.1)
            | false ↦ rest xs held.1
          ])

-- the starts that wait, of all
pub waiting_numbers : (base newest cursor : ℕ) → base + 1 ≤ cursor → cursor ≤ newest → filter (waits newest cursor) (numbers (base + 1) newest) ≡ range_with_len cursor (newest - cursor)
waiting_numbers base newest cursor low high =
    let test = waits newest cursor in
    let first = numbers (base + 1) (cursor - 1) in
    let middle = numbers cursor (newest - 1) in
    let last = numbers newest newest in
    let at_cursor : cursor - 1 + 1 ≡ cursor = omega arith in
    let at_newest : newest - 1 + 1 ≡ newest = omega arith in
    let count : newest - 1 + 1 - cursor ≡ newest - cursor = omega arith in
    let parts : numbers (base + 1) newest ≡ first ++ (middle ++ last) =
    numbers-split (base + 1) (cursor - 1) newest (omega arith) (omega arith)
    ∙ (λ k. first ++ (ap (λ n. numbers n newest) at_cursor ∙ numbers-split cursor (newest - 1) newest (omega arith) (omega arith) ∙ ap (λ n. middle ++ numbers n newest) at_newest) k) in
    let before : filter test first ≡ [] = filter-numbers_none test (base + 1) (cursor - 1) (λ v above below.
    let less : nat_le cursor v ≡ false = above-leb cursor v (omega arith) in ap (λ t. t && nat_lt v newest) less) in
    let within : filter test middle ≡ middle =
    filter-numbers test (λ _. true) cursor (newest - 1) (λ v above below k. le-leb cursor v above k && lt-ltb v newest (omega arith) k) ∙ filter-all (λ _. true) (λ _. refl) middle in
    let past : filter test last ≡ [] = filter-numbers_none test newest newest (λ v above below. ap (λ t. nat_le cursor v && t) (le-ltb v newest above) ∙ and-false (nat_le cursor v)) in
    ap (filter test) parts
    ∙ filter-append test first (middle ++ last)
    ∙ (λ k. before k ++ filter-append test middle last k)
    ∙ (λ k. within k ++ past k)
    ∙ append-nil middle
    ∙ ap (range_with_len cursor) count
  where
    above-leb : (a b : ℕ) → b < a → nat_le a b ≡ false
    above-leb a b less = elim (nat_le a b) as (λ t. nat_le a b ≡ t → t ≡ false) [ true ↦ λ e. absurd (omega (arith, leb-true a b e)) | false ↦ λ e. refl ] refl
