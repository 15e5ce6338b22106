-- One turn more.
use Rattle.std.proofs.Common.{◌≡◌, inl, inr, ⊎_elim, ℕ, suc, ◌+◌, ◌-◌, ◌≤◌, List, [], ◌∷◌, ◌++◌, length, filter, flat_map, max, nat_eq, take, refl, sym, ◌∙◌, ap, subst, arith, append_assoc}
use Rattle.std.specs.Prelude.{All, Contains, ◌==◌}
use Rattle.std.specs.List.{IsDistinct}
use Rattle.std.proofs.lemmas.List.{append-nil}
use Rattle.std.proofs.lemmas.List.Concat.{flat_map-append}
use Rattle.bd_model.specs.Extents.{owner_bytes}
use Rattle.bd_model.specs.Room.{up}
use Rattle.bd_category.specs.Laws.{written_records}
use Rattle.bd_roll.specs.Catalogue.{Catalogue, OpenEntry, bytes_of_rows, oldest_in}
use Rattle.bd_roll.specs.Splitting.{SplitEntry, after_split, after_splits, last_extents, last_rows}
use Rattle.bd_catalog.specs.Standing.{BeginWith}
use Rattle.bd_roll.proofs.InPlace.{starts}
use Rattle.bd_arrange.specs.Cuts.{bytes_in}
use Rattle.bd_arrange.specs.Desks.{IsToMove, OnDesk}
use Rattle.bd_arrange.specs.Turns.{Ground, IsKeptOf, IsLeft, IsSplit, IsToSplit, Turns, archived_bytes, archived_on, grown_bytes, kept_on, taken_by}
use Rattle.bd_arrange.specs.Underway.{HasSplits}
use Rattle.bd_arrange.proofs.Splits.{one_starting, same_oldest}

-- how many extents are free after these splits
abbrev pub free_after : ℕ → List SplitEntry → ℕ
free_after free [] = free
free_after free (e ∷ es) = free_after (free - taken_by e) es

pub free_last : (free : ℕ) (es : List SplitEntry) (e : SplitEntry) → free_after free (es ++ e ∷ []) ≡ free_after free es - taken_by e
free_last free [] e = refl
free_last free (x ∷ es) e = free_last (free - taken_by x) es e

module _ (g : Ground) (now : List ℕ) where
  -- the last category is left
  pub turns_left : (free : ℕ) (c : Catalogue) (done : List OpenEntry) (es : List SplitEntry) (a : OpenEntry) → Turns g now free c done es → IsLeft g (free_after free es) (after_splits c es) a → Turns g now free c (done ++ a ∷ []) es
  turns_left free c [] es a turns left =
      inl (subst (λ l. IsLeft g (free_after free l) (after_splits c l) a) turns left, turns)
  turns_left free c (x ∷ done) es a turns left =
      ⊎_elim
      (λ stays. inl (stays.0, turns_left free c done es a stays.1 left))
      (λ splits. inr (
        splits.0,
        splits.1,
        splits.2,
        splits.3,
        turns_left (free - taken_by splits.0) (after_split c splits.0) done splits.1 a splits.4 (subst (λ l. IsLeft g (free_after free l) (after_splits c l) a) splits.2 left),
      ))
      turns

  -- or split
  pub turns_split : (free : ℕ) (c : Catalogue) (done : List OpenEntry) (es : List SplitEntry) (a : OpenEntry) (e : SplitEntry) → Turns g now free c done es → IsSplit g now (free_after free es) (after_splits c es) a e →
      Turns g now free c (done ++ a ∷ []) (es ++ e ∷ [])
  turns_split free c [] es a e turns split =
      inr (e, [], ap (λ l. l ++ e ∷ []) turns, subst (λ l. IsSplit g now (free_after free l) (after_splits c l) a e) turns split, refl)
  turns_split free c (x ∷ done) es a e turns split =
      ⊎_elim
      (λ stays. inl (stays.0, turns_split free c done es a e stays.1 split))
      (λ splits. inr (
        splits.0,
        splits.1 ++ e ∷ [],
        ap (λ l. l ++ e ∷ []) splits.2,
        splits.3,
        turns_split (free - taken_by splits.0) (after_split c splits.0) done splits.1 a e splits.4 (subst (λ l. IsSplit g now (free_after free l) (after_splits c l) a e) splits.2 split),
      ))
      turns

-- ---- on a later image

-- what is kept of a split stands on the later image as on this one
abbrev pub KeptStays : Ground → List ℕ → List ℕ → SplitEntry → Type 0
KeptStays g now next e = (bytes : List ℕ) → All (λ (k : OpenEntry). BeginWith g.sizes k.extents bytes now → BeginWith g.sizes k.extents bytes next) e.kept

pub kept_later : (g : Ground) (now next : List ℕ) (a : OpenEntry) (ks : List OpenEntry) → ((bytes : List ℕ) → All (λ (k : OpenEntry). BeginWith g.sizes k.extents bytes now → BeginWith g.sizes k.extents bytes next) ks) →
    All (IsKeptOf g now a) ks → All (IsKeptOf g next a) ks
kept_later g now next a ks stay kept = λ i k below.
    let is = kept i k below in
    record { chunks = is.chunks; bytes = is.bytes; records = stay (written_records (kept_on g a)) i k below is.records }

pub turns_later : (g : Ground) (now next : List ℕ) (free : ℕ) (c : Catalogue) (done : List OpenEntry) (es : List SplitEntry) → All (KeptStays g now next) es → Turns g now free c done es → Turns g next free c done es
turns_later g now next free c [] es stay turns = turns
turns_later g now next free c (a ∷ done) es stay turns =
    ⊎_elim
    (λ left. inl (left.0, turns_later g now next free c done es stay left.1))
    (λ splits.
    let e = splits.0 in
    let rest = splits.1 in
    let all : All (KeptStays g now next) (e ∷ rest) = subst (All (KeptStays g now next)) splits.2 stay in
    let is = splits.3 in
    inr (
      e,
      rest,
      splits.2,
      record { whole = is.whole; made = is.made; start = is.start; chunks = is.chunks; bytes = is.bytes; kept = kept_later g now next a e.kept (all 0 e (omega arith)) is.kept; none = is.none },
      turns_later g now next (free - taken_by e) (after_split c e) done rest (λ i x below. all (suc i) x (omega (arith, below))) splits.4,
    ))
    turns

-- ---- what is archived

pub grown-last : (g : Ground) (c : Catalogue) (es : List SplitEntry) (e : SplitEntry) (a : OpenEntry) → IsDistinct nat_eq (starts c.actives) → Contains c.actives a → e.start ≡ a.row.start →
    grown_bytes g c (es ++ e ∷ []) ≡ grown_bytes g c es ++ written_records (archived_on g a)
grown-last g c es e a differ has start =
    let first = take (bytes_of_rows (last_rows c.volumes)) (owner_bytes g.sizes (last_extents c.volumes) g.image) in
    let own : archived_bytes g c e ≡ written_records (archived_on g a) =
    ap (λ i. flat_map (λ (x : OpenEntry). written_records (archived_on g x)) (filter (λ x. x.row.start == i) c.actives)) start
    ∙ ap (flat_map (λ (x : OpenEntry). written_records (archived_on g x))) (one_starting c.actives a differ has)
    ∙ append-nil (written_records (archived_on g a)) in
    ap (λ l. first ++ l) (flat_map-append (archived_bytes g c) es (e ∷ []) ∙ ap (λ l. flat_map (archived_bytes g c) es ++ l) (append-nil (archived_bytes g c e) ∙ own))
    ∙ sym (append_assoc first (flat_map (archived_bytes g c) es) (written_records (archived_on g a)))

-- ---- whether a split is to be made, at a desk and of a catalogue

module _ (g : Ground) (free : ℕ) (c : Catalogue) (es : List SplitEntry) (desk : OnDesk) (has : HasSplits c es desk) (a : OpenEntry) where
  pub to_split : IsToMove g free desk a → IsToSplit g free (after_splits c es) a
  to_split is = record {
    some = is.some;
    order = subst (λ rows. All (λ row. row.start ≤ max a.row.start (oldest_in (after_splits c es))) rows) has.rows
        (subst (λ n. All (λ row. row.start ≤ max a.row.start n) desk.filling.rows) (has.oldest ∙ sym (same_oldest c es)) is.order);
    room = omega (arith, is.room, ap (λ rows. up g.sizes.extent (bytes_of_rows rows + bytes_in (archived_on g a))) has.rows, ap length has.numbers);
  }

  pub to_move : IsToSplit g free (after_splits c es) a → IsToMove g free desk a
  to_move is = record {
    some = is.some;
    order = subst (λ rows. All (λ row. row.start ≤ max a.row.start desk.filling.oldest) rows) (sym has.rows)
        (subst (λ n. All (λ row. row.start ≤ max a.row.start n) (last_rows (after_splits c es).volumes)) (same_oldest c es ∙ sym has.oldest) is.order);
    room = omega (arith, is.room, ap (λ rows. up g.sizes.extent (bytes_of_rows rows + bytes_in (archived_on g a))) has.rows, ap length has.numbers);
  }
