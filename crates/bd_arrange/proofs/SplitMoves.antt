-- A category that is split by a cut.
use Rattle.std.proofs.Common.{◌≡◌, inl, inr, ⊎_elim, ℕ, ◌+◌, ◌*◌, ◌^◌, ◌<◌, ◌≤◌, true, false, cond, List, [], ◌∷◌, ◌++◌, length, max, take, refl, sym, ◌∙◌, ap, subst, append-nil, arith, eq-eqb, eqb-true, flat_map}
use Rattle.std.specs.Prelude.{All, Contains, ◌==◌}
use Rattle.std.specs.List.{list_all}
use Rattle.std.specs.Cmp.Derive.{both_true}
use Rattle.std.proofs.lemmas.Bool.{eqb-false}
use Rattle.std.proofs.lemmas.Bool.Decides.{Decides-eqb}
use Rattle.std.proofs.lemmas.Map.Made.{AllPairs-from_IsDistinct}
use Rattle.std.proofs.lemmas.Option.{slice_get_within}
use Rattle.std.proofs.lemmas.List.Elements.{All-cons, All-contains, All-nil, All-weaker}
use Rattle.bd_disk.specs.Runs.{Works}
use Rattle.bd_disk.specs.declared.disk.Disk.{Ghosts}
use Rattle.bd_model.specs.Room.{up}
use Rattle.bd_model.specs.Sizes.{Sizes, sizes_of}
use Rattle.bd_model.specs.declared.shape.Shape.{Shape}
use Rattle.bd_model.proofs.ListLemmas.{left_and, right_and}
use Rattle.bd_model.proofs.RoomLemmas.{up-enough, up-zero}
use Rattle.bd_extio.specs.Owned.{owned_on}
use Rattle.bd_extio.specs.Ranges.{AreExtents, InOwner}
use Rattle.bd_extio.proofs.Places.{range_small}
use Rattle.bd_space.specs.Allotment.{Allotment, IsFree, IsTaken}
use Rattle.bd_space.specs.declared.space.Use.TheVariants.{Free}
use Rattle.bd_space.proofs.Uses.{taken_still}
use Rattle.bd_catalog.specs.Agreement.{InExtents, InFree}
use Rattle.bd_roll.specs.Catalogue.{OpenEntry}
use Rattle.bd_roll.specs.Rules.{active_holds, row_holds}
use Rattle.bd_catalog.proofs.AgreeLemmas.{in_extents}
use Rattle.bd_volume.specs.Filled.{Filled}
use Rattle.bd_volume.specs.Growing.{AddsExtents, AreCounted, CanGrow, Takes}
use Rattle.bd_volume.proofs.CopyLemmas.{wider_work}
use Rattle.bd_volume.proofs.RowsMore.{rows_more-hold}
use Rattle.bd_volume.proofs.GrownExtents.{taken_apart}
use Rattle.bd_arrange.specs.Cuts.{InCategory, IsCutOf, going}
use Rattle.bd_arrange.specs.Desks.{InRoom, IsCategory, OnDesk}
use Rattle.bd_arrange.specs.Moving.{CanMove, CanSplit, InMoved, IsKeptBy, Moves, SplitsBy, bytes_of, kept_actives, rows_then}
use Rattle.bd_arrange.specs.declared.cut.Cut.{Cut}
use Rattle.bd_arrange.specs.declared.cut.Stretch.{Stretch}
use Rattle.bd_arrange.specs.declared.moving.Errand.{Errand}
use Rattle.bd_arrange.proofs.InGrown.{free_before}
use Rattle.bd_arrange.proofs.OneStretch.{rows_then-some}
use Rattle.bd_arrange.proofs.Picked.{AreSummed, going-le, none_summed, summed_going}

-- taken extents are such as there are
pub taken_extents : (s : Sizes) (space first : Allotment) (numbers : List ℕ) → length space.uses ≡ s.extents → Takes numbers space first → AreExtents s numbers
taken_extents s space first numbers count takes = record {
  below = All-weaker (IsFree space) (λ e. e < s.extents) (λ n free. omega (arith, slice_get_within space.uses n Free free, count)) numbers takes.were_free;
  differ = AllPairs-from_IsDistinct Decides-eqb numbers takes.once;
}

module _ (s : Sizes) (some : 1 ≤ s.extent) (space first : Allotment) (desk : OnDesk) (a : OpenEntry) (cut : Cut) (category : IsCategory s space desk a) (grows : CanGrow s space desk.filling) (is : IsCutOf s a.row cut)
    (numbers : List ℕ) (takes : Takes numbers space first) (sized : length numbers ≡ up s.extent cut.kept.bytes) where
  row_fits : a.row.bytes ≤ length a.extents * s.extent
  row_fits = up-enough s.extent a.row.bytes (length a.extents) some (eqb-true (length a.extents) (up s.extent a.row.bytes) (right_and (row_holds s a.row) (length a.extents == up s.extent a.row.bytes) category.holds))

  can_move_here : (e : Errand) → e.from.now ≡ a.extents → e.stretches.now ≡ cut.stretches.items → e.to.now ≡ numbers → CanMove s first desk.filling e
  can_move_here e from stretches to = record {
    each = subst (All (λ x. AreCounted s x.chunks x.bytes)) (sym stretches) is.each;
    source = subst (AreExtents s) (sym from) category.extents;
    source_taken = subst (All (IsTaken first)) (sym from) (All-weaker (IsTaken space) (IsTaken first) (λ n t. taken_still numbers space first n takes.marked t) a.extents category.taken);
    source_apart = record { each = λ n here there. category.apart.each n (subst (λ l. Contains l n) from here) there };
    within = omega (arith, ap bytes_of stretches, is.bytes, row_fits, ap (λ l. length l * s.extent) from);
    target = subst (AreExtents s) (sym to) (taken_extents s space first numbers grows.extents.count takes);
    target_taken = subst (All (IsTaken first)) (sym to) takes.marked.marked;
    target_apart = record { each = λ n here there. taken_apart space desk.filling.numbers numbers grows.extents.taken takes.were_free n there (subst (λ l. Contains l n) to here) };
    apart = record { each = λ n here there. taken_apart space a.extents numbers category.taken takes.were_free n (subst (λ l. Contains l n) from here) (subst (λ l. Contains l n) to there) };
    room = omega (arith, ap (λ l. bytes_of (going true l)) stretches, is.kept.bytes, up-enough s.extent cut.kept.bytes (length numbers) some sized, ap (λ l. length l * s.extent) to);
  }

  pub can_move : (f : Filled) (e : Errand) → desk.filling ≡ f → e.from.now ≡ a.extents → e.stretches.now ≡ cut.stretches.items → e.to.now ≡ numbers → CanMove s first f e
  can_move f e same from stretches to = subst (λ (h : Filled). CanMove s first h e) same (can_move_here e from stretches to)

  in_taken : (n place : ℕ) → n ≤ length numbers * s.extent → InOwner s numbers 0 n place → InFree s space place
  in_taken n place fits r =
      let there : InExtents s numbers place = subst (InExtents s numbers) (sym r.so) (in_extents s numbers some (0 + r.k) (omega (arith, r.within, fits))) in
      record { extent = there.extent; free = All-contains (IsFree space) numbers there.extent takes.were_free there.among; within = there.within }

  pub works_split : {D : Type 0} (g : Ghosts D) (x y : D) → Works g (InOwner s a.extents 0 (bytes_of cut.stretches.items)) (InMoved s first desk.filling numbers 0 (bytes_of (going true cut.stretches.items))) x y →
      Works g (InCategory s a) (InRoom s space desk) x y
  works_split g x y works =
      let fits : bytes_of (going true cut.stretches.items) ≤ length numbers * s.extent = omega (arith, is.kept.bytes, up-enough s.extent cut.kept.bytes (length numbers) some sized) in
      wider_work _ _
      (λ place r. subst (λ n. InOwner s a.extents 0 n place) is.bytes r)
      (λ place r. ⊎_elim
      (λ kept. inl (in_taken (bytes_of (going true cut.stretches.items)) place fits kept))
      (λ rest. ⊎_elim
      (λ free. inl (record { extent = free.extent; free = free_before numbers space first free.extent takes free.free; within = free.within }))
      (λ behind. inr behind)
      rest)
      r)
      works

  pub works_split-at : {D : Type 0} (g : Ghosts D) (x y : D) (f : Filled) (from to : List ℕ) (xs : List Stretch) → desk.filling ≡ f → from ≡ a.extents → xs ≡ cut.stretches.items → to ≡ numbers →
      Works g (InOwner s from 0 (bytes_of xs)) (InMoved s first f to 0 (bytes_of (going true xs))) x y → Works g (InCategory s a) (InRoom s space desk) x y
  works_split-at g x y f from to xs same p q t works =
      let items = cut.stretches.items in
      works_split g x y
      (subst (λ (l : List ℕ). Works g (InOwner s a.extents 0 (bytes_of items)) (InMoved s first desk.filling l 0 (bytes_of (going true items))) x y) t
      (subst (λ (l : List Stretch). Works g (InOwner s a.extents 0 (bytes_of l)) (InMoved s first desk.filling to 0 (bytes_of (going true l))) x y) q
      (subst (λ (l : List ℕ). Works g (InOwner s l 0 (bytes_of xs)) (InMoved s first desk.filling to 0 (bytes_of (going true xs))) x y) p
      (subst (λ (h : Filled). Works g (InOwner s from 0 (bytes_of xs)) (InMoved s first h to 0 (bytes_of (going true xs))) x y) (sym same) works))))

  -- what each side may have
  archived_counted : 1 ≤ cut.archived.chunks → AreCounted s cut.archived.chunks cut.archived.bytes
  archived_counted one =
      let all = summed_going s false cut.stretches.items is.each in
      record { some = one; low = omega (arith, all.low, is.archived.chunks, is.archived.bytes); high = omega (arith, all.high, is.archived.bytes, ap (λ n. (36 + s.max) * n) is.archived.chunks) }

  kept_summed : AreSummed s cut.kept.chunks cut.kept.bytes
  kept_summed =
      let all = summed_going s true cut.stretches.items is.each in
      record { low = omega (arith, all.low, is.kept.chunks, is.kept.bytes); high = omega (arith, all.high, is.kept.bytes, ap (λ n. (36 + s.max) * n) is.kept.chunks) }

  module _ (short : s.max ≤ 65536) (small : cut.kept.bytes < 2 ^ 42) where
    abbrev entries : List OpenEntry
    entries = kept_actives a.row.start cut.kept numbers

    abbrev one_entry : OpenEntry
    one_entry = record { row = record { start = a.row.start; chunks = cut.kept.chunks; bytes = cut.kept.bytes }; extents = numbers }

    -- of each that stands in the place of the category
    by_count : (P : List OpenEntry → Type 0) → (cut.kept.chunks ≡ 0 → P []) → (1 ≤ cut.kept.chunks → P (one_entry ∷ [])) → P entries
    by_count P none one =
        elim (cut.kept.chunks == 0) as (λ t. (cut.kept.chunks == 0) ≡ t → P (cond t [] (one_entry ∷ []))) [
          | true ↦ λ e. none (eqb-true cut.kept.chunks 0 e)
          | false ↦ λ e. one (omega (arith, eqb-false cut.kept.chunks 0 e))
        ] refl

    one_holds : 1 ≤ cut.kept.chunks → list_all (active_holds s) (one_entry ∷ []) ≡ true
    one_holds one =
        let counted : AreCounted s cut.kept.chunks cut.kept.bytes = record { some = one; low = kept_summed.low; high = kept_summed.high } in
        let row : list_all (row_holds s) (one_entry.row ∷ []) ≡ true = rows_more-hold s short a.row.start cut.kept.chunks cut.kept.bytes counted [] (omega (arith, small)) refl in
        both_true (both_true (left_and (row_holds s one_entry.row) true row) (eq-eqb (length numbers) (up s.extent cut.kept.bytes) sized)) refl

    pub entries_extents : flat_map (λ (k : OpenEntry). k.extents) entries ≡ numbers
    entries_extents = by_count (λ l. flat_map (λ (k : OpenEntry). k.extents) l ≡ numbers) (λ none. sym (empty numbers (long none))) (λ one. flat_one)
      where
        long : cut.kept.chunks ≡ 0 → length numbers ≡ 0
        long none = sized ∙ ap (up s.extent) (none_summed s cut.kept.chunks cut.kept.bytes kept_summed none) ∙ up-zero s.extent some

        empty : (l : List ℕ) → length l ≡ 0 → l ≡ []
        empty [] e = refl
        empty (x ∷ l) e = absurd (omega (arith, e))

        flat_one : flat_map (λ (k : OpenEntry). k.extents) (one_entry ∷ []) ≡ numbers
        flat_one = append-nil numbers

    pub splits_by : {D : Type 0} (g : Ghosts D) (x y : D) (space_now : Allotment) (new : OnDesk) (free : ℕ) → CanSplit s free desk.filling (max a.row.start desk.filling.oldest) cut →
        (adds : AddsExtents first space_now desk.filling new.filling) → new.splits ≡ desk.splits ++ record { start = a.row.start; kept = entries } ∷ [] →
        Moves g s a.row.start a.extents numbers cut.stretches.items space_now desk.filling new.filling x y → SplitsBy g s a cut desk new x y
    splits_by g x y space_now new free may adds splits moves = record {
      entry = record { start = a.row.start; chunks = cut.archived.chunks; bytes = cut.archived.bytes; added = adds.more; kept = entries };
      becomes = record {
        start = refl;
        counted = archived_counted may.some;
        order = may.order;
        rows = moves.rows
            ∙ (λ i. rows_then desk.filling a.row.start (sym is.archived.chunks i) (sym is.archived.bytes i))
            ∙ rows_then-some desk.filling a.row.start cut.archived.chunks cut.archived.bytes may.some;
        numbers = adds.numbers;
        added = adds.added;
        oldest = adds.oldest;
        splits = splits;
        kept = by_count (λ l. list_all (active_holds s) l ≡ true) (λ none. refl) one_holds;
        named = by_count (All (λ k. k.row.start ≡ a.row.start)) (λ none. All-nil (λ (k : OpenEntry). k.row.start ≡ a.row.start)) (λ one. All-cons (λ (k : OpenEntry). k.row.start ≡ a.row.start) one_entry [] refl (All-nil (λ (k : OpenEntry). k.row.start ≡ a.row.start)));
        one = by_count (λ l. length l ≤ 1) (λ none. omega arith) (λ one. omega arith);
      };
      chunks = refl;
      bytes = refl;
      kept = by_count (All (IsKeptBy g s a cut x y)) (λ none. All-nil (IsKeptBy g s a cut x y)) (λ one. All-cons (IsKeptBy g s a cut x y) one_entry [] (record {
        chunks = refl;
        bytes = refl;
        records = λ told. ap (λ n. take n (owned_on g s numbers y)) is.kept.bytes ∙ moves.kept told;
      }) (All-nil (IsKeptBy g s a cut x y)));
      none = by_count (λ l. l ≡ [] → cut.kept.chunks ≡ 0) (λ none same. none) (λ one same. absurd (some_none same));
      archives = moves.archived;
      raw = λ told. subst (λ n. All (λ b. b < 256) (take n (owned_on g s a.extents x))) is.bytes (moves.bytes told);
    }
      where
        some_none : one_entry ∷ [] ≡ [] → ⊥
        some_none e = cc

    pub splits_by-at : {D : Type 0} (g : Ghosts D) (x y : D) (space_now : Allotment) (new : OnDesk) (free : ℕ) (f : Filled) (from to : List ℕ) (xs : List Stretch) → desk.filling ≡ f → from ≡ a.extents → xs ≡ cut.stretches.items → to ≡ numbers →
        CanSplit s free desk.filling (max a.row.start desk.filling.oldest) cut → AddsExtents first space_now f new.filling → new.splits ≡ desk.splits ++ record { start = a.row.start; kept = entries } ∷ [] →
        Moves g s a.row.start from to xs space_now f new.filling x y → SplitsBy g s a cut desk new x y
    splits_by-at g x y space_now new free f from to xs same p q t may adds splits moves =
        let items = cut.stretches.items in
        let r = a.row.start in
        splits_by g x y space_now new free may (subst (λ (h : Filled). AddsExtents first space_now h new.filling) (sym same) adds) splits
        (subst (λ (l : List ℕ). Moves g s r a.extents l items space_now desk.filling new.filling x y) t
        (subst (λ (l : List Stretch). Moves g s r a.extents to l space_now desk.filling new.filling x y) q
        (subst (λ (l : List ℕ). Moves g s r l to xs space_now desk.filling new.filling x y) p
        (subst (λ (h : Filled). Moves g s r from to xs space_now h new.filling x y) (sym same) moves))))

-- both sides have few bytes
module _ (shape : Shape) (a : OpenEntry) (cut : Cut) (holds : active_holds (sizes_of shape) a ≡ true) (extents : AreExtents (sizes_of shape) a.extents) (is : IsCutOf (sizes_of shape) a.row cut) where
  row_small : a.row.bytes ≤ 2 ^ 40
  row_small =
      let s = sizes_of shape in
      let sized = eqb-true (length a.extents) (up s.extent a.row.bytes) (right_and (row_holds s a.row) (length a.extents == up s.extent a.row.bytes) holds) in
      omega (arith, range_small s a.extents extents (omega arith) (omega arith), up-enough s.extent a.row.bytes (length a.extents) (omega arith) sized)

  pub kept_small : cut.kept.bytes ≤ 2 ^ 40
  kept_small = omega (arith, row_small, is.bytes, is.kept.bytes, going-le true cut.stretches.items)

  pub archived_small : cut.archived.bytes ≤ 2 ^ 40
  archived_small = omega (arith, row_small, is.bytes, is.archived.bytes, going-le false cut.stretches.items)
