-- The extents of a volume while more of them are taken.
use Rattle.std.proofs.Common.{◌≡◌, ℕ, ◌^◌, ◌<◌, ◌≤◌, List, [], ◌++◌, length, nat_eq, refl, sym, ◌∙◌, ap, subst, arith, sum_by, ⊎_elim, append_assoc, length-append}
use Rattle.std.specs.Prelude.{All, Contains}
use Rattle.std.specs.List.{IsDistinct}
use Rattle.std.proofs.lemmas.Bool.Decides.{Decides-eqb}
use Rattle.std.proofs.lemmas.List.{append-nil}
use Rattle.std.proofs.lemmas.List.Elements.{All-append, All-contains, All-nil, All-weaker, Contains-append_cases}
use Rattle.std.proofs.lemmas.Map.Made.{AllPairs-from_IsDistinct, IsDistinct-from_AllPairs}
use Rattle.std.proofs.lemmas.Option.{slice_get_within}
use Rattle.bd_model.specs.Room.{up}
use Rattle.bd_model.specs.Sizes.{Sizes, sizes_of}
use Rattle.bd_model.specs.declared.shape.Shape.{Shape}
use Rattle.bd_model.proofs.RoomLemmas.{up-enough}
use Rattle.bd_extio.specs.Ranges.{AreExtents}
use Rattle.bd_extio.proofs.Places.{range_small}
use Rattle.bd_space.specs.Allotment.{Allotment, IsFree, IsTaken, TakenExactly}
use Rattle.bd_space.specs.declared.space.Use.TheVariants.{Free, Taken}
use Rattle.bd_space.proofs.Distinct.{IsDistinct-append}
use Rattle.bd_space.proofs.Exact.{TakenExactly-append}
use Rattle.bd_space.proofs.InTurn.{marks_both, marks_none}
use Rattle.bd_space.proofs.Kept.{still_free}
use Rattle.bd_space.proofs.Uses.{taken_still}
use Rattle.bd_roll.specs.Catalogue.{bytes_of_rows}
use Rattle.bd_volume.specs.Copies.{AreApart, IsSection}
use Rattle.bd_volume.specs.declared.copy.Section.{Section}
use Rattle.bd_volume.specs.Filled.{Filled}
use Rattle.bd_volume.specs.Growing.{AddsExtents, CanGrow, HasExtents, Takes}
use Rattle.bd_volume.proofs.RowsMore.{chunks_few}

pub not_both : (space : Allotment) (n : ℕ) → IsTaken space n → IsFree space n → ⊥
not_both space n taken free = cc

-- what was taken beside others is apart from them
pub taken_apart : (space : Allotment) (numbers more : List ℕ) → All (IsTaken space) numbers → All (IsFree space) more → (n : ℕ) → Contains numbers n → Contains more n → ⊥
taken_apart space numbers more taken free n here there = not_both space n (All-contains (IsTaken space) numbers n taken here) (All-contains (IsFree space) more n free there)

pub takes_none : (space : Allotment) → Takes [] space space
unfolding IsDistinct
takes_none space = record {
  were_free = All-nil (IsFree space);
  once = tt;
  marked = marks_none Taken space;
  counted = omega arith;
  held = refl;
}

-- some after others
pub takes_both : (xs ys : List ℕ) (a b c : Allotment) → Takes xs a b → Takes ys b c → Takes (xs ++ ys) a c
takes_both xs ys a b c first then = record {
  were_free = All-append (IsFree a) xs ys first.were_free
      (All-weaker (IsFree b) (IsFree a) (λ n free. (still_free xs a.uses b.uses n (record { size = first.marked.size; marked = first.marked.marked; others = first.marked.others }) free).1) ys then.were_free);
  once = IsDistinct-append xs ys first.once then.once (taken_apart b xs ys first.marked.marked then.were_free);
  marked = marks_both Taken xs ys a b c first.marked then.marked;
  counted = omega (arith, first.counted, then.counted, length-append xs ys);
  held = then.held ∙ first.held;
}

-- beside what was taken exactly
pub takes_exactly : (base xs : List ℕ) (a b : Allotment) → TakenExactly a base → Takes xs a b → TakenExactly b (base ++ xs)
takes_exactly base xs a b exact takes = TakenExactly-append a b base xs exact takes.were_free takes.once takes.marked

-- the same numbers, and the same space
pub adds_none : (space space_now : Allotment) (old new : Filled) → space_now ≡ space → new.numbers ≡ old.numbers → new.added ≡ old.added → new.oldest ≡ old.oldest → AddsExtents space space_now old new
adds_none space space_now old new same numbers added oldest = record {
  more = [];
  numbers = numbers ∙ sym (append-nil old.numbers);
  added = added ∙ sym (append-nil old.added);
  takes = subst (Takes [] space) (sym same) (takes_none space);
  oldest = oldest;
}

-- one appending after another
pub adds_both : (a b c : Allotment) (f g h : Filled) → AddsExtents a b f g → AddsExtents b c g h → AddsExtents a c f h
adds_both a b c f g h first then = record {
  more = first.more ++ then.more;
  numbers = then.numbers ∙ ap (λ ns. ns ++ then.more) first.numbers ∙ append_assoc f.numbers first.more then.more;
  added = then.added ∙ ap (λ ns. ns ++ then.more) first.added ∙ append_assoc f.added first.more then.more;
  takes = takes_both first.more then.more a b c first.takes then.takes;
  oldest = then.oldest ∙ first.oldest;
}

-- the extents are still such as there are, and all of them taken
pub more_extents : (s : Sizes) (space space_now : Allotment) (old new : Filled) (more : List ℕ) (bytes total : ℕ) → HasExtents s space old bytes → Takes more space space_now →
    new.numbers ≡ old.numbers ++ more → length new.numbers ≡ up s.extent total → HasExtents s space_now new total
more_extents s space space_now old new more bytes total has takes is sized =
    let within : (n : ℕ) → IsFree space n → n < s.extents = λ n free. omega (arith, slice_get_within space.uses n Free free, has.count) in
    let still : All (IsTaken space_now) old.numbers = All-weaker (IsTaken space) (IsTaken space_now) (λ n taken. taken_still more space space_now n takes.marked taken) old.numbers has.taken in
    let all : IsDistinct nat_eq (old.numbers ++ more) =
    IsDistinct-append old.numbers more (IsDistinct-from_AllPairs Decides-eqb old.numbers has.extents.differ) takes.once (taken_apart space old.numbers more has.taken takes.were_free) in
    let are : AreExtents s (old.numbers ++ more) = record {
      below = All-append (λ e. e < s.extents) old.numbers more has.extents.below (All-weaker (IsFree space) (λ e. e < s.extents) within more takes.were_free);
      differ = AllPairs-from_IsDistinct Decides-eqb (old.numbers ++ more) all;
    } in
    record {
      sized = sized;
      extents = subst (AreExtents s) (sym is) are;
      taken = subst (All (IsTaken space_now)) (sym is) (All-append (IsTaken space_now) old.numbers more still takes.marked.marked);
      count = takes.marked.size ∙ has.count;
    }

-- another owner's taken extents are apart from these
pub still_apart : (space space_now : Allotment) (old new : Filled) (numbers : List ℕ) → All (IsTaken space) numbers → AreApart numbers old.numbers → AddsExtents space space_now old new → AreApart numbers new.numbers
still_apart space space_now old new numbers taken apart adds = record {
  each = λ n here there. ⊎_elim (apart.each n here) (taken_apart space numbers adds.more taken adds.takes.were_free n here)
      (Contains-append_cases old.numbers adds.more n (subst (λ xs. Contains xs n) adds.numbers there));
}

-- the bytes of a volume are few, and its records no more
pub record IsSmall (f : Filled) : Type 0 where
  pub chunks : sum_by (λ row. row.chunks) f.rows ≤ bytes_of_rows f.rows
  pub bytes : bytes_of_rows f.rows ≤ 2 ^ 40

module _ (shape : Shape) where
  pub volume_small : (space : Allotment) (f : Filled) → CanGrow (sizes_of shape) space f → IsSmall f
  volume_small space f grows =
      let s = sizes_of shape in
      let n = bytes_of_rows f.rows in
      record {
        chunks = chunks_few s f.rows grows.rows;
        bytes = omega (arith, up-enough s.extent n (length f.numbers) (omega arith) grows.extents.sized, range_small s f.numbers grows.extents.extents (omega arith) (omega arith));
      }

  pub section_small : (section : Section) → IsSection (sizes_of shape) section → section.bytes ≤ 2 ^ 40
  section_small section is = omega (arith, range_small (sizes_of shape) section.extents.now is.extents (omega arith) (omega arith), is.within)
