-- Where a place of an owner lies that has got more extents.
use Rattle.std.proofs.Common.{◌≡◌, ◌⊎◌, inl, inr, ⊎_elim, ℕ, ◌+◌, ◌-◌, ◌*◌, ◌/◌, ◌%◌, ◌<◌, ◌≤◌, List, ◌++◌, length, get_or, refl, ◌∙◌, ap, subst, arith, length-append, div-lt_iff_lt-mul, mod-lt}
use Rattle.std.specs.Prelude.{All}
use Rattle.std.proofs.lemmas.Bool.{cases_lt}
use Rattle.std.proofs.lemmas.List.{get_or_append_left, get_or-append_right}
use Rattle.bd_model.specs.Sizes.{Sizes, extent_place}
use Rattle.bd_model.proofs.RoomLemmas.{up-enough}
use Rattle.bd_extio.specs.Ranges.{InOwner}
use Rattle.bd_extio.proofs.Within.{in_wider}
use Rattle.bd_space.specs.Allotment.{Allotment, IsFree}
use Rattle.bd_space.proofs.Kept.{still_free}
use Rattle.bd_roll.specs.Catalogue.{bytes_of_rows}
use Rattle.bd_catalog.specs.Agreement.{InFree}
use Rattle.bd_volume.specs.Filled.{Filled}
use Rattle.bd_volume.specs.Growing.{AddsExtents, CanGrow, Takes}
use Rattle.bd_arrange.specs.Desks.{InRest}
use Rattle.bd_arrange.specs.Moving.{InMoved}

-- what is free now was free before some numbers were taken
pub free_before : (numbers : List ℕ) (space space_now : Allotment) (n : ℕ) → Takes numbers space space_now → IsFree space_now n → IsFree space n
free_before numbers space space_now n takes free = (still_free numbers space.uses space_now.uses n (record { size = takes.marked.size; marked = takes.marked.marked; others = takes.marked.others }) free).1

module _ (s : Sizes) (some : 1 ≤ s.extent) where
  -- in one that was free, or in those that it had
  pub in_grown : (space : Allotment) (xs more : List ℕ) (at n place : ℕ) → All (IsFree space) more → at + n ≤ length (xs ++ more) * s.extent → InOwner s (xs ++ more) at n place →
      InFree s space place ⊎ InOwner s xs at (length xs * s.extent - at) place
  in_grown space xs more at n place free fits r =
      let positive : 0 < s.extent = omega arith in
      let p = at + r.k in
      let i = p / s.extent in
      let inside : p < length (xs ++ more) * s.extent = omega (arith, r.within) in
      let index : i < length (xs ++ more) = (div-lt_iff_lt-mul {k = s.extent} {x = p} {y = length (xs ++ more)} positive).1 inside in
      ⊎_elim
      (λ less. inr (
      let low : p < length xs * s.extent = (div-lt_iff_lt-mul {k = s.extent} {x = p} {y = length xs} positive).0 less in
      record {
        k = r.k;
        within = omega (arith, low);
        so = r.so ∙ ap (λ e. extent_place s e + p % s.extent) (get_or_append_left xs more 0 i less);
      }))
      (λ past. inl (
      let e = get_or more (i - length xs) 0 in
      let there : place ≡ extent_place s e + p % s.extent = r.so ∙ ap (λ m. extent_place s m + p % s.extent) (get_or-append_right xs more (length xs) i 0 refl past) in
      let short : p % s.extent < s.extent = mod-lt p positive in
      record {
        extent = e;
        free = free (i - length xs) 0 (omega (arith, index, length-append xs more, past));
        within = (omega (arith, there), omega (arith, there, short));
      }))
      (cases_lt i (length xs))

  -- the same of a volume, behind its records
  pub in_added : (space space_now : Allotment) (old new : Filled) (at n place : ℕ) → AddsExtents space space_now old new → bytes_of_rows old.rows ≤ at → at + n ≤ length new.numbers * s.extent →
      InOwner s new.numbers at n place → InFree s space place ⊎ InRest s old place
  in_added space space_now old new at n place adds behind fits r =
      let known = bytes_of_rows old.rows in
      let long = length old.numbers * s.extent in
      ⊎_elim
      (λ free. inl free)
      (λ rest. inr (⊎_elim
      (λ less. in_wider s old.numbers at (long - at) known (long - known) behind (omega (arith, less)) place rest)
      (λ past. absurd (omega (arith, rest.within, past)))
      (cases_lt at long)))
      (in_grown space old.numbers adds.more at n place adds.takes.were_free (subst (λ ns. at + n ≤ length ns * s.extent) adds.numbers fits) (subst (λ ns. InOwner s ns at n place) adds.numbers r))

  -- what may be written once some went on may be written before
  pub moved_before : (space space_now : Allotment) (old new : Filled) (to : List ℕ) (at n from total place : ℕ) → AddsExtents space space_now old new → bytes_of_rows old.rows ≤ bytes_of_rows new.rows → CanGrow s space_now new →
      from ≤ at → at + n ≤ from + total → InMoved s space_now new to at n place → InMoved s space old to from total place
  moved_before space space_now old new to at n from total place adds more grows low high r =
      let has = grows.extents in
      let enough = up-enough s.extent (bytes_of_rows new.rows) (length new.numbers) some has.sized in
      ⊎_elim
      (λ kept. inl (in_wider s to at n from total low high place kept))
      (λ rest. inr (⊎_elim
      (λ free. inl (record { extent = free.extent; free = free_before adds.more space space_now free.extent adds.takes free.free; within = free.within }))
      (λ behind. in_added space space_now old new (bytes_of_rows new.rows) (length new.numbers * s.extent - bytes_of_rows new.rows) place adds more (omega (arith, enough)) behind)
      rest))
      r
