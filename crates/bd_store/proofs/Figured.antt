-- The figures of a store: what is free, what is owned and what is held are all extents.
use Rattle.std.proofs.Common.{◌≡◌, ◌∙◌, ◌+◌, ap, arith, length}
use Rattle.bd_model.specs.Sizes.{Sizes}
use Rattle.bd_space.specs.Allotment.{Allotment, extent_count, free_count, held_count, TakenExactly}
use Rattle.bd_space.proofs.Exact.{taken_count-exact}
use Rattle.bd_space.proofs.Uses.{counts-all}
use Rattle.bd_roll.specs.Catalogue.{all_extents}
use Rattle.bd_catalog.specs.Opening.{Found}
use Rattle.bd_catalog.proofs.StandingLemmas.{stands-shows}
use Rattle.bd_catalog.proofs.StandingOwned.{owned-stands}
use Rattle.bd_store.specs.Shown.{AreFiguresOf, HasFigures, Shown, cursor_of}
use Rattle.bd_store.specs.declared.figures.Figures.{Figures}

pub all_counted : (found : Found) (space : Allotment) → extent_count space ≡ found.sizes.extents → TakenExactly space (all_extents found.catalogue) → free_count space + length (all_extents found.catalogue) + held_count space ≡ found.sizes.extents
all_counted found space count owners = omega (arith, counts-all space, taken_count-exact space (all_extents found.catalogue) owners, count)

-- over any state for which an image of this store stands
pub figures_of_state : (store : Shown) (figures : Figures) → HasFigures store figures → AreFiguresOf store figures
figures_of_state store figures has = record {
  each = λ shape st phase image opens stands.
      let shows = stands-shows stands opens in (
        has.owned ∙ owned-stands stands opens,
        omega (arith, has.owned, has.free.so, has.held, ap (λ (s : Sizes). s.extents) shows.sizes),
        has.waiting ∙ ap cursor_of shows.at_phase,
      );
}
