use Rattle.std.proofs.Common.{◌≡◌, ℕ, ◌+◌, ◌-◌, Some, ◌++◌, ◌∷◌, [], slice_get, arith, ◌∙◌, sym, ap, subst}
use Rattle.bd_roll.specs.Catalogue.{Catalogue, oldest_in}
use Rattle.bd_roll.specs.Shown.{version_entry}
use Rattle.bd_store.proofs.LineLemmas.{lines-more}
use Rattle.bd_store.proofs.listing.lines_of.Goals as goal
use Rattle.bd_catalog.specs.Standing.{line_of}

pub loop-index-preserved : goal.loop-index-preserved
loop-index-preserved c =
    let cat : Catalogue = c.args.catalog.now.found.catalogue in
    let number : ℕ = c.from.result + 1 - c.from-2.result + c.from-in-loop-index.result in
    let is : number ≡ oldest_in cat + c.loop-index.index = omega (arith, c.newest.ensures, c.retained-retained.ensures, c.from.ensures, c.from-2.ensures, c.from-in-loop-index.ensures) in
    let at : number - oldest_in cat ≡ c.loop-index.index = omega (arith, is) in (
      omega arith,
      c.push.ensures.items
          ∙ ap (λ ls. ls ++ line_of number (version_entry c.in-Some.row.now) ∷ []) c.loop-index.invariant.1
          ∙ sym (lines-more (oldest_in cat) cat.versions c.loop-index.index number (version_entry c.in-Some.row.now)
          (subst (λ n. slice_get cat.versions n ≡ Some (version_entry c.in-Some.row.now)) at c.in-Some.ensures.row) is),
    )
