use Rattle.std.proofs.Common.{◌≡◌, ◌∙◌, ◌+◌, ◌-◌, ap, arith, length, subst, false}
use Rattle.bd_model.specs.Sizes.{Sizes}
use Rattle.bd_roll.specs.Catalogue.{all_extents}
use Rattle.bd_catalog.specs.Opening.{Found}
use Rattle.bd_store.specs.Shown.{HasFigures, Shown, cursor_of}
use Rattle.bd_store.proofs.Figured.{all_counted, figures_of_state}
use Rattle.bd_store.proofs.store.Store.figures.Goals as goal
use Rattle.bd_store.proofs.store.Store.figures.Goals.{After-from, in-Settled, in-Waiting}

all : (c : After-from) → c.from-free.result + length (all_extents c.self.inside.catalog.found.catalogue) + c.from-held.result ≡ c.from.result
all c =
    let found : Found = c.self.inside.catalog.found in
    let sound : c.self.inside.worn ≡ false = ap (λ (s : Shown). s.worn) c.self.view_is ∙ c.requires.sound in
    let extents : c.shape.result.extents ≡ found.sizes.extents = ap (λ (s : Sizes). s.extents) c.shape.ensures in
    omega (arith, all_counted found c.self.inside.space (c.self.invariant.count sound) (c.self.invariant.owners sound), c.from-free.ensures, c.free.ensures, c.from-held.ensures, c.held.ensures, c.from.ensures, c.extents.ensures, extents)

waiting : (c : After-from) → c.match-phase.waiting ≡ cursor_of c.self.inside.catalog.found.catalogue.phase
waiting c = elim c.match-phase.branch [ in-Settled w ↦ w.waiting-is ∙ ap cursor_of w.in-Settled.ensures | in-Waiting w ↦ w.waiting-is ∙ ap cursor_of w.in-Waiting.ensures ]

has : (c : After-from) → HasFigures c.args.self.now (record { owned = c.from.result - c.from-free.result - c.from-held.result; free = c.from-free.result; held = c.from-held.result; waiting = c.match-phase.waiting })
has c =
    subst (λ (s : Shown). HasFigures s (record { owned = c.from.result - c.from-free.result - c.from-held.result; free = c.from-free.result; held = c.from-held.result; waiting = c.match-phase.waiting })) c.self.view_is
    (record {
      owned = omega (arith, all c);
      free = record { so = omega (arith, all c, c.from-held.ensures, c.held.ensures, c.from.ensures, c.extents.ensures, ap (λ (s : Sizes). s.extents) c.shape.ensures) };
      held = c.from-held.ensures ∙ c.held.ensures;
      waiting = waiting c;
    })

pub overflow_sub-result-2 : goal.overflow_sub-result-2
overflow_sub-result-2 c = omega (arith, all c)

pub returns-clause-figures : goal.returns-clause-figures
returns-clause-figures c = has c

pub returns-clause-state : goal.returns-clause-state
returns-clause-state c = figures_of_state c.args.self.now _ (has c)
