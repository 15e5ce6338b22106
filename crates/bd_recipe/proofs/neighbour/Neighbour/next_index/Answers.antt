use Rattle.std.proofs.Common.{ap, sym}
use Rattle.bd_recipe.proofs.EntriesByMark.{next_none, next_noted, next_some, next_within}
use Rattle.bd_recipe.proofs.neighbour.Neighbour.next_index.Goals as goal

pub returns-then-later-eq0-clause-index : goal.returns-then-later-eq0-clause-index
returns-then-later-eq0-clause-index c =
    let item = c.in_ok-later.ensures.lookup in
    let noted = next_noted c.self.inside.recipe.items c.args.self.now.entries c.self.inside.first.entries c.self.inside.next.items c.deref.result.now c.args.index c.in_ok-later.field-0.now c.self.invariant (ap (λ v. v.entries) c.self.view_is) c.deref.ensures.value (sym item.0) item.1 in
    next_none c.args.self.now.entries c.args.index c.in_ok-later.field-0.now noted c.if-later-eq0.true

pub returns-else-later-eq0-clause-later : goal.returns-else-later-eq0-clause-later
returns-else-later-eq0-clause-later c =
    let item = c.in_ok-later.ensures.lookup in
    let noted = next_noted c.self.inside.recipe.items c.args.self.now.entries c.self.inside.first.entries c.self.inside.next.items c.deref.result.now c.args.index c.in_ok-later.field-0.now c.self.invariant (ap (λ v. v.entries) c.self.view_is) c.deref.ensures.value (sym item.0) item.1 in
    next_within c.args.self.now.entries c.args.index c.in_ok-later.field-0.now (next_some c.args.self.now.entries c.args.index c.in_ok-later.field-0.now noted c.if-later-eq0.false)
