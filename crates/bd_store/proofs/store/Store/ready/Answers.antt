use Rattle.std.proofs.Common.{sym, ap, subst, arith, Ok, Err}
use Rattle.bd_disk.specs.Runs.{Works}
use Rattle.bd_disk.proofs.RunLemmas.{both_work}
use Rattle.bd_space.specs.Allotment.{held_count}
use Rattle.bd_catalog.specs.Agreement.{Agrees}
use Rattle.bd_catalog.specs.Opening.{Found}
use Rattle.bd_arrange.specs.Arranged.{IsSpared}
use Rattle.bd_store.specs.Readying.{IsReady, ReadiesOn}
use Rattle.bd_store.specs.Shown.{Shown}
use Rattle.bd_store.specs.Touches.{InArranging}
use Rattle.bd_store.proofs.ReadyingLemmas.{agrees_behind, arranged_told, due_ready, kept_refused, reads_ready, recipe_as_before, recipe_behind, unarranged_told, unread_told, waits_with_two}
use Rattle.bd_store.proofs.store.Store.ready.Goals as goal

pub returns-in-Err-clause-disk : goal.returns-in-Err-clause-disk
returns-in-Err-clause-disk g c =
    subst (λ (s : Shown). Works g.D.Disk (InArranging s.found) (IsSpared s.found) c.args.disk.now c.newest_recipe.new.disk) c.self.view_is (reads_ready c.self.inside.catalog.found c.newest_recipe.ensures.disk)

pub returns-in-Err-clause-told : goal.returns-in-Err-clause-told
returns-in-Err-clause-told g c =
    let found : Found = c.self.inside.catalog.found in
    subst (λ (s : Shown). g.D.Disk.tells → ReadiesOn s.held s.found found (g.D.Disk.history c.args.disk.now) (g.D.Disk.history c.newest_recipe.new.disk) (Err c.in-Err.fault)) c.self.view_is
    (unread_told g.D.Disk found (held_count c.self.inside.space) c.args.disk.now c.newest_recipe.new.disk
    (λ told. subst (λ (s : Shown). Agrees s.found (g.D.Disk.history c.args.disk.now)) (sym c.self.view_is) (c.requires.opened.agrees told)) c.newest_recipe.ensures.disk
    c.in-Err.fault c.in-Err.ensures.entries c.in-Err.ensures.seen)

pub arrange-requires-clause-agrees : goal.arrange-requires-clause-agrees
arrange-requires-clause-agrees g c =
    agrees_behind g.D.Disk c.self.inside.catalog.found (held_count c.self.inside.space) c.args.disk.now c.newest_recipe.new.disk
    (λ told. subst (λ (s : Shown). Agrees s.found (g.D.Disk.history c.args.disk.now)) (sym c.self.view_is) (c.requires.opened.agrees told)) c.newest_recipe.ensures.disk

pub arrange-requires-clause-newest : goal.arrange-requires-clause-newest
arrange-requires-clause-newest g c = λ told waiting.
    (recipe_behind g.D.Disk c.self.inside.catalog.found (held_count c.self.inside.space) c.args.disk.now c.newest_recipe.new.disk
    (λ told. subst (λ (s : Shown). Agrees s.found (g.D.Disk.history c.args.disk.now)) (sym c.self.view_is) (c.requires.opened.agrees told)) c.newest_recipe.ensures.disk
    told (c.in-Ok.ensures.entries told)).some (omega (arith, waits_with_two c.self.inside.catalog.found c.self.inside.catalog.rules waiting))

pub returns-in-Ok-arrange-clause-disk : goal.returns-in-Ok-arrange-clause-disk
returns-in-Ok-arrange-clause-disk g c =
    let found : Found = c.self.inside.catalog.found in
    subst (λ (s : Shown). Works g.D.Disk (InArranging s.found) (IsSpared s.found) c.args.disk.now c.arrange.new.disk) c.self.view_is (both_work (reads_ready found c.newest_recipe.ensures.disk) (due_ready found c.arrange.ensures.disk))

pub returns-in-Ok-arrange-clause-store : goal.returns-in-Ok-arrange-clause-store
returns-in-Ok-arrange-clause-store g c =
    let after : Shown = record { found = c.arrange.new.catalog.found; held = held_count c.arrange.new.space; worn = c.self.inside.worn } in
    subst (λ (s : Shown). IsReady s after c.in-Ok.neighbour) c.self.view_is (record {
      settled = c.in-Ok-arrange.ensures.found;
      recipe = recipe_as_before c.self.inside.catalog.found c.arrange.new.catalog.found c.in-Ok-arrange.ensures.found c.in-Ok.ensures.recipe;
      same = λ settled. ap (λ s. s.found) (c.arrange.ensures.settled settled).2;
    })

pub returns-in-Ok-arrange-clause-told : goal.returns-in-Ok-arrange-clause-told
returns-in-Ok-arrange-clause-told g c =
    let found : Found = c.self.inside.catalog.found in
    let mid : Found = c.arrange.new.catalog.found in
    subst (λ (s : Shown). g.D.Disk.tells → ReadiesOn s.held s.found mid (g.D.Disk.history c.args.disk.now) (g.D.Disk.history c.arrange.new.disk) (Ok c.in-Ok.neighbour)) c.self.view_is
    (arranged_told g.D.Disk found (held_count c.self.inside.space) c.args.disk.now c.newest_recipe.new.disk
    (λ told. subst (λ (s : Shown). Agrees s.found (g.D.Disk.history c.args.disk.now)) (sym c.self.view_is) (c.requires.opened.agrees told)) c.newest_recipe.ensures.disk
    c.in-Ok.neighbour c.in-Ok.ensures.entries c.arrange.new.disk mid c.arrange.ensures.disk
    (omega (arith, c.self.inside.catalog.shaped.extent_low))
    c.in-Ok.ensures.places (λ settled. (c.arrange.ensures.settled settled).1) c.in-Ok-arrange.ensures.found c.in-Ok-arrange.ensures.agrees c.in-Ok-arrange.ensures.answer c.in-Ok-arrange.ensures.states c.in-Ok-arrange.ensures.opens)

pub returns-in-Err-arrange-clause-disk : goal.returns-in-Err-arrange-clause-disk
returns-in-Err-arrange-clause-disk g c =
    let found : Found = c.self.inside.catalog.found in
    subst (λ (s : Shown). Works g.D.Disk (InArranging s.found) (IsSpared s.found) c.args.disk.now c.arrange.new.disk) c.self.view_is (both_work (reads_ready found c.newest_recipe.ensures.disk) (due_ready found c.arrange.ensures.disk))

pub returns-in-Err-arrange-clause-told : goal.returns-in-Err-arrange-clause-told
returns-in-Err-arrange-clause-told g c =
    let found : Found = c.self.inside.catalog.found in
    let mid : Found = c.arrange.new.catalog.found in
    subst (λ (s : Shown). g.D.Disk.tells → ReadiesOn s.held s.found mid (g.D.Disk.history c.args.disk.now) (g.D.Disk.history c.arrange.new.disk) (Err c.in-Err-arrange.fault)) c.self.view_is
    (unarranged_told g.D.Disk found (held_count c.self.inside.space) c.args.disk.now c.newest_recipe.new.disk
    (λ told. subst (λ (s : Shown). Agrees s.found (g.D.Disk.history c.args.disk.now)) (sym c.self.view_is) (c.requires.opened.agrees told)) c.newest_recipe.ensures.disk
    c.in-Ok.neighbour c.in-Ok.ensures.entries c.arrange.new.disk mid
    c.in-Err-arrange.fault (λ settled. (c.arrange.ensures.settled settled).1) c.in-Err-arrange.ensures.agrees c.in-Err-arrange.ensures.answer c.in-Err-arrange.ensures.states c.in-Err-arrange.ensures.opens)

pub invariant_of-self-in-Err-arrange : goal.invariant_of-self-in-Err-arrange
invariant_of-self-in-Err-arrange g c =
    kept_refused c.arrange.new.catalog.found c.arrange.new.space c.in-Err-arrange.fault c.is_read_fault-self-inside-in-Err-arrange.result c.is_read_fault-self-inside-in-Err-arrange.ensures c.in-Err-arrange.ensures.space.2
