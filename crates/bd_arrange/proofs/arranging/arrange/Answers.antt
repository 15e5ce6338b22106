use Rattle.std.proofs.Common.{◌≡◌, ◌≢◌, sym, ◌∙◌, ap, subst}
use Rattle.std.specs.Prelude.{IsTrue, Result, Ok, Err}
use Rattle.std.proofs.lemmas.Result.{err_from_is_err_and}
use Rattle.bd_disk.specs.History.{contents}
use Rattle.bd_disk.specs.Runs.{Works}
use Rattle.bd_disk.proofs.RunLemmas.{both_work, work_written, writes_work}
use Rattle.bd_model.specs.declared.layout.Phase.TheVariants.{Settled}
use Rattle.bd_space.specs.Allotment.{held_count}
use Rattle.bd_catalog.specs.Agreement.{Agrees}
use Rattle.bd_catalog.specs.Opening.{Found}
use Rattle.bd_roll.specs.Rules.{obeys}
use Rattle.bd_catalog.proofs.CommitLemmas.{number-small}
use Rattle.bd_roll.proofs.RuleLemmas.{IsBounded, bounded_in}
use Rattle.bd_recipe.specs.Reading.{recipe_found}
use Rattle.bd_recipe.specs.declared.fault.ReadFault.{ReadFault}
use Rattle.bd_recipe.specs.declared.fault.ReadFault.TheVariants.{OutOfMemory}
use Rattle.bd_volume.proofs.CopyLemmas.{no_work, work_told}
use Rattle.bd_arrange.specs.Arranged.{AnswersDue, InDue, IsAllotted, IsDamageOfDue, IsSpared, KeepsStates}
use Rattle.bd_arrange.specs.Opens.{IsSafeOpening}
use Rattle.bd_arrange.proofs.StandsArranged.{arranged_store_stands}
use Rattle.bd_arrange.proofs.ArrangedStates.{agrees_now, answers_named, answers_refused, but_refused, fits_desk, half_spared, if_told, keeps_all, keeps_either, keeps_refused, keeps_settled, opens_at_once, opens_named, opens_refused, staged_spared}
use Rattle.bd_arrange.proofs.arranging.arrange.Goals as goal

pub returns-in-Settled-clause-disk : goal.returns-in-Settled-clause-disk
returns-in-Settled-clause-disk g c = no_work

pub returns-in-Settled-clause-answer : goal.returns-in-Settled-clause-answer
returns-in-Settled-clause-answer g c = λ told waits. absurd (waits (sym c.phase.ensures ∙ c.in-Settled.is))

pub returns-in-Settled-clause-states : goal.returns-in-Settled-clause-states
returns-in-Settled-clause-states g c = λ told.
    keeps_settled (held_count c.args.space.now) c.args.catalog.now.found (g.D.Disk.history c.args.disk.now) (c.requires.agrees told) (sym c.phase.ensures ∙ c.in-Settled.is)

pub returns-in-Settled-clause-opens : goal.returns-in-Settled-clause-opens
returns-in-Settled-clause-opens g c = λ told. opens_at_once

pub returns-in_err-reserve-clause-opens : goal.returns-in_err-reserve-clause-opens
returns-in_err-reserve-clause-opens g c = λ told. opens_at_once

pub returns-in_err-desk-clause-opens : goal.returns-in_err-desk-clause-opens
returns-in_err-desk-clause-opens g c = λ told. opens_at_once

pub returns-in_err-reserve-clause-disk : goal.returns-in_err-reserve-clause-disk
returns-in_err-reserve-clause-disk g c = no_work

pub returns-in_err-reserve-clause-states : goal.returns-in_err-reserve-clause-states
returns-in_err-reserve-clause-states g c = λ told.
    let p = err_from_is_err_and c.from_residual.result c.from_residual.ensures.1 in
    let same : c.from_residual.result ≡ Err OutOfMemory = p.1 ∙ ap Err p.2 in
    subst (λ (r : Result (Unit {0}) ReadFault). KeepsStates {T = Unit {0}} (held_count c.args.space.now) (g.D.Disk.history c.args.disk.now) (g.D.Disk.history c.args.disk.now) r) (sym same)
    (keeps_all (held_count c.args.space.now) (g.D.Disk.history c.args.disk.now))

pub returns-in_err-desk-clause-disk : goal.returns-in_err-desk-clause-disk
returns-in_err-desk-clause-disk g c = no_work

pub returns-in_err-desk-clause-states : goal.returns-in_err-desk-clause-states
returns-in_err-desk-clause-states g c = λ told.
    let p = err_from_is_err_and c.from_residual-in_err-desk.result c.from_residual-in_err-desk.ensures.1 in
    let same : c.from_residual-in_err-desk.result ≡ Err OutOfMemory = p.1 ∙ ap Err p.2 in
    subst (λ (r : Result (Unit {0}) ReadFault). KeepsStates {T = Unit {0}} (held_count c.args.space.now) (g.D.Disk.history c.args.disk.now) (g.D.Disk.history c.args.disk.now) r) (sym same)
    (keeps_all (held_count c.args.space.now) (g.D.Disk.history c.args.disk.now))

pub name_all-requires-clause-fits : goal.name_all-requires-clause-fits
name_all-requires-clause-fits g c =
    let found : Found = c.reserve.new.self.found in
    let same : found ≡ c.args.catalog.now.found = c.reserve.ensures.found in
    let waits : found.catalogue.phase ≢ Settled = subst (λ (f : Found). f.catalogue.phase ≢ Settled) (sym same) (λ settled. c.in_default.not-Settled (c.phase.ensures ∙ settled)) in
    let rules : IsTrue (obeys found.sizes found.catalogue) = c.reserve.new.self.rules in
    let bounded : IsBounded found.sizes = bounded_in found.sizes c.reserve.new.self.shaped in
    let u = c.in-Ok.ensures.arranged in
    fits_desk found.sizes found.catalogue u.splits c.arrange_all.new.desk bounded rules waits u.has u.may u.ascend

pub name_all-requires-clause-agrees : goal.name_all-requires-clause-agrees
name_all-requires-clause-agrees g c = λ told.
    let d = g.D.Disk in
    let found : Found = c.reserve.new.self.found in
    let same : found ≡ c.args.catalog.now.found = c.reserve.ensures.found in
    let agrees : d.tells → Agrees found (d.history c.args.disk.now) = λ told. subst (λ (f : Found). Agrees f (d.history c.args.disk.now)) (sym same) (c.requires.agrees told) in
    agrees_now found (d.history c.args.disk.now) (d.history c.arrange_all.new.disk) (agrees told) (work_written c.arrange_all.ensures.disk told)

pub returns-in-Ok-clause-disk : goal.returns-in-Ok-clause-disk
returns-in-Ok-clause-disk g c =
    let d = g.D.Disk in
    let found : Found = c.reserve.new.self.found in
    let same : found ≡ c.args.catalog.now.found = c.reserve.ensures.found in
    let agrees : d.tells → Agrees found (d.history c.args.disk.now) = λ told. subst (λ (f : Found). Agrees f (d.history c.args.disk.now)) (sym same) (c.requires.agrees told) in
    let staged : Works d (InDue found) (IsSpared found) c.args.disk.now c.arrange_all.new.disk =
    work_told (InDue found) (IsSpared found) (λ place inside. inside) (λ told. staged_spared found (number-small found (d.history c.args.disk.now) (agrees told))) c.arrange_all.ensures.disk in
    let named : Works d (InDue found) (IsSpared found) c.arrange_all.new.disk c.name_all.new.disk =
    work_told (InDue found) (IsSpared found) (λ place inside. inside) (λ told. half_spared found (number-small found (d.history c.args.disk.now) (agrees told))) (writes_work (InDue found) c.name_all.ensures.disk) in
    subst (λ (f : Found). Works d (InDue f) (IsSpared f) c.args.disk.now c.name_all.new.disk) same (both_work staged named)

pub returns-in-Ok-clause-answer : goal.returns-in-Ok-clause-answer
returns-in-Ok-clause-answer g c = λ told.
    let d = g.D.Disk in
    let found : Found = c.reserve.new.self.found in
    let same : found ≡ c.args.catalog.now.found = c.reserve.ensures.found in
    let agrees : d.tells → Agrees found (d.history c.args.disk.now) = λ told. subst (λ (f : Found). Agrees f (d.history c.args.disk.now)) (sym same) (c.requires.agrees told) in
    let waits : found.catalogue.phase ≢ Settled = subst (λ (f : Found). f.catalogue.phase ≢ Settled) (sym same) (λ settled. c.in_default.not-Settled (c.phase.ensures ∙ settled)) in
    let u = c.in-Ok.ensures.arranged in
    let entries = c.args.neighbour.now.entries in
    let h0 = d.history c.args.disk.now in
    let newest : recipe_found found.sizes found.catalogue (contents h0) found.catalogue.newest ≡ Ok entries =
    subst (λ (f : Found). recipe_found f.sizes f.catalogue (contents h0) f.catalogue.newest ≡ Ok entries) (sym same) (c.requires.newest told (λ settled. c.in_default.not-Settled (c.phase.ensures ∙ settled))) in
    let allotted : IsAllotted found c.args.space.now = subst (λ (f : Found). IsAllotted f c.args.space.now) (sym same) c.requires.allotted in
    subst (λ (f : Found). AnswersDue (held_count c.args.space.now) f c.name_all.new.catalog.found h0 (d.history c.name_all.new.disk) c.name_all.result) same
    (answers_named found h0 (d.history c.arrange_all.new.disk) (agrees told) (work_written c.arrange_all.ensures.disk told) arranged_store_stands entries c.args.space.now c.arrange_all.new.desk u.splits waits newest allotted u.has u.may (u.told told)
    (d.history c.name_all.new.disk) d.tells told c.name_all.result c.name_all.new.catalog.found c.name_all.ensures.named.fails c.name_all.ensures.named.made c.name_all.ensures.named.done)

pub returns-in-Ok-clause-states : goal.returns-in-Ok-clause-states
returns-in-Ok-clause-states g c = λ told.
    let d = g.D.Disk in
    let found : Found = c.reserve.new.self.found in
    let same : found ≡ c.args.catalog.now.found = c.reserve.ensures.found in
    let agrees : d.tells → Agrees found (d.history c.args.disk.now) = λ told. subst (λ (f : Found). Agrees f (d.history c.args.disk.now)) (sym same) (c.requires.agrees told) in
    let waits : found.catalogue.phase ≢ Settled = subst (λ (f : Found). f.catalogue.phase ≢ Settled) (sym same) (λ settled. c.in_default.not-Settled (c.phase.ensures ∙ settled)) in
    let u = c.in-Ok.ensures.arranged in
    let entries = c.args.neighbour.now.entries in
    let h0 = d.history c.args.disk.now in
    let newest : recipe_found found.sizes found.catalogue (contents h0) found.catalogue.newest ≡ Ok entries =
    subst (λ (f : Found). recipe_found f.sizes f.catalogue (contents h0) f.catalogue.newest ≡ Ok entries) (sym same) (c.requires.newest told (λ settled. c.in_default.not-Settled (c.phase.ensures ∙ settled))) in
    let allotted : IsAllotted found c.args.space.now = subst (λ (f : Found). IsAllotted f c.args.space.now) (sym same) c.requires.allotted in
    keeps_either found h0 (d.history c.arrange_all.new.disk) (agrees told) (work_written c.arrange_all.ensures.disk told) arranged_store_stands entries c.args.space.now c.arrange_all.new.desk u.splits waits newest allotted u.has u.may (u.told told)
    (d.history c.name_all.new.disk) d.tells told c.name_all.result c.name_all.ensures.named.fails c.name_all.ensures.named.done (c.name_all.ensures.named.either told)

pub returns-in-Ok-clause-opens : goal.returns-in-Ok-clause-opens
returns-in-Ok-clause-opens g c = λ told.
    let d = g.D.Disk in
    let found : Found = c.reserve.new.self.found in
    let same : found ≡ c.args.catalog.now.found = c.reserve.ensures.found in
    let agrees : d.tells → Agrees found (d.history c.args.disk.now) = λ told. subst (λ (f : Found). Agrees f (d.history c.args.disk.now)) (sym same) (c.requires.agrees told) in
    let waits : found.catalogue.phase ≢ Settled = subst (λ (f : Found). f.catalogue.phase ≢ Settled) (sym same) (λ settled. c.in_default.not-Settled (c.phase.ensures ∙ settled)) in
    let u = c.in-Ok.ensures.arranged in
    let entries = c.args.neighbour.now.entries in
    let h0 = d.history c.args.disk.now in
    let newest : recipe_found found.sizes found.catalogue (contents h0) found.catalogue.newest ≡ Ok entries =
    subst (λ (f : Found). recipe_found f.sizes f.catalogue (contents h0) f.catalogue.newest ≡ Ok entries) (sym same) (c.requires.newest told (λ settled. c.in_default.not-Settled (c.phase.ensures ∙ settled))) in
    let allotted : IsAllotted found c.args.space.now = subst (λ (f : Found). IsAllotted f c.args.space.now) (sym same) c.requires.allotted in
    subst (λ (f : Found). IsSafeOpening (held_count c.args.space.now) f h0 (d.history c.name_all.new.disk)) same
    (opens_named found h0 (d.history c.arrange_all.new.disk) (agrees told) (work_written c.arrange_all.ensures.disk told) arranged_store_stands entries c.args.space.now c.arrange_all.new.desk u.splits waits newest allotted u.has u.may (u.told told)
    (d.history c.name_all.new.disk) (c.name_all.ensures.named.either told))

pub returns-in-Err-clause-disk : goal.returns-in-Err-clause-disk
returns-in-Err-clause-disk g c =
    let d = g.D.Disk in
    let found : Found = c.reserve.new.self.found in
    let same : found ≡ c.args.catalog.now.found = c.reserve.ensures.found in
    let agrees : d.tells → Agrees found (d.history c.args.disk.now) = λ told. subst (λ (f : Found). Agrees f (d.history c.args.disk.now)) (sym same) (c.requires.agrees told) in
    let staged : Works d (InDue found) (IsSpared found) c.args.disk.now c.arrange_all.new.disk =
    work_told (InDue found) (IsSpared found) (λ place inside. inside) (λ told. staged_spared found (number-small found (d.history c.args.disk.now) (agrees told))) c.arrange_all.ensures.disk in
    subst (λ (f : Found). Works d (InDue f) (IsSpared f) c.args.disk.now c.arrange_all.new.disk) same staged

pub returns-in-Err-clause-agrees : goal.returns-in-Err-clause-agrees
returns-in-Err-clause-agrees g c = λ told.
    let d = g.D.Disk in
    let found : Found = c.reserve.new.self.found in
    let same : found ≡ c.args.catalog.now.found = c.reserve.ensures.found in
    let agrees : d.tells → Agrees found (d.history c.args.disk.now) = λ told. subst (λ (f : Found). Agrees f (d.history c.args.disk.now)) (sym same) (c.requires.agrees told) in
    but_refused c.in-Err.fault (Agrees found (d.history c.arrange_all.new.disk))
    (agrees_now found (d.history c.args.disk.now) (d.history c.arrange_all.new.disk) (agrees told) (work_written c.arrange_all.ensures.disk told))

pub returns-in-Err-clause-answer : goal.returns-in-Err-clause-answer
returns-in-Err-clause-answer g c = λ told.
    let d = g.D.Disk in
    let found : Found = c.reserve.new.self.found in
    let same : found ≡ c.args.catalog.now.found = c.reserve.ensures.found in
    let agrees : d.tells → Agrees found (d.history c.args.disk.now) = λ told. subst (λ (f : Found). Agrees f (d.history c.args.disk.now)) (sym same) (c.requires.agrees told) in
    let h0 = d.history c.args.disk.now in
    let h1 = d.history c.arrange_all.new.disk in
    subst (λ (f : Found). AnswersDue (held_count c.args.space.now) f found h0 h1 (Err c.in-Err.fault)) same
    (answers_refused (held_count c.args.space.now) found found h0 h1 c.in-Err.fault (if_told d.tells told (λ damage. IsDamageOfDue found damage h0 h1) c.in-Err.fault c.in-Err.ensures.damage))

pub returns-in-Err-clause-states : goal.returns-in-Err-clause-states
returns-in-Err-clause-states g c = λ told.
    let d = g.D.Disk in
    let found : Found = c.reserve.new.self.found in
    let same : found ≡ c.args.catalog.now.found = c.reserve.ensures.found in
    let agrees : d.tells → Agrees found (d.history c.args.disk.now) = λ told. subst (λ (f : Found). Agrees f (d.history c.args.disk.now)) (sym same) (c.requires.agrees told) in
    let h0 = d.history c.args.disk.now in
    let h1 = d.history c.arrange_all.new.disk in
    keeps_refused found h0 h1 (agrees told) (work_written c.arrange_all.ensures.disk told) (held_count c.args.space.now) c.in-Err.fault
    (if_told d.tells told (λ damage. IsDamageOfDue found damage h0 h1) c.in-Err.fault c.in-Err.ensures.damage)

pub returns-in-Err-clause-opens : goal.returns-in-Err-clause-opens
returns-in-Err-clause-opens g c = λ told.
    let d = g.D.Disk in
    let found : Found = c.reserve.new.self.found in
    let same : found ≡ c.args.catalog.now.found = c.reserve.ensures.found in
    let agrees : d.tells → Agrees found (d.history c.args.disk.now) = λ told. subst (λ (f : Found). Agrees f (d.history c.args.disk.now)) (sym same) (c.requires.agrees told) in
    let h0 = d.history c.args.disk.now in
    let h1 = d.history c.arrange_all.new.disk in
    subst (λ (f : Found). IsSafeOpening (held_count c.args.space.now) f h0 h1) same (opens_refused found h0 h1 (agrees told) (work_written c.arrange_all.ensures.disk told) (held_count c.args.space.now))
