use Rattle.std.proofs.Common.{◌≡◌, ◌+◌, ◌++◌, ◌<◌, sym, ◌∙◌, ap, subst, flat_map, arith, length}
use Rattle.bd_disk.specs.History.{contents}
use Rattle.bd_disk.specs.Runs.{Writes}
use Rattle.bd_disk.proofs.RunLemmas.{no_writes}
use Rattle.bd_model.specs.Chunks.{chunks}
use Rattle.bd_model.specs.Sizes.{Sizes, sizes_of}
use Rattle.bd_space.specs.Allotment.{free_count, held_count, TakenExactly}
use Rattle.bd_roll.specs.Catalogue.{VersionEntry, all_extents, retained_in}
use Rattle.bd_roll.specs.Rules.{obeys}
use Rattle.bd_roll.specs.Shown.{version_entry}
use Rattle.bd_roll.specs.Steps.{FitsBackup, fresh_actives}
use Rattle.bd_catalog.specs.Agreement.{InFree}
use Rattle.bd_intake.specs.declared.terms.Terms.{Terms}
use Rattle.bd_intake.specs.Answers.{HoldsVersion, IsVersion, RefusesVersion}
use Rattle.bd_intake.specs.Firsts.{cut_in}
use Rattle.bd_intake.specs.Given.{given_of, IsRecipeOrNone}
use Rattle.bd_intake.proofs.IntakeEnd.{begin_put, begin_staging, entries_extents, first_owns, in_free, no_fresh, version_counted, version_fits, version_stored}
use Rattle.bd_intake.proofs.NeighbourBounds.{recipe_fits}
use Rattle.bd_intake.proofs.OwnedExtents.{owns_last}
use Rattle.bd_intake.proofs.take_in.intake.Goals as goal

pub returns-in_err-staging-clause-disk : goal.returns-in_err-staging-clause-disk
returns-in_err-staging-clause-disk g c = no_writes

pub stage-requires-clause-taken : goal.stage-requires-clause-taken
stage-requires-clause-taken g c =
    let terms : Terms = record { shape = c.shape.result; gear = c.args.gear; neighbour = c.args.neighbour; version = c.newest.result + 1; free = c.free.result } in
    c.in_ok-staging.ensures.taken (given_of terms) (sym (c.len.ensures ∙ ap length c.entries.ensures.entries))

pub stage-requires-clause-staging : goal.stage-requires-clause-staging
stage-requires-clause-staging g c =
    let terms : Terms = record { shape = c.shape.result; gear = c.args.gear; neighbour = c.args.neighbour; version = c.newest.result + 1; free = c.free.result } in
    begin_staging (given_of terms) (all_extents c.args.catalog.now.found.catalogue) c.args.space.now c.in_ok-staging.staging (omega (arith, c.shape.result.in_range.extent_low))
    (c.in_ok-staging.ensures.taken (given_of terms) (sym (c.len.ensures ∙ ap length c.entries.ensures.entries))) c.in_ok-staging.ensures.recipe c.in_ok-staging.ensures.fresh c.in_ok-staging.ensures.entries c.in_ok-staging.ensures.records c.requires.owners
    (c.requires.size ∙ ap (λ (s : Sizes). s.extents) (sym c.shape.ensures)) c.free.ensures

pub stage-requires-clause-nothing : goal.stage-requires-clause-nothing
stage-requires-clause-nothing g c = λ image.
    let terms : Terms = record { shape = c.shape.result; gear = c.args.gear; neighbour = c.args.neighbour; version = c.newest.result + 1; free = c.free.result } in
    begin_put (given_of terms) c.in_ok-staging.staging image c.in_ok-staging.ensures.entries c.in_ok-staging.ensures.records

pub stage-requires-clause-sums : goal.stage-requires-clause-sums
stage-requires-clause-sums g c =
    let catalogue = c.args.catalog.now.found.catalogue in
    let sizes = c.shape.ensures in
    recipe_fits c.shape.result catalogue c.args.neighbour.now.entries (ap (λ s. obeys s catalogue) sizes ∙ c.args.catalog.now.rules) (subst (λ s. IsRecipeOrNone s catalogue c.args.neighbour.now.entries) (sym sizes) c.requires.entries)

pub finished-requires : goal.finished-requires
finished-requires g c =
    let terms : Terms = record { shape = c.shape.result; gear = c.args.gear; neighbour = c.args.neighbour; version = c.newest.result + 1; free = c.free.result } in
    record { none = no_fresh (given_of terms) c.stage.new.space c.stage.new.staging (omega (arith, c.shape.result.in_range.extent_low)) c.in-Ok.ensures.staging }

pub give_back-requires : goal.give_back-requires
give_back-requires g c =
    let base = all_extents c.args.catalog.now.found.catalogue in
    let owns = c.stage.ensures.grows.owners base c.args.space.now (first_owns base c.args.space.now c.in_ok-staging.staging c.in_ok-staging.ensures.recipe c.in_ok-staging.ensures.fresh c.requires.owners) in
    record { base = base; exact = owns.exact }

pub returns-in-Err-clause-space : goal.returns-in-Err-clause-space
returns-in-Err-clause-space g c =
    let base = all_extents c.args.catalog.now.found.catalogue in
    let owns = c.stage.ensures.grows.owners base c.args.space.now (first_owns base c.args.space.now c.in_ok-staging.staging c.in_ok-staging.ensures.recipe c.in_ok-staging.ensures.fresh c.requires.owners) in
    record { size = c.give_back.ensures.size ∙ owns.size; held = c.give_back.ensures.held ∙ owns.held; owners = tt; returned = c.give_back.ensures.owners base owns.exact }

pub returns-in-Err-clause-disk : goal.returns-in-Err-clause-disk
returns-in-Err-clause-disk g c =
    let base = all_extents c.args.catalog.now.found.catalogue in
    let owns = c.stage.ensures.grows.owners base c.args.space.now (first_owns base c.args.space.now c.in_ok-staging.staging c.in_ok-staging.ensures.recipe c.in_ok-staging.ensures.fresh c.requires.owners) in
    subst (λ s. Writes g.D.Disk (InFree s c.args.space.now) c.args.disk.now c.stage.new.disk) c.shape.ensures
    (in_free (sizes_of c.shape.result) base c.args.space.now c.stage.new.space c.stage.new.staging.recipe.numbers c.stage.new.staging.fresh.numbers owns c.stage.ensures.disk)

pub returns-in-Err-clause-counted : goal.returns-in-Err-clause-counted
returns-in-Err-clause-counted g c = λ t stream holds.
    let found = c.args.catalog.now.found in
    let old = c.args.neighbour.now.entries in
    let s = sizes_of c.shape.result in
    let held = held_count c.args.space.now in
    subst (λ z. RefusesVersion z old (found.catalogue.newest + 1) (chunks (cut_in z) stream) (free_count c.args.space.now) held c.in-Err.fault) c.shape.ensures
    (subst (λ n. RefusesVersion s old (n + 1) (chunks (cut_in s) stream) (free_count c.args.space.now) held c.in-Err.fault) c.newest.ensures
    (subst (λ n. RefusesVersion s old (c.newest.result + 1) (chunks (cut_in s) stream) n held c.in-Err.fault) c.free.ensures
    (c.in-Err.ensures.refused t stream holds)))

pub returns-in-Ok-clause-disk : goal.returns-in-Ok-clause-disk
returns-in-Ok-clause-disk g c =
    let base = all_extents c.args.catalog.now.found.catalogue in
    let owns = c.stage.ensures.grows.owners base c.args.space.now (first_owns base c.args.space.now c.in_ok-staging.staging c.in_ok-staging.ensures.recipe c.in_ok-staging.ensures.fresh c.requires.owners) in
    subst (λ s. Writes g.D.Disk (InFree s c.args.space.now) c.args.disk.now c.stage.new.disk) c.shape.ensures
    (in_free (sizes_of c.shape.result) base c.args.space.now c.stage.new.space c.stage.new.staging.recipe.numbers c.stage.new.staging.fresh.numbers owns c.stage.ensures.disk)

pub returns-in-Ok-clause-space : goal.returns-in-Ok-clause-space
returns-in-Ok-clause-space g c =
    let base = all_extents c.args.catalog.now.found.catalogue in
    let b = c.stage.new.staging in
    let staged = c.finished.result in
    let owns = c.stage.ensures.grows.owners base c.args.space.now (first_owns base c.args.space.now c.in_ok-staging.staging c.in_ok-staging.ensures.recipe c.in_ok-staging.ensures.fresh c.requires.owners) in
    let recipe : b.recipe.numbers ≡ staged.version.recipe.numbers = sym (ap (λ (e : VersionEntry). e.extents) c.finished.ensures.version) in
    let fresh : b.fresh.numbers ≡ flat_map (λ e. e.extents) (fresh_actives staged.fresh) = sym (entries_extents staged.fresh ∙ c.finished.ensures.extents) in
    record {
      size = owns.size;
      held = owns.held;
      owners = subst (λ xs. TakenExactly c.stage.new.space (base ++ xs)) (λ k. recipe k ++ fresh k) (owns_last base c.args.space.now c.stage.new.space b.recipe.numbers b.fresh.numbers owns);
      returned = tt;
    }

pub returns-in-Ok-clause-fits : goal.returns-in-Ok-clause-fits
returns-in-Ok-clause-fits g c = λ room.
    let terms : Terms = record { shape = c.shape.result; gear = c.args.gear; neighbour = c.args.neighbour; version = c.newest.result + 1; free = c.free.result } in
    let base = all_extents c.args.catalog.now.found.catalogue in
    let found = c.args.catalog.now.found in
    let staged = c.finished.result in
    let sizes = c.shape.ensures in
    let owns = c.stage.ensures.grows.owners base c.args.space.now (first_owns base c.args.space.now c.in_ok-staging.staging c.in_ok-staging.ensures.recipe c.in_ok-staging.ensures.fresh c.requires.owners) in
    subst (λ s. FitsBackup s found.catalogue (version_entry staged.version) (fresh_actives staged.fresh)) sizes
    (version_fits terms found.catalogue base c.args.space.now c.stage.new.space c.stage.new.staging staged
    (ap (λ s. obeys s found.catalogue) sizes ∙ c.args.catalog.now.rules) (subst (λ (s : Sizes). retained_in found.catalogue < s.retain) (sym sizes) room) c.requires.number (ap (λ n. n + 1) c.newest.ensures) c.in-Ok.ensures.staging (λ k. base)
    (c.requires.size ∙ ap (λ (s : Sizes). s.extents) (sym sizes)) owns c.finished.ensures.version c.finished.ensures.entries c.finished.ensures.extents)

pub returns-in-Ok-clause-counted : goal.returns-in-Ok-clause-counted
returns-in-Ok-clause-counted g c = λ t stream holds.
    let terms : Terms = record { shape = c.shape.result; gear = c.args.gear; neighbour = c.args.neighbour; version = c.newest.result + 1; free = c.free.result } in
    let found = c.args.catalog.now.found in
    let old = c.args.neighbour.now.entries in
    let s = sizes_of c.shape.result in
    let staged = c.finished.result in
    let whole = c.in-Ok.ensures.whole t stream holds in
    subst (λ z. IsVersion z old (found.catalogue.newest + 1) stream (chunks (cut_in z) stream) (free_count c.args.space.now) staged) c.shape.ensures
    (subst (λ n. IsVersion s old (n + 1) stream (chunks (cut_in s) stream) (free_count c.args.space.now) staged) c.newest.ensures
    (subst (λ n. IsVersion s old (c.newest.result + 1) stream (chunks (cut_in s) stream) n staged) c.free.ensures
    (version_counted terms c.stage.new.space stream c.stage.new.staging staged c.in-Ok.need c.in-Ok.ensures.staging whole.1 whole.0
    c.finished.ensures.version c.finished.ensures.entries c.finished.ensures.extents c.finished.ensures.need)))

pub returns-in-Ok-clause-stored : goal.returns-in-Ok-clause-stored
returns-in-Ok-clause-stored g c = λ told t stream holds.
    let terms : Terms = record { shape = c.shape.result; gear = c.args.gear; neighbour = c.args.neighbour; version = c.newest.result + 1; free = c.free.result } in
    let found = c.args.catalog.now.found in
    let old = c.args.neighbour.now.entries in
    let s = sizes_of c.shape.result in
    let staged = c.finished.result in
    let image = contents (g.D.Disk.history c.stage.new.disk) in
    let whole = c.in-Ok.ensures.whole t stream holds in
    subst (λ z. HoldsVersion z old (found.catalogue.newest + 1) (chunks (cut_in z) stream) staged image) c.shape.ensures
    (subst (λ n. HoldsVersion s old (n + 1) (chunks (cut_in s) stream) staged image) c.newest.ensures
    (version_stored (given_of terms) (chunks (cut_in s) stream) c.stage.new.staging staged image (whole.2 told)
    c.finished.ensures.version c.finished.ensures.extents))
