use Rattle.std.proofs.Common.{◌≡◌, ◌∙◌, ◌↔◌, ◌+◌, ℕ, Bool, true, false, length, refl, sym, ap, subst, arith, Result, Err}
use Rattle.bd_disk.specs.History.{contents}
use Rattle.bd_disk.proofs.RunLemmas.{written}
use Rattle.bd_files.specs.World.{with_disk, with_files}
use Rattle.bd_model.specs.declared.answer.Answer.{Answer}
use Rattle.bd_model.specs.declared.command.Command.TheVariants.{Backup}
use Rattle.bd_space.specs.Allotment.{held_count, TakenExactly}
use Rattle.bd_catalog.specs.Agreement.{Agrees, InFree}
use Rattle.bd_roll.specs.Catalogue.{all_extents}
use Rattle.bd_catalog.specs.Opening.{Found}
use Rattle.bd_catalog.proofs.Staged.{agrees_staged}
use Rattle.bd_intake.proofs.Firsts.{new_chunks}
use Rattle.bd_store.specs.Attempts.{attempt, scene}
use Rattle.bd_store.specs.Following.{Follows}
use Rattle.bd_store.specs.Naming.{refusal_of, with_room}
use Rattle.bd_store.specs.Newest.{IsNewestRecipe}
use Rattle.bd_store.specs.Shown.{HasFree, Shown}
use Rattle.bd_store.specs.declared.fault.StoreFault.{StoreFault}
use Rattle.bd_store.specs.declared.fault.StoreFault.TheVariants.{DiskFault, OutOfMemory}
use Rattle.bd_store.proofs.NothingTouched.{shown_is}
use Rattle.bd_store.proofs.RefusalStep.{backup_goes_on}
use Rattle.bd_store.proofs.BackupMeets.{Begun, begun_from, follows_without_memory, holds_ok, kept_named, named_or_failed, refused_follows}
use Rattle.bd_store.proofs.store.Store.take_in.Goals as goal

pub returns-then-is_err : goal.returns-then-is_err
returns-then-is_err g c =
    let found : Found = c.reserve.new.self.found in
    let same : found ≡ c.args.self.now.found = c.reserve.ensures.found ∙ ap (λ (s : Shown). s.found) c.self.view_is in
    let shown = shown_is found (held_count c.self.inside.space) c.args.self.now same (ap (λ (s : Shown). s.held) c.self.view_is) c.requires.opened.sound in
    let sound : c.self.inside.worn ≡ false = ap (λ (s : Shown). s.worn) c.self.view_is ∙ c.requires.opened.sound in
    record {
      follows = λ w. subst (λ (s : Shown). Follows g.D.Disk.tells g.F.Files.tells (attempt (Backup c.args.name.now) (Err OutOfMemory)
          (scene c.args.self.now (with_files g.F.Files (with_disk g.D.Disk w c.args.disk.now) c.args.files.now)) (scene s (with_files g.F.Files (with_disk g.D.Disk w c.args.disk.now) c.args.files.now)))) (sym shown ∙ (λ k. record { found = found; held = held_count c.self.inside.space; worn = sym sound k }))
          (follows_without_memory c.args.name.now (scene c.args.self.now (with_files g.F.Files (with_disk g.D.Disk w c.args.disk.now) c.args.files.now)) c.requires.opened.sound c.requires.opened.agrees (backup_goes_on c.args.self.now.found c.requires.number c.requires.limit));
    }

pub name_version-named-requires-clause-reserved : goal.name_version-named-requires-clause-reserved
name_version-named-requires-clause-reserved g c = holds_ok c.reserve.result _ (sym c.is_err.ensures.value ∙ c.if-is_err.false) c.reserve.ensures.room

pub name_version-named-requires-clause-agrees : goal.name_version-named-requires-clause-agrees
name_version-named-requires-clause-agrees g c = λ told.
    let found : Found = c.reserve.new.self.found in
    let same : found ≡ c.args.self.now.found = c.reserve.ensures.found ∙ ap (λ (s : Shown). s.found) c.self.view_is in
    agrees_staged found (InFree found.sizes c.self.inside.space) (λ place inside. omega (arith, inside.within.0))
    (subst (λ (f : Found). Agrees f (g.D.Disk.history c.args.disk.now)) (sym same) (c.requires.opened.agrees told)) (written c.intake.ensures.disk told)

pub invariant_of-self-in-Ok : goal.invariant_of-self-in-Ok
invariant_of-self-in-Ok g c =
    let found : Found = c.reserve.new.self.found in
    let sound : c.self.inside.worn ≡ false = ap (λ (s : Shown). s.worn) c.self.view_is ∙ c.requires.opened.sound in
    kept_named found _ c.name_version-named.new.catalog.found c.name_version-named.new.space c.in-Ok.staged c.is_disk_fault-self-inside.result c.name_version-named.result
    c.name_version-named.ensures.answer c.name_version-named.ensures.made c.name_version-named.ensures.owners
    (c.name_version-named.ensures.counts.0 ∙ c.intake.ensures.space.size ∙ c.self.invariant.count sound ∙ ap (λ (f : Found). f.sizes.extents) (sym c.reserve.ensures.found)) refl c.is_disk_fault-self-inside.ensures

pub returns-in-Ok : goal.returns-in-Ok
returns-in-Ok g c =
    let found : Found = c.reserve.new.self.found in
    let held = held_count c.self.inside.space in
    let same : found ≡ c.args.self.now.found = c.reserve.ensures.found ∙ ap (λ (s : Shown). s.found) c.self.view_is in
    let shown = shown_is found held c.args.self.now same (ap (λ (s : Shown). s.held) c.self.view_is) c.requires.opened.sound in
    let sound : c.self.inside.worn ≡ false = ap (λ (s : Shown). s.worn) c.self.view_is ∙ c.requires.opened.sound in
    let begun : Begun found c.self.inside.space g.D.Disk.tells (g.D.Disk.history c.args.disk.now) = begun_from same (record {
      agrees = c.requires.opened.agrees;
      settled = c.requires.settled;
      below = c.requires.number;
      fewer = c.requires.limit;
      count = c.self.invariant.count sound ∙ ap (λ (s : Shown). s.found.sizes.extents) c.self.view_is;
      owners = subst (λ (s : Shown). TakenExactly c.self.inside.space (all_extents s.found.catalogue)) c.self.view_is (c.self.invariant.owners sound);
    }) in
    record {
      follows = λ w. subst (λ (before : Shown). Follows g.D.Disk.tells g.F.Files.tells (attempt (Backup c.args.name.now) c.name_version-named.result
          (scene before (with_files g.F.Files (with_disk g.D.Disk w c.args.disk.now) c.args.files.now))
          (scene (record { found = c.name_version-named.new.catalog.found; held = held_count c.name_version-named.new.space; worn = c.is_disk_fault-self-inside.result }) (with_files g.F.Files (with_disk g.D.Disk w c.name_version-named.new.disk) c.intake.new.files)))) shown
          (named_or_failed g.D.Disk g.F.Files w found c.self.inside.space c.args.name.now c.args.disk.now c.args.files.now begun new_chunks c.args.neighbour.now.entries
          (λ told. subst (λ (f : Found). IsNewestRecipe f (contents (g.D.Disk.history c.args.disk.now)) c.args.neighbour.now.entries) (sym same) (c.requires.newest told))
          c.intake.new.disk c.intake.new.files c.in-Ok.staged
          (record { disk = c.intake.ensures.disk; cause = c.in-Ok.ensures.cause; files = c.in-Ok.ensures.files; counted = c.in-Ok.ensures.counted })
          c.in-Ok.ensures.stored c.name_version-named.new.disk c.name_version-named.new.catalog.found c.name_version-named.new.space c.is_disk_fault-self-inside.result c.name_version-named.result
          (record { disk = c.name_version-named.ensures.disk; cause = c.name_version-named.ensures.cause; answer = c.name_version-named.ensures.answer; either = c.name_version-named.ensures.either; made = c.name_version-named.ensures.made; done = c.name_version-named.ensures.done; held = c.name_version-named.ensures.counts.1 ∙ c.intake.ensures.space.held })
          c.is_disk_fault-self-inside.ensures);
    }

pub returns-in-Err : goal.returns-in-Err
returns-in-Err g c = record {
  follows = λ w.
      let found : Found = c.reserve.new.self.found in
      let held = held_count c.self.inside.space in
      let same : found ≡ c.args.self.now.found = c.reserve.ensures.found ∙ ap (λ (s : Shown). s.found) c.self.view_is in
      let shown = shown_is found held c.args.self.now same (ap (λ (s : Shown). s.held) c.self.view_is) c.requires.opened.sound in
      let sound : c.self.inside.worn ≡ false = ap (λ (s : Shown). s.worn) c.self.view_is ∙ c.requires.opened.sound in
      let begun : Begun found c.self.inside.space g.D.Disk.tells (g.D.Disk.history c.args.disk.now) = begun_from same (record {
        agrees = c.requires.opened.agrees;
        settled = c.requires.settled;
        below = c.requires.number;
        fewer = c.requires.limit;
        count = c.self.invariant.count sound ∙ ap (λ (s : Shown). s.found.sizes.extents) c.self.view_is;
        owners = subst (λ (s : Shown). TakenExactly c.self.inside.space (all_extents s.found.catalogue)) c.self.view_is (c.self.invariant.owners sound);
      }) in
      let worn : Bool = c.is_disk_fault-self-inside-in-Err.result in
      let free : ℕ = c.figures-free.result.free in
      let FollowsFrom : Shown → Shown → Result Answer StoreFault → Type 0 =
      λ before after result. Follows g.D.Disk.tells g.F.Files.tells (attempt (Backup c.args.name.now) result (scene before (with_files g.F.Files (with_disk g.D.Disk w c.args.disk.now) c.args.files.now)) (scene after (with_files g.F.Files (with_disk g.D.Disk w c.intake.new.disk) c.intake.new.files))) in
      let start : Shown = record { found = found; held = held; worn = false } in
      let end : Shown = record { found = found; held = held; worn = worn } in
      let room : HasFree start free = record { so = subst (λ n. free + length (all_extents found.catalogue) + n ≡ found.sizes.extents) c.intake.ensures.space.held c.figures-free.ensures.figures.free.so } in
      let is_refusal : c.refusal_of-refused.result ≡ refusal_of (with_room free held c.in-Err.fault) =
      c.refusal_of-refused.ensures ∙ ap refusal_of (c.with_room.ensures ∙ (λ k. with_room free ((c.figures-free.ensures.figures.held ∙ c.intake.ensures.space.held) k) c.in-Err.fault)) in
      let is : FollowsFrom start end (refusal_of (with_room free held c.in-Err.fault)) =
      refused_follows g.D.Disk g.F.Files w found c.self.inside.space c.args.name.now c.args.disk.now c.args.files.now begun new_chunks c.args.neighbour.now.entries
      (λ told. subst (λ (f : Found). IsNewestRecipe f (contents (g.D.Disk.history c.args.disk.now)) c.args.neighbour.now.entries) (sym same) (c.requires.newest told))
      c.intake.new.disk c.intake.new.files c.in-Err.fault free worn
      (record { disk = c.intake.ensures.disk; cause = c.in-Err.ensures.cause; files = c.in-Err.ensures.files; counted = c.in-Err.ensures.counted })
      room (subst (λ result. (worn ≡ true) ↔ (result ≡ Err DiskFault)) is_refusal c.is_disk_fault-self-inside-in-Err.ensures) in
      subst (λ (before : Shown). FollowsFrom before (record { found = found; held = held_count c.intake.new.space; worn = worn }) c.refusal_of-refused.result) shown
      (subst (λ n. FollowsFrom start (record { found = found; held = n; worn = worn }) c.refusal_of-refused.result) (sym c.intake.ensures.space.held)
      (subst (FollowsFrom start end) (sym is_refusal) is));
}
