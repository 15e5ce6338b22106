use Rattle.std.proofs.Common.{◌≡◌, ◌≤◌, length, map, sym, ap, subst, arith, true}
use Rattle.std.proofs.lemmas.List.{length-map}
use Rattle.bd_model.specs.Sizes.{Sizes, sizes_of}
use Rattle.bd_roll.specs.Catalogue.{Catalogue}
use Rattle.bd_roll.specs.Capacity.{IsRoom, RoomIs, room_of}
use Rattle.bd_catalog.specs.Ledger.{HasRoom, Ledger}
use Rattle.bd_catalog.specs.Opening.{Found}
use Rattle.bd_roll.specs.Rules.{obeys}
use Rattle.bd_roll.specs.Shown.{catalogue_of_contents, volume_entry}
use Rattle.bd_roll.specs.Splitting.{FitsArrange, FitsExpire, expired, replaced}
use Rattle.bd_roll.specs.Giving.{AreOwned, GivesUp}
use Rattle.bd_roll.specs.Steps.{Fits, NeedsRoom, dropped, kept_entry}
use Rattle.bd_roll.proofs.RulesAfterDrop.{dropped_rules}
use Rattle.bd_roll.proofs.StepNeeds.{all_sums_fit, few_added, step_owned, step_owners}
use Rattle.bd_roll.proofs.GivenUp.{gives_none}
use Rattle.bd_roll.proofs.RuleLemmas.{bounded_of, rules_of}
use Rattle.bd_roll.proofs.OwnedByStep.{fit_splits, waiting_volume}
use Rattle.bd_catalog.proofs.catalog.Catalog.make.Goals as goal

pub expire-requires-clause-sums : goal.expire-requires-clause-sums
expire-requires-clause-sums c =
    let s : Sizes = sizes_of c.self.inside.shape in
    let contents = c.self.inside.contents in
    all_sums_fit s (bounded_of c.self.inside.shape) contents.volumes.items (rules_of s (catalogue_of_contents contents) c.self.inside.rules).volumes

pub invariant_of-self-inside-in-Expire : goal.invariant_of-self-inside-in-Expire
invariant_of-self-inside-in-Expire c =
    let s : Sizes = sizes_of c.self.inside.shape in
    let d : Catalogue = catalogue_of_contents c.self.inside.contents in
    let same = ap (λ (l : Ledger). l.found) c.self.view_is in
    let fits : FitsExpire d = subst (λ (f : Found). FitsExpire f.catalogue) (sym same) (subst (λ step. Fits c.args.self.now.found.sizes c.args.self.now.found.catalogue step) c.in-Expire.is c.requires.fits) in
    (subst (λ e. obeys s e ≡ true) (sym c.expire.ensures.catalogue) (dropped_rules s (bounded_of c.self.inside.shape) 1 d c.self.inside.rules fits), tt)

pub arrange-requires-clause-room : goal.arrange-requires-clause-room
arrange-requires-clause-room c =
    let s : Sizes = sizes_of c.self.inside.shape in
    let d : Catalogue = catalogue_of_contents c.self.inside.contents in
    let rows = c.in-Arrange.volume.rows.items in
    let added = c.in-Arrange.volume.extents.numbers in
    let es = map kept_entry c.in-Arrange.splits.items in
    let same = ap (λ (l : Ledger). l.found) c.self.view_is in
    let fits : FitsArrange s d rows added es =
    subst (λ (f : Found). FitsArrange f.sizes f.catalogue rows added es) (sym same) (subst (λ step. Fits c.args.self.now.found.sizes c.args.self.now.found.catalogue step) c.in-Arrange.is c.requires.fits) in
    let room : HasRoom c.args.self.now = subst (λ step. NeedsRoom step → HasRoom c.args.self.now) c.in-Arrange.is c.requires.reserved tt in
    let made : RoomIs s.extents c.self.inside.contents =
    subst (λ n. IsRoom s.extents n (room_of c.self.inside.contents)) (length-map c.self.inside.contents.volumes.items volume_entry) (subst HasRoom (sym c.self.view_is) room) in
    let some : 1 ≤ length d.volumes = waiting_volume s d c.self.inside.rules fits.waits in
    omega (
      arith,
      few_added s (bounded_of c.self.inside.shape) d rows added es c.self.inside.rules fits,
      made.extents (omega (arith, some, length-map c.self.inside.contents.volumes.items volume_entry)),
    )

pub arrange-requires-clause-splits : goal.arrange-requires-clause-splits
arrange-requires-clause-splits c =
    let s : Sizes = sizes_of c.self.inside.shape in
    let d : Catalogue = catalogue_of_contents c.self.inside.contents in
    let rows = c.in-Arrange.volume.rows.items in
    let added = c.in-Arrange.volume.extents.numbers in
    let es = map kept_entry c.in-Arrange.splits.items in
    let same = ap (λ (l : Ledger). l.found) c.self.view_is in
    let fits : FitsArrange s d rows added es =
    subst (λ (f : Found). FitsArrange f.sizes f.catalogue rows added es) (sym same) (subst (λ step. Fits c.args.self.now.found.sizes c.args.self.now.found.catalogue step) c.in-Arrange.is c.requires.fits) in
    fit_splits s d rows added es c.self.inside.rules fits

-- ---- what is owned

pub expire-requires-clause-owned : goal.expire-requires-clause-owned
expire-requires-clause-owned c =
    let found : Found = c.args.self.now.found in
    let same = ap (λ (l : Ledger). l.found) c.self.view_is in
    let rules : obeys found.sizes found.catalogue ≡ true = c.args.self.now.rules in
    let owned : AreOwned c.args.space.now (dropped found.catalogue c.args.step) = step_owned found.sizes found.catalogue c.args.step c.args.space.now rules c.requires.fits c.requires.owners in
    subst (λ (f : Found). AreOwned c.args.space.now (expired f.catalogue)) (sym same) (subst (λ step. AreOwned c.args.space.now (dropped found.catalogue step)) c.in-Expire.is owned)

pub arrange-requires-clause-owned : goal.arrange-requires-clause-owned
arrange-requires-clause-owned c =
    let found : Found = c.args.self.now.found in
    let es = map kept_entry c.in-Arrange.splits.items in
    let same = ap (λ (l : Ledger). l.found) c.self.view_is in
    let rules : obeys found.sizes found.catalogue ≡ true = c.args.self.now.rules in
    let owned : AreOwned c.args.space.now (dropped found.catalogue c.args.step) = step_owned found.sizes found.catalogue c.args.step c.args.space.now rules c.requires.fits c.requires.owners in
    subst (λ (f : Found). AreOwned c.args.space.now (replaced es f.catalogue.actives)) (sym same) (subst (λ step. AreOwned c.args.space.now (dropped found.catalogue step)) c.in-Arrange.is owned)

pub returns-in-Backup-clause-owners : goal.returns-in-Backup-clause-owners
returns-in-Backup-clause-owners c =
    let found : Found = c.args.self.now.found in
    let same = ap (λ (l : Ledger). l.found) c.self.view_is in
    let rules : obeys found.sizes found.catalogue ≡ true = c.args.self.now.rules in
    let gives : GivesUp (dropped found.catalogue c.args.step) c.args.space.now c.args.space.now = subst (λ step. GivesUp (dropped found.catalogue step) c.args.space.now c.args.space.now) (sym c.in-Backup.is) (gives_none c.args.space.now) in
    step_owners found.sizes found.catalogue c.args.step c.args.space.now c.args.space.now rules c.requires.fits c.requires.owners gives

pub returns-in-Expire-clause-owners : goal.returns-in-Expire-clause-owners
returns-in-Expire-clause-owners c =
    let found : Found = c.args.self.now.found in
    let same = ap (λ (l : Ledger). l.found) c.self.view_is in
    let rules : obeys found.sizes found.catalogue ≡ true = c.args.self.now.rules in
    let old = c.args.space.now in
    let new = c.expire.new.space in
    let gives : GivesUp (dropped found.catalogue c.args.step) old new =
    subst (λ step. GivesUp (dropped found.catalogue step) old new) (sym c.in-Expire.is) (subst (λ (f : Found). GivesUp (expired f.catalogue) old new) same c.expire.ensures.gives) in
    step_owners found.sizes found.catalogue c.args.step old new rules c.requires.fits c.requires.owners gives

pub returns-in-Arrange-clause-owners : goal.returns-in-Arrange-clause-owners
returns-in-Arrange-clause-owners c =
    let found : Found = c.args.self.now.found in
    let es = map kept_entry c.in-Arrange.splits.items in
    let same = ap (λ (l : Ledger). l.found) c.self.view_is in
    let rules : obeys found.sizes found.catalogue ≡ true = c.args.self.now.rules in
    let old = c.args.space.now in
    let new = c.arrange.new.space in
    let gives : GivesUp (dropped found.catalogue c.args.step) old new =
    subst (λ step. GivesUp (dropped found.catalogue step) old new) (sym c.in-Arrange.is) (subst (λ (f : Found). GivesUp (replaced es f.catalogue.actives) old new) same c.arrange.ensures.gives) in
    step_owners found.sizes found.catalogue c.args.step old new rules c.requires.fits c.requires.owners gives
