use Rattle.std.proofs.Common.{◌≡◌, ◌+◌, ◌-◌, length, map, set, arith, ap}
use Rattle.bd_model.specs.declared.layout.Phase.TheVariants.{Settled}
use Rattle.bd_roll.specs.declared.rows.ClosedVolume.{ClosedVolume}
use Rattle.bd_roll.specs.Shown.{version_entry, volume_entry}
use Rattle.bd_roll.specs.Splitting.{last_grown}
use Rattle.bd_roll.proofs.GivenUp.{last_grown-set, last_room-at}
use Rattle.bd_roll.proofs.contents.Contents.arrange.Goals as goal

pub append-requires : goal.append-requires
append-requires c =
    let x : ClosedVolume = c.index_mut-last.result.now in
    let xs = c.args.self.now.volumes.items in
    let k = c.len-count.result - 1 in
    let last : k + 1 ≡ length xs = omega (arith, c.len-count.ensures, c.requires.some) in
    omega (arith, c.requires.room, last_room-at (λ v. v.extents.spare) xs k x last c.index_mut-last.ensures.value)

pub returns-clause-catalogue : goal.returns-clause-catalogue
returns-clause-catalogue c =
    let old = c.args.self.now in
    let rows = c.args.volume.rows.items in
    let added = c.args.volume.extents.numbers in
    let x : ClosedVolume = c.index_mut-last.result.now in
    let v : ClosedVolume = record { rows = c.args.volume.rows; extents = c.append.new.self } in
    let k = c.len-count.result - 1 in
    let last : k + 1 ≡ length old.volumes.items = omega (arith, c.len-count.ensures, c.requires.some) in
    let grown : map volume_entry (set old.volumes.items k v) ≡ last_grown (λ _. rows) added (map volume_entry old.volumes.items) =
    last_grown-set rows added old.volumes.items k v x last c.index_mut-last.ensures.value (ap (λ ns. record { rows = rows; extents = ns }) c.append.ensures.numbers) in
    λ j. record {
      base = old.base;
      newest = old.newest;
      phase = Settled;
      versions = map version_entry old.versions.items;
      volumes = grown j;
      actives = c.place_all.ensures.actives j;
    }
