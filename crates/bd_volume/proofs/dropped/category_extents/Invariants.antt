use Rattle.std.proofs.Common.{◌≡◌, length, take}
use Rattle.std.specs.List.{flat_map}
use Rattle.bd_volume.proofs.dropped.category_extents.Given as goal

abbrev pub invariant-loop-active : goal.invariant-loop-active
invariant-loop-active l = l.count ≡ length (flat_map (λ a. a.extents.numbers) (take l.active-index l.actives))
