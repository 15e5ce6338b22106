-- How the rules of a catalogue are checked.
use Rattle.std.specs.Prelude.{ℕ, Bool, true, ◌&&◌, List, [], ◌∷◌, Option, Some, None, slice_index_or, slice_set, if◌then◌else◌}
use Rattle.std.specs.List.{list_all}
use Rattle.bd_model.specs.Sizes.{Sizes}
use Rattle.bd_roll.specs.Catalogue.{Catalogue, oldest_in}
use Rattle.bd_roll.specs.Rules.{phase_holds, version_holds, starts_hold, actives_hold, volume_holds, active_holds}

-- the rules on phases, rows and starts
abbrev pub lists_hold : Sizes → Catalogue → Bool
lists_hold s c =
    phase_holds c c.phase
    && list_all (version_holds s) c.versions
    && starts_hold (oldest_in c) (oldest_in c) c.volumes
    && actives_hold c
    && list_all (volume_holds s) c.volumes
    && list_all (active_holds s) c.actives

-- the marks after these numbers were seen too; none where one of them has no mark or was seen before
abbrev pub marked : List Bool → List ℕ → Option (List Bool)
marked seen [] = Some seen
marked seen (n ∷ ns) = if slice_index_or seen n true then None else marked (slice_set seen n true) ns
