-- What an answered restore of a plan read and gave, and what a damage says that it met.
use Rattle.std.specs.Prelude.{◌≡◌, ℕ, List, []}
use Rattle.std.specs.FinMap as map
use Rattle.bd_disk.specs.History.{History, contents}
use Rattle.bd_disk.specs.Trace.{ReadsOnly}
use Rattle.bd_model.specs.FileMap.{FileMap}
use Rattle.bd_model.specs.declared.damage.Damage.{Damage}
use Rattle.bd_catalog.specs.Damages.{IsOfVersion}
use Rattle.bd_catalog.specs.Opening.{Found}
use Rattle.bd_catalog.specs.Rows.{spots_in, walk}
use Rattle.bd_catalog.specs.Sound.{recipe_of, records_for}
use Rattle.bd_restore.specs.Met.{IsNeeded, IsOfRecipe, IsSeenAfter, IsWholeVersion}
use Rattle.bd_restore.specs.Plan.{Planned}
use Rattle.bd_restore.specs.Target.{held, HasChunks}
use Rattle.bd_restore.specs.Walk.{joined, walk_reads}
use Rattle.bd_volume.specs.Headers.{HasGoodHeaders}

-- of the records of the walk each header was read, the body of the first with each mark that an entry has, and no other
-- place; and the header of each holds
pub record ReadsWalk (found : Found) (plan : Planned) (old new : History) : Type 0 where
  pub places : ReadsOnly (walk_reads found.sizes plan.entries [] (spots_in found.sizes (contents old) (walk found.catalogue plan.version))) old new
  pub headers : HasGoodHeaders found.sizes (contents old) (walk found.catalogue plan.version)

-- under the name stands, entry by entry, the body of the first record with its mark, and each chunk has its entry's mark
pub record HasGivenBack (found : Found) (plan : Planned) (image name : List ℕ) (old new : FileMap) : Type 0 where
  pub file : new ≡ map.insert old name (joined plan.entries (records_for found.sizes found.catalogue image plan.version))
  pub checked : HasChunks plan.entries (held new name)

-- The damage is one of a restore of the plan's version, and not of its recipe. Where the plan has its recipe's entries, the
-- bytes that it names were read, they break its rule, and the restore came to it; and some row or entry of the walk fails.
pub record IsMetBy (found : Found) (plan : Planned) (damage : Damage) (old new : History) : Type 0 where
  pub part : IsOfVersion plan.version damage
  pub walked : ¬ IsOfRecipe damage
  pub needed : IsNeeded plan.entries damage
  pub seen : plan.entries ≡ recipe_of found.sizes found.catalogue (contents old) plan.version → IsSeenAfter found.sizes found.catalogue (contents old) plan.version damage old new
  pub whole : ¬ IsWholeVersion found.sizes found.catalogue (contents old) plan.version plan.entries
