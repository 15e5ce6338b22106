-- The headers of the records in rows.
use Rattle.std.specs.Prelude.{◌≡◌, List, ℕ, ◌+◌, IsTrue}
use Rattle.std.specs.List.{list_all}
use Rattle.bd_disk.specs.History.{History}
use Rattle.bd_disk.specs.Trace.{HasRead}
use Rattle.bd_model.specs.Sizes.{Sizes}
use Rattle.bd_model.specs.declared.damage.Damage.{Damage}
use Rattle.bd_model.specs.declared.damage.Damage.TheVariants.{Header}
use Rattle.bd_catalog.specs.Damages.{IsBadHeader, header_holds}
use Rattle.bd_catalog.specs.Rows.{RowPlace, Spot, row_spots, spot_in}

-- the header of each record of these rows holds
pub record HasGoodHeaders (s : Sizes) (image : List ℕ) (rows : List RowPlace) : Type 0 where
  pub each : IsTrue (list_all (λ p. list_all (header_holds s p) (row_spots s image p)) rows)

-- the header of the record at this place of the row holds, and the next record begins where it ends
pub record GoesOver (s : Sizes) (image : List ℕ) (p : RowPlace) (at next : ℕ) : Type 0 where
  pub good : IsTrue (header_holds s p (spot_in s image p at))
  pub ends : next ≡ at + 36 + (spot_in s image p at).stored.length

-- the header of the record x of this row was read between these moments, and breaks its rule, which the damage names
pub record IsRefusedAt (s : Sizes) (p : RowPlace) (x : Spot) (damage : Damage) (old new : History) : Type 0 where
  pub said : ℕ
  pub left : ℕ
  pub places : List ℕ
  pub so : damage ≡ Header p.who x.at said left
  pub bad : IsBadHeader s p x said left places
  pub read : HasRead places old new
