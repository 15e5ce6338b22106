-- The answer of an opening whose catalogue wasn't loaded.
use Rattle.bd_model.specs.declared.place.Place.TheVariants.{Halves as HalvesFail, Payload as PayloadFails}
use Rattle.bd_catalog.specs.declared.load.LoadFault.{LoadFault}
use Rattle.bd_catalog.specs.declared.load.LoadFault.TheVariants.{Halves, Payload, DiskFault as NotLoaded, OutOfMemory as NoMemory}
use Rattle.bd_recover.specs.declared.fault.OpenFault.{OpenFault}
use Rattle.bd_recover.specs.declared.fault.OpenFault.TheVariants.{NotAStore, DiskFault, OutOfMemory}

abbrev pub as_opening : LoadFault → OpenFault
as_opening Halves = NotAStore HalvesFail
as_opening Payload = NotAStore PayloadFails
as_opening NotLoaded = DiskFault
as_opening NoMemory = OutOfMemory
