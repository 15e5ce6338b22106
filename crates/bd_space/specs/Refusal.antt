-- When a space refuses to extend an owner.
use Rattle.std.specs.Prelude.{◌≡◌, ◌<◌, ◌≤◌, ℕ}
use Rattle.bd_space.specs.declared.space.SpaceFault.{SpaceFault}
use Rattle.bd_space.specs.declared.space.SpaceFault.TheVariants.{NoRoom, OutOfMemory}

-- there is no room where more is wanted than is free, and the refusal names both; memory is asked for only where there is room
abbrev pub IsRefusal : ℕ → ℕ → SpaceFault → Type 0
IsRefusal want free (NoRoom w f) = (free < want) × (w ≡ want) × (f ≡ free)
IsRefusal want free OutOfMemory = want ≤ free
