use Rattle.std.proofs.Common.{◌≡◌, ◌++◌, take}
use Rattle.std.specs.List.{flat_map}
use Rattle.bd_model.specs.Texts.{damage_text}
use Rattle.bd_script.proofs.text.report_bytes.Given as goal

abbrev pub invariant-loop-damage : goal.invariant-loop-damage
invariant-loop-damage l = l.text.items ≡ l.initial.text.items ++ flat_map damage_text (take l.damage-index l.damage-items)
