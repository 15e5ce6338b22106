use Rattle.std.proofs.Common.{◌≡◌, take}
use Rattle.std.specs.List.{flat_map}
use Rattle.bd_model.specs.Texts.{version_text}
use Rattle.bd_script.proofs.text.list_bytes.Given as goal

abbrev pub invariant-loop-version : goal.invariant-loop-version
invariant-loop-version l = l.text.items ≡ flat_map version_text (take l.version-index l.versions)
