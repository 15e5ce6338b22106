use Rattle.std.proofs.lemmas.Str.{IsUtf8-from_ascii}
use Rattle.bd_script.proofs.text.text_of.Goals as goal

pub unreachable-requires : goal.unreachable-requires
unreachable-requires c = let h = c.in-Err.ensures.succeeds (IsUtf8-from_ascii c.args.bytes.items c.requires) in cc
