use Rattle.std.specs.Str.{IsAscii}
use Rattle.std.proofs.Common.{subst, sym}
use Rattle.bd_script.proofs.Plain.{IsAscii-answer_text}
use Rattle.bd_script.proofs.text.answer_text.Goals as goal

pub text_of-requires : goal.text_of-requires
text_of-requires c = subst IsAscii (sym c.in_ok-answer_bytes.ensures) (IsAscii-answer_text c.args.answer.now)
