use Rattle.std.proofs.Common.{◌∙◌}
use Rattle.bd_marks.proofs.Digits.{encode_digits}
use Rattle.bd_marks.proofs.fingerprint.hex_of.Goals as goal

pub returns : goal.returns
returns c = c.new.ensures ∙ c.in_ok-encode.ensures ∙ encode_digits c.args.mark.now.0
