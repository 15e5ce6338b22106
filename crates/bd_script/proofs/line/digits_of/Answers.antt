use Rattle.std.proofs.Common.{◌≡◌, arith, length, OnOk, IsOk, Result, Ok, Err, ◌∙◌, rules}
use Rattle.bd_marks.proofs.Digits.{encode_digits}
use Rattle.bd_script.proofs.line.digits_of.Goals as goal

done : {T E P : Type 0} (r : Result T E) → IsOk r → OnOk r P → P
done (Ok x) h p = p
done (Err e) h p = absurd (cc)

pub returns : goal.returns
returns c =
    let sized : length c.args.mark.now.0 ≡ 32 = search rules in
    let fits : IsOk c.encode_to_slice.result = c.encode_to_slice.ensures.fits.1 (omega arith) in
    done _ fits c.encode_to_slice.ensures.written ∙ encode_digits c.args.mark.now.0
