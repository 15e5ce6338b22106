use Rattle.std.proofs.Common.{◌≡◌, arith, true, ◌^◌, ◌<◌}
use Rattle.bd_script.specs.Numbers.{is_digits}
use Rattle.bd_script.proofs.Decimals.{digits_parse, number_fits, number_above, number_wide}
use Rattle.bd_script.proofs.numbers.number.Goals as goal

pub returns-then-number-most : goal.returns-then-number-most
returns-then-number-most c =
    let digits : is_digits c.args.text.now ≡ true = cc (c.is_digits.ensures, c.as_bytes.ensures.value, c.if-not-is_digits.false) in
    let parsed = rw c.in-Ok.is at (digits_parse c.args.text.now c.parse.result digits c.parse.ensures.value.0) in
    number_fits c.args.most c.in-Ok.number c.args.text.now digits parsed.1 c.if-number-most.true

pub returns-else-number-most : goal.returns-else-number-most
returns-else-number-most c =
    let digits : is_digits c.args.text.now ≡ true = cc (c.is_digits.ensures, c.as_bytes.ensures.value, c.if-not-is_digits.false) in
    let parsed = rw c.in-Ok.is at (digits_parse c.args.text.now c.parse.result digits c.parse.ensures.value.0) in
    number_above c.args.most c.in-Ok.number c.args.text.now parsed.1 c.if-number-most.false

pub returns-in-Err : goal.returns-in-Err
returns-in-Err c =
    let digits : is_digits c.args.text.now ≡ true = cc (c.is_digits.ensures, c.as_bytes.ensures.value, c.if-not-is_digits.false) in
    let parsed = rw c.in-Err.is at (digits_parse c.args.text.now c.parse.result digits c.parse.ensures.value.0) in
    let below : c.args.most < 2 ^ 64 = omega (arith, c.ranges.most.fits) in
    number_wide c.args.most c.args.text.now below digits parsed
