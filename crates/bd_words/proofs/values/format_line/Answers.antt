use Rattle.std.proofs.lemmas.Result.{IfOk-weaker}
use Rattle.bd_words.proofs.Given.{line_more}
use Rattle.bd_words.proofs.values.format_line.Goals as goal

pub returns-clause-line : goal.returns-clause-line
returns-clause-line c =
    let e1 = line_more c.new_line-line.ensures c.option.ensures.rule c.in_ok-extent.ensures.line in
    let e2 = line_more e1 c.option-2.ensures.rule c.in_ok-extents.ensures.line in
    let e3 = line_more e2 c.option-3.ensures.rule c.in_ok-retain.ensures.line in
    let e4 = line_more e3 c.option-4.ensures.rule c.in_ok-min.ensures.line in
    let e5 = line_more e4 c.option-5.ensures.rule c.in_ok-bits.ensures.line in
    IfOk-weaker c.with-6.result _ _ (λ line e. line_more e5 c.option-6.ensures.rule e) c.with-6.ensures.line
