use Rattle.std.proofs.Common.{rules, ◌≡◌, ◌<◌, ◌∙◌, drop, get_or, length, set, sym, ap, subst}
use Rattle.bd_model.specs.Laws.{both_rows}
use Rattle.bd_roll.specs.Giving.{SumsFit}
use Rattle.bd_roll.proofs.GivenUp.{joined_fewer, joined_fit}
use Rattle.bd_roll.proofs.giving.+begin_rows.Goals as goal

pub begin_rows-requires : goal.begin_rows-requires
begin_rows-requires t c =
    let xs = c.args.rows.now.items in
    let one = c.in-Some.first in
    let two = c.in-Some-copied.second in
    let more : 1 < length xs = search rules in
    let first : one ≡ get_or xs 0 one = search rules in
    let second : two ≡ get_or xs 1 two = search rules in
    let is : c.set.new.self.items ≡ set (drop 1 xs) 0 (both_rows one two) = c.set.ensures.items ∙ ap (λ l. set l 0 (both_rows one two)) c.remove.ensures.items in
    let fewer : length c.set.new.self.items < length xs = subst (λ l. length l < length xs) (sym is) (joined_fewer xs (both_rows one two) more) in
    (subst (λ n. length c.set.new.self.items < n) c.decreases fewer, subst SumsFit (sym is) (joined_fit xs one two more first second c.requires))
