use Rattle.std.proofs.Common.{ℕ, ◌<◌, ◌++◌, List, length, take, All, ap, sym, ◌∙◌, subst}
use Rattle.bd_space.specs.declared.space.Use.{Use}
use Rattle.bd_space.specs.declared.space.Use.TheVariants.{Free, Taken}
use Rattle.bd_space.specs.Allotment.{is_free, numbers_from}
use Rattle.bd_space.specs.Marking.{marked_uses}
use Rattle.bd_space.proofs.Kept.{appended_part, All-within}
use Rattle.bd_space.proofs.Lowest.{All-lowest}
use Rattle.bd_space.proofs.space.take_lowest.Goals as goal

pub mark-requires : goal.mark-requires
mark-requires c =
    let us : List Use = c.args.uses.now in
    let added : List ℕ = take c.args.count (numbers_from is_free 0 us) in
    let part = appended_part c.numbers.result.now c.args.owner.now.numbers added c.len-known.result
    (c.numbers.ensures ∙ c.collect_free-behind.ensures.appended ∙ ap (λ ns. c.args.owner.now.numbers ++ take c.args.count ns) c.requires.below)
    c.len-known.ensures in
    subst (λ (ns : List ℕ). All (λ n. n < length us) ns) (sym part)
    (All-within us Free added (All-lowest c.args.count us))

pub returns-clause-marked : goal.returns-clause-marked
returns-clause-marked c =
    let us : List Use = c.args.uses.now in
    let added : List ℕ = take c.args.count (numbers_from is_free 0 us) in
    let part = appended_part c.numbers.result.now c.args.owner.now.numbers added c.len-known.result
    (c.numbers.ensures ∙ c.collect_free-behind.ensures.appended ∙ ap (λ ns. c.args.owner.now.numbers ++ take c.args.count ns) c.requires.below)
    c.len-known.ensures in
    c.mark.ensures ∙ ap (λ ns. marked_uses us ns Taken) part
