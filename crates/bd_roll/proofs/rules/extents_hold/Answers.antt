use Rattle.std.proofs.Common.{Bool, List, ◌∙◌, ap, is_some, ℕ, replicate, false}
use Rattle.bd_roll.specs.Catalogue.{all_extents}
use Rattle.bd_roll.specs.Checked.{marked}
use Rattle.bd_roll.specs.Shown.{catalogue_of_contents}
use Rattle.bd_roll.proofs.SeenMarks.{marked_fresh}
use Rattle.bd_roll.proofs.rules.extents_hold.Goals as goal

pub returns : goal.returns
returns c =
    let numbers = all_extents (catalogue_of_contents c.args.contents.now) in
    c.mark_owned.ensures
    ∙ ap (λ (seen : List Bool). is_some (marked seen numbers)) (c.deref_mut.ensures.value ∙ c.in_ok-seen.ensures.items_if_clones_equal (λ y h. h))
    ∙ ap (λ (n : ℕ). is_some (marked (replicate n false) numbers)) c.extents.ensures
    ∙ marked_fresh c.args.shape.now.extents numbers
