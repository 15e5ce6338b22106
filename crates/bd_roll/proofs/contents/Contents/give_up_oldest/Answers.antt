use Rattle.std.proofs.Common.{◌≡◌, ◌++◌, sym, subst, arith}
use Rattle.bd_roll.specs.declared.rows.ClosedVolume.{ClosedVolume}
use Rattle.bd_roll.specs.declared.rows.VersionRow.{VersionRow}
use Rattle.bd_roll.specs.Giving.{AreOwned, GivesUp}
use Rattle.bd_roll.specs.Shown.{catalogue_of_contents}
use Rattle.bd_roll.specs.Splitting.{expired}
use Rattle.bd_roll.proofs.GivenUp.{expired_two, gives_both, owned_first, owned_second}
use Rattle.bd_roll.proofs.contents.Contents.give_up_oldest.Goals as goal

pub release-requires : goal.release-requires
release-requires c =
    let v : VersionRow = c.remove-version.result in
    let w : ClosedVolume = c.remove-volume.result in
    let parts : expired (catalogue_of_contents c.args.self.now) ≡ v.recipe.numbers ++ w.extents.numbers = expired_two c.args.self.now v w c.requires.two (omega (arith, c.requires.two, c.requires.volumes)) c.remove-version.ensures.value c.remove-volume.ensures.value in
    owned_second c.args.space.now v.recipe.numbers w.extents.numbers (subst (AreOwned c.args.space.now) parts c.requires.owned)

pub release_recipe-requires : goal.release_recipe-requires
release_recipe-requires c =
    let v : VersionRow = c.remove-version.result in
    let w : ClosedVolume = c.remove-volume.result in
    let parts : expired (catalogue_of_contents c.args.self.now) ≡ v.recipe.numbers ++ w.extents.numbers = expired_two c.args.self.now v w c.requires.two (omega (arith, c.requires.two, c.requires.volumes)) c.remove-version.ensures.value c.remove-volume.ensures.value in
    owned_first v.recipe.numbers (subst (AreOwned c.args.space.now) parts c.requires.owned) c.release.ensures

pub returns-clause-gives : goal.returns-clause-gives
returns-clause-gives c =
    let v : VersionRow = c.remove-version.result in
    let w : ClosedVolume = c.remove-volume.result in
    let parts : expired (catalogue_of_contents c.args.self.now) ≡ v.recipe.numbers ++ w.extents.numbers = expired_two c.args.self.now v w c.requires.two (omega (arith, c.requires.two, c.requires.volumes)) c.remove-version.ensures.value c.remove-volume.ensures.value in
    subst (λ ns. GivesUp ns c.args.space.now c.release_recipe.new.space) (sym parts) (gives_both c.release.ensures c.release_recipe.ensures)
