use Rattle.std.proofs.Common.{◌≤◌, ◌+◌, List, ℕ, length, ap, sym, ◌∙◌, subst, is_some}
use Rattle.std.specs.Vec.{with_items}
use Rattle.std.proofs.lemmas.List.{with_items_is}
use Rattle.std.specs.FinMap as map
use Rattle.bd_model.specs.FileMap.{FileMap}
use Rattle.bd_disk.specs.Images.{overwritten}
use Rattle.bd_files.specs.contracts.table.Table.{the_view}
use Rattle.bd_files.specs.Table.{file_map}
use Rattle.bd_files.proofs.TableLemmas.{file_map-set_value, same_bytes, not_missing}
use Rattle.bd_files.proofs.table.Table.overwrite.Goals as goal
use Rattle.bd_files.proofs.table.Table.overwrite.Goals.{in-Some, in_default}

pub overwrite-requires : goal.overwrite-requires
overwrite-requires c =
    let there = c.requires.there in
    let same = c.as_mut_slice.ensures.value ∙ same_bytes _ _ _ there.0 _ c.in-Some.ensures.value c.self.view_is there.1 in
    subst (λ bytes. c.args.at + length c.args.from.now ≤ length bytes) (sym same) there.2

pub returns : goal.returns
returns c = λ old held. elim c.match-get_mut.branch [
  | in-Some w ↦
      let bytes = with_items w.in-Some.bytes.now w.overwrite.new.into in
      let inside = with_items_is w.in-Some.bytes.now w.overwrite.new.into (w.overwrite.auto.into ∙ w.as_mut_slice.ensures.len) ∙ w.overwrite.ensures ∙ ap (λ (found : List ℕ). overwritten found c.args.at c.args.from.now) (w.as_mut_slice.ensures.value ∙ same_bytes _ _ _ old _ w.in-Some.ensures.value c.self.view_is held) in
      ap the_view w.self-inside-is
      ∙ ap file_map (c.get_mut.follows.holds bytes).0
      ∙ file_map-set_value c.self.inside.files.entries c.args.name.now bytes (ap is_some (sym w.in-Some.ensures.value))
      ∙ ap (λ (files : FileMap). map.insert files c.args.name.now bytes.items) c.self.view_is
      ∙ ap (λ (found : List ℕ). map.insert c.args.self.now c.args.name.now found) inside
  | in_default w ↦ absurd (not_missing _ _ _ old w.in_default.ensures.value c.self.view_is held)
]
