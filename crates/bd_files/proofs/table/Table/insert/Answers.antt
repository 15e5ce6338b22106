use Rattle.std.proofs.Common.{◌≡◌, ap, ◌∙◌, rules}
use Rattle.std.specs.FinMap as map
use Rattle.bd_model.specs.FileMap.{FileMap}
use Rattle.bd_files.specs.Table.{file_map}
use Rattle.bd_files.proofs.TableLemmas.{file_map-insert_entry}
use Rattle.bd_files.proofs.table.Table.insert.Goals as goal

pub returns-clause-ok : goal.returns-clause-ok
returns-clause-ok c =
    let key : c.in_ok-key.key.items ≡ c.args.name.now = search rules in
    ap file_map c.in_ok-insert.ensures.entries
    ∙ file_map-insert_entry c.self.inside.files.entries c.in_ok-key.key c.args.bytes
    ∙ ap (λ (m : FileMap). map.insert m c.in_ok-key.key.items c.args.bytes.items) c.self.view_is
    ∙ ap (λ name. map.insert c.args.self.now name c.args.bytes.items) key
