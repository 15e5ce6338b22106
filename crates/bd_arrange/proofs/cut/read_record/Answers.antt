use Rattle.std.proofs.Common.{◌≡◌, ◌+◌, ◌-◌, ◌≤◌, [], sym, ◌∙◌, ap, subst, arith}
use Rattle.std.specs.Prelude.{Ok, Err, is_some, nat_lt, if◌then◌else◌}
use Rattle.bd_disk.specs.History.{contents}
use Rattle.bd_disk.specs.Runs.{Reads}
use Rattle.bd_disk.specs.Trace.{ReadsOnly}
use Rattle.bd_model.specs.Extents.{owner_bytes, places_at}
use Rattle.bd_model.specs.Records.{Stored}
use Rattle.bd_model.specs.declared.damage.Damage.{Damage}
use Rattle.bd_model.specs.Recipe.{has_mark}
use Rattle.bd_model.specs.Sizes.{sizes_of}
use Rattle.bd_extio.proofs.Within.{reads_within}
use Rattle.bd_extio.specs.Ranges.{InOwner}
use Rattle.bd_category.specs.Places.{ReadsHeader}
use Rattle.bd_category.specs.Records.{AnswersHeader, header_at}
use Rattle.bd_catalog.specs.Rows.{open_row, row_end, spot_in}
use Rattle.bd_roll.specs.Shown.{open_entry}
use Rattle.bd_recipe.proofs.EntriesByMark.{first_from-some}
use Rattle.bd_volume.specs.Headers.{IsRefusedAt}
use Rattle.bd_volume.proofs.ReadHeaders.{good_header, header_read, header_within, is_stored, refused_header}
use Rattle.bd_arrange.specs.declared.cut.Stretch.{Stretch}
use Rattle.bd_arrange.proofs.Faults.{header_damage}
use Rattle.bd_recipe.specs.Reading.{IfDamaged}
use Rattle.bd_arrange.proofs.cut.read_record.Goals as goal
use Rattle.bd_arrange.proofs.cut.read_record.Goals.{After-read_header}

-- What the reading did to the disk, whatever it answered.
worked : (g : _) (c : After-read_header g) → Reads g.D.Disk (InOwner (sizes_of c.args.shape.now) c.args.category.now.extents.numbers 0 c.args.category.now.row.bytes) c.args.disk.now c.read_header.new.disk
worked g c =
    let row = c.args.category.now.row in
    subst (λ l. Reads g.D.Disk (InOwner (sizes_of c.args.shape.now) l 0 row.bytes) c.args.disk.now c.read_header.new.disk) c.numbers-extents.ensures
    (reads_within 0 row.bytes (omega arith) (omega (arith, header_within c.args.at row.bytes c.requires.inside.within)) c.read_header.ensures.disk)

pub returns-in-Ok-clause-disk : goal.returns-in-Ok-clause-disk
returns-in-Ok-clause-disk g c = worked g (goal.at.returns-in-Ok-clause-disk g c).After-read_header

pub returns-in-Err-clause-disk : goal.returns-in-Err-clause-disk
returns-in-Err-clause-disk g c = worked g (goal.at.returns-in-Err-clause-disk g c).After-read_header

pub returns-in-Ok-clause-found : goal.returns-in-Ok-clause-found
returns-in-Ok-clause-found g c = λ told.
    let s = sizes_of c.args.shape.now in
    let p = open_row (open_entry c.args.category.now) in
    let at = c.args.at in
    let end = c.args.category.now.row.bytes in
    let entries = c.args.neighbour.now.entries in
    let before = g.D.Disk.history c.args.disk.now in
    let now = g.D.Disk.history c.read_header.new.disk in
    let image = contents before in
    let owner = owner_bytes s p.extents image in
    let h = c.in-Ok.header in
    let there = c.numbers-extents.ensures in
    let to : end ≡ row_end p = omega arith in
    let low : at ≤ row_end p = omega (arith, c.requires.inside.within) in
    let fits : at + 36 + h.length ≤ row_end p = omega (arith, c.in-Ok.ensures.within) in
    let is : header_at s p.who at (row_end p) owner ≡ Ok h = subst (λ e. header_at s p.who at e owner ≡ Ok h) to (subst (λ l. header_at s p.who at end (owner_bytes s l image) ≡ Ok h) there (c.in-Ok.ensures.header told)) in
    let st = is_stored s p.who at (row_end p) owner h low fits is in
    let r : Stored = (spot_in s image p at).stored in
    let sum : at + (36 + r.length) ≡ at + 36 + r.length = omega arith in
    record {
      goes = record {
        good = good_header s image p at h fits is;
        ends = ap (λ n. at + (36 + n)) (c.from.ensures ∙ st.size) ∙ sum;
      };
      way = ap (has_mark entries) (sym st.mark) ∙ sym (first_from-some 0 entries h.mark.0) ∙ ap is_some (sym c.first_index.ensures.index) ∙ sym c.is_some.ensures;
      reads = header_read s p.extents at end h c.in-Ok.ensures.within (subst (λ l. ReadsHeader s l at end before now (Ok h)) there (c.in-Ok.ensures.places told));
    }

pub returns-in-Err-clause-damage : goal.returns-in-Err-clause-damage
returns-in-Err-clause-damage g c =
    let s = sizes_of c.args.shape.now in
    let p = open_row (open_entry c.args.category.now) in
    let at = c.args.at in
    let end = c.args.category.now.row.bytes in
    let before = g.D.Disk.history c.args.disk.now in
    let now = g.D.Disk.history c.read_header.new.disk in
    let image = contents before in
    let owner = owner_bytes s p.extents image in
    let there = c.numbers-extents.ensures in
    let to : end ≡ row_end p = omega arith in
    let low : at ≤ row_end p = omega (arith, c.requires.inside.within) in
    let P : Damage → Type 0 = λ damage. g.D.Disk.tells → IsRefusedAt s p (spot_in s image p at) damage before now in
    subst (λ f. IfDamaged {T = Stretch} (Err f) P) (sym c.read_fault.ensures) (header_damage Stretch P c.in-Err.fault (λ damage is told.
    refused_header s image p at damage low
    (subst (λ e. header_at s p.who at e owner ≡ Err damage) to (subst (λ l. header_at s p.who at end (owner_bytes s l image) ≡ Err damage) there (subst (λ f. AnswersHeader (header_at s p.who at end (owner_bytes s c.numbers-extents.result.now image)) (Err f)) is (c.in-Err.ensures.header told))))
    (subst (λ e. ReadsOnly (if nat_lt (e - at) 36 then [] else places_at s p.extents at 36) before now) to
    (subst (λ l. ReadsOnly (if nat_lt (end - at) 36 then [] else places_at s l at 36) before now) there
    (subst (λ f. ReadsHeader s c.numbers-extents.result.now at end before now (Err f)) is (c.in-Err.ensures.places told))))))
