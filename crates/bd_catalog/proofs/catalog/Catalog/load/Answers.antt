use Rattle.std.proofs.Common.{◌∙◌, ap, arith}
use Rattle.bd_disk.specs.History.{contents}
use Rattle.bd_disk.proofs.RunLemmas.{same_contents}
use Rattle.bd_model.specs.Sizes.{sizes_of}
use Rattle.bd_gate.specs.Halves.{payload_of}
use Rattle.bd_catalog.specs.Opening.{Found}
use Rattle.bd_catalog.proofs.LoadLemmas.{load_finds, placed_finds, filled, fronts_read, load_read}
use Rattle.bd_catalog.proofs.catalog.Catalog.load.Goals as goal

pub returns-in-Some-clause-loaded : goal.returns-in-Some-clause-loaded
returns-in-Some-clause-loaded g c = λ told.
    let s = sizes_of c.args.shape in
    let image = contents (g.D.Disk.history c.args.disk.now) in
    let found = c.in_ok-half.ensures.found told in
    let was = same_contents c.newest_half.ensures.disk told in
    let spells = rw c.in-Some.is at c.in_ok-decoded.ensures.some in
    let placed = rw c.in-Some.is at c.in_ok-decoded.ensures.place in
    load_finds s image c.in_ok-half.half _ _ found.0 found.1 (omega (arith, c.if-half-payload_room.false, c.payload_room.ensures))
    (c.deref.ensures.value ∙ filled _ _ _ (omega (arith, c.read_payload.auto.into, c.deref_mut.ensures.len)) ∙ c.in_ok-read_payload.ensures.read told ∙ ap (payload_of s c.in_ok-half.half) was) spells
    ∙ placed_finds s c.in_ok-half.half image c.in-Some.catalog.found c.moved_to.result.found (ap (λ (f : Found). f.sizes) placed) c.moved_to.ensures

pub returns-clause-loaded : goal.returns-clause-loaded
returns-clause-loaded g c = λ told.
    let s = sizes_of c.args.shape in
    let image = contents (g.D.Disk.history c.args.disk.now) in
    let found = c.in_ok-half.ensures.found told in
    let was = same_contents c.newest_half.ensures.disk told in
    let spells = rw c.in-None.is at c.in_ok-decoded.ensures.none in
    load_finds s image c.in_ok-half.half _ _ found.0 found.1 (omega (arith, c.if-half-payload_room.false, c.payload_room.ensures))
    (c.deref.ensures.value ∙ filled _ _ _ (omega (arith, c.read_payload.auto.into, c.deref_mut.ensures.len)) ∙ c.in_ok-read_payload.ensures.read told ∙ ap (payload_of s c.in_ok-half.half) was) spells

pub returns-in_err-half-clause-disk : goal.returns-in_err-half-clause-disk
returns-in_err-half-clause-disk g c = fronts_read c.newest_half.ensures.disk

pub returns-then-half-payload_room-clause-disk : goal.returns-then-half-payload_room-clause-disk
returns-then-half-payload_room-clause-disk g c = fronts_read c.newest_half.ensures.disk

pub returns-in_err-payload-clause-disk : goal.returns-in_err-payload-clause-disk
returns-in_err-payload-clause-disk g c = fronts_read c.newest_half.ensures.disk

pub returns-in_err-read_payload-clause-disk : goal.returns-in_err-read_payload-clause-disk
returns-in_err-read_payload-clause-disk g c = load_read c.in_ok-half.half c.in_ok-half.ensures.disk c.in_ok-half.ensures.found (omega (arith, c.if-half-payload_room.false, c.payload_room.ensures)) c.read_payload.ensures.disk

pub returns-in_err-decoded-clause-disk : goal.returns-in_err-decoded-clause-disk
returns-in_err-decoded-clause-disk g c = load_read c.in_ok-half.half c.in_ok-half.ensures.disk c.in_ok-half.ensures.found (omega (arith, c.if-half-payload_room.false, c.payload_room.ensures)) c.read_payload.ensures.disk

pub returns-in-Some-clause-disk : goal.returns-in-Some-clause-disk
returns-in-Some-clause-disk g c = load_read c.in_ok-half.half c.in_ok-half.ensures.disk c.in_ok-half.ensures.found (omega (arith, c.if-half-payload_room.false, c.payload_room.ensures)) c.read_payload.ensures.disk

pub returns-clause-disk : goal.returns-clause-disk
returns-clause-disk g c = load_read c.in_ok-half.half c.in_ok-half.ensures.disk c.in_ok-half.ensures.found (omega (arith, c.if-half-payload_room.false, c.payload_room.ensures)) c.read_payload.ensures.disk
