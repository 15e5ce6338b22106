use Rattle.std.proofs.Common.{◌+◌, length, ap, arith}
use Rattle.bd_disk.proofs.Frames.{leaves_both}
use Rattle.bd_disk.proofs.RunLemmas.{both_writes, written}
use Rattle.bd_model.specs.Sizes.{sizes_of, half_place}
use Rattle.bd_gate.proofs.Appends.{append_next, append_stores, frame_stops, gate_in_record, gate_stops, record_in}
use Rattle.bd_gate.proofs.Commits.{fails_behind, fails_first, fails_moved, moved, part_made, stored_moved}
use Rattle.bd_gate.proofs.log.append_gated.Goals as goal

pub returns-in_err-store-clause-disk : goal.returns-in_err-store-clause-disk
returns-in_err-store-clause-disk g c =
    (record_in (half_place (sizes_of c.args.shape.now) c.args.half.now.number + c.args.at) (length c.args.frame.now) (moved _ ((half_place (sizes_of c.args.shape.now) c.args.half.now.number + c.args.at) + 1) (length c.args.frame.now) (ap (λ n. n + c.args.at + 1) c.place_of_half.ensures.place) c.store.ensures.disk))

pub returns-in_err-store-2-clause-disk : goal.returns-in_err-store-2-clause-disk
returns-in_err-store-2-clause-disk g c =
    both_writes (record_in (half_place (sizes_of c.args.shape.now) c.args.half.now.number + c.args.at) (length c.args.frame.now) (moved _ ((half_place (sizes_of c.args.shape.now) c.args.half.now.number + c.args.at) + 1) (length c.args.frame.now) (ap (λ n. n + c.args.at + 1) c.place_of_half.ensures.place) c.store.ensures.disk))
    (gate_in_record (half_place (sizes_of c.args.shape.now) c.args.half.now.number + c.args.at) (length c.args.frame.now) (moved _ (half_place (sizes_of c.args.shape.now) c.args.half.now.number + c.args.at) 1 (ap (λ n. n + c.args.at) c.place_of_half.ensures.place) c.store-2.ensures.disk))

pub returns-clause-disk : goal.returns-clause-disk
returns-clause-disk g c =
    both_writes (record_in (half_place (sizes_of c.args.shape.now) c.args.half.now.number + c.args.at) (length c.args.frame.now) (moved _ ((half_place (sizes_of c.args.shape.now) c.args.half.now.number + c.args.at) + 1) (length c.args.frame.now) (ap (λ n. n + c.args.at + 1) c.place_of_half.ensures.place) c.store.ensures.disk))
    (gate_in_record (half_place (sizes_of c.args.shape.now) c.args.half.now.number + c.args.at) (length c.args.frame.now) (moved _ (half_place (sizes_of c.args.shape.now) c.args.half.now.number + c.args.at) 1 (ap (λ n. n + c.args.at) c.place_of_half.ensures.place) c.store-2.ensures.disk))

pub returns-in_err-store-clause-stops : goal.returns-in_err-store-clause-stops
returns-in_err-store-clause-stops g c = λ told.
    frame_stops (sizes_of c.args.shape.now) c.args.half.now.number (half_place (sizes_of c.args.shape.now) c.args.half.now.number + c.args.at) c.args.frame.now c.requires.number (omega (arith, c.requires.fits)) (c.requires.ready told) (written (moved _ ((half_place (sizes_of c.args.shape.now) c.args.half.now.number + c.args.at) + 1) (length c.args.frame.now) (ap (λ n. n + c.args.at + 1) c.place_of_half.ensures.place) c.store.ensures.disk) told)

pub returns-in_err-store-2-clause-stops : goal.returns-in_err-store-2-clause-stops
returns-in_err-store-2-clause-stops g c = λ told.
    leaves_both (frame_stops (sizes_of c.args.shape.now) c.args.half.now.number (half_place (sizes_of c.args.shape.now) c.args.half.now.number + c.args.at) c.args.frame.now c.requires.number (omega (arith, c.requires.fits)) (c.requires.ready told) (written (moved _ ((half_place (sizes_of c.args.shape.now) c.args.half.now.number + c.args.at) + 1) (length c.args.frame.now) (ap (λ n. n + c.args.at + 1) c.place_of_half.ensures.place) c.store.ensures.disk) told))
    (gate_stops (sizes_of c.args.shape.now) c.args.half.now.number (half_place (sizes_of c.args.shape.now) c.args.half.now.number + c.args.at) c.args.frame.now c.requires.number (omega (arith, c.requires.fits)) (c.requires.ready told) (stored_moved _ ((half_place (sizes_of c.args.shape.now) c.args.half.now.number + c.args.at) + 1) (ap (λ n. n + c.args.at + 1) c.place_of_half.ensures.place) (c.in_ok-store.ensures.stored told)).stores (omega (arith, g.met.D.Disk.sized told c.args.disk.now, c.requires.room)) (written (moved _ (half_place (sizes_of c.args.shape.now) c.args.half.now.number + c.args.at) 1 (ap (λ n. n + c.args.at) c.place_of_half.ensures.place) c.store-2.ensures.disk) told))

pub returns-clause-stops : goal.returns-clause-stops
returns-clause-stops g c = λ told.
    leaves_both (frame_stops (sizes_of c.args.shape.now) c.args.half.now.number (half_place (sizes_of c.args.shape.now) c.args.half.now.number + c.args.at) c.args.frame.now c.requires.number (omega (arith, c.requires.fits)) (c.requires.ready told) (written (moved _ ((half_place (sizes_of c.args.shape.now) c.args.half.now.number + c.args.at) + 1) (length c.args.frame.now) (ap (λ n. n + c.args.at + 1) c.place_of_half.ensures.place) c.store.ensures.disk) told))
    (gate_stops (sizes_of c.args.shape.now) c.args.half.now.number (half_place (sizes_of c.args.shape.now) c.args.half.now.number + c.args.at) c.args.frame.now c.requires.number (omega (arith, c.requires.fits)) (c.requires.ready told) (stored_moved _ ((half_place (sizes_of c.args.shape.now) c.args.half.now.number + c.args.at) + 1) (ap (λ n. n + c.args.at + 1) c.place_of_half.ensures.place) (c.in_ok-store.ensures.stored told)).stores (omega (arith, g.met.D.Disk.sized told c.args.disk.now, c.requires.room)) (written (moved _ (half_place (sizes_of c.args.shape.now) c.args.half.now.number + c.args.at) 1 (ap (λ n. n + c.args.at) c.place_of_half.ensures.place) c.store-2.ensures.disk) told))

pub returns-clause-stores : goal.returns-clause-stores
returns-clause-stores g c = λ told.
    append_stores (sizes_of c.args.shape.now) c.args.half.now.number (half_place (sizes_of c.args.shape.now) c.args.half.now.number + c.args.at) c.args.frame.now c.requires.number (omega (arith, c.requires.fits)) (c.requires.ready told) (stored_moved _ ((half_place (sizes_of c.args.shape.now) c.args.half.now.number + c.args.at) + 1) (ap (λ n. n + c.args.at + 1) c.place_of_half.ensures.place) (c.in_ok-store.ensures.stored told)).stores (omega (arith, g.met.D.Disk.sized told c.args.disk.now, c.requires.room)) (stored_moved _ (half_place (sizes_of c.args.shape.now) c.args.half.now.number + c.args.at) (ap (λ n. n + c.args.at) c.place_of_half.ensures.place) (c.in_ok-store-2.ensures.stored told)).stores

pub returns-clause-next : goal.returns-clause-next
returns-clause-next g c = λ told.
    append_next (sizes_of c.args.shape.now) c.args.half.now.number (half_place (sizes_of c.args.shape.now) c.args.half.now.number + c.args.at) c.args.frame.now c.requires.number (omega (arith, c.requires.fits)) (c.requires.ready told) (stored_moved _ ((half_place (sizes_of c.args.shape.now) c.args.half.now.number + c.args.at) + 1) (ap (λ n. n + c.args.at + 1) c.place_of_half.ensures.place) (c.in_ok-store.ensures.stored told)).stores (omega (arith, g.met.D.Disk.sized told c.args.disk.now, c.requires.room)) c.requires.ends
    (append_stores (sizes_of c.args.shape.now) c.args.half.now.number (half_place (sizes_of c.args.shape.now) c.args.half.now.number + c.args.at) c.args.frame.now c.requires.number (omega (arith, c.requires.fits)) (c.requires.ready told) (stored_moved _ ((half_place (sizes_of c.args.shape.now) c.args.half.now.number + c.args.at) + 1) (ap (λ n. n + c.args.at + 1) c.place_of_half.ensures.place) (c.in_ok-store.ensures.stored told)).stores (omega (arith, g.met.D.Disk.sized told c.args.disk.now, c.requires.room)) (stored_moved _ (half_place (sizes_of c.args.shape.now) c.args.half.now.number + c.args.at) (ap (λ n. n + c.args.at) c.place_of_half.ensures.place) (c.in_ok-store-2.ensures.stored told)).stores)

pub returns-in_err-store-clause-calls : goal.returns-in_err-store-clause-calls
returns-in_err-store-clause-calls g c = λ told.
    part_made _ c.from_residual.result c.from_residual.ensures.1 (fails_first _ (fails_moved _ ((half_place (sizes_of c.args.shape.now) c.args.half.now.number + c.args.at) + 1) (ap (λ n. n + c.args.at + 1) c.place_of_half.ensures.place) (c.in_err-store.ensures.stored told)))

pub returns-in_err-store-2-clause-calls : goal.returns-in_err-store-2-clause-calls
returns-in_err-store-2-clause-calls g c = λ told.
    part_made _ c.from_residual-in_err-store-2.result c.from_residual-in_err-store-2.ensures.1
    (fails_behind _ (stored_moved _ ((half_place (sizes_of c.args.shape.now) c.args.half.now.number + c.args.at) + 1) (ap (λ n. n + c.args.at + 1) c.place_of_half.ensures.place) (c.in_ok-store.ensures.stored told)).calls (fails_moved _ (half_place (sizes_of c.args.shape.now) c.args.half.now.number + c.args.at) (ap (λ n. n + c.args.at) c.place_of_half.ensures.place) (c.in_err-store-2.ensures.stored told)))
