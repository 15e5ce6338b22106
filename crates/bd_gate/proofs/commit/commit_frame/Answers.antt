use Rattle.std.proofs.Common.{length, arith}
use Rattle.bd_disk.proofs.RunLemmas.{both_writes, written}
use Rattle.bd_model.specs.Sizes.{sizes_of}
use Rattle.bd_gate.proofs.Commits.{commit_stores, fails_behind, fails_first, frame_in_half, gate_in_half, part_made}
use Rattle.bd_gate.proofs.Stops.{turn_stays, as_old, closed_filled, commit_stops, commit_done}
use Rattle.bd_gate.proofs.commit.commit_frame.Goals as goal

pub open_half-requires-clause-turn : goal.open_half-requires-clause-turn
open_half-requires-clause-turn g c = λ told.
    c.in_ok-fill_half.ensures.turn told (turn_stays (sizes_of c.args.shape.now) c.args.number c.requires.number c.args.frame.now _ _ (written c.close_where_open.ensures.disk told) (c.requires.turn told))

pub returns-in_err-close_where_open-clause-disk : goal.returns-in_err-close_where_open-clause-disk
returns-in_err-close_where_open-clause-disk g c = gate_in_half (sizes_of c.args.shape.now) c.args.number c.close_where_open.ensures.disk

pub returns-in_err-fill_half-clause-disk : goal.returns-in_err-fill_half-clause-disk
returns-in_err-fill_half-clause-disk g c = both_writes (gate_in_half (sizes_of c.args.shape.now) c.args.number c.close_where_open.ensures.disk) (frame_in_half (sizes_of c.args.shape.now) c.args.number (length c.args.frame.now) c.requires.fits c.fill_half.ensures.disk)

pub returns-in_err-open_half-clause-disk : goal.returns-in_err-open_half-clause-disk
returns-in_err-open_half-clause-disk g c = both_writes (both_writes (gate_in_half (sizes_of c.args.shape.now) c.args.number c.close_where_open.ensures.disk) (frame_in_half (sizes_of c.args.shape.now) c.args.number (length c.args.frame.now) c.requires.fits c.fill_half.ensures.disk)) (gate_in_half (sizes_of c.args.shape.now) c.args.number c.open_half.ensures.disk)

pub returns-clause-disk : goal.returns-clause-disk
returns-clause-disk g c = both_writes (both_writes (gate_in_half (sizes_of c.args.shape.now) c.args.number c.close_where_open.ensures.disk) (frame_in_half (sizes_of c.args.shape.now) c.args.number (length c.args.frame.now) c.requires.fits c.fill_half.ensures.disk)) (gate_in_half (sizes_of c.args.shape.now) c.args.number c.open_half.ensures.disk)

pub returns-in_err-close_where_open-clause-stops : goal.returns-in_err-close_where_open-clause-stops
returns-in_err-close_where_open-clause-stops g c = λ told. as_old (sizes_of c.args.shape.now) c.args.number c.requires.number c.args.frame.now _ (c.close_where_open.ensures.stops told)

pub returns-in_err-fill_half-clause-stops : goal.returns-in_err-fill_half-clause-stops
returns-in_err-fill_half-clause-stops g c = λ told.
    as_old (sizes_of c.args.shape.now) c.args.number c.requires.number c.args.frame.now _
    (closed_filled (sizes_of c.args.shape.now) c.args.number c.requires.number _ _ _ (c.close_where_open.ensures.stops told) (c.fill_half.ensures.stops told))

pub returns-in_err-open_half-clause-stops : goal.returns-in_err-open_half-clause-stops
returns-in_err-open_half-clause-stops g c = λ told.
    commit_stops (sizes_of c.args.shape.now) c.args.number c.requires.number c.args.frame.now _ _ _ _ c.requires.fits (omega (arith, g.met.D.Disk.sized told c.close_where_open.new.disk, c.close_where_open.ensures.disk.bytes, c.requires.room)) (c.in_ok-fill_half.ensures.stored told).stores
    (written (both_writes (gate_in_half (sizes_of c.args.shape.now) c.args.number c.close_where_open.ensures.disk) (frame_in_half (sizes_of c.args.shape.now) c.args.number (length c.args.frame.now) c.requires.fits c.fill_half.ensures.disk)) told) (written (gate_in_half (sizes_of c.args.shape.now) c.args.number c.open_half.ensures.disk) told) (c.close_where_open.ensures.stops told)
    (c.fill_half.ensures.stops told) (c.open_half.ensures.stops told)

pub returns-clause-stops : goal.returns-clause-stops
returns-clause-stops g c = λ told.
    commit_stops (sizes_of c.args.shape.now) c.args.number c.requires.number c.args.frame.now _ _ _ _ c.requires.fits (omega (arith, g.met.D.Disk.sized told c.close_where_open.new.disk, c.close_where_open.ensures.disk.bytes, c.requires.room)) (c.in_ok-fill_half.ensures.stored told).stores
    (written (both_writes (gate_in_half (sizes_of c.args.shape.now) c.args.number c.close_where_open.ensures.disk) (frame_in_half (sizes_of c.args.shape.now) c.args.number (length c.args.frame.now) c.requires.fits c.fill_half.ensures.disk)) told) (written (gate_in_half (sizes_of c.args.shape.now) c.args.number c.open_half.ensures.disk) told) (c.close_where_open.ensures.stops told)
    (c.fill_half.ensures.stops told) (c.open_half.ensures.stops told)

pub returns-clause-stores : goal.returns-clause-stores
returns-clause-stores g c = λ told.
    commit_stores (sizes_of c.args.shape.now) c.args.number _ c.args.frame.now (c.in_ok-close_where_open.ensures.calls told) (c.in_ok-fill_half.ensures.stored told).stores (c.in_ok-open_half.ensures.stored told).stores

pub returns-clause-done : goal.returns-clause-done
returns-clause-done g c = λ told.
    commit_done (sizes_of c.args.shape.now) c.args.number c.requires.number c.args.frame.now _ _ _ _ c.requires.fits (omega (arith, g.met.D.Disk.sized told c.close_where_open.new.disk, c.close_where_open.ensures.disk.bytes, c.requires.room)) (c.in_ok-fill_half.ensures.stored told).stores
    (written (both_writes (gate_in_half (sizes_of c.args.shape.now) c.args.number c.close_where_open.ensures.disk) (frame_in_half (sizes_of c.args.shape.now) c.args.number (length c.args.frame.now) c.requires.fits c.fill_half.ensures.disk)) told) (written (gate_in_half (sizes_of c.args.shape.now) c.args.number c.open_half.ensures.disk) told)
    (c.in_ok-open_half.ensures.done told)

pub returns-in_err-close_where_open-clause-calls : goal.returns-in_err-close_where_open-clause-calls
returns-in_err-close_where_open-clause-calls g c = λ told. part_made _ c.from_residual.result c.from_residual.ensures.1 (fails_first _ (c.in_err-close_where_open.ensures.calls told))

pub returns-in_err-fill_half-clause-calls : goal.returns-in_err-fill_half-clause-calls
returns-in_err-fill_half-clause-calls g c = λ told.
    part_made _ c.from_residual-in_err-fill_half.result c.from_residual-in_err-fill_half.ensures.1
    (fails_behind _ (c.in_ok-close_where_open.ensures.calls told) (fails_first _ (c.in_err-fill_half.ensures.stored told)))

pub returns-in_err-open_half-clause-calls : goal.returns-in_err-open_half-clause-calls
returns-in_err-open_half-clause-calls g c = λ told.
    part_made _ c.from_residual-in_err-open_half.result c.from_residual-in_err-open_half.ensures.1
    (fails_behind _ (c.in_ok-close_where_open.ensures.calls told) (fails_behind _ (c.in_ok-fill_half.ensures.stored told).calls (c.in_err-open_half.ensures.stored told)))
