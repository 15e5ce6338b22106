use Rattle.std.proofs.Common.{arith}
use Rattle.bd_disk.proofs.RunLemmas.{written}
use Rattle.bd_model.specs.Sizes.{sizes_of}
use Rattle.bd_gate.proofs.Commits.{fails_moved, moved, part_stored, stored_moved}
use Rattle.bd_gate.proofs.Stops.{open_stops, open_done, open_next}
use Rattle.bd_gate.proofs.commit.open_half.Goals as goal

pub returns-in_err-store-clause-disk : goal.returns-in_err-store-clause-disk
returns-in_err-store-clause-disk g c = moved _ _ 1 c.place_of_half-place.ensures.place c.store.ensures.disk

pub returns-clause-disk : goal.returns-clause-disk
returns-clause-disk g c = moved _ _ 1 c.place_of_half-place.ensures.place c.store.ensures.disk

pub returns-in_err-store-clause-stops : goal.returns-in_err-store-clause-stops
returns-in_err-store-clause-stops g c = λ told. open_stops (sizes_of c.args.shape.now) c.args.number _ _ c.requires.number (c.requires.ready told) (c.requires.turn told) (written (moved _ _ 1 c.place_of_half-place.ensures.place c.store.ensures.disk) told)

pub returns-clause-stops : goal.returns-clause-stops
returns-clause-stops g c = λ told. open_stops (sizes_of c.args.shape.now) c.args.number _ _ c.requires.number (c.requires.ready told) (c.requires.turn told) (written (moved _ _ 1 c.place_of_half-place.ensures.place c.store.ensures.disk) told)

pub returns-clause-done : goal.returns-clause-done
returns-clause-done g c = λ told.
    open_done (sizes_of c.args.shape.now) c.args.number c.requires.number _ _ (omega (arith, g.met.D.Disk.sized told c.args.disk.now, c.requires.room)) (c.requires.ready told) (c.requires.turn told) (stored_moved _ _ c.place_of_half-place.ensures.place (c.in_ok-store.ensures.stored told)).stores

pub returns-clause-next : goal.returns-clause-next
returns-clause-next g c = λ told.
    open_next (sizes_of c.args.shape.now) c.args.number c.requires.number _ _ (omega (arith, g.met.D.Disk.sized told c.args.disk.now, c.requires.room)) (c.requires.ready told) (c.requires.turn told) (stored_moved _ _ c.place_of_half-place.ensures.place (c.in_ok-store.ensures.stored told)).stores

pub returns-clause-stored : goal.returns-clause-stored
returns-clause-stored g c = λ told. stored_moved _ _ c.place_of_half-place.ensures.place (c.in_ok-store.ensures.stored told)

pub returns-in_err-store-clause-stored : goal.returns-in_err-store-clause-stored
returns-in_err-store-clause-stored g c = λ told. part_stored _ c.from_residual.result c.from_residual.ensures.1 (fails_moved _ _ c.place_of_half-place.ensures.place (c.in_err-store.ensures.stored told))
