use Rattle.std.proofs.Common.{◌≡◌, ◌+◌, ◌-◌, ◌*◌, ◌%◌, ◌≤◌, ◌∙◌, sym, subst, arith, refl, length, take, ◌++◌, length-append, length-take}
use Rattle.bd_disk.specs.History.{contents}
use Rattle.bd_disk.specs.Images.{bytes_at}
use Rattle.bd_disk.specs.Runs.{Reads}
use Rattle.bd_disk.specs.Trace.{ReadsOnly, upward}
use borrow.Rule.Slice.PartMut.{post_of}
use Rattle.bd_disk.proofs.RunLemmas.{both_reads, no_reads, read_once, same_contents, wider_reads}
use Rattle.bd_disk.proofs.Traces.{reads_none, reads_both, read_reads}
use Rattle.bd_model.specs.Sizes.{sizes_of, disk_bytes}
use Rattle.bd_extio.specs.Ranges.{InOwner, place_of}
use Rattle.bd_extio.proofs.Places.{range_small}
use Rattle.bd_extio.proofs.Ranges.{read_more, places_more, piece_in_owner, upward-range}
use Rattle.bd_extio.proofs.range.read_at.Goals as goal
use Rattle.bd_extio.proofs.range.read_at.Goals.{After-read}

pub loop-done-init : goal.loop-done-init
loop-done-init g c = record { disk = no_reads; faults = refl; within = omega arith; taken = λ told. refl; places = λ told. reads_none _ }

pub overflow_add-at : goal.overflow_add-at
overflow_add-at g c = omega (arith, range_small (sizes_of c.args.shape.now) c.args.extents.now c.requires.numbers (omega arith) (omega arith), c.requires.range)

-- What the reads so far and this one did, whatever it answered.
worked : (g : _) (c : After-read g) → Reads g.D.Disk (InOwner (sizes_of c.args.shape.now) c.args.extents.now c.args.at (length c.args.into.now)) c.args.disk.now c.read.new.self
worked g c =
    let within : c.loop-done.done + c.piece_at-piece.result.length ≤ length c.args.into.now = omega (arith, c.piece_at-piece.ensures.length) in
    let start = c.piece_at-piece.ensures.place in
    both_reads c.loop-done.invariant.disk
    (wider_reads _ (λ place r. piece_in_owner (sizes_of c.args.shape.now) c.args.extents.now (omega arith) c.args.at c.loop-done.done c.piece_at-piece.result.length (length c.args.into.now) place within (omega (arith, c.piece_at-piece.ensures.length))
    (omega (arith, r.0, start), omega (arith, r.1, start, c.read.auto.into)))
    (read_once g.D.Disk _ _ c.read.result c.read.ensures.bytes c.read.ensures.ok c.read.ensures.err c.read.ensures.writes))

pub returns-in_err-read-clause-disk : goal.returns-in_err-read-clause-disk
returns-in_err-read-clause-disk g c = worked g (goal.at.returns-in_err-read-clause-disk g c).After-read

pub loop-done-preserved : goal.loop-done-preserved
loop-done-preserved g c =
    let s = sizes_of c.args.shape.now in
    let extents = c.args.extents.now in
    let done = c.loop-done.done in
    let n = c.piece_at-piece.result.length in
    let at = c.args.at in
    let fits : at + done + n ≤ length extents * s.extent = omega (arith, c.piece_at-piece.ensures.length, c.requires.range) in
    let inside : (at + done) % s.extent + n ≤ s.extent = omega (arith, c.piece_at-piece.ensures.length) in
    let some : 1 ≤ s.extent = omega arith in
    let sized : length c.read.new.into ≡ n = omega (arith, c.read.auto.into) in
    let long = sym c.read.auto.into ∙ sized in
    let contents_same : g.D.Disk.tells → contents (g.D.Disk.history c.loop-done.disk) ≡ contents (g.D.Disk.history c.args.disk.now) = λ told. same_contents c.loop-done.invariant.disk told in
    record {
      disk = worked g (goal.at.loop-done-preserved g c).After-read;
      faults = c.in_ok-read.ensures.cause.kept ∙ c.loop-done.invariant.faults;
      within = omega (arith, length-append (take done c.loop-done.into) (c.read.new.into ++ post_of done (done + n - done) c.loop-done.into), length-append c.read.new.into (post_of done (done + n - done) c.loop-done.into), length-take done c.loop-done.into, sized, c.loop-done.invariant.within);
      taken = λ told.
          let image = contents (g.D.Disk.history c.args.disk.now) in
          let room : disk_bytes s ≤ length image = omega (arith, g.met.D.Disk.sized told c.args.disk.now, c.requires.room) in
          read_more s extents some image room c.requires.numbers.below at done n _ c.loop-done.into c.read.new.into c.piece_at-piece.ensures.some fits inside c.loop-done.invariant.within sized (c.loop-done.invariant.taken told)
          (c.in_ok-read.ensures.read told ∙ (λ i. bytes_at (c.piece_at-piece.ensures.place i) (long i) (contents_same told i)));
      places = λ told.
          let image = contents (g.D.Disk.history c.args.disk.now) in
          let room : disk_bytes s ≤ length image = omega (arith, g.met.D.Disk.sized told c.args.disk.now, c.requires.room) in
          subst (λ l. ReadsOnly l (g.D.Disk.history c.args.disk.now) (g.D.Disk.history c.read.new.self)) (places_more s extents some image room at done n fits inside)
          (reads_both (c.loop-done.invariant.places told) (subst (λ l. ReadsOnly l (g.D.Disk.history c.loop-done.disk) (g.D.Disk.history c.read.new.self)) (upward-range (place_of s extents (at + done)) n)
          (subst (λ l. ReadsOnly l (g.D.Disk.history c.loop-done.disk) (g.D.Disk.history c.read.new.self)) (λ i. upward (c.piece_at-piece.ensures.place i) (long i)) (read_reads (c.in_ok-read.ensures.ok told)))));
    }
