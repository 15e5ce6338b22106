use Rattle.std.proofs.Common.{◌+◌, take, drop, ◌∙◌, ap, subst}
use Rattle.std.specs.Int.{w64, from_be_bytes}
use Rattle.bd_disk.specs.History.{contents}
use Rattle.bd_gate.specs.Superblock.{eight_at}
use Rattle.bd_disk.specs.Images.{InRange}
use Rattle.bd_disk.proofs.RunLemmas.{read_once, wider_reads}
use Rattle.bd_disk.proofs.Traces.{read_reads}
use Rattle.bd_disk.specs.Trace.{ReadsOnly, upward}
use Rattle.bd_model.specs.Sizes.{sizes_of}
use Rattle.bd_gate.proofs.Fronts.{in_fronts, front_length}
use Rattle.bd_gate.proofs.half.read_front.Goals as goal

pub returns-in_err-read-clause-disk : goal.returns-in_err-read-clause-disk
returns-in_err-read-clause-disk g c =
    wider_reads _ (λ place r. in_fronts (sizes_of c.args.shape.now) c.args.number place c.requires.number (subst (λ p. InRange p 10 place) c.place_of_half-place.ensures.place r))
    (read_once g.D.Disk _ _ c.read.result c.read.ensures.bytes c.read.ensures.ok c.read.ensures.err c.read.ensures.writes)

pub returns-clause-disk : goal.returns-clause-disk
returns-clause-disk g c =
    wider_reads _ (λ place r. in_fronts (sizes_of c.args.shape.now) c.args.number place c.requires.number (subst (λ p. InRange p 10 place) c.place_of_half-place.ensures.place r))
    (read_once g.D.Disk _ _ c.read.result c.read.ensures.bytes c.read.ensures.ok c.read.ensures.err c.read.ensures.writes)

pub returns-clause-places : goal.returns-clause-places
returns-clause-places g c = λ told.
    subst (λ p. ReadsOnly (upward p 10) (g.D.Disk.history c.args.disk.now) (g.D.Disk.history c.read.new.self)) c.place_of_half-place.ensures.place (read_reads (c.in_ok-read.ensures.ok told))

pub returns-clause-length : goal.returns-clause-length
returns-clause-length g c = λ told.
    c.from_be_bytes.ensures
    ∙ ap (from_be_bytes w64) (c.copy_from_slice.ensures.after ∙ ap (λ l. take 8 (drop 2 l)) (c.in_ok-read.ensures.read told))
    ∙ front_length (contents (g.D.Disk.history c.args.disk.now)) c.place_of_half-place.result
    ∙ ap (λ p. eight_at (contents (g.D.Disk.history c.args.disk.now)) (p + 2)) c.place_of_half-place.ensures.place
