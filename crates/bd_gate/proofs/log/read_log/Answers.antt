use Rattle.std.proofs.Common.{◌+◌, length, subst}
use Rattle.bd_disk.specs.Images.{InRange}
use Rattle.bd_disk.specs.Trace.{ReadsOnly, upward}
use Rattle.bd_disk.proofs.RunLemmas.{read_once, wider_reads}
use Rattle.bd_disk.proofs.Traces.{read_reads}
use Rattle.bd_gate.proofs.log.read_log.Goals as goal

pub returns-in_err-read-clause-disk : goal.returns-in_err-read-clause-disk
returns-in_err-read-clause-disk g c =
    wider_reads _ (λ place r. subst (λ at. InRange (at + c.args.at) (length c.args.into.now) place) c.place_of_half.ensures.place r)
    (read_once g.D.Disk _ _ c.read.result c.read.ensures.bytes c.read.ensures.ok c.read.ensures.err c.read.ensures.writes)

pub returns-clause-disk : goal.returns-clause-disk
returns-clause-disk g c =
    wider_reads _ (λ place r. subst (λ at. InRange (at + c.args.at) (length c.args.into.now) place) c.place_of_half.ensures.place r)
    (read_once g.D.Disk _ _ c.read.result c.read.ensures.bytes c.read.ensures.ok c.read.ensures.err c.read.ensures.writes)

pub returns-clause-places : goal.returns-clause-places
returns-clause-places g c = λ told.
    subst (λ l. ReadsOnly l (g.D.Disk.history c.args.disk.now) (g.D.Disk.history c.read.new.self))
    (λ i. upward (c.place_of_half.ensures.place i + c.args.at) (length c.args.into.now)) (read_reads (c.in_ok-read.ensures.ok told))
