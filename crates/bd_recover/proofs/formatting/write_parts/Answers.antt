use Rattle.std.proofs.Common.{◌≡◌, ◌+◌, ◌≤◌, ◌∙◌, [], ◌∷◌, ap, subst, sym, arith, length}
use Rattle.bd_disk.specs.History.{contents}
use Rattle.bd_disk.specs.Images.{overwritten}
use Rattle.bd_disk.specs.Runs.{Writes}
use Rattle.bd_disk.proofs.Frames.{settled}
use Rattle.bd_disk.proofs.RunLemmas.{both_writes, sync_in_writes, write_once}
use Rattle.bd_model.specs.Sizes.{sizes_of, disk_bytes, half_place}
use Rattle.bd_recover.specs.Fresh.{HoldsFresh, InParts, fresh_half, superblock_body}
use Rattle.bd_recover.proofs.Bytes.{holds_fresh, first_in_parts, other_in_parts, body_in_parts}
use Rattle.bd_recover.proofs.formatting.write_parts.Goals as goal
use Rattle.bd_recover.proofs.formatting.write_parts.Goals.{After-sync, After-write, After-write-2, After-write-3}

-- What the calls so far did, whatever the last of them answered.
first : (g : _) (c : After-write g) → Writes g.D.Disk (InParts (sizes_of c.args.shape.now)) c.args.disk.now c.write.new.self
first g c = first_in_parts (sizes_of c.args.shape.now) (ap length c.fresh_half.ensures) (write_once g.D.Disk _ _ c.write.result c.write.ensures.bytes c.write.ensures.ok c.write.ensures.err c.write.ensures.writes)

second : (g : _) (c : After-write-2 g) → Writes g.D.Disk (InParts (sizes_of c.args.shape.now)) c.args.disk.now c.write.new.self → Writes g.D.Disk (InParts (sizes_of c.args.shape.now)) c.args.disk.now c.write-2.new.self
second g c before =
    both_writes before (other_in_parts (sizes_of c.args.shape.now) c.half_bytes.ensures (write_once g.D.Disk _ _ c.write-2.result c.write-2.ensures.bytes c.write-2.ensures.ok c.write-2.ensures.err c.write-2.ensures.writes))

third : (g : _) (c : After-write-3 g) → Writes g.D.Disk (InParts (sizes_of c.args.shape.now)) c.args.disk.now c.write-2.new.self → Writes g.D.Disk (InParts (sizes_of c.args.shape.now)) c.args.disk.now c.write-3.new.self
third g c before =
    both_writes before (body_in_parts (sizes_of c.args.shape.now) (ap length c.superblock_body.ensures) (write_once g.D.Disk _ _ c.write-3.result c.write-3.ensures.bytes c.write-3.ensures.ok c.write-3.ensures.err c.write-3.ensures.writes))

pub returns-in_err-write-clause-disk : goal.returns-in_err-write-clause-disk
returns-in_err-write-clause-disk g c = first g (goal.at.returns-in_err-write-clause-disk g c).After-write

pub returns-in_err-write-2-clause-disk : goal.returns-in_err-write-2-clause-disk
returns-in_err-write-2-clause-disk g c = let at = goal.at.returns-in_err-write-2-clause-disk g c in second g at.After-write-2 (first g at.After-write)

pub returns-in_err-write-3-clause-disk : goal.returns-in_err-write-3-clause-disk
returns-in_err-write-3-clause-disk g c = let at = goal.at.returns-in_err-write-3-clause-disk g c in third g at.After-write-3 (second g at.After-write-2 (first g at.After-write))

all : (g : _) (c : After-sync g) → Writes g.D.Disk (InParts (sizes_of c.args.shape.now)) c.args.disk.now c.write-3.new.self → Writes g.D.Disk (InParts (sizes_of c.args.shape.now)) c.args.disk.now c.sync.new.self
all g c before = both_writes before (sync_in_writes g.D.Disk _ c.sync.result c.sync.ensures.bytes c.sync.ensures.ok c.sync.ensures.err c.sync.ensures.writes)

pub returns-in_err-sync-clause-disk : goal.returns-in_err-sync-clause-disk
returns-in_err-sync-clause-disk g c = let at = goal.at.returns-in_err-sync-clause-disk g c in all g at.After-sync (third g at.After-write-3 (second g at.After-write-2 (first g at.After-write)))

pub returns-clause-disk : goal.returns-clause-disk
returns-clause-disk g c = let at = goal.at.returns-clause-disk g c in all g at.After-sync (third g at.After-write-3 (second g at.After-write-2 (first g at.After-write)))

pub returns-clause-settled : goal.returns-clause-settled
returns-clause-settled g c = λ told. settled (c.in_ok-sync.ensures.ok told)

pub returns-clause-fresh : goal.returns-clause-fresh
returns-clause-fresh g c = λ told.
    let s = sizes_of c.args.shape.now in
    let image = contents (g.D.Disk.history c.args.disk.now) in
    let room : disk_bytes s ≤ length image = omega (arith, g.met.D.Disk.sized told c.args.disk.now, c.requires.room) in
    let place : 64 + c.half_bytes.result ≡ half_place s 1 = omega (arith, c.half_bytes.ensures) in
    let is : contents (g.D.Disk.history c.sync.new.self) ≡ overwritten (overwritten (overwritten image 64 fresh_half) (half_place s 1) (0 ∷ [])) 1 (superblock_body s) =
    ap contents (c.in_ok-sync.ensures.ok told).so
    ∙ ap contents (c.in_ok-write-3.ensures.ok told).so
    ∙ (λ k. overwritten (contents ((c.in_ok-write-2.ensures.ok told).so k)) 1 (c.superblock_body.ensures k))
    ∙ (λ k. overwritten (overwritten (contents ((c.in_ok-write.ensures.ok told).so k)) (place k) (0 ∷ [])) 1 (superblock_body s))
    ∙ (λ k. overwritten (overwritten (overwritten image 64 (c.fresh_half.ensures k)) (half_place s 1) (0 ∷ [])) 1 (superblock_body s)) in
    subst (HoldsFresh s) (sym is) (holds_fresh s image room)
