use Rattle.std.proofs.Common.{◌≡◌, ℕ, suc, ◌+◌, ◌&&◌, true, [], ◌∷◌, ◌++◌, refl, sym, ◌∙◌, ap, subst, arith}
use Rattle.std.specs.Prelude.{IsTrue}
use Rattle.std.specs.List.{list_all}
use Rattle.std.proofs.lemmas.List.Folds.{list_all-append}
use Rattle.bd_disk.specs.History.{contents}
use Rattle.bd_disk.proofs.RunLemmas.{both_reads, no_reads, nothing_written, same_contents}
use Rattle.bd_catalog.specs.Damages.{header_holds}
use Rattle.bd_catalog.specs.Rows.{first_spots, past, row_bytes, spot_in}
use Rattle.bd_restore.specs.Met.{MetAt, MetOn}
use Rattle.bd_restore.specs.Went.{aim_of, moment, placed_row, placed_sizes, sought_by, Went}
use Rattle.bd_restore.proofs.FaultPassedOn.{damaged_by}
use Rattle.bd_restore.proofs.Frames.{target_both, target_none}
use Rattle.bd_restore.proofs.WentLemmas.{over_row, went_both, went_none}
use Rattle.bd_volume.proofs.Spots.{past-more, spots-more}
use Rattle.bd_restore.proofs.JoinedWalks.{met_here}
use Rattle.bd_restore.proofs.plan.Wanted.run_row.Goals as goal

pub loop-done-init : goal.loop-done-init
loop-done-init g c =
    let a = aim_of (placed_sizes c.args.placed.now) c.args.self.now c.args.name.now in
    record {
      disk = no_reads;
      faults = refl;
      targets = refl;
      files = target_none;
      low = omega arith;
      high = omega arith;
      next = λ told. refl;
      good = λ told. refl;
      went = went_none g.D.Disk g.F.Files a (moment c.args.progress.now c.args.disk.now c.args.files.now) c.requires.ready;
    }

pub returns-in_err-at-clause-damage : goal.returns-in_err-at-clause-damage
returns-in_err-at-clause-damage g c =
    let s = placed_sizes c.args.placed.now in
    let p = placed_row c.args.placed.now in
    let w = sought_by s c.args.self.now in
    let inv = c.loop-done.invariant in
    let first = g.D.Disk.history c.args.disk.now in
    let before = g.D.Disk.history c.loop-done.disk in
    let after = g.D.Disk.history c.read_record.new.disk in
    let image = contents first in
    let old = c.args.progress.now.filled.items in
    let now = c.loop-done.progress.filled.items in
    let at = c.loop-done.at in
    damaged_by ℕ (λ damage. g.D.Disk.tells → MetAt w now p (spot_in s (contents before) p at) damage before after) (λ damage. g.D.Disk.tells → MetOn w image old (p ∷ []) damage first after) c.in_err-at.field-0.0 c.from_residual.result c.from_residual.ensures.1
    (λ damage met told. met_here w image damage old now p c.loop-done.done at c.loop-done-test.true (inv.next told) (inv.good told) (nothing_written inv.disk told) (inv.went.walk told).flags
    (subst (λ i. MetAt w now p (spot_in s i p at) damage before after) (same_contents inv.disk told) (met told)))
    c.in_err-at.ensures.damage

pub loop-done-preserved : goal.loop-done-preserved
loop-done-preserved g c =
    let s = placed_sizes c.args.placed.now in
    let p = placed_row c.args.placed.now in
    let a = aim_of s c.args.self.now c.args.name.now in
    let inv = c.loop-done.invariant in
    let done = c.loop-done.done in
    let at = c.loop-done.at in
    let image = contents (g.D.Disk.history c.args.disk.now) in
    let now = contents (g.D.Disk.history c.loop-done.disk) in
    let spots = first_spots s image p done in
    let more : done + 1 ≡ suc done = omega arith in
    let last = spot_in s image p (past p.from spots) in
    let list : first_spots s image p (done + 1) ≡ spots ++ last ∷ [] = ap (first_spots s image p) more ∙ spots-more p.extents (row_bytes s image p) done p.from in
    record {
      disk = both_reads inv.disk c.read_record.ensures.disk;
      faults = c.in_ok-at.ensures.cause.disk.cause ∙ inv.faults;
      targets = c.in_ok-at.ensures.cause.target.cause ∙ inv.targets;
      files = target_both inv.files c.read_record.ensures.files;
      low = omega (arith, inv.low, c.in_ok-at.ensures.next.goes);
      high = c.in_ok-at.ensures.next.within;
      next = λ told.
          let same : now ≡ image = same_contents inv.disk told in
          let there = inv.next told in
          (c.in_ok-at.ensures.next.over told).ends
          ∙ (λ i. there i + 36 + (spot_in s (same i) p (there i)).stored.length)
          ∙ sym (ap (λ n. past p.from (first_spots s image p n)) more ∙ past-more p.extents (row_bytes s image p) done p.from);
      good = λ told.
          let same : now ≡ image = same_contents inv.disk told in
          let holds : header_holds s p last ≡ true = subst (λ k. header_holds s p (spot_in s image p k) ≡ true) (inv.next told) (subst (λ i. header_holds s p (spot_in s i p at) ≡ true) same (c.in_ok-at.ensures.next.over told).good) in
          ap (list_all (header_holds s p)) list ∙ list_all-append (header_holds s p) spots (last ∷ []) ∙ (λ i. inv.good told i && (holds i && true));
      went = went_both g.D.Disk g.F.Files a spots (last ∷ []) (spot_in s now p at ∷ []) (first_spots s image p (done + 1))
          (moment c.args.progress.now c.args.disk.now c.args.files.now) (moment c.loop-done.progress c.loop-done.disk c.loop-done.files) (moment c.read_record.new.progress c.read_record.new.disk c.read_record.new.files)
          (λ told.
          let same : now ≡ image = same_contents inv.disk told in
          let there = inv.next told in
          λ i. spot_in s (same i) p (there i) ∷ [])
          (λ told. list) inv.went c.in_ok-at.ensures.went;
    }

pub returns-clause-went : goal.returns-clause-went
returns-clause-went g c =
    let s = placed_sizes c.args.placed.now in
    let p = placed_row c.args.placed.now in
    let a = aim_of s c.args.self.now c.args.name.now in
    let image = contents (g.D.Disk.history c.args.disk.now) in
    let old = moment c.args.progress.now c.args.disk.now c.args.files.now in
    let new = moment c.loop-done.progress c.loop-done.disk c.loop-done.files in
    let all : c.loop-done.done ≡ p.row.chunks = omega (arith, c.loop-done-test.false) in
    over_row g.D.Disk g.F.Files a p old new
    (subst (λ n. Went g.D.Disk g.F.Files a (first_spots s image p n) old new) all c.loop-done.invariant.went)
    (λ told. subst (λ n. IsTrue (list_all (header_holds s p) (first_spots s image p n))) all (c.loop-done.invariant.good told))
