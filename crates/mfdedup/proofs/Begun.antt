-- What an opening leaves of what lies round it.
use Rattle.std.proofs.Common.{◌≡◌, ◌∙◌, ℕ, ap, refl, sym, subst, arith, Err, inr}
use Rattle.bd_disk.specs.Calls.{FailsByCount}
use Rattle.bd_disk.specs.History.{History, contents}
use Rattle.bd_disk.specs.Made.{LeavesNow}
use Rattle.bd_disk.specs.declared.disk.Disk.{Ghosts as DiskGhosts}
use Rattle.bd_catalog.specs.Opening.{Found, opened}
use Rattle.bd_recover.specs.Opens.{Rests, SyncsFirst, is_disk_fault_of_opening}
use Rattle.bd_recover.specs.declared.fault.OpenFault.{OpenFault}
use Rattle.bd_recover.specs.declared.fault.OpenFault.TheVariants.{NotAStore as OpenNotAStore, DiskFault as OpenDisk, OutOfMemory as OpenMemory}
use Rattle.bd_store.specs.Openings.{AnswersOpening}
use Rattle.bd_store.specs.Opens.{OpensWith}
use Rattle.mfdedup.specs.Commands.{EndsUnopened, OpensNone, ReadsFront}
use Rattle.bd_session.specs.Ends.{EndsOnlyByCount}
use Rattle.bd_session.proofs.AnsweredLemmas.{by_nothing}
use Rattle.mfdedup.specs.Failing.{end_cause, end_of_opening}
use Rattle.mfdedup.specs.Noted.{NothingNoted}
use Rattle.bd_files.specs.World.{Faults, World, with_disk}
use Rattle.mfdedup.specs.declared.progress.Progress.{Progress}

-- no fault was counted: only the history is another
pub only_disk : {D : Type 0} (d : DiskGhosts D) (w : World) (disk : D) → d.bytes disk ≡ w.disk_bytes → d.faults disk ≡ w.counts.disk → with_disk d w disk ≡ record w { disk = d.history disk }
only_disk d w disk same none = λ i. record w { disk_bytes = same i; disk = d.history disk; counts = record w.counts { disk = none i } }

-- behind an opening each image opens as what was found
pub opens_at_rest : {found : Found} {h : History} → Rests found h → LeavesNow (OpensWith found) h
opens_at_rest {found} rests = record {
  each = λ image now. record { again = found; opens = ap opened (rests.settled.each image now) ∙ rests.agrees.opens; same = record { sizes = refl; catalogue = refl } };
}

-- why no store was opened
pub unopened : (disk : Type 0) (fault : OpenFault) (old : History) → (disk → AnswersOpening (opened (contents old)) (Err fault)) → EndsUnopened disk old (end_of_opening fault)
unopened disk (OpenNotAStore place) old answers = answers
unopened disk OpenDisk old answers = tt
unopened disk OpenMemory old answers = tt

-- by which count
pub opening_cause : {T : Type 0} (fault : OpenFault) (c : Faults) (faults : ℕ) → FailsByCount {T = T} is_disk_fault_of_opening c.disk faults (Err fault) → EndsOnlyByCount (end_cause (end_of_opening fault)) c (record c { disk = faults })
opening_cause (OpenNotAStore place) c faults fails = by_nothing refl (λ i. record c { disk = fails.cause i })
opening_cause OpenDisk c faults fails = record { later = record { disk = fails.later; sources = omega arith; targets = omega arith; sink = omega arith }; by = (fails.cause, refl, refl, refl) }
opening_cause OpenMemory c faults fails = by_nothing refl (λ i. record c { disk = fails.cause i })

pub no_store : {D T : Type 0} (d : DiskGhosts D) (p : Progress) (fault : OpenFault) (w : World) (now : D) → NothingNoted p → p.end ≡ end_of_opening fault → (d.tells → AnswersOpening (opened (contents w.disk)) (Err fault)) → FailsByCount {T = T} is_disk_fault_of_opening w.counts.disk (d.faults now) (Err fault) →
    (d.tells → ReadsFront w.disk (d.history now)) → (d.tells → SyncsFirst w.disk (d.history now)) → d.bytes now ≡ w.disk_bytes → OpensNone d.tells p w (with_disk d w now)
no_store {D} {T} d p fault w now none e answers fails front sync same = record {
  nothing = none;
  ends = subst (EndsUnopened d.tells w.disk) (sym e) (unopened d.tells fault w.disk answers);
  cause = subst (λ x. EndsOnlyByCount (end_cause x) w.counts (with_disk d w now).counts) (sym e) (opening_cause {T = T} fault w.counts (d.faults now) fails);
  reads = front;
  synced = λ told. inr (sync told);
  beside = λ i. record w { disk_bytes = same i; disk = d.history now; counts = record w.counts { disk = d.faults now } };
}
