-- What an opening answers of a superblock and of the half that was loaded.
use Rattle.std.proofs.Common.{◌≡◌, ℕ, ◌<◌, List, sym, ◌∙◌, ap, subst, arith, Result, Ok, Err}
use Rattle.bd_disk.specs.Calls.{Done}
use Rattle.bd_disk.specs.Images.{InRange}
use Rattle.bd_disk.specs.History.{Flush, History, contents}
use Rattle.bd_disk.specs.Made.{IsSettled, WritesNothing}
use Rattle.bd_disk.specs.Runs.{Reads}
use Rattle.bd_disk.specs.declared.disk.Disk.{Ghosts}
use Rattle.bd_disk.proofs.Frames.{settled, settled_sure, still_settled, unchanged}
use Rattle.bd_disk.proofs.RunLemmas.{wider_reads}
use Rattle.bd_model.specs.declared.place.Place.{Place}
use Rattle.bd_model.specs.Sizes.{Sizes, extent_place}
use Rattle.bd_gate.specs.Halves.{BeforeExtents, InHalves}
use Rattle.bd_catalog.specs.declared.load.LoadFault.{LoadFault}
use Rattle.bd_catalog.specs.declared.load.LoadFault.TheVariants.{Halves, Payload, DiskFault, OutOfMemory}
use Rattle.bd_catalog.specs.Loading.{AnswersLoad, InLoad}
use Rattle.bd_catalog.specs.Opening.{Found, opened, opened_newest}
use Rattle.bd_catalog.proofs.LoadLemmas.{load_in_halves, wider_told}
use Rattle.bd_recover.specs.Faults.{as_opening}
use Rattle.bd_recover.specs.Opens.{AnswersRecovery, Rests}

pub load_fails : (wanted expected : Result Found Place) (fault : LoadFault) → wanted ≡ expected → AnswersLoad expected (Err fault) → AnswersRecovery wanted (Err (as_opening fault))
load_fails wanted expected Halves same answers = same ∙ answers
load_fails wanted expected Payload same answers = same ∙ answers
load_fails wanted expected DiskFault same answers = tt
load_fails wanted expected OutOfMemory same answers = tt

module _ (s : Sizes) {a b c d : History} (synced : Done Flush a b) (quiet : WritesNothing a b) (read : WritesNothing b c) (loaded : WritesNothing c d) where
  pub finds : opened (contents b) ≡ opened_newest s (contents b) → opened (contents a) ≡ opened_newest s (contents c)
  finds is = ap opened (sym (unchanged quiet)) ∙ is ∙ ap (opened_newest s) (sym (unchanged read))

  pub ends_at_rest : (found : Found) → opened (contents a) ≡ Ok found → Rests found d
  ends_at_rest found is =
      let ends : IsSettled d = still_settled loaded (still_settled read (settled synced)) in
      record {
        agrees = record { opens = ap opened (unchanged loaded ∙ unchanged read ∙ unchanged quiet) ∙ is; sure = settled_sure (InHalves found.sizes) ends };
        settled = ends;
      }

-- ---- where it reads

module _ {D : Type 0} {g : Ghosts D} where
  -- the superblock lies before the extents, and so do the halves
  pub front_before : (s : Sizes) {a b : D} → Reads g (InRange 0 64) a b → Reads g (BeforeExtents s) a b
  front_before s front = wider_reads _ (λ place r. let less : place < 64 = omega (arith, r.1) in omega arith) front

  pub load_before : {s t : Sizes} {image : List ℕ} {a b : D} → (g.tells → t ≡ s) → Reads g (InLoad s image) a b → Reads g (BeforeExtents t) a b
  load_before {s} {t} {image} same load =
      wider_told _
      (λ told place inside.
      let less : place < extent_place s 0 = omega (arith, (load_in_halves s image place inside).1) in
      subst (λ u. place < extent_place u 0) (sym (same told)) less)
      load
