-- What an opening before the first command adds.
use Rattle.std.proofs.Common.{◌≡◌, ◌∙◌, ℕ, [], ◌<◌, ◌≤◌, List, ◌∷◌, sym, subst, ap, arith}
use Rattle.std.specs.Prelude.{All, Ok}
use Rattle.std.specs.List.{AllByRecursion}
use Rattle.std.proofs.lemmas.List.Elements.{All-nil, All-cons}
use Rattle.bd_disk.specs.History.{History, clock, contents}
use Rattle.bd_disk.specs.Made.{WritesNothing, WritesOnly}
use Rattle.bd_disk.specs.Trace.{reads as reads_in, reads_between, ReadsOnly}
use Rattle.bd_disk.proofs.Frames.{goes_on, later, still_now, unchanged}
use Rattle.bd_disk.proofs.LookedPlaces.{reads_within}
use Rattle.bd_disk.proofs.Traces.{read_going_on, reads_on, reads_of_run, reads_still}
use Rattle.bd_model.specs.Sizes.{sizes_of, extent_place}
use Rattle.bd_gate.specs.Superblock.{sizes_at}
use Rattle.bd_catalog.specs.Opening.{Found, opened}
use Rattle.bd_catalog.specs.Standing.{StandsFor}
use Rattle.bd_catalog.proofs.StandingLemmas.{stands-shows}
use Rattle.bd_catalog.proofs.StandingFound.{opened-found}
use Rattle.bd_session.specs.Promised.{Start, IsHonest}
use Rattle.mfdedup.specs.Commands.{ReadsFront}
use Rattle.mfdedup.specs.Headline.{OpensFirst}

-- the same state on a disk that was only read
abbrev pub on_disk : Start → History → Start
on_disk s disk = record s { disk = disk }

-- a disk that was only read is as honest as before
pub still_honest : {s : Start} {b : History} → WritesNothing s.disk b → IsHonest s → IsHonest (on_disk s b)
still_honest {s} {b} quiet honest = record {
  stands = subst (StandsFor s.shape s.state s.phase 0) (sym (unchanged quiet)) honest.stands;
  sure = still_now quiet honest.sure;
}

all-listed : (P : ℕ → Type 0) (xs : List ℕ) → AllByRecursion P xs → All P xs
all-listed P [] all = All-nil P
all-listed P (x ∷ xs) all = All-cons P x xs all.0 (all-listed P xs all.1)

-- what an opening reads lies before the first extent
pub opens_first : {s : Start} {b c : History} (found : Found) → IsHonest s → opened (contents s.disk) ≡ Ok found → ReadsFront s.disk b → WritesOnly (λ place. 64 ≤ place) b c → OpensFirst s.shape s.disk c (clock b)
opens_first {s} {b} {c} found honest opens front made = record { later = later front.writes; places = all-listed _ _ (subst (AllByRecursion (λ place. place < extent_place (sizes_of s.shape) 0)) (sym run) within) } where
  same : sizes_at (contents s.disk) ≡ sizes_of s.shape
  same = sym (opened-found (contents s.disk) found opens).sizes ∙ (stands-shows honest.stands opens).sizes

  reads : ReadsOnly (read_going_on front.looks.calls) s.disk b
  reads = record { made = goes_on front.writes; so = ap reads_in front.looks.so ∙ reads_on s.disk front.looks.calls }

  run : reads_between c (clock s.disk) (clock b) ≡ read_going_on front.looks.calls
  run = reads_still (clock s.disk) (clock b) (omega arith) made ∙ reads_of_run reads

  within : AllByRecursion (λ place. place < extent_place (sizes_of s.shape) 0) (read_going_on front.looks.calls)
  within = subst (λ sizes. AllByRecursion (λ place. place < extent_place sizes 0) (read_going_on front.looks.calls)) same (reads_within front.looks reads)
