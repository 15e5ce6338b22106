-- What the fetch of a script leaves of what lies round it.
use Rattle.std.proofs.Common.{◌≡◌, ℕ, List, refl, sym, subst, arith, Err}
use Rattle.bd_disk.specs.Calls.{FailsByCount}
use Rattle.bd_model.specs.FileMap.{FileMap}
use Rattle.bd_model.specs.declared.command.Command.{Command}
use Rattle.bd_session.specs.Ends.{EndsByCount}
use Rattle.mfdedup.specs.Failing.{end_cause}
use Rattle.mfdedup.specs.Noted.{NothingNoted}
use Rattle.bd_files.specs.World.{World}
use Rattle.mfdedup.specs.Script.{CountsMissingSource, EndsUnread, HasScript, is_source_fault}
use Rattle.mfdedup.specs.ScriptRuns.{ReadsNoScript, ReadsScript}
use Rattle.mfdedup.specs.declared.progress.Progress.{Progress}
use Rattle.mfdedup.specs.declared.report.End.{End}
use Rattle.mfdedup.specs.declared.report.End.TheVariants.{BadLine, LongScript, OutOfMemory, SourceFault}

-- the same world, with these files and these counts of theirs
abbrev pub at_files : World → FileMap → List (List ℕ) → ℕ → ℕ → ℕ → World
at_files o files unfinished strays sources targets = record o { files = files; unfinished = unfinished; strays = strays; counts = record o.counts { sources = sources; targets = targets } }

module _ (o : World) (files : FileMap) (unfinished : List (List ℕ)) (strays sources targets : ℕ) (same_targets : targets ≡ o.counts.targets) where
  abbrev now : World
  now = at_files o files unfinished strays sources targets

  none : sources ≡ o.counts.sources → now.counts ≡ o.counts
  none same = λ i. record o.counts { sources = same i; targets = same_targets i }

  by_count : {T : Type 0} (tells : Type 0) (name : List ℕ) (e : End) → EndsUnread tells o.files name e → FailsByCount {T = T} is_source_fault o.counts.sources sources (Err e) → EndsByCount (end_cause e) o.counts now.counts
  by_count tells name SourceFault _ m = (m.cause, refl, same_targets, refl)
  by_count tells name LongScript _ m = none m.cause
  by_count tells name (BadLine number) _ m = none m.cause
  by_count tells name OutOfMemory _ m = none m.cause
  by_count tells name _ other m = absurd other

  pub read_none : {T : Type 0} (tells : Type 0) (name : List ℕ) (p : Progress) (e : End) → NothingNoted p → p.end ≡ e → EndsUnread tells o.files name e → FailsByCount {T = T} is_source_fault o.counts.sources sources (Err e) →
      (tells → CountsMissingSource o.files name o.strays strays e) → (tells → files ≡ o.files) → (tells → unfinished ≡ o.unfinished) → ReadsNoScript tells name p o now
  read_none {T} tells name p e nothing is ends fails counts same same_unfinished = record {
    nothing = nothing;
    ends = subst (EndsUnread tells o.files name) (sym is) ends;
    cause = record { later = record { disk = omega arith; sources = fails.later; targets = omega (arith, same_targets); sink = omega arith }; by = subst (λ x. EndsByCount (end_cause x) o.counts now.counts) (sym is) (by_count {T = T} tells name e ends fails) };
    strays = λ told. subst (CountsMissingSource o.files name o.strays strays) (sym is) (counts told);
    same = same;
    unfinished = same_unfinished;
    beside = λ i. at_files o files unfinished strays sources (same_targets i);
  }

  pub read_one : (tells : Type 0) (name : List ℕ) (commands : List Command) → sources ≡ o.counts.sources → (tells → HasScript o.files name commands) → (tells → strays ≡ o.strays) → (tells → files ≡ o.files) → (tells → unfinished ≡ o.unfinished) → ReadsScript tells name commands o now
  read_one tells name commands same_sources script same_strays same same_unfinished = record {
    script = script;
    same = λ told i. at_files o (same told i) (same_unfinished told i) (same_strays told i) (same_sources i) (same_targets i);
    beside = λ i. at_files o files unfinished strays (same_sources i) (same_targets i);
  }
