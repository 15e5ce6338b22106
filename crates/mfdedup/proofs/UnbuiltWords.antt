-- What comes of words that ask for nothing that is built, and of a request by the words that ask for it.
use Rattle.std.proofs.Common.{IsTrue, ◌≡◌, ◌⊎◌, ◌∙◌, ℕ, List, [], ◌∷◌, sym, subst, ap, refl, arith, true, false, Bool, MatchBool, Option, None, Some, inl, inr, append-nil}
use Rattle.bd_disk.proofs.Frames.{made_none}
use Rattle.bd_disk.proofs.LookedPlaces.{looks_from}
use Rattle.bd_model.specs.Roomy.{Roomy}
use Rattle.bd_model.specs.Sizes.{sizes_of}
use Rattle.bd_model.specs.declared.command.Command.{Command}
use Rattle.bd_model.specs.declared.shape.Shape.{Shape}
use Rattle.mfdedup.specs.Built.{is_built}
use Rattle.mfdedup.specs.Commands.{EndsUnopened, OpensNone, RunsCommands}
use Rattle.bd_session.specs.Ends.{FromNothing}
use Rattle.bd_session.proofs.AnsweredLemmas.{by_nothing}
use Rattle.mfdedup.specs.Failing.{end_cause, end_of_words}
use Rattle.mfdedup.specs.Headline.{Asks}
use Rattle.mfdedup.specs.Noted.{NothingNoted}
use Rattle.bd_files.specs.World.{World}
use Rattle.mfdedup.specs.Requests.{EndsAtOnce, WordsUnread}
use Rattle.bd_words.specs.declared.fault.WordsFault.{WordsFault}
use Rattle.bd_words.specs.declared.fault.WordsFault.TheVariants.{BadWords, BadNumber, BadName, BadShape, OutOfMemory as WordsMemory}
use Rattle.bd_words.specs.Words.{AsksFor, Reading, ToFormat, ToRun, ToScript, ToSoak, Refused}
use Rattle.mfdedup.specs.Works.{ComesOfWords, WorksByWords}
use Rattle.mfdedup.specs.declared.progress.Progress.{Progress}
use Rattle.mfdedup.specs.declared.report.End.TheVariants.{OutOfMemory, Unbuilt}
use Rattle.bd_words.specs.declared.request.Request.{Request}
use Rattle.bd_words.specs.declared.request.Request.TheVariants.{Format, Run, Script, Soak}
use Rattle.mfdedup.proofs.NotedLemmas.{no_clocks, no_texts}

-- ---- at once

pub at_once : {disk files sink : Type 0} (reading : Reading) (p : Progress) (o : World) → NothingNoted p → end_cause p.end ≡ FromNothing → WorksByWords disk files sink reading p o o → ((commands : List Command) → Asks reading o.files commands → ⊥) → ComesOfWords disk files sink reading p o o
at_once {disk} {files} {sink} reading p o none cause words nothing = record {
  bytes = refl;
  cause = by_nothing cause refl;
  clocks = no_clocks none (λ told. omega arith);
  written = λ told. no_texts none refl;
  words = words;
  headline = λ told _. record { each = λ shape st phase commands asked promised. absurd (nothing commands asked) };
}

-- a command that is still to come
module _ (disk files sink : Type 0) (command : Command) (p : Progress) (o : World) (ends : EndsAtOnce Unbuilt p o o) where
  unbuilt : (b : Bool) → b ≡ false → MatchBool b (RunsCommands disk files sink (command ∷ []) p o o) (EndsAtOnce Unbuilt p o o)
  unbuilt true is_false = absurd (cc is_false)
  unbuilt false is_false = ends

  asks_none : (b : Bool) → b ≡ false → IsTrue b → ⊥
  asks_none true is_false is = cc is_false
  asks_none false is_false is = cc is

  pub asked_unbuilt : is_built command ≡ false → ComesOfWords disk files sink (ToRun command) p o o
  asked_unbuilt is_false =
      at_once (ToRun command) p o ends.nothing (ap end_cause ends.ends) (unbuilt (is_built command) is_false) (λ commands asks. asks_none (is_built command) is_false asks.0)

-- no memory was there before the opening
pub unopened_memory : {disk : Type 0} (p : Progress) (o : World) → NothingNoted p → p.end ≡ OutOfMemory → OpensNone disk p o o
unopened_memory {disk} p o none e = record {
  nothing = none;
  ends = subst (EndsUnopened disk o.disk) (sym e) tt;
  cause = by_nothing (ap end_cause e) refl;
  reads = λ told. record { writes = made_none _ o.disk; looks = looks_from _ {places = []} tt (record { made = made_none _ o.disk; so = sym (append-nil _) }) };
  synced = λ told. inl refl;
  beside = refl;
}

-- ---- by the request

-- words that ask for nothing show no request, and so do words that weren't read
pub shows_none : {kept : Type 0} (reading : Reading) (fault : WordsFault) (request : Option Request) (p : Progress) → request ≡ None → p.end ≡ end_of_words fault → NothingNoted p → kept → (reading ≡ Refused fault) ⊎ (fault ≡ WordsMemory) → AsksFor reading request ⊎ (WordsUnread request p × kept)
shows_none reading fault request p shown ends nothing kept (inl is) = inl (subst (AsksFor reading) (sym shown) (subst (λ r. AsksFor r None) (sym is) tt))
shows_none reading fault request p shown ends nothing kept (inr is) = inr (record { ends = ends ∙ ap end_of_words is; shown = shown; nothing = nothing }, kept)

pub format_asks : {disk files sink : Type 0} (reading : Reading) (shape : Shape) (p : Progress) (before now : World) → AsksFor reading (Some (Format shape)) → ComesOfWords disk (Unit {0}) sink (ToFormat (sizes_of shape)) p before now → ComesOfWords disk files sink reading p before now
format_asks {disk} {files} {sink} (ToFormat sizes) shape p before now asks w =
    subst (λ s. ComesOfWords disk files sink (ToFormat s) p before now) asks (record { bytes = w.bytes; cause = w.cause; clocks = w.clocks; written = w.written; words = w.words; headline = λ told _. w.headline told tt })
format_asks _ shape p before now asks w = absurd asks

pub run_asks : {disk files sink : Type 0} (reading : Reading) (commands : Roomy Command) (p : Progress) (before now : World) → AsksFor reading (Some (Run commands)) →
    ((command : Command) → commands.items ≡ command ∷ [] → ComesOfWords disk files sink (ToRun command) p before now) → ComesOfWords disk files sink reading p before now
run_asks (ToRun command) commands p before now only works = works command only
run_asks _ commands p before now asks works = absurd asks

pub script_asks : {disk files sink : Type 0} (reading : Reading) (name : List ℕ) (p : Progress) (before now : World) → AsksFor reading (Some (Script name)) → ComesOfWords disk files sink (ToScript name) p before now → ComesOfWords disk files sink reading p before now
script_asks {disk} {files} {sink} (ToScript given) name p before now asks w = subst (λ n. ComesOfWords disk files sink (ToScript n) p before now) asks w
script_asks _ name p before now asks w = absurd asks

pub soak_asks : {disk files sink : Type 0} (reading : Reading) (seed count : ℕ) (p : Progress) (o : World) → AsksFor reading (Some (Soak seed count)) → NothingNoted p → p.end ≡ Unbuilt → ComesOfWords disk files sink reading p o o
soak_asks (ToSoak s n) seed count p o asks none e = at_once (ToSoak s n) p o none (ap end_cause e) (record { ends = e; nothing = none; untouched = refl }) (λ commands asks. asks)
soak_asks _ seed count p o asks none e = absurd asks

-- ---- refused

of_words : (fault : WordsFault) → end_cause (end_of_words fault) ≡ FromNothing
of_words BadWords = refl
of_words (BadNumber position) = refl
of_words BadName = refl
of_words (BadShape field) = refl
of_words WordsMemory = refl

pub ends_early : {disk files sink : Type 0} (reading : Reading) (fault : WordsFault) (p : Progress) (o : World) → p.end ≡ end_of_words fault → NothingNoted p → (reading ≡ Refused fault) ⊎ (fault ≡ WordsMemory) → ComesOfWords disk files sink reading p o o ⊎ EndsAtOnce OutOfMemory p o o
ends_early {disk} {files} {sink} reading fault p o ends none (inl is) =
    inl (subst (λ r. ComesOfWords disk files sink r p o o) (sym is)
    (at_once (Refused fault) p o none (ap end_cause ends ∙ of_words fault) (record { ends = ends; nothing = none; untouched = refl }) (λ commands asks. asks)))
ends_early reading fault p o ends none (inr memory) = inr (record { ends = ends ∙ ap end_of_words memory; nothing = none; untouched = refl })
