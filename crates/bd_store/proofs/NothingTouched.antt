-- What a command that touched nothing meets.
use Rattle.std.proofs.Common.{◌≡◌, ℕ, List, Option, Some, None, false, true, inl, refl, sym, ◌∙◌, subst, arith, Result, Ok, Err}
use Rattle.bd_disk.specs.History.{History}
use Rattle.bd_disk.proofs.Frames.{made_none}
use Rattle.bd_files.specs.World.{World}
use Rattle.bd_files.proofs.FileLemmas.{unfinishes_none}
use Rattle.bd_model.specs.FileMap.{FileMap}
use Rattle.bd_model.specs.declared.answer.Answer.{Answer}
use Rattle.bd_model.specs.declared.command.Command.{Command}
use Rattle.bd_catalog.specs.Agreement.{Agrees}
use Rattle.bd_catalog.specs.Opening.{Found}
use Rattle.bd_store.specs.Attempts.{Scene, Attempt, attempt, DamageByCommand, FinishesByCommand, TransfersByCommand, IsAnswerOf, KeepsVersions, Meets, MeetsCommon, ReadsByCommand, RecipeByCommand, RestsBy, SettlesBy, TellsFigures, WhereRestored, SparesTarget, TouchesNoFile, UnfinishesBut}
use Rattle.bd_store.specs.Causes.{ByCount}
use Rattle.bd_store.specs.Deeds.{deed_of, target_of}
use Rattle.bd_store.specs.Shown.{Shown, SameVersions}
use Rattle.bd_store.specs.Steps.{IsOneStep, KeepsBut}
use Rattle.bd_store.specs.Stops.{IsSafeAtStops}
use Rattle.bd_store.specs.Writes.{StepsTo, WritesArranging, arranges}
use Rattle.bd_store.specs.declared.fault.StoreFault.{StoreFault}
use Rattle.bd_store.specs.declared.fault.StoreFault.TheVariants.{Damaged, DiskFault, OutOfMemory, SourceFault, TargetFault}
use Rattle.bd_store.proofs.Behind.{quiet_writing}
use Rattle.bd_store.proofs.Opens.{opens_quiet, opens_unarranged}

-- the same store has the same versions
pub same_versions : (s : Shown) → SameVersions s s
same_versions s = record { sizes = refl; base = refl; newest = refl; versions = refl; held = refl }

pub files_stay : (target : Option (List ℕ)) (files : FileMap) → KeepsBut target files files
files_stay None files = refl
files_stay (Some target) files = record { others = λ other differ. refl }

pub unfinished_stay : (target : Option (List ℕ)) (names : List (List ℕ)) → UnfinishesBut target names names
unfinished_stay None names = refl
unfinished_stay (Some target) names = unfinishes_none target names

-- after a fault nothing was given back
pub given_nothing : (P : Type 0) (fault : StoreFault) → WhereRestored (Err fault) P
given_nothing P SourceFault = tt
given_nothing P TargetFault = tt
given_nothing P DiskFault = tt
given_nothing P (Damaged damage) = tt
given_nothing P OutOfMemory = tt

-- after a fault nothing is said of what is synced
pub rests_failed : (a : Attempt) (fault : StoreFault) → RestsBy a (Err fault)
rests_failed a SourceFault = tt
rests_failed a TargetFault = tt
rests_failed a DiskFault = tt
rests_failed a (Damaged damage) = tt
rests_failed a OutOfMemory = tt

-- where no file was touched, no target was
pub spared : (disk : Type 0) (before now : World) (result : Result Answer StoreFault) → TouchesNoFile before now → SparesTarget disk before now result
spared disk before now (Ok answer) same = tt
spared disk before now (Err SourceFault) same = same
spared disk before now (Err TargetFault) same = tt
spared disk before now (Err DiskFault) same = tt
spared disk before now (Err (Damaged damage)) same = λ told recipe. same
spared disk before now (Err OutOfMemory) same = same

-- what memory wasn't there for is no step
pub memory_step : (command : Command) (held : ℕ) (h : History) (files : FileMap) → IsOneStep command held held h h files files (Err OutOfMemory)
memory_step command held h files = record { each = λ shape st phase near stands. record { stands = record { phase = phase; so = stands }; beside = files_stay (target_of command) files } }

-- the disk didn't fail
abbrev pub HasDisk : Result Answer StoreFault → Type 0
HasDisk (Ok answer) = Unit {0}
HasDisk (Err DiskFault) = ⊥
HasDisk (Err fault) = Unit {0}

-- a store in memory, by its parts
pub shown_is : (found : Found) (held : ℕ) (s : Shown) → found ≡ s.found → held ≡ s.held → s.worn ≡ false → record { found = found; held = held; worn = false } ≡ s
shown_is found held s same_found same_held sound = λ k. record { found = same_found k; held = same_held k; worn = sym sound k }

-- a call that touched nothing
pub common_untouched : {disk : Type 0} (result : Result Answer StoreFault) (s : Scene) → s.store.worn ≡ false → (disk → Agrees s.store.found s.world.disk) → ByCount result s.world.counts s.world.counts → HasDisk result → MeetsCommon disk result s s
common_untouched result s sound agrees cause has_disk = record {
  bytes = refl;
  cause = record { later = record { disk = omega arith; sources = omega arith; targets = omega arith; sink = omega arith }; cause = cause };
  worn = (λ worn. let no : true ≡ false = sym worn ∙ sound in cc, λ failed. absurd (subst HasDisk failed has_disk));
  sizes = λ _. refl;
  agrees = λ told _. agrees told;
  beyond = λ told. made_none _ s.world.disk;
}

module _ (command : Command) (result : Result Answer StoreFault) (s : Scene) where
  abbrev still : Attempt
  still = attempt command result s s

  -- what an answer says of its command alone
  pub record IsAnswered : Type 0 where
    pub cause : ByCount result s.world.counts s.world.counts
    pub has_disk : HasDisk result
    pub answer : IsAnswerOf s.store.found command result
    pub versions : KeepsVersions s.store s.store result
    pub settles : SettlesBy s.store result
    pub figures : TellsFigures s.store result
    pub reads : ReadsByCommand still command
    pub damage : DamageByCommand still command
    pub recipe : RecipeByCommand still command
    pub rests : RestsBy still result
    pub step : StepsTo s.store.found.catalogue s.store.found.catalogue result
    pub arranging : arranges s.store.found command ≡ true → WritesArranging s.store.held s.store.found s.store.found command s.world.disk s.world.disk result
    pub finished : FinishesByCommand command result s.world.unfinished
    pub transfers : TransfersByCommand still command result

  pub meets_untouched : {disk files : Type 0} → s.store.worn ≡ false → (disk → Agrees s.store.found s.world.disk) → IsAnswered →
      (disk → files → IsOneStep command s.store.held s.store.held s.world.disk s.world.disk s.world.files s.world.files result) →
      (disk → files → IsSafeAtStops command s.store.held s.store.held s.world.disk s.world.disk s.world.files result) → Meets disk files still
  meets_untouched {disk} {files} sound agrees is step stops = record {
    common = common_untouched result s sound agrees is.cause is.has_disk;
    answer = is.answer;
    store = record { held = refl; versions = is.versions; settles = is.settles; figures = is.figures };
    untouched = λ _. refl;
    on_disk = λ told. record {
      opens = opens_unarranged (opens_quiet (made_none _ s.world.disk));
      writes = record { ready = λ _. quiet_writing (deed_of s.store.found command) s.store.found (made_none _ s.world.disk); step = λ _. is.step; arranging = is.arranging };
      reads = is.reads;
      looks = made_none _ s.world.disk;
      damage = is.damage;
      recipe = is.recipe;
      rests = is.rests;
    };
    on_files = λ told. record {
      beside = files_stay (target_of command) s.world.files;
      strays = record { later = omega arith; missing = inl refl };
      finished = is.finished;
      unfinished = unfinished_stay (target_of command) s.world.unfinished;
      spares = spared disk s.world s.world result (record { files = refl; unfinished = refl });
    };
    on_both = λ told files_tell. record { transfers = is.transfers; step = step told files_tell; stops = stops told files_tell };
  }

-- what is met of a command is met of the same one under another name
pub meets_as : {disk files : Type 0} {command same : Command} {result : Result Answer StoreFault} {before after : Scene} → command ≡ same → Meets disk files (attempt same result before after) → Meets disk files (attempt command result before after)
meets_as {disk} {files} {command} {same} {result} {before} {after} is = subst (λ (c : Command). Meets disk files (attempt c result before after)) (sym is)

-- what is met whether or not the files tell
pub meets_told : {disk : Type 0} (files : Type 0) {a : Attempt} → Meets disk (Unit {0}) a → Meets disk files a
meets_told files meets = record {
  common = meets.common;
  answer = meets.answer;
  store = meets.store;
  untouched = meets.untouched;
  on_disk = meets.on_disk;
  on_files = λ told. meets.on_files tt;
  on_both = λ told files_tell. meets.on_both told tt;
}
