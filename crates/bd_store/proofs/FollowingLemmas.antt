-- A command that made the store ready meets its promise by what it does then.
use Rattle.std.proofs.Common.{◌↔◌, true, false, ◌≡◌, ◌≢◌, ◌∙◌, ℕ, Bool, List, refl, sym, ap, subst, Result, Ok, Err}
use Rattle.std.proofs.lemmas.Bool.{false_from_ne_true}
use Rattle.bd_files.specs.World.{World, with_disk}
use Rattle.bd_recipe.specs.Reading.{is_disk_fault_of_read}
use Rattle.bd_recipe.specs.declared.fault.ReadFault.{ReadFault}
use Rattle.bd_recipe.specs.declared.fault.ReadFault.TheVariants.{DiskFault as ReadDisk}
use Rattle.bd_disk.specs.Calls.{FailsByCount}
use Rattle.bd_disk.specs.History.{History, contents}
use Rattle.bd_disk.specs.Looks.{LooksOnlyAt}
use Rattle.bd_disk.specs.Made.{IsSettled, WritesNothing}
use Rattle.bd_disk.specs.Runs.{Works}
use Rattle.bd_disk.specs.declared.disk.Disk.{Ghosts as DiskGhosts}
use Rattle.bd_disk.proofs.Frames.{made_both, still_settled, writes_wider, leaves_both, leaves_wider}
use Rattle.bd_disk.proofs.RunLemmas.{work_looked, work_written}
use Rattle.bd_model.specs.declared.answer.Answer.{Answer}
use Rattle.bd_model.specs.declared.command.Command.{Command}
use Rattle.bd_model.specs.declared.layout.RecipeEntry.{RecipeEntry}
use Rattle.bd_catalog.specs.Agreement.{Agrees}
use Rattle.bd_catalog.specs.Opening.{Found}
use Rattle.bd_model.specs.declared.layout.Phase.{Phase}
use Rattle.bd_model.specs.declared.layout.Phase.TheVariants.{Settled, Waiting}
use Rattle.bd_recipe.specs.Marked.{Marked}
use Rattle.bd_store.specs.Writes.{arranges}
use Rattle.bd_arrange.specs.Arranged.{IsSpared}
use Rattle.bd_store.specs.Attempts.{scene, Attempt, Meets, Scene, attempt, EndsFor, MayLook, NamesFor, TransfersByCommand, NewestEnds, ReadsByCommand, RestsBy, SparesTarget}
use Rattle.bd_store.specs.Deeds.{Deed, TakesIn, GivesBack, GivesUp, Settles, Checks, Tells, deed_of}
use Rattle.bd_store.specs.Following.{Follows, IsMadeReady, IsMadeReadyOn, MakesReady, ReadiesFor}
use Rattle.bd_store.specs.Naming.{NamesArranging}
use Rattle.bd_store.specs.Newest.{IsNewestRecipe}
use Rattle.bd_store.specs.Readying.{IsReady, Readies, ReadiesOn}
use Rattle.bd_store.specs.Shown.{Shown}
use Rattle.bd_store.specs.Steps.{KeepsFiles}
use Rattle.bd_store.specs.Taken.{Source, TakesStream}
use Rattle.bd_store.specs.Touches.{InArranging, ExpiryReads, IsByNumbers, is_waiting, waits}
use Rattle.bd_store.specs.declared.fault.StoreFault.{StoreFault}
use Rattle.bd_store.proofs.Behind.{answers_before, backup_reads, ready_settled, step_before, stops_before, then_no_looks, then_none, versions_before, writes_before}
use Rattle.bd_store.proofs.CommandEnds.{gone_on, went_on, rests_not, by_end, by_ready, not_both}
use Rattle.bd_store.proofs.Opens.{opens_behind, opens_ready}
use Rattle.bd_store.proofs.Taken.{counted_before, named_before, newest_same, taken_before, unnamed_so_far}

-- a store that waited is synced once it is arranged, and another as it was before
ready_rests : (found : Found) {h0 h1 : History} → (found.catalogue.phase ≡ Settled → WritesNothing h0 h1) → (found.catalogue.phase ≢ Settled → IsSettled h1) → (is_waiting found ≡ false → IsSettled h0) → IsSettled h1
ready_rests found {h0} {h1} quiet arranged rested = by found.catalogue.phase refl where
  by : (phase : Phase) → found.catalogue.phase ≡ phase → IsSettled h1
  by Settled at = still_settled (quiet at) (rested (ap waits at))
  by (Waiting cursor) at = arranged (λ settled. let no : Waiting cursor ≡ Settled = sym at ∙ settled in absurd (cc))

module _ (disk files : Type 0) (command : Command) (before : Scene) (mid : Found) (worn : Bool) (h1 : History) (after : Scene) (neighbour : Marked) (result : Result Answer StoreFault)
    (makes : MakesReady before.store.found command) (agrees : disk → Agrees before.store.found before.world.disk) where
  abbrev now : Scene
  now = gone_on before mid worn h1 before.world.counts.disk

  abbrev whole : Attempt
  whole = attempt command result before after

  module _ (ready : IsReady before.store now.store neighbour) (readied : disk → IsMadeReadyOn before now (Ok neighbour)) (follows : Follows disk files (attempt command result now after)) where
    reads : disk → ReadsByCommand whole command
    reads told = by_ready before.store.found (λ c. ReadsByCommand whole c) (record {
      backup = λ name not_full. backup_reads before.store.found before.world.disk after.world.disk result follows.ends (λ settled. then_none ((readied told).readies.answer.reads settled) (follows.on_disk told).reads);
      expiry = λ first. by_end (ExpiryReads before.store.found after.store.found before.world.disk after.world.disk) (record {
        named = λ version bytes chunks fresh need no. not_both first no;
        full = λ counted free held no. not_both first no;
        expired = λ version extents no. not_both first no;
        arranged = λ owned free no. not_both first no;
        source = λ no. not_both first no;
        disk = λ no. not_both first no;
        memory = λ no. not_both first no;
      }) result follows.ends;
      arranging = λ waiting settled. rests_not before.store.found waiting settled;
    }) command makes

    looked : disk → LooksOnlyAt (InArranging before.store.found) before.world.disk after.world.disk
    looked told = then_no_looks (readied told).looks (follows.on_disk told).reads

    looks : disk → (deed : Deed) → ReadiesFor before.store.found deed → LooksOnlyAt (MayLook before.store.found deed) before.world.disk after.world.disk
    looks told (TakesIn source) may = looked told
    looks told (GivesBack v target) may = absurd may
    looks told (GivesUp count) may = looked told
    looks told Settles may = looked told
    looks told Checks may = absurd may
    looks told Tells may = absurd may

    names : NamesArranging before.store.found before.world.disk after.world.disk result
    names = by_end (NamesArranging before.store.found before.world.disk after.world.disk) (record {
      named = λ version bytes chunks fresh need. tt;
      full = λ counted free held. tt;
      expired = λ version extents. tt;
      arranged = λ owned free. tt;
      source = tt;
      disk = tt;
      memory = tt;
    }) result follows.ends

    damage : (deed : Deed) → ReadiesFor before.store.found deed → NamesFor whole deed
    damage (TakesIn source) may = names
    damage (GivesBack v target) may = absurd may
    damage (GivesUp count) may = names
    damage Settles may = names
    damage Checks may = absurd may
    damage Tells may = absurd may

    -- the newest recipe was read
    newest : disk → NewestEnds whole
    newest told met some broken = let no : Err met ≡ Ok neighbour.entries = sym broken ∙ (readied told).readies.answer.found_before.some some in absurd (cc)

    recipe : disk → (deed : Deed) → ReadiesFor before.store.found deed → EndsFor whole deed
    recipe told (TakesIn source) may = newest told
    recipe told (GivesBack v target) may = absurd may
    recipe told (GivesUp count) may = λ first. newest told
    recipe told Settles may = λ waiting. newest told
    recipe told Checks may = absurd may
    recipe told Tells may = absurd may

    refuses_not : IsByNumbers result → ⊥
    refuses_not = by_end (λ e. IsByNumbers e → ⊥) (record {
      named = λ version bytes chunks fresh need is. is;
      full = λ counted free held is. is;
      expired = λ version extents is. is;
      arranged = λ owned free is. is;
      source = λ is. is;
      disk = λ is. is;
      memory = λ is. is;
    }) result follows.ends

    taken : disk → (old : List RecipeEntry) (stream : List ℕ) → IsNewestRecipe before.store.found (contents before.world.disk) old →
        TakesStream (record { found = mid; held = before.store.held; old = old; stream = stream }) after.store.found (contents after.world.disk) result →
        TakesStream (record { found = before.store.found; held = before.store.held; old = old; stream = stream }) after.store.found (contents after.world.disk) result
    taken told old stream newest_before =
        let of : Found → Source = λ f. record { found = f; held = before.store.held; old = old; stream = stream } in
        by_end (λ e. TakesStream (of mid) after.store.found (contents after.world.disk) e → TakesStream (of before.store.found) after.store.found (contents after.world.disk) e) (record {
          named = λ version bytes chunks fresh need is. taken_before before.store.found mid ready.settled before.store.held old stream is;
          full = λ counted free held is. counted_before before.store.found mid ready.settled before.store.held old stream is;
          expired = λ version extents is. tt;
          arranged = λ owned free is. tt;
          source = λ is. tt;
          disk = λ is. tt;
          memory = λ is. tt;
        }) result follows.ends

    transfers : disk → TransfersByCommand (attempt command result now after) command result → TransfersByCommand whole command result
    transfers told = by_ready before.store.found (λ c. TransfersByCommand (attempt command result now after) c result → TransfersByCommand whole c result) (record {
      backup = λ name not_full is. record {
        taken = λ old stream newest_before there.
            let same : neighbour.entries ≡ old = newest_same (readied told).readies.answer.found_before newest_before in
            taken told old stream newest_before (is.taken old stream (subst (IsNewestRecipe mid (contents h1)) same (readied told).readies.answer.recipe) there);
        stops = λ old stream newest_before there sure.
            let same : neighbour.entries ≡ old = newest_same (readied told).readies.answer.found_before newest_before in
            let safe = (readied told).readies.opens in
            let begun = opens_ready ready.settled.sizes (readied told).readies.agrees safe sure in
            leaves_both (leaves_wider _ (unnamed_so_far _) (safe sure)) (leaves_wider _ (named_before before.store.found mid ready.settled before.store.held old stream)
            (is.stops old stream (subst (IsNewestRecipe mid (contents h1)) same (readied told).readies.answer.recipe) there (record { each = λ image now. (begun.each image now).0 })));
        missing = is.missing;
      };
      expiry = λ first is. tt;
      arranging = λ waiting is. tt;
    }) command makes

    same_files : KeepsFiles command before.world.files after.world.files → after.world.files ≡ before.world.files
    same_files = by_ready before.store.found (λ c. KeepsFiles c before.world.files after.world.files → after.world.files ≡ before.world.files) (record {
      backup = λ name not_full keeps. keeps;
      expiry = λ first keeps. keeps;
      arranging = λ waiting keeps. keeps;
    }) command makes

    spares : SparesTarget disk now.world after.world result → SparesTarget disk before.world after.world result
    spares = by_end (λ e. SparesTarget disk now.world after.world e → SparesTarget disk before.world after.world e) (record {
      named = λ version bytes chunks fresh need is. tt;
      full = λ counted free held is. tt;
      expired = λ version extents is. tt;
      arranged = λ owned free is. tt;
      source = λ is. record { files = is.files; unfinished = is.unfinished };
      disk = λ is. tt;
      memory = λ is. record { files = is.files; unfinished = is.unfinished };
    }) result follows.ends

    rests : disk → RestsBy whole result
    rests told = by_end (λ e. RestsBy (attempt command result now after) e → RestsBy whole e) (record {
      named = λ version bytes chunks fresh need is. is;
      full = λ counted free held is. tt;
      expired = λ version extents is. is;
      arranged = λ owned free is rested. is (λ _. ready_rests before.store.found (readied told).readies.quiet (readied told).readies.answer.rests rested);
      source = λ is. tt;
      disk = λ is. tt;
      memory = λ is. tt;
    }) result follows.ends (follows.on_disk told).rests

    rested : arranges before.store.found command ≡ false → before.store.found.catalogue.phase ≡ Settled
    rested = ready_settled before.store.found (deed_of before.store.found command) makes

    ready_meets : Meets disk files whole
    ready_meets = record {
      common = record {
        bytes = follows.common.bytes;
        cause = follows.common.cause;
        worn = follows.common.worn;
        sizes = λ sound. follows.common.sizes sound ∙ ready.settled.sizes;
        agrees = follows.common.agrees;
        beyond = λ told. made_both (writes_wider _ (λ place is. is.beside.begins) (readied told).writes) (follows.common.beyond told);
      };
      answer = answers_before command before.store.found mid result makes ready.settled follows.ends follows.answer;
      store = record {
        held = follows.store.held;
        versions = versions_before command before.store now.store after.store makes ready.settled refl result follows.ends follows.answer follows.store.versions;
        settles = follows.store.settles;
        figures = follows.store.figures;
      };
      untouched = λ refused. absurd (refuses_not refused);
      on_disk = λ told. record {
        opens = opens_behind (agrees told) ready.settled.sizes (λ no. ready.same (rested no)) (λ no. (readied told).readies.quiet (rested no)) (readied told).readies.agrees (readied told).readies.opens (follows.on_disk told).writes (follows.on_disk told).opens;
        writes = writes_before before.store.held before.store.found mid after.store.found before.world.disk h1 after.world.disk command makes (follows.on_disk told).writes result follows.ends (follows.on_disk told).step ready.same (readied told).readies.quiet
            (readied told).readies.answer.arranged (readied told).readies.agrees (readied told).writes;
        reads = reads told;
        looks = looks told (deed_of before.store.found command) makes;
        damage = damage (deed_of before.store.found command) makes;
        recipe = recipe told (deed_of before.store.found command) makes;
        rests = rests told;
      };
      on_files = λ told. record {
        beside = (follows.on_files told).beside;
        strays = (follows.on_files told).strays;
        finished = (follows.on_files told).finished;
        unfinished = (follows.on_files told).unfinished;
        spares = spares (follows.on_files told).spares;
      };
      on_both = λ told files_tell. record {
        transfers = transfers told (follows.on_both told files_tell).transfers;
        step = step_before command before.store.held before.store.found mid before.world.disk h1 after.world.disk before.world.files after.world.files result neighbour makes follows.ends follows.answer (agrees told) (readied told).readies.states (follows.on_both told files_tell).step (same_files (follows.on_files files_tell).beside);
        stops = stops_before command before.store.held before.store.found mid before.world.disk h1 after.world.disk before.world.files after.world.files result neighbour makes follows.ends follows.answer (agrees told) (readied told).readies.states (follows.on_both told files_tell).stops;
      };
    }

-- what it does then is what it promises of the whole
pub followed : {disk files : Type 0} {command : Command} {before now after : Scene} {neighbour : Marked} {result : Result Answer StoreFault} → MakesReady before.store.found command → (disk → Agrees before.store.found before.world.disk) →
    IsMadeReady disk before now (Ok neighbour) → Follows disk files (attempt command result now after) → Meets disk files (attempt command result before after)
followed {disk} {files} {command} {before} {now} {after} {neighbour} {result} makes agrees is follows =
    let same : gone_on before now.store.found now.store.worn now.world.disk before.world.counts.disk ≡ now = ap (gone_on before now.store.found now.store.worn now.world.disk) (sym is.cause.cause) ∙ went_on is in
    ready_meets disk files command before now.store.found now.store.worn now.world.disk after neighbour result makes agrees
    (subst (λ (s : Scene). IsReady before.store s.store neighbour) (sym same) is.store)
    (λ told. subst (λ (s : Scene). IsMadeReadyOn before s (Ok neighbour)) (sym same) (is.told told))
    (subst (λ (s : Scene). Follows disk files (attempt command result s after)) (sym same) follows)

-- a store and its disk that were made ready, whatever files are beside them
pub made_ready : {D : Type 0} (d : DiskGhosts D) (w : World) (old new : Shown) (disk0 disk1 : D) (result : Result Marked ReadFault) → Works d (InArranging old.found) (IsSpared old.found) disk0 disk1 →
    FailsByCount is_disk_fault_of_read (d.faults disk0) (d.faults disk1) result → (new.worn ≡ true) ↔ (result ≡ Err ReadDisk) → new.held ≡ old.held → Readies old new result →
    (d.tells → ReadiesOn old.held old.found new.found (d.history disk0) (d.history disk1) result) → IsMadeReady d.tells (scene old (with_disk d w disk0)) (scene new (with_disk d w disk1)) result
made_ready d w old new disk0 disk1 result works cause worn held store told = record {
  beside = λ k. record w { disk_bytes = works.bytes k; disk = d.history disk1; counts = record w.counts { disk = d.faults disk1 } };
  cause = cause;
  worn = worn;
  held = held;
  store = store;
  told = λ tells. record { looks = work_looked works tells; writes = work_written works tells; readies = told tells };
}

-- a store that was made ready isn't worn
pub ready_sound : {T E : Type 0} {worn : Bool} {value : T} {fault : E} → (worn ≡ true) ↔ (◌≡◌ {A = Result T E} (Ok value) (Err fault)) → worn ≡ false
ready_sound {worn = worn} fails = false_from_ne_true worn (λ gone. let no = fails.0 gone in absurd (cc))
