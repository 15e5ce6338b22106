-- A store is made ready, at each of the ends of that: the newest recipe couldn't be read, the store was arranged, or not.
use Rattle.std.proofs.Common.{◌≡◌, ◌↔◌, ◌∙◌, ◌≤◌, ℕ, ◌+◌, ◌-◌, Bool, true, ◌&&◌, List, [], length, nat_le, nat_lt, slice_index_or, inl, inr, refl, sym, ap, subst, arith, Result, Ok, Err}
use Rattle.std.proofs.lemmas.Bool.{and_parts, leb-true}
use Rattle.std.specs.Prelude.{map, All, IsTrue}
use Rattle.bd_disk.specs.History.{History, contents}
use Rattle.bd_disk.specs.Made.{LeavesSince, WritesNothing}
use Rattle.bd_disk.specs.Runs.{Reads, Works}
use Rattle.bd_disk.specs.Trace.{ReadsOnly}
use Rattle.bd_disk.specs.declared.disk.Disk.{Ghosts as DiskGhosts}
use Rattle.bd_disk.proofs.Frames.{leaves_both, leaves_now, leaves_quiet, leaves_wider, unchanged}
use Rattle.bd_disk.proofs.RunLemmas.{nothing_written, reads_work, wider_reads, work_written}
use Rattle.bd_disk.proofs.Traces.{has_read_later}
use Rattle.bd_model.specs.Marks.{Near}
use Rattle.bd_model.specs.History.{newest}
use Rattle.bd_model.specs.Recipe.{recipe}
use Rattle.bd_model.specs.State.{VersionState, history}
use Rattle.bd_model.specs.declared.damage.Damage.{Damage}
use Rattle.bd_model.specs.declared.layout.Phase.{Phase}
use Rattle.bd_model.specs.declared.layout.Phase.TheVariants.{Settled, Waiting}
use Rattle.bd_model.specs.declared.layout.RecipeEntry.{RecipeEntry}
use Rattle.bd_model.specs.declared.shape.Shape.{Shape}
use Rattle.bd_catalog.specs.Agreement.{Agrees}
use Rattle.bd_roll.specs.Catalogue.{VersionEntry, retained_in}
use Rattle.bd_catalog.specs.Damages.{BreaksRule, IsSeen}
use Rattle.bd_catalog.specs.Opening.{Found}
use Rattle.bd_catalog.specs.Rows.{open_row}
use Rattle.bd_roll.specs.Rules.{obeys, phase_holds}
use Rattle.bd_catalog.specs.Sound.{length_holds}
use Rattle.bd_catalog.specs.Standing.{StandsFor}
use Rattle.bd_catalog.proofs.StandingLemmas.{stands-shows}
use Rattle.bd_catalog.proofs.StandingFound.{obeys-each}
use Rattle.bd_intake.specs.Given.{IsRecipeOrNone}
use Rattle.bd_recipe.specs.Marked.{Marked}
use Rattle.bd_recipe.specs.Reading.{IfDamaged, InRecipe, recipe_found}
use Rattle.bd_recipe.specs.declared.fault.ReadFault.{ReadFault}
use Rattle.bd_recipe.specs.declared.fault.ReadFault.TheVariants.{DiskFault, Damaged, OutOfMemory}
use Rattle.bd_restore.proofs.StandingRestore.{recipe_stands}
use Rattle.bd_volume.proofs.CopyLemmas.{wider_work}
use Rattle.bd_arrange.specs.Arranged.{AnswersDue, Arranges, ButDiskFault, InDue, IsAllotted, IsArrangedFrom, IsDamageOfDue, IsSettledFrom, IsSpared, KeepsStates}
use Rattle.bd_arrange.specs.Opens.{IsSafeOpening, OpensSoFar, OpensWith}
use Rattle.bd_arrange.specs.Turns.{due}
use Rattle.bd_arrange.proofs.Opens.{not_yet}
use Rattle.bd_space.specs.Allotment.{Allotment}
use Rattle.bd_store.specs.Kept.{IsKept}
use Rattle.bd_store.specs.Newest.{newest_places, AnswersNewest, IsNewestRecipe}
use Rattle.bd_store.specs.Readying.{AnswersReady, IsThatDamage, ReadiesOn}
use Rattle.bd_store.specs.Touches.{InArranging}
use Rattle.bd_store.proofs.CommandEnds.{not_both}
use Rattle.bd_store.proofs.RestoreStep.{agrees_quiet}
use Rattle.bd_store.proofs.RecipeStays.{newest_stays}

-- what it reads and writes, with the newest recipe and with what is due
pub reads_ready : {D : Type 0} {d : DiskGhosts D} (found : Found) {a b : D} → Reads d (InRecipe found.sizes found.catalogue found.catalogue.newest) a b → Works d (InArranging found) (IsSpared found) a b
reads_ready found read = reads_work (IsSpared found) (wider_reads (InArranging found) (λ place inside. record { so = inl (record { so = inside }) }) read)

pub due_ready : {D : Type 0} {d : DiskGhosts D} (found : Found) {a b : D} → Works d (InDue found) (IsSpared found) a b → Works d (InArranging found) (IsSpared found) a b
due_ready found works = wider_work (InArranging found) (IsSpared found) (λ place inside. record { so = inr inside }) (λ place inside. inside) works

module _ {D : Type 0} (d : DiskGhosts D) (found : Found) (held : ℕ) (disk0 disk1 : D) (agrees : d.tells → Agrees found (d.history disk0)) (read : Reads d (InRecipe found.sizes found.catalogue found.catalogue.newest) disk0 disk1) where
  abbrev h0 : History
  h0 = d.history disk0

  abbrev h1 : History
  h1 = d.history disk1

  abbrev newest_found : Result (List RecipeEntry) Damage
  newest_found = recipe_found found.sizes found.catalogue (contents h0) found.catalogue.newest

  quiet : d.tells → WritesNothing h0 h1
  quiet told = nothing_written read told

  pub agrees_behind : d.tells → Agrees found h1
  agrees_behind told = agrees_quiet found (quiet told) (agrees told)

  pub recipe_behind : {entries : List RecipeEntry} → d.tells → IsNewestRecipe found (contents h0) entries → IsNewestRecipe found (contents h1) entries
  recipe_behind {entries} told is = subst (λ image. IsNewestRecipe found image entries) (sym (unchanged (quiet told))) is

  stands_behind : d.tells → {shape : Shape} {st : VersionState} {phase : Phase} → StandsFor shape st phase held (contents h0) → StandsFor shape st phase held (contents h1)
  stands_behind told {shape} {st} {phase} stands = subst (StandsFor shape st phase held) (sym (unchanged (quiet told))) stands

  -- ---- the newest recipe couldn't be read

  no_damage : d.tells → (shape : Shape) (st : VersionState) (phase : Phase) → Near (history shape st) → StandsFor shape st phase held (contents h0) → (damage : Damage) → 1 ≤ retained_in found.catalogue → newest_found ≡ Err damage → ⊥
  no_damage told shape st phase near stands damage some broken =
      let h = history shape st in
      let shows = stands-shows stands (agrees told).opens in
      let stood : recipe_found found.sizes found.catalogue (contents h0) (newest h) ≡ Ok (recipe h (newest h)) =
      recipe_stands shape st phase held (contents h0) found stands (agrees told).opens near (newest h) (omega (arith, shows.numbers.retained, some)) (omega arith) in
      let no : Err damage ≡ Ok (recipe h (newest h)) = sym broken ∙ subst (λ n. recipe_found found.sizes found.catalogue (contents h0) n ≡ Ok (recipe h (newest h))) (sym shows.numbers.newest) stood in
      absurd (cc)

  unread_arranges : d.tells → (fault : ReadFault) → AnswersNewest found (contents h0) (Err fault) → (shape : Shape) (st : VersionState) (phase : Phase) → Near (history shape st) → StandsFor shape st phase held (contents h0) → Arranges {T = Marked} shape st phase held (contents h1) (Err fault)
  unread_arranges told DiskFault answers shape st phase near stands = record { phase = phase; so = stands_behind told stands }
  unread_arranges told (Damaged damage) answers shape st phase near stands = no_damage told shape st phase near stands damage answers.0 answers.1
  unread_arranges told OutOfMemory answers shape st phase near stands = stands_behind told stands

  unread_answers : d.tells → (fault : ReadFault) → AnswersNewest found (contents h0) (Err fault) → IfDamaged {T = Marked} (Err fault) (λ damage. d.tells → IsSeen found.sizes found.catalogue (contents h0) [] damage h0 h1) → AnswersReady held found found h0 h1 (Err fault)
  unread_answers told DiskFault answers seen = tt
  unread_answers told (Damaged damage) answers seen = inl (record { part = answers.1; seen = seen told })
  unread_answers told OutOfMemory answers seen = tt

  unread_that : (fault : ReadFault) → AnswersNewest found (contents h0) (Err fault) → (damage : Damage) → newest_found ≡ Err damage → IsThatDamage damage (Err fault)
  unread_that DiskFault answers damage broken = tt
  unread_that (Damaged met) answers damage broken = let same : Err met ≡ Err damage = sym answers.1 ∙ broken in cc
  unread_that OutOfMemory answers damage broken = tt

  agrees_but : (P : Type 0) (fault : ReadFault) → P → ButDiskFault {T = Marked} (Err fault) P
  agrees_but P DiskFault p = tt
  agrees_but P (Damaged damage) p = p
  agrees_but P OutOfMemory p = p

  pub unread_told : (fault : ReadFault) → (d.tells → AnswersNewest found (contents h0) (Err fault)) → IfDamaged {T = Marked} (Err fault) (λ damage. d.tells → IsSeen found.sizes found.catalogue (contents h0) [] damage h0 h1) →
      d.tells → ReadiesOn held found found h0 h1 (Err fault)
  unread_told fault answers seen told = record {
    answer = unread_answers told fault (answers told) seen;
    quiet = λ _. quiet told;
    agrees = agrees_but (Agrees found h1) fault (agrees_behind told);
    damage = λ damage some broken. unread_that fault (answers told) damage broken;
    states = record {
      contents = record { each = λ shape st phase near stands. unread_arranges told fault (answers told) shape st phase near stands };
      stops = record { each = λ shape st near sure. leaves_quiet (quiet told) sure };
    };
    opens = λ sure. leaves_wider (OpensSoFar held found (contents h0)) not_yet (leaves_quiet (quiet told) sure);
  }

  -- ---- it was read

  module _ (neighbour : Marked) (is : d.tells → IsNewestRecipe found (contents h0) neighbour.entries) (disk2 : D) (mid : Found) where
    abbrev h2 : History
    h2 = d.history disk2

    was_good : d.tells → {P : Type 0} (damage : Damage) → 1 ≤ retained_in found.catalogue → newest_found ≡ Err damage → P
    was_good told damage some broken = let no : Err damage ≡ Ok neighbour.entries = sym broken ∙ (is told).some some in absurd (cc)

    opens_behind_read : d.tells → IsSafeOpening held found h1 h2 → IsSafeOpening held found h0 h2
    opens_behind_read told opens sure =
        let first : LeavesSince (OpensWith found) h0 h1 = leaves_quiet (quiet told) sure in
        leaves_both (leaves_wider (OpensSoFar held found (contents h0)) not_yet first) (subst (λ image. LeavesSince (OpensSoFar held found image) h1 h2) (unchanged (quiet told)) (opens (leaves_now first)))

    -- the store was arranged
    module _ (works : Works d (InDue found) (IsSpared found) disk1 disk2) where
      pub arranged_told : 1 ≤ found.sizes.extent → (d.tells → ReadsOnly (newest_places found) h0 h1) → (found.catalogue.phase ≡ Settled → disk2 ≡ disk1) → IsSettledFrom found mid → (d.tells → Agrees mid h2) →
          (d.tells → AnswersDue held found mid h1 h2 (Ok tt)) → (d.tells → KeepsStates {T = Unit {0}} held h1 h2 (Ok tt)) → (d.tells → IsSafeOpening held found h1 h2) → d.tells → ReadiesOn held found mid h0 h2 (Ok neighbour)
      arranged_told some places still same agree answers states opens told = record {
        answer = record {
          recipe = newest_stays found mid neighbour.entries some (agrees_behind told) (work_written works told) same (recipe_behind told (is told));
          found_before = is told;
          arranged = λ waits. subst (λ image. IsArrangedFrom held found mid image (contents h2)) (unchanged (quiet told)) (answers told waits).0;
          rests = λ waits. (answers told waits).1;
          reads = λ settled. subst (λ disk. ReadsOnly (newest_places found) h0 (d.history disk)) (sym (still settled)) (places told);
        };
        quiet = λ settled. subst (λ disk. WritesNothing h0 (d.history disk)) (sym (still settled)) (quiet told);
        agrees = agree told;
        damage = λ damage some broken. was_good told damage some broken;
        states = record {
          contents = record { each = λ shape st phase near stands. (states told).contents.each shape st phase near (stands_behind told stands) };
          stops = record { each = λ shape st near sure. let first = leaves_quiet (quiet told) sure in leaves_both first ((states told).stops.each shape st near (leaves_now first)) };
        };
        opens = opens_behind_read told (opens told);
      }

    -- it wasn't
    due_answers : d.tells → (fault : ReadFault) → AnswersDue held found mid h1 h2 (Err fault) → AnswersReady held found mid h0 h2 (Err fault)
    due_answers told DiskFault answers = tt
    due_answers told (Damaged damage) answers =
        let there : IsDamageOfDue found damage h1 h2 = answers in
        inr (record {
          part = there.part;
          seen = record {
            places = there.seen.places;
            read = has_read_later there.seen.places (quiet told) there.seen.read;
            breaks = subst (λ image. BreaksRule found.sizes found.catalogue image (map open_row (due found.catalogue)) damage there.seen.places) (unchanged (quiet told)) there.seen.breaks;
          };
        })
    due_answers told OutOfMemory answers = tt

    agrees_due : (fault : ReadFault) (P : Type 0) → ButDiskFault {T = Unit {0}} (Err fault) P → ButDiskFault {T = Marked} (Err fault) P
    agrees_due DiskFault P p = tt
    agrees_due (Damaged damage) P p = p
    agrees_due OutOfMemory P p = p

    that_due : d.tells → (fault : ReadFault) (damage : Damage) → 1 ≤ retained_in found.catalogue → newest_found ≡ Err damage → IsThatDamage damage (Err fault)
    that_due told fault damage some broken = was_good told damage some broken

    due_arranges : (fault : ReadFault) (shape : Shape) (st : VersionState) (phase : Phase) → Arranges {T = Unit {0}} shape st phase held (contents h2) (Err fault) → Arranges {T = Marked} shape st phase held (contents h2) (Err fault)
    due_arranges DiskFault shape st phase so = so
    due_arranges (Damaged damage) shape st phase so = so
    due_arranges OutOfMemory shape st phase so = so

    pub unarranged_told : (fault : ReadFault) → (found.catalogue.phase ≡ Settled → disk2 ≡ disk1) → (d.tells → ButDiskFault {T = Unit {0}} (Err fault) (Agrees mid h2)) → (d.tells → AnswersDue held found mid h1 h2 (Err fault)) →
        (d.tells → KeepsStates {T = Unit {0}} held h1 h2 (Err fault)) → (d.tells → IsSafeOpening held found h1 h2) → d.tells → ReadiesOn held found mid h0 h2 (Err fault)
    unarranged_told fault still agree answers states opens told = record {
      answer = due_answers told fault (answers told);
      quiet = λ settled. subst (λ disk. WritesNothing h0 (d.history disk)) (sym (still settled)) (quiet told);
      agrees = agrees_due fault (Agrees mid h2) (agree told);
      damage = λ damage some broken. that_due told fault damage some broken;
      states = record {
        contents = record { each = λ shape st phase near stands. due_arranges fault shape st phase ((states told).contents.each shape st phase near (stands_behind told stands)) };
        stops = record { each = λ shape st near sure. let first = leaves_quiet (quiet told) sure in leaves_both first ((states told).stops.each shape st near (leaves_now first)) };
      };
      opens = opens_behind_read told (opens told);
    }

-- ---- what the store in memory keeps

-- a recipe as the same versions may have it
pub recipe_as_before : (old new : Found) {entries : List RecipeEntry} → IsSettledFrom old new → IsRecipeOrNone old.sizes old.catalogue entries → IsRecipeOrNone new.sizes new.catalogue entries
recipe_as_before old new {entries} is recipe = record {
  none = λ none. recipe.none (ap length (sym is.versions) ∙ none);
  newest = λ any.
      let before = recipe.newest (subst (λ vs. 1 ≤ length vs) is.versions any) in
      record {
        count = before.count ∙ (λ k. slice_index_or (map (λ (e : VersionEntry). e.chunks) (sym is.versions k)) (sym is.newest k - (sym is.newest k + 1 - length (sym is.versions k))) 0);
        each = subst (λ (Holds : RecipeEntry → Type 0). All Holds entries) (λ k e. IsTrue (length_holds (sym is.sizes k) e.length && nat_lt (sym is.base k) e.start && nat_le e.start (sym is.newest k))) before.each;
        sum = before.sum ∙ (λ k. slice_index_or (map (λ (e : VersionEntry). e.length) (sym is.versions k)) (sym is.newest k - (sym is.newest k + 1 - length (sym is.versions k))) 0);
      };
}

-- where a refused arranging leaves the store sound, it keeps what it kept
pub kept_refused : (found : Found) (space : Allotment) (fault : ReadFault) (worn : Bool) → (worn ≡ true) ↔ (fault ≡ DiskFault) → ButDiskFault {T = Unit {0}} (Err fault) (IsAllotted found space) → IsKept found space worn
kept_refused found space DiskFault worn is left = record { count = λ sound. not_both (is.1 refl) sound; owners = λ sound. not_both (is.1 refl) sound }
kept_refused found space (Damaged damage) worn is left = record { count = λ sound. left.count; owners = λ sound. left.owners }
kept_refused found space OutOfMemory worn is left = record { count = λ sound. left.count; owners = λ sound. left.owners }

-- a store that waits has two versions
pub waits_with_two : (found : Found) → IsTrue (obeys found.sizes found.catalogue) → (found.catalogue.phase ≡ Settled → ⊥) → 2 ≤ retained_in found.catalogue
waits_with_two found rules waiting = by found.catalogue.phase refl (obeys-each found.sizes found.catalogue rules).phase where
  by : (phase : Phase) → found.catalogue.phase ≡ phase → IsTrue (phase_holds found.catalogue phase) → 2 ≤ retained_in found.catalogue
  by Settled at holds = absurd (waiting at)
  by (Waiting cursor) at holds = leb-true 2 (retained_in found.catalogue) (and_parts (nat_le 2 (retained_in found.catalogue)) (nat_lt found.catalogue.base cursor) (and_parts (nat_le 2 (retained_in found.catalogue) && nat_lt found.catalogue.base cursor) (nat_le cursor found.catalogue.newest) holds).0).0
