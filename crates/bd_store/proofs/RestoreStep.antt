-- A restore of a retained version, over any state for which the contents stand. It writes nothing on the disk.
use Rattle.std.proofs.Common.{◌≡◌, ◌≤◌, inl, ℕ, Bool, true, false, cond, List, [], ◌++◌, length, refl, sym, ◌∙◌, ap, subst, arith, append_assoc, Option, Some, None, Ok, Err, eqb}
use Rattle.std.specs.FinMap as map
use Rattle.std.specs.List.{list_all}
use Rattle.bd_disk.specs.History.{History, contents}
use Rattle.bd_disk.specs.Made.{IsSure, WritesNothing}
use Rattle.bd_disk.specs.Trace.{ReadsOnly, reads as reads_of}
use Rattle.bd_disk.proofs.Frames.{contents_now, leaves_quiet, leaves_wider, still_now, unchanged}
use Rattle.bd_disk.proofs.Traces.{reads_both}
use Rattle.bd_gate.specs.Halves.{InHalves}
use Rattle.bd_model.specs.FileMap.{FileMap}
use Rattle.bd_model.specs.declared.shape.Shape.{Shape}
use Rattle.bd_model.specs.declared.damage.Damage.{Damage}
use Rattle.bd_model.specs.declared.damage.Damage.TheVariants.{Entry, Sum, Header, Row, Body, Length, Missing}
use Rattle.bd_model.specs.declared.layout.Phase.{Phase}
use Rattle.bd_model.specs.declared.layout.RecipeEntry.{RecipeEntry}
use Rattle.bd_model.specs.declared.answer.Answer.TheVariants.{Restored}
use Rattle.bd_model.specs.declared.command.Command.TheVariants.{Restore}
use Rattle.bd_model.specs.History.{newest, oldest}
use Rattle.bd_model.specs.Marks.{Near}
use Rattle.bd_model.specs.Recipe.{recipe}
use Rattle.bd_model.specs.Sizes.{Sizes}
use Rattle.bd_model.specs.State.{VersionState, history, stream_of}
use Rattle.bd_model.specs.Step.{restore}
use Rattle.bd_catalog.specs.Agreement.{Agrees}
use Rattle.bd_roll.specs.Catalogue.{Catalogue, oldest_in}
use Rattle.bd_catalog.specs.Damages.{BreaksRule, IsOfVersion, IsSeen}
use Rattle.bd_catalog.specs.Opening.{Found, opened}
use Rattle.bd_catalog.specs.Rows.{RowPlace, spots_in, walk}
use Rattle.bd_catalog.specs.Sound.{content, entry_holds, is_stored, part_holds, parts_for, recipe_of, records_for}
use Rattle.bd_catalog.specs.Standing.{HasNumbers, StandsFor, Stands}
use Rattle.bd_catalog.specs.Walks.{restore_reads, IsLean}
use Rattle.bd_catalog.proofs.StandingLemmas.{stands-shows}
use Rattle.bd_recipe.specs.Entries.{first_bad}
use Rattle.bd_recipe.specs.Reading.{recipe_found, recipe_places, total, with_sum, length_in, IfDamaged}
use Rattle.bd_recipe.specs.declared.fault.ReadFault.{ReadFault}
use Rattle.bd_recipe.specs.declared.fault.ReadFault.TheVariants.{DiskFault as ReadDisk, Damaged as ReadDamaged, OutOfMemory as ReadMemory}
use Rattle.bd_recipe.proofs.Entries.{first_bad-is}
use Rattle.bd_recipe.proofs.HeldRecipe.{found-of_version, holds-found}
use Rattle.bd_restore.specs.Faults.{IfDamageMet as IfMet}
use Rattle.bd_restore.specs.Met.{ComesTo, IsNeeded, IsSeenAfter, IsWholeVersion}
use Rattle.bd_restore.specs.Restored.{IsMetBy}
use Rattle.bd_restore.specs.Plan.{AnswersPlan, Planned}
use Rattle.bd_restore.specs.Walk.{joined, walk_reads}
use Rattle.bd_restore.specs.declared.fault.RestoreFault.{RestoreFault}
use Rattle.bd_restore.specs.declared.fault.RestoreFault.TheVariants.{TargetFault, DiskFault, Damaged, OutOfMemory}
use Rattle.bd_files.specs.Files.{ChangesOnly}
use Rattle.bd_store.specs.Naming.{fault_of_reading, fault_of_restore, sought, IsDamageOf, NamesDamage}
use Rattle.bd_store.specs.Steps.{task, IsOneStep, LeadsTo, MakesStep}
use Rattle.bd_store.specs.Stops.{IsSafeAtStops}
use Rattle.bd_store.specs.Touches.{ReadsOnce, WalksTo}
use Rattle.bd_store.proofs.AskedVersion.{restore_step, same_oldest}
use Rattle.bd_restore.proofs.StandingRestore.{content_stands, lean_stands, length_stands, reads_stand, recipe_stands, whole_stands}

-- where nothing is written the catalogue agrees with the disk as before
pub agrees_quiet : (found : Found) {h0 h1 : History} → WritesNothing h0 h1 → Agrees found h0 → Agrees found h1
agrees_quiet found {h0} {h1} quiet agrees =
    let same : contents h1 ≡ contents h0 = unchanged quiet in
    record { opens = ap opened same ∙ agrees.opens; sure = subst (λ image. IsSure (InHalves found.sizes) image h1) (sym same) (still_now quiet agrees.sure) }

-- ---- damage

-- the damage that a reading finds is one of an entry, or of the sum
of_reading : (s : Sizes) (c : Catalogue) (image : List ℕ) (v : ℕ) (P : Damage → Type 0) → ((u index said start : ℕ) → P (Entry u index said start)) → ((u recorded sum : ℕ) → P (Sum u recorded sum)) →
    (damage : Damage) → recipe_found s c image v ≡ Err damage → P damage
of_reading s c image v P entry sum damage = by_bad (recipe_of s c image v) (first_bad (entry_holds s c v) v 0 (recipe_of s c image v)) refl where
  by_sum : (entries : List RecipeEntry) (b : Bool) → cond b (Ok entries) (Err (Sum v (length_in c v) (total entries))) ≡ Err damage → P damage
  by_sum entries true is = let no : ⊥ = cc in absurd no
  by_sum entries false is = let same : Sum v (length_in c v) (total entries) ≡ damage = cc in subst P same (sum v (length_in c v) (total entries))

  by_bad : (entries : List RecipeEntry) (bad : Option Damage) → first_bad (entry_holds s c v) v 0 entries ≡ bad → with_sum v (length_in c v) entries bad ≡ Err damage → P damage
  by_bad entries None e is = by_sum entries (eqb (total entries) (length_in c v)) is
  by_bad entries (Some found) e is =
      let bad = first_bad-is (entry_holds s c v) v 0 entries found e in
      let same : found ≡ damage = cc in
      subst P (sym bad.so ∙ same) (entry _ _ _ _)

-- what is in no row is so whichever the rows are
in_rows : (s : Sizes) (c : Catalogue) (image : List ℕ) (rows : List RowPlace) (damage : Damage) (places : List ℕ) → BreaksRule s c image [] damage places → BreaksRule s c image rows damage places
in_rows s c image rows (Entry v index said start) places breaks = breaks
in_rows s c image rows (Sum v recorded found) places breaks = breaks
in_rows s c image rows (Header who at said left) places breaks = let none : ⊥ = omega (arith, breaks.2.is_row.1) in absurd none
in_rows s c image rows (Row who start recorded found) places breaks = let none : ⊥ = omega (arith, breaks.1.1) in absurd none
in_rows s c image rows (Body who at recorded found) places breaks = let none : ⊥ = omega (arith, breaks.2.is_row.1) in absurd none
in_rows s c image rows (Length v m recorded found) places breaks = breaks
in_rows s c image rows (Missing v index m) places breaks = breaks

module _ (found : Found) (v : ℕ) (h0 h1 : History) {Tells : Type 0} (told : Tells) where
  -- a damage of the recipe
  pub reading_names : (fault : ReadFault) → AnswersPlan (recipe_found found.sizes found.catalogue (contents h0) v) (Err fault) →
      IfDamaged {T = Planned} (Err fault) (λ damage. Tells → IsSeen found.sizes found.catalogue (contents h0) [] damage h0 h1) → NamesDamage found v h0 h1 (Err (fault_of_reading fault))
  reading_names ReadDisk answers seen = tt
  reading_names ReadMemory answers seen = tt
  reading_names (ReadDamaged damage) answers seen = record {
    part = found-of_version found.sizes found.catalogue v (contents h0) damage answers;
    needed = of_reading found.sizes found.catalogue (contents h0) v (IsNeeded (recipe_of found.sizes found.catalogue (contents h0) v)) (λ u index said start. tt) (λ u recorded sum. tt) damage answers;
    seen = record { places = (seen told).places; read = (seen told).read; breaks = in_rows found.sizes found.catalogue (contents h0) (walk found.catalogue v) damage (seen told).places (seen told).breaks };
    comes = of_reading found.sizes found.catalogue (contents h0) v (λ met. ComesTo (sought found (contents h0) v) (contents h0) (walk found.catalogue v) met (seen told).places) (λ u index said start. tt) (λ u recorded sum. tt) damage answers;
  }

  -- a damage on the walk
  module _ (plan : Planned) (is : recipe_found found.sizes found.catalogue (contents h0) v ≡ Ok plan.entries) (same : plan.version ≡ v) (quiet : WritesNothing h0 h1) (reads : ReadsOnly (recipe_places found.sizes found.catalogue v) h0 h1) where
    are_entries : plan.entries ≡ recipe_of found.sizes found.catalogue (contents h0) v
    are_entries = (holds-found found.sizes found.catalogue v (contents h0) plan.entries is).same

    at_start : (P : List ℕ → ℕ → Type 0) → P (contents h1) plan.version → P (contents h0) v
    at_start P there = subst (λ image. P image v) (unchanged quiet) (subst (P (contents h1)) same there)

    still_entries : plan.entries ≡ recipe_of found.sizes found.catalogue (contents h1) plan.version
    still_entries = are_entries ∙ ap (λ image. recipe_of found.sizes found.catalogue image v) (sym (unchanged quiet)) ∙ ap (recipe_of found.sizes found.catalogue (contents h1)) (sym same)

    met_names : (damage : Damage) (h2 : History) → IsMetBy found plan damage h1 h2 → IsDamageOf found v damage h0 h2
    met_names damage h2 met =
        let recipe = recipe_places found.sizes found.catalogue plan.version in
        let seen : IsSeenAfter found.sizes found.catalogue (contents h1) plan.version damage h1 h2 = met.seen still_entries in
        record {
          part = subst (λ m. IsOfVersion m damage) same met.part;
          needed = subst (λ es. IsNeeded es damage) are_entries met.needed;
          seen = record {
            places = seen.places;
            read = record {
              more = recipe ++ seen.more;
              so =
                  seen.so ∙ ap (λ l. l ++ seen.more) (reads.so ∙ ap (λ m. reads_of h0 ++ recipe_places found.sizes found.catalogue m) (sym same))
                  ∙ append_assoc (reads_of h0) recipe seen.more;
              all = seen.read;
            };
            breaks = at_start (λ image m. BreaksRule found.sizes found.catalogue image (walk found.catalogue m) damage seen.places) seen.breaks;
          };
          comes = at_start (λ image m. ComesTo (sought found image m) image (walk found.catalogue m) damage seen.places) seen.comes;
        }

    pub walk_names : (h2 : History) (fault : RestoreFault) → IfMet {T = ℕ} (Err fault) (λ damage. Tells → IsMetBy found plan damage h1 h2) → NamesDamage found v h0 h2 (Err (fault_of_restore fault))
    walk_names h2 TargetFault met = tt
    walk_names h2 DiskFault met = tt
    walk_names h2 OutOfMemory met = tt
    walk_names h2 (Damaged damage) met = met_names damage h2 (met told)

-- ---- the step

module _ (found : Found) (v : ℕ) (h0 : History) (agrees : Agrees found h0) (from : oldest_in found.catalogue ≤ v) (to : v ≤ found.catalogue.newest) where
  abbrev s : Sizes
  s = found.sizes

  abbrev c : Catalogue
  c = found.catalogue

  -- what is known of a state for which the contents stand
  module _ (shape : Shape) (st : VersionState) (phase : Phase) (held : ℕ) (stands : StandsFor shape st phase held (contents h0)) where
    numbers : HasNumbers (history shape st) c
    numbers = (stands-shows stands agrees.opens).numbers

    low : oldest (history shape st) ≤ v
    low = omega (arith, same_oldest (history shape st) c numbers (omega (arith, from, to)), from)

    high : v ≤ newest (history shape st)
    high = omega (arith, numbers.newest, to)

    leads : (files : FileMap) (name : List ℕ) → LeadsTo (task shape held st files (Restore v name)) (restore st files v name)
    leads files name = restore_step shape held st files v name (omega (arith, numbers.retained, from, to)) low high

    module _ (near : Near (history shape st)) where
      found_recipe : recipe_found s c (contents h0) v ≡ Ok (recipe (history shape st) v)
      found_recipe = recipe_stands shape st phase held (contents h0) found stands agrees.opens near v low high

      the_recipe : (entries : List RecipeEntry) → recipe_found s c (contents h0) v ≡ Ok entries → entries ≡ recipe (history shape st) v
      the_recipe entries is = let same : Ok entries ≡ Ok (recipe (history shape st) v) = sym is ∙ found_recipe in cc

      no_damage : (damage : Damage) → recipe_found s c (contents h0) v ≡ Err damage → ⊥
      no_damage damage is = let same : Err damage ≡ Ok (recipe (history shape st) v) = sym is ∙ found_recipe in absurd (cc)

      is_whole : (entries : List RecipeEntry) → recipe_found s c (contents h0) v ≡ Ok entries → IsWholeVersion s c (contents h0) v entries
      is_whole entries is =
          subst (IsWholeVersion s c (contents h0) v) (sym (the_recipe entries is)) (whole_stands shape st phase held (contents h0) found stands agrees.opens near v low high)

      has_length : (entries : List RecipeEntry) → recipe_found s c (contents h0) v ≡ Ok entries → total entries ≡ length (stream_of st v)
      has_length entries is =
          ap total (the_recipe entries is) ∙ length_stands shape st phase held (contents h0) found stands agrees.opens near v low high

      is_stream : (entries : List RecipeEntry) → recipe_found s c (contents h0) v ≡ Ok entries → joined entries (records_for s c (contents h0) v) ≡ stream_of st v
      is_stream entries is =
          ap (λ es. joined es (records_for s c (contents h0) v)) (the_recipe entries is)
          ∙ content_stands shape st phase held (contents h0) found stands agrees.opens near v low high

      are_reads : (entries : List RecipeEntry) → recipe_found s c (contents h0) v ≡ Ok entries →
          recipe_places s c v ++ walk_reads s entries [] (spots_in s (contents h0) (walk c v)) ≡ restore_reads s c (history shape st) v
      are_reads entries is =
          ap (λ es. recipe_places s c v ++ walk_reads s es [] (spots_in s (contents h0) (walk c v))) (the_recipe entries is)
          ∙ reads_stand shape st phase held (contents h0) found stands agrees.opens near v low high

      is_lean : IsLean (history shape st) c.phase v
      is_lean = lean_stands shape st phase held (contents h0) found stands agrees.opens near v low high

  -- a recipe that couldn't be read
  pub reading_one_step : (name : List ℕ) (held : ℕ) {h1 : History} (files : FileMap) (fault : ReadFault) → WritesNothing h0 h1 → AnswersPlan (recipe_found s c (contents h0) v) (Err fault) →
      IsOneStep (Restore v name) held held h0 h1 files files (Err (fault_of_reading fault))
  reading_one_step name held {h1} files fault quiet answers = record { each = λ shape st phase near stands. by shape st phase near stands fault answers } where
    by : (shape : Shape) (st : VersionState) (phase : Phase) → Near (history shape st) → StandsFor shape st phase held (contents h0) → (fault : ReadFault) → AnswersPlan (recipe_found s c (contents h0) v) (Err fault) →
        MakesStep (task shape held st files (Restore v name)) phase (contents h1) files (Err (fault_of_reading fault))
    by shape st phase near stands ReadDisk answers = record { stands = inl (record { phase = phase; so = subst (StandsFor shape st phase held) (sym (unchanged quiet)) stands }); beside = record { others = λ other differ. refl } }
    by shape st phase near stands ReadMemory answers = record { stands = record { phase = phase; so = subst (StandsFor shape st phase held) (sym (unchanged quiet)) stands }; beside = record { others = λ other differ. refl } }
    by shape st phase near stands (ReadDamaged damage) answers = no_damage shape st phase held stands near damage answers

  -- once it has answered, a stop leaves the state as it is
  pub restored_safe : (name : List ℕ) (held : ℕ) {h1 : History} (files : FileMap) (bytes : ℕ) → WritesNothing h0 h1 → IsSafeAtStops (Restore v name) held held h0 h1 files (Ok (Restored v bytes))
  restored_safe name held {h1} files bytes quiet = record {
    each = λ shape st near sure.
        let now : Stands shape held st (contents h0) = sure.each (contents h0) (contents_now h0) in
        record {
          within = leaves_wider _ (λ image stands. inl stands) (leaves_quiet quiet sure);
          done = record { outcome = restore st files v name; leads = leads shape st now.phase held now.so files name; sure = still_now quiet sure };
        };
  }

  -- the recipe was read, and then its plan was run
  module _ (plan : Planned) (is : recipe_found s c (contents h0) v ≡ Ok plan.entries) (same : plan.version ≡ v) (h1 : History) (first : WritesNothing h0 h1) (h2 : History) (then : WritesNothing h1 h2) where
    abbrev entries : List RecipeEntry
    entries = plan.entries

    abbrev n : ℕ
    n = plan.version

    unwritten : contents h2 ≡ contents h0
    unwritten = unchanged then ∙ unchanged first

    -- what is found in the first image by the plan's number
    at_first : {X : Type 0} (f : List ℕ → ℕ → X) → f (contents h1) n ≡ f (contents h0) v
    at_first f = ap (λ image. f image n) (unchanged first) ∙ ap (f (contents h0)) same

    -- a fault on the walk
    pub walk_one_step : (name : List ℕ) (held : ℕ) (files files_now : FileMap) (fault : RestoreFault) → ChangesOnly name files files_now → {Tells : Type 0} → Tells → IfMet {T = ℕ} (Err fault) (λ damage. Tells → IsMetBy found plan damage h1 h2) →
        IsOneStep (Restore v name) held held h0 h2 files files_now (Err (fault_of_restore fault))
    walk_one_step name held files files_now fault others {Tells = Tells} told whole = record { each = λ shape st phase near stands. by shape st phase near stands fault whole } where
      by : (shape : Shape) (st : VersionState) (phase : Phase) → Near (history shape st) → StandsFor shape st phase held (contents h0) → (fault : RestoreFault) → IfMet {T = ℕ} (Err fault) (λ damage. Tells → IsMetBy found plan damage h1 h2) →
          MakesStep (task shape held st files (Restore v name)) phase (contents h2) files_now (Err (fault_of_restore fault))
      by shape st phase near stands DiskFault whole = record { stands = inl (record { phase = phase; so = subst (StandsFor shape st phase held) (sym unwritten) stands }); beside = others }
      by shape st phase near stands TargetFault whole = record { stands = record { phase = phase; so = subst (StandsFor shape st phase held) (sym unwritten) stands }; beside = others }
      by shape st phase near stands OutOfMemory whole = record { stands = record { phase = phase; so = subst (StandsFor shape st phase held) (sym unwritten) stands }; beside = others }
      by shape st phase near stands (Damaged damage) whole =
          (whole told).whole (record {
            rows = ap (λ parts. list_all (part_holds s) parts) (at_first (parts_for s c)) ∙ (is_whole shape st phase held stands near entries is).rows;
            entries_stored = ap (λ records. list_all (is_stored records) entries) (at_first (records_for s c)) ∙ (is_whole shape st phase held stands near entries is).entries_stored;
          })

    -- a version that was given back
    pub restored_one_step : (name : List ℕ) (held : ℕ) (files files_now : FileMap) (bytes : ℕ) → bytes ≡ total entries → files_now ≡ map.insert files name (joined entries (records_for s c (contents h1) n)) →
        IsOneStep (Restore v name) held held h0 h2 files files_now (Ok (Restored v bytes))
    restored_one_step name held files files_now bytes long put = record {
      each = λ shape st phase near stands. record {
        outcome = restore st files v name;
        leads = leads shape st phase held stands files name;
        says = ap (Restored v) (long ∙ has_length shape st phase held stands near entries is);
        stands = subst (StandsFor shape st phase held) (sym unwritten) stands;
        beside = put ∙ ap (map.insert files name) (ap (joined entries) (at_first (records_for s c)) ∙ is_stream shape st phase held stands near entries is);
      };
    }

    -- the target has what the recipe's entries find
    pub restored_content : (name : List ℕ) (files files_now : FileMap) → files_now ≡ map.insert files name (joined entries (records_for s c (contents h1) n)) → files_now ≡ map.insert files name (content found (contents h0) v)
    restored_content name files files_now put =
        put
        ∙ ap (map.insert files name) (ap (joined entries) (at_first (records_for s c)) ∙ ap (λ es. joined es (records_for s c (contents h0) v)) (holds-found s c v (contents h0) entries is).same)

    -- each place of the walk was read once
    pub restored_once : ReadsOnly (recipe_places s c v) h0 h1 → ReadsOnly (walk_reads s entries [] (spots_in s (contents h1) (walk c n))) h1 h2 → ReadsOnce found v h0 h2
    restored_once recipe_read walked = record {
      places = subst (λ places. ReadsOnly places h0 h2)
          (ap (λ spots. recipe_places s c v ++ walk_reads s entries [] spots) (at_first (λ image m. spots_in s image (walk c m)))
          ∙ ap (λ es. recipe_places s c v ++ walk_reads s es [] (spots_in s (contents h0) (walk c v))) (holds-found s c v (contents h0) entries is).same)
          (reads_both recipe_read walked);
    }

    -- what was read is the walk through the layout
    pub restored_walks : ReadsOnly (recipe_places s c v) h0 h1 → ReadsOnly (walk_reads s entries [] (spots_in s (contents h1) (walk c n))) h1 h2 → (held : ℕ) → WalksTo held found v h0 h2
    restored_walks recipe_read walked held = record {
      each = λ shape st phase near stands. (
        subst (λ places. ReadsOnly places h0 h2)
            (ap (λ spots. recipe_places s c v ++ walk_reads s entries [] spots) (at_first (λ image m. spots_in s image (walk c m))) ∙ are_reads shape st phase held stands near entries is)
            (reads_both recipe_read walked),
        is_lean shape st phase held stands near,
      );
    }
