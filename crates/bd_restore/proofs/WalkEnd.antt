-- What a walk that a plan began with says of the plan: of a damage, and of what was read and given.
use Rattle.std.proofs.Common.{◌≡◌, ℕ, ◌<◌, Bool, true, false, List, [], length, replicate, refl, sym, ◌∙◌, ap, subst, Some}
use Rattle.bd_disk.specs.History.{History, contents}
use Rattle.bd_model.specs.FileMap.{FileMap}
use Rattle.bd_model.specs.Sizes.{Sizes}
use Rattle.bd_model.specs.Records.{Stored}
use Rattle.bd_model.specs.declared.damage.Damage.{Damage}
use Rattle.bd_model.specs.declared.damage.Damage.TheVariants.{Missing}
use Rattle.bd_model.specs.declared.layout.RecipeEntry.{RecipeEntry}
use Rattle.bd_model.specs.declared.mark.Mark.{Mark}
use Rattle.bd_files.specs.Files.{ChangesOnly}
use Rattle.bd_roll.specs.Catalogue.{Catalogue}
use Rattle.bd_catalog.specs.Opening.{Found}
use Rattle.bd_catalog.specs.Rows.{Spot, spots_in, walk}
use Rattle.bd_catalog.specs.Sound.{records_for}
use Rattle.bd_volume.proofs.WalkRecords.{walk_records}
use Rattle.bd_restore.specs.Met.{MetOn}
use Rattle.bd_restore.specs.Plan.{Planned}
use Rattle.bd_restore.specs.Restored.{HasGivenBack, IsMetBy, ReadsWalk}
use Rattle.bd_restore.specs.Target.{held, flag_at, mark_at, HasChunks, IsTarget}
use Rattle.bd_restore.specs.Walk.{joined, walk_reads, AreFlags, AreGiven, Gives, Walks}
use Rattle.bd_volume.specs.Headers.{HasGoodHeaders}
use Rattle.bd_restore.proofs.FirstAndLast.{all_given, all_marked, flags_none, given_none, only_put}
use Rattle.bd_restore.proofs.MetOnWalk.{met_walked, met_needed, met_part, met_seen, met_whole, missing_seen, missing_whole}

module _ (found : Found) (plan : Planned) (filled : List Bool) (old new : History) (fresh : filled ≡ replicate (length plan.entries) false) where
  abbrev s : Sizes
  s = found.sizes

  abbrev c : Catalogue
  c = found.catalogue

  abbrev v : ℕ
  v = plan.version

  abbrev entries : List RecipeEntry
  entries = plan.entries

  abbrev image : List ℕ
  image = contents old

  abbrev spots : List Spot
  spots = spots_in s image (walk c v)

  abbrev records : List Stored
  records = records_for s c image v

  none_filled : AreFlags entries [] filled
  none_filled = flags_none entries filled fresh

  pub met_by : (damage : Damage) → MetOn (record { sizes = s; version = v; entries = entries }) image filled (walk c v) damage old new → IsMetBy found plan damage old new
  met_by damage met = record {
    part = met_part s c image v entries filled damage old new none_filled met;
    walked = met_walked s c image v entries filled damage old new none_filled met;
    needed = met_needed s c image v entries filled damage old new none_filled met;
    seen = λ are. met_seen s c image v entries filled damage old new none_filled met are;
    whole = λ sound. met_whole s c image v entries filled damage old new none_filled met sound;
  }

  module _ (filled_now : List Bool) (walked : Walks s entries spots filled filled_now old new) (good : HasGoodHeaders s image (walk c v)) where
    after : AreFlags entries records filled_now
    after = subst (λ l. AreFlags entries l filled_now) (walk_records s image c v) (walked.flags [] none_filled)

    pub missing_by : (k : ℕ) → k < length filled_now → flag_at filled_now k ≡ false → (m : Mark) → m.0 ≡ mark_at entries k → IsMetBy found plan (Missing v k m) old new
    missing_by k inside miss m is_mark =
        let lt : k < length entries = subst (λ n. k < n) after.count inside in
        record {
          part = refl;
          walked = λ no. no;
          needed = tt;
          seen = λ are. missing_seen s c image v entries filled_now after k lt miss m (walk_reads s entries [] spots) is_mark are (walked.reads [] none_filled) good;
          whole = λ sound. missing_whole s c image v entries filled_now after k lt miss sound;
        }

    pub reads_walk : ReadsWalk found plan old new
    reads_walk = record { places = walked.reads [] none_filled; headers = good }

    pub gives_back : (name : List ℕ) (before begun now ended : FileMap) → Gives entries spots filled (held begun name) (held now name) → IsTarget entries name now → ((k : ℕ) → k < length filled_now → flag_at filled_now k ≡ true) →
        ChangesOnly name before now → ended ≡ now → HasGivenBack found plan image name before ended
    gives_back name before begun now ended gives target all changes same =
        let given : AreGiven entries records (held now name) = subst (λ l. AreGiven entries l (held now name)) (walk_records s image c v) (gives.each [] none_filled (given_none entries (held begun name))) in
        let content : held now name ≡ joined entries records = all_given entries records filled_now (held now name) target.long after given all in
        let chunks : HasChunks entries (held now name) = all_marked entries records filled_now (held now name) target.long after given all in
        record {
          file = same ∙ only_put before now name (joined entries records) changes (target.there ∙ ap Some content);
          checked = subst (λ (m : FileMap). HasChunks entries (held m name)) (sym same) chunks;
        }
