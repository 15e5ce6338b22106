-- Marks that tell the versions of a task apart tell those of its state apart.
use Rattle.std.proofs.Common.{◌≡◌, ◌∙◌, Bool, true, false, cond, List, [], ◌++◌, ℕ, refl, ap, subst, append-nil, map as each_of, Option, Some, None}
use Rattle.std.specs.Prelude.{option_to_list}
use Rattle.std.specs.FinMap as map
use Rattle.bd_model.specs.Chunks.{chunks}
use Rattle.bd_model.specs.FileMap.{FileMap}
use Rattle.bd_model.specs.History.{VersionHistory as Versions}
use Rattle.bd_model.specs.Laws.{grown}
use Rattle.bd_model.specs.Marks.{Near}
use Rattle.bd_model.specs.State.{Version, VersionState, cut_of, history}
use Rattle.bd_model.specs.declared.command.Command.{Command}
use Rattle.bd_model.specs.declared.command.Command.TheVariants.{Backup, Restore, Expire, Reorganise, Scrub, List as Listing}
use Rattle.bd_model.specs.declared.shape.Shape.{Shape}
use Rattle.bd_model.proofs.MarkLemmas.{marks_tell_chunks_apart}
use Rattle.bd_model.proofs.StepLemmas.{history-grown}
use Rattle.bd_store.specs.Steps.{Task, task, is_full_for, versions_with, IsNear}

module _ (shape : Shape) (held : ℕ) (st : VersionState) (files : FileMap) (name : List ℕ) where
  abbrev t : Task
  t = task shape held st files (Backup name)

  abbrev before : Versions
  before = history shape st

  abbrev as_version : List ℕ → Version
  as_version bytes = record { stream = bytes }

  abbrev with_more : List Version → VersionState
  with_more more = record st { versions = st.versions ++ more }

  -- the versions with the stream that a backup reads
  pub with_source : (full : Bool) (got : Option (List ℕ)) → is_full_for t ≡ full → map.get files name ≡ got → versions_with t (Backup name) ≡ with_more (cond full [] (each_of as_version (option_to_list got)))
  with_source full got fills there = λ k. with_more (cond (fills k) [] (each_of as_version (option_to_list (there k))))

  pub near_grown : (stream : List ℕ) → is_full_for t ≡ false → map.get files name ≡ Some stream → IsNear t → Near (grown before (chunks (cut_of shape) stream))
  near_grown stream fills there near = subst Near (ap (history shape) (with_source false (Some stream) fills there) ∙ history-grown shape st stream) near

  none_more : versions_with t (Backup name) ≡ with_more [] → IsNear t → Near before
  none_more same near = subst (λ s. Near (history shape s)) (same ∙ (λ k. record st { versions = append-nil st.versions k })) near

  pub near_before : IsNear t → Near before
  near_before near = by (is_full_for t) (map.get files name) refl refl where
    by : (full : Bool) (got : Option (List ℕ)) → is_full_for t ≡ full → map.get files name ≡ got → Near before
    by true got fills there = none_more (with_source true got fills there) near
    by false None fills there = none_more (with_source false None fills there) near
    by false (Some stream) fills there = marks_tell_chunks_apart.before before (chunks (cut_of shape) stream) (near_grown stream fills there near)

-- so they do for every command
pub near_state : (shape : Shape) (held : ℕ) (st : VersionState) (files : FileMap) (command : Command) → IsNear (task shape held st files command) → Near (history shape st)
near_state shape held st files (Backup name) near = near_before shape held st files name near
near_state shape held st files (Restore v name) near = near
near_state shape held st files Expire near = near
near_state shape held st files Reorganise near = near
near_state shape held st files Scrub near = near
near_state shape held st files Listing near = near
