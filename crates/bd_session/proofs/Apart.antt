-- Where no two different chunks given have one mark, marks tell apart what each command meets.
use Rattle.std.proofs.Common.{◌≡◌, ◌<◌, ℕ, zero, suc, Bool, true, false, List, [], ◌∷◌, ◌++◌, map, flat_map, take, drop, Option, Some, None, refl, ◌∙◌, sym, ap, subst, arith, append-nil, append_assoc, if◌then◌else◌, slice_get, option_map}
use Rattle.std.specs.Prelude.{option_to_list, unwrap_or}
use Rattle.std.proofs.lemmas.Bool.{or_left}
use Rattle.std.proofs.lemmas.Grind.{flat_map-append}
use Rattle.std.proofs.lemmas.List.{map-append, take-map}
use Rattle.std.specs.FinMap as files_at
use Rattle.bd_model.specs.Chunks.{chunks}
use Rattle.bd_model.specs.FileMap.{FileMap}
use Rattle.bd_model.specs.Folds.{HeldCommand, after, chunks_read, given, unheld}
use Rattle.bd_model.specs.History.{contains}
use Rattle.bd_model.specs.Marks.{Distinct}
use Rattle.bd_model.specs.State.{Version, VersionState, history, streams, cut_of}
use Rattle.bd_model.specs.declared.shape.Shape.{Shape}
use Rattle.bd_model.specs.declared.command.Command.{Command}
use Rattle.bd_model.specs.declared.command.Command.TheVariants.{Backup, Restore, Expire, Reorganise, Scrub, List as Listing}
use Rattle.bd_model.proofs.ChunkListLemmas.{contains-append}
use Rattle.bd_model.proofs.GivenLemmas.{given_chunks_stay_apart, joined}
use Rattle.bd_model.proofs.LeadingLemmas.{commands_lead_on}
use Rattle.bd_model.proofs.ListLemmas.{same_some}
use Rattle.bd_model.proofs.NeedLemmas.{Near-from_Distinct}
use Rattle.bd_store.specs.Steps.{task, versions_with, is_full_for, IsNear}
use Rattle.bd_session.specs.Promised.{DistinctMarksTellApart}

-- what is apart among more is so among the first
fewer : (xs ys zs : List (List ℕ)) → Distinct (xs ++ (ys ++ zs)) → Distinct (xs ++ ys)
fewer xs ys zs apart c d has_c has_d = apart c d (within c has_c) (within d has_d)
  where
    within : (c : List ℕ) → contains (xs ++ ys) c ≡ true → contains (xs ++ (ys ++ zs)) c ≡ true
    within c has = ap (λ l. contains l c) (sym (append_assoc xs ys zs)) ∙ contains-append (xs ++ ys) zs c ∙ or_left (contains (xs ++ ys) c) (contains zs c) has

abbrev stream_of : Version → List ℕ
stream_of v = v.stream

-- the chunks that a backup reads
flat-read : (f : List ℕ → List (List ℕ)) (full : Bool) (source : Option (List ℕ)) →
    flat_map f (map stream_of (if full then [] else map (λ bytes. record { stream = bytes }) (option_to_list source))) ≡ (if full then [] else unwrap_or (option_map f source) [])
flat-read f true source = refl
flat-read f false None = refl
flat-read f false (Some bytes) = append-nil (f bytes)

-- the chunks of all versions with the one that a backup makes
backup-given : (shape : Shape) (st : VersionState) (files : FileMap) (name : List ℕ) →
    flat_map (λ v. v) (history shape (versions_with (task shape 0 st files (Backup name)) (Backup name))).versions ≡ flat_map (chunks (cut_of shape)) (streams st) ++ chunks_read shape st files (Backup name)
backup-given shape st files name =
    let f = chunks (cut_of shape) in
    joined shape (versions_with (task shape 0 st files (Backup name)) (Backup name)).versions
    ∙ ap (flat_map f) (map-append stream_of st.versions _)
    ∙ flat_map-append f (streams st) _
    ∙ ap (λ l. flat_map f (streams st) ++ l) (flat-read f (is_full_for (task shape 0 st files (Backup name))) (files_at.get files name))

-- where the chunks that a state keeps and the next commands read are apart, so are those that the first of them meets
near_next : (shape : Shape) (st : VersionState) (files : FileMap) (command : Command) (rest : List HeldCommand) → Distinct (given shape st files (record { held = 0; command = command } ∷ rest)) → IsNear (task shape 0 st files command)
near_next shape st files (Backup name) rest apart =
    Near-from_Distinct (history shape (versions_with (task shape 0 st files (Backup name)) (Backup name)))
    (subst Distinct (sym (backup-given shape st files name)) (fewer (flat_map (chunks (cut_of shape)) (streams st)) (chunks_read shape st files (Backup name)) _ apart))
near_next shape st files (Restore v name) rest apart = Near-from_Distinct (history shape st) (given_chunks_stay_apart.versions shape st files (record { held = 0; command = Restore v name } ∷ rest) apart)
near_next shape st files Expire rest apart = Near-from_Distinct (history shape st) (given_chunks_stay_apart.versions shape st files (record { held = 0; command = Expire } ∷ rest) apart)
near_next shape st files Reorganise rest apart = Near-from_Distinct (history shape st) (given_chunks_stay_apart.versions shape st files (record { held = 0; command = Reorganise } ∷ rest) apart)
near_next shape st files Scrub rest apart = Near-from_Distinct (history shape st) (given_chunks_stay_apart.versions shape st files (record { held = 0; command = Scrub } ∷ rest) apart)
near_next shape st files Listing rest apart = Near-from_Distinct (history shape st) (given_chunks_stay_apart.versions shape st files (record { held = 0; command = Listing } ∷ rest) apart)

-- the commands from number k on begin with it
from_there : (commands : List Command) (n k : ℕ) (command : Command) → k < n → slice_get commands k ≡ Some command → (rest : List HeldCommand) × (drop k (unheld (take n commands)) ≡ record { held = 0; command = command } ∷ rest)
from_there [] n zero command low there = absurd (cc there)
from_there [] n (suc k) command low there = absurd (cc there)
from_there (d ∷ commands) zero k command low there = absurd (omega (arith, low))
from_there (d ∷ commands) (suc n) zero command low there = (unheld (take n commands), (λ i. record { held = 0; command = same_some there i } ∷ unheld (take n commands)))
from_there (d ∷ commands) (suc n) (suc k) command low there = from_there commands n k command (omega (arith, low)) there

pub distinct_marks_tell_apart : DistinctMarksTellApart
distinct_marks_tell_apart s commands n apart = record {
  each = λ k low command there p leads.
      let here : after s.shape s.state s.files (unheld (take n commands)) k ≡ Some p =
      ap (λ cs. after s.shape s.state s.files cs k) (sym (take-map (λ c. record { held = 0; command = c }) n commands)) ∙ commands_lead_on.alike s.shape s.state s.files (unheld commands) n k (omega (arith, low)) ∙ leads in
      let next = from_there commands n k command low there in
      near_next s.shape p.state p.files command next.0
      (subst (λ cs. Distinct (given s.shape p.state p.files cs)) next.1 (given_chunks_stay_apart.all s.shape s.state s.files (unheld (take n commands)) k p here apart));
}
