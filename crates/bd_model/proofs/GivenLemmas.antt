-- The chunks that a state keeps and that commands read, from one command to the next.
use Rattle.std.proofs.Common.{◌≡◌, ℕ, ◌+◌, true, false, cond, ◌&&◌, ◌||◌, List, [], ◌∷◌, ◌++◌, sym, ◌∙◌, ap, subst, map, flat_map, length, nat_eq, nat_le, Some, None, IfSome, option_map, unwrap_or, append_assoc, ◌-◌, ⊎_elim}
use Rattle.std.proofs.lemmas.List.{append-nil}
use Rattle.std.proofs.lemmas.List.Folds.{flat_map-map}
use Rattle.std.proofs.lemmas.Bool.{false≢true, or_left, or_right, or_cases}
use Rattle.std.specs.FinMap as map
use Rattle.bd_model.specs.declared.shape.Shape.{Shape}
use Rattle.bd_model.specs.declared.answer.Answer.TheVariants.{Expired, FullNumbers, FullVersions, NoVersion, NothingRetained}
use Rattle.bd_model.specs.declared.command.Command.{Command}
use Rattle.bd_model.specs.declared.command.Command.TheVariants.{Backup, Restore, Expire, Reorganise, Scrub, List as Listing}
use Rattle.bd_model.specs.Chunks.{chunks}
use Rattle.bd_model.specs.FileMap.{FileMap}
use Rattle.bd_model.specs.Folds.{HeldCommand, chunks_read, all_read, given}
use Rattle.bd_model.specs.History.{newest, oldest, retained, contains, version}
use Rattle.bd_model.specs.Marks.{Distinct}
use Rattle.bd_model.specs.State.{Version, VersionState, history, cut_of, last_number, plain}
use Rattle.bd_model.specs.Step.{Outcome, unchanged, restore, backup, drop_oldest, expired_extents, step, emptied, fewer_by}
use Rattle.bd_model.proofs.StepLemmas.{either_backup}
use Rattle.bd_model.specs.CommandLaws.{GivenChunksStayApart}
use Rattle.bd_model.proofs.ChunkListLemmas.{contains-append}
use Rattle.bd_model.proofs.FoldLemmas.{along}
use Rattle.bd_model.proofs.NeedLemmas.{contains-flatten}

-- each chunk of the first list is in the second
abbrev Within : List (List ℕ) → List (List ℕ) → Type 0
Within small large = (c : List ℕ) → contains small c ≡ true → contains large c ≡ true

Distinct-within : (small large : List (List ℕ)) → Within small large → Distinct large → Distinct small
Distinct-within small large inside all c d has_c has_d = all c d (inside c has_c) (inside d has_d)

in_left : (xs ys : List (List ℕ)) → Within xs (xs ++ ys)
in_left xs ys c has = contains-append xs ys c ∙ or_left (contains xs c) (contains ys c) has

in_right : (xs ys : List (List ℕ)) → Within ys (xs ++ ys)
in_right xs ys c has = contains-append xs ys c ∙ or_right (contains xs c) (contains ys c) has

in_both : (xs ys zs : List (List ℕ)) → Within xs zs → Within ys zs → Within (xs ++ ys) zs
in_both xs ys zs left right c has = ⊎_elim (λ l. left c l) (λ r. right c r) (or_cases (contains xs c) (contains ys c) (sym (contains-append xs ys c) ∙ has))

module _ (shape : Shape) where
  -- the chunks of all streams of a list of versions
  abbrev all_chunks : List Version → List (List ℕ)
  all_chunks versions = flat_map (chunks (cut_of shape)) (map (λ v. v.stream) versions)

  -- those of the history that the versions make
  pub joined : (versions : List Version) → flat_map (λ v. v) (map (chunks (cut_of shape)) (map (λ v. v.stream) versions)) ≡ flat_map (chunks (cut_of shape)) (map (λ v. v.stream) versions)
  joined versions = flat_map-map (λ v. v) (chunks (cut_of shape)) (map (λ v. v.stream) versions)

  pushed : (versions : List Version) (v : Version) → Within (all_chunks (versions ++ v ∷ [])) (all_chunks versions ++ chunks (cut_of shape) v.stream)
  pushed [] v = λ c has. sym (ap (λ cs. contains cs c) (append-nil (chunks (cut_of shape) v.stream))) ∙ has
  pushed (u ∷ versions) v =
      in_both (chunks (cut_of shape) u.stream) (all_chunks (versions ++ v ∷ [])) (all_chunks (u ∷ versions) ++ chunks (cut_of shape) v.stream)
      (λ c has. in_left (all_chunks (u ∷ versions)) (chunks (cut_of shape) v.stream) c (in_left (chunks (cut_of shape) u.stream) (all_chunks versions) c has))
      (λ c has. ap (λ cs. contains cs c) (append_assoc (chunks (cut_of shape) u.stream) (all_chunks versions) (chunks (cut_of shape) v.stream))
      ∙ in_right (chunks (cut_of shape) u.stream) (all_chunks versions ++ chunks (cut_of shape) v.stream) c (pushed versions v c has))

  -- a command leaves no chunk but those that were there or that it read
  abbrev Leaves : VersionState → List (List ℕ) → Outcome → Type 0
  Leaves s read o = Within (all_chunks o.state.versions) (all_chunks s.versions ++ read)

  leaves-backup : (held : ℕ) (s : VersionState) (files : FileMap) (stream : List ℕ) → Leaves s (chunks (cut_of shape) stream) (backup shape held s files stream)
  leaves-backup held s files stream =
      let parts = chunks (cut_of shape) stream in
      either_backup shape (Leaves s parts) held s files stream (λ more. in_left (all_chunks s.versions) parts) (λ few. pushed s.versions (plain stream))

  leaves : (held : ℕ) (s : VersionState) (files : FileMap) (command : Command) → IfSome (step shape held s files command) (Leaves s (chunks_read shape s files command))
  leaves held s files (Backup name) =
      let h = history shape s in
      elim (nat_eq (newest h) last_number)
      as (λ t. IfSome (cond t (Some (unchanged s files FullNumbers)) (cond (nat_eq (retained h) shape.retain) (Some (unchanged s files (FullVersions shape.retain))) (option_map (backup shape held s files) (map.get files name))))
      (Leaves s (cond (t || nat_eq (retained h) shape.retain) [] (unwrap_or (option_map (chunks (cut_of shape)) (map.get files name)) [])))) [
        | true ↦ in_left (all_chunks s.versions) []
        | false ↦
            elim (nat_eq (retained h) shape.retain)
            as (λ t. IfSome (cond t (Some (unchanged s files (FullVersions shape.retain))) (option_map (backup shape held s files) (map.get files name)))
            (Leaves s (cond t [] (unwrap_or (option_map (chunks (cut_of shape)) (map.get files name)) [])))) [
              | true ↦ in_left (all_chunks s.versions) []
              | false ↦
                  elim (map.get files name) as (λ t. IfSome (option_map (backup shape held s files) t) (Leaves s (unwrap_or (option_map (chunks (cut_of shape)) t) []))) [
                    | None ↦ tt
                    | Some stream ↦ leaves-backup held s files stream
                  ]
            ]
      ]
  leaves held s files (Restore v name) =
      let h = history shape s in
      elim (nat_eq (retained h) 0)
      as (λ t. IfSome (cond t (Some (unchanged s files (NothingRetained (Some v)))) (cond (nat_le (oldest h) v && nat_le v (newest h)) (Some (restore s files v name)) (Some (unchanged s files (NoVersion v (oldest h) (newest h)))))) (Leaves s [])) [
        | true ↦ in_left (all_chunks s.versions) []
        | false ↦
            elim (nat_le (oldest h) v && nat_le v (newest h))
            as (λ t. IfSome (cond t (Some (restore s files v name)) (Some (unchanged s files (NoVersion v (oldest h) (newest h))))) (Leaves s [])) [
              | true ↦ in_left (all_chunks s.versions) []
              | false ↦ in_left (all_chunks s.versions) []
            ]
      ]
  leaves held s files Expire =
      let h = history shape s in
      elim (nat_eq (retained h) 0)
      as (λ t. IfSome (cond t (Some (unchanged s files (NothingRetained None))) (Some (record (unchanged s files (Expired (oldest h) (expired_extents shape.extent h))) { state = drop_oldest s }))) (Leaves s [])) [
        | true ↦ in_left (all_chunks s.versions) []
        | false ↦
            elim (nat_le (length s.versions) (s.expired + 1))
            as (λ t. Within (all_chunks (cond t (emptied s) (fewer_by 1 s)).versions) (all_chunks s.versions ++ [])) [
              | true ↦ λ c has. absurd (false≢true has)
              | false ↦ in_left (all_chunks s.versions) []
            ]
      ]
  leaves held s files Reorganise = in_left (all_chunks s.versions) []
  leaves held s files Scrub = in_left (all_chunks s.versions) []
  leaves held s files Listing = in_left (all_chunks s.versions) []

-- what the first command leaves and the others read was kept or read before
given-next : (shape : Shape) (s : VersionState) (files : FileMap) (c : HeldCommand) (commands : List HeldCommand) (o : Outcome) → step shape c.held s files c.command ≡ Some o →
    Distinct (given shape s files (c ∷ commands)) → Distinct (given shape o.state o.files commands)
given-next shape s files c commands o e =
    let read = chunks_read shape s files c.command in
    let rest = all_read shape o.state o.files commands in
    let all : all_read shape s files (c ∷ commands) ≡ read ++ rest =
    ap (λ t. read ++ elim t as (λ _. List (List ℕ)) [ None ↦ [] | Some o ↦ all_read shape o.state o.files commands ]) e in
    let left : Leaves shape s read o = subst (λ t. IfSome t (Leaves shape s read)) e (leaves shape c.held s files c.command) in
    Distinct-within (given shape o.state o.files commands) (given shape s files (c ∷ commands))
    (λ x has. ap (λ cs. contains (all_chunks shape s.versions ++ cs) x) all
    ∙ ap (λ cs. contains cs x) (sym (append_assoc (all_chunks shape s.versions) read rest))
    ∙ in_both (all_chunks shape o.state.versions) rest ((all_chunks shape s.versions ++ read) ++ rest)
    (λ y there. in_left (all_chunks shape s.versions ++ read) rest y (left y there))
    (in_right (all_chunks shape s.versions ++ read) rest) x has)

pub given_chunks_stay_apart : GivenChunksStayApart
given_chunks_stay_apart = record {
  versions = λ shape s files commands.
      Distinct-within _ _ (λ c has. in_left (all_chunks shape s.versions) (all_read shape s files commands) c (ap (λ cs. contains cs c) (sym (joined shape s.versions)) ∙ has));
  first = λ shape s files c commands.
      let h = history shape s in
      let read = chunks_read shape s files c.command in
      Distinct-within (version h (newest h) ++ read) (given shape s files (c ∷ commands))
      (in_both (version h (newest h)) read (given shape s files (c ∷ commands))
      (λ x has. in_left (all_chunks shape s.versions) (all_read shape s files (c ∷ commands)) x (ap (λ cs. contains cs x) (sym (joined shape s.versions)) ∙ contains-flatten ([] ∷ h.versions) (newest h - h.base) x has))
      (λ x has. in_right (all_chunks shape s.versions) (all_read shape s files (c ∷ commands)) x (in_left read _ x has)));
  others = given-next;
  all = λ shape s files commands k p e apart. along shape (λ s files commands. Distinct (given shape s files commands)) (given-next shape) commands s files k p e apart;
}
