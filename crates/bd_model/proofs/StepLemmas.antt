-- A command leaves a legal state and a legal phase.
use Rattle.std.proofs.Common.{◌≡◌, ◌≢◌, ℕ, ◌+◌, ◌-◌, ◌<◌, ◌≤◌, true, false, cond, ◌&&◌, List, [], refl, ◌∙◌, arith, length, nat_eq, nat_lt, nat_le, Option, Some, None, IfSome, option_map, inl, inr, ⊎_elim, take, get_or, suc, ◌∷◌, ◌++◌, sym, ap, map}
use Rattle.std.proofs.lemmas.Bool.{eqb-false, leb-false}
use Rattle.std.proofs.lemmas.List.{length-map, length_push, take_all, take_more}
use Rattle.std.specs.FinMap as map
use Rattle.bd_model.specs.declared.shape.Shape.{Shape}
use Rattle.bd_model.specs.declared.command.Command.{Command}
use Rattle.bd_model.specs.declared.command.Command.TheVariants.{Backup, Restore, Expire, Reorganise, Scrub, List as Listing}
use Rattle.bd_model.specs.declared.answer.Answer.{Answer}
use Rattle.bd_model.specs.declared.answer.Answer.TheVariants.{BackedUp, Expired, FullNumbers, FullVersions, FullExtents, Listed, NoVersion, NothingRetained}
use Rattle.bd_model.specs.declared.answer.VersionLine.{VersionLine}
use Rattle.bd_model.specs.declared.layout.Phase.{Phase}
use Rattle.bd_model.specs.declared.layout.Phase.TheVariants.{Settled, Waiting}
use Rattle.bd_model.specs.Chunks.{chunks}
use Rattle.bd_model.specs.History.{VersionHistory, newest, oldest, retained, version}
use Rattle.bd_model.specs.FileMap.{FileMap}
use Rattle.bd_model.specs.State.{VersionState, IsState, IsPhase, history, streams, cut_of, last_number, Version, plain}
use Rattle.bd_model.specs.Layout.{open_category}
use Rattle.bd_model.specs.Room.{counted, need, fresh}
use Rattle.bd_model.specs.CommandLaws.{Keeps}
use Rattle.bd_model.specs.Laws.{BackupsGrowTheHistory, grown}
use Rattle.std.proofs.lemmas.Option.{IfSome_then}
use Rattle.bd_model.specs.Step.{Outcome, unchanged, restore, expired_extents, step, backup, free_extents, drop_oldest, with_version, next_start, phase_after, phase_after_step, without_room, emptied, fewer_by, drop_versions}
use Rattle.bd_model.proofs.ListLemmas.{IfSome-find_range_with_len}

module _ (shape : Shape) where
  pub length-history : (s : VersionState) → length (history shape s).versions ≡ length s.versions
  length-history s = length-map (streams s) (chunks (cut_of shape)) ∙ length-map s.versions (λ v. v.stream)

  chunks-pushed : (versions : List Version) (v : Version) → map (chunks (cut_of shape)) (map (λ v. v.stream) (versions ++ v ∷ [])) ≡ map (chunks (cut_of shape)) (map (λ v. v.stream) versions) ++ chunks (cut_of shape) v.stream ∷ []
  chunks-pushed [] v = refl
  chunks-pushed (u ∷ versions) v = ap (λ vs. chunks (cut_of shape) u.stream ∷ vs) (chunks-pushed versions v)

  pub history-grown : (s : VersionState) (stream : List ℕ) → history shape (with_version s stream) ≡ grown (history shape s) (chunks (cut_of shape) stream)
  history-grown s stream = λ k. record { base = s.base; versions = chunks-pushed s.versions (plain stream) k; expired = s.expired }

  IsState-pushed : (s : VersionState) (stream : List ℕ) → IsState s → newest (history shape s) ≢ last_number → IsState (with_version s stream)
  IsState-pushed s stream is below =
      let long : length (with_version s stream).versions ≡ length s.versions + 1 = length_push s.versions (plain stream) in
      record {
        some = inl (⊎_elim (λ lt. omega arith) (λ none. omega arith) is.some);
        numbered = omega (arith, is.numbered, below, length-history s);
      }

  IsPhase-pushed : (s : VersionState) (stream : List ℕ) → IsState s →
      IsPhase (history shape (with_version s stream)) (cond (nat_eq (length (with_version s stream).versions - s.expired) 1) Settled (Waiting (s.base + 1)))
  IsPhase-pushed s stream is =
      let long : length (with_version s stream).versions ≡ length s.versions + 1 = length_push s.versions (plain stream) in
      let kept : s.expired < length (with_version s stream).versions = ⊎_elim (λ lt. omega arith) (λ none. omega arith) is.some in
      elim (nat_eq (length (with_version s stream).versions - s.expired) 1)
      as (λ t. nat_eq (length (with_version s stream).versions - s.expired) 1 ≡ t → IsPhase (history shape (with_version s stream)) (cond t Settled (Waiting (s.base + 1)))) [
        | true ↦ λ e. tt
        | false ↦ λ e.
            let more : length (with_version s stream).versions - s.expired ≢ 1 = eqb-false _ 1 e in
            let same = length-history (with_version s stream) in
            (omega arith, omega arith, omega arith)
      ] refl

  -- a backup where numbers and versions are left is refused, or done
  pub either_backup : (P : Outcome → Type 0) (held : ℕ) (s : VersionState) (files : FileMap) (stream : List ℕ) →
      let h = history shape s in
      let parts = chunks (cut_of shape) stream in
      let free = free_extents shape held s in
      let count = counted shape.extent h parts free in
      (nat_lt free count ≡ true → P (unchanged s files (FullExtents count free held))) →
      (nat_lt free count ≡ false → P (record { answer = BackedUp (newest h + 1) (length stream) (length parts) (length (fresh h parts)) (need shape.extent h parts); state = with_version s stream; files = files })) →
      P (backup shape held s files stream)
  either_backup P held s files stream refused done =
      let h = history shape s in
      let parts = chunks (cut_of shape) stream in
      let free = free_extents shape held s in
      let count = counted shape.extent h parts free in
      elim (nat_lt free count) as (λ t. nat_lt free count ≡ t → P (let result : Answer × VersionState = cond t (FullExtents count free held, s) (BackedUp (newest h + 1) (length stream) (length parts) (length (fresh h parts)) (need shape.extent h parts), with_version s stream) in
      record { answer = result.0; state = result.1; files = files })) [
        | true ↦ refused
        | false ↦ done
      ] refl

  keeps-backup : (held : ℕ) (s : VersionState) (files : FileMap) (stream : List ℕ) → IsState s → newest (history shape s) ≢ last_number → Keeps shape s (backup shape held s files stream)
  keeps-backup held s files stream is below =
      either_backup (Keeps shape s) held s files stream
      (λ more. record { state = is; phase = λ phase k. tt })
      (λ few. record { state = IsState-pushed s stream is below; phase = λ phase k. IsPhase-pushed s stream is })

  IsState-dropped : (d : ℕ) (s : VersionState) → IsState s → IsState (drop_versions d s)
  IsState-dropped d s is =
      elim (nat_le (length s.versions) (s.expired + d)) as (λ t. nat_le (length s.versions) (s.expired + d) ≡ t → IsState (cond t (emptied s) (fewer_by d s))) [
        | true ↦ λ e. record { some = inr (refl, refl); numbered = omega (arith, is.numbered) }
        | false ↦ λ e. record { some = inl (leb-false (length s.versions) (s.expired + d) e); numbered = is.numbered }
      ] refl

  -- where two or more are left, the base and the newest stay
  IsPhase-dropped : (d : ℕ) (s : VersionState) (phase : Phase) → IsPhase (history shape s) phase →
      IsPhase (history shape (drop_versions d s)) (cond (nat_le (length (drop_versions d s).versions - (drop_versions d s).expired) 1) Settled phase)
  IsPhase-dropped d s Settled is =
      elim (nat_le (length (drop_versions d s).versions - (drop_versions d s).expired) 1) as (λ t. IsPhase (history shape (drop_versions d s)) (cond t Settled Settled)) [ true ↦ tt | false ↦ tt ]
  IsPhase-dropped d s (Waiting cursor) is =
      elim (nat_le (length s.versions) (s.expired + d))
      as (λ t. let next : VersionState = cond t (emptied s) (fewer_by d s) in IsPhase (history shape next) (cond (nat_le (length next.versions - next.expired) 1) Settled (Waiting cursor))) [
        | true ↦ tt
        | false ↦
            elim (nat_le (length s.versions - (s.expired + d)) 1)
            as (λ t. nat_le (length s.versions - (s.expired + d)) 1 ≡ t → IsPhase (history shape (fewer_by d s)) (cond t Settled (Waiting cursor))) [
              | true ↦ λ e. tt
              | false ↦ λ e. let more : 1 < length s.versions - (s.expired + d) = leb-false _ 1 e in (omega (arith, length-history s), is.1, is.2)
            ] refl
      ]

  pub keeps : (held : ℕ) (s : VersionState) (files : FileMap) (command : Command) → IsState s → IfSome (step shape held s files command) (Keeps shape s)
  keeps held s files (Backup name) is =
      let h = history shape s in
      elim (nat_eq (newest h) last_number)
      as (λ t. nat_eq (newest h) last_number ≡ t → IfSome (cond t (Some (unchanged s files FullNumbers)) (cond (nat_eq (retained h) shape.retain) (Some (unchanged s files (FullVersions shape.retain))) (option_map (backup shape held s files) (map.get files name)))) (Keeps shape s)) [
        | true ↦ λ e. record { state = is; phase = λ phase k. k }
        | false ↦ λ e.
            elim (nat_eq (retained h) shape.retain)
            as (λ t. IfSome (cond t (Some (unchanged s files (FullVersions shape.retain))) (option_map (backup shape held s files) (map.get files name))) (Keeps shape s)) [
              | true ↦ record { state = is; phase = λ phase k. k }
              | false ↦
                  elim (map.get files name) as (λ t. IfSome (option_map (backup shape held s files) t) (Keeps shape s)) [
                    | None ↦ tt
                    | Some stream ↦ keeps-backup held s files stream is (eqb-false _ _ e)
                  ]
            ]
      ] refl
  keeps held s files (Restore v name) is =
      let h = history shape s in
      elim (nat_eq (retained h) 0)
      as (λ t. IfSome (cond t (Some (unchanged s files (NothingRetained (Some v)))) (cond (nat_le (oldest h) v && nat_le v (newest h)) (Some (restore s files v name)) (Some (unchanged s files (NoVersion v (oldest h) (newest h)))))) (Keeps shape s)) [
        | true ↦ record { state = is; phase = λ phase k. k }
        | false ↦
            elim (nat_le (oldest h) v && nat_le v (newest h))
            as (λ t. IfSome (cond t (Some (restore s files v name)) (Some (unchanged s files (NoVersion v (oldest h) (newest h))))) (Keeps shape s)) [
              | true ↦ record { state = is; phase = λ phase k. k }
              | false ↦ record { state = is; phase = λ phase k. k }
            ]
      ]
  keeps held s files Expire is =
      let h = history shape s in
      elim (nat_eq (retained h) 0)
      as (λ t. IfSome (cond t (Some (unchanged s files (NothingRetained None))) (Some (record (unchanged s files (Expired (oldest h) (expired_extents shape.extent h))) { state = drop_oldest s }))) (Keeps shape s)) [
        | true ↦ record { state = is; phase = λ phase k. k }
        | false ↦ record { state = IsState-dropped 1 s is; phase = IsPhase-dropped 1 s }
      ]
  keeps held s files Reorganise is = record { state = is; phase = λ phase k. tt }
  keeps held s files Scrub is = record { state = is; phase = λ phase k. k }
  keeps held s files Listing is = record { state = is; phase = λ phase k. k }

-- a step of arranging goes to a start that there is
pub IsPhase-step : (h : VersionHistory) (phase : Phase) → IsPhase h phase → IsPhase h (phase_after_step h phase)
IsPhase-step h Settled is = tt
IsPhase-step h (Waiting cursor) is =
    let found : IfSome (next_start h cursor) (λ i. (cursor ≤ i) × (i + 1 ≤ newest h)) =
    IfSome_then (next_start h cursor) (IfSome-find_range_with_len (λ i. nat_lt 0 (length (open_category h (Waiting cursor) i))) cursor (newest h - 1 + 1 - cursor)) (λ i k. (omega arith, omega arith)) in
    go (next_start h cursor) found
  where
    go : (o : Option ℕ) → IfSome o (λ i. (cursor ≤ i) × (i + 1 ≤ newest h)) → IsPhase h (elim o as (λ _. Phase) [ None ↦ Settled | Some i ↦ Waiting (i + 1) ])
    go None k = tt
    go (Some i) k = (is.0, omega arith, k.1)

last_of : (xs : List (List (List ℕ))) → 1 ≤ length xs → xs ≡ take (length xs - 1) xs ++ get_or xs (length xs - 1) [] ∷ []
last_of xs some =
    let whole : length xs - 1 + 1 ≡ length xs = omega arith in
    sym (take_all (length xs) xs (omega arith)) ∙ ap (λ n. take n xs) (sym whole) ∙ take_more xs (length xs - 1) [] (omega arith)

pub backups_grow_the_history : BackupsGrowTheHistory
backups_grow_the_history = record {
  grows = history-grown;
  grew = λ h some.
      let place : newest h - h.base ≡ suc (length h.versions - 1) = omega arith in
      let last : get_or h.versions (length h.versions - 1) [] ≡ version h (newest h) = sym (ap (λ i. get_or ([] ∷ h.versions) i []) place) in
      λ k. record { base = h.base; versions = (last_of h.versions some ∙ ap (λ v. take (length h.versions - 1) h.versions ++ v ∷ []) last) k; expired = h.expired };
}

-- the phase stays at a list
pub phase-listed : (s : VersionState) (phase : Phase) (a : Answer) (lines : List VersionLine) → without_room a ≡ Listed (record { items = lines; spare = 0 }) → phase_after s phase a ≡ phase
phase-listed s phase (Listed l) lines e = refl
phase-listed s phase _ lines e = absurd (cc e)
