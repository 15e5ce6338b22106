-- A settled store never owns more extents than there are.
use Rattle.std.proofs.Common.{◌≡◌, ℕ, ◌+◌, ◌≤◌, true, false, cond, ◌&&◌, List, refl, sym, ap, subst, arith, map, length, nat_eq, nat_le, Some, None, IfSome, option_map, ⊎_elim}
use Rattle.std.proofs.lemmas.Bool.{ltb-false, cases_lt, leb-false}
use Rattle.std.specs.FinMap as map
use Rattle.bd_model.specs.declared.shape.Shape.{Shape}
use Rattle.bd_model.specs.declared.answer.Answer.TheVariants.{Expired, FullNumbers, FullVersions, NoVersion, NothingRetained}
use Rattle.bd_model.specs.declared.command.Command.{Command}
use Rattle.bd_model.specs.declared.command.Command.TheVariants.{Backup, Restore, Expire, Reorganise, Scrub, List as Listing}
use Rattle.bd_model.specs.declared.layout.Phase.TheVariants.{Settled}
use Rattle.bd_model.specs.Chunks.{chunks}
use Rattle.bd_model.specs.FileMap.{FileMap}
use Rattle.bd_model.specs.History.{newest, oldest, retained, no_versions}
use Rattle.bd_model.specs.Room.{owned, need, counted}
use Rattle.bd_model.specs.State.{VersionState, IsState, history, cut_of, last_number}
use Rattle.bd_model.specs.Step.{unchanged, restore, backup, free_extents, with_version, drop_oldest, expired_extents, step, emptied, fewer_by, drop_versions}
use Rattle.bd_model.specs.Laws.{grown, TakesOnlyTheFirst, RoomSuffices}
use Rattle.bd_model.proofs.CountedLemmas.{counted-above}
use Rattle.bd_model.proofs.ExpiryLemmas.{giving_up_takes_only_the_first, nothing_owned}
use Rattle.bd_model.proofs.LawLemmas.{need-first, owned-settled}
use Rattle.bd_model.proofs.StepLemmas.{either_backup, length-history, history-grown}

module _ (shape : Shape) where
  -- the state's settled store has the extents that it owns
  abbrev Fits : VersionState → Type 0
  Fits s = owned shape.extent (history shape s) Settled ≤ shape.extents

  fits-pushed : (held : ℕ) (s : VersionState) (stream : List ℕ) → IsState s → Fits s → need shape.extent (history shape s) (chunks (cut_of shape) stream) ≤ free_extents shape held s → Fits (with_version s stream)
  fits-pushed held s stream is fits enough =
      let h = history shape s in
      let w = chunks (cut_of shape) stream in
      let one : 1 ≤ shape.extent = omega (arith, shape.in_range.extent_low) in
      let room : owned shape.extent (grown h w) Settled ≤ shape.extents =
      ⊎_elim
      (λ some. omega (arith, owned-settled shape.extent h w one (omega (arith, length-history shape s))))
      (λ none.
      let nothing : h ≡ no_versions s.base = λ k. record { base = s.base; versions = map (chunks (cut_of shape)) (map (λ v. v.stream) (none.0 k)); expired = none.1 k } in
      omega (arith, ap (λ g. need shape.extent g w) nothing, need-first shape.extent s.base w one, ap (λ g. owned shape.extent (grown g w) Settled) nothing))
      is.some in
      subst (λ g. owned shape.extent g Settled ≤ shape.extents) (sym (history-grown shape s stream)) room

  fits-backup : (held : ℕ) (s : VersionState) (files : FileMap) (stream : List ℕ) → IsState s → Fits s → Fits (backup shape held s files stream).state
  fits-backup held s files stream is fits =
      let h = history shape s in
      let parts = chunks (cut_of shape) stream in
      let free = free_extents shape held s in
      let exact = counted-above shape.extent h (omega (arith, shape.in_range.extent_low)) parts free in
      either_backup shape (λ o. Fits o.state) held s files stream (λ more. fits)
      (λ few.
      let enough : counted shape.extent h parts free ≤ free = ltb-false free _ few in
      fits-pushed held s stream is fits (⊎_elim (λ more. absurd (omega (arith, exact.1 more))) (λ le. le) (cases_lt free (need shape.extent h parts))))

  fits-dropped : (d : ℕ) (s : VersionState) → 1 ≤ d → Fits s → Fits (drop_versions d s)
  fits-dropped d s some fits =
      let h = history shape s in
      elim (nat_le (length s.versions) (s.expired + d)) as (λ t. nat_le (length s.versions) (s.expired + d) ≡ t → Fits (cond t (emptied s) (fewer_by d s))) [
        | true ↦ λ e. omega (arith, nothing_owned shape.extent (s.base + length s.versions))
        | false ↦ λ e.
            let takes : TakesOnlyTheFirst d h Settled = giving_up_takes_only_the_first.settled d h some (omega (arith, leb-false (length s.versions) (s.expired + d) e, length-history shape s)) in
            omega (arith, takes.extents shape.extent)
      ] refl

  fits : (held : ℕ) (s : VersionState) (files : FileMap) (command : Command) → IsState s → Fits s → IfSome (step shape held s files command) (λ o. Fits o.state)
  fits held s files (Backup name) is fit =
      let h = history shape s in
      elim (nat_eq (newest h) last_number)
      as (λ t. IfSome (cond t (Some (unchanged s files FullNumbers)) (cond (nat_eq (retained h) shape.retain) (Some (unchanged s files (FullVersions shape.retain))) (option_map (backup shape held s files) (map.get files name)))) (λ o. Fits o.state)) [
        | true ↦ fit
        | false ↦
            elim (nat_eq (retained h) shape.retain)
            as (λ t. IfSome (cond t (Some (unchanged s files (FullVersions shape.retain))) (option_map (backup shape held s files) (map.get files name))) (λ o. Fits o.state)) [
              | true ↦ fit
              | false ↦
                  elim (map.get files name) as (λ t. IfSome (option_map (backup shape held s files) t) (λ o. Fits o.state)) [
                    | None ↦ tt
                    | Some stream ↦ fits-backup held s files stream is fit
                  ]
            ]
      ]
  fits held s files (Restore v name) is fit =
      let h = history shape s in
      elim (nat_eq (retained h) 0)
      as (λ t. IfSome (cond t (Some (unchanged s files (NothingRetained (Some v)))) (cond (nat_le (oldest h) v && nat_le v (newest h)) (Some (restore s files v name)) (Some (unchanged s files (NoVersion v (oldest h) (newest h)))))) (λ o. Fits o.state)) [
        | true ↦ fit
        | false ↦ elim (nat_le (oldest h) v && nat_le v (newest h)) as (λ t. IfSome (cond t (Some (restore s files v name)) (Some (unchanged s files (NoVersion v (oldest h) (newest h))))) (λ o. Fits o.state)) [ true ↦ fit | false ↦ fit ]
      ]
  fits held s files Expire is fit =
      let h = history shape s in
      elim (nat_eq (retained h) 0)
      as (λ t. IfSome (cond t (Some (unchanged s files (NothingRetained None))) (Some (record (unchanged s files (Expired (oldest h) (expired_extents shape.extent h))) { state = drop_oldest s }))) (λ o. Fits o.state)) [
        | true ↦ fit
        | false ↦ fits-dropped 1 s (omega arith) fit
      ]
  fits held s files Reorganise is fit = fit
  fits held s files Scrub is fit = fit
  fits held s files Listing is fit = fit

pub room_suffices : RoomSuffices
room_suffices = fits
