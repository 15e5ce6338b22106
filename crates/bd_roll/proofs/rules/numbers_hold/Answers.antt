use Rattle.std.proofs.Common.{◌≡◌, ℕ, ◌-◌, ◌==◌, length, map, sym, ◌∙◌, ap, arith}
use Rattle.std.proofs.lemmas.List.{length-map}
use Rattle.bd_model.specs.Sizes.{sizes_of}
use Rattle.bd_roll.specs.Shown.{version_entry, volume_entry, catalogue_of_contents}
use Rattle.bd_roll.proofs.RowChecks.{numbers_left}
use Rattle.bd_roll.proofs.rules.numbers_hold.Goals as goal
use Rattle.bd_roll.proofs.rules.numbers_hold.Goals.{else-retained-eq0-via-then-retained-eq0+else-base-newest, else-retained-eq0-via-else-retained-eq0}

pub returns : goal.returns
returns c =
    let x = c.args.contents.now in
    let count : c.len-retained.result ≡ length (map version_entry x.versions.items) = omega (arith, c.len-retained.ensures, length-map x.versions.items version_entry) in
    let volumes : c.len.result ≡ length (map volume_entry x.volumes.items) = omega (arith, c.len.ensures, length-map x.volumes.items volume_entry) in
    ap (λ (n : ℕ). n == c.saturating_sub.result) volumes
    ∙ ap (λ (n : ℕ). length (map volume_entry x.volumes.items) == n) (c.saturating_sub.ensures ∙ ap (λ (k : ℕ). k - 1) count)
    ∙ sym (numbers_left (sizes_of c.args.shape.now) (catalogue_of_contents x) (omega (arith, c.retain.ensures, c.from.ensures)) (omega (arith, c.from-2.ensures, c.from-3.ensures))
    (λ none. elim c.else-retained-eq0.branch [
      | else-retained-eq0-via-then-retained-eq0+else-base-newest w ↦ omega arith
      | else-retained-eq0-via-else-retained-eq0 w ↦ absurd (omega arith)
    ])
    (omega arith))
