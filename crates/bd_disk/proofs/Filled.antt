-- The stable bytes, with one byte at each dirty place.
use Rattle.std.proofs.Common.{◌≡◌, inl, inr, ⊎_elim, ℕ, zero, suc, ◌+◌, ◌-◌, ◌<◌, List, length, replicate, get_or, Option, None, ◌∙◌, ap, arith}
use Rattle.std.proofs.lemmas.List.{get_or-replicate, length-replicate}
use Rattle.bd_disk.specs.Images.{InRange, overwritten}
use Rattle.bd_disk.specs.History.{History, After, Put, Idle, IsFilled, Now}
use Rattle.bd_disk.specs.Log.{skips}
use Rattle.bd_disk.specs.declared.touch.Touch.{Touch}
use Rattle.bd_disk.proofs.AgreeLemmas.{in_range, length-overwritten, overwritten_elsewhere, overwritten_there}

pub filled_now : {h : History} {filler : ℕ} {image : List ℕ} → IsFilled h filler image → Now h image
filled_now f = record { clean = record { size = f.size; each = f.clean } }

replicate_there : (xs : List ℕ) (at n x place : ℕ) → InRange at n place → place < length xs → get_or (overwritten xs at (replicate n x)) place 0 ≡ x
replicate_there xs at n x place r lt =
    let k = place - at in
    let e : place ≡ at + k = omega (arith, r.0) in
    let within : k < n = omega (arith, r.0, r.1) in
    let size = length-replicate n x in
    ap (λ p. get_or (overwritten xs at (replicate n x)) p 0) e ∙ overwritten_there xs at (replicate n x) k (omega arith) (omega arith) ∙ get_or-replicate n k x 0 within

pub put_filled : (h : History) (at filler : ℕ) (bytes image : List ℕ) → IsFilled h filler image → IsFilled (After h (Put at bytes)) filler (overwritten image at (replicate (length bytes) filler))
put_filled h at filler bytes image f =
    let n = length bytes in
    let size = length-replicate n filler in
    let apart : (place : ℕ) → (InRange at n place → ⊥) → get_or (overwritten image at (replicate n filler)) place 0 ≡ get_or image place 0 =
    λ place out. overwritten_elsewhere image at (replicate n filler) place (λ r. out (r.0, omega (arith, r.1))) in
    record {
      size = length-overwritten image at (replicate n filler) ∙ f.size;
      clean = λ place out. apart place (λ r. out (inl r)) ∙ f.clean place (λ d. out (inr d));
      dirty = λ place lt d.
          let lt' : place < length image = omega (arith, length-overwritten image at (replicate n filler)) in
          elim (in_range at n place) [
            | inl r ↦ replicate_there image at n filler place r lt'
            | inr out ↦ apart place out ∙ f.dirty place lt' (⊎_elim (λ r. absurd (out r)) (λ old. old) d)
          ];
    }

pub idle_filled : {h : History} {filler : ℕ} {image : List ℕ} (touch : Option Touch) → IsFilled h filler image → IsFilled (After h (Idle touch)) filler image
idle_filled touch f = record { size = f.size; clean = f.clean; dirty = f.dirty }

pub skips_filled : (n : ℕ) (h : History) (filler : ℕ) (image : List ℕ) → IsFilled h filler image → IsFilled (skips n h) filler image
skips_filled zero h filler image f = f
skips_filled (suc n) h filler image f = idle_filled None (skips_filled n h filler image f)
