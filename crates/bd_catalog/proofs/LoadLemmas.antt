-- What a load finds in the newest half.
use Rattle.std.proofs.Common.{◌≡◌, inl, inr, ℕ, ◌≤◌, List, ◌++◌, length, take, Option, Some, Ok, Err, sym, ◌∙◌, ap, subst, arith, le-leb, if◌then◌else◌, nat_le}
use Rattle.std.proofs.lemmas.Grind.{common_steps}
use Rattle.bd_disk.specs.History.{contents}
use Rattle.bd_disk.specs.Runs.{ReadAt, Reads}
use Rattle.bd_disk.specs.declared.disk.Disk.{Ghosts}
use Rattle.bd_disk.proofs.LookedPlaces.{looks_wider}
use Rattle.bd_disk.proofs.RunLemmas.{both_reads, wider_reads}
use Rattle.bd_model.specs.declared.place.Place.TheVariants.{Payload}
use Rattle.bd_model.specs.Sizes.{Sizes, payload_room}
use Rattle.bd_gate.specs.Finding.{IsFound}
use Rattle.bd_gate.specs.Halves.{Half, half_at, log_place, newest_half, payload_of, InFronts, InHalves, InPayload}
use Rattle.bd_gate.proofs.Fronts.{fronts_in_halves, half_number, in_halves}
use Rattle.bd_roll.specs.Catalogue.{Catalogue}
use Rattle.bd_roll.specs.Rules.{catalogue_of}
use Rattle.bd_catalog.specs.Loading.{InLoad}
use Rattle.bd_catalog.specs.Opening.{Found, opened_half, opened_payload, with_log}

module _ (s : Sizes) (image : List ℕ) (half : Half) where
  -- the newest half fits, so its payload is what counts
  pub in_half : newest_half s image ≡ Some half.number → half ≡ half_at s image half.number → half.length ≤ payload_room s
      → opened_half s image (newest_half s image) ≡ opened_payload s half image (catalogue_of s (payload_of s half image))
  in_half newest is fits =
      ap (opened_half s image) newest
      ∙ ap (λ h. if nat_le h.length (payload_room s) then opened_payload s h image (catalogue_of s (payload_of s h image)) else Err Payload) (sym is)
      ∙ ap (λ b. if b then opened_payload s half image (catalogue_of s (payload_of s half image)) else Err Payload) (le-leb half.length (payload_room s) fits)

  -- and what the payload spells is what an opening finds
  pub load_finds : (found : Option Catalogue) (payload : List ℕ) → newest_half s image ≡ Some half.number → half ≡ half_at s image half.number → half.length ≤ payload_room s
      → payload ≡ payload_of s half image → catalogue_of s payload ≡ found
      → opened_half s image (newest_half s image) ≡ opened_payload s half image found
  load_finds found payload newest is fits read spells =
      in_half newest is fits ∙ ap (opened_payload s half image) (ap (catalogue_of s) (sym read) ∙ spells)

-- in that half, with an empty log
pub placed_finds : (s : Sizes) (half : Half) (image : List ℕ) (found placed : Found) → found.sizes ≡ s
    → placed ≡ record found { half = half; log_end = log_place found.sizes half } → with_log s half found.catalogue image ≡ Ok placed
placed_finds s half image found placed sizes is =
    ap (λ z. Ok (record { sizes = z; half = half; catalogue = found.catalogue; log_end = log_place z half })) (sym sizes) ∙ ap (λ f. Ok f) (sym is)

-- a buffer that was filled whole
pub filled : (n : ℕ) (bytes rest : List ℕ) → length bytes ≡ n → take n (bytes ++ rest) ≡ bytes
filled n bytes rest long = grind (arith, common_steps)

-- ---- where it reads

-- at more places, where the disk tells
pub wider_told : {D : Type 0} {g : Ghosts D} {Places : ℕ → Type 0} (Wider : ℕ → Type 0) {a b : D} → (g.tells → (place : ℕ) → Places place → Wider place) → Reads g Places a b → Reads g Wider a b
unfolding ReadAt
wider_told Wider sub f = record { bytes = f.bytes; calls = λ told. (looks_wider Wider (sub told) (f.calls told).0, (f.calls told).1) }

-- the fronts alone, and then the payload of the newest half
pub fronts_read : {D : Type 0} {g : Ghosts D} {s : Sizes} {image : List ℕ} {a b : D} → Reads g (InFronts s) a b → Reads g (InLoad s image) a b
fronts_read fronts = wider_reads _ (λ place front. inl front) fronts

pub load_read : {D : Type 0} {g : Ghosts D} {s : Sizes} {a b c : D} (half : Half) → Reads g (InFronts s) a b → (g.tells → IsFound s (contents (g.history a)) (Ok half)) → half.length ≤ payload_room s
    → Reads g (InPayload s half) b c → Reads g (InLoad s (contents (g.history a))) a c
load_read {D} {g} {s} {a} {b} {c} half fronts found fits payload =
    both_reads (fronts_read fronts)
    (wider_told _
    (λ told place inside. inr (record {
      number = half.number;
      newest = (found told).0;
      fits = subst (λ (h : Half). h.length ≤ payload_room s) (found told).1 fits;
      inside = subst (λ (h : Half). InPayload s h place) (found told).1 inside;
    }))
    payload)

-- all of it lies in the halves
pub load_in_halves : (s : Sizes) (image : List ℕ) (place : ℕ) → InLoad s image place → InHalves s place
load_in_halves s image place (inl front) = fronts_in_halves s place front
load_in_halves s image place (inr newest) =
    let small : newest.number ≤ 1 = half_number s image newest.number newest.newest in
    in_halves s newest.number 10 (half_at s image newest.number).length place (omega arith) (omega (arith, newest.fits)) newest.inside
