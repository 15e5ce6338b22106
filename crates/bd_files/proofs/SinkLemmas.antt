-- The moments after a put.
use Rattle.std.proofs.Common.{◌≡◌, ℕ, List, [], ◌∷◌, inl, inr, ap, ◌∙◌, append-nil, take}
use Rattle.std.proofs.lemmas.List.Elements.{filter_map-append}
use Rattle.bd_files.specs.Sinks.{Handed, HandsPart, part, moments_of}

-- no moment is noted of a part
pub hands_part-moments : {bytes : List ℕ} {old new : List Handed} → HandsPart bytes old new → moments_of new ≡ moments_of old
hands_part-moments {bytes} {old} {new} hands = elim hands.so [
  | inl same ↦ ap moments_of same
  | inr more ↦ ap moments_of more.1 ∙ filter_map-append (λ h. h.moment) old (part (take more.0 bytes) ∷ []) ∙ append-nil (moments_of old)
]
