-- What a Vec has once it was written over.
use Rattle.std.proofs.Common.{◌≡◌, ℕ, List, ◌++◌, length, take, drop, ◌∙◌}
use Rattle.std.proofs.lemmas.List.{take_at}

-- what a Vec has once a part of it, that is all of it, was written over
pub written_back : {X : Type 0} (len : ℕ) (now old first : List X) → length now ≡ length first → length first ≡ len → take len (now ++ drop (length now) old) ≡ now
written_back len now old first same sized = take_at now (drop (length now) old) len (same ∙ sized)
