-- A frame that is put together in a buffer.
use Rattle.std.proofs.Common.{◌≡◌, ℕ, ◌+◌, ◌≤◌, List, [], ◌∷◌, ◌++◌, length, take, drop, refl, ◌∙◌, ap, arith, append_assoc, length-append, length-take, length-drop}
use Rattle.std.proofs.lemmas.List.{drop-drop, drop_at, length-take-le}
use Rattle.std.proofs.lemmas.List.Edits.{paste_all, length-paste}
use Rattle.std.proofs.Math.Seq.{paste, take-append_seam, take-append-add}
use Rattle.bd_wire.proofs.Written.{take-paste_after}
use Rattle.bd_model.specs.Records.{eight}
use Rattle.bd_gate.specs.Superblock.{closed_gate}
use Rattle.bd_gate.specs.Commits.{frame_of}

-- turn and length before what begins with the payload, and a gate behind the payload, make a frame
pub frame_written : (turn : ℕ) (payload rest buffer : List ℕ) → drop 9 buffer ≡ payload ++ rest → length payload + 10 ≤ length buffer →
    take (length payload + 10) (paste (paste (paste buffer 0 (turn ∷ []) 1) 1 (eight (length payload)) 8) (length payload + 9) (closed_gate ∷ []) 1) ≡ frame_of turn payload
frame_written turn payload rest buffer behind room =
    let n = length payload in
    let one = paste buffer 0 (turn ∷ []) 1 in
    let two = paste one 1 (eight n) 8 in
    let one_size : length one ≡ length buffer = length-paste buffer 0 (turn ∷ []) 1 (omega arith) (omega arith) in
    let two_size : length two ≡ length one = length-paste one 1 (eight n) 8 (omega (arith, one_size)) (omega arith) in
    let first : one ≡ turn ∷ drop 1 buffer = paste_all buffer 0 (turn ∷ []) 1 refl in
    let second : two ≡ turn ∷ (eight n ++ (payload ++ rest)) =
    ap (λ (b : List ℕ). paste b 1 (eight n) 8) first
    ∙ paste_all (turn ∷ drop 1 buffer) 1 (eight n) 8 refl
    ∙ ap (λ (t : List ℕ). turn ∷ (eight n ++ t)) (drop-drop 8 1 buffer ∙ behind) in
    let front : take (n + 9) two ≡ turn ∷ (eight n ++ payload) =
    ap (λ (m : ℕ). take m two) (omega arith)
    ∙ ap (take (9 + n)) second
    ∙ take-append-add (turn ∷ eight n) (payload ++ rest) n
    ∙ ap (λ (t : List ℕ). turn ∷ (eight n ++ t)) (take-append_seam payload rest) in
    let whole : take (n + 9 + 1) (paste two (n + 9) (closed_gate ∷ []) 1) ≡ turn ∷ (eight n ++ payload ++ (closed_gate ∷ [])) =
    take-paste_after two (turn ∷ (eight n ++ payload)) (closed_gate ∷ []) (n + 9) 1 front (omega (arith, one_size, two_size)) refl in
    ap (λ (m : ℕ). take m (paste two (n + 9) (closed_gate ∷ []) 1)) (omega arith) ∙ whole

-- so does the payload with what stood behind it, put in from the tenth byte on
pub frame_put : (turn n : ℕ) (payload rest into part behind one two three : List ℕ) → n ≡ length payload → 9 ≤ length into → part ≡ payload ++ rest → n + 10 ≤ length (take 9 into ++ (part ++ behind)) →
    one ≡ paste (take 9 into ++ (part ++ behind)) 0 (turn ∷ []) 1 → two ≡ paste one 1 (eight n) 8 → three ≡ paste two (n + 9) (closed_gate ∷ []) 1 → take (n + 10) three ≡ frame_of turn payload
frame_put turn n payload rest into part behind one two three size front part_is room one_is two_is three_is =
    let buffer = take 9 into ++ (part ++ behind) in
    let filled : ℕ → List ℕ = λ m. paste (paste (paste buffer 0 (turn ∷ []) 1) 1 (eight m) 8) (m + 9) (closed_gate ∷ []) 1 in
    let all : three ≡ filled n =
    three_is
    ∙ ap (λ (b : List ℕ). paste b (n + 9) (closed_gate ∷ []) 1) (two_is ∙ ap (λ (b : List ℕ). paste b 1 (eight n) 8) one_is) in
    let inner : drop 9 buffer ≡ payload ++ (rest ++ behind) =
    drop_at (take 9 into) (part ++ behind) 9 (length-take-le 9 into front)
    ∙ ap (λ (p : List ℕ). p ++ behind) part_is
    ∙ append_assoc payload rest behind in
    ap (take (n + 10)) all
    ∙ ap (λ (m : ℕ). take (m + 10) (filled m)) size
    ∙ frame_written turn payload (rest ++ behind) buffer inner (omega (arith, size, room))

-- a list that was written back over its front has the length that it had
pub length-written_back : (n : ℕ) (part whole : List ℕ) → n ≡ length whole → length part ≡ length whole → length (take n (part ++ drop (length part) whole)) ≡ length whole
length-written_back n part whole size same =
    omega (arith, length-take n (part ++ drop (length part) whole), length-append part (drop (length part) whole), length-drop (length part) whole)
