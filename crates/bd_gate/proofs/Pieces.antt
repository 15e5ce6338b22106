-- A log is what its pieces are.
use Rattle.std.proofs.Common.{◌≡◌, ◌≢◌, ℕ, zero, suc, ◌+◌, ◌≤◌, Bool, true, false, cond, List, [], ◌∷◌, ◌++◌, length, take, drop, refl, sym, ◌∙◌, ap, arith, append_assoc, leb-true, Option, Some, None, length-append, length-drop, length-take, take-append-drop, if◌then◌else◌}
use Rattle.std.specs.Prelude.{◌==◌}
use Rattle.std.specs.List.{concat}
use Rattle.std.specs.Int.{w32, from_be_bytes}
use Rattle.std.proofs.Math.Seq.{drop-append_seam}
use Rattle.std.proofs.lemmas.Bool.{le-leb, ne_eqb, eqb-true, eq-eqb}
use Rattle.std.proofs.lemmas.List.{drop-append-le, take-append-le}
use Rattle.bd_model.proofs.ListLemmas.{same_some}
use Rattle.bd_gate.specs.Superblock.{open_gate, byte_at}
use Rattle.bd_gate.specs.Replays.{ArePieces, HasLog, IsPiece, Replayed, content_of, fits_in, replayed, told_length}

-- what a log goes on to, once it is known whether the gate is open, whether the record fits, and what its step makes
abbrev beyond : {S : Type 0} → ℕ → (S → List ℕ → Option S) → ℕ → List ℕ → Option S → Option (Replayed S)
beyond n act at bytes None = None
beyond n act at bytes (Some after) = replayed n act after (at + 5 + told_length bytes) (drop (told_length bytes) (drop 5 bytes))

-- ---- bytes that begin with a piece

module _ (p rest : List ℕ) (long : 5 ≤ length p) where
  five : drop 5 (p ++ rest) ≡ drop 5 p ++ rest
  five = drop-append-le 5 p rest (omega (arith, long))

  told : told_length (p ++ rest) ≡ told_length p
  told =
      ap (λ b. from_be_bytes w32 (take 4 b)) (drop-append-le 1 p rest (omega (arith, long)))
      ∙ ap (from_be_bytes w32) (take-append-le 4 (drop 1 p) rest (omega (arith, long, length-drop 1 p)))

  gate : byte_at (p ++ rest) 0 ≡ byte_at p 0
  gate = first p rest (omega (arith, long)) where
    first : (xs ys : List ℕ) → 1 ≤ length xs → byte_at (xs ++ ys) 0 ≡ byte_at xs 0
    first [] ys some = absurd (omega (arith, some))
    first (x ∷ xs) ys some = refl

  module _ (size : length p ≡ 5 + told_length p) where
    left : length (drop 5 p) ≡ told_length p
    left = omega (arith, size, length-drop 5 p)

    content : content_of (p ++ rest) ≡ content_of p
    content = (λ k. take (told k) (five k)) ∙ take-append-le (told_length p) (drop 5 p) rest (omega (arith, left))

    behind : drop (told_length (p ++ rest)) (drop 5 (p ++ rest)) ≡ rest
    behind = (λ k. drop (told k) (five k)) ∙ ap (λ n. drop n (drop 5 p ++ rest)) (sym left) ∙ drop-append_seam (drop 5 p) rest

-- ---- one piece in front of others

module _ (S : Type 0) (act : S → List ℕ → Option S) (st after : S) (p rest : List ℕ) (is : IsPiece S act st after p) (more : 1 ≤ length rest) where
  long : 5 ≤ length p
  long = omega (arith, is.size)

  pub step : (at n : ℕ) → replayed (suc n) act st at (p ++ rest) ≡ replayed n act after (at + length p) rest
  step at n =
      let bytes = p ++ rest in
      let opens : (byte_at bytes 0 == open_gate) ≡ true = eq-eqb (byte_at bytes 0) open_gate (gate p rest long ∙ is.gate) in
      let fits : fits_in bytes ≡ true = le-leb (6 + told_length bytes) (length bytes) (omega (arith, told p rest long, is.size, length-append p rest, more)) in
      let end : at + 5 + told_length bytes ≡ at + length p = omega (arith, told p rest long, is.size) in
      ap (λ (b : Bool). if b then (if fits_in bytes then beyond n act at bytes (act st (content_of bytes)) else None) else Some (record { state = st; log_end = at })) opens
      ∙ ap (λ (b : Bool). if b then beyond n act at bytes (act st (content_of bytes)) else None) fits
      ∙ ap (beyond n act at bytes) (ap (act st) (content p rest long is.size) ∙ is.so)
      ∙ (λ k. replayed n act after (end k) (behind p rest long is.size k))

-- ---- all of them

ends : (S : Type 0) (act : S → List ℕ → Option S) (st : S) (at n gate : ℕ) (rest : List ℕ) → gate ≢ open_gate → replayed (suc n) act st at (gate ∷ rest) ≡ Some (record { state = st; log_end = at })
ends S act st at n gate rest shut =
    let bytes : List ℕ = gate ∷ rest in
    ap (λ (b : Bool). if b then (if fits_in bytes then beyond n act at bytes (act st (content_of bytes)) else None) else Some (record { state = st; log_end = at })) (ne_eqb gate open_gate shut)

pieces_replayed : (S : Type 0) (act : S → List ℕ → Option S) (ps : List (List ℕ)) (st last : S) (at n gate : ℕ) (rest : List ℕ) → gate ≢ open_gate → ArePieces S act st ps last → length (concat ps ++ (gate ∷ rest)) ≤ n
    → replayed n act st at (concat ps ++ (gate ∷ rest)) ≡ Some (record { state = last; log_end = at + length (concat ps) })
pieces_replayed S act ps st last at zero gate rest shut are room = absurd (omega (arith, room, length-append (concat ps) (gate ∷ rest)))
pieces_replayed S act [] st last at (suc n) gate rest shut are room =
    let end : at ≡ at + 0 = omega arith in
    ends S act st at n gate rest shut ∙ (λ k. Some (record { state = are k; log_end = end k }))
pieces_replayed S act (p ∷ ps) st last at (suc n) gate rest shut are room =
    let others : List ℕ = concat ps ++ (gate ∷ rest) in
    let apart : concat (p ∷ ps) ++ (gate ∷ rest) ≡ p ++ others = append_assoc p (concat ps) (gate ∷ rest) in
    let long = length-append (concat ps) (gate ∷ rest) in
    let end : at + length p + length (concat ps) ≡ at + length (concat (p ∷ ps)) = omega (arith, length-append p (concat ps)) in
    ap (replayed (suc n) act st at) apart
    ∙ step S act st are.0 p others are.1 (omega (arith, long)) at n
    ∙ pieces_replayed S act ps are.0 last (at + length p) n gate rest shut are.2 (omega (arith, room, ap length apart, length-append p others, are.1.size))
    ∙ ap (λ k. Some (record { state = last; log_end = k })) end

pub has_replayed : (S : Type 0) (act : S → List ℕ → Option S) (st : S) (at n : ℕ) (bytes : List ℕ) (r : (Replayed S)) → length bytes ≤ n → HasLog S act st at bytes r → replayed n act st at bytes ≡ Some r
has_replayed S act st at n bytes r room has =
    ap (replayed n act st at) has.so
    ∙ pieces_replayed S act has.pieces st r.state at n has.gate has.rest has.shut has.are (omega (arith, room, ap length has.so))
    ∙ ap (λ k. Some (record { state = r.state; log_end = k })) (sym has.end)

-- ---- and the pieces of what is replayed

module _ (S : Type 0) (act : S → List ℕ → Option S) (st : S) (bytes : List ℕ) (fits : fits_in bytes ≡ true) where
  abbrev q : ℕ
  q = told_length bytes

  abbrev p : List ℕ
  p = take (5 + q) bytes

  abbrev rest : List ℕ
  rest = drop (5 + q) bytes

  room : 6 + q ≤ length bytes
  room = leb-true (6 + q) (length bytes) fits

  size : length p ≡ 5 + q
  size = omega (arith, length-take (5 + q) bytes, room)

  whole : p ++ rest ≡ bytes
  whole = take-append-drop (5 + q) bytes

  same : told_length p ≡ q
  same = sym (told p rest (omega (arith, size))) ∙ ap told_length whole

  sized : length p ≡ 5 + told_length p
  sized = omega (arith, size, same)

  left_over : drop q (drop 5 bytes) ≡ rest
  left_over = sym ((λ k. drop (told_length (whole k)) (drop 5 (whole k)))) ∙ behind p rest (omega (arith, size)) sized

  piece : (after : S) → byte_at bytes 0 ≡ open_gate → act st (content_of bytes) ≡ Some after → IsPiece S act st after p
  piece after opens so = record {
    gate = sym (gate p rest (omega (arith, size))) ∙ ap (λ b. byte_at b 0) whole ∙ opens;
    size = sized;
    so = ap (act st) (sym (content p rest (omega (arith, size)) sized) ∙ ap content_of whole) ∙ so;
  }

  in_front : (after : S) (at : ℕ) (r : (Replayed S)) → byte_at bytes 0 ≡ open_gate → act st (content_of bytes) ≡ Some after → HasLog S act after (at + 5 + q) (drop q (drop 5 bytes)) r → HasLog S act st at bytes r
  in_front after at r opens so has = record {
    pieces = p ∷ has.pieces;
    gate = has.gate;
    rest = has.rest;
    so = sym whole ∙ ap (λ b. p ++ b) (sym left_over ∙ has.so) ∙ sym (append_assoc p (concat has.pieces) (has.gate ∷ has.rest));
    shut = has.shut;
    are = (after, piece after opens so, has.are);
    end = omega (arith, has.end, size, length-append p (concat has.pieces));
  }

  some_left : 1 ≤ length (drop q (drop 5 bytes))
  some_left = omega (arith, ap length left_over, length-drop (5 + q) bytes, room)

-- a closed gate in front is all of the log
shut_log : (S : Type 0) (act : S → List ℕ → Option S) (st : S) (at : ℕ) (bytes : List ℕ) (r : (Replayed S)) → 1 ≤ length bytes → (byte_at bytes 0 == open_gate) ≡ false → Some (record { state = st; log_end = at }) ≡ Some r → HasLog S act st at bytes r
shut_log S act st at [] r some shut is = absurd (omega (arith, some))
shut_log S act st at (gate ∷ rest) r some shut is =
    let end : record { state = st; log_end = at } ≡ r = same_some is in record {
      pieces = [];
      gate = gate;
      rest = rest;
      so = refl;
      shut = λ e. let yes : (gate == open_gate) ≡ true = eq-eqb gate open_gate e in let no : true ≡ false = sym yes ∙ shut in cc;
      are = ap (λ (x : (Replayed S)). x.state) end;
      end = sym (ap (λ (x : (Replayed S)). x.log_end) end) ∙ omega arith;
    }

pub replayed_has : (S : Type 0) (act : S → List ℕ → Option S) (n : ℕ) (st : S) (at : ℕ) (bytes : List ℕ) (r : (Replayed S)) → 1 ≤ length bytes → replayed n act st at bytes ≡ Some r → HasLog S act st at bytes r
replayed_has S act zero st at bytes r some is = let no : None ≡ Some r = is in absurd (cc)
replayed_has S act (suc n) st at bytes r some is =
    elim (byte_at bytes 0 == open_gate) as (λ (b : Bool). (byte_at bytes 0 == open_gate) ≡ b
    → cond b (cond (fits_in bytes) (beyond n act at bytes (act st (content_of bytes))) None) (Some (record { state = st; log_end = at })) ≡ Some r → HasLog S act st at bytes r) [
      | false ↦ λ shut so. shut_log S act st at bytes r some shut so
      | true ↦ λ opens so. fitting (λ later place more left go. replayed_has S act n later place more r left go) (eqb-true (byte_at bytes 0) open_gate opens) so
    ] refl is
  where
    Goes : Type 0
    Goes = (later : S) (place : ℕ) (more : List ℕ) → 1 ≤ length more → replayed n act later place more ≡ Some r → HasLog S act later place more r

    goes : Goes → byte_at bytes 0 ≡ open_gate → fits_in bytes ≡ true → (o : Option S) → act st (content_of bytes) ≡ o → beyond n act at bytes o ≡ Some r → HasLog S act st at bytes r
    goes by opens fits None made so = let no : None ≡ Some r = so in absurd (cc)
    goes by opens fits (Some after) made so = in_front S act st bytes fits after at r opens made (by after (at + 5 + told_length bytes) (drop (told_length bytes) (drop 5 bytes)) (some_left S act st bytes fits) so)

    fitting : Goes → byte_at bytes 0 ≡ open_gate → cond (fits_in bytes) (beyond n act at bytes (act st (content_of bytes))) None ≡ Some r → HasLog S act st at bytes r
    fitting by opens so =
        elim (fits_in bytes) as (λ (b : Bool). fits_in bytes ≡ b → cond b (beyond n act at bytes (act st (content_of bytes))) None ≡ Some r → HasLog S act st at bytes r) [
          | false ↦ λ _ none. let no : None ≡ Some r = none in absurd (cc)
          | true ↦ λ fits go. goes by opens fits (act st (content_of bytes)) refl go
        ] refl so
