-- What a log becomes where other bytes stand behind its records.
use Rattle.std.proofs.Common.{◌≡◌, ◌≢◌, ℕ, ◌+◌, ◌-◌, ◌<◌, ◌≤◌, ◌^◌, List, [], ◌∷◌, ◌++◌, length, take, subst, refl, sym, ◌∙◌, ap, arith, append_assoc, Option, Some, length-append}
use Rattle.std.specs.List.{concat}
use Rattle.std.proofs.Math.Seq.{take-append_seam}
use Rattle.std.proofs.lemmas.List.{append-nil}
use Rattle.std.proofs.lemmas.Nat.{from_be_bytes-to_be_bytes_4}
use Rattle.bd_gate.specs.Superblock.{open_gate}
use Rattle.bd_gate.specs.Replays.{ArePieces, HasLog, IsPiece, Replayed, content_of, logged, replayed, told_length}
use Rattle.bd_gate.proofs.Pieces.{has_replayed, replayed_has}

-- what is logged is a piece
module _ (it : List ℕ) (small : length it < 2 ^ 32) where
  told : told_length (logged it) ≡ length it
  told = from_be_bytes-to_be_bytes_4 (length it) small

  content : content_of (logged it) ≡ it
  content = ap (λ n. take n it) told ∙ ap (take (length it)) (sym (append-nil it)) ∙ take-append_seam it []

  pub logged_piece : (S : Type 0) (act : S → List ℕ → Option S) (st after : S) → act st it ≡ Some after → IsPiece S act st after (logged it)
  logged_piece S act st after so = record { gate = refl; size = omega (arith, told); so = ap (act st) content ∙ so }

concat_more : (ps : List (List ℕ)) (p : List ℕ) → concat (ps ++ (p ∷ [])) ≡ concat ps ++ p
concat_more [] p = append-nil p
concat_more (x ∷ xs) p = ap (λ b. x ++ b) (concat_more xs p) ∙ sym (append_assoc x (concat xs) p)

pieces_more : (S : Type 0) (act : S → List ℕ → Option S) (ps : List (List ℕ)) (st last after : S) (p : List ℕ) → ArePieces S act st ps last → IsPiece S act last after p → ArePieces S act st (ps ++ (p ∷ [])) after
pieces_more S act [] st last after p are is = (after, subst (λ x. IsPiece S act x after p) (sym are) is, refl)
pieces_more S act (x ∷ xs) st last after p are is = (are.0, are.1, pieces_more S act xs are.0 last after p are.2 is)

module _ (S : Type 0) (act : S → List ℕ → Option S) (st : S) (at n : ℕ) (bytes : List ℕ) (r : Replayed S) (some : 1 ≤ length bytes) (is : replayed n act st at bytes ≡ Some r) where
  has : HasLog S act st at bytes r
  has = replayed_has S act n st at bytes r some is

  front : take (r.log_end - at) bytes ≡ concat has.pieces
  front =
      let k : r.log_end - at ≡ length (concat has.pieces) = omega (arith, has.end) in
      (λ i. take (k i) (has.so i)) ∙ take-append_seam (concat has.pieces) (has.gate ∷ has.rest)

  -- behind a closed gate anything may stand
  pub stays : (new : List ℕ) (gate : ℕ) (rest : List ℕ) → length new ≤ n → gate ≢ open_gate → new ≡ take (r.log_end - at) bytes ++ (gate ∷ rest) → replayed n act st at new ≡ Some r
  stays new gate rest room shut so = has_replayed S act st at n new r room (record {
    pieces = has.pieces;
    gate = gate;
    rest = rest;
    so = so ∙ ap (λ b. b ++ (gate ∷ rest)) front;
    shut = shut;
    are = has.are;
    end = has.end;
  })

  -- a record that can be taken is taken once its gate is open
  pub grows : (new it : List ℕ) (after : S) (gate : ℕ) (rest : List ℕ) → length new ≤ n → gate ≢ open_gate → length it < 2 ^ 32 → act r.state it ≡ Some after →
      new ≡ take (r.log_end - at) bytes ++ (logged it ++ (gate ∷ rest)) → replayed n act st at new ≡ Some (record { state = after; log_end = r.log_end + 5 + length it })
  grows new it after gate rest room shut small taken so = has_replayed S act st at n new _ room (record {
    pieces = has.pieces ++ (logged it ∷ []);
    gate = gate;
    rest = rest;
    so = so ∙ ap (λ b. b ++ (logged it ++ (gate ∷ rest))) front ∙ sym (append_assoc (concat has.pieces) (logged it) (gate ∷ rest)) ∙ ap (λ b. b ++ (gate ∷ rest)) (sym (concat_more has.pieces (logged it)));
    shut = shut;
    are = pieces_more S act has.pieces st r.state after (logged it) has.are (logged_piece it small S act r.state after taken);
    end = omega (arith, has.end, ap length (concat_more has.pieces (logged it)), length-append (concat has.pieces) (logged it));
  })
