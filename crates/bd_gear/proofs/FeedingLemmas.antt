-- What a chunker was fed and what was taken from it, carried along its calls.
use Rattle.std.proofs.Common.{◌≡◌, ℕ, ◌+◌, ◌-◌, ◌^◌, ◌<◌, ◌≤◌, min, Bool, true, false, cond, List, [], ◌∷◌, ◌++◌, refl, sym, ◌∙◌, ap, subst, arith, length, take, drop, ltb, eqb, Some, None, IfSome, IfNone, slice_range, length-append, length-take-le, take-append-drop, append_assoc, ⊎_elim, ◌&&◌, ◌||◌}
use Rattle.std.specs.List.{concat}
use Rattle.std.proofs.Math.Seq.{take-append-add, take-add, drop-append_seam}
use Rattle.std.proofs.lemmas.List.{append-nil, take-append-le}
use Rattle.std.proofs.lemmas.List.Sums.{fold-append}
use Rattle.std.proofs.lemmas.List.Folds.{concat-append}
use Rattle.std.proofs.lemmas.Bool.{false≢true, le-ltb, lt-ltb, ltb-true, eqb-true, eqb-false, cases_lt, and_parts, or_parts, or_cases, cond-true}
use Rattle.bd_model.specs.Chunks.{Cut, window_hash, is_candidate, longest, length_to_candidate, chunk_len, chunks, chunks_after}
use Rattle.bd_model.specs.Laws.{IsCut, rolled}
use Rattle.bd_model.proofs.HashLemmas.{the_hash_rolls}
use Rattle.bd_model.proofs.ChunkLemmas.{is_candidate-append, chunks_after-step, chunks_after-end, AreFirstChunks, AreFirstChunks-feed, AreFirstChunks-advance}
use Rattle.bd_gear.specs.Rolling.{rolled_over, rolled_on, ScansTo}
use Rattle.bd_gear.specs.Chunking.{Chunking, next_given, next_len}
use Rattle.bd_gear.specs.Feeding.{HasFed, place_after}
use Rattle.bd_gear.specs.Laws.{TheTakenAreAFront, PiecesMakeNoDifference}
use Rattle.bd_gear.specs.Seeking.{Seeks, LooksOn}
use Rattle.bd_gear.proofs.NextLemmas.{find-none, find-first, given-parts, next_len-candidate, next_len-full, next_len-rest, next_len-none, next_len-append, next_len-within, next_len-decided, next_len-end}

-- the hash rolled on over the bytes behind these
rolled-held : (front held : List ℕ) (from k hash : ℕ) → from ≤ k → hash ≡ rolled (take (length front + from) (front ++ held)) →
    rolled (take (length front + k) (front ++ held)) ≡ rolled_on hash (slice_range held from k)
rolled-held front held from k hash le is =
    let more : k ≡ from + (k - from) = omega arith in
    let rest = take (k - from) (drop from held) in
    let split : take (length front + k) (front ++ held) ≡ take (length front + from) (front ++ held) ++ rest =
    take-append-add front held k
    ∙ ap (λ n. front ++ take n held) more
    ∙ ap (λ xs. front ++ xs) (take-add from (k - from) held)
    ∙ sym (append_assoc front (take from held) rest)
    ∙ ap (λ xs. xs ++ rest) (sym (take-append-add front held from)) in
    ap rolled split ∙ fold-append rolled_over 0 (take (length front + from) (front ++ held)) rest ∙ ap (λ h. rolled_on h rest) (sym is)

-- the window's hash at the end of the first k of them
window_hash-held : (front held : List ℕ) (from k hash : ℕ) → from ≤ k → 1 ≤ k → k ≤ length held → hash ≡ rolled (take (length front + from) (front ++ held)) →
    window_hash (front ++ held) (length front + k - 1) ≡ rolled_on hash (slice_range held from k)
window_hash-held front held from k hash le one within is =
    let next : length front + k - 1 + 1 ≡ length front + k = omega arith in
    the_hash_rolls.whole (front ++ held) (length front + k - 1) (omega (arith, length-append front held))
    ∙ ap (λ n. rolled (take n (front ++ held))) next
    ∙ rolled-held front held from k hash le is

-- where the scan of the bytes held comes to
module _ (cut : Cut) (front held : List ℕ) (scanned hash count end : ℕ) (candidate : Bool) (is : IsCut cut)
    (hash_is : hash ≡ rolled (take (length front + scanned) (front ++ held)))
    (passed : (n : ℕ) → cut.least ≤ n → n ≤ scanned → is_candidate cut.bits (front ++ held) (length front + n - 1) ≡ false)
    (to : ScansTo cut held scanned hash count end candidate) where
  abbrev test : ℕ → Bool
  test n = is_candidate cut.bits (front ++ held) (length front + n - 1)

  left : length (front ++ held) - length front ≡ length held
  left = omega (arith, length-append front held)

  within : count ≤ length held
  within = omega (arith, to.within)

  end_is : end ≡ rolled (take (length front + count) (front ++ held))
  end_is = to.hash_is ∙ sym (rolled-held front held scanned count hash to.forward hash_is)

  -- no length up to the scan's end is one to a candidate, but that end itself
  before : (n : ℕ) → cut.least ≤ n → n < count → test n ≡ false
  before n low high =
      ⊎_elim
      (λ new.
      le-ltb (window_hash (front ++ held) (length front + n - 1)) (2 ^ (64 - cut.bits))
      (let e = window_hash-held front held scanned n hash (omega arith) (omega (arith, is.0)) (omega (arith, within)) hash_is in omega (arith, e, to.before n new low high)))
      (λ old. passed n low old)
      (cases_lt scanned n)

  here : candidate ≡ true → test count ≡ true
  here found =
      let at = to.here found in
      lt-ltb (window_hash (front ++ held) (length front + count - 1)) (2 ^ (64 - cut.bits))
      (let e = window_hash-held front held scanned count hash to.forward (omega (arith, is.0, at.1)) within hash_is in omega (arith, e, at.2, to.hash_is))

  upto : candidate ≡ false → (n : ℕ) → cut.least ≤ n → n ≤ count → test n ≡ false
  upto none n low high =
      ⊎_elim
      (λ less. before n low less)
      (λ last.
      ⊎_elim
      (λ new.
      le-ltb (window_hash (front ++ held) (length front + n - 1)) (2 ^ (64 - cut.bits))
      (let same : n ≡ count = omega arith in
      let e = window_hash-held front held scanned n hash (omega arith) (omega (arith, is.0)) (omega (arith, within)) hash_is in
      omega (arith, e, (to.all none).1 (omega arith) (omega arith), to.hash_is, ap (λ m. rolled_on hash (slice_range held scanned m)) same)))
      (λ old. passed n low old)
      (cases_lt scanned n))
      (cases_lt n count)

  none-found : candidate ≡ false → length_to_candidate cut (front ++ held) (length front) ≡ None
  none-found none = find-none test cut.least (longest cut (front ++ held) (length front)) (λ n low high. upto none n low (omega (arith, left, (to.all none).0)))

  same_test : ltb (length front) (length (front ++ held)) ≡ ltb 0 (length held)
  same_test =
      ⊎_elim
      (λ some. lt-ltb (length front) (length (front ++ held)) (omega (arith, left)) ∙ sym (lt-ltb 0 (length held) some))
      (λ none. le-ltb (length front) (length (front ++ held)) (omega (arith, length-append front held)) ∙ sym (le-ltb 0 (length held) none))
      (cases_lt 0 (length held))

  -- the next length, in terms of the scan
  next_len-scan : (finished : Bool) → next_len cut (front ++ held) (length front) finished ≡ cond (candidate || (eqb count cut.most || (finished && ltb 0 count))) (Some count) None
  next_len-scan finished =
      let next = next_len cut (front ++ held) (length front) finished in
      let full = eqb count cut.most in
      let rest = finished && ltb 0 count in
      elim candidate as (λ b. candidate ≡ b → next ≡ cond (b || (full || rest)) (Some count) None) [
        | true ↦ λ found.
            let at = to.here found in
            next_len-candidate cut (front ++ held) (length front) finished count
            (find-first test cut.least count (longest cut (front ++ held) (length front)) is.0 at.1 (omega (arith, left, to.within)) before (here found))
        | false ↦ λ none.
            let all : count ≡ min cut.most (length held) = (to.all none).0 in
            elim full as (λ b. full ≡ b → next ≡ cond (b || rest) (Some count) None) [
              | true ↦ λ most.
                  let same : count ≡ cut.most = eqb-true count cut.most most in
                  next_len-full cut (front ++ held) (length front) finished (none-found none) (omega (arith, left)) ∙ ap Some (sym same)
              | false ↦ λ less.
                  let other : ¬ (count ≡ cut.most) = eqb-false count cut.most less in
                  let short : length held < cut.most = omega arith in
                  let same : count ≡ length held = omega arith in
                  let test_is : (finished && ltb (length front) (length (front ++ held))) ≡ rest = (λ k. finished && (same_test ∙ ap (ltb 0) (sym same)) k) in
                  elim rest as (λ b. rest ≡ b → next ≡ cond b (Some count) None) [
                    | true ↦ λ some.
                        let parts = and_parts finished (ltb 0 count) some in
                        next_len-rest cut (front ++ held) (length front) finished (none-found none) (omega (arith, left)) parts.0 (omega (arith, left, ltb-true 0 count parts.1))
                        ∙ ap Some (left ∙ sym same)
                    | false ↦ λ none_left. next_len-none cut (front ++ held) (length front) finished (none-found none) (omega (arith, left)) (test_is ∙ none_left)
                  ] refl
            ] refl
      ] refl

-- the chunker after a scan
HasFed-scan : {cut : Cut} {s : List ℕ} {taken : List (List ℕ)} {c : Chunking} (count end : ℕ) (found : Bool) → HasFed cut s taken c → c.found ≡ false →
    Seeks c.cut c.held c.scanned c.hash c.finished count end found →
    (next_len cut s (place_after taken) c.finished ≡ cond found (Some count) None) × HasFed cut s taken (record c { scanned = count; hash = end; found = found })
HasFed-scan {cut} {s} {taken} {c} count end found h seeks seek =
    let sought = subst (λ (k : Cut). Seeks k c.held c.scanned c.hash c.finished count end found) h.cut_is seek in
    let candidate = sought.candidate in
    let to = sought.scan in
    let found_is = sought.found_is in
    let front = concat taken in
    let hash_is : c.hash ≡ rolled (take (length front + c.scanned) (front ++ c.held)) = h.hash_is ∙ ap (λ xs. rolled (take (length front + c.scanned) xs)) (sym h.bytes) in
    let passed : (n : ℕ) → cut.least ≤ n → n ≤ c.scanned → is_candidate cut.bits (front ++ c.held) (length front + n - 1) ≡ false =
    λ n low high. ap (λ xs. is_candidate cut.bits xs (length front + n - 1)) h.bytes ∙ h.passed seeks n low high in
    let next : next_len cut s (length front) c.finished ≡ cond found (Some count) None =
    ap (λ xs. next_len cut xs (length front) c.finished) (sym h.bytes)
    ∙ next_len-scan cut front c.held c.scanned c.hash count end candidate h.is_cut hash_is passed to c.finished
    ∙ ap (λ b. cond b (Some count) None) (sym found_is) in (
      next,
      record {
        cut_is = h.cut_is;
        is_cut = h.is_cut;
        bytes = h.bytes;
        now = h.now;
        later = h.later;
        within = within cut front c.held c.scanned c.hash count end candidate h.is_cut hash_is passed to;
        hash_is = end_is cut front c.held c.scanned c.hash count end candidate h.is_cut hash_is passed to ∙ ap (λ xs. rolled (take (length front + count) xs)) h.bytes;
        passed = λ none n low high.
            ap (λ xs. is_candidate cut.bits xs (length front + n - 1)) (sym h.bytes)
            ∙ upto cut front c.held c.scanned c.hash count end candidate h.is_cut hash_is passed to (or_parts candidate (eqb count cut.most || (c.finished && ltb 0 count)) (sym found_is ∙ none)).0 n low high;
        next = λ some. next ∙ cond-true found (Some count) None some;
      },
    )

-- before anything was fed
pub HasFed-none : (cut : Cut) → IsCut cut → HasFed cut [] [] (record { cut = cut; held = []; scanned = 0; hash = 0; found = false; finished = false })
HasFed-none cut is = record {
  cut_is = refl;
  is_cut = is;
  bytes = refl;
  now = refl;
  later = λ _ more. refl;
  within = omega arith;
  hash_is = refl;
  passed = λ _ n low high. absurd (omega (arith, is.0));
  next = λ some. absurd (false≢true some);
}

-- before the end of input what was taken stays, whatever follows
first_chunks : {cut : Cut} {s : List ℕ} {taken : List (List ℕ)} {c : Chunking} → HasFed cut s taken c → c.finished ≡ false → AreFirstChunks cut s taken (place_after taken)
first_chunks {cut} {s} {taken} {c} h going = record {
  within = omega (arith, length-append (concat taken) c.held, ap length h.bytes);
  first = h.later going;
}

-- more bytes
pub HasFed-feed : {cut : Cut} {s : List ℕ} {taken : List (List ℕ)} {c : Chunking} (t : List ℕ) → c.finished ≡ false → HasFed cut s taken c → HasFed cut (s ++ t) taken (record c { held = c.held ++ t })
HasFed-feed {cut} {s} {taken} {c} t going h =
    let start = place_after taken in
    let long : start + length c.held ≡ length s = sym (length-append (concat taken) c.held) ∙ ap length h.bytes in
    let stays : take (start + c.scanned) (s ++ t) ≡ take (start + c.scanned) s = take-append-le (start + c.scanned) s t (omega (arith, h.within)) in
    record {
      cut_is = h.cut_is;
      is_cut = h.is_cut;
      bytes = sym (append_assoc (concat taken) c.held t) ∙ ap (λ xs. xs ++ t) h.bytes;
      now = h.later going t;
      later = λ _. (AreFirstChunks-feed t (first_chunks h going)).first;
      within = omega (arith, h.within, length-append c.held t);
      hash_is = h.hash_is ∙ ap rolled (sym stays);
      passed = λ none n low high. is_candidate-append cut.bits s t (start + n - 1) (omega (arith, h.within, h.is_cut.0)) ∙ h.passed none n low high;
      next = λ some.
          ap (next_len cut (s ++ t) start) going
          ∙ next_len-append cut s t start c.scanned h.is_cut (ap (next_len cut s start) (sym going) ∙ h.next some);
    }

-- a chunk is taken
pub HasFed-advance : {cut : Cut} {s : List ℕ} {taken : List (List ℕ)} {c : Chunking} (n : ℕ) → next_given c ≡ Some n → HasFed cut s taken c →
    HasFed cut s (taken ++ take n c.held ∷ []) (record c { held = drop n c.held; scanned = 0; found = false })
HasFed-advance {cut} {s} {taken} {c} n is_given h =
    let start = place_after taken in
    let chunk = take n c.held in
    let got = given-parts c.found c.scanned n is_given in
    let next : next_len cut s start c.finished ≡ Some n = h.next got.0 ∙ ap Some got.1 in
    let size : length chunk ≡ n = length-take-le n c.held (omega (arith, h.within, got.1)) in
    let inside = next_len-within cut s start n c.finished h.is_cut next in
    let whole : concat (taken ++ chunk ∷ []) ≡ concat taken ++ chunk = concat-append taken (chunk ∷ []) ∙ ap (λ xs. concat taken ++ xs) (append-nil chunk) in
    let place : start + n ≡ place_after (taken ++ chunk ∷ []) = omega (arith, ap length whole, length-append (concat taken) chunk, size) in
    let rest : drop start s ≡ c.held = ap (drop start) (sym h.bytes) ∙ drop-append_seam (concat taken) c.held in
    let width : start + chunk_len cut s start - start ≡ n = omega (arith, inside.1) in
    let slice : slice_range s start (start + chunk_len cut s start) ≡ chunk = (λ k. take (width k) (rest k)) in
    let end : start + chunk_len cut s start ≡ place_after (taken ++ chunk ∷ []) = ap (λ m. start + m) inside.1 ∙ place in
    record {
      cut_is = h.cut_is;
      is_cut = h.is_cut;
      bytes = ap (λ xs. xs ++ drop n c.held) whole ∙ append_assoc (concat taken) chunk (drop n c.held) ∙ ap (λ xs. concat taken ++ xs) (take-append-drop n c.held) ∙ h.bytes;
      now =
          h.now
          ∙ ap (λ cs. taken ++ cs) (chunks_after-step cut s start h.is_cut inside.0)
          ∙ (λ k. taken ++ slice k ∷ chunks_after cut s (end k))
          ∙ sym (append_assoc taken (chunk ∷ []) (chunks_after cut s (place_after (taken ++ chunk ∷ []))));
      later = λ going.
          (subst (λ m. AreFirstChunks cut s (taken ++ chunk ∷ []) m) end
          (subst (λ x. AreFirstChunks cut s (taken ++ x ∷ []) (start + chunk_len cut s start)) slice
          (AreFirstChunks-advance h.is_cut inside.0 (next_len-decided cut s start n c.finished going next) (first_chunks h going)))).first;
      within = omega arith;
      hash_is = let same : start + c.scanned ≡ place_after (taken ++ chunk ∷ []) + 0 = omega (arith, place, got.1) in h.hash_is ∙ ap (λ m. rolled (take m s)) same;
      passed = λ _ m low high. absurd (omega (arith, h.is_cut.0));
      next = λ some. absurd (false≢true some);
    }

-- all chunks are taken
pub HasFed-all : {cut : Cut} {s : List ℕ} {taken : List (List ℕ)} {c : Chunking} → HasFed cut s taken c → c.finished ≡ true → next_len cut s (place_after taken) c.finished ≡ None → taken ≡ chunks cut s
HasFed-all {cut} {s} {taken} {c} h end none =
    sym (append-nil taken) ∙ ap (λ cs. taken ++ cs) (sym (chunks_after-end cut s (place_after taken) h.is_cut (next_len-end cut s (place_after taken) c.finished end none))) ∙ sym h.now

-- the chunker has looked for its next chunk
pub LooksOn-seek : (c : Chunking) (count end : ℕ) (found : Bool) → c.found ≡ false → 1 ≤ c.cut.most → Seeks c.cut c.held c.scanned c.hash c.finished count end found →
    LooksOn c (record c { scanned = count; hash = end; found = found })
LooksOn-seek c count end found seeks most to =
    let full = eqb count c.cut.most in
    let rest = c.finished && ltb 0 count in
    record {
      next = λ cut s taken h. (HasFed-scan count end found h seeks to).0;
      fed = λ cut s taken h. (HasFed-scan count end found h seeks to).1;
      within = elim found as (λ b. found ≡ b → IfSome (cond b (Some count) None) (λ n. (1 ≤ n) × (n ≤ length c.held))) [
        | true ↦ λ some. (
          ⊎_elim
              (λ candidate. let at = to.scan.here candidate in omega arith)
              (λ other.
              ⊎_elim
              (λ is_full. omega (arith, eqb-true count c.cut.most is_full))
              (λ is_rest. omega (arith, ltb-true 0 count (and_parts c.finished (ltb 0 count) is_rest).1))
              (or_cases full rest other))
              (or_cases to.candidate (full || rest) (sym to.found_is ∙ some)),
          omega (arith, to.scan.within),
        )
        | false ↦ λ none. tt
      ] refl;
      short = elim found as (λ b. found ≡ b → IfNone (cond b (Some count) None) (length c.held < c.cut.most)) [
        | true ↦ λ some. tt
        | false ↦ λ none.
            let parts = or_parts to.candidate (full || rest) (sym to.found_is ∙ none) in
            let other : ¬ (count ≡ c.cut.most) = eqb-false count c.cut.most (or_parts full rest parts.1).0 in
            omega (arith, (to.scan.all parts.0).0)
      ] refl;
      cut = refl;
      held = refl;
      finished = refl;
    }

-- nothing is held, so all chunks are taken
HasFed-held : {cut : Cut} {s : List ℕ} {taken : List (List ℕ)} {c : Chunking} → HasFed cut s taken c → c.held ≡ [] → taken ≡ chunks cut s
HasFed-held {cut} {s} {taken} {c} h none =
    let whole : length s ≡ place_after taken = ap length (sym h.bytes ∙ ap (λ xs. concat taken ++ xs) none ∙ append-nil (concat taken)) in
    sym (append-nil taken) ∙ ap (λ cs. taken ++ cs) (sym (chunks_after-end cut s (place_after taken) h.is_cut (omega arith))) ∙ sym h.now

pub the_taken_are_a_front : TheTakenAreAFront
the_taken_are_a_front = record {
  now = λ cut s taken c h. h.now;
  later = λ cut s more taken c h going. h.later going more;
  all = λ cut s taken c h none. HasFed-held h none;
}

pub pieces_make_no_difference : PiecesMakeNoDifference
pieces_make_no_difference cut s taken others c d h k none none' = HasFed-held h none ∙ sym (HasFed-held k none')
