-- The length of the next chunk, from where the scan came to.
use Rattle.std.proofs.Common.{◌≡◌, ℕ, zero, suc, ◌+◌, ◌-◌, ◌<◌, ◌≤◌, Bool, true, false, cond, List, [], ◌∷◌, ◌++◌, refl, sym, ◌∙◌, ap, arith, length, ltb, leb, Some, None, Option, find, unwrap_or, is_some, length-append, ⊎_elim, ◌&&◌, ◌||◌}
use Rattle.std.specs.List.{range_with_len}
use Rattle.std.specs.Option.{option_or}
use Rattle.std.proofs.lemmas.List.Folds.{find-append}
use Rattle.std.proofs.lemmas.Bool.{false≢true, or_cases, or_left, or_right, and_parts, and_from, leb-true, ltb-true, le-leb, lt-leb, lt-ltb, cases_lt, cond-true, cond-false}
use Rattle.bd_model.specs.Chunks.{Cut, numbers, is_candidate, longest, length_to_candidate, chunk_len, is_decided}
use Rattle.bd_model.specs.Laws.{IsCut}
use Rattle.bd_model.proofs.ListLemmas.{find-range_with_len, numbers-split, numbers-cons}
use Rattle.bd_model.proofs.ChunkLemmas.{candidate-append, chunk_len-append}
use Rattle.bd_gear.specs.Chunking.{next_len}

find-never : (xs : List ℕ) → find (λ n. false) xs ≡ None
find-never [] = refl
find-never (x ∷ xs) = find-never xs

-- nothing is found where all fail
pub find-none : (p : ℕ → Bool) (a b : ℕ) → ((n : ℕ) → a ≤ n → n ≤ b → p n ≡ false) → find p (numbers a b) ≡ None
find-none p a b fails = find-range_with_len p (λ n. false) a (b + 1 - a) (λ n low high. fails n low (omega arith)) ∙ find-never (numbers a b)

-- the first that passes is found
pub find-first : (p : ℕ → Bool) (a n b : ℕ) → 1 ≤ a → a ≤ n → n ≤ b → ((m : ℕ) → a ≤ m → m < n → p m ≡ false) → p n ≡ true → find p (numbers a b) ≡ Some n
find-first p a n b one low high fails passes =
    let place : n - 1 + 1 ≡ n = omega arith in
    let before : find p (numbers a (n - 1)) ≡ None = find-none p a (n - 1) (λ m above below. fails m above (omega arith)) in
    ap (find p) (numbers-split a (n - 1) b (omega arith) (omega arith))
    ∙ find-append p (numbers a (n - 1)) (numbers (n - 1 + 1) b)
    ∙ (λ k. option_or (before k) (find p (numbers (place k) b)))
    ∙ ap (find p) (numbers-cons n b high)
    ∙ cond-true (p n) (Some n) (find p (numbers (n + 1) b)) passes

-- a length that is given was tested, and is the one that was meant
pub given-parts : (b : Bool) (m n : ℕ) → cond b (Some m) None ≡ Some n → (b ≡ true) × (m ≡ n)
given-parts true m n e = (refl, cc)
given-parts false m n e = cc

module _ (cut : Cut) (s : List ℕ) (start : ℕ) (finished : Bool) where
  abbrev is_next : Bool
  is_next = is_decided cut s start || (finished && ltb start (length s))

  pub next_len-candidate : (n : ℕ) → length_to_candidate cut s start ≡ Some n → next_len cut s start finished ≡ Some n
  next_len-candidate n e =
      let decided : is_decided cut s start ≡ true = or_right (leb cut.most (length s - start)) (is_some (length_to_candidate cut s start)) (ap is_some e) in
      cond-true is_next (Some (chunk_len cut s start)) None (or_left (is_decided cut s start) (finished && ltb start (length s)) decided)
      ∙ ap (λ o. Some (unwrap_or o (longest cut s start))) e

  pub next_len-full : length_to_candidate cut s start ≡ None → cut.most ≤ length s - start → next_len cut s start finished ≡ Some cut.most
  next_len-full e full =
      let decided : is_decided cut s start ≡ true = or_left (leb cut.most (length s - start)) (is_some (length_to_candidate cut s start)) (le-leb cut.most (length s - start) full) in
      let size : longest cut s start ≡ cut.most = omega arith in
      cond-true is_next (Some (chunk_len cut s start)) None (or_left (is_decided cut s start) (finished && ltb start (length s)) decided)
      ∙ ap (λ o. Some (unwrap_or o (longest cut s start))) e ∙ ap Some size

  undecided : length_to_candidate cut s start ≡ None → length s - start < cut.most → is_decided cut s start ≡ false
  undecided e short = (λ k. lt-leb cut.most (length s - start) short k || is_some (e k))

  pub next_len-rest : length_to_candidate cut s start ≡ None → length s - start < cut.most → finished ≡ true → start < length s → next_len cut s start finished ≡ Some (length s - start)
  next_len-rest e short end some =
      let size : longest cut s start ≡ length s - start = omega arith in
      cond-true is_next (Some (chunk_len cut s start)) None (or_right (is_decided cut s start) (finished && ltb start (length s)) (and_from finished (ltb start (length s)) end (lt-ltb start (length s) some)))
      ∙ ap (λ o. Some (unwrap_or o (longest cut s start))) e ∙ ap Some size

  pub next_len-none : length_to_candidate cut s start ≡ None → length s - start < cut.most → (finished && ltb start (length s)) ≡ false → next_len cut s start finished ≡ None
  next_len-none e short rest =
      cond-false is_next (Some (chunk_len cut s start)) None (λ k. undecided e short k || rest k)

still_some : (o q : Option ℕ) → is_some o ≡ true → is_some (option_or o q) ≡ true
still_some None q is = absurd (false≢true is)
still_some (Some v) q is = refl

-- what follows a stream leaves a chunk decided
pub is_decided-append : (cut : Cut) (s t : List ℕ) (start : ℕ) → IsCut cut → is_decided cut s start ≡ true → is_decided cut (s ++ t) start ≡ true
is_decided-append cut s t start is decided =
    ⊎_elim
    (λ full.
    let enough : cut.most ≤ length s - start = leb-true cut.most (length s - start) full in
    or_left (leb cut.most (length (s ++ t) - start)) (is_some (length_to_candidate cut (s ++ t) start)) (le-leb cut.most (length (s ++ t) - start) (omega (arith, enough, length-append s t))))
    (λ some. or_right (leb cut.most (length (s ++ t) - start)) (is_some (length_to_candidate cut (s ++ t) start)) (ap is_some (candidate-append cut s t start is) ∙ still_some (length_to_candidate cut s start) _ some))
    (or_cases (leb cut.most (length s - start)) (is_some (length_to_candidate cut s start)) decided)

pub next_len-append : (cut : Cut) (s t : List ℕ) (start n : ℕ) → IsCut cut → next_len cut s start false ≡ Some n → next_len cut (s ++ t) start false ≡ Some n
next_len-append cut s t start n is e =
    let parts = given-parts (is_decided cut s start || false) (chunk_len cut s start) n e in
    let decided : is_decided cut s start ≡ true = ⊎_elim (λ d. d) (λ f. absurd (false≢true f)) (or_cases (is_decided cut s start) false parts.0) in
    cond-true (is_decided cut (s ++ t) start || false) (Some (chunk_len cut (s ++ t) start)) None (or_left (is_decided cut (s ++ t) start) false (is_decided-append cut s t start is decided))
    ∙ ap Some (chunk_len-append cut s t start is decided ∙ parts.1)

-- a list in which something was found is not empty
found-within : (p : ℕ → Bool) (a n : ℕ) → is_some (find p (range_with_len a n)) ≡ true → 1 ≤ n
found-within p a zero is = absurd (false≢true is)
found-within p a (suc n) is = omega arith

decided-within : (cut : Cut) (s : List ℕ) (start : ℕ) → IsCut cut → is_decided cut s start ≡ true → start < length s
decided-within cut s start is decided =
    let test : ℕ → Bool = λ n. is_candidate cut.bits s (start + n - 1) in
    let few = longest cut s start + 1 - cut.least in
    ⊎_elim
    (λ full. let enough : cut.most ≤ length s - start = leb-true cut.most (length s - start) full in omega arith)
    (λ some. let any : 1 ≤ few = found-within test cut.least few some in omega arith)
    (or_cases (leb cut.most (length s - start)) (is_some (length_to_candidate cut s start)) decided)

-- a chunk whose length is given has its first byte in the stream
pub next_len-within : (cut : Cut) (s : List ℕ) (start n : ℕ) (finished : Bool) → IsCut cut → next_len cut s start finished ≡ Some n → (start < length s) × (chunk_len cut s start ≡ n)
next_len-within cut s start n finished is e =
    let some = ltb start (length s) in
    let parts = given-parts (is_decided cut s start || (finished && some)) (chunk_len cut s start) n e in
    (⊎_elim (λ d. decided-within cut s start is d) (λ r. ltb-true start (length s) (and_parts finished some r).1) (or_cases (is_decided cut s start) (finished && some) parts.0), parts.1)

pub next_len-decided : (cut : Cut) (s : List ℕ) (start n : ℕ) (finished : Bool) → finished ≡ false → next_len cut s start finished ≡ Some n → is_decided cut s start ≡ true
next_len-decided cut s start n finished going e =
    let some = ltb start (length s) in
    let parts = given-parts (is_decided cut s start || (finished && some)) (chunk_len cut s start) n e in
    ⊎_elim (λ d. d) (λ r. absurd (false≢true (sym going ∙ (and_parts finished some r).0))) (or_cases (is_decided cut s start) (finished && some) parts.0)

none≢some : {n : ℕ} → None ≡ Some n → ⊥
none≢some e = cc

-- at the end of input, none is given only where nothing is left
pub next_len-end : (cut : Cut) (s : List ℕ) (start : ℕ) (finished : Bool) → finished ≡ true → next_len cut s start finished ≡ None → length s ≤ start
next_len-end cut s start finished end e =
    ⊎_elim
    (λ less. absurd (none≢some (sym e ∙ cond-true (is_decided cut s start || (finished && ltb start (length s))) (Some (chunk_len cut s start)) None (or_right (is_decided cut s start) (finished && ltb start (length s)) (and_from finished (ltb start (length s)) end (lt-ltb start (length s) less))))))
    (λ le. le)
    (cases_lt start (length s))
