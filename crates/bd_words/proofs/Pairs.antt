-- Words in pairs.
use Rattle.std.proofs.Common.{◌≡◌, ℕ, ◌<◌, ◌≤◌, List, [], ◌∷◌, ◌-◌, length, map, take, drop, get_or, Bool, ◌&&◌, None, false, refl, arith}
use Rattle.std.proofs.lemmas.List.{take_rest}
use Rattle.bd_words.specs.Words.{are_options, is_asked_once, value_of}

-- the first two words and the others
pub first_two : {A : Type 0} (f : A → List ℕ) (words : List A) (a b : A) → 2 ≤ length words → a ≡ get_or words 0 a → b ≡ get_or words 1 b → map f words ≡ f a ∷ f b ∷ map f (drop 2 words)
first_two f [] a b two e0 e1 = absurd (omega arith)
first_two f (x ∷ []) a b two e0 e1 = absurd (omega arith)
first_two f (x ∷ y ∷ words) a b two e0 e1 = cc (e0, e1)

-- no pair, no value
pub no_pair : {A : Type 0} (f : A → List ℕ) (words : List A) (option : List ℕ) → length words < 2 → None ≡ value_of option (map f words)
no_pair f [] option short = refl
no_pair f (x ∷ []) option short = refl
no_pair f (x ∷ y ∷ words) option short = absurd (omega arith)

pub half_pair : {A : Type 0} (f : A → List ℕ) (words : List A) → 1 ≤ length words → length words < 2 → false ≡ are_options (map f words)
half_pair f [] some short = absurd (omega arith)
half_pair f (x ∷ []) some short = refl
half_pair f (x ∷ y ∷ words) some short = absurd (omega arith)

-- words that begin with a pair are options where the pair is one, and the others are
pub pair_asked : {A : Type 0} (f : A → List ℕ) (words : List A) (a b : A) (word value : List ℕ) (asked : Bool)
    → 2 ≤ length words → a ≡ get_or words 0 a → b ≡ get_or words 1 b → word ≡ f a → value ≡ f b
    → asked ≡ is_asked_once word value (map f (take (length words - 2) (drop 2 words)))
    → are_options (map f words) ≡ (asked && are_options (map f (take (length words - 2) (drop 2 words))))
pair_asked f words a b word value asked two e0 e1 ea eb is =
    let rest : take (length words - 2) (drop 2 words) ≡ drop 2 words = take_rest words 2 in
    rw (first_two f words a b two e0 e1, is, rest, ea, eb) refl
