-- What the texts that lie one behind the other are, and one more behind them.
use Rattle.std.proofs.Common.{◌≡◌, ℕ, ◌≤◌, List, [], ◌∷◌, ◌++◌, length, take, drop, refl, sym, ap, ◌∙◌, arith, length-drop}
use Rattle.std.proofs.Math.Seq.{take-length}
use Rattle.std.proofs.lemmas.List.{take-append-drop, take-append-le, drop-append-le}
use Rattle.std.proofs.lemmas.List.Sums.{sum_by-cons}
use Rattle.bd_files.specs.Sinks.{Handed, whole, moments_of, written_of}
use Rattle.bd_files.specs.Texts.{AreTexts, cut_into}

-- no bytes are the empty list
none : (bytes : List ℕ) → length bytes ≡ 0 → [] ≡ bytes
none [] long = refl
none (b ∷ bytes) long = absurd (omega (arith, long))

-- the first text is within what was written
fits : (m n : ℕ) (ms ns bytes : List ℕ) → AreTexts (m ∷ ms) (n ∷ ns) bytes → n ≤ length bytes
fits m n ms ns bytes are = omega (arith, sum_by-cons (λ l. l) n ns)

-- the texts behind the first
rest : (m n : ℕ) (ms ns bytes : List ℕ) → AreTexts (m ∷ ms) (n ∷ ns) bytes → AreTexts ms ns (drop n bytes)
rest m n ms ns bytes are = record { paired = omega arith; full = omega (arith, sum_by-cons (λ l. l) n ns, length-drop n bytes, fits m n ms ns bytes are) }

-- the moments are those that were noted
pub moments_cut : (ms ns bytes : List ℕ) → AreTexts ms ns bytes → moments_of (cut_into ms ns bytes) ≡ ms
moments_cut [] ns bytes are = refl
moments_cut (m ∷ ms) [] bytes are = absurd (omega arith)
moments_cut (m ∷ ms) (n ∷ ns) bytes are = ap (λ (l : List ℕ). m ∷ l) (moments_cut ms ns (drop n bytes) (rest m n ms ns bytes are))

-- the texts are together what was written
pub written_cut : (ms ns bytes : List ℕ) → AreTexts ms ns bytes → written_of (cut_into ms ns bytes) ≡ bytes
written_cut [] [] bytes are = none bytes (sym are.full)
written_cut [] (n ∷ ns) bytes are = absurd (omega arith)
written_cut (m ∷ ms) [] bytes are = absurd (omega arith)
written_cut (m ∷ ms) (n ∷ ns) bytes are = ap (λ l. take n bytes ++ l) (written_cut ms ns (drop n bytes) (rest m n ms ns bytes are)) ∙ take-append-drop n bytes

-- a text more
pub cut-append : (ms ns bytes more : List ℕ) (m : ℕ) → AreTexts ms ns bytes → cut_into (ms ++ m ∷ []) (ns ++ length more ∷ []) (bytes ++ more) ≡ cut_into ms ns bytes ++ whole m more ∷ []
cut-append [] [] [] more m are = ap (λ l. whole m l ∷ []) (take-length more)
cut-append [] [] (b ∷ bytes) more m are = absurd (omega arith)
cut-append [] (n ∷ ns) bytes more m are = absurd (omega arith)
cut-append (first ∷ ms) [] bytes more m are = absurd (omega arith)
cut-append (first ∷ ms) (n ∷ ns) bytes more m are =
    let fit = fits first n ms ns bytes are in
    ap (λ l. whole first l ∷ cut_into (ms ++ m ∷ []) (ns ++ length more ∷ []) (drop n (bytes ++ more))) (take-append-le n bytes more fit)
    ∙ ap (λ l. whole first (take n bytes) ∷ cut_into (ms ++ m ∷ []) (ns ++ length more ∷ []) l) (drop-append-le n bytes more fit)
    ∙ ap (λ (l : List Handed). whole first (take n bytes) ∷ l) (cut-append ms ns (drop n bytes) more m (rest first n ms ns bytes are))
