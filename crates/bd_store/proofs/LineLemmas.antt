-- The lines of versions, one after the other.
use Rattle.std.proofs.Common.{◌≡◌, ℕ, zero, suc, ◌+◌, List, [], ◌∷◌, ◌++◌, take, sym, ◌∙◌, ap, arith, add-one, Some, slice_get}
use Rattle.bd_model.proofs.ListLemmas.{same_some}
use Rattle.bd_roll.specs.Catalogue.{VersionEntry}
use Rattle.bd_catalog.specs.Standing.{lines_from, line_of}

lines-suc : (v : ℕ) (es : List VersionEntry) (i : ℕ) (e : VersionEntry) → slice_get es i ≡ Some e → lines_from v (take (suc i) es) ≡ lines_from v (take i es) ++ line_of (v + i) e ∷ []
lines-suc v [] i e there = absurd (cc there)
lines-suc v (x ∷ es) zero e there =
    let same : x ≡ e = same_some there in
    let at : v ≡ v + 0 = omega arith in
    λ k. line_of (at k) (same k) ∷ []
lines-suc v (x ∷ es) (suc i) e there =
    let at : v + 1 + i ≡ v + suc i = omega arith in
    ap (λ ls. line_of v x ∷ ls) (lines-suc (v + 1) es i e there ∙ ap (λ n. lines_from (v + 1) (take i es) ++ line_of n e ∷ []) at)

-- one line more
pub lines-more : (v : ℕ) (es : List VersionEntry) (i number : ℕ) (e : VersionEntry) → slice_get es i ≡ Some e → number ≡ v + i → lines_from v (take (i + 1) es) ≡ lines_from v (take i es) ++ line_of number e ∷ []
lines-more v es i number e there is =
    ap (λ n. lines_from v (take n es)) (add-one i) ∙ lines-suc v es i e there ∙ ap (λ n. lines_from v (take i es) ++ line_of n e ∷ []) (sym is)
