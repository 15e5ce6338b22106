-- Tests on rows in memory, and the rules on entries that they decide.
use Rattle.std.proofs.Common.{◌≡◌, ℕ, zero, suc, ◌+◌, ◌-◌, ◌^◌, ◌<◌, ◌≤◌, Bool, true, false, ◌&&◌, ◌||◌, ◌==◌, length, refl, ◌∙◌, ap, arith, nat_le, nat_lt}
use Rattle.std.proofs.lemmas.Bool.{le-leb, lt-ltb, eq-eqb}
use Rattle.bd_model.specs.Sizes.{Sizes}
use Rattle.bd_roll.specs.Catalogue.{Catalogue}
use Rattle.bd_roll.specs.Rules.{numbers_hold}

some_or_same : (k base newest : ℕ) → (k ≡ 0 → base ≡ newest) → (nat_lt 0 k || base == newest) ≡ true
some_or_same zero base newest same = eq-eqb base newest (same refl)
some_or_same (suc k) base newest same = ap (λ (b : Bool). b || base == newest) (lt-ltb 0 (suc k) (omega arith))

-- where the other rules on numbers hold, what is left is how many volumes there are
pub numbers_left : (s : Sizes) (c : Catalogue) → length c.versions ≤ s.retain → c.base + length c.versions ≤ c.newest
    → (length c.versions ≡ 0 → c.base ≡ c.newest) → c.newest < 2 ^ 32 → numbers_hold s c ≡ (length c.volumes == length c.versions - 1)
numbers_left s c few base same small =
    let k = length c.versions in
    let last = length c.volumes == k - 1 in
    ap (λ (b : Bool). b && nat_le (c.base + k) c.newest && (nat_lt 0 k || c.base == c.newest) && nat_lt c.newest (2 ^ 32) && last) (le-leb k s.retain few)
    ∙ ap (λ (b : Bool). b && (nat_lt 0 k || c.base == c.newest) && nat_lt c.newest (2 ^ 32) && last) (le-leb (c.base + k) c.newest base)
    ∙ ap (λ (b : Bool). b && nat_lt c.newest (2 ^ 32) && last) (some_or_same k c.base c.newest same)
    ∙ ap (λ (b : Bool). b && last) (lt-ltb c.newest (2 ^ 32) small)

-- of six tests the first that fails decides, and else the last one
module _ (p v t o w a : Bool) where
  pub second_fails : p ≡ true → v ≡ false → (p && v && t && o && w && a) ≡ false
  second_fails hp hv = ap (λ (b : Bool). b && v && t && o && w && a) hp ∙ ap (λ (b : Bool). b && t && o && w && a) hv

  pub fifth_fails : p ≡ true → v ≡ true → t ≡ true → o ≡ true → w ≡ false → (p && v && t && o && w && a) ≡ false
  fifth_fails hp hv ht ho hw =
      ap (λ (b : Bool). b && v && t && o && w && a) hp ∙ ap (λ (b : Bool). b && t && o && w && a) hv ∙ ap (λ (b : Bool). b && o && w && a) ht
      ∙ ap (λ (b : Bool). b && w && a) ho ∙ ap (λ (b : Bool). b && a) hw

  pub sixth_left : p ≡ true → v ≡ true → t ≡ true → o ≡ true → w ≡ true → (p && v && t && o && w && a) ≡ a
  sixth_left hp hv ht ho hw =
      ap (λ (b : Bool). b && v && t && o && w && a) hp ∙ ap (λ (b : Bool). b && t && o && w && a) hv ∙ ap (λ (b : Bool). b && o && w && a) ht
      ∙ ap (λ (b : Bool). b && w && a) ho ∙ ap (λ (b : Bool). b && a) hw
