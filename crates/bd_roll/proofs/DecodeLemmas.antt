-- Which bytes spell a catalogue that obeys the rules.
use Rattle.std.proofs.Common.{◌≡◌, ℕ, ◌<◌, Bool, true, false, ◌&&◌, cond, List, [], ◌∷◌, ◌++◌, length, refl, sym, ◌∙◌, ap, arith, bytes_eq, Option, Some, None, length-append}
use Rattle.std.proofs.lemmas.List.{append-nil}
use Rattle.bd_model.proofs.ChunkListLemmas.{bytes_eq-refl, bytes_eq-same}
use Rattle.bd_model.proofs.ListLemmas.{left_and, right_and}
use Rattle.bd_model.specs.Sizes.{Sizes}
use Rattle.bd_roll.specs.Catalogue.{Catalogue}
use Rattle.bd_roll.specs.Reading.{Took, SpellsNone}
use Rattle.bd_roll.specs.Rules.{obeys, catalogue_of}
use Rattle.bd_roll.specs.Spelling.{spelled, read_catalogue}
use Rattle.bd_roll.specs.Widths.{IsSpellable}
use Rattle.bd_roll.proofs.RuleLemmas.{IsBounded, spellable}
use Rattle.bd_roll.proofs.ReadBack.{read_catalogue-append, read_catalogue-spelled}

-- the catalogue, if it obeys the rules and the bytes are its spelling
abbrev accepted : Sizes → List ℕ → Catalogue → Option Catalogue
accepted s bytes c = cond (obeys s c && bytes_eq (spelled c) bytes) (Some c) None

nil_of : (rest : List ℕ) → length rest ≡ 0 → rest ≡ []
nil_of [] h = refl
nil_of (x ∷ xs) h = absurd (omega arith)

module _ (s : Sizes) where
  pub catalogue_of-spelled : IsBounded s → (c : Catalogue) → obeys s c ≡ true → catalogue_of s (spelled c) ≡ Some c
  catalogue_of-spelled bounded c held =
      ap (accepted s (spelled c)) (read_catalogue-spelled c (spellable s bounded c held))
      ∙ ap (λ (b : Bool). cond (b && bytes_eq (spelled c) (spelled c)) (Some c) None) held
      ∙ ap (λ (b : Bool). cond b (Some c) None) (bytes_eq-refl (spelled c))

  -- what is accepted obeys the rules and is spelled by the bytes
  pub accepted_by : (bytes : List ℕ) (c : Catalogue) → catalogue_of s bytes ≡ Some c → (obeys s c ≡ true) × (bytes ≡ spelled c)
  accepted_by bytes c is =
      let r = read_catalogue bytes in
      elim (obeys s r && bytes_eq (spelled r) bytes) as (λ b. (obeys s r && bytes_eq (spelled r) bytes) ≡ b → cond b (Some r) None ≡ Some c → (obeys s c ≡ true) × (bytes ≡ spelled c)) [
        | true ↦ λ e some.
            let same : r ≡ c = cc in (
              ap (obeys s) (sym same) ∙ left_and (obeys s r) (bytes_eq (spelled r) bytes) e,
              sym (bytes_eq-same (spelled r) bytes (right_and (obeys s r) (bytes_eq (spelled r) bytes) e)) ∙ ap spelled same,
            )
        | false ↦ λ e no. cc
      ] refl is

  pub none_unread : IsBounded s → (bytes : List ℕ) → SpellsNone spelled IsSpellable bytes → catalogue_of s bytes ≡ None
  none_unread bounded bytes none =
      let r = read_catalogue bytes in
      elim (obeys s r && bytes_eq (spelled r) bytes) as (λ b. (obeys s r && bytes_eq (spelled r) bytes) ≡ b → cond b (Some r) None ≡ None) [
        | true ↦ λ e. absurd (none r [] (spellable s bounded r (left_and (obeys s r) (bytes_eq (spelled r) bytes) e))
            (sym (bytes_eq-same (spelled r) bytes (right_and (obeys s r) (bytes_eq (spelled r) bytes) e)) ∙ sym (append-nil (spelled r))))
        | false ↦ λ _. refl
      ] refl

  module _ (c : Catalogue) (bytes rest : List ℕ) (took : Took spelled IsSpellable c bytes rest) where
    read_is : read_catalogue bytes ≡ c
    read_is = ap read_catalogue took.so ∙ read_catalogue-append c rest took.fit

    pub none_longer : 0 < length rest → catalogue_of s bytes ≡ None
    none_longer more =
        ap (accepted s bytes) read_is
        ∙ elim (obeys s c && bytes_eq (spelled c) bytes) as (λ b. (obeys s c && bytes_eq (spelled c) bytes) ≡ b → cond b (Some c) None ≡ None) [
          | true ↦ λ e. absurd (omega (arith, ap length (bytes_eq-same (spelled c) bytes (right_and (obeys s c) (bytes_eq (spelled c) bytes) e)), ap length took.so, length-append (spelled c) rest))
          | false ↦ λ _. refl
        ] refl

    pub none_broken : false ≡ obeys s c → catalogue_of s bytes ≡ None
    none_broken broken = ap (accepted s bytes) read_is ∙ ap (λ (b : Bool). cond (b && bytes_eq (spelled c) bytes) (Some c) None) (sym broken)

    pub whole_of : length rest ≡ 0 → bytes ≡ spelled c
    whole_of none = took.so ∙ ap (λ (r : List ℕ). spelled c ++ r) (nil_of rest none) ∙ append-nil (spelled c)

    pub some_obeyed : length rest ≡ 0 → true ≡ obeys s c → catalogue_of s bytes ≡ Some c
    some_obeyed none held =
        ap (accepted s bytes) read_is
        ∙ ap (λ (b : Bool). cond (b && bytes_eq (spelled c) bytes) (Some c) None) (sym held)
        ∙ ap (λ (b : List ℕ). cond (bytes_eq (spelled c) b) (Some c) None) (whole_of none)
        ∙ ap (λ (b : Bool). cond b (Some c) None) (bytes_eq-refl (spelled c))
