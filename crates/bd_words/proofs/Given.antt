-- What is read of a line that clap takes.
use Rattle.std.proofs.Common.{◌≡◌, ◌∙◌, ◌<◌, List, [], ◌∷◌, Option, map, length, drop, codes, slice_get, true, refl, ap, subst, arith}
use Rattle.std.specs.Prelude.{IsSome}
use Rattle.clap.specs.Matches.{first_value, found_of}
use Rattle.clap.specs.Simple.{App, HasMatchesOf, is_simple, matches_of, with_rule}
use Rattle.clap.specs.Takes.{takes}
use Rattle.clap.specs.Walk.{Rule, Text, first_of}
use Rattle.clap.specs.declared.parser.matches.ArgMatches.{ArgMatches}
use Rattle.clap.proofs.WalkLemmas.{first_value-rows}
use Rattle.bd_words.specs.Lines.{format_line, has_one_value, has_two_values, one_value_line, two_values_line}
use Rattle.bd_words.specs.Words.{are_options, is_value, value_of}
use Rattle.bd_words.proofs.Walks.{format_takes, format_value, one_takes, two_takes, one_value, first_value as first_of_two, second_value}
use Rattle.clap.proofs.WalkLemmas.{both}

-- a line with one more argument
pub line_more : {line more known : App} {arg rule : Rule} → line ≡ known → arg ≡ rule → more ≡ with_rule line arg → more ≡ with_rule known rule
line_more {line} {more} {known} {arg} {rule} e r is = is ∙ ap (λ (l : App). with_rule l arg) e ∙ ap (λ (a : Rule). with_rule known a) r

-- what is read of an id
pub value_read : (app known : App) (words : List Text) (m : ArgMatches) (id : Text) (read value : Option Text)
    → app ≡ known → is_simple known ≡ true → HasMatchesOf app words m → read ≡ first_value (found_of m) id → first_of id (matches_of known words) ≡ value → read ≡ value
value_read app known words m id read value is simple matches asked e =
    let found : HasMatchesOf known words m = subst (λ (a : App). HasMatchesOf a words m) is matches in
    asked ∙ first_value-rows (found_of m) id ∙ ap (first_of id) (found simple).0 ∙ e

pub format_taken : {A : Type 0} (f : A → Text) (app : App) (words : List A) → app ≡ format_line → 0 < length words → are_options (drop 1 (map f words)) ≡ true → takes app (map f words) ≡ true
format_taken f app [] is some h = absurd (omega arith)
format_taken f app (w ∷ words) is some h = ap (λ (a : App). takes a (map f (w ∷ words))) is ∙ format_takes (f w) (map f words) h

pub format_read : {A : Type 0} (f : A → Text) (words : List A) (id : Text) → 0 < length words → are_options (drop 1 (map f words)) ≡ true
    → first_of id (matches_of format_line (map f words)) ≡ value_of (45 ∷ 45 ∷ id) (drop 1 (map f words))
format_read f [] id some h = absurd (omega arith)
format_read f (w ∷ words) id some h = format_value (f w) id (map f words) h

pub one_taken : (app : App) (words : List Text) → app ≡ one_value_line → has_one_value words ≡ true → takes app words ≡ true
one_taken app [] is h = absurd (cc h)
one_taken app (w ∷ []) is h = absurd (cc h)
one_taken app (w ∷ v ∷ []) is h = ap (λ (a : App). takes a (w ∷ v ∷ [])) is ∙ one_takes w v h
one_taken app (w ∷ v ∷ x ∷ words) is h = absurd (cc h)

pub two_taken : (app : App) (words : List Text) → app ≡ two_values_line → has_two_values words ≡ true → takes app words ≡ true
two_taken app [] is h = absurd (cc h)
two_taken app (w ∷ []) is h = absurd (cc h)
two_taken app (w ∷ v ∷ []) is h = absurd (cc h)
two_taken app (w ∷ v ∷ x ∷ []) is h = let parts : (is_value v ≡ true) × (is_value x ≡ true) = both _ _ h in ap (λ (a : App). takes a (w ∷ v ∷ x ∷ [])) is ∙ two_takes w v x parts.0 parts.1
two_taken app (w ∷ v ∷ x ∷ y ∷ words) is h = absurd (cc h)

-- what is read of one value, and of two
pub one_read : (app : App) (words : List Text) (m : ArgMatches) → app ≡ one_value_line → has_one_value words ≡ true → HasMatchesOf app words m
    → first_value (found_of m) (codes "value") ≡ slice_get words 1
one_read app [] m is h matches = absurd (cc h)
one_read app (w ∷ []) m is h matches = absurd (cc h)
one_read app (w ∷ v ∷ []) m is h matches = value_read app one_value_line (w ∷ v ∷ []) m (codes "value") _ _ is refl matches refl (one_value w v h)
one_read app (w ∷ v ∷ x ∷ words) m is h matches = absurd (cc h)

pub two_read : (app : App) (words : List Text) (m : ArgMatches) → app ≡ two_values_line → has_two_values words ≡ true → HasMatchesOf app words m
    → (first_value (found_of m) (codes "first") ≡ slice_get words 1) × (first_value (found_of m) (codes "second") ≡ slice_get words 2)
two_read app [] m is h matches = absurd (cc h)
two_read app (w ∷ []) m is h matches = absurd (cc h)
two_read app (w ∷ v ∷ []) m is h matches = absurd (cc h)
two_read app (w ∷ v ∷ x ∷ []) m is h matches =
    let parts : (is_value v ≡ true) × (is_value x ≡ true) = both _ _ h in (
      value_read app two_values_line (w ∷ v ∷ x ∷ []) m (codes "first") _ _ is refl matches refl (first_of_two w v x parts.0 parts.1),
      value_read app two_values_line (w ∷ v ∷ x ∷ []) m (codes "second") _ _ is refl matches refl (second_value w v x parts.0 parts.1),
    )
two_read app (w ∷ v ∷ x ∷ y ∷ words) m is h matches = absurd (cc h)

pub one_there : (read : Option Text) (words : List Text) → has_one_value words ≡ true → read ≡ slice_get words 1 → IsSome read
one_there read [] h e = absurd (cc h)
one_there read (w ∷ []) h e = absurd (cc h)
one_there read (w ∷ v ∷ []) h e = rw e refl
one_there read (w ∷ v ∷ x ∷ words) h e = absurd (cc h)

pub two_there : (first second : Option Text) (words : List Text) → has_two_values words ≡ true → first ≡ slice_get words 1 → second ≡ slice_get words 2 → IsSome first × IsSome second
two_there first second [] h e f = absurd (cc h)
two_there first second (w ∷ []) h e f = absurd (cc h)
two_there first second (w ∷ v ∷ []) h e f = absurd (cc h)
two_there first second (w ∷ v ∷ x ∷ []) h e f = (rw e refl, rw f refl)
two_there first second (w ∷ v ∷ x ∷ y ∷ words) h e f = absurd (cc h)
