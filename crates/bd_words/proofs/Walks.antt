-- What clap reads of the words of plain lines.
use Rattle.std.proofs.Common.{◌≡◌, ◌∙◌, ℕ, drop, nat_lt, ◌==◌, Bool, true, false, not, cond, ◌&&◌, ◌||◌, List, [], ◌∷◌, ◌++◌, Option, Some, None, is_none, option_and_then, slice_get, codes, refl, sym, ap, subst, arith, append_assoc, append-nil, map}
use Rattle.std.specs.List.{list_any, list_all, fold}
use Rattle.std.specs.Str.{bytes_eq}
use Rattle.std.proofs.lemmas.List.Folds.{list_all-append}
use Rattle.std.proofs.lemmas.Bool.Decides.{nat_tests}
use Rattle.std.proofs.lemmas.Slice.Eq.{bytes_eq-Decides}
use Rattle.clap.specs.Lexer.{long_of, short_of}
use Rattle.clap.specs.Walk.{Held, to_positional, nothing_held, has_row, with_default, Row, Rule, Step, Text, Waiting, Walk, idle, option, positional, next, value as a_value, at_row, more_values, reading_by, used_by_id, with_values, without, after_flag, after_step, long_met, option_word, arg_by_id, arg_by_long, arg_by_index, long_or_other, plain_word, settled, settled_rows, short_or_plain, subcommand_or_other, walked, word_met, used, finished, first_of, trailing}
use Rattle.clap.specs.declared.parser.matches.ValueSource.TheVariants.{CommandLine}
use Rattle.clap.proofs.WalkLemmas.{both}
use Rattle.clap.proofs.SimpleLemmas.{is_false}
use Rattle.std.specs.Option.{option_map_or}
use Rattle.clap.proofs.TakesLemmas.{leaf_takes}
use Rattle.clap.specs.Takes.{bundle_passes, default_passes, is_valid, flag_word_passes, long_passes, other_passes, settle_passes, step_passes, takes, turn_passes, use_passes, walk_passes, word_passes}
use Rattle.clap.specs.Simple.{Shape, with_index, built, filled, matches_of}
use Rattle.bd_words.specs.Lines.{format_line, one_value_line, option_rule, two_values_line, value_rule}
use Rattle.bd_words.specs.Words.{is_value, is_option, is_asked_once, value_of, are_options}

-- ---- a word that doesn't begin with a dash
no-dash : (b : ℕ) (bytes : List ℕ) → is_value (b ∷ bytes) ≡ true → (b == 45) ≡ false
no-dash b bytes h = grind (arith, nat_tests)

no_long : (v : List ℕ) → is_value v ≡ true → long_of v ≡ None
no_long [] h = refl
no_long (b ∷ bytes) h = rw (no-dash b bytes h) refl

no_short : (v : List ℕ) → is_value v ≡ true → short_of v ≡ None
no_short [] h = refl
no_short (b ∷ bytes) h = rw (no-dash b bytes h) refl

no_dashes : (v : List ℕ) → is_value v ≡ true → bytes_eq v (45 ∷ 45 ∷ []) ≡ false
no_dashes [] h = refl
no_dashes (b ∷ bytes) h = rw (no-dash b bytes h) refl

-- is a value: of the option that waits for it, or of the next position
value_here : (c : List Rule) (waiting : Waiting) (position : ℕ) (v : Text) (h : Held) → is_value v ≡ true → subcommand_or_other c None waiting position v h ≡ plain_word c waiting v h
value_here c waiting position v h is =
    ap (λ (b : Bool). cond b (h, trailing position) (long_or_other c waiting v (long_of v) h)) (no_dashes v is)
    ∙ ap (λ (found : Option (Text × Option Text)). long_or_other c waiting v found h) (no_long v is)
    ∙ ap (λ (flags : Option Text). short_or_plain c waiting v flags h) (no_short v is)

pub value_met : (c : List Rule) (waiting : Waiting) (position : ℕ) (v : Text) (h : Held) → is_value v ≡ true → word_met c [] false waiting position v h ≡ plain_word c waiting v h
value_met c idle position v h is = value_here c idle position v h is
value_met c (option id) position v h is = value_here c (option id) position v h is
value_met c positional position v h is = value_here c positional position v h is

-- ---- options
-- what building makes of an option
abbrev pub built_rule : Text → Rule
built_rule id = filled (option_rule id)

-- the command has such an option
pub record HasOption (c : List Rule) (id : Text) : Type 0 where
  pub by_long : arg_by_long c id ≡ Some (built_rule id)
  pub by_id : arg_by_id c id ≡ Some (built_rule id)
  pub long : long_of (45 ∷ 45 ∷ id) ≡ Some (id, None)
  pub more : bytes_eq (45 ∷ 45 ∷ id) (45 ∷ 45 ∷ []) ≡ false
  pub same : bytes_eq id id ≡ true

-- between two options, and behind an option's word
abbrev held : List Row → Option (Text × List Text) → Held
held rows pending = record { rows = rows; pending = pending; skip = 0 }

abbrev idle_at : List Row → Option (Text × List Text) → Walk
idle_at rows pending = record { held = held rows pending; waiting = idle; position = 1; is_trailing = false; stopped = None }

abbrev asks_at : List Row → Text → Walk
asks_at rows id = record { held = held rows (Some (id, [])); waiting = option id; position = 1; is_trailing = false; stopped = None }

option-met : (c : List Rule) (id : Text) (h : Held) → HasOption c id → word_met c [] false idle 1 (45 ∷ 45 ∷ id) h ≡ (record (settled c h) { pending = Some (id, []) }, next (option id))
option-met c id h has =
    ap (λ (b : Bool). cond b (h, trailing 1) (long_or_other c idle (45 ∷ 45 ∷ id) (long_of (45 ∷ 45 ∷ id)) h)) has.more
    ∙ ap (λ (found : Option (Text × Option Text)). long_or_other c idle (45 ∷ 45 ∷ id) found h) has.long
    ∙ ap (λ (a : Option Rule). after_flag c idle (45 ∷ 45 ∷ id) (long_met c a None h).0 (long_met c a None h).1) has.by_long

option-walked : (c : List Rule) (id : Text) (rows : List Row) (pending : Option (Text × List Text)) → HasOption c id → walked c [] (idle_at rows pending) (45 ∷ 45 ∷ id) ≡ asks_at (settled_rows c pending rows) id
unfolding walked
option-walked c id rows pending has = ap (λ (m : Held × Step). after_step c (45 ∷ 45 ∷ id) (idle_at rows pending) m.0 m.1) (option-met c id (held rows pending) has)

asked-met : (c : List Rule) (id v : Text) (rows : List Row) → HasOption c id → is_value v ≡ true → word_met c [] false (option id) 1 v (held rows (Some (id, []))) ≡ (held rows (Some (id, v ∷ [])), next idle)
asked-met c id v rows has is =
    value_met c (option id) 1 v (held rows (Some (id, []))) is
    ∙ ap (λ (a : Option Rule). ((option_word a id v (held rows (Some (id, [])))).0, next (option_word a id v (held rows (Some (id, [])))).1)) has.by_id
    ∙ ap (λ (b : Bool). (held rows (Some (id, v ∷ [])), next (cond (nat_lt (cond b 1 0) 1) (option id) idle))) has.same

asked-walked : (c : List Rule) (id v : Text) (rows : List Row) → HasOption c id → is_value v ≡ true → walked c [] (asks_at rows id) v ≡ idle_at rows (Some (id, v ∷ []))
unfolding walked
asked-walked c id v rows has is = ap (λ (m : Held × Step). after_step c v (asks_at rows id) m.0 m.1) (asked-met c id v rows has is)

pub pair_walked : (c : List Rule) (id v : Text) (rows : List Row) (pending : Option (Text × List Text)) → HasOption c id → is_value v ≡ true
    → walked c [] (walked c [] (idle_at rows pending) (45 ∷ 45 ∷ id)) v ≡ idle_at (settled_rows c pending rows) (Some (id, v ∷ []))
pair_walked c id v rows pending has is = ap (λ (w : Walk). walked c [] w v) (option-walked c id rows pending has) ∙ asked-walked c id v (settled_rows c pending rows) has is

-- ---- the six options
abbrev rules : List Rule
rules = built_rule (codes "extent") ∷ built_rule (codes "extents") ∷ built_rule (codes "retain") ∷ built_rule (codes "min") ∷ built_rule (codes "bits") ∷ built_rule (codes "max") ∷ []

-- the word of an option is two dashes and its name
record IsKnown (word : Text) : Type 0 where
  id : Text
  is : word ≡ 45 ∷ 45 ∷ id
  has : HasOption rules id

abbrev Known : List Text → Type 0
Known [] = Unit {0}
Known (id ∷ ids) = HasOption rules id × Known ids

abbrev dashed : Text → Text
dashed id = 45 ∷ 45 ∷ id

known-here : (word id : Text) (ids : List Text) (b : Bool) → bytes_eq word (dashed id) ≡ b → HasOption rules id → (b || list_any (bytes_eq word) (map dashed ids)) ≡ true
    → (list_any (bytes_eq word) (map dashed ids) ≡ true → IsKnown word) → IsKnown word
known-here word id ids true e has h later = record { id = id; is = (bytes_eq-Decides word (dashed id)).0 e; has = has }
known-here word id ids false e has h later = later h

known-in : (word : Text) (ids : List Text) → Known ids → list_any (bytes_eq word) (map dashed ids) ≡ true → IsKnown word
known-in word [] known h = absurd (cc h)
known-in word (id ∷ ids) known h = known-here word id ids (bytes_eq word (dashed id)) refl known.0 h (known-in word ids known.1)

known : (word : Text) → is_option word ≡ true → IsKnown word
known word h =
    let ids : List Text = codes "extent" ∷ codes "extents" ∷ codes "retain" ∷ codes "min" ∷ codes "bits" ∷ codes "max" ∷ [] in
    let each : Known ids = (
      record { by_long = refl; by_id = refl; long = refl; more = refl; same = refl },
      (
        record { by_long = refl; by_id = refl; long = refl; more = refl; same = refl },
        (
          record { by_long = refl; by_id = refl; long = refl; more = refl; same = refl },
          (
            record { by_long = refl; by_id = refl; long = refl; more = refl; same = refl },
            (
              record { by_long = refl; by_id = refl; long = refl; more = refl; same = refl },
              (
                record { by_long = refl; by_id = refl; long = refl; more = refl; same = refl },
                tt,
              ),
            ),
          ),
        ),
      ),
    ) in
    known-in word ids each h

-- ---- what the walk finds
-- what is found for an option with this value
abbrev given_row : Text → Text → Row
given_row id v = record { id = id; values = v ∷ []; count = None; source = Some CommandLine; reading = reading_by (built_rule id) }

abbrev pub given : List Text → List Row
given (word ∷ v ∷ words) = given_row (drop 2 word) v ∷ given words
given words = []

abbrev is_absent : Text → List Row → Bool
is_absent id rows = list_all (λ (r : Row). not (bytes_eq r.id id)) rows

at-absent : (id : Text) (change : Row → List Row) (missing rows : List Row) → is_absent id rows ≡ true → at_row id change missing rows ≡ rows ++ missing
at-absent id change missing [] h = refl
at-absent id change missing (r ∷ rows) h =
    let parts : (not (bytes_eq r.id id) ≡ true) × (is_absent id rows ≡ true) = both _ _ h in
    ap (λ (b : Bool). cond b (change r ++ rows) (r ∷ at_row id change missing rows)) (is_false (bytes_eq r.id id) parts.0)
    ∙ ap (λ (rs : List Row). r ∷ rs) (at-absent id change missing rows parts.1)

used-absent : (id v : Text) (rows : List Row) → is_absent id rows ≡ true → used (built_rule id) (v ∷ []) rows ≡ rows ++ given_row id v ∷ []
used-absent id v rows h =
    let alone : without id rows ≡ rows = at-absent id (λ _. []) [] rows h ∙ append-nil rows in
    ap (λ (rs : List Row). with_values id (reading_by (built_rule id)) CommandLine (v ∷ []) rs) alone
    ∙ at-absent id (more_values CommandLine (v ∷ [])) (given_row id v ∷ []) rows h

and-true : {a b : Bool} → a ≡ true → b ≡ true → (a && b) ≡ true
and-true p q = cc (p, q)

settled-pair : (c : List Rule) (id v : Text) (rows : List Row) → HasOption c id → is_absent id rows ≡ true → settled_rows c (Some (id, v ∷ [])) rows ≡ rows ++ given_row id v ∷ []
settled-pair c id v rows has h = ap (λ (a : Option Rule). used_by_id a (v ∷ []) rows) has.by_id ∙ used-absent id v rows h

-- no option of these rows stands among the words
abbrev are_apart : List Row → List Text → Bool
are_apart rows words = list_all (λ (r : Row). is_none (value_of (dashed r.id) words)) rows

none-cond : (b : Bool) (v : Text) (rest : Option Text) → is_none (cond b (Some v) rest) ≡ true → (b ≡ false) × (is_none rest ≡ true)
none-cond true v rest h = absurd (cc h)
none-cond false v rest h = (refl, h)

other-way : (a b : Text) (t : Bool) → bytes_eq b a ≡ t → bytes_eq a b ≡ false → not t ≡ true
other-way a b false e h = refl
other-way a b true e h = absurd (cc ((bytes_eq-Decides a b).1 (sym ((bytes_eq-Decides b a).0 e)), h))

apart-from : (id v : Text) (words : List Text) (rows : List Row) → are_apart rows (dashed id ∷ v ∷ words) ≡ true → (is_absent id rows ≡ true) × (are_apart rows words ≡ true)
apart-from id v words [] h = (refl, refl)
apart-from id v words (r ∷ rows) h =
    let parts : (is_none (value_of (dashed r.id) (dashed id ∷ v ∷ words)) ≡ true) × (are_apart rows (dashed id ∷ v ∷ words) ≡ true) = both _ _ h in
    let here : (bytes_eq id r.id ≡ false) × (is_none (value_of (dashed r.id) words) ≡ true) = none-cond (bytes_eq id r.id) v (value_of (dashed r.id) words) parts.0 in
    let rest : (is_absent id rows ≡ true) × (are_apart rows words ≡ true) = apart-from id v words rows parts.1 in
    (and-true (other-way id r.id (bytes_eq r.id id) refl here.0) rest.0, and-true here.1 rest.1)

-- options, of which no rows are found yet, are found in their order
pub walk_given : (words : List Text) (rows : List Row) (pending : Option (Text × List Text)) (all : List Row)
    → settled_rows rules pending rows ≡ all → are_options words ≡ true → are_apart all words ≡ true
    → (settled rules (fold (walked rules []) (idle_at rows pending) words).held).rows ≡ all ++ given words
walk_given [] rows pending all e h apart = e ∙ sym (append-nil all)
walk_given (w ∷ []) rows pending all e h apart = absurd (cc h)
walk_given (w ∷ v ∷ words) rows pending all e h apart =
    let parts : (is_asked_once w v words ≡ true) × (are_options words ≡ true) = both _ _ h in
    let asked : (is_option w ≡ true) × ((is_value v && is_none (value_of w words)) ≡ true) = both _ _ parts.0 in
    let once : (is_value v ≡ true) × (is_none (value_of w words) ≡ true) = both _ _ asked.1 in
    let is : IsKnown w = known w asked.0 in
    subst (λ (word : Text). are_apart all (word ∷ v ∷ words) ≡ true → is_none (value_of word words) ≡ true
    → (settled rules (fold (walked rules []) (idle_at rows pending) (word ∷ v ∷ words)).held).rows ≡ all ++ given (word ∷ v ∷ words)) (sym is.is)
    (λ apart none.
    let free : (is_absent is.id all ≡ true) × (are_apart all words ≡ true) = apart-from is.id v words all apart in
    let row : Row = given_row is.id v in
    let later : are_apart (all ++ row ∷ []) words ≡ true = list_all-append _ all (row ∷ []) ∙ and-true free.1 (and-true none refl) in
    let settles : settled_rows rules (Some (is.id, v ∷ [])) (settled_rows rules pending rows) ≡ all ++ row ∷ []
    = ap (λ (rs : List Row). settled_rows rules (Some (is.id, v ∷ [])) rs) e ∙ settled-pair rules is.id v all is.has free.0 in
    ap (λ (walk : Walk). (settled rules (fold (walked rules []) walk words).held).rows) (pair_walked rules is.id v rows pending is.has once.0)
    ∙ walk_given words (settled_rows rules pending rows) (Some (is.id, v ∷ [])) (all ++ row ∷ []) settles parts.1 later
    ∙ append_assoc all (row ∷ []) (given words))
    apart once.1

-- ---- what is read of it
cond-same : {X : Type 0} (b : Bool) (x : X) → cond b x x ≡ x
cond-same true x = refl
cond-same false x = refl

no-defaults : (ids : List Text) (rows : List Row) → fold with_default rows (map built_rule ids) ≡ rows
no-defaults [] rows = refl
no-defaults (id ∷ ids) rows = ap (λ (rs : List Row). fold with_default rs (map built_rule ids)) (cond-same (has_row id rows) rows) ∙ no-defaults ids rows

abbrev names : List Text
names = codes "extent" ∷ codes "extents" ∷ codes "retain" ∷ codes "min" ∷ codes "bits" ∷ codes "max" ∷ []

first-given : (b : Bool) (row : Row) (v : Text) (found : Option Row) (later : Option Text) → row.values ≡ v ∷ [] → option_and_then (λ (r : Row). slice_get r.values 0) found ≡ later
    → option_and_then (λ (r : Row). slice_get r.values 0) (cond b (Some row) found) ≡ cond b (Some v) later
first-given true row v found later is e = ap (λ (vs : List Text). slice_get vs 0) is
first-given false row v found later is e = e

given_found : (id : Text) (words : List Text) → are_options words ≡ true → first_of id (given words) ≡ value_of (dashed id) words
given_found id [] h = refl
given_found id (w ∷ []) h = absurd (cc h)
given_found id (w ∷ v ∷ words) h =
    let parts : (is_asked_once w v words ≡ true) × (are_options words ≡ true) = both _ _ h in
    let asked : (is_option w ≡ true) × ((is_value v && is_none (value_of w words)) ≡ true) = both _ _ parts.0 in
    let is : IsKnown w = known w asked.0 in
    subst (λ (word : Text). first_of id (given (word ∷ v ∷ words)) ≡ value_of (dashed id) (word ∷ v ∷ words)) (sym is.is)
    (first-given (bytes_eq is.id id) (given_row is.id v) v _ _ refl (given_found id words parts.1))

pub format_matches : (word : Text) (words : List Text) → are_options words ≡ true → matches_of format_line (word ∷ words) ≡ given words
format_matches word words h =
    no-defaults names (settled rules (fold (walked rules []) (idle_at [] None) words).held).rows
    ∙ walk_given words [] None [] refl h refl

-- what is read of an option is its value
pub format_value : (word id : Text) (words : List Text) → are_options words ≡ true → first_of id (matches_of format_line (word ∷ words)) ≡ value_of (dashed id) words
format_value word id words h = ap (λ (rows : List Row). first_of id rows) (format_matches word words h) ∙ given_found id words h

-- ---- that it passes
absent-none : (id : Text) (rows : List Row) → is_absent id rows ≡ true → has_row id rows ≡ false
absent-none id [] h = refl
absent-none id (r ∷ rows) h =
    let parts : (not (bytes_eq r.id id) ≡ true) × (is_absent id rows ≡ true) = both _ _ h in
    ap (λ (b : Bool). b || has_row id rows) (is_false (bytes_eq r.id id) parts.0) ∙ absent-none id rows parts.1

pair-settles : (id v : Text) (rows : List Row) → HasOption rules id → is_absent id rows ≡ true → settle_passes rules false (held rows (Some (id, v ∷ []))) ≡ true
pair-settles id v rows has h =
    ap (λ (a : Option Rule). option_map_or (λ (a : Rule). use_passes false a (v ∷ []) rows) a true) has.by_id
    ∙ ap (λ (b : Bool). (not b || false) && true) (absent-none id rows h)

abbrev format_shape : Shape
format_shape = (built format_line).top

option-passes : (id : Text) (h : Held) → HasOption rules id → settle_passes rules false h ≡ true → word_passes format_shape [] false idle (dashed id) h ≡ true
option-passes id h has settles =
    ap (λ (b : Bool). b || flag_word_passes rules false (long_of (dashed id)) (dashed id) h) has.more
    ∙ ap (λ (found : Option (Text × Option Text)). flag_word_passes rules false found (dashed id) h) has.long
    ∙ ap (λ (a : Option Rule). long_passes rules false a None h) has.by_long
    ∙ settles

value-passes : (s : Shape) (v : Text) (h : Held) → is_value v ≡ true → other_passes s None v h ≡ true
value-passes s v h is =
    ap (λ (b : Bool). b || flag_word_passes s.rules s.args_override_self (long_of v) v h) (no_dashes v is)
    ∙ ap (λ (found : Option (Text × Option Text)). flag_word_passes s.rules s.args_override_self found v h) (no_long v is)
    ∙ ap (λ (flags : Option Text). option_map_or (λ (flags : Text). bundle_passes s.rules s.args_override_self flags h) flags true) (no_short v is)

option-turn : (id : Text) (rows : List Row) (pending : Option (Text × List Text)) → HasOption rules id → settle_passes rules false (held rows pending) ≡ true
    → turn_passes format_shape [] (idle_at rows pending) (dashed id) ≡ true
option-turn id rows pending has settles =
    and-true (option-passes id (held rows pending) has settles) (ap (λ (m : Held × Step). step_passes format_shape 1 m.0 m.1) (option-met rules id (held rows pending) has))

asked-turn : (id v : Text) (rows : List Row) → HasOption rules id → is_value v ≡ true → turn_passes format_shape [] (asks_at rows id) v ≡ true
asked-turn id v rows has is =
    and-true (value-passes format_shape v (held rows (Some (id, []))) is) (ap (λ (m : Held × Step). step_passes format_shape 1 m.0 m.1) (asked-met rules id v rows has is))

pair-turns : (id v : Text) (words : List Text) (rows : List Row) (pending : Option (Text × List Text)) → HasOption rules id → is_value v ≡ true → settle_passes rules false (held rows pending) ≡ true
    → walk_passes format_shape [] (idle_at (settled_rows rules pending rows) (Some (id, v ∷ []))) words ≡ true → walk_passes format_shape [] (idle_at rows pending) (dashed id ∷ v ∷ words) ≡ true
unfolding walk_passes
pair-turns id v words rows pending has is settles more =
    let second : walk_passes format_shape [] (asks_at (settled_rows rules pending rows) id) (v ∷ words) ≡ true
    = and-true (asked-turn id v (settled_rows rules pending rows) has is) (ap (λ (w : Walk). walk_passes format_shape [] w words) (asked-walked rules id v (settled_rows rules pending rows) has is) ∙ more) in
    and-true (option-turn id rows pending has settles) (ap (λ (w : Walk). walk_passes format_shape [] w (v ∷ words)) (option-walked rules id rows pending has) ∙ second)

no-words-pass : (w : Walk) → walk_passes format_shape [] w [] ≡ true
unfolding walk_passes
no-words-pass w = refl

-- options pass, and so does what is pending behind them
passes_given : (words : List Text) (rows : List Row) (pending : Option (Text × List Text)) (all : List Row)
    → settled_rows rules pending rows ≡ all → settle_passes rules false (held rows pending) ≡ true → are_options words ≡ true → are_apart all words ≡ true
    → (walk_passes format_shape [] (idle_at rows pending) words ≡ true) × (settle_passes rules false (fold (walked rules []) (idle_at rows pending) words).held ≡ true)
passes_given [] rows pending all e settles h apart = (no-words-pass (idle_at rows pending), settles)
passes_given (w ∷ []) rows pending all e settles h apart = absurd (cc h)
passes_given (w ∷ v ∷ words) rows pending all e settles h apart =
    let parts : (is_asked_once w v words ≡ true) × (are_options words ≡ true) = both _ _ h in
    let asked : (is_option w ≡ true) × ((is_value v && is_none (value_of w words)) ≡ true) = both _ _ parts.0 in
    let once : (is_value v ≡ true) × (is_none (value_of w words) ≡ true) = both _ _ asked.1 in
    let is : IsKnown w = known w asked.0 in
    subst (λ (word : Text). are_apart all (word ∷ v ∷ words) ≡ true → is_none (value_of word words) ≡ true
    → (walk_passes format_shape [] (idle_at rows pending) (word ∷ v ∷ words) ≡ true) × (settle_passes rules false (fold (walked rules []) (idle_at rows pending) (word ∷ v ∷ words)).held ≡ true)) (sym is.is)
    (λ apart none.
    let free : (is_absent is.id all ≡ true) × (are_apart all words ≡ true) = apart-from is.id v words all apart in
    let row : Row = given_row is.id v in
    let later : are_apart (all ++ row ∷ []) words ≡ true = list_all-append _ all (row ∷ []) ∙ and-true free.1 (and-true none refl) in
    let now : List Row = settled_rows rules pending rows in
    let absent : is_absent is.id now ≡ true = ap (λ (rs : List Row). is_absent is.id rs) e ∙ free.0 in
    let settles-now : settled_rows rules (Some (is.id, v ∷ [])) now ≡ all ++ row ∷ []
    = ap (λ (rs : List Row). settled_rows rules (Some (is.id, v ∷ [])) rs) e ∙ settled-pair rules is.id v all is.has free.0 in
    let rest : (walk_passes format_shape [] (idle_at now (Some (is.id, v ∷ []))) words ≡ true) × (settle_passes rules false (fold (walked rules []) (idle_at now (Some (is.id, v ∷ []))) words).held ≡ true)
    = passes_given words now (Some (is.id, v ∷ [])) (all ++ row ∷ []) settles-now (pair-settles is.id v now is.has absent) parts.1 later in (
      pair-turns is.id v words rows pending is.has once.0 settles rest.0,
      ap (λ (walk : Walk). settle_passes rules false (fold (walked rules []) walk words).held) (pair_walked rules is.id v rows pending is.has once.0) ∙ rest.1,
    ))
    apart once.1

-- the command takes options
pub format_takes : (word : Text) (words : List Text) → are_options words ≡ true → takes format_line (word ∷ words) ≡ true
format_takes word words h =
    let passes : (walk_passes format_shape [] (idle_at [] None) words ≡ true) × (settle_passes rules false (fold (walked rules []) (idle_at [] None) words).held ≡ true)
    = passes_given words [] None [] refl refl h refl in
    leaf_takes (built format_line) nothing_held words refl (and-true passes.0 (and-true passes.1 refl))

-- ---- values by their places
abbrev place_at : List Row → Option (Text × List Text) → ℕ → Walk
place_at rows pending position = record { held = held rows pending; waiting = idle; position = position; is_trailing = false; stopped = None }

-- a value goes to its place
place-walked : (c : List Rule) (rows : List Row) (pending : Option (Text × List Text)) (position : ℕ) (v : Text) → is_value v ≡ true
    → walked c [] (place_at rows pending position) v ≡ to_positional c (arg_by_index c position) v (place_at rows pending position) (held rows pending)
unfolding walked
place-walked c rows pending position v is = ap (λ (m : Held × Step). after_step c v (place_at rows pending position) m.0 m.1) (value_met c idle position v (held rows pending) is)

abbrev one_rules : List Rule
one_rules = (built one_value_line).top.rules

abbrev two_rules : List Rule
two_rules = (built two_values_line).top.rules

pub one_value : (word v : Text) → is_value v ≡ true → first_of (codes "value") (matches_of one_value_line (word ∷ v ∷ [])) ≡ Some v
one_value word v is = ap (λ (w : Walk). first_of (codes "value") (finished one_rules w.held)) (place-walked one_rules [] None 1 v is)

-- the first of two values, as building makes it
abbrev first_rule : Rule
first_rule = with_index 1 (filled (value_rule (codes "first")))

two-walked : (v w : Text) → is_value v ≡ true → is_value w ≡ true
    → walked two_rules [] (walked two_rules [] (place_at [] None 1) v) w ≡ place_at (used first_rule (v ∷ []) []) (Some (codes "second", w ∷ [])) 3
two-walked v w is other = ap (λ (walk : Walk). walked two_rules [] walk w) (place-walked two_rules [] None 1 v is) ∙ place-walked two_rules [] (Some (codes "first", v ∷ [])) 2 w other

pub first_value : (word v w : Text) → is_value v ≡ true → is_value w ≡ true → first_of (codes "first") (matches_of two_values_line (word ∷ v ∷ w ∷ [])) ≡ Some v
first_value word v w is other = ap (λ (walk : Walk). first_of (codes "first") (finished two_rules walk.held)) (two-walked v w is other)

pub second_value : (word v w : Text) → is_value v ≡ true → is_value w ≡ true → first_of (codes "second") (matches_of two_values_line (word ∷ v ∷ w ∷ [])) ≡ Some w
second_value word v w is other = ap (λ (walk : Walk). first_of (codes "second") (finished two_rules walk.held)) (two-walked v w is other)

place-turn : (s : Shape) (rows : List Row) (pending : Option (Text × List Text)) (position : ℕ) (v : Text) → is_value v ≡ true
    → step_passes s position (held rows pending) a_value ≡ true → turn_passes s [] (place_at rows pending position) v ≡ true
place-turn s rows pending position v is step =
    and-true (value-passes s v (held rows pending) is) (ap (λ (m : Held × Step). step_passes s position m.0 m.1) (value_met s.rules idle position v (held rows pending) is) ∙ step)

abbrev one_shape : Shape
one_shape = (built one_value_line).top

abbrev two_shape : Shape
two_shape = (built two_values_line).top

one-turns : (v : Text) → is_value v ≡ true → walk_passes one_shape [] (place_at [] None 1) (v ∷ []) ≡ true
unfolding walk_passes
one-turns v is = and-true (place-turn one_shape [] None 1 v is refl) refl

pub one_takes : (word v : Text) → is_value v ≡ true → takes one_value_line (word ∷ v ∷ []) ≡ true
one_takes word v is =
    leaf_takes (built one_value_line) nothing_held (v ∷ []) refl
    (and-true (one-turns v is) (ap (λ (w : Walk). settle_passes one_rules false w.held && (list_all default_passes one_rules && is_valid one_shape (finished one_rules w.held) false)) (place-walked one_rules [] None 1 v is)))

two-turns : (v w : Text) → is_value v ≡ true → is_value w ≡ true → walk_passes two_shape [] (place_at [] None 1) (v ∷ w ∷ []) ≡ true
unfolding walk_passes
two-turns v w is other =
    and-true (place-turn two_shape [] None 1 v is refl)
    (ap (λ (walk : Walk). walk_passes two_shape [] walk (w ∷ [])) (place-walked two_rules [] None 1 v is)
    ∙ and-true (place-turn two_shape [] (Some (codes "first", v ∷ [])) 2 w other refl) refl)

pub two_takes : (word v w : Text) → is_value v ≡ true → is_value w ≡ true → takes two_values_line (word ∷ v ∷ w ∷ []) ≡ true
two_takes word v w is other =
    leaf_takes (built two_values_line) nothing_held (v ∷ w ∷ []) refl
    (and-true (two-turns v w is other) (ap (λ (walk : Walk). settle_passes two_rules false walk.held && (list_all default_passes two_rules && is_valid two_shape (finished two_rules walk.held) false)) (two-walked v w is other)))
