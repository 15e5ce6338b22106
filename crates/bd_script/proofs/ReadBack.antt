-- What is written is read back.
use Rattle.std.proofs.Common.{◌≡◌, ℕ, ◌+◌, ◌*◌, ◌<◌, ◌^◌, ◌∙◌, ◌++◌, true, List, [], ◌∷◌, length, map, codes, decimal, refl, sym, subst, ap, arith, append_assoc, append-nil, drop, get_or}
use Rattle.std.specs.Prelude.{All}
use Rattle.std.proofs.lemmas.Bool.Decides.{nat_tests}
use Rattle.std.proofs.lemmas.List.Elements.{All-cons, All-head, All-nil, All-tail}
use Rattle.std.proofs.lemmas.List.{map-append}
use Rattle.std.proofs.lemmas.Fmt.{decimal_injective}
use Rattle.bd_model.specs.Limits.{is_printable}
use Rattle.bd_model.specs.Texts.{line}
use Rattle.bd_model.specs.declared.command.Command.{Command}
use Rattle.bd_model.specs.declared.command.Command.TheVariants.{Backup, Restore, Expire, Reorganise, Scrub, List as Listing}
use Rattle.bd_script.specs.Scripts.{AreLinesOf, IsNoCommand, IsTextName, IsWritable, ScriptsAreReadBack, command_line, script_lines, script_of}
use Rattle.bd_script.specs.Splits.{lacks}
use Rattle.bd_script.proofs.Cuts.{cut_once, lacks_append, lacks_others}
use Rattle.bd_script.proofs.Decimals.{decimal_lacks}
use Rattle.bd_script.proofs.Lines.{line_ended, last_line}
use Rattle.bd_script.proofs.Spelled.{restore_line, restore_rest}

-- ---- no line feed stands within a command's line
name-lacks : (name : List ℕ) → IsTextName name → lacks 10 name ≡ true
name-lacks name text = lacks_others is_printable 10 name refl (grind (arith, nat_tests, text.name_is))

line-lacks : (command : Command) → IsWritable command → lacks 10 (command_line command) ≡ true
line-lacks (Backup name) writable = lacks_append 10 (codes "backup ") name refl (name-lacks name writable)
line-lacks (Restore v name) writable =
    subst (λ (l : List ℕ). lacks 10 l ≡ true) (sym (restore_line v name)) (lacks_append 10 (codes "restore ") (decimal v ++ 32 ∷ name) refl
    (lacks_append 10 (decimal v) (32 ∷ name) (decimal_lacks 10 v refl (omega (arith, writable.0))) (name-lacks name writable.1)))
line-lacks Expire writable = refl
line-lacks Reorganise writable = refl
line-lacks Scrub writable = refl
line-lacks Listing writable = refl

-- the lines of a script that begins with a written one
lines-before : (commands : List Command) (text : List ℕ) → All IsWritable commands → script_lines (script_of commands ++ text) ≡ map command_line commands ++ script_lines text
lines-before [] text writable = refl
lines-before (command ∷ commands) text writable =
    let own : List ℕ = command_line command in
    let first : lacks 10 own ≡ true = line-lacks command (All-head IsWritable command commands writable) in
    let ended : script_of (command ∷ commands) ++ text ≡ own ++ 10 ∷ (script_of commands ++ text)
    = append_assoc (line own) (script_of commands) text ∙ append_assoc own (10 ∷ []) (script_of commands ++ text) in
    ap script_lines ended ∙ line_ended own (script_of commands ++ text) first
    ∙ ap (λ (ls : List (List ℕ)). own ∷ ls) (lines-before commands text (All-tail IsWritable command commands writable))

some-byte : (command : Command) → 0 < length (command_line command)
some-byte (Backup name) = omega arith
some-byte (Restore v name) = omega arith
some-byte Expire = omega arith
some-byte Reorganise = omega arith
some-byte Scrub = omega arith
some-byte Listing = omega arith

-- written, with its last line feed
written : (commands : List Command) → All IsWritable commands → AreLinesOf commands (script_lines (script_of commands))
written commands writable = record {
  writable = writable;
  spelled = sym (ap script_lines (sym (append-nil (script_of commands))) ∙ lines-before commands [] writable ∙ append-nil (map command_line commands));
}

front-and-last : (commands : List Command) (last : Command) → All IsWritable (commands ++ last ∷ []) → All IsWritable commands × IsWritable last
front-and-last [] last all = (All-nil IsWritable, All-head IsWritable last [] all)
front-and-last (command ∷ commands) last all =
    let rest : All IsWritable commands × IsWritable last = front-and-last commands last (All-tail IsWritable command (commands ++ last ∷ []) all) in
    (All-cons IsWritable command commands (All-head IsWritable command (commands ++ last ∷ []) all) rest.0, rest.1)

-- and without it
unended : (commands : List Command) (last : Command) → All IsWritable (commands ++ last ∷ []) → AreLinesOf (commands ++ last ∷ []) (script_lines (script_of commands ++ command_line last))
unended commands last writable =
    let each : All IsWritable commands × IsWritable last = front-and-last commands last writable in
    let one : script_lines (command_line last) ≡ command_line last ∷ [] = last_line (command_line last) (some-byte last) (line-lacks last each.1) in
    record {
      writable = writable;
      spelled = map-append command_line commands (last ∷ []) ∙ ap (λ (ls : List (List ℕ)). map command_line commands ++ ls) (sym one) ∙ sym (lines-before commands (command_line last) each.0);
    }

-- ---- a line spells one command
first-same : {x y : List ℕ} {xs ys : List (List ℕ)} → x ∷ xs ≡ y ∷ ys → x ≡ y
first-same e = cc e

rest-same : {x y : List ℕ} {xs ys : List (List ℕ)} → x ∷ xs ≡ y ∷ ys → xs ≡ ys
rest-same e = cc e

-- what tells the words apart with which lines begin: their first and third bytes
sign : List ℕ → ℕ
sign l = 1000 * get_or l 0 0 + get_or l 2 0

one-command : (a b : Command) → IsWritable a → IsWritable b → command_line a ≡ command_line b → a ≡ b
unfolding sign
one-command (Backup name) (Backup other) wa wb e = ap Backup (ap (λ (l : List ℕ). drop 7 l) e)
one-command (Restore v name) (Restore w other) wa wb e =
    let below : (v < 2 ^ 64) × (w < 2 ^ 64) = (omega (arith, wa.0), omega (arith, wb.0)) in
    let parts : (decimal v ≡ decimal w) × (name ≡ other)
    = cut_once 32 (decimal v) (decimal w) name other (decimal_lacks 32 v refl below.0) (decimal_lacks 32 w refl below.1)
    (restore_rest (decimal w ++ 32 ∷ other) name v (e ∙ restore_line w other)) in
    let same : v ≡ w = decimal_injective v w below.0 below.1 parts.0 in
    ap (λ (n : ℕ). Restore n name) same ∙ ap (λ (n : List ℕ). Restore w n) parts.1
one-command Expire Expire wa wb e = refl
one-command Reorganise Reorganise wa wb e = refl
one-command Scrub Scrub wa wb e = refl
one-command Listing Listing wa wb e = refl
one-command a b wa wb e = absurd (omega (arith, ap sign e))

only-these : (read commands : List Command) → All IsWritable read → All IsWritable commands → map command_line read ≡ map command_line commands → read ≡ commands
only-these [] [] wa wb e = refl
only-these [] (c ∷ cs) wa wb e = absurd (cc e)
only-these (a ∷ read) [] wa wb e = absurd (cc e)
only-these (a ∷ read) (c ∷ cs) wa wb e =
    let first : a ≡ c = one-command a c (All-head IsWritable a read wa) (All-head IsWritable c cs wb) (first-same e) in
    let rest : read ≡ cs = only-these read cs (All-tail IsWritable a read wa) (All-tail IsWritable c cs wb) (rest-same e) in
    cc (first, rest)

none-bad : (before commands : List Command) (bad : List ℕ) (behind : List (List ℕ)) → All IsWritable commands → IsNoCommand bad → map command_line before ++ bad ∷ behind ≡ map command_line commands → ⊥
none-bad [] [] bad behind writable none e = cc e
none-bad [] (c ∷ cs) bad behind writable none e = none c record { writable = All-head IsWritable c cs writable; spelled = sym (first-same e) }
none-bad (b ∷ before) [] bad behind writable none e = cc e
none-bad (b ∷ before) (c ∷ cs) bad behind writable none e = none-bad before cs bad behind (All-tail IsWritable c cs writable) none (rest-same e)

pub scripts_are_read_back : ScriptsAreReadBack
scripts_are_read_back = record {
  once = λ a b lines one other. only-these a b one.writable other.writable (one.spelled ∙ sym other.spelled);
  good = λ commands lines number these first. none-bad first.before commands first.bad first.behind these.writable first.none (first.all ∙ sym these.spelled);
  written = written;
  unended = unended;
}
