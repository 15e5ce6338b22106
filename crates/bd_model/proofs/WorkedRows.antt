-- The definitions on small histories, computed.
use Rattle.std.proofs.Common.{◌≡◌, ◌≤◌, ℕ, List, [], ◌∷◌, ◌++◌, refl, ◌∙◌, ap, map}
use Rattle.bd_model.specs.History.{VersionHistory, no_versions}
use Rattle.bd_model.specs.Category.{category}
use Rattle.bd_model.specs.Layout.{closed_volume, open_category, rows, row_of}
use Rattle.bd_model.specs.declared.layout.Phase.TheVariants.{Settled, Waiting}
use Rattle.bd_model.specs.Room.{need, counted, running, owned, reserve_left}
use Rattle.bd_model.specs.Recipe.{recipe}
use Rattle.std.specs.Prelude.{codes, Option, Some, None, IsTrue}
use Rattle.std.specs.Int.{is_power_of_two}
use lib.Count.{ones}
use Rattle.std.proofs.Common.{lit≤}
use Rattle.std.specs.Fmt.{digits}
use Rattle.std.specs.FinMap as map
use Rattle.bd_model.specs.declared.shape.Shape.{Shape}
use Rattle.bd_model.specs.declared.command.Command.{Command}
use Rattle.bd_model.specs.declared.command.Command.TheVariants.{Backup, Restore, Expire, Reorganise, Scrub, List as Listing}
use Rattle.bd_model.specs.declared.answer.Answer.{Answer}
use Rattle.bd_model.specs.Folds.{answers_of, outcomes, unheld}
use Rattle.bd_model.specs.declared.answer.Answer.TheVariants.{BackedUp, Restored, Expired, Arranged, Scrubbed, Listed, FullNumbers, FullVersions, FullExtents, NoVersion, NothingRetained, Formatted}
use Rattle.bd_model.specs.Sizes.{Sizes, sizes_of, payload_room, half_bytes, disk_bytes}
use Rattle.bd_model.specs.Chunks.{chunks_from}
use Rattle.bd_model.specs.Laws.{walked_chunks, given_up}
use Rattle.bd_model.specs.Texts.{answer_text, texts}
use Rattle.bd_model.specs.FileMap.{FileMap}
use Rattle.bd_model.specs.State.{VersionState, empty, cut_of, last_number, plain}
use Rattle.bd_model.specs.Step.{Outcome, phase_after_step, step, line_for}
use Rattle.bd_model.proofs.PieceLemmas.{pieces_from, chunks_from-pieces}

abbrev a : List ℕ
a = 65 ∷ 65 ∷ 65 ∷ 65 ∷ []

abbrev b : List ℕ
b = 66 ∷ 66 ∷ 66 ∷ 66 ∷ []

abbrev c : List ℕ
c = 67 ∷ 67 ∷ 67 ∷ 67 ∷ []

abbrev d : List ℕ
d = 68 ∷ 68 ∷ 68 ∷ 68 ∷ []

abbrev abc : List (List ℕ)
abc = a ∷ b ∷ c ∷ []

abbrev acd : List (List ℕ)
acd = a ∷ c ∷ d ∷ []

abbrev bad : List (List ℕ)
bad = b ∷ a ∷ d ∷ []

abbrev history_of : ℕ → List (List (List ℕ)) → VersionHistory
history_of base versions = record (no_versions base) { versions = versions }

abbrev none : VersionHistory
none = history_of 0 []

abbrev one : VersionHistory
one = history_of 0 (abc ∷ [])

abbrev two : VersionHistory
two = history_of 0 (abc ∷ acd ∷ [])

abbrev three : VersionHistory
three = history_of 0 (abc ∷ acd ∷ bad ∷ [])

-- the third volume has a chunk of the first version and one of the second
abbrev two_starts : VersionHistory
two_starts = history_of 0 ((a ∷ b ∷ []) ∷ (a ∷ d ∷ []) ∷ (a ∷ d ∷ []) ∷ (c ∷ []) ∷ [])

abbrev three_less_one : VersionHistory
three_less_one = record three { expired = 1 }

-- a second one
second_volume : closed_volume two Settled 1 ≡ b ∷ []
second_volume = refl

second_open : map (open_category two Settled) (1 ∷ 2 ∷ []) ≡ (a ∷ c ∷ []) ∷ (d ∷ []) ∷ []
second_open = refl

second_waiting : map (open_category two (Waiting 1)) (1 ∷ 2 ∷ []) ≡ (a ∷ b ∷ c ∷ []) ∷ (d ∷ []) ∷ []
second_waiting = refl

-- what the second one needed besides fresh chunks and recipe is what arranging has to take
second_rest : owned 64 two (Waiting 1) ∷ reserve_left 64 two (Waiting 1) ∷ [] ≡ 7 ∷ 3 ∷ []
unfolding need owned reserve_left counted
second_rest = refl

-- a third one
third_categories : map (category three 1) (1 ∷ 2 ∷ 3 ∷ []) ++ map (category three 2) (2 ∷ 3 ∷ []) ++ map (category three 3) (3 ∷ [])
    ≡ (b ∷ []) ∷ (c ∷ []) ∷ (a ∷ []) ∷ [] ∷ (d ∷ []) ∷ (b ∷ []) ∷ []
third_categories = refl

third_volumes : map (closed_volume three Settled) (1 ∷ 2 ∷ []) ≡ (b ∷ []) ∷ (c ∷ []) ∷ []
third_volumes = refl

third_rest : map (owned 64 three) (Waiting 1 ∷ Waiting 2 ∷ Waiting 3 ∷ Settled ∷ []) ++ map (reserve_left 64 three) (Waiting 1 ∷ Waiting 2 ∷ Waiting 3 ∷ Settled ∷ []) ≡ 11 ∷ 11 ∷ 11 ∷ 11 ∷ 2 ∷ 0 ∷ 0 ∷ 0 ∷ []
unfolding need owned reserve_left counted
third_rest = refl

-- each entry of a recipe has the version at which its chunk's run began
starts : map (λ v. map (λ e. e.start) (recipe three v)) (1 ∷ 2 ∷ 3 ∷ []) ≡ (1 ∷ 1 ∷ 1 ∷ []) ∷ (1 ∷ 1 ∷ 2 ∷ []) ∷ (3 ∷ 1 ∷ 2 ∷ []) ∷ []
starts = refl

third_open : map (open_category three Settled) (1 ∷ 2 ∷ 3 ∷ []) ≡ (a ∷ []) ∷ (d ∷ []) ∷ (b ∷ []) ∷ []
third_open = refl

third_rows : map (rows three Settled) (1 ∷ 2 ∷ []) ≡ (row_of 1 (b ∷ []) ∷ []) ∷ (row_of 1 (c ∷ []) ∷ []) ∷ []
third_rows = refl

-- while the third version waits, the second volume grows with the cursor
third_waiting : map (λ cursor. closed_volume three (Waiting cursor) 2) (1 ∷ 2 ∷ 3 ∷ []) ≡ [] ∷ (c ∷ []) ∷ (c ∷ []) ∷ []
third_waiting = refl

next_starts : map (phase_after_step three) (Waiting 1 ∷ Waiting 2 ∷ Waiting 3 ∷ Settled ∷ []) ≡ Waiting 2 ∷ Waiting 3 ∷ Settled ∷ Settled ∷ []
next_starts = refl

-- what a restore finds: of the first version when three are arranged, and of the second while it waits
restore_walks : walked_chunks three Settled 1 ∷ walked_chunks two (Waiting 1) 2 ∷ [] ≡ (b ∷ c ∷ a ∷ []) ∷ (a ∷ c ∷ d ∷ []) ∷ []
restore_walks = refl

expiry_rows : rows three_less_one Settled 2 ≡ row_of 2 (c ∷ []) ∷ []
expiry_rows = refl

-- where both of the first two starts have chunks they become one row
merged_rows : rows two_starts Settled 3 ∷ rows (given_up 1 two_starts) Settled 3 ∷ [] ≡ (row_of 1 (a ∷ []) ∷ row_of 2 (d ∷ []) ∷ []) ∷ (row_of 2 (a ∷ d ∷ []) ∷ []) ∷ []
merged_rows = refl

-- what the first chunks alone need, one after the other
running_parts : map (running 64 none abc) (1 ∷ 2 ∷ 3 ∷ []) ≡ 2 ∷ 4 ∷ 4 ∷ []
running_parts = refl

-- refusals: five extents free, and three
refused : counted 64 one acd 5 ∷ counted 64 none abc 3 ∷ [] ≡ 6 ∷ 4 ∷ []
unfolding need owned reserve_left counted
refused = refl

-- Commands, over streams. With no bits the chunks are pieces of four bytes.
power_64 : IsTrue (is_power_of_two 64)
unfolding ones
power_64 = refl

abbrev with_extents : (extents : ℕ) → 1 ≤ extents → extents ≤ 65536 → Shape
with_extents extents low high = record {
  extent = 64;
  extents = extents;
  retain = 4;
  min = 4;
  bits = 0;
  max = 4;
  in_range = record {
    power_of_two = power_64;
    extent_low = lit≤ tt;
    extent_high = lit≤ tt;
    extents_low = low;
    extents_high = high;
    retain_low = lit≤ tt;
    retain_high = lit≤ tt;
    min_low = lit≤ tt;
    min_high = lit≤ tt;
    bits_high = lit≤ tt;
    max_low = lit≤ tt;
    max_high = lit≤ tt;
  };
}

abbrev small : Shape
small = with_extents 16 (lit≤ tt) (lit≤ tt)

-- room for nine extents, for ten, and for three
abbrev nine : Shape
nine = with_extents 9 (lit≤ tt) (lit≤ tt)

abbrev ten : Shape
ten = with_extents 10 (lit≤ tt) (lit≤ tt)

abbrev few : Shape
few = with_extents 3 (lit≤ tt) (lit≤ tt)

abbrev sizes_list : Sizes → List ℕ
sizes_list s = payload_room s ∷ half_bytes s ∷ disk_bytes s ∷ []

-- the small shape, the defaults, that of a soak and the greatest
small_sizes : sizes_list (sizes_of small) ≡ 856 ∷ 66403 ∷ 133894 ∷ []
small_sizes = refl

default_sizes : sizes_list (record { extent = 1048576; extents = 4096; retain = 64; min = 2048; bits = 13; max = 65536 }) ≡ 158656 ∷ 224203 ∷ 4295415766 ∷ []
default_sizes = refl

soak_sizes : sizes_list (record { extent = 1048576; extents = 160; retain = 16; min = 2048; bits = 13; max = 65536 }) ≡ 7840 ∷ 73387 ∷ 167918998 ∷ []
soak_sizes = refl

greatest_sizes : sizes_list (record { extent = 16777216; extents = 65536; retain = 256; min = 65536; bits = 32; max = 65536 }) ≡ 2502208 ∷ 2567755 ∷ 1099516763350 ∷ []
greatest_sizes = refl

pieces : (extents : ℕ) (low : 1 ≤ extents) (high : extents ≤ 65536) (s : List ℕ) (start count : ℕ) → chunks_from (cut_of (with_extents extents low high)) s start count ≡ pieces_from 4 s start count
pieces extents low high s start count = chunks_from-pieces (cut_of (with_extents extents low high)) s start count refl (lit≤ tt)

abbrev state_of : List (List ℕ) → VersionState
state_of streams = record empty { versions = map plain streams }

abbrev after_one : VersionState
after_one = state_of ((a ++ b ++ c) ∷ [])

abbrev after_three : VersionState
after_three = state_of ((a ++ b ++ c) ∷ (a ++ c ++ d) ∷ (b ++ a ++ d) ∷ [])

-- the outcome of a command, `files` being as they are
abbrev outcome : Answer → VersionState → FileMap → Option Outcome
outcome answer s files = Some (record { answer = answer; state = s; files = files })

-- a command with its answer and the state that it leaves, none of which touches the files
record Done : Type 0 where
  command : Command
  answer : Answer
  state : VersionState

abbrev did : Command → Answer → VersionState → Done
did command answer state = record { command = command; answer = answer; state = state }

abbrev Each : Shape → FileMap → VersionState → List Done → Type 0
Each sizes files s [] = Unit {0}
Each sizes files s (d ∷ ds) = (step sizes 0 s files d.command ≡ outcome d.answer d.state files) × Each sizes files d.state ds

-- commands that go so one by one have these answers in a row
in_a_row : (sizes : Shape) (files : FileMap) (s : VersionState) (ds : List Done) → Each sizes files s ds → answers_of sizes s files (unheld (map (λ d. d.command) ds)) ≡ map (λ d. d.answer) ds
in_a_row sizes files s [] each = refl
in_a_row sizes files s (d ∷ ds) each =
    ap (λ t. map (λ o. o.answer) (elim t as (λ _. List Outcome) [ None ↦ [] | Some o ↦ o ∷ outcomes sizes o.state o.files (unheld (map (λ d. d.command) ds)) ])) each.0
    ∙ ap (λ rest. d.answer ∷ rest) (in_a_row sizes files d.state ds each.1)

abbrev after_two : VersionState
after_two = state_of ((a ++ b ++ c) ∷ (a ++ c ++ d) ∷ [])

abbrev emptied_state : VersionState
emptied_state = record empty { base = 1 }

abbrev refilled : VersionState
refilled = record empty { base = 1; versions = plain (a ++ b ++ c) ∷ [] }

abbrev after_expiry : VersionState
after_expiry = record after_three { expired = 1 }

module _ (files : FileMap) (x y z : List ℕ) (in_x : map.get files x ≡ Some (a ++ b ++ c)) (in_y : map.get files y ≡ Some (a ++ c ++ d)) (in_z : map.get files z ≡ Some (b ++ a ++ d)) where
  scrub_three : step small 0 after_three files Scrub ≡ outcome (Scrubbed (record { records = 5; entries = 9; damaged = 0; findings = record { items = []; spare = 0 } })) after_three files
  scrub_three = simp pieces

  -- a session from an empty store
  three_versions : answers_of small empty files (unheld (Backup x ∷ Backup y ∷ Reorganise ∷ Backup z ∷ Reorganise ∷ Listing ∷ Expire ∷ Reorganise ∷ Restore 1 x ∷ []))
      ≡ BackedUp 1 12 3 3 4 ∷ BackedUp 2 12 3 1 6 ∷ Arranged 8 8 ∷ BackedUp 3 12 3 1 5 ∷ Arranged 11 5
      ∷ Listed (record { items = line_for 1 12 3 3 ∷ line_for 2 12 3 1 ∷ line_for 3 12 3 1 ∷ []; spare = 0 }) ∷ Expired 1 3 ∷ Arranged 8 8 ∷ NoVersion 1 2 3 ∷ []
  unfolding need owned reserve_left counted
  three_versions =
      in_a_row small files empty
      (did (Backup x) (BackedUp 1 12 3 3 4) after_one
      ∷ did (Backup y) (BackedUp 2 12 3 1 6) after_two
      ∷ did Reorganise (Arranged 8 8) after_two
      ∷ did (Backup z) (BackedUp 3 12 3 1 5) after_three
      ∷ did Reorganise (Arranged 11 5) after_three
      ∷ did Listing (Listed (record { items = line_for 1 12 3 3 ∷ line_for 2 12 3 1 ∷ line_for 3 12 3 1 ∷ []; spare = 0 })) after_three
      ∷ did Expire (Expired 1 3) after_expiry
      ∷ did Reorganise (Arranged 8 8) after_expiry
      ∷ did (Restore 1 x) (NoVersion 1 2 3) after_expiry
      ∷ [])
      (rw in_x (simp pieces), (rw in_y (simp pieces), (simp pieces, (rw in_z (simp pieces), (simp pieces, (simp pieces, (simp pieces, (simp pieces, (refl, tt)))))))))

  -- the same stream again, and one chunk three times
  backup_again : step small 0 after_one files (Backup x) ≡ outcome (BackedUp 2 12 3 0 2) (state_of ((a ++ b ++ c) ∷ (a ++ b ++ c) ∷ [])) files
  unfolding need owned reserve_left counted
  backup_again = rw in_x (simp pieces)

  -- a store that was emptied goes on with the numbers
  emptied_between : answers_of small empty files (unheld (Backup x ∷ Expire ∷ Backup x ∷ [])) ≡ BackedUp 1 12 3 3 4 ∷ Expired 1 4 ∷ BackedUp 2 12 3 3 4 ∷ []
  unfolding need owned reserve_left counted
  emptied_between =
      in_a_row small files empty
      (did (Backup x) (BackedUp 1 12 3 3 4) after_one ∷ did Expire (Expired 1 4) emptied_state ∷ did (Backup x) (BackedUp 2 12 3 3 4) refilled ∷ [])
      (rw in_x (simp pieces), (simp pieces, (rw in_x (simp pieces), tt)))

  -- too little room for the second version, and just enough
  backup_in_nine : step nine 0 after_one files (Backup y) ≡ outcome (FullExtents 6 5 0) after_one files
  unfolding need owned reserve_left counted
  backup_in_nine = rw in_y (simp pieces)

  backup_in_ten : step ten 0 after_one files (Backup y) ≡ outcome (BackedUp 2 12 3 1 6) after_two files
  unfolding need owned reserve_left counted
  backup_in_ten = rw in_y (simp pieces)

  arrange_ten : step ten 0 after_two files Reorganise ≡ outcome (Arranged 8 2) after_two files
  unfolding need owned reserve_left counted
  arrange_ten = simp pieces

  -- refused after the second chunk
  backup_in_three : step few 0 empty files (Backup x) ≡ outcome (FullExtents 4 3 0) empty files
  unfolding need owned reserve_left counted
  backup_in_three = rw in_x (simp pieces)

  -- no number is left
  numbers_are_full : step small 0 (record empty { base = last_number }) files (Backup x) ≡ outcome FullNumbers (record empty { base = last_number }) files
  numbers_are_full = refl

module _ (files : FileMap) (x y : List ℕ) where
  -- nothing in common
  backup_a : map.get files x ≡ Some a → step small 0 empty files (Backup x) ≡ outcome (BackedUp 1 4 1 1 2) (state_of (a ∷ [])) files
  unfolding need owned reserve_left counted
  backup_a there = rw there (simp pieces)

  backup_b : map.get files y ≡ Some b → step small 0 (state_of (a ∷ [])) files (Backup y) ≡ outcome (BackedUp 2 4 1 1 3) (state_of (a ∷ b ∷ [])) files
  unfolding need owned reserve_left counted
  backup_b there = rw there (simp pieces)

  arrange_apart : step small 0 (state_of (a ∷ b ∷ [])) files Reorganise ≡ outcome (Arranged 4 12) (state_of (a ∷ b ∷ [])) files
  unfolding need owned reserve_left counted
  arrange_apart = simp pieces

  arrange_same : step small 0 (state_of ((a ++ b ++ c) ∷ (a ++ b ++ c) ∷ [])) files Reorganise ≡ outcome (Arranged 6 10) (state_of ((a ++ b ++ c) ∷ (a ++ b ++ c) ∷ [])) files
  unfolding need owned reserve_left counted
  arrange_same = simp pieces

  backup_thrice : map.get files x ≡ Some (a ++ a ++ a) → step small 0 empty files (Backup x) ≡ outcome (BackedUp 1 12 3 1 3) (state_of ((a ++ a ++ a) ∷ [])) files
  unfolding need owned reserve_left counted
  backup_thrice there = rw there (simp pieces)

  -- nothing is retained
  nothing_to_expire : answers_of small empty files (unheld (Expire ∷ Restore 0 x ∷ Restore 9 x ∷ [])) ≡ NothingRetained None ∷ NothingRetained (Some 0) ∷ NothingRetained (Some 9) ∷ []
  nothing_to_expire = refl

  -- empty files: the fifth is one version too many
  module _ (there : map.get files x ≡ Some []) where
    five_versions : answers_of small empty files (unheld (Backup x ∷ Backup x ∷ Backup x ∷ Backup x ∷ Backup x ∷ [])) ≡ BackedUp 1 0 0 0 0 ∷ BackedUp 2 0 0 0 0 ∷ BackedUp 3 0 0 0 0 ∷ BackedUp 4 0 0 0 0 ∷ FullVersions 4 ∷ []
    unfolding need owned reserve_left counted
    five_versions =
        in_a_row small files empty
        (did (Backup x) (BackedUp 1 0 0 0 0) (state_of ([] ∷ []))
        ∷ did (Backup x) (BackedUp 2 0 0 0 0) (state_of ([] ∷ [] ∷ []))
        ∷ did (Backup x) (BackedUp 3 0 0 0 0) (state_of ([] ∷ [] ∷ [] ∷ []))
        ∷ did (Backup x) (BackedUp 4 0 0 0 0) (state_of ([] ∷ [] ∷ [] ∷ [] ∷ []))
        ∷ did (Backup x) (FullVersions 4) (state_of ([] ∷ [] ∷ [] ∷ [] ∷ []))
        ∷ [])
        (rw there (simp pieces), (rw there (simp pieces), (rw there (simp pieces), (rw there (simp pieces), (refl, tt)))))

-- The lines of answers.
lines_of_backups : map answer_text (BackedUp 1 12 3 3 4 ∷ BackedUp 2 12 3 1 6 ∷ BackedUp 1 0 0 0 0 ∷ [])
    ≡ codes "version 1: 12 bytes, 3 chunks, 3 new, need 4\n" ∷ codes "version 2: 12 bytes, 3 chunks, 1 new, need 6\n" ∷ codes "version 1: 0 bytes, 0 chunks, 0 new, need 0\n" ∷ []
unfolding digits
lines_of_backups = refl

lines_of_refusals : map answer_text (FullNumbers ∷ FullVersions 4 ∷ FullExtents 6 5 0 ∷ [])
    ≡ codes "full: numbers\n" ∷ codes "full: 4 versions\n" ∷ codes "full: counted 6, free 5, held 0\n" ∷ []
unfolding digits
lines_of_refusals = refl

lines_of_others : map answer_text (Restored 1 12 ∷ Expired 1 3 ∷ Arranged 11 5 ∷ NoVersion 1 2 3 ∷ NothingRetained None ∷ NothingRetained (Some 9) ∷ Formatted ∷ [])
    ≡ codes "restored 1: 12 bytes\n" ∷ codes "expired 1: 3 extents\n" ∷ codes "arranged: 11 owned, 5 free\n" ∷ codes "no version 1: retained 2 to 3\n"
    ∷ codes "no version: none retained\n" ∷ codes "no version 9: none retained\n" ∷ codes "formatted\n" ∷ []
unfolding digits
lines_of_others = refl

lines_of_reports : texts (Listed (record { items = line_for 1 12 3 3 ∷ line_for 2 12 3 1 ∷ []; spare = 0 }) ∷ Scrubbed (record { records = 5; entries = 9; damaged = 0; findings = record { items = []; spare = 0 } }) ∷ [])
    ≡ codes "1 12 3 3\n2 12 3 1\n2 versions\nscrub: 5 records, 9 entries, 0 damaged\n"
unfolding digits
lines_of_reports = refl
