-- What arranging takes once a version is there, counted over the entries of the version before.
use Rattle.std.specs.Prelude.{◌≡◌, ℕ, ◌+◌, Bool, true, false, not, ◌&&◌, List, filter, sum_by, nat_eq, unwrap_or, if◌then◌else◌}
use Rattle.std.specs.List.{list_any}
use Rattle.std.specs.Map.{lookup}
use Rattle.std.specs.Option.{is_some}
use Rattle.bd_model.specs.Recipe.{entry_records, starts_of}
use Rattle.bd_model.specs.Room.{up, kept_entries, archived_entries, entries_from}
use Rattle.bd_model.specs.declared.layout.RecipeEntry.{RecipeEntry}
use Rattle.bd_intake.specs.Given.{FitsSums}
use Rattle.bd_intake.specs.declared.tally.Share.{Share}
use Rattle.bd_intake.specs.declared.tally.Tally.{Tally}

-- of the records that begin at version i: the bytes of those that the new recipe uses on, and whether it lacks one
abbrev pub share_of : List RecipeEntry → List RecipeEntry → ℕ → Share
share_of old new i = record {
  kept = entry_records (entries_from i (kept_entries old new));
  goes = list_any (λ e. nat_eq e.start i) (archived_entries old new);
}

-- the extents of all that will be archived, and of what will be kept at each start at which something is archived
abbrev pub moved_of : ℕ → List RecipeEntry → List RecipeEntry → ℕ
moved_of extent old new =
    up extent (entry_records (archived_entries old new))
    + sum_by (λ i. up extent (share_of old new i).kept) (filter (λ i. (share_of old new i).goes) (starts_of old))

-- of a start of which nothing was told yet
abbrev pub no_share : Share
no_share = record { kept = 0; goes = false }

-- what is told of a start
abbrev pub share_at : Tally → ℕ → Share
share_at tally i = unwrap_or (lookup (nat_eq i) tally.shares.entries) no_share

-- what is told of it with this entry; only of the first with its mark there is a record
abbrev pub share_with : Share → RecipeEntry → Bool → Bool → Share
share_with share e is_first is_used =
    if is_first then (if is_used then record share { kept = share.kept + 36 + e.length } else record share { goes = true }) else share

-- the bytes of its record where it isn't used on
abbrev pub gone_with : RecipeEntry → Bool → Bool → ℕ
gone_with e is_first is_used = if is_first && not is_used then 36 + e.length else 0

-- whether an entry begins at version i
abbrev pub some_from : ℕ → List RecipeEntry → Bool
some_from i entries = list_any (λ e. nat_eq e.start i) entries

-- what is counted over the first entries of the version before, where the new one has this recipe
pub record CountsNeighbour (old new : List RecipeEntry) (tally : Tally) : Type 0 where
  pub starts : tally.starts.items ≡ starts_of old
  pub there : (i : ℕ) → is_some (lookup (nat_eq i) tally.shares.entries) ≡ some_from i old
  pub shares : (i : ℕ) → share_at tally i ≡ share_of old new i
  pub archived : tally.archived ≡ entry_records (archived_entries old new)

-- it was counted over some recipe
pub record IsCounted (tally : Tally) : Type 0 where
  pub old : List RecipeEntry
  pub new : List RecipeEntry
  pub sums : FitsSums old
  pub so : CountsNeighbour old new tally
