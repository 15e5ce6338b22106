-- The end of an intake.
use Rattle.std.proofs.Common.{◌≡◌, ℕ, ◌+◌, ◌*◌, ◌<◌, ◌≤◌, cond, List, [], ◌∷◌, ◌++◌, length, filter, flat_map, not, true, false, refl, sym, ◌∙◌, ap, subst, arith, nat_lt, Option, Some, None, ltb-true, ltb-false}
use Rattle.std.specs.Prelude.{Result, All}
use Rattle.std.specs.Str.{bytes_eq}
use Rattle.std.specs.List.{AllByRecursion}
use Rattle.std.proofs.Math.Nat.{mul-le-mul_right}
use Rattle.std.proofs.lemmas.List.Elements.{All-filter, All-contains, recursion_from_All, All-from_recursion}
use Rattle.std.proofs.lemmas.List.Sums.{sum_by-append}
use Rattle.bd_disk.specs.Runs.{Writes}
use Rattle.bd_disk.specs.declared.disk.Disk.{Ghosts}
use Rattle.bd_disk.proofs.RunLemmas.{wider_writes}
use Rattle.bd_model.specs.Laws.{entries_of_chunks}
use Rattle.bd_model.specs.Layout.{record_bytes}
use Rattle.bd_model.specs.Marks.{mark}
use Rattle.bd_model.specs.Recipe.{has_mark}
use Rattle.bd_model.specs.declared.layout.RecipeEntry.{RecipeEntry}
use Rattle.bd_model.specs.Records.{records_of, spelled_recipe}
use Rattle.bd_model.specs.Room.{up}
use Rattle.bd_model.proofs.RoomLemmas.{up-zero}
use Rattle.bd_model.proofs.ChunkLemmas.{concat-chunks}
use Rattle.bd_space.specs.Allotment.{Allotment, extent_count, free_count, TakenExactly, IsFree}
use Rattle.bd_roll.specs.declared.rows.ActiveCategory.{ActiveCategory}
use Rattle.bd_roll.specs.Catalogue.{Catalogue, VersionEntry, OpenEntry, all_extents, retained_in}
use Rattle.bd_roll.specs.Rules.{obeys}
use Rattle.bd_roll.specs.Shown.{version_entry}
use Rattle.bd_catalog.specs.Standing.{BeginWith}
use Rattle.bd_roll.specs.Steps.{FitsBackup, fresh_actives}
use Rattle.bd_catalog.specs.Agreement.{InExtents, InFree}
use Rattle.bd_intake.specs.declared.staged.Staged.{Staged}
use Rattle.std.proofs.lemmas.List.{append-nil, nil_from_length}
use Rattle.bd_model.specs.Chunks.{chunks}
use Rattle.bd_model.specs.FileMap.{FileMap}
use Rattle.bd_model.specs.Sizes.{Sizes, sizes_of}
use Rattle.bd_files.specs.Files.{Holds}
use Rattle.bd_files.specs.declared.files.Files.{Ghosts as FileGhosts}
use Rattle.bd_gear.specs.Chunking.{Chunking}
use Rattle.bd_gear.specs.Feeding.{HasFed}
use Rattle.bd_intake.specs.declared.fault.IntakeFault.{IntakeFault}
use Rattle.bd_intake.specs.declared.fault.IntakeFault.TheVariants.{Full, SourceFault, DiskFault, OutOfMemory}
use Rattle.bd_intake.specs.declared.staging.Staging.{Staging}
use Rattle.bd_intake.specs.Answers.{RefusesRoom, IsVersion, HoldsVersion, fresh_extents}
use Rattle.bd_intake.specs.Causes.{MissesSource}
use Rattle.bd_intake.specs.declared.terms.Terms.{Terms}
use Rattle.bd_intake.specs.Filling.{HasCome, HasStream, LeavesFiles}
use Rattle.bd_intake.specs.Firsts.{cut_in, first_by_mark, new_by_mark}
use Rattle.bd_intake.specs.Given.{Given, given_of}
use Rattle.bd_intake.specs.Needs.{Needs, RefusesChunks, need_in}
use Rattle.bd_intake.specs.Putting.{Held, IsPut, put_count}
use Rattle.bd_intake.specs.Spaces.{Owns}
use Rattle.bd_intake.specs.Staging.{StagesOn, HasPut, HasTaken, OwnersHaveExtents, HasWritten, IsStaging}
use Rattle.bd_intake.proofs.DrainLemmas.{fits_so_far}
use Rattle.bd_intake.proofs.Firsts.{counted-whole}
use Rattle.bd_roll.proofs.RulesAfterBackup.{VersionFacts, FreshFacts, no_category, one_category, fits_backup}
use Rattle.bd_intake.proofs.StagedChunks.{IsShort, IsSmall, staging_is_small, stream-low, stream-high}
use Rattle.bd_intake.proofs.OwnedExtents.{owns_last, owns_nothing, taken_below}

-- after its last chunks the whole source is staged
pub whole_stream : (t : Given) (c d e : Chunking) (a b : Staging) (told : Type 0) (old new : List ℕ) (files_told : Type 0) (files : FileMap) (name : List ℕ) →
    (filled : HasCome t c a told old files_told files name) → HasFed (cut_in t.sizes) filled.stream filled.taken d → d.finished ≡ true →
    ((stream : List ℕ) (taken : List (List ℕ)) → HasFed (cut_in t.sizes) stream taken d → HasTaken t taken a → StagesOn (d.finished ≡ true) t stream taken e a b told old new) →
    files_told → (stream : List ℕ) → Holds files name stream → HasStream t stream b told new
whole_stream t c d e a b told old new files_told files name filled fed over goes tells stream holds =
    let end = goes filled.stream filled.taken fed filled.has in
    let all : end.all ≡ chunks (cut_in t.sizes) stream = end.ended over ∙ ap (chunks (cut_in t.sizes)) (filled.whole tells stream holds) in
    record {
      has = subst (λ cs. HasTaken t cs b) all end.has;
      put = λ d. subst (λ cs. HasPut t cs b new) all (end.put d (filled.put d));
    }

-- and a refusal of its last chunks is one of the version
pub refuses_last : (t : Given) (held held_then : ℕ) (read stream : List ℕ) (fault : IntakeFault) → read ≡ stream → held_then ≡ held →
    RefusesChunks t (chunks (cut_in t.sizes) (read ++ [])) held_then fault → RefusesChunks t (chunks (cut_in t.sizes) stream) held fault
refuses_last t held held_then read stream fault same same_held refused =
    subst (λ n. RefusesChunks t (chunks (cut_in t.sizes) stream) n fault) same_held
    (subst (λ xs. RefusesChunks t (chunks (cut_in t.sizes) xs) held_then fault) (append-nil read ∙ same) refused)

-- where all chunks found room, what is refused is all that the version needs
pub refuses_whole : (t : Given) (space : Allotment) (a : Staging) (parts : List (List ℕ)) (held held_then : ℕ) → 1 ≤ t.sizes.extent → IsStaging t space a → HasTaken t parts a → held_then ≡ held →
    (fault : IntakeFault) → RefusesRoom (need_in t parts) t.free held_then fault → RefusesChunks t parts held fault
refuses_whole t space a parts held held_then some is has same (Full c f h) r =
    let all = counted-whole t.old t.version t.sizes.extent some parts t.free (fits_so_far t space a parts is has) in
    (omega (arith, r.0, all), r.1 ∙ sym all, r.2, r.3 ∙ same)
refuses_whole t space a parts held held_then some is has same SourceFault r = tt
refuses_whole t space a parts held held_then some is has same DiskFault r = tt
refuses_whole t space a parts held held_then some is has same OutOfMemory r = tt

-- a source that was read to its end is there
pub files_read : {F T U : Type 0} {g : FileGhosts F} {name : List ℕ} {old new : F} {done : Result T IntakeFault} (r : Result U IntakeFault) → (MissesSource done → ⊥) → LeavesFiles g name old new done → LeavesFiles g name old new r
files_read r there leaves = record { targets = leaves.targets; strays = leaves.strays; missing = λ t lacks. absurd (there (leaves.missing t lacks)); same = leaves.same; unfinished = leaves.unfinished }

-- ---- the beginning

abbrev pub none_put : Held
none_put = record { held = []; written = 0 }

-- nothing is staged yet
pub first_owns : (base : List ℕ) (space : Allotment) (a : Staging) → a.recipe.numbers ≡ [] → a.fresh.numbers ≡ [] → TakenExactly space base → Owns base space space a.recipe.numbers a.fresh.numbers
first_owns base space a recipe fresh exact =
    subst (λ xs. Owns base space space xs a.fresh.numbers) (sym recipe) (subst (λ xs. Owns base space space [] xs) (sym fresh) (owns_nothing base space exact))

pub begin_staging : (t : Given) (base : List ℕ) (space : Allotment) (a : Staging) → 1 ≤ t.sizes.extent → HasTaken t [] a → a.recipe.numbers ≡ [] → a.fresh.numbers ≡ [] → a.entries ≡ none_put → a.records ≡ none_put →
    TakenExactly space base → extent_count space ≡ t.sizes.extents → t.free ≡ free_count space → IsStaging t space a
begin_staging t base space a some has recipe fresh entries records exact count left =
    record {
      taken = [];
      has = has;
      extents = record {
        recipe = ap length recipe ∙ sym (up-zero t.sizes.extent some) ∙ ap (λ n. up t.sizes.extent (40 * n)) (sym has.chunk_count);
        fresh = ap length fresh ∙ sym (up-zero t.sizes.extent some) ∙ ap (up t.sizes.extent) (sym has.record_bytes_is);
      };
      put = record {
        entries = ap put_count entries ∙ ap (λ n. 40 * n) (sym has.chunk_count);
        records = ap put_count records ∙ sym has.record_bytes_is;
      };
      base = base;
      first = space;
      owns = first_owns base space a recipe fresh exact;
      count = count;
      left = sym left;
    }

-- nothing was put
nothing_put : (s : Sizes) (extents : List ℕ) (p : Held) (image : List ℕ) → p ≡ none_put → IsPut s extents p [] image
nothing_put s extents p image none = subst (λ q. IsPut s extents q [] image) (sym none) (record { first = []; so = refl; count = refl; begins = record { front = refl } })

pub begin_put : (t : Given) (a : Staging) (image : List ℕ) → a.entries ≡ none_put → a.records ≡ none_put → HasPut t [] a image
begin_put t a image entries records = record {
  recipe = nothing_put t.sizes a.recipe.numbers a.entries image entries;
  fresh = nothing_put t.sizes a.fresh.numbers a.records image records;
}

-- ---- where it was written

pub in_free : (s : Sizes) (base : List ℕ) (first space : Allotment) (recipe fresh : List ℕ) {D : Type 0} {g : Ghosts D} {x y : D} → Owns base first space recipe fresh → Writes g (InExtents s (recipe ++ fresh)) x y → Writes g (InFree s first) x y
in_free s base first space recipe fresh owns writes =
    wider_writes _ (λ place r. record { extent = r.extent; free = All-contains (IsFree first) (recipe ++ fresh) r.extent owns.were_free r.among; within = r.within }) writes

-- ---- the version

pub entries_extents : (fresh : Option ActiveCategory) → flat_map (λ e. e.extents) (fresh_actives fresh) ≡ fresh_extents fresh
entries_extents None = refl
entries_extents (Some category) = append-nil category.extents.numbers

bytes-low : (most : ℕ) (cs : List (List ℕ)) → AllByRecursion (IsShort most) cs → 37 * length cs ≤ record_bytes cs
bytes-low most [] all = omega arith
bytes-low most (c ∷ cs) all = omega (arith, bytes-low most cs all.1, all.0.0, sum_by-append (λ d. 36 + length d) (c ∷ []) cs)

bytes-high : (most : ℕ) (cs : List (List ℕ)) → AllByRecursion (IsShort most) cs → record_bytes cs ≤ (36 + most) * length cs
bytes-high most [] all = omega arith
bytes-high most (c ∷ cs) all = omega (arith, bytes-high most cs all.1, all.0.1, sum_by-append (λ d. 36 + length d) (c ∷ []) cs)

firsts-all : (most : ℕ) (cs : List (List ℕ)) → AllByRecursion (IsShort most) cs → All (IsShort most) (first_by_mark cs)
firsts-all most [] all = All-from_recursion (IsShort most) [] tt
firsts-all most (c ∷ cs) all =
    All-from_recursion (IsShort most) (first_by_mark (c ∷ cs))
    (all.0, recursion_from_All (IsShort most) (filter (λ d. not (bytes_eq (mark c) (mark d))) (first_by_mark cs)) (All-filter (λ d. not (bytes_eq (mark c) (mark d))) (IsShort most) (first_by_mark cs) (firsts-all most cs all.1)))

news-all : (most : ℕ) (old : List RecipeEntry) (cs : List (List ℕ)) → AllByRecursion (IsShort most) cs → All (IsShort most) (new_by_mark old cs)
news-all most old cs all = All-filter (λ c. not (has_mark old (mark c))) (IsShort most) (first_by_mark cs) (firsts-all most cs all)

module _ (terms : Terms) (b : Staging) (taken : List (List ℕ)) (has : HasTaken (given_of terms) taken b) (long : OwnersHaveExtents (sizes_of terms.shape) b) (small : IsSmall b) where
  abbrev s : Sizes
  s = sizes_of terms.shape

  abbrev news : List (List ℕ)
  news = new_by_mark (given_of terms).old taken

  all_short : AllByRecursion (IsShort s.max) taken
  all_short = recursion_from_All (IsShort s.max) taken has.each

  few_bytes : s.max * b.chunks ≤ 65536 * b.chunks
  few_bytes = mul-le-mul_right {m = s.max} {n = 65536} b.chunks (omega (arith, terms.shape.in_range.max_high))

  version_facts : VersionFacts s (record { length = b.length; chunks = b.chunks; fresh = b.fresh_chunks; extents = b.recipe.numbers })
  version_facts = record {
    fresh = small.few;
    some = omega (arith, stream-low s.max taken all_short, has.chunk_count, has.stream_bytes);
    short = omega (arith, stream-high s.max taken all_short, ap (λ n. s.max * n) has.chunk_count, has.stream_bytes);
    extents = long.recipe;
    most = omega (arith, few_bytes, small.entries);
    entries = omega (arith, small.entries);
  }

  fresh_facts : (v count : ℕ) → count ≡ b.fresh_chunks →
      FreshFacts s v count (cond (nat_lt 0 b.fresh_chunks) (record { row = record { start = v; chunks = b.fresh_chunks; bytes = b.fresh_bytes }; extents = b.fresh.numbers } ∷ []) [])
  fresh_facts v count same =
      let e : OpenEntry = record { row = record { start = v; chunks = b.fresh_chunks; bytes = b.fresh_bytes }; extents = b.fresh.numbers } in
      let all = recursion_from_All (IsShort s.max) news (news-all s.max (given_of terms).old taken all_short) in
      let times : (36 + s.max) * b.fresh_chunks ≤ 65572 * b.fresh_chunks = mul-le-mul_right {m = 36 + s.max} {n = 65572} b.fresh_chunks (omega (arith, terms.shape.in_range.max_high)) in
      elim (nat_lt 0 b.fresh_chunks) as (λ t. nat_lt 0 b.fresh_chunks ≡ t → FreshFacts s v count (cond t (e ∷ []) [])) [
        | true ↦ λ is. one_category s v count e
            (record {
              some = ltb-true 0 b.fresh_chunks is;
              low = omega (arith, bytes-low s.max news all, has.fresh_count, has.record_bytes_is);
              high = omega (arith, bytes-high s.max news all, ap (λ n. (36 + s.max) * n) has.fresh_count, has.record_bytes_is);
              fits = omega (arith, times, small.few, small.entries);
              extents = long.fresh;
            }) refl (sym same)
        | false ↦ λ is. no_category s v count (omega (arith, same, ltb-false 0 b.fresh_chunks is))
      ] refl

-- without new chunks there are no extents for their records
pub no_fresh : (t : Given) (space : Allotment) (b : Staging) → 1 ≤ t.sizes.extent → IsStaging t space b → b.fresh_chunks ≡ 0 → b.fresh.numbers ≡ []
no_fresh t space b some is none =
    let news : new_by_mark t.old is.taken ≡ [] = nil_from_length (new_by_mark t.old is.taken) (sym is.has.fresh_count ∙ none) in
    let bytes : b.fresh_bytes ≡ 0 = is.has.record_bytes_is ∙ ap record_bytes news in
    nil_from_length b.fresh.numbers (is.extents.fresh ∙ ap (up t.sizes.extent) bytes ∙ up-zero t.sizes.extent some)

-- the version fits
pub version_fits : (terms : Terms) (c : Catalogue) (base : List ℕ) (first space : Allotment) (b : Staging) (staged : Staged) → obeys (sizes_of terms.shape) c ≡ true → retained_in c < terms.shape.retain → c.newest < 4294967295 → terms.version ≡ c.newest + 1 →
    IsStaging (given_of terms) space b → base ≡ all_extents c → extent_count first ≡ terms.shape.extents → Owns base first space b.recipe.numbers b.fresh.numbers →
    version_entry staged.version ≡ record { length = b.length; chunks = b.chunks; fresh = b.fresh_chunks; extents = b.recipe.numbers } →
    fresh_actives staged.fresh ≡ cond (nat_lt 0 b.fresh_chunks) (record { row = record { start = terms.version; chunks = b.fresh_chunks; bytes = b.fresh_bytes }; extents = b.fresh.numbers } ∷ []) [] →
    fresh_extents staged.fresh ≡ b.fresh.numbers → FitsBackup (sizes_of terms.shape) c (version_entry staged.version) (fresh_actives staged.fresh)
version_fits terms c base first space b staged rules room number next is owned count owns version entries extents =
    let s = sizes_of terms.shape in
    let small = staging_is_small terms b space is in
    let lists : (version_entry staged.version).extents ++ flat_map (λ e. e.extents) (fresh_actives staged.fresh) ≡ b.recipe.numbers ++ b.fresh.numbers =
    (λ k. (version k).extents ++ (entries_extents staged.fresh ∙ extents) k) in
    let whole : TakenExactly space (all_extents c ++ ((version_entry staged.version).extents ++ flat_map (λ e. e.extents) (fresh_actives staged.fresh))) =
    subst (TakenExactly space) (λ k. owned k ++ sym lists k) (owns_last base first space b.recipe.numbers b.fresh.numbers owns) in
    fits_backup s (omega (arith, terms.shape.in_range.extent_low)) c rules room number (version_entry staged.version) (fresh_actives staged.fresh)
    (subst (VersionFacts s) (sym version) (version_facts terms b is.taken is.has is.extents small))
    (subst (FreshFacts s (c.newest + 1) (version_entry staged.version).fresh) (sym entries)
    (subst (λ n. FreshFacts s n (version_entry staged.version).fresh (cond (nat_lt 0 b.fresh_chunks) (record { row = record { start = terms.version; chunks = b.fresh_chunks; bytes = b.fresh_bytes }; extents = b.fresh.numbers } ∷ []) [])) next
    (fresh_facts terms b is.taken is.has is.extents small terms.version (version_entry staged.version).fresh (ap (λ (e : VersionEntry). e.fresh) version))))
    (record { below = taken_below space _ (omega (arith, count, owns.size)) whole; once = whole.once })

-- and is the one of the stream
pub version_counted : (terms : Terms) (space : Allotment) (stream : List ℕ) (b : Staging) (staged : Staged) (need : ℕ) → IsStaging (given_of terms) space b → HasTaken (given_of terms) (chunks (cut_in (sizes_of terms.shape)) stream) b →
    Needs (given_of terms) (chunks (cut_in (sizes_of terms.shape)) stream) need →
    version_entry staged.version ≡ record { length = b.length; chunks = b.chunks; fresh = b.fresh_chunks; extents = b.recipe.numbers } →
    fresh_actives staged.fresh ≡ cond (nat_lt 0 b.fresh_chunks) (record { row = record { start = terms.version; chunks = b.fresh_chunks; bytes = b.fresh_bytes }; extents = b.fresh.numbers } ∷ []) [] →
    fresh_extents staged.fresh ≡ b.fresh.numbers → staged.need ≡ need →
    IsVersion (sizes_of terms.shape) (given_of terms).old terms.version stream (chunks (cut_in (sizes_of terms.shape)) stream) terms.free staged
version_counted terms space stream b staged need is has needs version entries extents same =
    let t : Given = given_of terms in
    let s = t.sizes in
    let parts = chunks (cut_in s) stream in
    let some : 1 ≤ s.extent = omega (arith, terms.shape.in_range.extent_low) in
    let size : b.length ≡ length stream = has.stream_bytes ∙ ap length (concat-chunks (cut_in s) stream (terms.shape.in_range.min_low, terms.shape.in_range.max_low)) in
    record {
      counted = omega (arith, counted-whole t.old t.version s.extent some parts t.free (fits_so_far t space b parts is has), needs.so, needs.fits);
      needed = same ∙ needs.so;
      version = version ∙ (λ k. record { length = size k; chunks = has.chunk_count k; fresh = has.fresh_count k; extents = sym (ap (λ (e : VersionEntry). e.extents) version) k });
      fresh = entries ∙ (λ k. cond (nat_lt 0 (has.fresh_count k)) (record { row = record { start = terms.version; chunks = has.fresh_count k; bytes = has.record_bytes_is k }; extents = sym extents k } ∷ []) []);
    }

pub version_stored : (t : Given) (parts : List (List ℕ)) (b : Staging) (staged : Staged) (image : List ℕ) → HasWritten t parts b image →
    version_entry staged.version ≡ record { length = b.length; chunks = b.chunks; fresh = b.fresh_chunks; extents = b.recipe.numbers } →
    fresh_extents staged.fresh ≡ b.fresh.numbers → HoldsVersion t.sizes t.old t.version parts staged image
version_stored t parts b staged image wrote version extents = record {
  recipe = subst (λ xs. BeginWith t.sizes xs (spelled_recipe (entries_of_chunks t.old t.version parts)) image) (sym (ap (λ (e : VersionEntry). e.extents) version)) wrote.recipe;
  fresh = subst (λ xs. BeginWith t.sizes xs (records_of (new_by_mark t.old parts)) image) (sym extents) wrote.fresh;
}
