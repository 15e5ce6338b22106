-- A catalogue whose numbers fit their fields is read back from its spelling, whatever stands behind it.
use Rattle.std.proofs.Common.{◌≡◌, ℕ, ◌-◌, List, [], ◌∷◌, ◌++◌, length, take, drop, refl, sym, ◌∙◌, ap, append_assoc, bytes_eq, if◌then◌else◌}
use Rattle.std.specs.List.{All, flat_map}
use Rattle.std.specs.Int.{w32, w64, from_be_bytes}
use Rattle.std.proofs.lemmas.List.{append-nil, drop_at}
use Rattle.std.proofs.lemmas.List.Elements.{All-head, All-tail}
use Rattle.std.proofs.lemmas.Nat.{from_be_bytes-to_be_bytes_4, from_be_bytes-to_be_bytes_8}
use Rattle.bd_model.specs.declared.layout.Phase.{Phase}
use Rattle.bd_model.specs.declared.layout.Phase.TheVariants.{Settled, Waiting}
use Rattle.bd_model.specs.declared.layout.CategoryRow.{CategoryRow}
use Rattle.bd_model.specs.Records.{four, eight}
use Rattle.bd_roll.specs.Catalogue.{Catalogue, VersionEntry, VolumeEntry, OpenEntry, entry_with}
use Rattle.bd_roll.specs.Spelling.{Read, read_four, read_many, read_list, read_row, read_version, read_volume, read_active, read_catalogue, spelled_extents, spelled_phase, spelled_row, spelled_version, spelled_volume, spelled_active, spelled}
use Rattle.bd_roll.specs.Widths.{FitList, FitsFour, FitsRow, FitsVersion, FitsVolume, FitsOpen, FitsPhase, IsSpellable}

-- what was read, with the bytes behind it
abbrev read_of : {A : Type 0} → A → List ℕ → Read A
read_of x rest = record { it = x; rest = rest }

-- the reader gives back what fits, from its spelling before any other bytes
abbrev pub ReadsBack : {A : Type 0} → (List ℕ → Read A) → (A → List ℕ) → (A → Type 0) → Type 0
ReadsBack {A} read spell fits = (x : A) (rest : List ℕ) → fits x → read (spell x ++ rest) ≡ read_of x rest

pub four_back : ReadsBack read_four four FitsFour
four_back n rest fits = ap (λ (it : ℕ). read_of it rest) (from_be_bytes-to_be_bytes_4 n fits)

pub row_back : ReadsBack read_row spelled_row FitsRow
row_back row rest fits =
    let start = from_be_bytes-to_be_bytes_4 row.start fits.start in
    let chunks = from_be_bytes-to_be_bytes_8 row.chunks fits.chunks in
    let bytes = from_be_bytes-to_be_bytes_8 row.bytes fits.bytes in
    ap (λ (a : ℕ). read_of (record { start = a; chunks = from_be_bytes w64 (eight row.chunks); bytes = from_be_bytes w64 (eight row.bytes) }) rest) start
    ∙ ap (λ (b : ℕ). read_of (record { start = row.start; chunks = b; bytes = from_be_bytes w64 (eight row.bytes) }) rest) chunks
    ∙ ap (λ (c : ℕ). read_of (record { start = row.start; chunks = row.chunks; bytes = c }) rest) bytes

module _ {A : Type 0} (read : List ℕ → Read A) (spell : A → List ℕ) (fits : A → Type 0) (back : ReadsBack read spell fits) where
  pub many_back : (xs : List A) (rest : List ℕ) → All fits xs → read_many read (length xs) (flat_map spell xs ++ rest) ≡ read_of xs rest
  many_back [] rest all = refl
  many_back (x ∷ xs) rest all =
      let first : read ((spell x ++ flat_map spell xs) ++ rest) ≡ read_of x (flat_map spell xs ++ rest) =
      ap read (append_assoc (spell x) (flat_map spell xs) rest) ∙ back x (flat_map spell xs ++ rest) (All-head fits x xs all) in
      let others = many_back xs rest (All-tail fits x xs all) in
      ap (λ (r : Read A). let o = read_many read (length xs) r.rest in read_of (r.it ∷ o.it) o.rest) first
      ∙ ap (λ (o : Read (List A)). read_of (x ∷ o.it) o.rest) others

  pub list_back : (xs : List A) (rest : List ℕ) → FitList fits xs → read_list read (four (length xs) ++ (flat_map spell xs ++ rest)) ≡ read_of xs rest
  list_back xs rest list =
      ap (λ (n : ℕ). read_many read n (flat_map spell xs ++ rest)) (from_be_bytes-to_be_bytes_4 (length xs) list.count)
      ∙ many_back xs rest list.each

pub extents_back : (numbers rest : List ℕ) → FitList FitsFour numbers → read_list read_four (spelled_extents numbers ++ rest) ≡ read_of numbers rest
extents_back numbers rest list =
    ap (read_list read_four) (append_assoc (four (length numbers)) (flat_map four numbers) rest)
    ∙ list_back read_four four FitsFour four_back numbers rest list

pub version_back : ReadsBack read_version spelled_version FitsVersion
version_back e rest fits =
    let size = from_be_bytes-to_be_bytes_8 e.length fits.length in
    let chunks = from_be_bytes-to_be_bytes_8 e.chunks fits.chunks in
    let fresh = from_be_bytes-to_be_bytes_8 e.fresh fits.fresh in
    let made : ℕ → ℕ → ℕ → Read (List ℕ) → Read VersionEntry = λ a b c x. read_of (entry_with a b c x.it) x.rest in
    let behind = read_list read_four (spelled_extents e.extents ++ rest) in
    ap (λ (a : ℕ). made a (from_be_bytes w64 (eight e.chunks)) (from_be_bytes w64 (eight e.fresh)) behind) size
    ∙ ap (λ (b : ℕ). made e.length b (from_be_bytes w64 (eight e.fresh)) behind) chunks
    ∙ ap (λ (c : ℕ). made e.length e.chunks c behind) fresh
    ∙ ap (λ (x : Read (List ℕ)). made e.length e.chunks e.fresh x) (extents_back e.extents rest fits.extents)

pub volume_back : ReadsBack read_volume spelled_volume FitsVolume
volume_back e rest fits =
    let apart : spelled_volume e ++ rest ≡ four (length e.rows) ++ (flat_map spelled_row e.rows ++ (spelled_extents e.extents ++ rest)) =
    ap (λ (b : List ℕ). four (length e.rows) ++ b) (append_assoc (flat_map spelled_row e.rows) (spelled_extents e.extents) rest) in
    let with_extents : List CategoryRow → Read (List ℕ) → Read VolumeEntry = λ rows x. read_of (record { rows = rows; extents = x.it }) x.rest in
    ap read_volume apart
    ∙ ap (λ (r : Read (List CategoryRow)). with_extents r.it (read_list read_four r.rest)) (list_back read_row spelled_row FitsRow row_back e.rows (spelled_extents e.extents ++ rest) fits.rows)
    ∙ ap (λ (x : Read (List ℕ)). with_extents e.rows x) (extents_back e.extents rest fits.extents)

pub active_back : ReadsBack read_active spelled_active FitsOpen
active_back e rest fits =
    let with_extents : CategoryRow → Read (List ℕ) → Read OpenEntry = λ row x. read_of (record { row = row; extents = x.it }) x.rest in
    ap read_active (append_assoc (spelled_row e.row) (spelled_extents e.extents) rest)
    ∙ ap (λ (r : Read CategoryRow). with_extents r.it (read_list read_four r.rest)) (row_back e.row (spelled_extents e.extents ++ rest) fits.row)
    ∙ ap (λ (x : Read (List ℕ)). with_extents e.row x) (extents_back e.extents rest fits.extents)

-- the catalogue whose versions, volumes and open categories these bytes begin with
abbrev lists_after : ℕ → ℕ → Phase → ℕ → List ℕ → Catalogue
lists_after base newest phase count bytes =
    let versions = read_many read_version count bytes in
    let volumes = read_many read_volume (count - 1) versions.rest in
    let actives = read_list read_active volumes.rest in
    record { base = base; newest = newest; phase = phase; versions = versions.it; volumes = volumes.it; actives = actives.it }

lists_back : (c : Catalogue) (rest : List ℕ) → IsSpellable c → lists_after c.base c.newest c.phase (length c.versions)
    (flat_map spelled_version c.versions ++ (flat_map spelled_volume c.volumes ++ (four (length c.actives) ++ (flat_map spelled_active c.actives ++ rest)))) ≡ c
lists_back c rest fits =
    let behind = four (length c.actives) ++ (flat_map spelled_active c.actives ++ rest) in
    let with_actives : Read (List OpenEntry) → Catalogue = λ a. record { base = c.base; newest = c.newest; phase = c.phase; versions = c.versions; volumes = c.volumes; actives = a.it } in
    let with_volumes : Read (List VolumeEntry) → Catalogue = λ w. record { base = c.base; newest = c.newest; phase = c.phase; versions = c.versions; volumes = w.it; actives = (read_list read_active w.rest).it } in
    let with_versions : Read (List VersionEntry) → Catalogue = λ v. let w = read_many read_volume (length c.versions - 1) v.rest in
    record { base = c.base; newest = c.newest; phase = c.phase; versions = v.it; volumes = w.it; actives = (read_list read_active w.rest).it } in
    ap with_versions (many_back read_version spelled_version FitsVersion version_back c.versions (flat_map spelled_volume c.volumes ++ behind) fits.versions.each)
    ∙ ap (λ (n : ℕ). with_volumes (read_many read_volume n (flat_map spelled_volume c.volumes ++ behind))) (sym fits.volume_count)
    ∙ ap with_volumes (many_back read_volume spelled_volume FitsVolume volume_back c.volumes behind fits.volumes)
    ∙ ap with_actives (list_back read_active spelled_active FitsOpen active_back c.actives rest fits.actives)

-- the fields in their order, each behind the one before
pub spelled_apart : (c : Catalogue) (rest : List ℕ) → spelled c ++ rest ≡
    four c.base ++ (four c.newest ++ (four (length c.versions) ++ (spelled_phase c.phase
    ++ (flat_map spelled_version c.versions ++ (flat_map spelled_volume c.volumes ++ (four (length c.actives) ++ (flat_map spelled_active c.actives ++ rest)))))))
spelled_apart c rest =
    let head = four c.base ++ four c.newest ++ four (length c.versions) ++ spelled_phase c.phase in
    let versions = flat_map spelled_version c.versions in
    let volumes = flat_map spelled_volume c.volumes in
    let actives = flat_map spelled_active c.actives in
    let behind : List ℕ = four (length c.actives) ++ (actives ++ rest) in
    append_assoc ((head ++ versions) ++ volumes ++ four (length c.actives)) actives rest
    ∙ append_assoc ((head ++ versions) ++ volumes) (four (length c.actives)) (actives ++ rest)
    ∙ append_assoc (head ++ versions) volumes behind
    ∙ append_assoc head versions (volumes ++ behind)
    ∙ append_assoc (four c.base ++ four c.newest ++ four (length c.versions)) (spelled_phase c.phase) (versions ++ (volumes ++ behind))

-- the phase, the cursor and what is behind them
abbrev phase_of : List ℕ → Phase
phase_of bytes = if bytes_eq (take 1 bytes) (0 ∷ []) then Settled else Waiting (from_be_bytes w32 (take 4 (drop 1 bytes)))

phase_back : (phase : Phase) (rest : List ℕ) → FitsPhase phase → phase_of (spelled_phase phase ++ rest) ≡ phase
phase_back Settled rest fits = refl
phase_back (Waiting cursor) rest fits = ap Waiting (from_be_bytes-to_be_bytes_4 cursor fits)

pub behind_phase : (phase : Phase) (rest : List ℕ) → drop 4 (drop 1 (spelled_phase phase ++ rest)) ≡ rest
behind_phase Settled rest = refl
behind_phase (Waiting cursor) rest = refl

pub read_catalogue-append : (c : Catalogue) (rest : List ℕ) → IsSpellable c → read_catalogue (spelled c ++ rest) ≡ c
read_catalogue-append c rest fits =
    let tail : List ℕ = flat_map spelled_version c.versions ++ (flat_map spelled_volume c.volumes ++ (four (length c.actives) ++ (flat_map spelled_active c.actives ++ rest))) in
    let behind : List ℕ = spelled_phase c.phase ++ tail in
    ap read_catalogue (spelled_apart c rest)
    ∙ ap (λ (n : ℕ). lists_after n (from_be_bytes w32 (four c.newest)) (phase_of behind) (from_be_bytes w32 (four (length c.versions))) (drop 4 (drop 1 behind))) (from_be_bytes-to_be_bytes_4 c.base fits.base)
    ∙ ap (λ (n : ℕ). lists_after c.base n (phase_of behind) (from_be_bytes w32 (four (length c.versions))) (drop 4 (drop 1 behind))) (from_be_bytes-to_be_bytes_4 c.newest fits.newest)
    ∙ ap (λ (p : Phase). lists_after c.base c.newest p (from_be_bytes w32 (four (length c.versions))) (drop 4 (drop 1 behind))) (phase_back c.phase tail fits.phase)
    ∙ ap (λ (n : ℕ). lists_after c.base c.newest c.phase n (drop 4 (drop 1 behind))) (from_be_bytes-to_be_bytes_4 (length c.versions) fits.versions.count)
    ∙ ap (λ (b : List ℕ). lists_after c.base c.newest c.phase (length c.versions) b) (behind_phase c.phase tail)
    ∙ lists_back c rest fits

pub read_catalogue-spelled : (c : Catalogue) → IsSpellable c → read_catalogue (spelled c) ≡ c
read_catalogue-spelled c fits = ap read_catalogue (sym (append-nil (spelled c))) ∙ read_catalogue-append c [] fits

-- two spellings that begin the same bytes are of one catalogue
pub spelled_same : (c d : Catalogue) (rest others : List ℕ) → IsSpellable c → IsSpellable d → spelled c ++ rest ≡ spelled d ++ others → c ≡ d
spelled_same c d rest others fits_c fits_d same = sym (read_catalogue-append c rest fits_c) ∙ ap read_catalogue same ∙ read_catalogue-append d others fits_d

pub rest_same : (c d : Catalogue) (rest others : List ℕ) → IsSpellable c → IsSpellable d → spelled c ++ rest ≡ spelled d ++ others → rest ≡ others
rest_same c d rest others fits_c fits_d same =
    let one = spelled_same c d rest others fits_c fits_d same in
    sym (drop_at (spelled c) rest (length (spelled c)) refl)
    ∙ ap (drop (length (spelled c))) (same ∙ ap (λ (e : Catalogue). spelled e ++ others) (sym one))
    ∙ drop_at (spelled c) others (length (spelled c)) refl
