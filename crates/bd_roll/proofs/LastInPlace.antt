-- The last volume of a list, changed in place.
use Rattle.std.proofs.Common.{◌≡◌, ℕ, zero, suc, ◌+◌, List, [], ◌∷◌, length, map, set, get_or, refl, ◌∙◌, ap, arith}
use Rattle.bd_roll.specs.declared.rows.ClosedVolume.{ClosedVolume}
use Rattle.bd_roll.specs.declared.rows.VersionRow.{VersionRow}
use Rattle.bd_roll.specs.declared.rows.ActiveCategory.{ActiveCategory}
use Rattle.bd_model.specs.declared.layout.CategoryRow.{CategoryRow}
use Rattle.bd_model.specs.declared.layout.Phase.{Phase}
use Rattle.bd_roll.specs.Catalogue.{Catalogue, VersionEntry, VolumeEntry, OpenEntry}
use Rattle.bd_roll.specs.Capacity.{last_room}
use Rattle.bd_roll.specs.Shown.{version_entry, volume_entry, open_entry}

abbrev pub made : ℕ → ℕ → Phase → List VersionEntry → List VolumeEntry → List OpenEntry → Catalogue
made base newest phase versions volumes actives = record { base = base; newest = newest; phase = phase; versions = versions; volumes = volumes; actives = actives }

-- more room in a volume leaves the entries
pub same_entries : (xs : List ClosedVolume) (i : ℕ) (v x : ClosedVolume) → x ≡ get_or xs i x → volume_entry v ≡ volume_entry x → map volume_entry (set xs i v) ≡ map volume_entry xs
same_entries [] i v x is same = refl
same_entries (y ∷ ys) zero v x is same = ap (λ (e : VolumeEntry). e ∷ map volume_entry ys) (same ∙ ap volume_entry is)
same_entries (y ∷ ys) (suc i) v x is same = ap (λ (es : List VolumeEntry). volume_entry y ∷ es) (same_entries ys i v x is same)

pub last_room-set : (room : ClosedVolume → ℕ) (v : ClosedVolume) (xs : List ClosedVolume) (k : ℕ) → k + 1 ≡ length xs → last_room room (set xs k v) ≡ room v
last_room-set room v [] k h = absurd (omega arith)
last_room-set room v (y ∷ []) zero h = refl
last_room-set room v (y ∷ []) (suc k) h = absurd (omega arith)
last_room-set room v (y ∷ z ∷ zs) zero h = absurd (omega arith)
last_room-set room v (y ∷ z ∷ zs) (suc zero) h = last_room-set room v (z ∷ zs) zero (omega arith)
last_room-set room v (y ∷ z ∷ zs) (suc (suc k)) h = last_room-set room v (z ∷ zs) (suc k) (omega arith)

-- a volume with the same rows and extents shows the same entry
pub same_volume : (v x : ClosedVolume) → v.rows.items ≡ x.rows.items → v.extents.numbers ≡ x.extents.numbers → volume_entry v ≡ volume_entry x
same_volume v x rows extents =
    ap (λ (rs : List CategoryRow). record { rows = rs; extents = v.extents.numbers }) rows
    ∙ ap (λ (ns : List ℕ). record { rows = x.rows.items; extents = ns }) extents

-- the same lists make the same catalogue
pub same_lists_make : (base newest : ℕ) (phase : Phase) (vs ws : List VersionRow) (es fs : List VolumeEntry) (xs ys : List ActiveCategory) → vs ≡ ws → es ≡ fs → xs ≡ ys
    → made base newest phase (map version_entry vs) es (map open_entry xs) ≡ made base newest phase (map version_entry ws) fs (map open_entry ys)
same_lists_make base newest phase vs ws es fs xs ys versions volumes actives =
    ap (λ (zs : List VersionRow). made base newest phase (map version_entry zs) es (map open_entry xs)) versions
    ∙ ap (λ (gs : List VolumeEntry). made base newest phase (map version_entry ws) gs (map open_entry xs)) volumes
    ∙ ap (λ (zs : List ActiveCategory). made base newest phase (map version_entry ws) fs (map open_entry zs)) actives
