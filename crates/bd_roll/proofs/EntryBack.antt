-- A record of the log reads back, and is applied.
use Rattle.std.proofs.Common.{◌≡◌, ℕ, Bool, List, [], ◌++◌, refl, sym, ◌∙◌, ap, bytes_eq, ◌&&◌, Some, None, if◌then◌else◌}
use Rattle.std.specs.Prelude.{IsTrue}
use Rattle.std.proofs.lemmas.List.{append-nil}
use Rattle.std.proofs.lemmas.Nat.{from_be_bytes-to_be_bytes_8}
use Rattle.bd_model.proofs.ChunkListLemmas.{bytes_eq-refl}
use Rattle.bd_model.specs.Records.{eight}
use Rattle.bd_model.specs.Sizes.{Sizes}
use Rattle.bd_roll.specs.Catalogue.{Catalogue, VersionEntry}
use Rattle.bd_roll.specs.Spelling.{Read, read_four, read_eight, read_list, spelled_extents}
use Rattle.bd_roll.specs.Entries.{FitsFields, LogEntry, Grows, Drops, after_entry, applied, applies, read_entry, spelled_log_entry}
use Rattle.bd_roll.proofs.ReadBack.{version_back, extents_back}

pub entry_back : (e : LogEntry) → FitsFields e → read_entry (spelled_log_entry e) ≡ e
entry_back Drops fits = refl
entry_back (Grows version bytes extents) fits =
    let ext = spelled_extents extents in
    let with_version : Read VersionEntry → LogEntry = λ v. let size = read_eight v.rest in Grows v.it size.it (read_list read_four size.rest).it in
    ap with_version (version_back version (eight bytes ++ ext) fits.0)
    ∙ ap (λ (n : ℕ). Grows version n (read_list read_four ext).it) (from_be_bytes-to_be_bytes_8 bytes fits.1)
    ∙ ap (λ (b : List ℕ). Grows version bytes (read_list read_four b).it) (sym (append-nil ext))
    ∙ ap (λ (r : Read (List ℕ)). Grows version bytes r.it) (extents_back extents [] fits.2)

pub applied_entry : (s : Sizes) (c : Catalogue) (e : LogEntry) → FitsFields e → IsTrue (applies s c e) → applied s c (spelled_log_entry e) ≡ Some (after_entry c e)
applied_entry s c e fields told =
    ap (λ (r : LogEntry). if bytes_eq (spelled_log_entry r) (spelled_log_entry e) && applies s c r then Some (after_entry c r) else None) (entry_back e fields)
    ∙ ap (λ (b : Bool). if b && applies s c e then Some (after_entry c e) else None) (bytes_eq-refl (spelled_log_entry e))
    ∙ ap (λ (b : Bool). if b then Some (after_entry c e) else None) told
