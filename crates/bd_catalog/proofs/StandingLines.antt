-- What a catalogue records of a retained version of the state that it shows.
use Rattle.std.proofs.Common.{◌≡◌, ℕ, ◌+◌, ◌-◌, ◌<◌, ◌≤◌, List, [], ◌∷◌, length, map, get_or, refl, sym, ◌∙◌, ap, arith}
use Rattle.std.specs.List.{range_with_len}
use Rattle.std.proofs.lemmas.List.{get_or-map, length-map}
use Rattle.std.proofs.lemmas.List.FromFn.{get_or-range_with_len, length-range_with_len}
use Rattle.bd_model.specs.declared.shape.Shape.{Shape}
use Rattle.bd_model.specs.declared.answer.VersionLine.{VersionLine}
use Rattle.bd_model.specs.Chunks.{numbers}
use Rattle.bd_model.specs.History.{VersionHistory, newest, oldest, version}
use Rattle.bd_model.specs.State.{VersionState, history, stream_of}
use Rattle.bd_model.specs.Step.{version_line, version_lines}
use Rattle.bd_roll.specs.Catalogue.{Catalogue, VersionEntry, oldest_in}
use Rattle.bd_catalog.specs.Standing.{HasNumbers, HasVersions, lines_from}

-- a function's value at a number of a range
pub get_or-map_range : {X : Type 0} (f : ℕ → X) (a n k : ℕ) (d : X) → k < n → get_or (map f (range_with_len a n)) k d ≡ f (a + k)
get_or-map_range f a n k d lt =
    get_or-map f (range_with_len a n) k 0 d (omega (arith, length-range_with_len a n, lt)) ∙ ap f (get_or-range_with_len a n k 0 lt)

lines-chunks : (v : ℕ) (es : List VersionEntry) → map (λ (l : VersionLine). l.chunks) (lines_from v es) ≡ map (λ e. e.chunks) es
lines-chunks v [] = refl
lines-chunks v (e ∷ es) = ap (λ ns. e.chunks ∷ ns) (lines-chunks (v + 1) es)

lines-bytes : (v : ℕ) (es : List VersionEntry) → map (λ (l : VersionLine). l.bytes) (lines_from v es) ≡ map (λ e. e.length) es
lines-bytes v [] = refl
lines-bytes v (e ∷ es) = ap (λ ns. e.length ∷ ns) (lines-bytes (v + 1) es)

module _ (shape : Shape) (st : VersionState) (c : Catalogue) (image : List ℕ) (numbered : HasNumbers (history shape st) c) (versions : HasVersions shape st c image) (v : ℕ) (low : oldest (history shape st) ≤ v) (high : v ≤ newest (history shape st)) where
  abbrev h : VersionHistory
  h = history shape st

  -- the index of a retained number
  index-is : v - oldest_in c ≡ v - oldest h
  index-is = omega (arith, numbered.newest, numbered.retained)

  at_lines : {X : Type 0} (f : VersionLine → X) (d : X) → get_or (map f (version_lines st h)) (v - oldest h) d ≡ f (version_line st h v)
  at_lines f d =
      let n = newest h + 1 - oldest h in
      let place : oldest h + (v - oldest h) ≡ v = omega arith in
      let inside : v - oldest h < length (version_lines st h) = omega (arith, length-map (numbers (oldest h) (newest h)) (version_line st h), length-range_with_len (oldest h) n) in
      get_or-map f (version_lines st h) (v - oldest h) (version_line st h v) d inside
      ∙ ap f (get_or-map_range (version_line st h) (oldest h) n (v - oldest h) (version_line st h v) (omega arith) ∙ ap (version_line st h) place)

  pub chunks_recorded : get_or (map (λ e. e.chunks) c.versions) (v - oldest_in c) 0 ≡ length (version h v)
  chunks_recorded =
      ap (λ k. get_or (map (λ e. e.chunks) c.versions) k 0) index-is
      ∙ ap (λ xs. get_or xs (v - oldest h) 0) (sym (lines-chunks (oldest_in c) c.versions) ∙ ap (map (λ (l : VersionLine). l.chunks)) versions.lines)
      ∙ at_lines (λ l. l.chunks) 0

  pub bytes_recorded : get_or (map (λ e. e.length) c.versions) (v - oldest_in c) 0 ≡ length (stream_of st v)
  bytes_recorded =
      ap (λ k. get_or (map (λ e. e.length) c.versions) k 0) index-is
      ∙ ap (λ xs. get_or xs (v - oldest h) 0) (sym (lines-bytes (oldest_in c) c.versions) ∙ ap (map (λ (l : VersionLine). l.bytes)) versions.lines)
      ∙ at_lines (λ l. l.bytes) 0
