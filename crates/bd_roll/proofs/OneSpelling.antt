-- Bytes begin with one spelling at most.
use Rattle.std.proofs.Common.{◌≡◌, ℕ, ◌+◌, ◌*◌, ◌^◌, ◌<◌, ◌≤◌, List, [], ◌∷◌, ◌++◌, length, map, true, false, ⊎_elim, refl, sym, ◌∙◌, ap, arith, append_assoc, length-append}
use Rattle.std.specs.List.{All, flat_map}
use Rattle.std.proofs.lemmas.Bool.{cases_lt}
use Rattle.std.proofs.lemmas.List.{flat_map_more, map-append}
use Rattle.std.proofs.lemmas.List.Elements.{All-head, All-tail, All-push, All-same}
use Rattle.bd_wire.proofs.ReadingBack.{u32_same}
use Rattle.bd_model.specs.Records.{four}
use Rattle.bd_model.specs.declared.layout.CategoryRow.{CategoryRow}
use Rattle.bd_roll.specs.Reading.{Took, SpellsNone, FitMany, EndsItself, spelled_rows}
use Rattle.bd_roll.specs.Spelling.{Read, read_many, read_list, read_row, spelled_row, spelled_extents, spelled_volume}
use Rattle.bd_roll.specs.Widths.{FitList, FitsFour, FitsRow, FitsVolume}
use Rattle.bd_roll.proofs.ReadBack.{ReadsBack, many_back, list_back, row_back}

module _ {A : Type 0} (read : List ℕ → Read A) (spell : A → List ℕ) (fits : A → Type 0) (back : ReadsBack read spell fits) where
  pub same_rest : EndsItself spell fits
  same_rest x y rest others fx fy same = sym (ap (λ (r : Read A). r.rest) (back x rest fx)) ∙ ap (λ (b : List ℕ). (read b).rest) same ∙ ap (λ (r : Read A). r.rest) (back y others fy)

  -- what stands behind so many items
  pub same_behind : (xs ys : List A) (rest others : List ℕ) → All fits xs → All fits ys → length xs ≡ length ys → flat_map spell xs ++ rest ≡ flat_map spell ys ++ others → rest ≡ others
  same_behind xs ys rest others fx fy size same =
      sym (ap (λ (r : Read (List A)). r.rest) (many_back read spell fits back xs rest fx))
      ∙ ap (λ (b : List ℕ). (read_many read (length xs) b).rest) same
      ∙ ap (λ (n : ℕ). (read_many read n (flat_map spell ys ++ others)).rest) size
      ∙ ap (λ (r : Read (List A)). r.rest) (many_back read spell fits back ys others fy)

-- bytes that begin with no list of so many items, behind their number
pub counted_none : {A : Type 0} (spell : A → List ℕ) (fits : A → Type 0) (count : ℕ) (old behind : List ℕ) → count < 2 ^ 32 → old ≡ four count ++ behind
    → SpellsNone (flat_map spell) (FitMany fits count) behind → SpellsNone (λ xs. four (length xs) ++ flat_map spell xs) (FitList fits) old
counted_none spell fits count old behind small is none = λ xs rest fit same.
    let both = u32_same count (length xs) behind (flat_map spell xs ++ rest) small fit.count (sym is ∙ same ∙ append_assoc (four (length xs)) (flat_map spell xs) rest) in
    none xs rest (record { count_is = sym both.0; each = fit.each }) both.1

-- the same where the bytes behind their number are too few for items of so many bytes each
pub list_short : {A : Type 0} (spell : A → List ℕ) (fits : A → Type 0) (width count : ℕ) (old behind : List ℕ) → ((xs : List A) → length (flat_map spell xs) ≡ width * length xs)
    → count < 2 ^ 32 → old ≡ four count ++ behind → length behind < width * count → SpellsNone (λ xs. four (length xs) ++ flat_map spell xs) (FitList fits) old
list_short spell fits width count old behind long small is less =
    counted_none spell fits count old behind small is (λ xs rest fit same. omega (arith, less, ap length same, length-append (flat_map spell xs) rest, long xs, ap (λ n. width * n) fit.count_is))

module _ {A : Type 0} (spell : A → List ℕ) (fits : A → Type 0) (ends : EndsItself spell fits) where
  -- an item that isn't there ends each longer list
  no_more : (items xs : List A) (cur rest : List ℕ) → All fits items → All fits xs → length items < length xs → SpellsNone spell fits cur
      → flat_map spell items ++ cur ≡ flat_map spell xs ++ rest → ⊥
  no_more items [] cur rest fi fx less none same = absurd (omega arith)
  no_more [] (x ∷ xs) cur rest fi fx less none same = none x (flat_map spell xs ++ rest) (All-head fits x xs fx) (same ∙ append_assoc (spell x) (flat_map spell xs) rest)
  no_more (y ∷ ys) (x ∷ xs) cur rest fi fx less none same =
      no_more ys xs cur rest (All-tail fits y ys fi) (All-tail fits x xs fx) (omega arith) none
      (ends y x (flat_map spell ys ++ cur) (flat_map spell xs ++ rest) (All-head fits y ys fi) (All-head fits x xs fx)
      (sym (append_assoc (spell y) (flat_map spell ys) cur) ∙ same ∙ append_assoc (spell x) (flat_map spell xs) rest))

  pub many_none : (count : ℕ) (items : List A) (old cur : List ℕ) → All fits items → length items < count → old ≡ flat_map spell items ++ cur → SpellsNone spell fits cur
      → SpellsNone (flat_map spell) (FitMany fits count) old
  many_none count items old cur fi less is none = λ xs rest fit same.
      no_more items xs cur rest fi fit.each (let size = fit.count_is in omega arith) none (sym is ∙ same)

  pub list_none : (count : ℕ) (items : List A) (old cur : List ℕ) → count < 2 ^ 32 → All fits items → length items < count
      → old ≡ four count ++ (flat_map spell items ++ cur) → SpellsNone spell fits cur → SpellsNone (λ xs. four (length xs) ++ flat_map spell xs) (FitList fits) old
  list_none count items old cur small fi less is none =
      counted_none spell fits count old (flat_map spell items ++ cur) small is (many_none count items (flat_map spell items ++ cur) cur fi less refl none)

-- spellings of `least` bytes and more
pub too_short : {A : Type 0} (spell : A → List ℕ) (fits : A → Type 0) (least : ℕ) (old : List ℕ) → ((x : A) → least ≤ length (spell x)) → length old < least → SpellsNone spell fits old
too_short spell fits least old long short = λ x rest fit same. omega (arith, ap length same, length-append (spell x) rest, long x)

-- one more item of a list that is taken
pub took_more : {A : Type 0} (spell : A → List ℕ) (items : List A) (x : A) (front old mid new : List ℕ)
    → old ≡ front ++ (flat_map spell items ++ mid) → mid ≡ spell x ++ new → old ≡ front ++ (flat_map spell (items ++ x ∷ []) ++ new)
took_more spell items x front old mid new so next =
    so ∙ ap (λ (b : List ℕ). front ++ (flat_map spell items ++ b)) next
    ∙ ap (λ (b : List ℕ). front ++ b) (sym (append_assoc (flat_map spell items) (spell x) new))
    ∙ ap (λ (b : List ℕ). front ++ (b ++ new)) (flat_map_more spell [] items x)

-- a cursor that gives nothing has fewer bytes left
pub fewer : (n size : ℕ) → (n ≤ size → false ≡ true) → size < n
fewer n size enough = ⊎_elim (λ less. less) (λ more. let no = enough more in cc) (cases_lt size n)

pub rows_back : ReadsBack (read_list read_row) spelled_rows (FitList FitsRow)
rows_back rows rest fit = ap (read_list read_row) (append_assoc (four (length rows)) (flat_map spelled_row rows) rest) ∙ list_back read_row spelled_row FitsRow row_back rows rest fit

-- rows with no list of extents behind them are no volume
pub volume_none : (rows : List CategoryRow) (old mid : List ℕ) → Took spelled_rows (FitList FitsRow) rows old mid → SpellsNone spelled_extents (FitList FitsFour) mid → SpellsNone spelled_volume FitsVolume old
volume_none rows old mid took none = λ e rest fit same.
    none e.extents rest fit.extents
    (same_rest (read_list read_row) spelled_rows (FitList FitsRow) rows_back rows e.rows mid (spelled_extents e.extents ++ rest) took.fit fit.rows
    (sym took.so ∙ same ∙ append_assoc (spelled_rows e.rows) (spelled_extents e.extents) rest))

-- the same of items that show entries, where the longer list is known by an equation
module _ {X A : Type 0} (entry : X → A) (items after : List X) (x : X) (pushed : after ≡ items ++ x ∷ []) where
  entries : map entry after ≡ map entry items ++ entry x ∷ []
  entries = ap (map entry) pushed ∙ map-append entry items (x ∷ [])

  pub took_entry : (spell : A → List ℕ) (front old mid new : List ℕ) → old ≡ front ++ (flat_map spell (map entry items) ++ mid) → mid ≡ spell (entry x) ++ new
      → old ≡ front ++ (flat_map spell (map entry after) ++ new)
  took_entry spell front old mid new so next =
      took_more spell (map entry items) (entry x) front old mid new so next
      ∙ ap (λ (es : List A). front ++ (flat_map spell es ++ new)) (sym entries)

  pub fits_entry : (fits : A → Type 0) → All fits (map entry items) → fits (entry x) → All fits (map entry after)
  fits_entry fits fit one = All-same fits (map entry after) (map entry items ++ entry x ∷ []) entries (All-push fits (map entry items) (entry x) fit one)

  pub longer_by_one : length after ≡ length items + 1
  longer_by_one = ap length pushed ∙ length-append items (x ∷ [])
