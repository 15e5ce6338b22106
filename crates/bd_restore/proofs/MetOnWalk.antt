-- A damage that a walk meets breaks its rule where a restore looks, and doesn't come where the walk is whole.
use Rattle.std.proofs.Common.{◌≡◌, ◌≢◌, ℕ, zero, suc, ◌+◌, ◌*◌, ◌<◌, ◌≤◌, Bool, true, false, cond, not, List, [], ◌∷◌, ◌++◌, get_or, map, inl, inr, append_assoc, le-leb, refl, sym, ◌∙◌, ap, subst, arith, Some, slice_get}
use Rattle.std.specs.Prelude.{length, nat_lt, bytes_eq, ◌&&◌, ◌==◌}
use Rattle.std.specs.List.{Contains, list_all}
use Rattle.std.proofs.lemmas.Bool.{eqb-true, false≢true, ne_eqb}
use Rattle.std.proofs.lemmas.List.{get_or-map, map-append}
use Rattle.std.proofs.lemmas.Grind.{flat_map-append}
use Rattle.std.proofs.lemmas.List.Elements.{All-weaker, Contains-append_left, Contains-append_right, Contains-get_or, filter-append}
use Rattle.std.proofs.lemmas.List.Folds.{list_all-append}
use Rattle.std.proofs.lemmas.List.Sums.{sum_by-append, sum_by-cons}
use Rattle.std.proofs.lemmas.Option.{slice_get-get_or}
use Rattle.std.proofs.lemmas.Slice.Eq.{bytes_eq-Decides}
use Rattle.bd_disk.specs.History.{History}
use Rattle.bd_disk.specs.Trace.{ReadsOnly}
use Rattle.bd_model.specs.Sizes.{Sizes}
use Rattle.bd_model.specs.Extents.{owner_bytes, places_at}
use Rattle.bd_model.specs.Marks.{mark}
use Rattle.bd_model.specs.Records.{Stored}
use Rattle.bd_model.specs.declared.damage.Damage.{Damage}
use Rattle.bd_model.specs.declared.damage.Damage.TheVariants.{Entry, Sum, Header, Row, Body, Length, Missing}
use Rattle.bd_model.specs.declared.damage.Owner.{Owner}
use Rattle.bd_model.specs.declared.layout.RecipeEntry.{RecipeEntry}
use Rattle.bd_model.specs.declared.mark.Mark.{Mark}
use Rattle.bd_model.proofs.ListLemmas.{left_and, right_and}
use Rattle.bd_roll.specs.Catalogue.{Catalogue, recipe_extents}
use Rattle.bd_catalog.specs.Damages.{BreaksRule, IsBadHeader, IsOfVersion, IsRecordOf, entry_places_of, header_holds, reached_for, unlike}
use Rattle.bd_catalog.specs.Rows.{RowPlace, Spot, records_at, row_bytes, row_end, row_spots, spots_in, walk}
use Rattle.bd_catalog.specs.Sound.{is_stored, part_holds, part_records, recipe_of, records_for, stored_holds, length_holds, with_mark}
use Rattle.bd_recipe.specs.Reading.{chunks_in, recipe_places}
use Rattle.bd_recipe.proofs.Entries.{length-entries_in}
use Rattle.bd_recipe.proofs.Found.{places_of_entry}
use Rattle.bd_restore.specs.Met.{BreaksAt, ComesTo, HasEntry, IsNeeded, IsOfRecipe, IsReached, IsSeenAfter, IsWholeVersion, MetOn}
use Rattle.bd_restore.specs.Target.{flag_at, length_at, mark_at}
use Rattle.bd_restore.specs.Walk.{AreFlags, Sought, is_found}
use Rattle.bd_volume.specs.Headers.{HasGoodHeaders}
use Rattle.bd_volume.proofs.Spots.{past_sum, place_is, taken}
use Rattle.bd_volume.proofs.WalkRecords.{part_at, records_both, row_records, walk_parts, walk_records}
use Rattle.bd_restore.proofs.Reached.{all_reached, reached_to}
use Rattle.bd_restore.proofs.WalkLemmas.{bool_cases, none_found}

-- an entry of a list that passes a test
pub passing_entry : (test : RecipeEntry → Bool) (entries : List RecipeEntry) (k : ℕ) → k < length entries → list_all test entries ≡ true → (e : RecipeEntry) × (test e ≡ true) × (mark_at entries k ≡ e.mark.0) × (length_at entries k ≡ e.length)
passing_entry test [] k lt all = absurd (omega arith)
passing_entry test (e ∷ entries) zero lt all = (e, left_and (test e) (list_all test entries) all, refl, refl)
passing_entry test (e ∷ entries) (suc k) lt all = passing_entry test entries k (omega arith) (right_and (test e) (list_all test entries) all)

-- the entry with a mark and a length
entry_of : (entries : List RecipeEntry) (m : Mark) (n : ℕ) → HasEntry entries m.0 n → (e : RecipeEntry) × Contains entries e × (e.mark ≡ m) × (e.length ≡ n)
entry_of entries m n has =
    let e = get_or entries has.index (record { mark = m; length = n; start = 0 }) in
    let marks : e.mark.0 ≡ m.0 = sym (get_or-map (λ (x : RecipeEntry). x.mark.0) entries has.index (record { mark = m; length = n; start = 0 }) [] has.inside) ∙ has.is_mark in (
      e,
      Contains-get_or entries has.index (record { mark = m; length = n; start = 0 }) has.inside,
      (λ i. record { 0 = marks i }),
      sym (get_or-map (λ (x : RecipeEntry). x.length) entries has.index (record { mark = m; length = n; start = 0 }) 0 has.inside) ∙ has.is_length,
    )

-- of records without the entry's mark none is unlike it
none_unlike : (e : RecipeEntry) (xs : List Spot) → with_mark e.mark.0 (records_at xs) ≡ [] → unlike e xs ≡ []
none_unlike e [] none = refl
none_unlike e (y ∷ xs) none =
    let m = e.mark.0 in
    let rest = with_mark m (records_at xs) in
    elim (bool_cases (bytes_eq y.stored.mark m)) [
      | inl hit ↦ absurd (some (sym (ap (λ b. cond b (y.stored ∷ rest) rest) hit) ∙ none))
      | inr miss ↦ ap (λ b. cond (b && not (y.stored.length == e.length)) (y ∷ unlike e xs) (unlike e xs)) miss ∙ none_unlike e xs (sym (ap (λ b. cond b (y.stored ∷ rest) rest) miss) ∙ none)
    ] where
      some : y.stored ∷ with_mark e.mark.0 (records_at xs) ≡ [] → ⊥
      some h = cc

module _ (s : Sizes) (c : Catalogue) (image : List ℕ) (v : ℕ) where
  module _ (entries : List RecipeEntry) (filled : List Bool) (damage : Damage) (old new : History) (none : AreFlags entries [] filled) (met : MetOn (record { sizes = s; version = v; entries = entries }) image filled (walk c v) damage old new) where
    abbrev w : Sought
    w = record { sizes = s; version = v; entries = entries }

    abbrev r : IsReached s image (walk c v) met.place met.spot
    r = met.reached

    abbrev p : RowPlace
    p = met.place

    abbrev x : Spot
    x = met.spot

    -- the records of the walk up to it, and those behind it
    abbrev ahead : List Spot
    ahead = spots_in s image r.before ++ r.first

    abbrev rest : List Spot
    rest = r.later ++ spots_in s image r.behind

    breaks : BreaksAt w (records_at ahead) p x damage met.places
    breaks = met.breaks [] none

    spots_are : spots_in s image (walk c v) ≡ ahead ++ (x ∷ rest)
    spots_are =
        let front = spots_in s image r.before in
        let behind = spots_in s image r.behind in
        ap (spots_in s image) r.so ∙ flat_map-append (row_spots s image) r.before (p ∷ r.behind)
        ∙ ap (λ l. front ++ (l ++ behind)) r.spots
        ∙ ap (λ l. front ++ l) (append_assoc r.first (x ∷ r.later) behind)
        ∙ sym (append_assoc front r.first (x ∷ rest))

    -- ---- the damage is one of this restore

    part_of : (d : Damage) → BreaksAt w (records_at ahead) p x d met.places → IsOfVersion v d
    part_of (Header who at said left) b = tt
    part_of (Body who at recorded found) b = tt
    part_of (Length u m recorded found) b = b.0
    part_of (Entry u index said start) b = absurd b
    part_of (Sum u recorded found) b = absurd b
    part_of (Row who start recorded found) b = tt
    part_of (Missing u index m) b = absurd b

    pub met_part : IsOfVersion v damage
    met_part = part_of damage breaks

    walked_by : (d : Damage) → BreaksAt w (records_at ahead) p x d met.places → ¬ IsOfRecipe d
    walked_by (Header who at said left) b it = it
    walked_by (Body who at recorded found) b it = it
    walked_by (Length u m recorded found) b it = it
    walked_by (Entry u index said start) b it = b
    walked_by (Sum u recorded found) b it = b
    walked_by (Row who start recorded found) b it = it
    walked_by (Missing u index m) b it = it

    pub met_walked : ¬ IsOfRecipe damage
    met_walked = walked_by damage breaks

    needed_by : (d : Damage) → BreaksAt w (records_at ahead) p x d met.places → IsNeeded entries d
    needed_by (Header who at said left) b = tt
    needed_by (Body who at recorded found) b = b.3
    needed_by (Length u m recorded found) b = tt
    needed_by (Entry u index said start) b = tt
    needed_by (Sum u recorded found) b = tt
    needed_by (Row who start recorded found) b = tt
    needed_by (Missing u index m) b = tt

    pub met_needed : IsNeeded entries damage
    met_needed = needed_by damage breaks

    -- ---- its bytes break its rule

    record_of : (who : Owner) (at : ℕ) → p.who ≡ who → x.at ≡ at → IsRecordOf s image (walk c v) who at p x
    record_of who at whose there = record {
      is_row = subst (λ l. Contains l p) (sym r.so) (Contains-append_right r.before (p ∷ r.behind) p (0, omega arith, refl));
      is_owner = whose;
      is_at = there;
      before = r.first;
      behind = r.later;
      so = r.spots;
      good = r.good;
    }

    first_unlike : header_holds s p x ≡ true → (e : RecipeEntry) → x.stored.mark ≡ e.mark.0 → x.stored.length ≢ e.length → is_found (records_at ahead) e.mark.0 ≡ false → slice_get (unlike e (reached_for s c image v)) 0 ≡ Some x
    first_unlike holds e same differ unseen =
        let test = λ (y : Spot). bytes_eq y.stored.mark e.mark.0 && not (y.stored.length == e.length) in
        let hit : test x ≡ true = (λ i. (bytes_eq-Decides x.stored.mark e.mark.0).1 same i && not (ne_eqb x.stored.length e.length differ i)) in
        let all = reached_to s image p x r.first r.later r.spots r.good holds c v r.before r.behind r.so r.ahead.each in
        ap (λ l. slice_get l 0)
        (ap (unlike e) all.1 ∙ filter-append test ahead (x ∷ all.0)
        ∙ (λ i. none_unlike e ahead (none_found (with_mark e.mark.0 (records_at ahead)) unseen) i ++ cond (hit i) (x ∷ unlike e all.0) (unlike e all.0)))

    module _ (are : entries ≡ recipe_of s c image v) where
      rule_of : (d : Damage) → BreaksAt w (records_at ahead) p x d met.places → BreaksRule s c image (walk c v) d met.places
      rule_of (Header who at said left) b = (p, x, record_of who at b.0 b.1, b.2)
      rule_of (Body who at recorded found) b = (p, x, record_of who at b.0 b.1, b.2)
      rule_of (Length u m recorded found) b =
          let entry = entry_of (recipe_of s c image v) m recorded (subst (λ es. HasEntry es m.0 recorded) are b.1) in
          let e = entry.0 in
          let same : m.0 ≡ e.mark.0 = sym (ap (λ (k : Mark). k.0) entry.2) in
          let differ : x.stored.length ≢ e.length = λ equal. b.4 (sym b.3 ∙ equal ∙ entry.3) in
          let first : slice_get (unlike e (reached_for s c image v)) 0 ≡ Some x = first_unlike b.6 e (b.2 ∙ same) differ (ap (is_found (records_at ahead)) (sym same) ∙ b.5) in
          subst (λ w. BreaksRule s c image (walk c v) (Length w m recorded found) met.places) (sym b.0) (e, x, entry.1, entry.2, entry.3, first, b.3, b.7)
      rule_of (Entry u index said start) b = absurd b
      rule_of (Sum u recorded found) b = absurd b
      rule_of (Row who start recorded found) b = absurd b
      rule_of (Missing u index m) b = absurd b

      abbrev found : Sought
      found = record { sizes = s; version = v; entries = recipe_of s c image v }

      breaks_found : BreaksAt found (records_at ahead) p x damage met.places
      breaks_found = subst (λ es. BreaksAt (record { sizes = s; version = v; entries = es }) (records_at ahead) p x damage met.places) are breaks

      comes_of : (d : Damage) → BreaksAt found (records_at ahead) p x d met.places → ComesTo found image (walk c v) d met.places
      comes_of (Header who at said left) b = (p, x, r, b)
      comes_of (Body who at recorded found) b = (p, x, r, b)
      comes_of (Length u m recorded found) b = (p, x, r, b)
      comes_of (Row who start recorded found) b = (p, x, r, b)
      comes_of (Entry u index said start) b = tt
      comes_of (Sum u recorded found) b = tt
      comes_of (Missing u index m) b = absurd b

      pub met_seen : IsSeenAfter s c image v damage old new
      met_seen = record {
        places = met.places;
        more = met.read.more;
        so = met.read.so;
        read = All-weaker (λ k. Contains met.read.more k) (λ k. Contains (recipe_places s c v ++ met.read.more) k) (λ k h. Contains-append_right (recipe_places s c v) met.read.more k h) met.places met.read.all;
        breaks = rule_of damage breaks;
        comes = comes_of damage breaks_found;
      }

    -- ---- where the walk is whole no damage is met

    all_are : records_for s c image v ≡ records_at ahead ++ (x.stored ∷ records_at rest)
    all_are = sym (walk_records s image c v) ∙ ap records_at spots_are ∙ records_both s image ahead (x ∷ rest)

    module _ (sound : IsWholeVersion s c image v entries) where
      part_is : part_holds s (part_at s image p) ≡ true
      part_is =
          let all : list_all (part_holds s) (map (part_at s image) (r.before ++ (p ∷ r.behind))) ≡ true =
          ap (λ l. list_all (part_holds s) (map (part_at s image) l)) (sym r.so) ∙ ap (list_all (part_holds s)) (walk_parts s image c v) ∙ sound.rows in
          let joined : list_all (part_holds s) (map (part_at s image) r.before ++ map (part_at s image) (p ∷ r.behind)) ≡ true = ap (list_all (part_holds s)) (sym (map-append (part_at s image) r.before (p ∷ r.behind))) ∙ all in
          let behind = right_and (list_all (part_holds s) (map (part_at s image) r.before)) (list_all (part_holds s) (map (part_at s image) (p ∷ r.behind))) (sym (list_all-append (part_holds s) (map (part_at s image) r.before) (map (part_at s image) (p ∷ r.behind))) ∙ joined) in
          left_and (part_holds s (part_at s image p)) (list_all (part_holds s) (map (part_at s image) r.behind)) behind

      abbrev front : List Stored
      front = records_at r.first

      abbrev back : List Stored
      back = x.stored ∷ records_at r.later

      records_are : part_records (part_at s image p) ≡ front ++ back
      records_are = sym (row_records s image p) ∙ ap records_at r.spots ∙ records_both s image r.first (x ∷ r.later)

      each_holds : list_all (stored_holds s) (front ++ back) ≡ true
      each_holds = ap (list_all (stored_holds s)) (sym records_are) ∙ left_and (list_all (stored_holds s) (part_records (part_at s image p))) (taken (part_records (part_at s image p)) == p.row.bytes) part_is

      stored_is : stored_holds s x.stored ≡ true
      stored_is =
          left_and (stored_holds s x.stored) (list_all (stored_holds s) (records_at r.later))
          (right_and (list_all (stored_holds s) front) (list_all (stored_holds s) back) (sym (list_all-append (stored_holds s) front back) ∙ each_holds))

      fits_in : x.at + 36 + x.stored.length ≤ row_end p
      fits_in =
          let size : taken (front ++ back) ≡ p.row.bytes = ap taken (sym records_are) ∙ eqb-true (taken (part_records (part_at s image p))) p.row.bytes (right_and (list_all (stored_holds s) (part_records (part_at s image p))) (taken (part_records (part_at s image p)) == p.row.bytes) part_is) in
          let sum : taken (front ++ back) ≡ taken front + taken back = sum_by-append (λ (r : Stored). 36 + r.length) front back in
          let one : taken back ≡ 36 + x.stored.length + taken (records_at r.later) = sum_by-cons (λ (r : Stored). 36 + r.length) x.stored (records_at r.later) in
          omega (arith, place_is p.extents (row_bytes s image p) p.row.chunks p.from r.first x r.later r.spots, past_sum p.from r.first, size, sum, one)

      fronts : (length_holds s x.stored.length && length x.stored.body == x.stored.length) ≡ true
      fronts = left_and (length_holds s x.stored.length && length x.stored.body == x.stored.length) (bytes_eq (mark x.stored.body) x.stored.mark) stored_is

      header_is : header_holds s p x ≡ true
      header_is = (λ i. left_and (length_holds s x.stored.length) (length x.stored.body == x.stored.length) fronts i && le-leb (x.at + 36 + x.stored.length) (row_end p) fits_in i)

      marked : mark x.stored.body ≡ x.stored.mark
      marked = (bytes_eq-Decides (mark x.stored.body) x.stored.mark).0 (right_and (length_holds s x.stored.length && length x.stored.body == x.stored.length) (bytes_eq (mark x.stored.body) x.stored.mark) stored_is)

      good_header : (said left : ℕ) → IsBadHeader s p x said left met.places → ⊥
      good_header said left (inl bad) = omega (arith, bad.0, bad.1, fits_in)
      good_header said left (inr bad) = false≢true (sym bad.2 ∙ header_is)

      good_length : (m : Mark) (recorded : ℕ) → x.stored.mark ≡ m.0 → x.stored.length ≢ recorded → HasEntry entries m.0 recorded → ⊥
      good_length m recorded same differs has =
          let entry = passing_entry (is_stored (records_for s c image v)) entries has.index has.inside sound.entries_stored in
          let e = entry.0 in
          let hit : bytes_eq x.stored.mark e.mark.0 ≡ true = (bytes_eq-Decides x.stored.mark e.mark.0).1 (same ∙ sym has.is_mark ∙ entry.2) in
          let marks = λ (l : List Stored). with_mark e.mark.0 l in
          let same_size = λ (r : Stored). r.length == e.length in
          let before = marks (records_at ahead) in
          let behind = marks (records_at rest) in
          let with_it : marks (records_for s c image v) ≡ before ++ (x.stored ∷ behind) =
          ap marks all_are ∙ filter-append (λ (r : Stored). bytes_eq r.mark e.mark.0) (records_at ahead) (x.stored ∷ records_at rest) ∙ ap (λ t. before ++ cond t (x.stored ∷ behind) behind) hit in
          let all : list_all same_size (before ++ (x.stored ∷ behind)) ≡ true =
          ap (list_all same_size) (sym with_it) ∙ right_and (nat_lt 0 (length (marks (records_for s c image v)))) (list_all same_size (marks (records_for s c image v))) entry.1 in
          let here : list_all same_size (x.stored ∷ behind) ≡ true = right_and (list_all same_size before) (list_all same_size (x.stored ∷ behind)) (sym (list_all-append same_size before (x.stored ∷ behind)) ∙ all) in
          let equal : x.stored.length ≡ e.length = eqb-true x.stored.length e.length (left_and (same_size x.stored) (list_all same_size behind) here) in
          differs (equal ∙ sym entry.3 ∙ has.is_length)

      no_damage : (d : Damage) → BreaksAt w (records_at ahead) p x d met.places → ⊥
      no_damage (Header who at said left) b = good_header said left b.2
      no_damage (Body who at recorded found) b =
          let same : found.0 ≡ recorded.0 = b.2.2 ∙ marked ∙ sym b.2.1 in
          b.2.3 (λ i. record { 0 = same i })
      no_damage (Length u m recorded found) b = good_length m recorded b.2 (λ equal. b.4 (sym b.3 ∙ equal)) b.1
      no_damage (Entry u index said start) b = b
      no_damage (Sum u recorded found) b = b
      no_damage (Row who start recorded found) b = b
      no_damage (Missing u index m) b = b

      pub met_whole : ⊥
      met_whole = no_damage damage breaks

  -- ---- an entry that no record of the walk has the mark of

  module _ (entries : List RecipeEntry) (filled : List Bool) (flags : AreFlags entries (records_for s c image v) filled) (k : ℕ) (lt : k < length entries) (miss : flag_at filled k ≡ false) where
    not_found : is_found (records_for s c image v) (mark_at entries k) ≡ false
    not_found = sym (flags.each k lt) ∙ miss

    pub missing_seen : (m : Mark) (more : List ℕ) {old new : History} → m.0 ≡ mark_at entries k → entries ≡ recipe_of s c image v → ReadsOnly more old new → HasGoodHeaders s image (walk c v) → IsSeenAfter s c image v (Missing v k m) old new
    missing_seen m more is_mark is reads good =
        let no_one : RecipeEntry = record { mark = m; length = 0; start = 0 } in
        let recipe = recipe_of s c image v in
        let records = records_for s c image v in
        let none_reached : with_mark m.0 (records_at (reached_for s c image v)) ≡ with_mark m.0 records = ap (λ l. with_mark m.0 (records_at l)) (all_reached s image c v good.each) ∙ ap (with_mark m.0) (walk_records s image c v) in
        let inside : k < length recipe = subst (λ l. k < length l) is lt in
        let e = get_or recipe k no_one in
        let count : length recipe ≡ chunks_in c v = length-entries_in (chunks_in c v) (owner_bytes s (recipe_extents c v) image) in
        let marks : e.mark.0 ≡ m.0 = sym (get_or-map (λ (x : RecipeEntry). x.mark.0) recipe k no_one [] inside) ∙ ap (λ l. mark_at l k) (sym is) ∙ sym is_mark in
        record {
          places = entry_places_of s c v k;
          more = more;
          so = reads.so;
          read = All-weaker (λ x. Contains (recipe_places s c v) x) (λ x. Contains (recipe_places s c v ++ more) x) (λ x h. Contains-append_left (recipe_places s c v) more x h) (places_at s (recipe_extents c v) (40 * k) 40)
              (places_of_entry s (recipe_extents c v) k (chunks_in c v) (omega (arith, inside, count)));
          breaks = (e, slice_get-get_or recipe k no_one inside, (λ i. record { 0 = marks i }), none_reached ∙ none_found (with_mark m.0 records) (ap (λ l. nat_lt 0 (length (with_mark l records))) is_mark ∙ not_found), refl);
          comes = good;
        }

    pub missing_whole : IsWholeVersion s c image v entries → ⊥
    missing_whole sound =
        let records = records_for s c image v in
        let entry = passing_entry (is_stored records) entries k lt sound.entries_stored in
        let e = entry.0 in
        let some : nat_lt 0 (length (with_mark e.mark.0 records)) ≡ true = left_and (nat_lt 0 (length (with_mark e.mark.0 records))) (list_all (λ (r : Stored). r.length == e.length) (with_mark e.mark.0 records)) entry.1 in
        false≢true (sym (sym some ∙ ap (λ l. nat_lt 0 (length (with_mark l records))) (sym entry.2) ∙ not_found))
