-- The records that are reached_spots: all of them where each header holds, and up to a record whose header holds behind others.
use Rattle.std.proofs.Common.{◌≡◌, ℕ, ◌-◌, true, cond, List, [], ◌∷◌, ◌++◌, map, append_assoc, refl, sym, ◌∙◌, ap}
use Rattle.std.specs.Prelude.{flat_map, nat_le}
use Rattle.std.specs.List.{list_all}
use Rattle.std.proofs.lemmas.Grind.{flat_map-append}
use Rattle.std.proofs.lemmas.List.Elements.{filter-append}
use Rattle.std.proofs.lemmas.List.Folds.{list_all-append}
use Rattle.bd_model.specs.Chunks.{numbers}
use Rattle.bd_model.specs.Sizes.{Sizes}
use Rattle.bd_model.proofs.ListLemmas.{left_and, right_and}
use Rattle.bd_roll.specs.Catalogue.{Catalogue, OpenEntry}
use Rattle.bd_catalog.specs.Damages.{good_front, header_holds, is_passed, owners_from, reached_spots, reached_for}
use Rattle.bd_catalog.specs.Rows.{RowPlace, Spot, begun_by, open_row, row_spots, spots_in, volume_rows, walk}

abbrev together : List (List RowPlace) → List RowPlace
together owners = flat_map (λ ps. ps) owners

-- ---- the rows of the owners are those of the walk

begun-together : (v : ℕ) (owners : List (List RowPlace)) → together (map (begun_by v) owners) ≡ begun_by v (together owners)
begun-together v [] = refl
begun-together v (ps ∷ owners) = ap (λ l. begun_by v ps ++ l) (begun-together v owners) ∙ sym (filter-append (λ (p : RowPlace). nat_le p.row.start v) ps (together owners))

together-each : (f : ℕ → List RowPlace) (ns : List ℕ) → together (map f ns) ≡ flat_map f ns
together-each f [] = refl
together-each f (n ∷ ns) = ap (λ l. f n ++ l) (together-each f ns)

together-open : (es : List OpenEntry) → together (map (λ e. open_row e ∷ []) es) ≡ map open_row es
together-open [] = refl
together-open (e ∷ es) = ap (λ l. open_row e ∷ l) (together-open es)

owners_walk : (c : Catalogue) (v : ℕ) → together (map (begun_by v) (owners_from c v)) ≡ walk c v
owners_walk c v =
    let volumes = numbers v (c.newest - 1) in
    begun-together v (owners_from c v)
    ∙ ap (begun_by v) (flat_map-append (λ (ps : List RowPlace). ps) (map (volume_rows c) volumes) (map (λ e. open_row e ∷ []) c.actives) ∙ (λ i. together-each (volume_rows c) volumes i ++ together-open c.actives i))

module _ (s : Sizes) (image : List ℕ) where
  -- ---- where each header holds

  all_good : (p : RowPlace) (xs : List Spot) → list_all (header_holds s p) xs ≡ true → good_front s p xs ≡ xs
  all_good p [] good = refl
  all_good p (x ∷ xs) good =
      ap (λ b. cond b (x ∷ good_front s p xs) []) (left_and (header_holds s p x) (list_all (header_holds s p) xs) good)
      ∙ ap (λ l. x ∷ l) (all_good p xs (right_and (header_holds s p x) (list_all (header_holds s p) xs) good))

  owner_reached : (ps : List RowPlace) → list_all (is_passed s image) ps ≡ true → reached_spots s image ps ≡ spots_in s image ps
  owner_reached [] good = refl
  owner_reached (p ∷ ps) good =
      let here = left_and (is_passed s image p) (list_all (is_passed s image) ps) good in
      (λ i. all_good p (row_spots s image p) here i ++ cond (here i) (reached_spots s image ps) [])
      ∙ ap (λ l. row_spots s image p ++ l) (owner_reached ps (right_and (is_passed s image p) (list_all (is_passed s image) ps) good))

  owners_reached : (owners : List (List RowPlace)) → list_all (is_passed s image) (together owners) ≡ true → flat_map (reached_spots s image) owners ≡ spots_in s image (together owners)
  owners_reached [] good = refl
  owners_reached (ps ∷ owners) good =
      let first = list_all (is_passed s image) ps in
      let rest = list_all (is_passed s image) (together owners) in
      let both = sym (list_all-append (is_passed s image) ps (together owners)) ∙ good in
      (λ i. owner_reached ps (left_and first rest both) i ++ owners_reached owners (right_and first rest both) i) ∙ sym (flat_map-append (row_spots s image) ps (together owners))

  pub all_reached : (c : Catalogue) (v : ℕ) → list_all (is_passed s image) (walk c v) ≡ true → reached_for s c image v ≡ spots_in s image (walk c v)
  all_reached c v good =
      owners_reached (map (begun_by v) (owners_from c v)) (ap (list_all (is_passed s image)) (owners_walk c v) ∙ good) ∙ ap (spots_in s image) (owners_walk c v)

  -- ---- up to a record x of the row p whose header holds, behind others that do

  module _ (p : RowPlace) (x : Spot) (first later : List Spot) (spots : row_spots s image p ≡ first ++ (x ∷ later)) (ahead : list_all (header_holds s p) first ≡ true) (here : header_holds s p x ≡ true) where
    front_to : (xs : List Spot) → list_all (header_holds s p) xs ≡ true → good_front s p (xs ++ (x ∷ later)) ≡ xs ++ (x ∷ good_front s p later)
    front_to [] good = ap (λ b. cond b (x ∷ good_front s p later) []) here
    front_to (y ∷ xs) good =
        ap (λ b. cond b (y ∷ good_front s p (xs ++ (x ∷ later))) []) (left_and (header_holds s p y) (list_all (header_holds s p) xs) good)
        ∙ ap (λ l. y ∷ l) (front_to xs (right_and (header_holds s p y) (list_all (header_holds s p) xs) good))

    -- these records are those of the rows before, and then x behind the first ones of its row
    abbrev BeginsWith : List RowPlace → List Spot → Type 0
    BeginsWith before all = (more : List Spot) × (all ≡ spots_in s image before ++ (first ++ (x ∷ more)))

    none_behind : (before behind : List RowPlace) → [] ≡ before ++ (p ∷ behind) → ⊥
    none_behind [] behind e = cc e
    none_behind (b ∷ before) behind e = cc e

    owner_to : (ps : List RowPlace) (owners : List (List RowPlace)) →
        ((before behind : List RowPlace) → together owners ≡ before ++ (p ∷ behind) → list_all (is_passed s image) before ≡ true → BeginsWith before (flat_map (reached_spots s image) owners)) →
        (before behind : List RowPlace) → ps ++ together owners ≡ before ++ (p ∷ behind) → list_all (is_passed s image) before ≡ true → BeginsWith before (reached_spots s image ps ++ flat_map (reached_spots s image) owners)
    owner_to [] owners rest before behind so good = rest before behind so good
    owner_to (q ∷ ps) owners rest [] behind so good =
        let same : q ≡ p = cc so in
        let others = flat_map (reached_spots s image) owners in
        let next = cond (is_passed s image q) (reached_spots s image ps) [] in
        let front = good_front s p later in (
          (front ++ next) ++ others,
          (λ i. (good_front s (same i) (row_spots s image (same i)) ++ next) ++ others)
              ∙ (λ i. (good_front s p (spots i) ++ next) ++ others)
              ∙ (λ i. (front_to first ahead i ++ next) ++ others)
              ∙ ap (λ l. l ++ others) (append_assoc first (x ∷ front) next)
              ∙ append_assoc first (x ∷ (front ++ next)) others,
        )
    owner_to (q ∷ ps) owners rest (b ∷ before) behind so good =
        let same : q ≡ b = cc so in
        let tails : ps ++ together owners ≡ before ++ (p ∷ behind) = cc so in
        let passed = left_and (is_passed s image b) (list_all (is_passed s image) before) good in
        let others = flat_map (reached_spots s image) owners in
        let row = row_spots s image b in
        let r = owner_to ps owners rest before behind tails (right_and (is_passed s image b) (list_all (is_passed s image) before) good) in (
          r.0,
          (λ i. (good_front s (same i) (row_spots s image (same i)) ++ cond (is_passed s image (same i)) (reached_spots s image ps) []) ++ others)
              ∙ (λ i. (all_good b row passed i ++ cond (passed i) (reached_spots s image ps) []) ++ others)
              ∙ append_assoc row (reached_spots s image ps) others
              ∙ ap (λ l. row ++ l) r.1
              ∙ sym (append_assoc row (spots_in s image before) (first ++ (x ∷ r.0))),
        )

    owners_to : (owners : List (List RowPlace)) (before behind : List RowPlace) → together owners ≡ before ++ (p ∷ behind) → list_all (is_passed s image) before ≡ true → BeginsWith before (flat_map (reached_spots s image) owners)
    owners_to [] before behind so good = absurd (none_behind before behind so)
    owners_to (ps ∷ owners) before behind so good = owner_to ps owners (owners_to owners) before behind so good

    pub reached_to : (c : Catalogue) (v : ℕ) (before behind : List RowPlace) → walk c v ≡ before ++ (p ∷ behind) → list_all (is_passed s image) before ≡ true →
        (more : List Spot) × (reached_for s c image v ≡ (spots_in s image before ++ first) ++ (x ∷ more))
    reached_to c v before behind so good =
        let all = owners_to (map (begun_by v) (owners_from c v)) before behind (owners_walk c v ∙ so) good in
        (all.0, all.1 ∙ sym (append_assoc (spots_in s image before) first (x ∷ all.0)))
