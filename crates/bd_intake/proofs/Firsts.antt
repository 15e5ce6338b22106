-- The chunks with different marks, one chunk after the other, and what they count.
use Rattle.std.proofs.Common.{◌≡◌, ℕ, ◌+◌, ◌*◌, ◌<◌, ◌≤◌, Bool, true, false, cond, not, ◌||◌, List, [], ◌∷◌, ◌++◌, refl, sym, ◌∙◌, ap, arith, filter, length, map, take, drop, find, unwrap_or, nat_lt, Some, None, option_map, length-append, append_assoc, take-append-drop, le-ltb, lt-ltb}
use Rattle.std.specs.Str.{bytes_eq}
use Rattle.std.proofs.Math.Seq.{take-append_seam}
use Rattle.std.proofs.lemmas.Bool.{or_left, or_right}
use Rattle.std.proofs.lemmas.List.{append-nil, length-map, take-map, take-append-le}
use Rattle.std.proofs.lemmas.List.Elements.{filter-append}
use Rattle.std.proofs.lemmas.List.Sums.{sum_by-append}
use Rattle.std.proofs.lemmas.List.Folds.{list_any-append}
use Rattle.bd_model.specs.Chunks.{numbers}
use Rattle.bd_model.specs.History.{VersionHistory, contains, distinct, newest, version}
use Rattle.bd_model.specs.Layout.{record_bytes}
use Rattle.bd_model.specs.Laws.{entries_of_chunks, start_in}
use Rattle.bd_model.specs.Marks.{mark, Distinct}
use Rattle.bd_model.specs.Recipe.{first_entries, entry_records, has_mark, recipe}
use Rattle.bd_model.specs.Room.{up, fresh, fresh_entries, need_of, counted_of, running_of}
use Rattle.bd_model.specs.declared.layout.RecipeEntry.{RecipeEntry}
use Rattle.bd_model.proofs.ChunkListLemmas.{bytes_eq-refl, bytes_eq-sym, filter-within, contains-append, contains-distinct}
use Rattle.bd_model.proofs.MarkLemmas.{marks_tell_chunks_apart}
use Rattle.bd_model.proofs.NeedLemmas.{filter-map, list_any-map, bytes_eq-mark}
use Rattle.bd_model.proofs.RoomLemmas.{up-le}
use Rattle.bd_gear.proofs.NextLemmas.{find-first}
use Rattle.bd_intake.specs.Firsts.{first_by_mark, new_by_mark, any_marked, with_new, extents_taken}

-- ---- one chunk more

one_more : (b m : Bool) (c d : List ℕ) (others : List (List ℕ)) →
    d ∷ cond (not m) (others ++ cond (not b) (c ∷ []) []) others ≡ cond (not (b || m)) ((d ∷ others) ++ c ∷ []) (d ∷ others)
one_more true true c d others = refl
one_more true false c d others = ap (λ xs. d ∷ xs) (append-nil others)
one_more false true c d others = refl
one_more false false c d others = refl

pub filter-cond : {X : Type 0} (p : X → Bool) (b : Bool) (xs ys : List X) → filter p (cond b xs ys) ≡ cond b (filter p xs) (filter p ys)
filter-cond p true xs ys = refl
filter-cond p false xs ys = refl

pub first_by_mark-push : (cs : List (List ℕ)) (c : List ℕ) → first_by_mark (cs ++ c ∷ []) ≡ with_new (not (any_marked cs (mark c))) c (first_by_mark cs)
first_by_mark-push [] c = refl
first_by_mark-push (d ∷ cs) c =
    let other : List ℕ → Bool = λ x. not (bytes_eq (mark d) (mark x)) in
    let t = not (any_marked cs (mark c)) in
    let before = first_by_mark cs in
    ap (λ xs. d ∷ filter other xs) (first_by_mark-push cs c)
    ∙ ap (λ xs. d ∷ xs) (filter-cond other t (before ++ c ∷ []) before)
    ∙ ap (λ xs. d ∷ cond t xs (filter other before)) (filter-append other before (c ∷ []))
    ∙ ap (λ b. d ∷ cond t (filter other before ++ cond (not b) (c ∷ []) []) (filter other before)) (bytes_eq-sym (mark d) (mark c))
    ∙ one_more (bytes_eq (mark c) (mark d)) (any_marked cs (mark c)) c d (filter other before)

pub new_by_mark-push : (old : List RecipeEntry) (cs : List (List ℕ)) (c : List ℕ) →
    new_by_mark old (cs ++ c ∷ []) ≡ with_new (not (has_mark old (mark c) || any_marked cs (mark c))) c (new_by_mark old cs)
new_by_mark-push old cs c =
    let lacks : List ℕ → Bool = λ d. not (has_mark old (mark d)) in
    let t = not (any_marked cs (mark c)) in
    let before = first_by_mark cs in
    ap (filter lacks) (first_by_mark-push cs c)
    ∙ filter-cond lacks t (before ++ c ∷ []) before
    ∙ ap (λ xs. cond t xs (filter lacks before)) (filter-append lacks before (c ∷ []))
    ∙ both_lack (has_mark old (mark c)) (any_marked cs (mark c)) (filter lacks before)
  where
    both_lack : (known came : Bool) (xs : List (List ℕ)) → cond (not came) (xs ++ cond (not known) (c ∷ []) []) xs ≡ cond (not (known || came)) (xs ++ c ∷ []) xs
    both_lack true true xs = refl
    both_lack true false xs = append-nil xs
    both_lack false true xs = refl
    both_lack false false xs = refl

pub is_marked-push : (cs : List (List ℕ)) (c m : List ℕ) → any_marked (cs ++ c ∷ []) m ≡ (any_marked cs m || bytes_eq m (mark c))
is_marked-push cs c m = list_any-append (λ d. bytes_eq m (mark d)) cs (c ∷ []) ∙ ap (λ t. any_marked cs m || t) (or-false (bytes_eq m (mark c)))
  where
    or-false : (b : Bool) → (b || false) ≡ b
    or-false true = refl
    or-false false = refl

-- ---- more chunks take no less

with_new-grows : (b : Bool) (c : List ℕ) (cs : List (List ℕ)) → record_bytes cs ≤ record_bytes (with_new b c cs)
with_new-grows true c cs = omega (arith, sum_by-append (λ x. 36 + length x) cs (c ∷ []))
with_new-grows false c cs = omega arith

module _ (old : List RecipeEntry) where
  bytes-grow : (cs : List (List ℕ)) (c : List ℕ) → record_bytes (new_by_mark old cs) ≤ record_bytes (new_by_mark old (cs ++ c ∷ []))
  bytes-grow cs c = omega (arith, ap record_bytes (new_by_mark-push old cs c), with_new-grows (not (has_mark old (mark c) || any_marked cs (mark c))) c (new_by_mark old cs))

  module _ (extent : ℕ) (some : 1 ≤ extent) where
    extents_of-push : (cs : List (List ℕ)) (c : List ℕ) → extents_taken extent old cs ≤ extents_taken extent old (cs ++ c ∷ [])
    extents_of-push cs c =
        omega (arith, up-le extent _ _ some (bytes-grow cs c), up-le extent (40 * length cs) (40 * length (cs ++ c ∷ [])) some (omega (arith, length-append cs (c ∷ []))))

    pub extents_of-more : (cs ds : List (List ℕ)) → extents_taken extent old cs ≤ extents_taken extent old (cs ++ ds)
    extents_of-more cs [] = omega (arith, ap (extents_taken extent old) (append-nil cs))
    extents_of-more cs (d ∷ ds) =
        omega (arith, extents_of-push cs d, extents_of-more (cs ++ d ∷ []) ds, ap (extents_taken extent old) (append_assoc cs (d ∷ []) ds))

-- ---- the same from entries

module _ (old : List RecipeEntry) (v : ℕ) where
  abbrev pub entry : List ℕ → RecipeEntry
  entry c = record { mark = record { 0 = mark c }; length = length c; start = start_in old (mark c) v }

  first_entries-by_mark : (cs : List (List ℕ)) → first_entries (map entry cs) ≡ map entry (first_by_mark cs)
  first_entries-by_mark [] = refl
  first_entries-by_mark (c ∷ cs) =
      ap (λ es. entry c ∷ filter (λ f. not (bytes_eq (mark c) f.mark.0)) es) (first_entries-by_mark cs)
      ∙ ap (λ es. entry c ∷ es) (filter-map entry (λ d. refl) (λ f. not (bytes_eq (mark c) f.mark.0)) (first_by_mark cs))

  entry_records-map : (cs : List (List ℕ)) → entry_records (map entry cs) ≡ record_bytes cs
  entry_records-map [] = refl
  entry_records-map (c ∷ cs) = omega (arith, entry_records-map cs, sum_by-append (λ e. 36 + e.length) (entry c ∷ []) (map entry cs), sum_by-append (λ d. 36 + length d) (c ∷ []) cs)

  fresh-bytes : (cs : List (List ℕ)) → entry_records (fresh_entries old (map entry cs)) ≡ record_bytes (new_by_mark old cs)
  fresh-bytes cs =
      ap (λ es. entry_records (filter (λ e. not (has_mark old e.mark.0)) es)) (first_entries-by_mark cs)
      ∙ ap entry_records (filter-map entry (λ d. refl) (λ e. not (has_mark old e.mark.0)) (first_by_mark cs))
      ∙ entry_records-map (new_by_mark old cs)

  -- a recipe of these chunks has the marks of these chunks
  pub has_mark-entries : (cs : List (List ℕ)) (m : List ℕ) → has_mark (entries_of_chunks old v cs) m ≡ any_marked cs m
  has_mark-entries cs m = list_any-map entry (λ d. refl) (λ e. bytes_eq m e.mark.0) cs

  module _ (extent : ℕ) (some : 1 ≤ extent) where
    running-is : (parts : List (List ℕ)) (n : ℕ) → running_of extent old (entries_of_chunks old v parts) n ≡ extents_taken extent old (take n parts)
    running-is parts n =
        let first : take n (map entry parts) ≡ map entry (take n parts) = take-map entry n parts in
        (λ k. up extent (entry_records (fresh_entries old (first k))) + up extent (40 * length (first k)))
        ∙ (λ k. up extent (fresh-bytes (take n parts) k) + up extent (40 * length-map (take n parts) entry k))

    -- what the new records and the entries take is part of what the version needs
    pub extents-in_need : (parts : List (List ℕ)) → up extent (entry_records (fresh_entries old (entries_of_chunks old v parts))) + up extent (40 * length (entries_of_chunks old v parts)) ≡ extents_taken extent old parts
    extents-in_need parts = (λ k. up extent (fresh-bytes parts k) + up extent (40 * length-map parts entry k))

    front-le : (parts : List (List ℕ)) (n : ℕ) → extents_taken extent old (take n parts) ≤ extents_taken extent old parts
    front-le parts n = omega (arith, extents_of-more old extent some (take n parts) (drop n parts), ap (extents_taken extent old) (take-append-drop n parts))

    find-none : (p : ℕ → Bool) (f : ℕ → ℕ) (ns : List ℕ) → ((n : ℕ) → p (f n) ≡ false) → find p (map f ns) ≡ None
    find-none p f [] none = refl
    find-none p f (n ∷ ns) none = (λ k. cond (none n k) (Some (f n)) (find p (map f ns))) ∙ find-none p f ns none

    -- where no front is too much, all that is needed is counted
    pub counted-whole : (parts : List (List ℕ)) (free : ℕ) → extents_taken extent old parts ≤ free → counted_of extent old (entries_of_chunks old v parts) free ≡ need_of extent old (entries_of_chunks old v parts)
    unfolding counted_of
    counted-whole parts free fits =
        let es = entries_of_chunks old v parts in
        ap (λ o. unwrap_or o (need_of extent old es))
        (find-none (nat_lt free) (running_of extent old es) (numbers 1 (length es)) (λ n. le-ltb free (running_of extent old es n) (omega (arith, running-is parts n, front-le parts n, fits))))

    find-map : (p : ℕ → Bool) (f : ℕ → ℕ) (ns : List ℕ) → find p (map f ns) ≡ option_map f (find (λ n. p (f n)) ns)
    find-map p f [] = refl
    find-map p f (n ∷ ns) =
        elim (p (f n)) as (λ t. cond t (Some (f n)) (find p (map f ns)) ≡ option_map f (cond t (Some n) (find (λ m. p (f m)) ns))) [
          | true ↦ refl
          | false ↦ find-map p f ns
        ]

    -- the first front that is too much is what is counted
    pub counted-first : (earlier : List (List ℕ)) (last : List ℕ) (rest : List (List ℕ)) (free : ℕ) →
        extents_taken extent old earlier ≤ free → free < extents_taken extent old (earlier ++ last ∷ []) →
        counted_of extent old (entries_of_chunks old v ((earlier ++ last ∷ []) ++ rest)) free ≡ extents_taken extent old (earlier ++ last ∷ [])
    unfolding counted_of
    counted-first earlier last rest free fits more =
        let parts = (earlier ++ last ∷ []) ++ rest in
        let es = entries_of_chunks old v parts in
        let f = running_of extent old es in
        let k = length earlier + 1 in
        let long : length (earlier ++ last ∷ []) ≡ k = length-append earlier (last ∷ []) in
        let size : length es ≡ length parts = length-map parts entry in
        let whole : take k parts ≡ earlier ++ last ∷ [] = ap (λ n. take n parts) (sym long) ∙ take-append_seam (earlier ++ last ∷ []) rest in
        let here : f k ≡ extents_taken extent old (earlier ++ last ∷ []) = running-is parts k ∙ ap (extents_taken extent old) whole in
        let split : parts ≡ earlier ++ (last ∷ rest) = append_assoc earlier (last ∷ []) rest in
        let before : (m : ℕ) → 1 ≤ m → m < k → nat_lt free (f m) ≡ false = λ m low high.
        let front : take m parts ≡ take m earlier = ap (take m) split ∙ take-append-le m earlier (last ∷ rest) (omega arith) in
        le-ltb free (f m) (omega (arith, running-is parts m, ap (extents_taken extent old) front, extents_of-more old extent some (take m earlier) (drop m earlier), ap (extents_taken extent old) (take-append-drop m earlier), fits)) in
        let found : find (λ n. nat_lt free (f n)) (numbers 1 (length es)) ≡ Some k =
        find-first (λ n. nat_lt free (f n)) 1 k (length es) (omega arith) (omega arith) (omega (arith, size, length-append (earlier ++ last ∷ []) rest, long)) before (lt-ltb free (f k) (omega (arith, here, more))) in
        ap (λ o. unwrap_or o (need_of extent old es)) (find-map (nat_lt free) f (numbers 1 (length es)) ∙ ap (option_map f) found) ∙ here

-- ---- the law

-- where marks tell the chunks apart, those with different marks are the different ones
pub first_chunks : (cs : List (List ℕ)) → Distinct cs → first_by_mark cs ≡ distinct cs
first_chunks [] apart = refl
first_chunks (c ∷ cs) apart =
    let inside : (d : List ℕ) → contains cs d ≡ true → contains (c ∷ cs) d ≡ true = λ d has. or_right (bytes_eq d c) (contains cs d) has in
    let here : contains (c ∷ cs) c ≡ true = or_left (bytes_eq c c) (contains cs c) (bytes_eq-refl c) in
    let other : (d : List ℕ) → contains (distinct cs) d ≡ true → not (bytes_eq (mark c) (mark d)) ≡ not (bytes_eq c d) =
    λ d has. ap not (bytes_eq-mark c d (apart c d here (inside d (sym (contains-distinct cs d) ∙ has)))) in
    ap (λ xs. c ∷ filter (λ d. not (bytes_eq (mark c) (mark d))) xs) (first_chunks cs (λ x y in_x in_y. apart x y (inside x in_x) (inside y in_y)))
    ∙ ap (λ xs. c ∷ xs) (filter-within _ _ (distinct cs) other)

-- those that the newest recipe lacks are the fresh ones
pub new_chunks : (h : VersionHistory) (cs : List (List ℕ)) → Distinct (version h (newest h) ++ cs) → new_by_mark (recipe h (newest h)) cs ≡ fresh h cs
new_chunks h cs apart =
    let inside : (d : List ℕ) → contains cs d ≡ true → contains (version h (newest h) ++ cs) d ≡ true =
    λ d has. contains-append (version h (newest h)) cs d ∙ or_right (contains (version h (newest h)) d) (contains cs d) has in
    ap (filter (λ c. not (has_mark (recipe h (newest h)) (mark c)))) (first_chunks cs (λ c d in_c in_d. apart c d (inside c in_c) (inside d in_d)))
    ∙ marks_tell_chunks_apart.is_fresh h cs apart
