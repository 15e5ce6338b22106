-- What is counted from two recipes alone.
use Rattle.std.proofs.Common.{◌≡◌, ℕ, zero, suc, ◌+◌, ◌*◌, ◌<◌, ◌≤◌, Bool, true, false, cond, not, ◌&&◌, ◌||◌, List, [], ◌∷◌, ◌++◌, refl, sym, ◌∙◌, ap, subst, arith, filter, length, map, take, find, unwrap_or, sum_by, nat_eq, nat_lt, eq-eqb, length-take, take-append-drop, drop, inl, inr}
use Rattle.std.proofs.lemmas.Bool.{false≢true, or_left, or_right, or_cases, eqb-true}
use Rattle.std.proofs.lemmas.List.{length-map, take-map}
use Rattle.std.proofs.lemmas.List.Sums.{sum_by-cons}
use Rattle.std.specs.List.{list_any}
use Rattle.std.specs.Str.{bytes_eq}
use Rattle.bd_model.specs.Chunks.{numbers}
use Rattle.bd_model.specs.Marks.{mark, Distinct}
use Rattle.bd_model.specs.History.{VersionHistory, version, newest, contains}
use Rattle.bd_model.specs.declared.layout.RecipeEntry.{RecipeEntry}
use Rattle.bd_model.specs.Recipe.{start_of, entry_of, recipe, first_entries, has_mark, entry_records, starts_of}
use Rattle.bd_model.specs.Layout.{record_bytes}
use Rattle.bd_model.specs.Room.{up, need, counted, running, fresh, need_of, counted_of, running_of, fresh_entries, kept_entries, archived_entries, entries_from}
use Rattle.bd_model.proofs.ListLemmas.{filter-same, filter-filter, sum_by-agree, sum_by-zero, sum_by-plus, sum_by-one_key, sum_by-filter}
use Rattle.bd_model.proofs.ChunkListLemmas.{bytes_eq-refl, contains-append, sum_by-cond}
use Rattle.bd_model.proofs.RecipeLemmas.{start_of-low, start_of-le}
use Rattle.bd_model.proofs.RoomLemmas.{up-le}
use Rattle.bd_model.specs.Laws.{RecipesGiveTheCounts}
use Rattle.bd_model.proofs.NeedLemmas.{need_over, need_over-need, fresh-from_entries}
use Rattle.bd_model.proofs.CountedLemmas.{first_above}

-- whether an entry has the start
abbrev pub has_start : List RecipeEntry → ℕ → Bool
has_start es i = list_any (λ e. nat_eq e.start i) es

-- what one start more adds at a number
one_start : (f : ℕ → ℕ) (p : ℕ → Bool) (s i : ℕ) (t : Bool) → cond (p i && (nat_eq s i || t)) (f i) 0 ≡ cond (nat_eq s i && p s) (f s) 0 + cond ((not (nat_eq s i) && p i) && t) (f i) 0
one_start f p s i t =
    elim (nat_eq s i) as (λ b. nat_eq s i ≡ b → cond (p i && (b || t)) (f i) 0 ≡ cond (b && p s) (f s) 0 + cond ((not b && p i) && t) (f i) 0) [
      | true ↦ λ e. same e
      | false ↦ λ e. omega arith
    ] refl
  where
    same : nat_eq s i ≡ true → cond (p i && true) (f i) 0 ≡ cond (p s) (f s) 0 + 0
    same e = subst (λ n. cond (p n && true) (f n) 0 ≡ cond (p s) (f s) 0 + 0) (eqb-true s i e) (elim (p s) as (λ b. cond (b && true) (f s) 0 ≡ cond b (f s) 0 + 0) [ true ↦ omega arith | false ↦ refl ])

-- a sum over the starts that occur is a sum over a range in which they lie
pub sum_by-starts_of : (f : ℕ → ℕ) (p : ℕ → Bool) (a z : ℕ) (es : List RecipeEntry) → ((i : ℕ) → has_start es i ≡ true → (a ≤ i) × (i ≤ z)) →
    sum_by f (filter p (starts_of es)) ≡ sum_by (λ i. cond (p i && has_start es i) (f i) 0) (numbers a z)
sum_by-starts_of f p a z [] range =
    sym (sum_by-agree _ (λ _. 0) (λ i. elim (p i) as (λ b. cond (b && false) (f i) 0 ≡ 0) [ true ↦ refl | false ↦ refl ]) (numbers a z) ∙ sum_by-zero (numbers a z))
sum_by-starts_of f p a z (e ∷ es) range =
    let other : ℕ → Bool = λ i. not (nat_eq e.start i) in
    let here : (a ≤ e.start) × (e.start ≤ z) = range e.start (or_left (nat_eq e.start e.start) (has_start es e.start) (eq-eqb e.start e.start refl)) in
    let later : (i : ℕ) → has_start es i ≡ true → (a ≤ i) × (i ≤ z) = λ i has. range i (or_right (nat_eq e.start i) (has_start es i) has) in
    sum_by-cond f (p e.start) e.start (filter p (filter other (starts_of es)))
    ∙ (λ k. sym (sum_by-one_key e.start (p e.start) (f e.start) a z here.0 here.1) k
    + (ap (sum_by f) (filter-filter p other (starts_of es)) ∙ sum_by-starts_of f (λ i. other i && p i) a z es later) k)
    ∙ sym (sum_by-plus (λ i. cond (nat_eq e.start i && p e.start) (f e.start) 0) (λ i. cond ((other i && p i) && has_start es i) (f i) 0) (numbers a z))
    ∙ sum_by-agree _ _ (λ i. sym (one_start f p e.start i (has_start es i))) (numbers a z)

-- what passes a filter is there
any-filter : (p r : RecipeEntry → Bool) (es : List RecipeEntry) → list_any p (filter r es) ≡ true → list_any p es ≡ true
any-filter p r [] = λ has. has
any-filter p r (e ∷ es) =
    elim (r e) as (λ b. list_any p (cond b (e ∷ filter r es) (filter r es)) ≡ true → (p e || list_any p es) ≡ true) [
      | true ↦ λ has. elim (or_cases (p e) (list_any p (filter r es)) has) [
        | inl first ↦ or_left (p e) (list_any p es) first
        | inr later ↦ or_right (p e) (list_any p es) (any-filter p r es later)
      ]
      | false ↦ λ has. or_right (p e) (list_any p es) (any-filter p r es has)
    ]

any-first_entries : (p : RecipeEntry → Bool) (es : List RecipeEntry) → list_any p (first_entries es) ≡ true → list_any p es ≡ true
any-first_entries p [] has = has
any-first_entries p (e ∷ es) has =
    elim (or_cases (p e) (list_any p (filter (λ f. not (bytes_eq e.mark.0 f.mark.0)) (first_entries es))) has) [
      | inl first ↦ or_left (p e) (list_any p es) first
      | inr later ↦ or_right (p e) (list_any p es) (any-first_entries p es (any-filter p _ (first_entries es) later))
    ]

and-within : (q t : Bool) → (q ≡ true → t ≡ true) → (q && t) ≡ q
and-within true t h = h refl
and-within false t h = refl

-- counted over the starts that occur, or over a range in which they lie
pub need_of-over : (h : VersionHistory) (w : List (List ℕ)) (extent : ℕ) (old new : List RecipeEntry) (a z : ℕ) → ((i : ℕ) → has_start old i ≡ true → (a ≤ i) × (i ≤ z)) →
    need_of extent old new ≡ need_over h w extent old new (numbers a z)
unfolding need_of
need_of-over h w extent old new a z range =
    let size : ℕ → ℕ = λ i. up extent (entry_records (entries_from i (kept_entries old new))) in
    let some : ℕ → Bool = has_start (archived_entries old new) in
    let starts : sum_by size (filter some (starts_of old)) ≡ sum_by size (filter some (numbers a z)) =
    sum_by-starts_of size some a z old range
    ∙ sum_by-agree _ (λ i. cond (some i) (size i) 0)
    (λ i. ap (λ b. cond b (size i) 0) (and-within (some i) (has_start old i) (λ has. any-first_entries _ old (any-filter _ _ (first_entries old) has)))) (numbers a z)
    ∙ sym (sum_by-filter size some (numbers a z)) in
    ap (λ n. up extent (entry_records (fresh_entries old new)) + up extent (40 * length new) + up extent (entry_records (archived_entries old new)) + n) starts

-- each start of a recipe is that of one of its chunks
start_within : (h : VersionHistory) (v : ℕ) (a z : ℕ) (cs : List (List ℕ)) → ((c : List ℕ) → contains cs c ≡ true → (a ≤ start_of h v c) × (start_of h v c ≤ z)) →
    (i : ℕ) → has_start (map (entry_of h v) cs) i ≡ true → (a ≤ i) × (i ≤ z)
start_within h v a z [] range i has = absurd (false≢true has)
start_within h v a z (c ∷ cs) range i has =
    elim (or_cases (nat_eq (start_of h v c) i) (has_start (map (entry_of h v) cs) i) has) [
      | inl first ↦ subst (λ n. (a ≤ n) × (n ≤ z)) (eqb-true (start_of h v c) i first) (range c (or_left (bytes_eq c c) (contains cs c) (bytes_eq-refl c)))
      | inr later ↦ start_within h v a z cs (λ d there. range d (or_right (bytes_eq d c) (contains cs d) there)) i later
    ]

module _ (h : VersionHistory) (w : List (List ℕ)) (e : List ℕ → RecipeEntry) (is_mark : (c : List ℕ) → (e c).mark.0 ≡ mark c) (is_length : (c : List ℕ) → (e c).length ≡ length c) where
  -- counted from recipes, a backup needs the same
  pub need_of-need : (extent : ℕ) → Distinct (version h (newest h) ++ w) → need_of extent (recipe h (newest h)) (map e w) ≡ need extent h w
  need_of-need extent apart =
      need_of-over h w extent (recipe h (newest h)) (map e w) (h.base + 1) (newest h)
      (start_within h (newest h) (h.base + 1) (newest h) (version h (newest h)) (λ c has. (start_of-low h (newest h) c has, start_of-le h (newest h) c)))
      ∙ need_over-need h w extent e is_mark is_length apart

  taken : (n : ℕ) (c : List ℕ) → contains (take n w) c ≡ true → contains w c ≡ true
  taken n c has = ap (λ cs. contains cs c) (sym (take-append-drop n w)) ∙ contains-append (take n w) (drop n w) c ∙ or_left (contains (take n w) c) (contains (drop n w) c) has

  running_of-running : (extent : ℕ) → Distinct (version h (newest h) ++ w) → (n : ℕ) → running_of extent (recipe h (newest h)) (map e w) n ≡ running extent h w n
  running_of-running extent apart n =
      let last = version h (newest h) in
      let in_last : (c : List ℕ) → contains last c ≡ true → contains (last ++ w) c ≡ true = λ c has. contains-append last w c ∙ or_left (contains last c) (contains w c) has in
      let in_w : (c : List ℕ) → contains (take n w) c ≡ true → contains (last ++ w) c ≡ true = λ c has. contains-append last w c ∙ or_right (contains last c) (contains w c) (taken n c has) in
      let bytes : entry_records (fresh_entries (recipe h (newest h)) (map e (take n w))) ≡ record_bytes (fresh h (take n w)) =
      fresh-from_entries h (take n w) e is_mark is_length (λ c has d there. apart c d (in_w c has) (in_last d there)) (λ c has d there. apart c d (in_w c has) (in_w d there)) in
      let first : take n (map e w) ≡ map e (take n w) = take-map e n w in
      (λ k. up extent (entry_records (fresh_entries (recipe h (newest h)) (first k))) + up extent (40 * length (first k)))
      ∙ (λ k. up extent (bytes k) + up extent (40 * length-map (take n w) e k))

  -- and the number that a refusal names is the same
  pub counted_of-counted : (extent : ℕ) → Distinct (version h (newest h) ++ w) → (free : ℕ) → counted_of extent (recipe h (newest h)) (map e w) free ≡ counted extent h w free
  unfolding counted counted_of
  counted_of-counted extent apart free =
      λ k. unwrap_or (find (nat_lt free) (map (λ n. running_of-running extent apart n k) (numbers 1 (length-map w e k)))) (need_of-need extent apart k)

-- fewer entries have no more bytes of different marks
first_entries-take : (p : RecipeEntry → Bool) (n : ℕ) (es : List RecipeEntry) → entry_records (filter p (first_entries (take n es))) ≤ entry_records (filter p (first_entries es))
first_entries-take p zero es = omega arith
first_entries-take p (suc n) [] = omega arith
first_entries-take p (suc n) (e ∷ es) =
    let other : RecipeEntry → Bool = λ f. not (bytes_eq e.mark.0 f.mark.0) in
    let size : RecipeEntry → ℕ = λ x. 36 + x.length in
    omega (
      arith,
      sum_by-cond size (p e) e (filter p (filter other (first_entries (take n es)))),
      sum_by-cond size (p e) e (filter p (filter other (first_entries es))),
      ap entry_records (filter-filter p other (first_entries (take n es))),
      ap entry_records (filter-filter p other (first_entries es)),
      first_entries-take (λ x. other x && p x) n es,
    )

-- what a refusal counts from recipes is more than what is free exactly where the need is, whatever the recipes are
pub counted_of-above : (extent : ℕ) → 1 ≤ extent → (old new : List RecipeEntry) (free : ℕ) →
    (free < counted_of extent old new free → free < need_of extent old new) × (free < need_of extent old new → free < counted_of extent old new free)
unfolding counted_of need_of
counted_of-above extent some old new free =
    first_above (running_of extent old new) (need_of extent old new) free
    (λ n. omega (arith, up-le extent _ _ some (first_entries-take (λ x. not (has_mark old x.mark.0)) n new), up-le extent (40 * length (take n new)) (40 * length new) some (omega (arith, length-take n new))))
    (numbers 1 (length new))

-- an entry without its start
abbrev plain : RecipeEntry → RecipeEntry
plain e = record e { start = 0 }

has_mark-plain : (es : List RecipeEntry) (m : List ℕ) → has_mark (map plain es) m ≡ has_mark es m
has_mark-plain [] m = refl
has_mark-plain (e ∷ es) m = ap (λ t. bytes_eq m e.mark.0 || t) (has_mark-plain es m)

filter-plain : (p : RecipeEntry → Bool) (es : List RecipeEntry) → filter p (map plain es) ≡ map plain (filter (λ e. p (plain e)) es)
filter-plain p [] = refl
filter-plain p (e ∷ es) =
    elim (p (plain e)) as (λ t. cond t (plain e ∷ filter p (map plain es)) (filter p (map plain es)) ≡ map plain (cond t (e ∷ filter (λ e. p (plain e)) es) (filter (λ e. p (plain e)) es))) [
      | true ↦ ap (λ xs. plain e ∷ xs) (filter-plain p es)
      | false ↦ filter-plain p es
    ]

first_entries-plain : (es : List RecipeEntry) → first_entries (map plain es) ≡ map plain (first_entries es)
first_entries-plain [] = refl
first_entries-plain (e ∷ es) =
    let other : RecipeEntry → Bool = λ f. not (bytes_eq e.mark.0 f.mark.0) in
    ap (λ xs. plain e ∷ filter other xs) (first_entries-plain es) ∙ ap (λ xs. plain e ∷ xs) (filter-plain other (first_entries es))

entry_records-plain : (es : List RecipeEntry) → entry_records (map plain es) ≡ entry_records es
entry_records-plain [] = refl
entry_records-plain (e ∷ es) = omega (arith, sum_by-cons (λ x. 36 + x.length) (plain e) (map plain es), sum_by-cons (λ x. 36 + x.length) e es, entry_records-plain es)

fresh_entries-plain : (old new : List RecipeEntry) → entry_records (fresh_entries old (map plain new)) ≡ entry_records (fresh_entries old new)
fresh_entries-plain old new =
    let lacks : RecipeEntry → Bool = λ e. not (has_mark old e.mark.0) in
    ap entry_records (ap (filter lacks) (first_entries-plain new) ∙ filter-plain lacks (first_entries new)) ∙ entry_records-plain (filter lacks (first_entries new))

-- the starts of the new recipe make no difference
need_of-plain : (extent : ℕ) (old new : List RecipeEntry) → need_of extent old (map plain new) ≡ need_of extent old new
unfolding need_of
need_of-plain extent old new =
    let kept_is : kept_entries old (map plain new) ≡ kept_entries old new = filter-same (λ e. has_mark-plain new e.mark.0) refl in
    let archived_is : archived_entries old (map plain new) ≡ archived_entries old new = filter-same (λ e. ap not (has_mark-plain new e.mark.0)) refl in
    λ k. up extent (fresh_entries-plain old new k)
    + up extent (40 * length-map new plain k)
    + up extent (entry_records (archived_is k))
    + sum_by (λ i. up extent (entry_records (entries_from i (kept_is k)))) (filter (λ i. has_start (archived_is k) i) (starts_of old))

running_of-plain : (extent : ℕ) (old new : List RecipeEntry) (n : ℕ) → running_of extent old (map plain new) n ≡ running_of extent old new n
running_of-plain extent old new n =
    let first : take n (map plain new) ≡ map plain (take n new) = take-map plain n new in
    (λ k. up extent (entry_records (fresh_entries old (first k))) + up extent (40 * length (first k)))
    ∙ (λ k. up extent (fresh_entries-plain old (take n new) k) + up extent (40 * length-map (take n new) plain k))

counted_of-plain : (extent free : ℕ) (old new : List RecipeEntry) → counted_of extent old (map plain new) free ≡ counted_of extent old new free
unfolding counted_of
counted_of-plain extent free old new =
    λ k. unwrap_or (find (nat_lt free) (map (λ n. running_of-plain extent old new n k) (numbers 1 (length-map new plain k)))) (need_of-plain extent old new k)

-- an entry of a chunk without its start
abbrev plain_of : List ℕ → RecipeEntry
plain_of c = record { mark = record { 0 = mark c }; length = length c; start = 0 }

plain-entries : (es : List RecipeEntry) (cs : List (List ℕ)) → map (λ e. e.mark.0) es ≡ map mark cs → map (λ e. e.length) es ≡ map (λ c. length c) cs → map plain es ≡ map plain_of cs
plain-entries [] [] marks lengths = refl
plain-entries [] (c ∷ cs) marks lengths = absurd (cc)
plain-entries (e ∷ es) [] marks lengths = absurd (cc)
plain-entries (e ∷ es) (c ∷ cs) marks lengths =
    let same_mark : e.mark.0 ≡ mark c = cc in
    let same_length : e.length ≡ length c = cc in
    let rest : map plain es ≡ map plain_of cs = plain-entries es cs (cc) (cc) in
    λ k. record { mark = record { 0 = same_mark k }; length = same_length k; start = 0 } ∷ rest k

pub recipes_give_the_counts : RecipesGiveTheCounts
recipes_give_the_counts = record {
  needed = λ extent h w new are apart.
      sym (need_of-plain extent (recipe h (newest h)) new)
      ∙ ap (need_of extent (recipe h (newest h))) (plain-entries new w are.marks are.lengths)
      ∙ need_of-need h w plain_of (λ c. refl) (λ c. refl) extent apart;
  refused = λ extent free h w new are apart.
      sym (counted_of-plain extent free (recipe h (newest h)) new)
      ∙ ap (λ entries. counted_of extent (recipe h (newest h)) entries free) (plain-entries new w are.marks are.lengths)
      ∙ counted_of-counted h w plain_of (λ c. refl) (λ c. refl) extent apart free;
}
