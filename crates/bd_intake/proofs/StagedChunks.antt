-- What is staged, one chunk after the other.
use Rattle.std.proofs.Common.{◌≡◌, ℕ, ◌+◌, ◌*◌, ◌^◌, ◌≤◌, Bool, true, false, cond, not, ◌&&◌, ◌||◌, List, [], ◌∷◌, ◌++◌, length, filter, refl, sym, ◌∙◌, ap, subst, arith, append_assoc, length-append}
use mir.Val.{bool_byte}
use Rattle.std.specs.Str.{bytes_eq}
use Rattle.std.specs.List.{AllByRecursion, concat}
use Rattle.std.proofs.Math.Nat.{mul-le-mul_right}
use Rattle.std.proofs.lemmas.List.{append-nil}
use Rattle.std.proofs.lemmas.List.Elements.{All-append, All-from_recursion, recursion_from_All}
use Rattle.std.proofs.lemmas.List.Folds.{concat-append}
use Rattle.std.proofs.lemmas.List.Sums.{sum_by-append}
use Rattle.bd_model.specs.Layout.{record_bytes}
use Rattle.bd_model.specs.Marks.{mark}
use Rattle.bd_model.specs.Room.{up}
use Rattle.bd_model.specs.Recipe.{has_mark}
use Rattle.bd_model.specs.Sizes.{Sizes, sizes_of}
use Rattle.bd_model.specs.declared.layout.RecipeEntry.{RecipeEntry}
use Rattle.bd_model.proofs.RoomLemmas.{up-enough}
use Rattle.bd_space.specs.Allotment.{Allotment}
use Rattle.bd_space.specs.Holding.{Holding}
use Rattle.bd_extio.specs.Ranges.{IsWithin}
use Rattle.bd_extio.proofs.Places.{range_small}
use Rattle.bd_intake.specs.declared.staging.Staging.{Staging}
use Rattle.bd_intake.specs.declared.terms.Terms.{Terms}
use Rattle.bd_intake.specs.Firsts.{first_by_mark, new_by_mark, any_marked, knows, with_new, extents_taken}
use Rattle.bd_intake.specs.Given.{Given, given_of}
use Rattle.bd_intake.specs.Places.{OwnersAreApart}
use Rattle.bd_intake.specs.Putting.{Held, put_count}
use Rattle.bd_intake.specs.Seen.{AreUsed}
use Rattle.bd_intake.specs.Spaces.{Adds, Owns}
use Rattle.bd_intake.specs.Staging.{HasTaken, OwnersHaveExtents, IsStaging, Grows}
use Rattle.bd_intake.proofs.Firsts.{new_by_mark-push, is_marked-push}
use Rattle.bd_intake.proofs.OwnedExtents.{owns_fresh, owns_recipe, owns_apart}

-- ---- extents

-- the records' extents went on
pub grows_first : (space one : Allotment) (a : Staging) (fresh : Holding) → Adds space one a.fresh.numbers fresh.numbers → Grows space one a (record a { fresh = fresh })
grows_first space one a fresh adds = record {
  recipe = ([], sym (append-nil a.recipe.numbers));
  fresh = (adds.added, adds.so);
  owners = λ base first owns. owns_fresh base first space one a.recipe.numbers a.fresh.numbers owns fresh.numbers adds;
}

-- and those of the recipe
pub grows_second : (space one two : Allotment) (a : Staging) (fresh recipe : Holding) → Adds space one a.fresh.numbers fresh.numbers → Adds one two a.recipe.numbers recipe.numbers →
    Grows space two a (record a { fresh = fresh; recipe = recipe })
grows_second space one two a fresh recipe adds more = record {
  recipe = (more.added, more.so);
  fresh = (adds.added, adds.so);
  owners = λ base first owns. owns_recipe base first one two a.recipe.numbers fresh.numbers recipe.numbers (owns_fresh base first space one a.recipe.numbers a.fresh.numbers owns fresh.numbers adds) more;
}

pub grows_none : (space : Allotment) (a b : Staging) → b.recipe ≡ a.recipe → b.fresh ≡ a.fresh → Grows space space a b
grows_none space a b recipe fresh = record {
  recipe = ([], ap (λ (h : Holding). h.numbers) recipe ∙ sym (append-nil a.recipe.numbers));
  fresh = ([], ap (λ (h : Holding). h.numbers) fresh ∙ sym (append-nil a.fresh.numbers));
  owners = λ base first owns. subst (λ h. Owns base first space h.numbers b.fresh.numbers) (sym recipe) (subst (λ h. Owns base first space a.recipe.numbers h.numbers) (sym fresh) owns);
}

pub grows_both : {space one two : Allotment} {a b d : Staging} → Grows space one a b → Grows one two b d → Grows space two a d
grows_both {space} {one} {two} {a} {b} {d} f g = record {
  recipe = (f.recipe.0 ++ g.recipe.0, g.recipe.1 ∙ ap (λ xs. xs ++ g.recipe.0) f.recipe.1 ∙ append_assoc a.recipe.numbers f.recipe.0 g.recipe.0);
  fresh = (f.fresh.0 ++ g.fresh.0, g.fresh.1 ∙ ap (λ xs. xs ++ g.fresh.0) f.fresh.1 ∙ append_assoc a.fresh.numbers f.fresh.0 g.fresh.0);
  owners = λ base first owns. g.owners base first (f.owners base first owns);
}

-- what is put changes no extents
pub grows_still : {space one : Allotment} {a b d : Staging} → d ≡ record b { records = d.records; entries = d.entries } → Grows space one a b → Grows space one a d
grows_still {space} {one} {a} {b} {d} same grows = grows_both grows (grows_none one b d (ap (λ (x : Staging). x.recipe) same) (ap (λ (x : Staging). x.fresh) same))

-- ---- numbers

-- each chunk has a byte, and no more than the most
abbrev pub IsShort : ℕ → List ℕ → Type 0
IsShort most c = (1 ≤ length c) × (length c ≤ most)

pub stream-low : (most : ℕ) (cs : List (List ℕ)) → AllByRecursion (IsShort most) cs → length cs ≤ length (concat cs)
stream-low most [] all = omega arith
stream-low most (c ∷ cs) all = omega (arith, length-append c (concat cs), stream-low most cs all.1, all.0.0)

pub stream-high : (most : ℕ) (cs : List (List ℕ)) → AllByRecursion (IsShort most) cs → length (concat cs) ≤ most * length cs
stream-high most [] all = omega arith
stream-high most (c ∷ cs) all = omega (arith, length-append c (concat cs), stream-high most cs all.1, all.0.1)

pub filter-few : (p : List ℕ → Bool) (cs : List (List ℕ)) → length (filter p cs) ≤ length cs
filter-few p [] = omega arith
filter-few p (c ∷ cs) = elim (p c) as (λ t. length (cond t (c ∷ filter p cs) (filter p cs)) ≤ length (c ∷ cs)) [ true ↦ omega (arith, filter-few p cs) | false ↦ omega (arith, filter-few p cs) ]

pub firsts-few : (cs : List (List ℕ)) → length (first_by_mark cs) ≤ length cs
firsts-few [] = omega arith
firsts-few (c ∷ cs) = omega (arith, firsts-few cs, filter-few (λ d. not (bytes_eq (mark c) (mark d))) (first_by_mark cs))

pub news-few : (old : List RecipeEntry) (cs : List (List ℕ)) → length (new_by_mark old cs) ≤ length cs
news-few old cs = omega (arith, firsts-few cs, filter-few (λ c. not (has_mark old (mark c))) (first_by_mark cs))

-- what is staged is small
pub record IsSmall (staging : Staging) : Type 0 where
  pub entries : 40 * staging.chunks ≤ 2 ^ 40
  pub records : staging.fresh_bytes ≤ 2 ^ 40
  pub stream : staging.length ≤ 65536 * staging.chunks
  pub few : staging.fresh_chunks ≤ staging.chunks

module _ (terms : Terms) (staging : Staging) where
  abbrev s : Sizes
  s = sizes_of terms.shape

  pub some_extent : 1 ≤ s.extent
  some_extent = omega (arith, terms.shape.in_range.extent_low)

  pub staging_small : (taken : List (List ℕ)) → HasTaken (given_of terms) taken staging → OwnersHaveExtents s staging → OwnersAreApart s staging.recipe.numbers staging.fresh.numbers → IsSmall staging
  staging_small taken has long apart =
      let all = recursion_from_All (IsShort s.max) taken has.each in
      let most = mul-le-mul_right {m = s.max} {n = 65536} (length taken) (omega (arith, terms.shape.in_range.max_high)) in
      record {
        entries = omega (
          arith,
          up-enough s.extent (40 * staging.chunks) (length staging.recipe.numbers) some_extent long.recipe,
          range_small s staging.recipe.numbers apart.recipe_extents (omega (arith, terms.shape.in_range.extents_high)) (omega (arith, terms.shape.in_range.extent_high)),
        );
        records = omega (
          arith,
          up-enough s.extent staging.fresh_bytes (length staging.fresh.numbers) some_extent long.fresh,
          range_small s staging.fresh.numbers apart.fresh_extents (omega (arith, terms.shape.in_range.extents_high)) (omega (arith, terms.shape.in_range.extent_high)),
        );
        stream = omega (arith, has.stream_bytes, has.chunk_count, stream-high s.max taken all, most);
        few = omega (arith, has.fresh_count, has.chunk_count, news-few (given_of terms).old taken);
      }

  pub staging_is_small : (space : Allotment) → IsStaging (given_of terms) space staging → IsSmall staging
  staging_is_small space is =
      staging_small is.taken is.has is.extents (owns_apart s is.base is.first space staging.recipe.numbers staging.fresh.numbers is.count is.owns)

-- what is put of them changes no number of what is taken
pub taken_still : (t : Given) (taken : List (List ℕ)) (a : Staging) (records entries : Held) → HasTaken t taken a → HasTaken t taken (record a { records = records; entries = entries })
taken_still t taken a records entries has = record {
  each = has.each;
  known = has.known;
  used = has.used;
  chunk_count = has.chunk_count;
  stream_bytes = has.stream_bytes;
  fresh_count = has.fresh_count;
  record_bytes_is = has.record_bytes_is;
}

-- what is held has room behind what is written
pub held_within : (terms : Terms) (space : Allotment) (a : Staging) → IsStaging (given_of terms) space a →
    IsWithin (sizes_of terms.shape) a.recipe.numbers a.entries.written (length a.entries.held) × IsWithin (sizes_of terms.shape) a.fresh.numbers a.records.written (length a.records.held)
held_within terms space a is =
    let s = sizes_of terms.shape in
    let some : 1 ≤ s.extent = omega (arith, terms.shape.in_range.extent_low) in (
      omega (arith, is.put.entries, up-enough s.extent (40 * a.chunks) (length a.recipe.numbers) some is.extents.recipe),
      omega (arith, is.put.records, up-enough s.extent a.fresh_bytes (length a.fresh.numbers) some is.extents.fresh),
    )

-- writing what is held changes nothing else
pub staging_still : (t : Given) (space : Allotment) (a b : Staging) → IsStaging t space a → b ≡ record a { records = b.records; entries = b.entries } → put_count b.records ≡ put_count a.records → put_count b.entries ≡ put_count a.entries → IsStaging t space b
staging_still t space a b is same records entries =
    subst (IsStaging t space) (sym same)
    (record {
      taken = is.taken;
      has = taken_still t is.taken a b.records b.entries is.has;
      extents = record { recipe = is.extents.recipe; fresh = is.extents.fresh };
      put = record { entries = entries ∙ is.put.entries; records = records ∙ is.put.records };
      base = is.base;
      first = is.first;
      owns = is.owns;
      count = is.count;
      left = is.left;
    })

-- ---- one chunk more

length-with_new : (b : Bool) (c : List ℕ) (cs : List (List ℕ)) → length (with_new b c cs) ≡ length cs + cond b 1 0
length-with_new true c cs = length-append cs (c ∷ [])
length-with_new false c cs = omega arith

bytes-with_new : (b : Bool) (c : List ℕ) (cs : List (List ℕ)) → record_bytes (with_new b c cs) ≡ record_bytes cs + cond b (36 + length c) 0
bytes-with_new true c cs = omega (arith, sum_by-append (λ d. 36 + length d) cs (c ∷ []))
bytes-with_new false c cs = omega arith

pub new_is : (t : Given) (taken : List (List ℕ)) (old : Staging) (body : List ℕ) (is_new : Bool) → HasTaken t taken old → is_new ≡ not (has_mark t.old (mark body) || knows old.seen.marks (mark body)) →
    new_by_mark t.old (taken ++ body ∷ []) ≡ with_new is_new body (new_by_mark t.old taken)
new_is t taken old body is_new has is =
    new_by_mark-push t.old taken body
    ∙ ap (λ b. with_new b body (new_by_mark t.old taken)) (sym (is ∙ ap (λ b. not (has_mark t.old (mark body) || b)) (has.known (mark body)) ∙ ap not (but_known (has_mark t.old (mark body)) (any_marked taken (mark body)))))
  where
    but_known : (known came : Bool) → (known || (came && not known)) ≡ (known || came)
    but_known true came = refl
    but_known false true = refl
    but_known false false = refl

-- the flags after one chunk more
flags_more : (old : List RecipeEntry) (taken : List (List ℕ)) (body : List ℕ) (used : List Bool) → AreUsed old (λ m. any_marked taken m || bytes_eq m (mark body)) used → AreUsed old (any_marked (taken ++ body ∷ [])) used
flags_more old taken body used are = record { count = are.count; firsts = λ m k at. are.firsts m k at ∙ sym (is_marked-push taken body m) }

one_known : (came same known : Bool) → ((came && not known) || (same && not known)) ≡ ((came || same) && not known)
one_known true same true = (λ k. and-no same k)
  where
    and-no : (b : Bool) → (b && false) ≡ false
    and-no true = refl
    and-no false = refl
one_known true same false = refl
one_known false same known = refl

pub took : (t : Given) (taken : List (List ℕ)) (old new : Staging) (body : List ℕ) (is_new : Bool) → HasTaken t taken old → 1 ≤ length body → length body ≤ t.sizes.max →
    is_new ≡ not (has_mark t.old (mark body) || knows old.seen.marks (mark body)) →
    ((m : List ℕ) → knows new.seen.marks m ≡ (knows old.seen.marks m || (bytes_eq m (mark body) && not (has_mark t.old m)))) →
    AreUsed t.old (λ m. any_marked taken m || bytes_eq m (mark body)) new.seen.used →
    new.fresh_bytes ≡ old.fresh_bytes + cond is_new (36 + length body) 0 → new.fresh_chunks ≡ old.fresh_chunks + cond is_new 1 0 →
    new.chunks ≡ old.chunks + 1 → new.length ≡ old.length + length body → HasTaken t (taken ++ body ∷ []) new
took t taken old new body is_new has some short is known used bytes count chunks size =
    let news = new_is t taken old body is_new has is in
    record {
      each = All-append (IsShort t.sizes.max) taken (body ∷ []) has.each (All-from_recursion (IsShort t.sizes.max) (body ∷ []) ((some, short), tt));
      known = λ m.
          known m
          ∙ ap (λ b. b || (bytes_eq m (mark body) && not (has_mark t.old m))) (has.known m)
          ∙ one_known (any_marked taken m) (bytes_eq m (mark body)) (has_mark t.old m)
          ∙ ap (λ b. b && not (has_mark t.old m)) (sym (is_marked-push taken body m));
      used = flags_more t.old taken body new.seen.used used;
      chunk_count = omega (arith, chunks, has.chunk_count, length-append taken (body ∷ []));
      stream_bytes = omega (arith, size, has.stream_bytes, ap length (concat-append taken (body ∷ [])), length-append (concat taken) (concat (body ∷ [])), ap length (append-nil body));
      fresh_count = omega (arith, count, has.fresh_count, ap length news, length-with_new is_new body (new_by_mark t.old taken));
      record_bytes_is = omega (arith, bytes, has.record_bytes_is, ap record_bytes news, bytes-with_new is_new body (new_by_mark t.old taken));
    }

-- what the chunks so far and one more take
pub extents-after : (t : Given) (taken : List (List ℕ)) (old : Staging) (body : List ℕ) (is_new : Bool) → HasTaken t taken old → is_new ≡ not (has_mark t.old (mark body) || knows old.seen.marks (mark body)) →
    up t.sizes.extent (old.fresh_bytes + cond is_new (36 + length body) 0) + up t.sizes.extent (40 * (old.chunks + 1)) ≡ extents_taken t.sizes.extent t.old (taken ++ body ∷ [])
extents-after t taken old body is_new has is =
    let news = new_is t taken old body is_new has is in
    let bytes : old.fresh_bytes + cond is_new (36 + length body) 0 ≡ record_bytes (new_by_mark t.old (taken ++ body ∷ [])) =
    omega (arith, has.record_bytes_is, ap record_bytes news, bytes-with_new is_new body (new_by_mark t.old taken)) in
    let count : old.chunks + 1 ≡ length (taken ++ body ∷ []) = omega (arith, has.chunk_count, length-append taken (body ∷ [])) in
    λ k. up t.sizes.extent (bytes k) + up t.sizes.extent (40 * count k)

pub as_number : (b : Bool) → bool_byte b ≡ cond b 1 0
as_number true = refl
as_number false = refl

pub one_or_none : (b : Bool) → cond b 1 0 ≤ 1
one_or_none true = omega arith
one_or_none false = omega arith
