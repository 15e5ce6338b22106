-- The recipe of a retained version, as it is read back.
use Rattle.std.proofs.Common.{◌≡◌, ℕ, zero, suc, ◌+◌, ◌-◌, ◌^◌, ◌<◌, ◌≤◌, true, cond, ◌&&◌, List, [], ◌∷◌, length, map, get_or, refl, sym, ◌∙◌, ap, arith, nat_le, nat_lt, le-leb, lt-ltb, eq-eqb, None}
use Rattle.std.specs.Prelude.{◌==◌, All, Ok, Err}
use Rattle.std.specs.List.{list_all, flat_map}
use Rattle.std.proofs.lemmas.List.{length-map}
use Rattle.std.proofs.lemmas.List.Elements.{All-cons}
use Rattle.std.proofs.lemmas.List.Concat.{concat_is, length-flat_map}
use Rattle.std.proofs.lemmas.List.Folds.{fold-map}
use Rattle.bd_model.specs.declared.shape.Shape.{Shape}
use Rattle.bd_model.specs.declared.damage.Damage.TheVariants.{Sum}
use Rattle.bd_model.specs.declared.layout.RecipeEntry.{RecipeEntry}
use Rattle.bd_model.specs.Chunks.{Cut, chunks, chunks_from}
use Rattle.bd_model.specs.Extents.{owner_bytes}
use Rattle.bd_model.specs.History.{VersionHistory, version, newest, oldest, contains}
use Rattle.bd_model.specs.Laws.{IsCut}
use Rattle.bd_model.specs.Recipe.{recipe, entry_of, start_of}
use Rattle.bd_model.specs.Records.{entries_in}
use Rattle.bd_model.specs.Sizes.{sizes_of}
use Rattle.bd_model.specs.State.{VersionState, cut_of, history, streams, stream_of}
use Rattle.bd_model.proofs.ChunkLemmas.{chunks_are_within_bounds, concat-chunks}
use Rattle.bd_model.proofs.RecipeLemmas.{start_of-le, start_of-low}
use Rattle.bd_roll.specs.Catalogue.{Catalogue, recipe_extents}
use Rattle.bd_catalog.specs.Sound.{recipe_of, entry_holds}
use Rattle.bd_catalog.specs.Standing.{HasNumbers, HasVersions}
use Rattle.bd_catalog.proofs.StandingLines.{bytes_recorded, chunks_recorded}
use Rattle.bd_recipe.specs.Entries.{first_bad}
use Rattle.bd_recipe.specs.Reading.{chunks_in, length_in, recipe_found, total, with_sum}
use Rattle.bd_recipe.specs.Laws.{FitsEntry}
use Rattle.bd_recipe.proofs.Entries.{first_bad-none}
use Rattle.bd_recipe.proofs.ReadingBack.{entries-begin}
use Rattle.bd_model.proofs.RecordLemmas.{length-mark}
use Rattle.bd_model.proofs.ChunkListLemmas.{contains-first, contains-later}

-- ---- entries

fit_all : (e : List ℕ → RecipeEntry) (cs : List (List ℕ)) → ((c : List ℕ) → contains cs c ≡ true → FitsEntry (e c)) → All FitsEntry (map e cs)
fit_all e [] fits = λ i d lt. absurd (omega arith)
fit_all e (c ∷ cs) fits = All-cons FitsEntry (e c) (map e cs) (fits c (contains-first c cs)) (fit_all e cs (λ d has. fits d (contains-later c d cs has)))

-- ---- the chunks of a version

get_or-map_at : {X Y : Type 0} (f : X → Y) (xs : List X) (k : ℕ) (d : X) → get_or (map f xs) k (f d) ≡ f (get_or xs k d)
get_or-map_at f [] k d = refl
get_or-map_at f (x ∷ xs) zero d = refl
get_or-map_at f (x ∷ xs) (suc k) d = get_or-map_at f xs k d

cut_is : (shape : Shape) → IsCut (cut_of shape)
cut_is shape = (shape.in_range.min_low, shape.in_range.max_low)

no_stream : (cut : Cut) → chunks cut [] ≡ []
unfolding chunks_from
no_stream cut = refl

module _ (shape : Shape) (st : VersionState) (v : ℕ) where
  abbrev h : VersionHistory
  h = history shape st

  -- they are those of its stream
  pub version-chunks : version h v ≡ chunks (cut_of shape) (stream_of st v)
  version-chunks =
      let cut = cut_of shape in
      ap (λ xs. get_or (xs ∷ map (chunks cut) (streams st)) (v - st.base) []) (sym (no_stream cut))
      ∙ ap (get_or (map (chunks cut) ([] ∷ streams st)) (v - st.base)) (sym (no_stream cut))
      ∙ get_or-map_at (chunks cut) ([] ∷ streams st) (v - st.base) []

  pub version-joined : flat_map (λ c. c) (version h v) ≡ stream_of st v
  version-joined = ap (flat_map (λ c. c)) version-chunks ∙ sym (concat_is (chunks (cut_of shape) (stream_of st v))) ∙ concat-chunks (cut_of shape) (stream_of st v) (cut_is shape)

  pub version-bounded : (c : List ℕ) → contains (version h v) c ≡ true → (1 ≤ length c) × (length c ≤ shape.max)
  version-bounded c has = chunks_are_within_bounds.each (cut_of shape) (stream_of st v) c (cut_is shape) (ap (λ cs. contains cs c) (sym version-chunks) ∙ has)

  pub total-recipe : total (recipe h v) ≡ length (stream_of st v)
  total-recipe =
      fold-map (λ n (e : RecipeEntry). n + e.length) (entry_of h v) 0 (version h v)
      ∙ sym (length-flat_map (λ c. c) (version h v)) ∙ ap length version-joined

  -- ---- where the version is retained, and the catalogue shows the state

  module _ (c : Catalogue) (image : List ℕ) (low : oldest h ≤ v) (high : v ≤ newest h) (numbered : HasNumbers h c) (versions : HasVersions shape st c image) (some : h.expired < length h.versions) (small : c.newest < 2 ^ 32) where
    pub chunks-stand : chunks_in c v ≡ length (version h v)
    chunks-stand = chunks_recorded shape st c image numbered versions v low high

    pub bytes-stand : length_in c v ≡ length (stream_of st v)
    bytes-stand = bytes_recorded shape st c image numbered versions v low high

    entry_fits : (x : List ℕ) → contains (version h v) x ≡ true → FitsEntry (entry_of h v x)
    entry_fits x has = record {
      mark = length-mark x;
      bytes = omega (arith, (version-bounded x has).1, shape.in_range.max_high);
      start = omega (arith, start_of-le h v x, numbered.newest);
    }

    pub recipe-read : recipe_of (sizes_of shape) c image v ≡ recipe h v
    recipe-read =
        let owner = owner_bytes (sizes_of shape) (recipe_extents c v) image in
        ap (λ n. entries_in n owner) (chunks-stand ∙ sym (length-map (version h v) (entry_of h v)))
        ∙ entries-begin (recipe h v) owner (fit_all (entry_of h v) (version h v) entry_fits) (versions.recipes v low high).front

    entries_hold : (cs : List (List ℕ)) → ((x : List ℕ) → contains cs x ≡ true → contains (version h v) x ≡ true) → list_all (entry_holds (sizes_of shape) c v) (map (entry_of h v) cs) ≡ true
    entries_hold [] inside = refl
    entries_hold (x ∷ cs) inside =
        let has : contains (version h v) x ≡ true = inside x (contains-first x cs) in
        let bounds = version-bounded x has in
        let one : nat_le 1 (length x) ≡ true = le-leb 1 (length x) bounds.0 in
        let most : nat_le (length x) shape.max ≡ true = le-leb (length x) shape.max bounds.1 in
        let above : nat_lt c.base (start_of h v x) ≡ true = lt-ltb c.base (start_of h v x) (omega (arith, start_of-low h v x has, numbered.base)) in
        let within : nat_le (start_of h v x) v ≡ true = le-leb (start_of h v x) v (start_of-le h v x) in
        λ i. ((((one i && most i) && above i) && within i) && entries_hold cs (λ y more. inside y (contains-later x y cs more)) i)

    pub recipe-found : recipe_found (sizes_of shape) c image v ≡ Ok (recipe h v)
    recipe-found =
        let s = sizes_of shape in
        let es = recipe h v in
        let bad : first_bad (entry_holds s c v) v 0 es ≡ None = first_bad-none (entry_holds s c v) v 0 es (entries_hold (version h v) (λ x has. has)) in
        let sum : (total es == length_in c v) ≡ true = eq-eqb (total es) (length_in c v) (total-recipe ∙ sym bytes-stand) in
        ap (λ xs. with_sum v (length_in c v) xs (first_bad (entry_holds s c v) v 0 xs)) recipe-read
        ∙ ap (with_sum v (length_in c v) es) bad
        ∙ ap (λ t. cond t (Ok es) (Err (Sum v (length_in c v) (total es)))) sum
