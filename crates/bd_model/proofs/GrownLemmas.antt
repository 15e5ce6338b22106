-- The recipes and the lines of the versions stay when one is added.
use Rattle.std.proofs.Common.{◌≡◌, ℕ, zero, suc, ◌+◌, ◌-◌, ◌≤◌, Bool, true, false, cond, not, ◌||◌, List, [], ◌∷◌, ◌++◌, refl, sym, ◌∙◌, ap, arith, filter, map, length, get_or}
use Rattle.std.proofs.lemmas.Bool.{or_left, or_right, lt-leb}
use Rattle.std.proofs.lemmas.List.{get_or_append_left, get_or_at, length-map}
use Rattle.std.specs.Str.{bytes_eq}
use Rattle.bd_model.specs.declared.shape.Shape.{Shape}
use Rattle.bd_model.specs.declared.layout.RecipeEntry.{RecipeEntry}
use Rattle.bd_model.specs.Chunks.{chunks}
use Rattle.bd_model.specs.History.{VersionHistory, version, newest, contains, distinct}
use Rattle.bd_model.specs.Marks.{mark, Distinct}
use Rattle.bd_model.specs.Recipe.{start_of, entry_of, recipe}
use Rattle.bd_model.specs.Room.{fresh}
use Rattle.bd_model.specs.State.{Version, VersionState, history, streams, stream_of, cut_of, plain}
use Rattle.bd_model.specs.Step.{with_version, version_line, emptied, fewer_by, line_for}
use Rattle.bd_model.specs.Laws.{grown, start_in, entries_of_chunks, RecipesStay, LinesStay}
use Rattle.bd_model.proofs.ChunkListLemmas.{bytes_eq-refl, bytes_eq-same, contains-append}
use Rattle.bd_model.proofs.HistoryLemmas.{version-grown, version-newest}
use Rattle.bd_model.proofs.NeedLemmas.{TellsApart, bytes_eq-mark}
use Rattle.bd_model.proofs.StepLemmas.{length-history, history-grown}

module _ (h : VersionHistory) (w : List (List ℕ)) where
  start_of-grown : (v : ℕ) (c : List ℕ) → v ≤ newest h + 1 → start_of (grown h w) v c ≡ start_of h v c
  start_of-grown zero c le = refl
  start_of-grown (suc v) c le =
      let same : version (grown h w) v ≡ version h v = version-grown h w v (omega arith) in
      let rest : start_of (grown h w) v c ≡ start_of h v c = start_of-grown v c (omega arith) in
      λ k. elim (contains (same k) c) as (λ _. ℕ) [ true ↦ rest k | false ↦ suc v ]

  recipe-earlier : (v : ℕ) → v ≤ newest h → recipe (grown h w) v ≡ recipe h v
  recipe-earlier v le = λ k. map (λ c. record { mark = record { 0 = mark c }; length = length c; start = start_of-grown v c (omega arith) k }) (version-grown h w v le k)

  -- a chunk of the new version goes on from the newest one, or begins
  start_of-newest : (c : List ℕ) → start_of (grown h w) (newest h + 1) c ≡ cond (contains (version h (newest h)) c) (start_of h (newest h) c) (newest h + 1)
  start_of-newest c =
      let next : newest h + 1 ≡ suc (newest h) = omega arith in
      let same : version (grown h w) (newest h) ≡ version h (newest h) = version-grown h w (newest h) (omega arith) in
      let before : start_of (grown h w) (newest h) c ≡ start_of h (newest h) c = start_of-grown (newest h) c (omega arith) in
      ap (λ n. start_of (grown h w) n c) next
      ∙ (λ k. elim (contains (same k) c) as (λ _. ℕ) [ true ↦ before k | false ↦ sym next k ])
      ∙ either (contains (version h (newest h)) c)
    where
      either : (t : Bool) → elim t as (λ _. ℕ) [ true ↦ start_of h (newest h) c | false ↦ newest h + 1 ] ≡ cond t (start_of h (newest h) c) (newest h + 1)
      either true = refl
      either false = refl

-- a recipe tells the start of each of its chunks
start_in-recipe : (h : VersionHistory) (v new : ℕ) (cs : List (List ℕ)) (c : List ℕ) → TellsApart c cs → start_in (map (entry_of h v) cs) (mark c) new ≡ cond (contains cs c) (start_of h v c) new
start_in-recipe h v new [] c apart = refl
start_in-recipe h v new (d ∷ cs) c apart =
    let here : bytes_eq (mark c) (mark d) ≡ bytes_eq c d = bytes_eq-mark c d (apart d (or_left (bytes_eq d d) (contains cs d) (bytes_eq-refl d))) in
    let rest = start_in-recipe h v new cs c (λ x has. apart x (or_right (bytes_eq x d) (contains cs x) has)) in
    (λ k. cond (here k) (start_of h v d) (rest k))
    ∙ elim (bytes_eq c d) as (λ t. bytes_eq c d ≡ t → cond t (start_of h v d) (cond (contains cs c) (start_of h v c) new) ≡ cond (t || contains cs c) (start_of h v c) new) [
      | true ↦ λ e. ap (start_of h v) (sym (bytes_eq-same c d e))
      | false ↦ λ e. refl
    ] refl

map-within : (f g : List ℕ → RecipeEntry) (cs : List (List ℕ)) → ((c : List ℕ) → contains cs c ≡ true → f c ≡ g c) → map f cs ≡ map g cs
map-within f g [] agree = refl
map-within f g (c ∷ cs) agree =
    let head : f c ≡ g c = agree c (or_left (bytes_eq c c) (contains cs c) (bytes_eq-refl c)) in
    let tail : map f cs ≡ map g cs = map-within f g cs (λ d has. agree d (or_right (bytes_eq d c) (contains cs d) has)) in
    λ k. head k ∷ tail k

recipe-own : (h : VersionHistory) (w : List (List ℕ)) → Distinct (version h (newest h) ++ w) → recipe (grown h w) (newest h + 1) ≡ entries_of_chunks (recipe h (newest h)) (newest h + 1) w
recipe-own h w apart =
    let last = version h (newest h) in
    ap (map (entry_of (grown h w) (newest h + 1))) (version-newest h w)
    ∙ map-within _ _ w (λ c has.
    let tells : TellsApart c last = λ d there. apart c d (contains-append last w c ∙ or_right (contains last c) (contains w c) has) (contains-append last w d ∙ or_left (contains last d) (contains w d) there) in
    ap (λ n. record { mark = record { 0 = mark c }; length = length c; start = n }) (start_of-newest h w c ∙ sym (start_in-recipe h (newest h) (newest h + 1) last c tells)))

pub recipes_stay : RecipesStay
recipes_stay = record { earlier = recipe-earlier; own = recipe-own }

streams-pushed : (versions : List Version) (v : Version) → map (λ u. u.stream) (versions ++ v ∷ []) ≡ map (λ u. u.stream) versions ++ v.stream ∷ []
streams-pushed [] v = refl
streams-pushed (u ∷ versions) v = ap (λ ss. u.stream ∷ ss) (streams-pushed versions v)

module _ (shape : Shape) (s : VersionState) (stream : List ℕ) where
  abbrev h : VersionHistory
  h = history shape s

  abbrev parts : List (List ℕ)
  parts = chunks (cut_of shape) stream

  abbrev next : VersionState
  next = with_version s stream

  count : length (streams s) ≡ length h.versions
  count = length-map s.versions (λ v. v.stream) ∙ sym (length-history shape s)

  version-earlier : (v : ℕ) → v ≤ newest h → version (history shape next) v ≡ version h v
  version-earlier v le = ap (λ g. version g v) (history-grown shape s stream) ∙ version-grown h parts v le

  version-own : version (history shape next) (newest h + 1) ≡ parts
  version-own = ap (λ g. version g (newest h + 1)) (history-grown shape s stream) ∙ version-newest h parts

  stream-earlier : (v : ℕ) → v ≤ newest h → stream_of next v ≡ stream_of s v
  stream-earlier v le =
      ap (λ ss. get_or ([] ∷ ss) (v - s.base) []) (streams-pushed s.versions (plain stream))
      ∙ get_or_append_left ([] ∷ streams s) (stream ∷ []) [] (v - s.base) (omega (arith, count))

  stream-own : stream_of next (newest h + 1) ≡ stream
  stream-own =
      ap (λ ss. get_or ([] ∷ ss) (newest h + 1 - s.base) []) (streams-pushed s.versions (plain stream))
      ∙ get_or_at ([] ∷ streams s) stream [] [] (newest h + 1 - s.base) (omega (arith, count))

  line-earlier : (v : ℕ) → v ≤ newest h → version_line next (history shape next) v ≡ version_line s h v
  line-earlier v le =
      let here = version-earlier v le in
      let before = version-earlier (v - 1) (omega arith) in
      λ k. line_for v (length (stream-earlier v le k)) (length (here k)) (length (filter (λ c. not (contains (before k) c)) (distinct (here k))))

  line-own : version_line next (history shape next) (newest h + 1) ≡ line_for (newest h + 1) (length stream) (length parts) (length (fresh h parts))
  line-own =
      let last : newest h + 1 - 1 ≡ newest h = omega arith in
      let before : version (history shape next) (newest h + 1 - 1) ≡ version h (newest h) = ap (version (history shape next)) last ∙ version-earlier (newest h) (omega arith) in
      λ k. line_for (newest h + 1) (length (stream-own k)) (length (version-own k)) (length (filter (λ c. not (contains (before k) c)) (distinct (version-own k))))

pub lines_stay : LinesStay
lines_stay = record {
  earlier = line-earlier;
  own = line-own;
  dropped = λ shape s d v more.
      ap (λ t. let rest = cond t (emptied s) (fewer_by d s) in version_line rest (history shape rest) v) (lt-leb (length s.versions) (s.expired + d) (omega (arith, length-history shape s)));
}
