-- In which category a chunk of a version lies, and in which part of a closed volume.
use Rattle.std.proofs.Common.{◌≡◌, ℕ, zero, suc, ◌+◌, ◌-◌, ◌<◌, ◌≤◌, Bool, true, false, cond, not, ◌&&◌, List, [], ◌∷◌, refl, sym, ◌∙◌, ap, subst, arith, filter, nat_eq, eq-eqb, ⊎_elim}
use Rattle.std.proofs.lemmas.Bool.{false≢true, eqb-true, cases_lt}
use Rattle.std.proofs.lemmas.List.Folds.{list_all-append}
use Rattle.std.proofs.lemmas.Grind.{flat_map-append}
use Rattle.std.specs.List.{list_all, range_with_len, flat_map}
use Rattle.std.specs.Str.{bytes_eq}
use Rattle.bd_model.specs.Chunks.{numbers}
use Rattle.bd_model.specs.History.{VersionHistory, version, newest, oldest, contains, distinct}
use Rattle.bd_model.specs.Category.{category, living, begins, lasts, ends}
use Rattle.bd_model.specs.declared.layout.Phase.{Phase}
use Rattle.bd_model.specs.Layout.{arranged_to, is_closed, row_chunks}
use Rattle.bd_model.specs.Recipe.{start_of}
use Rattle.bd_model.specs.Laws.{front_of, LiesInOneCategory, EachChunkLiesInOneCategory, AVersionUsesAFront}
use Rattle.bd_model.proofs.ListLemmas.{left_and, right_and, numbers-split, filter-filter, filter-same, and_comm, flat_map-filter}
use Rattle.bd_model.proofs.ChunkListLemmas.{contains-filter, contains-filter_distinct, filter-equal, in_some}
use Rattle.bd_model.proofs.HistoryLemmas.{version-past}
use Rattle.bd_model.proofs.RecipeLemmas.{lasts-suc, start_of-is, start_of-le, start_of-low}
use Rattle.bd_model.proofs.LayoutLemmas.{closed_volume-rows}
use Rattle.bd_model.proofs.RowLemmas.{recorded_as-numbers}

all_at : (p : ℕ → Bool) (a n : ℕ) → list_all p (range_with_len a n) ≡ true → (v : ℕ) → a ≤ v → v < a + n → p v ≡ true
all_at p a zero all v low high = absurd (omega arith)
all_at p a (suc n) all v low high =
    ⊎_elim
    (λ less. all_at p (a + 1) n (right_and (p a) (list_all p (range_with_len (a + 1) n)) all) v (omega arith) (omega arith))
    (λ le. let same : a ≡ v = omega arith in subst (λ x. p x ≡ true) same (left_and (p a) (list_all p (range_with_len (a + 1) n)) all))
    (cases_lt a v)

both : (a b : Bool) → a ≡ true → b ≡ true → (a && b) ≡ true
both true b e f = f
both false b e f = e

not_both : (b : Bool) → b ≡ true → not b ≡ true → (X : Type 0) → X
not_both true e f X = absurd (false≢true f)
not_both false e f X = absurd (false≢true e)

module _ (h : VersionHistory) (c : List ℕ) where
  pub lasts-at : (i j v : ℕ) → lasts h i j c ≡ true → i ≤ v → v ≤ j → contains (version h v) c ≡ true
  lasts-at i j v all low high = all_at (λ u. contains (version h u) c) i (j + 1 - i) all v low (omega arith)

  lasts-less : (i v j : ℕ) → lasts h i j c ≡ true → i ≤ v → v ≤ j → lasts h i v c ≡ true
  lasts-less i v j all low high =
      left_and (lasts h i v c) (lasts h (v + 1) j c)
      (sym (ap (list_all (λ u. contains (version h u) c)) (numbers-split i v j (omega arith) high) ∙ list_all-append (λ u. contains (version h u) c) (numbers i v) (numbers (v + 1) j)) ∙ all)

  -- what lies in a category begins with it, lasts through it and ends with it
  pub in_living : (i j : ℕ) → contains (living h i j) c ≡ true → (begins h i c && lasts h i j c) ≡ true
  in_living i j has = right_and (contains (version h i) c) _ (sym (contains-filter_distinct (λ d. begins h i d && lasts h i j d) (version h i) c) ∙ has)

  in_category : (i j : ℕ) → contains (category h i j) c ≡ true → ((begins h i c && lasts h i j c) ≡ true) × (ends h j c ≡ true)
  in_category i j has =
      let split : (contains (living h i j) c && ends h j c) ≡ true = sym (contains-filter (ends h j) (living h i j) c) ∙ has in
      (in_living i j (left_and (contains (living h i j) c) (ends h j c) split), right_and (contains (living h i j) c) (ends h j c) split)

  pub used : (i j v : ℕ) → contains (category h i j) c ≡ true → i ≤ v → v ≤ j → contains (version h v) c ≡ true
  used i j v has low high = lasts-at i j v (right_and (begins h i c) (lasts h i j c) (in_category i j has).0) low high

  -- the run of the chunk ends at some version
  record RunEnd (i v k : ℕ) : Type 0 where
    last : ℕ
    low : v ≤ last
    high : last ≤ v + k
    run : lasts h i last c ≡ true
    over : ends h last c ≡ true

  run_end : (i v k : ℕ) → i ≤ v → lasts h i v c ≡ true → contains (version h (v + k + 1)) c ≡ false → RunEnd i v k
  run_end i v zero le all lacks =
      record { last = v; low = omega arith; high = omega arith; run = all; over = let same : v + 1 ≡ v + 0 + 1 = omega arith in ap (λ u. not (contains (version h u) c)) same ∙ ap not lacks }
  run_end i v (suc k) le all lacks =
      elim (contains (version h (v + 1)) c) as (λ t. contains (version h (v + 1)) c ≡ t → RunEnd i v (suc k)) [
        | true ↦ λ e.
            let same : v + 1 + k + 1 ≡ v + suc k + 1 = omega arith in
            let rest : RunEnd i (v + 1) k = run_end i (v + 1) k (omega arith) (lasts-suc h i v c (omega arith) ∙ both (lasts h i v c) _ all e) (ap (λ u. contains (version h u) c) same ∙ lacks) in
            record { last = rest.last; low = omega (arith, rest.low); high = omega (arith, rest.high); run = rest.run; over = rest.over }
        | false ↦ λ e. record { last = v; low = omega arith; high = omega arith; run = all; over = ap not e }
      ] refl

  -- two runs through one version end at the same one
  no_longer : (i j i' j' v : ℕ) → lasts h i j c ≡ true → ends h j' c ≡ true → i ≤ v → v ≤ j' → j ≤ j'
  no_longer i j i' j' v all over low high =
      ⊎_elim
      (λ less. not_both (contains (version h (j' + 1)) c) (lasts-at i j (j' + 1) all (omega arith) (omega arith)) over (j ≤ j'))
      (λ le. le)
      (cases_lt j' j)

  pub lies_in_one : (v : ℕ) → contains (version h v) c ≡ true → LiesInOneCategory h v c
  lies_in_one v has =
      let s = start_of h v c in
      let low : h.base + 1 ≤ s = start_of-low h v c has in
      let high : s ≤ v = start_of-le h v c in
      let known : v ≤ newest h = ⊎_elim (λ past. absurd (false≢true (ap (λ cs. contains cs c) (sym (version-past h v past)) ∙ has))) (λ le. le) (cases_lt (newest h) v) in
      let run : (begins h s c && lasts h s v c) ≡ true = sym (start_of-is h v s c (omega arith) high has) ∙ eq-eqb s s refl in
      let end : RunEnd s v (newest h - v) =
      run_end s v (newest h - v) high (right_and (begins h s c) (lasts h s v c) run) (ap (λ cs. contains cs c) (version-past h (v + (newest h - v) + 1) (omega arith))) in
      record {
        last = end.last;
        begun = (low, high);
        ended = (end.low, omega (arith, end.high));
        once =
            let here : contains (version h s) c ≡ true = lasts-at s end.last s end.run (omega arith) (omega (arith, end.low)) in
            let lives : (begins h s c && lasts h s end.last c) ≡ true = both (begins h s c) _ (left_and (begins h s c) (lasts h s v c) run) end.run in
            one_of (ends h end.last) (λ d. begins h s d && lasts h s end.last d) (version h s) here lives end.over;
        no_other = λ i j from to above below there.
            let inside = in_category i j there in
            let lives : (begins h i c && lasts h i v c) ≡ true =
            both (begins h i c) _ (left_and (begins h i c) (lasts h i j c) inside.0) (lasts-less i v j (right_and (begins h i c) (lasts h i j c) inside.0) to above) in
            let start : s ≡ i = eqb-true s i (start_of-is h v i c (omega arith) to has ∙ lives) in
            let first : j ≤ end.last = no_longer i j s end.last v (right_and (begins h i c) (lasts h i j c) inside.0) end.over to end.low in
            let second : end.last ≤ j = no_longer s end.last i j v end.run inside.1 high above in
            (sym start, omega arith);
      }
    where
      one_of : (p q : List ℕ → Bool) (cs : List (List ℕ)) → contains cs c ≡ true → q c ≡ true → p c ≡ true → filter (bytes_eq c) (filter p (filter q (distinct cs))) ≡ c ∷ []
      one_of p q cs here first second =
          swap p (filter q (distinct cs)) ∙ ap (filter p) (swap q (distinct cs) ∙ ap (filter q) (filter-equal c cs ∙ ap (λ t. cond t (c ∷ []) []) here) ∙ ap (λ t. cond t (c ∷ []) []) first)
          ∙ ap (λ t. cond t (c ∷ []) []) second
        where
          swap : (r : List ℕ → Bool) (xs : List (List ℕ)) → filter (bytes_eq c) (filter r xs) ≡ filter r (filter (bytes_eq c) xs)
          swap r xs = filter-filter (bytes_eq c) r xs ∙ filter-same (λ x. and_comm (r x) (bytes_eq c x)) refl ∙ sym (filter-filter r (bytes_eq c) xs)

  in_cond : (t : Bool) (cs : List (List ℕ)) → contains (cond t cs []) c ≡ true → contains cs c ≡ true
  in_cond true cs has = has
  in_cond false cs has = absurd (false≢true has)

  -- a row of a start up to v has chunks that version v uses
  row_used : (phase : Phase) (j r v : ℕ) → r ≤ v → v ≤ j → contains (row_chunks h phase j r) c ≡ true → contains (version h v) c ≡ true
  row_used phase j r v le in_j has =
      let least = cond (nat_eq r (oldest h)) (h.base + 1) r in
      in_some (λ i. cond (is_closed h phase j i) (category h i j) []) c (contains (version h v) c ≡ true) least (r + 1 - least)
      (ap (λ cs. contains cs c) (sym (ap (λ is. flat_map (λ i. category h i j) (filter (is_closed h phase j) is)) (recorded_as-numbers h r) ∙ flat_map-filter (λ i. category h i j) (is_closed h phase j) (numbers least r))) ∙ has)
      (λ k low high there. used k j v (in_cond (is_closed h phase j k) (category h k j) there) (omega arith) in_j)

  pub front_used : (phase : Phase) (v j : ℕ) → v ≤ j → contains (front_of h phase j v) c ≡ true → contains (version h v) c ≡ true
  front_used phase v j in_j has =
      in_some (row_chunks h phase j) c (contains (version h v) c ≡ true) (oldest h) (v + 1 - oldest h) has (λ r low high there. row_used phase j r v (omega arith) in_j there)

pub each_chunk_lies_in_one_category : EachChunkLiesInOneCategory
each_chunk_lies_in_one_category h v c has = lies_in_one h c v has

pub a_version_uses_a_front : AVersionUsesAFront
a_version_uses_a_front = record {
  front = λ h phase v j low high.
      closed_volume-rows h phase j (omega arith)
      ∙ ap (flat_map (row_chunks h phase j)) (numbers-split (oldest h) v j (omega arith) high)
      ∙ flat_map-append (row_chunks h phase j) (numbers (oldest h) v) (numbers (v + 1) j);
  used = λ h phase v j c low high has. front_used h c phase v j high has;
  open_used = λ h phase v i c low high has. lasts-at h c i (arranged_to h phase i) v (right_and (begins h i c) _ (in_living h c i (arranged_to h phase i) has)) low high;
}
