-- What the entries of a map from names to bytes say of the files.
use Rattle.std.proofs.Common.{◌≡◌, ℕ, Bool, true, false, cond, T, List, [], ◌∷◌, refl, sym, ap, subst, ◌∙◌, map as each, Some, None, IsSome, is_some, Vec}
use Rattle.std.specs.declared.cmp.Ordering.{Ordering}
use Rattle.std.specs.declared.cmp.Ordering.TheVariants.{Less, Equal, Greater}
use Rattle.std.specs.Ordering.{nat_cmp, is_eq, eq_by_cmp, match_ordering}
use Rattle.std.specs.Option.{option_map}
use Rattle.std.specs.Cmp.Lexicographic.{slice_cmp, nat_list_cmp_total}
use Rattle.std.specs.Cmp.{alike_right}
use Rattle.std.specs.FinMap as map
use Rattle.std.specs.FinMap.{find, get-from_entries, get-insert, same_map, nat_cmp-IsAntisymmetric, slice_cmp-IsAntisymmetric}
use Rattle.std.specs.Map.{lookup, set_value}
use Rattle.std.specs.BTreeMap.{insert_entry}
use Rattle.bd_model.specs.FileMap.{FileMap}
use Rattle.bd_files.specs.Files.{Holds}
use Rattle.bd_files.specs.Table.{file_map}
use Rattle.bd_files.proofs.FileLemmas.{held_once, only_equal_names_tie}

-- ---- choices

shadowed : {A : Type 0} (b : Bool) (x y z : A) → cond b x z ≡ cond b x (cond b y z)
shadowed true x y z = refl
shadowed false x y z = refl

swapped : {A : Type 0} (a b : Bool) (x y z : A) → (T a → T b → ⊥) → cond a x (cond b y z) ≡ cond b y (cond a x z)
swapped true true x y z apart = absurd (apart tt tt)
swapped true false x y z apart = refl
swapped false b x y z apart = refl

-- ---- names

abbrev order : List ℕ → List ℕ → Ordering
order = slice_cmp nat_cmp

-- a name that ties with two ties them
one_tie : (q a b : List ℕ) (r : Ordering) → order a b ≡ r → (T (is_eq r) → ⊥) → T (eq_by_cmp order q b) → T (eq_by_cmp order q a) → ⊥
one_tie q a b r is apart at_b at_a =
    let same : q ≡ a = only_equal_names_tie q a at_a in
    apart (subst T (ap (λ n. is_eq (order n b)) same ∙ ap is_eq is) at_b)

module _ {A : Type 0} where
  abbrev pairs : List (Vec ℕ A × Vec ℕ A) → List (List ℕ × List ℕ)
  pairs entries = each (λ e. (e.0.items, e.1.items)) entries

  abbrev vec_order : Vec ℕ A → Vec ℕ A → Ordering
  vec_order a b = order a.items b.items

  abbrev is_named : List ℕ → Vec ℕ A → Bool
  is_named q k = is_eq (order q k.items)

  found : (entries : List (Vec ℕ A × Vec ℕ A)) (q : List ℕ) → find order q (pairs entries) ≡ option_map (λ v. v.items) (lookup (is_named q) entries)
  found [] q = refl
  found (e ∷ es) q =
      elim (is_named q e.0) as (λ b. cond b (Some e.1.items) (find order q (pairs es)) ≡ option_map (λ v. v.items) (cond b (Some e.1) (lookup (is_named q) es))) [ true ↦ refl | false ↦ found es q ]

  -- what is under a name
  pub get-file_map : (entries : List (Vec ℕ A × Vec ℕ A)) (q : List ℕ) → map.get (file_map entries) q ≡ option_map (λ v. v.items) (lookup (is_named q) entries)
  get-file_map entries q = get-from_entries nat_list_cmp_total (pairs entries) q ∙ found entries q

  found_after_insert : (entries : List (Vec ℕ A × Vec ℕ A)) (k v : Vec ℕ A) (q : List ℕ) → find order q (pairs (insert_entry vec_order entries k v)) ≡ cond (eq_by_cmp order q k.items) (Some v.items) (find order q (pairs entries))
  found_after_insert [] k v q = refl
  found_after_insert (e ∷ es) k v q =
      elim (vec_order k e.0) as (λ r. vec_order k e.0 ≡ r → find order q (pairs (match_ordering r ((k, v) ∷ e ∷ es) ((e.0, v) ∷ es) (e ∷ insert_entry vec_order es k v))) ≡ cond (eq_by_cmp order q k.items) (Some v.items) (find order q (pairs (e ∷ es)))) [
        | Less ↦ λ p. refl
        | Equal ↦ λ p. shadowed (is_named q e.0) (Some v.items) (Some e.1.items) (find order q (pairs es)) ∙ ap (λ r. cond (is_eq r) (Some v.items) (find order q (pairs (e ∷ es)))) (sym (alike_right nat_list_cmp_total k.items e.0.items q p))
        | Greater ↦ λ p. ap (cond (is_named q e.0) (Some e.1.items)) (found_after_insert es k v q) ∙ swapped _ _ _ _ _ (one_tie q k.items e.0.items Greater p (λ h. h))
      ] refl

  found_after_set : (entries : List (Vec ℕ A × Vec ℕ A)) (k : List ℕ) (w : Vec ℕ A) (q : List ℕ) → IsSome (lookup (is_named k) entries) → find order q (pairs (set_value (is_named k) entries w)) ≡ cond (eq_by_cmp order q k) (Some w.items) (find order q (pairs entries))
  found_after_set [] k w q there = absurd (subst T (sym there) tt)
  found_after_set (e ∷ es) k w q there =
      elim (order k e.0.items) as (λ r. order k e.0.items ≡ r → IsSome (cond (is_eq r) (Some e.1) (lookup (is_named k) es)) → find order q (pairs (cond (is_eq r) ((e.0, w) ∷ es) (e ∷ set_value (is_named k) es w))) ≡ cond (eq_by_cmp order q k) (Some w.items) (find order q (pairs (e ∷ es)))) [
        | Less ↦ λ p later. ap (cond (is_named q e.0) (Some e.1.items)) (found_after_set es k w q later) ∙ swapped _ _ _ _ _ (one_tie q k e.0.items Less p (λ h. h))
        | Equal ↦ λ p later. shadowed (is_named q e.0) (Some w.items) (Some e.1.items) (find order q (pairs es)) ∙ ap (λ r. cond (is_eq r) (Some w.items) (find order q (pairs (e ∷ es)))) (sym (alike_right nat_list_cmp_total k e.0.items q p))
        | Greater ↦ λ p later. ap (cond (is_named q e.0) (Some e.1.items)) (found_after_set es k w q later) ∙ swapped _ _ _ _ _ (one_tie q k e.0.items Greater p (λ h. h))
      ] refl there

  by_name : (old new : List (Vec ℕ A × Vec ℕ A)) (k bytes : List ℕ) → ((q : List ℕ) → find order q (pairs new) ≡ cond (eq_by_cmp order q k) (Some bytes) (find order q (pairs old))) → file_map new ≡ map.insert (file_map old) k bytes
  by_name old new k bytes is =
      same_map nat_list_cmp_total (slice_cmp-IsAntisymmetric nat_cmp-IsAntisymmetric) _ _ (λ q. get-from_entries nat_list_cmp_total (pairs new) q ∙ is q ∙ sym (get-insert nat_list_cmp_total _ k bytes q ∙ ap (cond (eq_by_cmp order q k) (Some bytes)) (get-from_entries nat_list_cmp_total (pairs old) q)))

  -- an entry more, or another value of one
  pub file_map-insert_entry : (entries : List (Vec ℕ A × Vec ℕ A)) (k v : Vec ℕ A) → file_map (insert_entry vec_order entries k v) ≡ map.insert (file_map entries) k.items v.items
  file_map-insert_entry entries k v = by_name entries _ k.items v.items (found_after_insert entries k v)

  -- another value of an entry that is there
  pub file_map-set_value : (entries : List (Vec ℕ A × Vec ℕ A)) (k : List ℕ) (w : Vec ℕ A) → IsSome (lookup (is_named k) entries) → file_map (set_value (is_named k) entries w) ≡ map.insert (file_map entries) k w.items
  file_map-set_value entries k w there = by_name entries _ k w.items (λ q. found_after_set entries k w q there)

  -- an entry that a look-up gives holds the file's bytes
  pub same_bytes : (entries : List (Vec ℕ A × Vec ℕ A)) (files : FileMap) (name old : List ℕ) (v : Vec ℕ A) → Some v ≡ lookup (is_named name) entries → file_map entries ≡ files → Holds files name old → v.items ≡ old
  same_bytes entries files name old v at_name view held =
      let there : map.get files name ≡ Some v.items = sym (ap (λ m. map.get m name) view) ∙ get-file_map entries name ∙ sym (ap (option_map (λ v. v.items)) at_name) in
      held_once files name v.items old (record { there = there }) held

  -- a file that is there has an entry
  pub not_missing : (entries : List (Vec ℕ A × Vec ℕ A)) (files : FileMap) (name old : List ℕ) → None ≡ lookup (is_named name) entries → file_map entries ≡ files → Holds files name old → ⊥
  not_missing entries files name old at_name view held =
      let none : None ≡ Some old = ap (option_map (λ v. v.items)) at_name ∙ sym (get-file_map entries name) ∙ ap (λ m. map.get m name) view ∙ held.there in
      subst T (sym (ap is_some none)) tt
