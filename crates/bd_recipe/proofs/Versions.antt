-- What the rules of a catalogue say of a retained version's recipe.
use Rattle.std.proofs.Common.{◌≡◌, ℕ, zero, suc, ◌+◌, ◌-◌, ◌*◌, ◌<◌, ◌≤◌, Bool, true, List, [], ◌∷◌, ◌++◌, length, map, get_or, sym, ◌∙◌, ap, subst, arith, Some, None, slice_get, nat_lt}
use Rattle.std.specs.Prelude.{IsTrue}
use Rattle.std.specs.List.{list_all, flat_map}
use Rattle.std.specs.Option.{option_map}
use Rattle.std.proofs.lemmas.Bool.{ltb-true}
use Rattle.std.proofs.lemmas.Bool.Decides.{Decides-eqb}
use Rattle.std.proofs.lemmas.List.{get_or_append_left, get_or-append-add, length-append}
use Rattle.std.proofs.lemmas.List.Elements.{All-weaker}
use Rattle.std.proofs.lemmas.List.Sums.{AllPass-from_list_all}
use Rattle.std.proofs.lemmas.Map.Made.{AllPairs-from_IsDistinct}
use Rattle.std.proofs.lemmas.Option.{get_or_from_slice_get, slice_get-map}
use Rattle.bd_model.specs.Sizes.{Sizes}
use Rattle.bd_model.proofs.ListLemmas.{left_and, right_and}
use Rattle.bd_model.proofs.RoomLemmas.{up-enough}
use Rattle.bd_extio.specs.Ranges.{AreExtents, IsWithin}
use Rattle.bd_roll.specs.Catalogue.{Catalogue, VersionEntry, oldest_in, recipe_extents, all_extents}
use Rattle.bd_roll.specs.Rules.{all_differ, obeys, version_holds, extents_hold}
use Rattle.bd_roll.proofs.RuleLemmas.{count_in_version, distinct_of}
use Rattle.bd_catalog.proofs.StandingFound.{obeys-each}
use Rattle.bd_recipe.specs.Reading.{chunks_in, length_in}

-- ---- extents of which each is there and none stands twice, and parts of them

module _ (s : Sizes) where
  pub are_left : (xs ys : List ℕ) → AreExtents s (xs ++ ys) → AreExtents s xs
  are_left xs ys are = record {
    below = λ k d lt. subst (λ e. e < s.extents) (get_or_append_left xs ys d k lt) (are.below k d (omega (arith, length-append xs ys)));
    differ = λ i j d lt within same. are.differ i j d lt (omega (arith, length-append xs ys)) (get_or_append_left xs ys d i (omega arith) ∙ same ∙ sym (get_or_append_left xs ys d j within));
  }

  pub are_right : (xs ys : List ℕ) → AreExtents s (xs ++ ys) → AreExtents s ys
  are_right xs ys are = record {
    below = λ k d lt. subst (λ e. e < s.extents) (get_or-append-add xs ys k d) (are.below (length xs + k) d (omega (arith, length-append xs ys)));
    differ = λ i j d lt within same. are.differ (length xs + i) (length xs + j) d (omega arith) (omega (arith, length-append xs ys)) (get_or-append-add xs ys i d ∙ same ∙ sym (get_or-append-add xs ys j d));
  }

  pub are_of : (es : List VersionEntry) (i : ℕ) (e : VersionEntry) → slice_get es i ≡ Some e → AreExtents s (flat_map (λ v. v.extents) es) → AreExtents s e.extents
  are_of [] i e is are = absurd (no_entry is) where
    no_entry : None ≡ Some e → ⊥
    no_entry h = cc
  are_of (x ∷ es) zero e is are =
      let same : x ≡ e = cc in
      subst (λ v. AreExtents s v.extents) same (are_left x.extents (flat_map (λ v. v.extents) es) are)
  are_of (x ∷ es) (suc i) e is are = are_of es i e is (are_right x.extents (flat_map (λ v. v.extents) es) are)

  pub are_all : (c : Catalogue) → IsTrue (extents_hold s c) → AreExtents s (all_extents c)
  are_all c hold =
      let numbers = all_extents c in
      let below = left_and (list_all (λ n. nat_lt n s.extents) numbers) (all_differ numbers) hold in
      let differ = right_and (list_all (λ n. nat_lt n s.extents) numbers) (all_differ numbers) hold in
      record {
        below = All-weaker (λ n. nat_lt n s.extents ≡ true) (λ n. n < s.extents) (λ n h. ltb-true n s.extents h) numbers (AllPass-from_list_all (λ n. nat_lt n s.extents) numbers below);
        differ = AllPairs-from_IsDistinct Decides-eqb numbers (distinct_of numbers differ);
      }

-- ---- a retained version

-- the extents of its recipe, and how many chunks and bytes it has; the entries lie within the extents
pub record VersionIs (s : Sizes) (c : Catalogue) (v : ℕ) (e : VersionEntry) : Type 0 where
  pub extents : e.extents ≡ recipe_extents c v
  pub chunks : e.chunks ≡ chunks_in c v
  pub bytes : e.length ≡ length_in c v
  pub numbers : AreExtents s e.extents
  pub range : IsWithin s e.extents 0 (40 * e.chunks)

holds_at : (p : VersionEntry → Bool) (es : List VersionEntry) (i : ℕ) (e : VersionEntry) → list_all p es ≡ true → slice_get es i ≡ Some e → p e ≡ true
holds_at p [] i e all is = absurd (no_entry is) where
  no_entry : None ≡ Some e → ⊥
  no_entry h = cc
holds_at p (x ∷ es) zero e all is =
    let same : x ≡ e = cc in
    subst (λ v. p v ≡ true) same (left_and (p x) (list_all p es) all)
holds_at p (x ∷ es) (suc i) e all is = holds_at p es i e (right_and (p x) (list_all p es) all) is

at_map : {Y : Type 0} (f : VersionEntry → Y) (es : List VersionEntry) (i : ℕ) (e : VersionEntry) (d : Y) → slice_get es i ≡ Some e → f e ≡ get_or (map f es) i d
at_map f es i e d is = sym (get_or_from_slice_get (map f es) i (f e) d (slice_get-map f es i ∙ ap (option_map f) is))

pub version_is : (s : Sizes) (c : Catalogue) (v : ℕ) (e : VersionEntry) → 1 ≤ s.extent → IsTrue (obeys s c) → slice_get c.versions (v - oldest_in c) ≡ Some e → VersionIs s c v e
version_is s c v e some rules is =
    let each = obeys-each s c rules in
    let i = v - oldest_in c in
    let versions = flat_map (λ (x : VersionEntry). x.extents) c.versions in
    let volumes = flat_map (λ x. x.extents) c.volumes in
    let actives = flat_map (λ x. x.extents) c.actives in
    record {
      extents = at_map (λ x. x.extents) c.versions i e [] is;
      chunks = at_map (λ x. x.chunks) c.versions i e 0 is;
      bytes = at_map (λ x. x.length) c.versions i e 0 is;
      numbers = are_of s c.versions i e is (are_left s versions volumes (are_left s (versions ++ volumes) actives (are_all s c each.extents)));
      range = omega (arith, up-enough s.extent (40 * e.chunks) (length e.extents) some (count_in_version s e (holds_at (version_holds s) c.versions i e each.versions is)));
    }
