-- Places at which no named byte lies: in extents without an owner, and behind the named bytes of one.
use Rattle.std.proofs.Common.{◌≡◌, ◌≢◌, ⊎_elim, ℕ, zero, suc, ◌+◌, ◌-◌, ◌*◌, ◌/◌, ◌%◌, ◌<◌, ◌≤◌, List, [], ◌∷◌, ◌++◌, length, map, get_or, refl, sym, ◌∙◌, ap, subst, arith, nat_lt, length-append}
use Rattle.std.specs.Prelude.{AllPairs, Contains, IsTrue, Ok}
use Rattle.std.specs.List.{flat_map, list_all}
use Rattle.std.proofs.Math.Nat.{le-div_iff_mul-le}
use Rattle.std.proofs.lemmas.Bool.{cases_lt}
use Rattle.std.proofs.lemmas.Bool.Decides.{Decides-eqb}
use Rattle.std.proofs.lemmas.List.{get_or_append_left, get_or-append-add, get_or-append_right}
use Rattle.std.proofs.lemmas.List.Elements.{All-contains, Contains-append_cases, Contains-append_left, Contains-append_right, Contains-get_or}
use Rattle.std.proofs.lemmas.Grind.{flat_map-append}
use Rattle.std.proofs.lemmas.Map.Made.{AllPairs-from_IsDistinct}
use Rattle.bd_disk.specs.Images.{AgreeBut, InRange}
use Rattle.bd_disk.proofs.AgreeLemmas.{agree_fewer}
use Rattle.bd_model.specs.declared.layout.Phase.{Phase}
use Rattle.bd_model.specs.declared.shape.Shape.{Shape}
use Rattle.bd_model.specs.Sizes.{Sizes, extent_place}
use Rattle.bd_model.specs.State.{VersionState}
use Rattle.bd_model.proofs.ListLemmas.{right_and}
use Rattle.bd_extio.specs.Ranges.{InOwner, place_of}
use Rattle.bd_extio.proofs.Places.{extent_of, place_of-high, place_of-injective, place_of-low}
use Rattle.bd_roll.specs.Catalogue.{Catalogue, OpenEntry, all_extents}
use Rattle.bd_catalog.specs.Opening.{Found, opened}
use Rattle.bd_roll.specs.Rules.{all_differ, obeys}
use Rattle.bd_catalog.specs.Standing.{StandsFor}
use Rattle.bd_catalog.proofs.AgreeLemmas.{InFront, one_extent, opens_again}
use Rattle.bd_roll.proofs.RuleLemmas.{distinct_of}
use Rattle.bd_catalog.proofs.StandingFound.{obeys-each}
use Rattle.bd_volume.specs.Named.{InNamed, IsUnnamed, Named, NamedBytesDecide, named_by, open_named, recipe_named, volume_named}
use Rattle.bd_volume.proofs.NamedPlaces.{FitsNamed, all_fit, stands_named}

-- ---- numbers none of which stands twice

abbrev Differ : List ℕ → Type 0
Differ ns = AllPairs (λ a b. a ≢ b) ns

differ_left : (xs ys : List ℕ) → Differ (xs ++ ys) → Differ xs
differ_left xs ys differ = λ i j d lt within same.
    differ i j d lt (omega (arith, length-append xs ys)) (get_or_append_left xs ys d i (omega arith) ∙ same ∙ sym (get_or_append_left xs ys d j within))

differ_right : (xs ys : List ℕ) → Differ (xs ++ ys) → Differ ys
differ_right xs ys differ = λ i j d lt within same.
    differ (length xs + i) (length xs + j) d (omega arith) (omega (arith, length-append xs ys)) (get_or-append-add xs ys i d ∙ same ∙ sym (get_or-append-add xs ys j d))

never_both : (xs ys : List ℕ) (e : ℕ) → Differ (xs ++ ys) → Contains xs e → Contains ys e → ⊥
never_both xs ys e differ one other =
    differ one.0 (length xs + other.0) e (omega (arith, one.1)) (omega (arith, other.1, length-append xs ys))
    (get_or_append_left xs ys e one.0 one.1 ∙ one.2 ∙ sym other.2 ∙ sym (get_or-append-add xs ys other.0 e))

-- ---- owners with their extents

abbrev extents_in : List Named → List ℕ
extents_in os = flat_map (λ o. o.extents) os

only : (x o : Named) → Contains (x ∷ []) o → x ≡ o
only x o here = let first : here.0 ≡ 0 = omega (arith, here.1) in ap (λ k. get_or (x ∷ []) k o) (sym first) ∙ here.2

-- what one of the lists has they have together
pub in_flat : {X Y : Type 0} (f : X → List Y) (xs : List X) (x : X) (y : Y) → Contains xs x → Contains (f x) y → Contains (flat_map f xs) y
in_flat f [] x y has inside = absurd (omega (arith, has.1))
in_flat {X} {Y} f (z ∷ xs) x y (zero, lt, at) inside = Contains-append_left (f z) (flat_map f xs) y (subst (λ (w : X). Contains (f w) y) (sym at) inside)
in_flat f (z ∷ xs) x y (suc k, lt, at) inside = Contains-append_right (f z) (flat_map f xs) y (in_flat f xs x y (k, omega (arith, lt), at) inside)

-- an extent has one owner
one_owner : (os : List Named) → Differ (extents_in os) → (o p : Named) (e : ℕ) → Contains os o → Contains os p → Contains o.extents e → Contains p.extents e → o ≡ p
one_owner [] differ o p e has has_p in_o in_p = absurd (omega (arith, has.1))
one_owner (x ∷ os) differ o p e has has_p in_o in_p =
    let rest = extents_in os in
    ⊎_elim
    (λ here. ⊎_elim
    (λ here_p. sym (only x o here) ∙ only x p here_p)
    (λ later. absurd (never_both x.extents rest e differ (subst (λ y. Contains y.extents e) (sym (only x o here)) in_o) (in_flat (λ (n : Named). n.extents) os p e later in_p)))
    (Contains-append_cases (x ∷ []) os p has_p))
    (λ later. ⊎_elim
    (λ here_p. absurd (never_both x.extents rest e differ (subst (λ y. Contains y.extents e) (sym (only x p here_p)) in_p) (in_flat (λ (n : Named). n.extents) os o e later in_o)))
    (λ later_p. one_owner os (differ_right x.extents rest differ) o p e later later_p in_o in_p)
    (Contains-append_cases (x ∷ []) os p has_p))
    (Contains-append_cases (x ∷ []) os o has)

own_differ : (os : List Named) → Differ (extents_in os) → (o : Named) → Contains os o → Differ o.extents
own_differ [] differ o has = absurd (omega (arith, has.1))
own_differ (x ∷ os) differ o has =
    ⊎_elim
    (λ here. subst (λ y. Differ y.extents) (only x o here) (differ_left x.extents (extents_in os) differ))
    (λ later. own_differ os (differ_right x.extents (extents_in os) differ) o later)
    (Contains-append_cases (x ∷ []) os o has)

mapped_extents : {X : Type 0} (name : X → Named) (xs : List X) → extents_in (map name xs) ≡ flat_map (λ x. (name x).extents) xs
mapped_extents name [] = refl
mapped_extents name (x ∷ xs) = ap (λ l. (name x).extents ++ l) (mapped_extents name xs)

-- the extents of all owners
extents-named : (c : Catalogue) → extents_in (named_by c) ≡ all_extents c
extents-named c =
    let recipes = map recipe_named c.versions in
    let volumes = map volume_named c.volumes in
    let opens = map open_named c.actives in
    flat_map-append (λ (o : Named). o.extents) (recipes ++ volumes) opens
    ∙ (λ i. (flat_map-append (λ (o : Named). o.extents) recipes volumes i) ++ mapped_extents open_named c.actives i)
    ∙ (λ i. (mapped_extents recipe_named c.versions i ++ mapped_extents volume_named c.volumes i) ++ flat_map (λ (e : OpenEntry). e.extents) c.actives)

-- ---- places

module _ (s : Sizes) (some : 1 ≤ s.extent) (c : Catalogue) (rules : IsTrue (obeys s c)) where
  differ_all : Differ (extents_in (named_by c))
  differ_all =
      let all = all_extents c in
      subst Differ (sym (extents-named c))
      (AllPairs-from_IsDistinct Decides-eqb all (distinct_of all (right_and (list_all (λ n. nat_lt n s.extents) all) (all_differ all) (obeys-each s c rules).extents)))

  fits : (o : Named) → Contains (named_by c) o → FitsNamed s o
  fits o among = All-contains (FitsNamed s) (named_by c) o (all_fit s some c rules) among

  -- where a byte of these extents lies
  abbrev number : List ℕ → ℕ → ℕ
  number extents at = get_or extents (at / s.extent) 0

  lies : (extents : List ℕ) (at : ℕ) → InRange (extent_place s (number extents at)) s.extent (place_of s extents at)
  lies extents at = (place_of-low s extents some at, place_of-high s extents some at)

  among_own : (extents : List ℕ) (at : ℕ) → at < length extents * s.extent → Contains extents (number extents at)
  among_own extents at within = Contains-get_or extents (at / s.extent) 0 (extent_of s extents some at within)

  -- a named byte lies in an extent that some owner has
  named_extent : (place : ℕ) (e : ℕ) → InRange (extent_place s e) s.extent place → (p : InNamed s c place) → Contains p.owner.extents e
  named_extent place e here p =
      let extents = p.owner.extents in
      let at = 0 + p.within.k in
      let within : at < length extents * s.extent = omega (arith, p.within.within, (fits p.owner p.among).inside) in
      let there : InRange (extent_place s (number extents at)) s.extent place = subst (InRange (extent_place s (number extents at)) s.extent) (sym p.within.so) (lies extents at) in
      subst (Contains extents) (one_extent s (number extents at) e place there here) (among_own extents at within)

  -- none lies in an extent without an owner
  pub unowned_unnamed : (place : ℕ) (e : ℕ) → InRange (extent_place s e) s.extent place → (Contains (all_extents c) e → ⊥) → IsUnnamed s c place
  unowned_unnamed place e here free = record {
    behind = omega (arith, here.0);
    unnamed = λ p. free (subst (λ l. Contains l e) (extents-named c) (in_flat (λ (n : Named). n.extents) (named_by c) p.owner e p.among (named_extent place e here p)));
  }

  -- nor behind the named bytes of an owner, in its own extents and in further ones that nobody has
  module _ (o : Named) (among : Contains (named_by c) o) (more : List ℕ) (free : (e : ℕ) → Contains more e → Contains (all_extents c) e → ⊥) where
    abbrev grown : List ℕ
    grown = o.extents ++ more

    in_own : (q : ℕ) → o.bytes ≤ q → q < length o.extents * s.extent → IsUnnamed s c (place_of s grown q)
    in_own q past within =
        let same : place_of s grown q ≡ place_of s o.extents q = ap (λ e. extent_place s e + q % s.extent) (get_or_append_left o.extents more 0 (q / s.extent) (extent_of s o.extents some q within)) in
        let here : InRange (extent_place s (number o.extents q)) s.extent (place_of s o.extents q) = lies o.extents q in
        let unnamed : InNamed s c (place_of s o.extents q) → ⊥ = λ p.
        let owner : o ≡ p.owner = one_owner (named_by c) differ_all o p.owner (number o.extents q) among p.among (among_own o.extents q within) (named_extent (place_of s o.extents q) (number o.extents q) here p) in
        let k = 0 + p.within.k in
        let low : k < p.owner.bytes = omega (arith, p.within.within) in
        let low_o : k < o.bytes = subst (λ x. k < x.bytes) (sym owner) low in
        let so : place_of s o.extents q ≡ place_of s o.extents k = subst (λ x. place_of s o.extents q ≡ place_of s x.extents k) (sym owner) p.within.so in
        let is : q ≡ k =
        place_of-injective s o.extents some (record { below = (fits o among).below; differ = own_differ (named_by c) differ_all o among }) q k within (omega (arith, low_o, (fits o among).inside)) so in
        omega (arith, is, low_o) in
        subst (IsUnnamed s c) (sym same) (record { behind = omega (arith, here.0); unnamed = unnamed })

    in_more : (q : ℕ) → length o.extents * s.extent ≤ q → q < length grown * s.extent → IsUnnamed s c (place_of s grown q)
    in_more q past within =
        let index = q / s.extent in
        let inside : index < length grown = extent_of s grown some q within in
        let positive : 0 < s.extent = omega arith in
        let behind : length o.extents ≤ index = (le-div_iff_mul-le {k = s.extent} {x = length o.extents} {y = q} positive).1 past in
        let at : get_or grown index 0 ≡ get_or more (index - length o.extents) 0 = get_or-append_right o.extents more (length o.extents) index 0 refl behind in
        let has : Contains more (number grown q) = subst (Contains more) (sym at) (Contains-get_or more (index - length o.extents) 0 (omega (arith, inside, behind, length-append o.extents more))) in
        unowned_unnamed (place_of s grown q) (number grown q) (lies grown q) (free (number grown q) has)

    behind_unnamed : (at n : ℕ) → o.bytes ≤ at → at + n ≤ length grown * s.extent → (place : ℕ) → InOwner s grown at n place → IsUnnamed s c place
    behind_unnamed at n past fits_all place p =
        let q = at + p.k in
        let within : q < length grown * s.extent = omega (arith, p.within) in
        subst (IsUnnamed s c) (sym p.so)
        (⊎_elim (λ own. in_own q (omega arith) own) (λ beyond. in_more q beyond within) (cases_lt q (length o.extents * s.extent)))

-- ---- images

-- an image stands for what another one does that agrees with it but at such places
stands_elsewhere : (shape : Shape) (st : VersionState) (phase : Phase) (held : ℕ) (old new : List ℕ) (found : Found) → opened old ≡ Ok found → AgreeBut (IsUnnamed found.sizes found.catalogue) old new →
    StandsFor shape st phase held old → StandsFor shape st phase held new
stands_elsewhere shape st phase held old new found opens agree stands =
    let opens_new : opened new ≡ Ok found = opens_again found old new opens (agree_fewer _ (InFront found.sizes) old new (λ place front unnamed. omega (arith, front, unnamed.behind)) agree) in
    stands_named shape st phase held old new found found opens opens_new refl refl
    (agree_fewer _ (InNamed found.sizes found.catalogue) old new (λ place named unnamed. unnamed.unnamed named) agree) stands

pub named_bytes_decide : NamedBytesDecide
named_bytes_decide = record {
  named = stands_named;
  elsewhere = stands_elsewhere;
  unowned = λ s c extent place some rules free here. unowned_unnamed s some c rules place extent here free;
  behind = λ s c o more at n place some rules among free past within here. behind_unnamed s some c rules o among more free at n past within place here;
}
