-- What an image stands for, and what keeps it.
use Rattle.std.proofs.Common.{◌≡◌, refl, ◌⊎◌, inl, inr, ⊎_elim, ℕ, zero, suc, Bool, true, false, cond, List, [], ◌∷◌, ◌++◌, sym, ◌∙◌, ap, subst, arith, filter, flat_map, map, get_or}
use Rattle.std.specs.Prelude.{Ok, Contains}
use Rattle.std.proofs.lemmas.List.Elements.{Contains-append_left, Contains-append_right, Contains-append_cases}
use Rattle.bd_disk.specs.Images.{Agree, AgreeBut}
use Rattle.bd_disk.proofs.AgreeLemmas.{agree_fewer}
use Rattle.bd_model.specs.declared.shape.Shape.{Shape}
use Rattle.bd_model.specs.declared.layout.Phase.{Phase}
use Rattle.bd_model.specs.Sizes.{Sizes, sizes_of}
use Rattle.bd_model.specs.State.{VersionState, IsState, history}
use Rattle.bd_gate.specs.Halves.{InHalves}
use Rattle.bd_roll.specs.Catalogue.{Catalogue, recipe_extents, volume_extents, active_extents, all_extents}
use Rattle.bd_catalog.specs.Opening.{Found, opened}
use Rattle.bd_catalog.specs.Standing.{BeginWith, HasNumbers, HasVersions, HasVolumes, HasActives, HasReserve, StandsFor, Stands}
use Rattle.bd_catalog.specs.Agreement.{InExtents}
use Rattle.bd_catalog.proofs.AgreeLemmas.{InFront, opens_again, begin_with_agrees, front_apart}

-- what was found shows the state: all of `StandsFor` but the state's own rules and the opening
pub record Shows (shape : Shape) (st : VersionState) (phase : Phase) (held : ℕ) (found : Found) (image : List ℕ) : Type 0 where
  pub sizes : found.sizes ≡ sizes_of shape
  pub at_phase : found.catalogue.phase ≡ phase
  pub numbers : HasNumbers (history shape st) found.catalogue
  pub versions : HasVersions shape st found.catalogue image
  pub volumes : HasVolumes (sizes_of shape) (history shape st) phase found.catalogue image
  pub actives : HasActives (sizes_of shape) (history shape st) phase found.catalogue image
  pub reserve : HasReserve (sizes_of shape) (history shape st) phase held

-- an image opens in one way
pub found_once : (image : List ℕ) (one other : Found) → opened image ≡ Ok one → opened image ≡ Ok other → one ≡ other
found_once image one other e f = let same : Ok one ≡ Ok other = sym e ∙ f in cc

-- what an opening finds in an image that stands for a state shows this state
pub stands-shows : {shape : Shape} {st : VersionState} {phase : Phase} {held : ℕ} {image : List ℕ} {found : Found} → StandsFor shape st phase held image → opened image ≡ Ok found → Shows shape st phase held found image
stands-shows {shape = shape} {st = st} {phase = phase} {held = held} {image = image} {found = found} stands opens =
    subst (λ f. Shows shape st phase held f image) (found_once image stands.found found stands.opens opens)
    (record { sizes = stands.sizes; at_phase = stands.at_phase; numbers = stands.numbers; versions = stands.versions; volumes = stands.volumes; actives = stands.actives; reserve = stands.reserve })

-- an image stands for a state where what is found in it shows this state
pub stands-shown : {shape : Shape} {st : VersionState} {phase : Phase} {held : ℕ} {image : List ℕ} {found : Found} → IsState st → opened image ≡ Ok found → Shows shape st phase held found image → StandsFor shape st phase held image
stands-shown {found = found} state opens shows =
    record { state = state; found = found; opens = opens; sizes = shows.sizes; at_phase = shows.at_phase; numbers = shows.numbers; versions = shows.versions; volumes = shows.volumes; actives = shows.actives; reserve = shows.reserve }

-- what was found shows the state by its sizes and its catalogue alone
pub shows_same : {shape : Shape} {st : VersionState} {phase : Phase} {held : ℕ} {image : List ℕ} (found again : Found) → again.sizes ≡ found.sizes → again.catalogue ≡ found.catalogue →
    Shows shape st phase held found image → Shows shape st phase held again image
shows_same {shape = shape} {st = st} {phase = phase} {held = held} {image = image} found again sizes catalogue shows = record {
  sizes = sizes ∙ shows.sizes;
  at_phase = ap (λ c. c.phase) catalogue ∙ shows.at_phase;
  numbers = subst (HasNumbers (history shape st)) (sym catalogue) shows.numbers;
  versions = subst (λ c. HasVersions shape st c image) (sym catalogue) shows.versions;
  volumes = subst (λ c. HasVolumes (sizes_of shape) (history shape st) phase c image) (sym catalogue) shows.volumes;
  actives = subst (λ c. HasActives (sizes_of shape) (history shape st) phase c image) (sym catalogue) shows.actives;
  reserve = shows.reserve;
}

-- an image stands for a state where the catalogue that is found has its parts
pub stands_by_parts : (shape : Shape) (st : VersionState) (phase : Phase) (held : ℕ) (image : List ℕ) (found : Found) (c : Catalogue) → IsState st →
    opened image ≡ Ok found → found.sizes ≡ sizes_of shape → found.catalogue ≡ c → c.phase ≡ phase →
    HasNumbers (history shape st) c → HasVersions shape st c image → HasVolumes (sizes_of shape) (history shape st) phase c image → HasActives (sizes_of shape) (history shape st) phase c image →
    HasReserve (sizes_of shape) (history shape st) phase held → StandsFor shape st phase held image
stands_by_parts shape st phase held image found c state opens sizes is at_phase numbered versions volumes actives reserve =
    stands-shown state opens
    (shows_same (record found { catalogue = c }) found refl is
    (record { sizes = sizes; at_phase = at_phase; numbers = numbered; versions = versions; volumes = volumes; actives = actives; reserve = reserve }))

-- ---- the extents of owners are among all

in_part : {X : Type 0} (f : X → List ℕ) (xs : List X) (i e : ℕ) → Contains (get_or (map f xs) i []) e → Contains (flat_map f xs) e
in_part f [] i e has = absurd (omega (arith, has.1))
in_part f (x ∷ xs) zero e has = Contains-append_left (f x) (flat_map f xs) e has
in_part f (x ∷ xs) (suc i) e has = Contains-append_right (f x) (flat_map f xs) e (in_part f xs i e has)

in_kept : {X : Type 0} (f : X → List ℕ) (p : X → Bool) (xs : List X) (e : ℕ) → Contains (flat_map f (filter p xs)) e → Contains (flat_map f xs) e
in_kept f p [] e = λ has. has
in_kept f p (x ∷ xs) e =
    elim (p x) as (λ t. Contains (flat_map f (cond t (x ∷ filter p xs) (filter p xs))) e → Contains (f x ++ flat_map f xs) e) [
      | true ↦ λ has. ⊎_elim (Contains-append_left (f x) (flat_map f xs) e) (λ later. Contains-append_right (f x) (flat_map f xs) e (in_kept f p xs e later)) (Contains-append_cases (f x) (flat_map f (filter p xs)) e has)
      | false ↦ λ has. Contains-append_right (f x) (flat_map f xs) e (in_kept f p xs e has)
    ]

module _ (c : Catalogue) (e : ℕ) where
  abbrev of_versions : List ℕ
  of_versions = flat_map (λ v. v.extents) c.versions

  abbrev of_volumes : List ℕ
  of_volumes = flat_map (λ v. v.extents) c.volumes

  abbrev of_actives : List ℕ
  of_actives = flat_map (λ a. a.extents) c.actives

  recipe_owned : (v : ℕ) → Contains (recipe_extents c v) e → Contains (all_extents c) e
  recipe_owned v has = Contains-append_left (of_versions ++ of_volumes) of_actives e (Contains-append_left of_versions of_volumes e (in_part _ c.versions _ e has))

  volume_owned : (j : ℕ) → Contains (volume_extents c j) e → Contains (all_extents c) e
  volume_owned j has = Contains-append_left (of_versions ++ of_volumes) of_actives e (Contains-append_right of_versions of_volumes e (in_part _ c.volumes _ e has))

  active_owned : (i : ℕ) → Contains (active_extents c i) e → Contains (all_extents c) e
  active_owned i has = Contains-append_right (of_versions ++ of_volumes) of_actives e (in_kept _ _ c.actives e has)

-- ---- images that agree on what is owned

-- what owners begin with carries over to an image that agrees on these extents
fewer_begin : (s : Sizes) (all extents bytes old new : List ℕ) → ((e : ℕ) → Contains extents e → Contains all e) → Agree (InExtents s all) old new → BeginWith s extents bytes old → BeginWith s extents bytes new
fewer_begin s all extents bytes old new among agree =
    begin_with_agrees s extents bytes old new (agree_fewer (InExtents s all) (InExtents s extents) old new (λ place p. record { extent = p.extent; among = among p.extent p.among; within = p.within }) agree)

module _ {shape : Shape} {st : VersionState} {phase : Phase} {held : ℕ} {found : Found} {old new : List ℕ} where
  -- what was found shows the state in an image that agrees on every extent that is owned
  pub shows_agrees : Agree (InExtents found.sizes (all_extents found.catalogue)) old new → Shows shape st phase held found old → Shows shape st phase held found new
  shows_agrees agree shows =
      let s = sizes_of shape in
      let c = found.catalogue in
      let same : Agree (InExtents s (all_extents c)) old new = subst (λ t. Agree (InExtents t (all_extents c)) old new) shows.sizes agree in
      record {
        sizes = shows.sizes;
        at_phase = shows.at_phase;
        numbers = shows.numbers;
        versions = record { lines = shows.versions.lines; recipes = λ v low high. fewer_begin s (all_extents c) (recipe_extents c v) _ old new (λ e. recipe_owned c e v) same (shows.versions.recipes v low high) };
        volumes = record { rows = shows.volumes.rows; records = λ j low high. fewer_begin s (all_extents c) (volume_extents c j) _ old new (λ e. volume_owned c e j) same (shows.volumes.records j low high) };
        actives = record { rows = shows.actives.rows; records = λ i low high. fewer_begin s (all_extents c) (active_extents c i) _ old new (λ e. active_owned c e i) same (shows.actives.records i low high) };
        reserve = shows.reserve;
      }

-- a place that a store reads: in superblock and halves, or in an extent that is owned
abbrev pub InStore : Found → ℕ → Type 0
InStore found place = InFront found.sizes place ⊎ InExtents found.sizes (all_extents found.catalogue) place

-- an image stands for what another one does that has its catalogue and agrees on every extent that is owned
pub stands_for_opened : {shape : Shape} {st : VersionState} {phase : Phase} {held : ℕ} {old new : List ℕ} (found again : Found) →
    opened old ≡ Ok found → opened new ≡ Ok again → again.sizes ≡ found.sizes → again.catalogue ≡ found.catalogue → Agree (InExtents found.sizes (all_extents found.catalogue)) old new →
    StandsFor shape st phase held old → StandsFor shape st phase held new
stands_for_opened found again opens opens_new sizes catalogue agree stands =
    stands-shown stands.state opens_new (shows_same found again sizes catalogue (shows_agrees agree (stands-shows stands opens)))

-- the same at some phase
pub stands_opened : {shape : Shape} {held : ℕ} {st : VersionState} {old new : List ℕ} (found again : Found) →
    opened old ≡ Ok found → opened new ≡ Ok again → again.sizes ≡ found.sizes → again.catalogue ≡ found.catalogue → Agree (InExtents found.sizes (all_extents found.catalogue)) old new →
    Stands shape held st old → Stands shape held st new
stands_opened found again opens opens_new sizes catalogue agree stands = record { phase = stands.phase; so = stands_for_opened found again opens opens_new sizes catalogue agree stands.so }

-- an image stands for what another one does that agrees with it where the store reads
pub stands_for_agrees : {shape : Shape} {st : VersionState} {phase : Phase} {held : ℕ} {found : Found} {old new : List ℕ} →
    opened old ≡ Ok found → Agree (InStore found) old new → StandsFor shape st phase held old → StandsFor shape st phase held new
stands_for_agrees {found = found} {old = old} {new = new} opens agree =
    stands_for_opened found found opens
    (opens_again found old new opens (agree_fewer (InStore found) (InFront found.sizes) old new (λ place front. inl front) agree)) refl refl
    (agree_fewer (InStore found) (InExtents found.sizes (all_extents found.catalogue)) old new (λ place owned. inr owned) agree)

-- a write in the halves changes no extent
pub halves_agree : (s : Sizes) (extents old new : List ℕ) → AgreeBut (InHalves s) old new → Agree (InExtents s extents) old new
halves_agree s extents old new agree = agree_fewer _ (InExtents s extents) old new (λ place owned written. front_apart s extents place (omega (arith, written.1)) owned) agree
