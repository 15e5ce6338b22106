-- What a backup takes in of its source, whatever image it is.
use Rattle.std.proofs.Common.{◌≡◌, ◌∙◌, ◌≤◌, ◌+◌, ◌-◌, ℕ, List, arith, refl, sym, subst, ap, ⊎_elim, Ok, Result}
use Rattle.std.proofs.lemmas.Bool.{cases_lt}
use Rattle.bd_disk.specs.Images.{Agree, AgreeBut}
use Rattle.bd_disk.specs.History.{History, contents}
use Rattle.bd_model.specs.Chunks.{chunks}
use Rattle.bd_model.specs.Laws.{entries_of_chunks}
use Rattle.bd_model.specs.Room.{counted_of}
use Rattle.bd_model.specs.declared.answer.Answer.{Answer}
use Rattle.bd_model.specs.declared.answer.Answer.TheVariants.{BackedUp}
use Rattle.bd_model.specs.declared.layout.RecipeEntry.{RecipeEntry}
use Rattle.bd_catalog.specs.Agreement.{InExtents}
use Rattle.bd_roll.specs.Catalogue.{retained_in}
use Rattle.bd_catalog.specs.Opening.{Found}
use Rattle.bd_catalog.specs.Steps.{InOtherHalf}
use Rattle.bd_disk.proofs.AgreeLemmas.{agree_fewer}
use Rattle.bd_disk.proofs.Frames.{leaves_same}
use Rattle.bd_catalog.proofs.StandingLemmas.{found_once}
use Rattle.bd_catalog.proofs.AgreeLemmas.{begin_with_agrees, front_apart}
use Rattle.bd_intake.specs.Answers.{HoldsVersion, IsVersion}
use Rattle.bd_intake.specs.Firsts.{cut_in}
use Rattle.bd_intake.specs.declared.staged.Staged.{Staged}
use Rattle.bd_arrange.specs.Arranged.{IsSettledFrom}
use Rattle.bd_arrange.specs.Opens.{OpensSoFar, OpensWith}
use Rattle.bd_volume.proofs.Beside.{half_front}
use Rattle.bd_store.specs.Attempts.{Attempt, TakesSource, source_before}
use Rattle.bd_store.specs.Newest.{IsNewestRecipe}
use Rattle.bd_store.specs.Taken.{CountsVersion, Source, TakesAtStops, TakesIfNamed, TakesNothing, TakesStream, TakesVersion, parts}
use Rattle.bd_store.specs.declared.fault.StoreFault.{StoreFault}

-- there is one newest recipe
pub newest_same : {found : Found} {image : List ℕ} {a b : List RecipeEntry} → IsNewestRecipe found image a → IsNewestRecipe found image b → a ≡ b
newest_same {found} {image} {a} {b} one other =
    ⊎_elim
    (λ few. let none : retained_in found.catalogue ≡ 0 = omega arith in one.none none ∙ sym (other.none none))
    (λ some. let same : Ok a ≡ Ok b = sym (one.some some) ∙ other.some some in cc)
    (cases_lt (retained_in found.catalogue) 1)

-- a commit leaves what the extents hold
pub holds_committed : (found : Found) {old : List RecipeEntry} {v : ℕ} {parts : List (List ℕ)} {staged : Staged} {before after : List ℕ} → found.half.number ≤ 1 → AgreeBut (InOtherHalf found) before after →
    HoldsVersion found.sizes old v parts staged before → HoldsVersion found.sizes old v parts staged after
holds_committed found {before = before} {after = after} small elsewhere holds = record {
  recipe = begin_with_agrees found.sizes _ _ before after (apart _) holds.recipe;
  fresh = begin_with_agrees found.sizes _ _ before after (apart _) holds.fresh;
} where
  apart : (extents : List ℕ) → Agree (InExtents found.sizes extents) before after
  apart extents = agree_fewer _ (InExtents found.sizes extents) before after (λ place owned written. front_apart found.sizes extents place (half_front found.sizes (1 - found.half.number) place (omega (arith, small)) written) owned) elsewhere

-- an image that opens with these versions names no next one
pub unnamed : (s : Source) (image : List ℕ) → OpensWith s.found image → TakesIfNamed s image
unnamed s image is next opens names =
    let one : is.again ≡ next = found_once image is.again next is.opens opens in
    absurd (omega (arith, names, ap (λ (f : Found). f.catalogue.newest) one, ap (λ c. c.newest) is.same.catalogue))

-- so does one that an arranging left
pub unnamed_so_far : {held : ℕ} {before : List ℕ} (s : Source) (image : List ℕ) → OpensSoFar held s.found before image → TakesIfNamed s image
unnamed_so_far s image is next opens names =
    let one : is.ready ≡ next = found_once image is.ready next is.opens opens in
    let same : is.ready.catalogue.newest ≡ s.found.catalogue.newest = ⊎_elim (λ as_found. ap (λ c. c.newest) as_found.catalogue) (λ arranged. ap (λ c. c.newest) arranged.catalogue) is.so in
    absurd (omega (arith, names, ap (λ (f : Found). f.catalogue.newest) one, same))

-- a source that wasn't taken in
pub takes_nothing : {a : Attempt} {name : List ℕ} {result : Result Answer StoreFault} → ((s : Source) → TakesStream s a.after.store.found (contents a.after.world.disk) result) → TakesNothing result →
    ((old : List RecipeEntry) (stream : List ℕ) → TakesAtStops (source_before a old stream) a.before.world.disk a.after.world.disk) → TakesSource a name result
takes_nothing every nothing stops = record { taken = λ old stream newest there. every _; stops = λ old stream newest there. stops old stream; missing = λ lacks. nothing }

-- where nothing was touched
pub takes_untouched : (s : Source) (h : History) → TakesAtStops s h h
takes_untouched s h sure = leaves_same refl (record { each = λ image now. unnamed s image (sure.each image now) })

-- ---- behind what settled the store

settled_first : {a b c : Found} → IsSettledFrom a b → IsSettledFrom b c → IsSettledFrom a c
settled_first first second = record {
  sizes = second.sizes ∙ first.sizes;
  phase = second.phase;
  base = second.base ∙ first.base;
  newest = second.newest ∙ first.newest;
  versions = second.versions ∙ first.versions;
}

module _ (found mid : Found) (settled : IsSettledFrom found mid) (held : ℕ) (old : List RecipeEntry) (stream : List ℕ) where
  abbrev of : Found → Source
  of f = record { found = f; held = held; old = old; stream = stream }

  pub taken_before : {answer : Answer} {after : Found} {image : List ℕ} → TakesVersion (of mid) answer after image → TakesVersion (of found) answer after image
  taken_before {answer} {after} {image} is = record {
    ready = is.ready;
    settled = settled_first settled is.settled;
    free = is.free;
    room = is.room;
    staged = is.staged;
    version = subst (λ s. IsVersion s old (found.catalogue.newest + 1) stream (chunks (cut_in s) stream) is.free is.staged) settled.sizes
        (subst (λ n. IsVersion mid.sizes old (n + 1) stream (parts (of mid)) is.free is.staged) settled.newest is.version);
    figures = is.figures ∙ (λ k. BackedUp (settled.newest k + 1) is.staged.version.length is.staged.version.chunks is.staged.version.fresh is.staged.need);
    named = is.named;
    holds = subst (λ s. HoldsVersion s old (found.catalogue.newest + 1) (chunks (cut_in s) stream) is.staged image) settled.sizes
        (subst (λ n. HoldsVersion mid.sizes old (n + 1) (parts (of mid)) is.staged image) settled.newest is.holds);
  }

  pub named_before : (image : List ℕ) → TakesIfNamed (of mid) image → TakesIfNamed (of found) image
  named_before image takes next opens names =
      let is = takes next opens (omega (arith, names, settled.newest)) in
      (is.0, taken_before is.1)

  pub counted_before : {counted free : ℕ} → CountsVersion (of mid) counted free → CountsVersion (of found) counted free
  counted_before {counted} {free} is = record {
    fewer = is.fewer;
    counts = is.counts ∙ (λ k. counted_of (settled.sizes k).extent old (entries_of_chunks old (settled.newest k + 1) (chunks (cut_in (settled.sizes k)) stream)) free);
  }
