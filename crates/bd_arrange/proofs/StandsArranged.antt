-- An arranged store stands for what it stood for, settled.
use Rattle.std.proofs.Common.{◌≡◌, ℕ, ◌+◌, ◌-◌, ◌<◌, ◌≤◌, ◌&&◌, List, ◌++◌, length, map, refl, sym, ◌∙◌, ap, subst, arith, nat_le, nat_lt}
use Rattle.std.specs.Prelude.{IsTrue, Ok}
use Rattle.std.proofs.lemmas.Bool.{leb-true, ltb-true}
use Rattle.std.proofs.lemmas.List.{length-take}
use Rattle.bd_disk.specs.Images.{Agree}
use Rattle.bd_model.specs.Category.{begins, lasts}
use Rattle.bd_model.specs.Chunks.{numbers}
use Rattle.bd_model.specs.History.{VersionHistory, contains, newest, version}
use Rattle.bd_model.specs.Laws.{before, grown}
use Rattle.bd_model.specs.Layout.{arranged_to, open_category}
use Rattle.bd_model.specs.Marks.{Distinct, Near, mark}
use Rattle.bd_model.specs.Recipe.{has_mark, recipe}
use Rattle.bd_model.specs.Room.{reserve_left}
use Rattle.bd_model.specs.Sizes.{Sizes, sizes_of}
use Rattle.bd_model.specs.State.{VersionState, history}
use Rattle.bd_model.specs.declared.layout.Phase.{Phase}
use Rattle.bd_model.specs.declared.layout.Phase.TheVariants.{Settled, Waiting}
use Rattle.bd_model.specs.declared.layout.RecipeEntry.{RecipeEntry}
use Rattle.bd_model.specs.declared.shape.Shape.{Shape}
use Rattle.bd_model.proofs.ChunkListLemmas.{contains-filter_distinct}
use Rattle.bd_model.proofs.HistoryLemmas.{newest-grown, version-grown, version-newest}
use Rattle.bd_model.proofs.LawLemmas.{closed_volumes_grow}
use Rattle.bd_model.proofs.ListLemmas.{left_and, right_and}
use Rattle.bd_model.proofs.MarkLemmas.{marks_tell_chunks_apart}
use Rattle.bd_model.proofs.StepLemmas.{backups_grow_the_history}
use Rattle.bd_roll.specs.Catalogue.{Catalogue, all_extents}
use Rattle.bd_catalog.specs.Opening.{Found, opened}
use Rattle.bd_catalog.specs.Rows.{open_row}
use Rattle.bd_roll.specs.Rules.{obeys, phase_holds}
use Rattle.bd_roll.specs.Splitting.{AreSplits, SplitEntry, after_splits, kept_of}
use Rattle.bd_catalog.specs.Standing.{HasActives, HasNumbers, HasReserve, HasVolumes, StandsFor}
use Rattle.bd_roll.proofs.RuleLemmas.{bounded_of}
use Rattle.bd_roll.proofs.SplitsAsOne.{may_splits, one_arranging}
use Rattle.bd_catalog.proofs.StandingLemmas.{Shows, stands-shows, stands_by_parts}
use Rattle.bd_catalog.proofs.StandingFound.{numbers-each, obeys-each, opened-found}
use Rattle.bd_catalog.proofs.StandingOwned.{owned-stands}
use Rattle.bd_recipe.specs.Reading.{recipe_found}
use Rattle.bd_recipe.proofs.StandingRecipe.{recipe-found, version-bounded}
use Rattle.bd_volume.specs.Holding.{HoldsRows, groups_over}
use Rattle.bd_volume.specs.Named.{InNamed}
use Rattle.bd_volume.proofs.Held.{layout_held}
use Rattle.bd_volume.proofs.NamedPlaces.{named_agrees}
use Rattle.bd_volume.proofs.StoredChunks.{Bounded}
use Rattle.bd_arrange.specs.Arranged.{AnArrangedStoreStands, arranged_catalogue}
use Rattle.bd_arrange.specs.Turns.{AreArranged, ground}
use Rattle.bd_arrange.proofs.AllTurns.{AreWaiting}
use Rattle.bd_arrange.proofs.Moved.{splits_ascend}
use Rattle.bd_arrange.proofs.SettledLayout.{actives_settle, reserve_settles, volumes_settle}

-- an open category has chunks of the version that it begins with
open_bounded : (shape : Shape) (st : VersionState) (phase : Phase) (i : ℕ) → Bounded (sizes_of shape) (open_category (history shape st) phase i)
open_bounded shape st phase i x has =
    let h = history shape st in
    let lives = λ (c : List ℕ). begins h i c && lasts h i (arranged_to h phase i) c in
    version-bounded shape st i x (left_and (contains (version h i) x) (lives x) (sym (contains-filter_distinct lives (version h i) x) ∙ has))

-- the phase has a version before the newest, and a start that there may be
record Waited (c : Catalogue) (cursor : ℕ) : Type 0 where
  two : 2 ≤ length c.versions
  low : c.base < cursor
  high : cursor ≤ c.newest

waited : (c : Catalogue) (cursor : ℕ) → IsTrue (phase_holds c (Waiting cursor)) → Waited c cursor
waited c cursor holds =
    let two = nat_le 2 (length c.versions) in
    let above = nat_lt c.base cursor in
    let below = nat_le cursor c.newest in record {
      two = leb-true 2 (length c.versions) (left_and two above (left_and (two && above) below holds));
      low = ltb-true c.base cursor (right_and two above (left_and (two && above) below holds));
      high = leb-true cursor c.newest (right_and (two && above) below holds);
    }

module _ (shape : Shape) (st : VersionState) (held free cursor : ℕ) (old new : List ℕ) (found after : Found) (entries : List RecipeEntry) (es : List SplitEntry) (near : Near (history shape st)) (stands : StandsFor shape st (Waiting cursor) held old)
    (opens : opened old ≡ Ok found) (read : recipe_found found.sizes found.catalogue old found.catalogue.newest ≡ Ok entries) where
  abbrev s : Sizes
  s = sizes_of shape

  abbrev c : Catalogue
  c = found.catalogue

  -- the history, and what it was before its newest version
  abbrev all : VersionHistory
  all = history shape st

  abbrev h : VersionHistory
  h = before all

  abbrev w : List (List ℕ)
  w = version all (newest all)

  shows : Shows shape st (Waiting cursor) held found old
  shows = stands-shows stands opens

  rules : IsTrue (obeys s c)
  rules = subst (λ t. IsTrue (obeys t c)) shows.sizes (opened-found old found opens).obeys

  waits : Waited c cursor
  waits = waited c cursor (subst (λ p. IsTrue (phase_holds c p)) shows.at_phase (obeys-each s c rules).phase)

  grew : all ≡ grown h w
  grew = backups_grow_the_history.grew all (omega (arith, waits.two, shows.numbers.retained))

  some : h.expired < length h.versions
  some = omega (arith, waits.two, shows.numbers.retained, length-take (length all.versions - 1) all.versions)

  last : newest all ≡ newest h + 1
  last = ap newest grew ∙ newest-grown h w

  apart : Distinct (version h (newest h) ++ w)
  apart =
      subst Distinct
      ((λ k. version (grew k) (newest h) ++ version (grew k) (newest h + 1))
      ∙ (λ k. version-grown h w (newest h) (omega arith) k ++ version-newest h w k))
      (near (newest h))

  entries_are : entries ≡ recipe (grown h w) (newest h + 1)
  entries_are =
      let small = (numbers-each s c (obeys-each s c rules).numbers).small in
      let full : recipe_found s c old (newest all) ≡ Ok (recipe all (newest all)) =
      recipe-found shape st (newest all) c old (omega (arith, waits.two, shows.numbers.retained)) (omega arith) shows.numbers shows.versions (omega (arith, waits.two, shows.numbers.retained)) small in
      let same : Ok entries ≡ Ok (recipe all (newest all)) = sym read ∙ (λ k. recipe_found (shows.sizes k) c old (shows.numbers.newest k)) ∙ full in
      let are : entries ≡ recipe all (newest all) = cc in
      are ∙ (λ k. recipe (grew k) (last k))

  are : AreWaiting s h w entries cursor (open_category (grown h w) (Waiting cursor))
  are = record {
    sizes = bounded_of shape;
    some = some;
    low = omega (arith, waits.low, shows.numbers.base);
    as_before = λ i from to. closed_volumes_grow.waiting h w cursor i from to;
    bounded = λ i from to. subst (λ x. Bounded s (open_category x (Waiting cursor) i)) grew (open_bounded shape st (Waiting cursor) i);
    told = λ i x to has. subst (λ xs. has_mark xs (mark x) ≡ contains w x) (sym entries_are) (marks_tell_chunks_apart.is_used h w i x to apart has);
  }

  high : cursor ≤ newest h + 1
  high = omega (arith, waits.high, shows.numbers.newest, last)

  held_rows : HoldsRows s old (map open_row c.actives) (groups_over (open_category (grown h w) (Waiting cursor)) (numbers (h.base + 1) (newest (grown h w))))
  held_rows = subst (λ (x : VersionHistory). HoldsRows s old (map open_row c.actives) (groups_over (open_category x (Waiting cursor)) (numbers (x.base + 1) (newest x)))) grew
      (layout_held shape st (Waiting cursor) held old found stands opens).actives

  module _ (free_is : free ≡ found.sizes.extents - held - length (all_extents c)) (arranged : AreArranged (ground found.sizes entries old) new free c es) (agree : Agree (InNamed found.sizes c) old new) where
    now_shows : Shows shape st (Waiting cursor) held found new
    now_shows = let is = opened-found old found opens in named_agrees is.obeys is.room agree shows

    numbered : HasNumbers (grown h w) c
    numbered = subst (λ x. HasNumbers x c) grew shows.numbers

    volumes_old : HasVolumes s (grown h w) (Waiting cursor) c old
    volumes_old = subst (λ x. HasVolumes s x (Waiting cursor) c old) grew shows.volumes

    volumes_now : HasVolumes s (grown h w) (Waiting cursor) c new
    volumes_now = subst (λ x. HasVolumes s x (Waiting cursor) c new) grew now_shows.volumes

    actives_now : HasActives s (grown h w) (Waiting cursor) c new
    actives_now = subst (λ x. HasActives s x (Waiting cursor) c new) grew now_shows.actives

    turned : AreArranged (ground s entries old) new free c es
    turned = subst (λ t. AreArranged (ground t entries old) new free c es) shows.sizes arranged

    reserved : reserve_left s.extent (grown h w) (Waiting cursor) ≤ free
    reserved = subst (λ x. reserve_left s.extent x (Waiting cursor) ≤ free) grew (omega (arith, free_is, shows.reserve.fits, owned-stands stands opens, ap (λ (t : Sizes). t.extents) shows.sizes))

    abbrev settled : Catalogue
    settled = record (after_splits c es) { phase = Settled }

    splits : AreSplits (map kept_of es) c.actives
    splits = may_splits s c es rules turned.may (splits_ascend (ground s entries old) new free c es rules turned.turns)

    one : arranged_catalogue c es ≡ settled
    one = one_arranging c es splits

    volumes_after : HasVolumes s all Settled (arranged_catalogue c es) new
    volumes_after =
        subst (λ x. HasVolumes s x Settled (arranged_catalogue c es) new) (sym grew)
        (subst (λ d. HasVolumes s (grown h w) Settled d new) (sym one)
        (volumes_settle s h w entries old new c cursor are high numbered rules shows.at_phase volumes_old volumes_now actives_now held_rows free es reserved turned))

    actives_after : HasActives s all Settled (arranged_catalogue c es) new
    actives_after =
        subst (λ x. HasActives s x Settled (arranged_catalogue c es) new) (sym grew)
        (subst (λ d. HasActives s (grown h w) Settled d new) (sym one)
        (actives_settle s h w entries old new c cursor are high numbered rules shows.at_phase volumes_old volumes_now actives_now held_rows free es reserved turned))

    reserve_after : HasReserve s all Settled held
    reserve_after =
        subst (λ x. HasReserve s x Settled held) (sym grew)
        (reserve_settles s h w entries old new c cursor are high numbered rules shows.at_phase volumes_old volumes_now actives_now held_rows held
        (subst (λ x. HasReserve s x (Waiting cursor) held) grew shows.reserve))

    stands_after : opened new ≡ Ok after → after.sizes ≡ found.sizes → after.catalogue ≡ arranged_catalogue c es → StandsFor shape st Settled held new
    stands_after opens_new sizes catalogue =
        stands_by_parts shape st Settled held new after (arranged_catalogue c es) stands.state opens_new (sizes ∙ shows.sizes) catalogue refl
        (record { base = shows.numbers.base; newest = shows.numbers.newest; retained = shows.numbers.retained })
        (record { lines = now_shows.versions.lines; recipes = now_shows.versions.recipes })
        volumes_after actives_after reserve_after

pub arranged_store_stands : AnArrangedStoreStands
arranged_store_stands shape st phase held old new found after near stands opens waits opens_new made agree = at phase stands where
  free : ℕ
  free = found.sizes.extents - held - length (all_extents found.catalogue)

  at : (p : Phase) → StandsFor shape st p held old → StandsFor shape st Settled held new
  at Settled settled = absurd (waits (stands-shows settled opens).at_phase)
  at (Waiting cursor) waiting =
      stands_after shape st held free cursor old new found after made.entries made.splits near waiting opens made.newest refl made.turns agree opens_new made.sizes made.catalogue
