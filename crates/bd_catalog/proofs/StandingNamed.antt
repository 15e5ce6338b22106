-- A backup into a settled store, whatever it retains: written beside all that is named, and then named by a commit.
use Rattle.std.proofs.Common.{◌≡◌, ⊎_elim, ℕ, ◌+◌, ◌-◌, ◌<◌, ◌≤◌, false, cond, List, [], length, sym, ◌∙◌, ap, subst, arith, nat_eq, eq-eqb, Some}
use Rattle.std.specs.Prelude.{Ok, IsTrue}
use Rattle.std.specs.FinMap as map
use Rattle.std.proofs.lemmas.Bool.{cases_lt, ne_eqb}
use Rattle.bd_disk.specs.Images.{AgreeBut}
use Rattle.bd_disk.proofs.AgreeLemmas.{agree_fewer}
use Rattle.bd_model.specs.FileMap.{FileMap}
use Rattle.bd_model.specs.declared.answer.Answer.TheVariants.{BackedUp}
use Rattle.bd_model.specs.declared.command.Command.TheVariants.{Backup}
use Rattle.bd_model.specs.declared.layout.Phase.{Phase}
use Rattle.bd_model.specs.declared.layout.Phase.TheVariants.{Settled}
use Rattle.bd_model.specs.declared.shape.Shape.{Shape}
use Rattle.bd_model.specs.Chunks.{chunks}
use Rattle.bd_model.specs.History.{VersionHistory, newest, retained}
use Rattle.bd_model.specs.Laws.{grown}
use Rattle.bd_model.specs.Recipe.{recipe}
use Rattle.bd_model.specs.Records.{records_of, spelled_recipe}
use Rattle.bd_model.specs.Room.{counted, fresh, need}
use Rattle.bd_model.specs.Sizes.{Sizes, sizes_of}
use Rattle.bd_model.specs.State.{VersionState, cut_of, history, last_number}
use Rattle.bd_model.specs.Step.{free_extents}
use Rattle.bd_gate.specs.Halves.{InHalves}
use Rattle.bd_gate.proofs.Kept.{within_halves}
use Rattle.bd_roll.specs.Catalogue.{Catalogue, VersionEntry, OpenEntry, all_extents, retained_in}
use Rattle.bd_roll.specs.Growing.{after_backup, entry_for, own_category, with_entries}
use Rattle.bd_catalog.specs.Opening.{Found, opened}
use Rattle.bd_roll.specs.Rules.{obeys}
use Rattle.bd_catalog.specs.Standing.{BeginWith, StandsFor}
use Rattle.bd_catalog.specs.Steps.{HasCommitted}
use Rattle.bd_catalog.proofs.AgreeLemmas.{begin_with_agrees}
use Rattle.bd_catalog.proofs.StandingLemmas.{halves_agree, stands-shows}
use Rattle.bd_catalog.proofs.StandingAnswers.{IsAnswered, backup_answered}
use Rattle.bd_catalog.proofs.StandingBackup.{backup_catalogue, first_catalogue, next_catalogue}
use Rattle.bd_catalog.proofs.StandingFound.{nothing-else, obeys-each, opened-found}

-- ---- when a store is settled

-- an image stands at the phase of its catalogue
pub stands_settled : {shape : Shape} {st : VersionState} {phase : Phase} {held : ℕ} {image : List ℕ} {found : Found} → StandsFor shape st phase held image → opened image ≡ Ok found → found.catalogue.phase ≡ Settled →
    StandsFor shape st Settled held image
stands_settled {shape} {st} {phase} {held} {image} stands opens settled = subst (λ p. StandsFor shape st p held image) (sym (stands-shows stands opens).at_phase ∙ settled) stands

-- ---- the catalogue after a backup

-- nothing else stands in a catalogue that retains nothing, so that the first version's has nothing but that version
pub after_backup-is : (s : Sizes) (c : Catalogue) (stream : List ℕ) (parts begun : List (List ℕ)) (xs ys : List ℕ) → IsTrue (obeys s c) →
    after_backup c (entry_for stream parts begun xs) (own_category (c.newest + 1) begun ys) ≡ backup_catalogue c stream parts begun xs ys
after_backup-is s c stream parts begun xs ys rules =
    let entry : VersionEntry = entry_for stream parts begun xs in
    let own : List OpenEntry = own_category (c.newest + 1) begun ys in
    let next : Catalogue = next_catalogue c stream parts begun xs ys in
    ⊎_elim
    (λ few.
    let none : retained_in c ≡ 0 = omega arith in
    ap (λ t. cond t (with_entries c Settled entry [] own) next) (eq-eqb (retained_in c) 0 none)
    ∙ ap (λ (d : Catalogue). with_entries d Settled entry [] (own_category (d.newest + 1) begun ys)) (nothing-else s c (obeys-each s c rules) none)
    ∙ sym (ap (λ t. cond t (first_catalogue c.base stream parts begun xs ys) next) (eq-eqb (retained_in c) 0 none)))
    (λ some.
    let other : nat_eq (retained_in c) 0 ≡ false = ne_eqb (retained_in c) 0 (λ e. absurd (omega arith)) in
    ap (λ t. cond t (with_entries c Settled entry [] own) next) other ∙ sym (ap (λ t. cond t (first_catalogue c.base stream parts begun xs ys) next) other))
    (cases_lt (retained_in c) 1)

-- ---- the answer

-- The image after the commit that names it is the one of the backup's step. The extents `xs` and `ys` began with its recipe
-- and its fresh chunks before.
pub backup_named : (shape : Shape) (held : ℕ) (st : VersionState) (files : FileMap) (name stream xs ys old new : List ℕ) (before after : Found) →
    let s : Sizes = sizes_of shape in
    let h : VersionHistory = history shape st in
    let w : List (List ℕ) = chunks (cut_of shape) stream in
    let free : ℕ = free_extents shape held st in
    StandsFor shape st Settled held old → opened old ≡ Ok before →
    newest h < last_number → retained h < shape.retain → map.get files name ≡ Some stream → counted shape.extent h w free ≤ free →
    BeginWith s xs (spelled_recipe (recipe (grown h w) (newest h + 1))) old → BeginWith s ys (records_of (fresh h w)) old →
    HasCommitted before after old new → after.sizes ≡ before.sizes →
    after.catalogue ≡ after_backup before.catalogue (entry_for stream w (fresh h w) xs) (own_category (before.catalogue.newest + 1) (fresh h w) ys) →
    IsAnswered shape held st Settled files (Backup name) (BackedUp (newest h + 1) (length stream) (length w) (length (fresh h w)) (need shape.extent h w)) new files
backup_named shape held st files name stream xs ys old new before after stands opens below fewer there few recipe_there records_there made sizes catalogue =
    let s : Sizes = sizes_of shape in
    let h : VersionHistory = history shape st in
    let w : List (List ℕ) = chunks (cut_of shape) stream in
    let same : before.sizes ≡ s = (stands-shows stands opens).sizes in
    let halves : AgreeBut (InHalves before.sizes) old new =
    agree_fewer _ _ old new (λ place out inside. out (within_halves before.sizes (1 - before.half.number) place (omega arith) inside)) made.elsewhere in
    let kept : (extents bytes : List ℕ) → BeginWith s extents bytes old → BeginWith s extents bytes new =
    λ extents bytes begins. begin_with_agrees s extents bytes old new (halves_agree s extents old new (subst (λ t. AgreeBut (InHalves t) old new) same halves)) begins in
    backup_answered shape held st files name stream xs ys old new before after stands opens below fewer there few
    (halves_agree before.sizes (all_extents before.catalogue) old new halves)
    made.opens (sizes ∙ same) (catalogue ∙ after_backup-is before.sizes before.catalogue stream w (fresh h w) xs ys (opened-found old before opens).obeys)
    (kept xs _ recipe_there) (kept ys _ records_there)
