-- One stretch, moved to its side.
use Rattle.std.proofs.Common.{◌≡◌, inl, inr, ℕ, zero, suc, ◌+◌, ◌*◌, ◌<◌, ◌≤◌, true, false, not, List, ◌++◌, length, take, refl, sym, ◌∙◌, ap, subst, arith, length-take, length-append, append-nil}
use Rattle.std.specs.Prelude.{All, Result, Ok, Err, OnOk, IfErr}
use Rattle.bd_disk.specs.History.{contents}
use Rattle.bd_disk.specs.Images.{overwritten}
use Rattle.bd_disk.specs.Runs.{Works}
use Rattle.bd_disk.specs.declared.disk.Disk.{Ghosts}
use Rattle.bd_disk.proofs.RunLemmas.{work_written}
use Rattle.bd_model.specs.Extents.{owner_bytes}
use Rattle.bd_model.specs.Sizes.{Sizes, disk_bytes}
use Rattle.bd_model.proofs.RoomLemmas.{up-enough}
use Rattle.bd_extio.specs.Owned.{Overwrites}
use Rattle.bd_extio.specs.Ranges.{InOwner}
use Rattle.bd_extio.proofs.Places.{length-owner_bytes}
use Rattle.bd_space.specs.Allotment.{Allotment}
use Rattle.bd_roll.specs.Catalogue.{bytes_of_rows}
use Rattle.bd_catalog.specs.Standing.{BeginWith}
use Rattle.bd_catalog.proofs.AgreeLemmas.{begin_with_more}
use Rattle.bd_volume.specs.Copies.{AreApart, bytes_on, InSection}
use Rattle.bd_volume.specs.Filled.{Filled}
use Rattle.bd_volume.specs.Growing.{AddsExtents, AppendsFrom, CanGrow, IsSource, KeepsRows, MovesSection, records_on, rows_after}
use Rattle.bd_volume.specs.declared.append.Records.{Records}
use Rattle.bd_volume.specs.declared.fault.AppendFault.{AppendFault}
use Rattle.bd_volume.specs.declared.fault.AppendFault.TheVariants.{DiskFault, OutOfMemory}
use Rattle.bd_volume.proofs.CopyLemmas.{length-section, no_work, other_stays, wider_work}
use Rattle.bd_volume.proofs.RowsMore.{bytes-rows_more}
use Rattle.bd_volume.proofs.GrownExtents.{still_apart}
use Rattle.bd_arrange.specs.Moving.{InMoved, IsPlaceForKept, MovesOne, bytes_if, rows_then, share}
use Rattle.bd_arrange.specs.declared.moving.Target.{Target}
use Rattle.bd_arrange.proofs.InGrown.{in_added}

pub apart_back : (one other : List ℕ) → AreApart one other → AreApart other one
apart_back one other apart = record { each = λ n there here. apart.each n here there }

pub rows_then-some : (f : Filled) (start n bytes : ℕ) → 1 ≤ n → rows_then f start n bytes ≡ rows_after f start n bytes
rows_then-some f start zero bytes some = absurd (omega (arith, some))
rows_then-some f start (suc n) bytes some = refl

-- what is written behind the first bytes follows them
pub behind_first : (s : Sizes) (extents : List ℕ) → 1 ≤ s.extent → (at : ℕ) (bytes old new : List ℕ) → at + length bytes ≤ length (owner_bytes s extents old) →
    owner_bytes s extents new ≡ overwritten (owner_bytes s extents old) at bytes → take (at + length bytes) (owner_bytes s extents new) ≡ take at (owner_bytes s extents old) ++ bytes
behind_first s extents some at bytes old new fits written =
    let owner = owner_bytes s extents old in
    let first = take at owner in
    let sized : length first ≡ at = omega (arith, length-take at owner, fits) in
    let begins : BeginWith s extents first old = record { front = ap (λ n. take n owner) sized } in
    let both = begin_with_more s extents first bytes old new begins (omega (arith, sized, fits)) (written ∙ ap (λ n. overwritten owner n bytes) (sym sized)) in
    let total : at + length bytes ≡ length (first ++ bytes) = omega (arith, length-append first bytes, sized) in
    ap (λ n. take n (owner_bytes s extents new)) total ∙ both.front

module _ {D : Type 0} (g : Ghosts D) (sized : g.tells → (disk : D) → length (contents (g.history disk)) ≡ g.bytes disk) (s : Sizes) (some : 1 ≤ s.extent) (a b : D) (room : disk_bytes s ≤ g.bytes a)
    (moved : Records) (target : Target) (space : Allotment) (f : Filled) (grows : CanGrow s space f) (source : IsSource s space f moved.from) (is : IsPlaceForKept s space f moved.from target) where
  abbrev n : ℕ
  n = moved.from.bytes

  wide : g.tells → disk_bytes s ≤ length (contents (g.history a))
  wide told = omega (arith, sized told a, room)

  -- it is kept
  module _ (k : target.kept ≡ true) where
    here : target.at + n ≤ length target.extents.now * s.extent
    here = subst (λ t. target.at + share t n ≤ length target.extents.now * s.extent) k is.room

    pub works_kept : Works g (InSection s moved.from) (InOwner s target.extents.now target.at n) a b →
        Works g (InSection s moved.from) (InMoved s space f target.extents.now target.at (share target.kept n)) a b
    works_kept works = subst (λ t. Works g (InSection s moved.from) (InMoved s space f target.extents.now target.at (share t n)) a b) (sym k) (wider_work _ _ (λ place r. r) (λ place r. inl r) works)

    pub moves_kept : Works g (InSection s moved.from) (InOwner s target.extents.now target.at n) a b → Overwrites g s target.extents.now target.at (bytes_on g s moved.from a) a b →
        (g.tells → All (λ x. x < 256) (bytes_on g s moved.from a)) → MovesOne g s space f f moved target a b
    moves_kept works copied bytes = record {
      rows = subst (λ t. f.rows ≡ rows_then f moved.start (share (not t) moved.chunks) (share (not t) n)) (sym k) refl;
      grows = grows;
      kept = λ told.
          let written = bytes_on g s moved.from a in
          let image = contents (g.history a) in
          let long : length written ≡ n = length-section s moved.from image some (wide told) source.lies in
          let owner : length (owner_bytes s target.extents.now image) ≡ length target.extents.now * s.extent = length-owner_bytes s target.extents.now some is.extents.below image (wide told) in
          let total : target.at + n ≡ target.at + length written = omega (arith, long) in
          subst (λ t. take (target.at + share t n) (owner_bytes s target.extents.now (contents (g.history b))) ≡ take target.at (owner_bytes s target.extents.now image) ++ bytes_if t written) (sym k)
          (ap (λ m. take m (owner_bytes s target.extents.now (contents (g.history b)))) total
          ∙ behind_first s target.extents.now some target.at written image (contents (g.history b)) (omega (arith, long, owner, here)) (copied told));
      archived = λ told. subst (λ t. records_on g s f b ≡ records_on g s f a ++ bytes_if (not t) (bytes_on g s moved.from a)) (sym k)
          (ap (take (bytes_of_rows f.rows)) (other_stays s f.numbers target.extents.now some target.at n here (apart_back target.extents.now f.numbers is.apart) (work_written works told))
          ∙ sym (append-nil (records_on g s f a)));
      source = λ told. other_stays s moved.from.extents.now target.extents.now some target.at n here is.source (work_written works told);
      bytes = bytes;
    }

  -- it goes to the volume
  module _ (k : target.kept ≡ false) (space_now : Allotment) (new : Filled) (adds : AddsExtents space space_now f new) (works : MovesSection g s f new moved.from a b) where
    pub works_behind : (total : ℕ) → n ≤ total → bytes_of_rows f.rows + total ≤ length new.numbers * s.extent → Works g (InSection s moved.from) (InMoved s space f target.extents.now target.at (share target.kept n)) a b
    works_behind total le fits = wider_work _ _ (λ place r. r) (λ place r. inr (in_added s some space space_now f new (bytes_of_rows f.rows) n place adds (omega arith) (omega (arith, fits, le)) r)) works

    pub works_archived : (result : Result (Unit {0}) AppendFault) → (result ≡ Err OutOfMemory → b ≡ a) → IfErr result (KeepsRows s space_now f new n) → OnOk result (CanGrow s space_now new) →
        OnOk result (new.rows ≡ rows_after f moved.start moved.chunks n) → Works g (InSection s moved.from) (InMoved s space f target.extents.now target.at (share target.kept n)) a b
    works_archived (Ok value) same refused grown rows =
        let total : bytes_of_rows new.rows ≡ bytes_of_rows f.rows + n = ap bytes_of_rows rows ∙ bytes-rows_more _ moved.chunks n f.rows in
        works_behind n (omega arith) (omega (arith, total, up-enough s.extent (bytes_of_rows new.rows) (length new.numbers) some grown.extents.sized))
    works_archived (Err DiskFault) same refused grown rows =
        works_behind n (omega arith) (up-enough s.extent (bytes_of_rows f.rows + n) (length new.numbers) some refused.1.sized)
    works_archived (Err OutOfMemory) same refused grown rows = subst (λ disk. Works g (InSection s moved.from) (InMoved s space f target.extents.now target.at (share target.kept n)) a disk) (sym (same refl)) no_work

    pub moves_archived : 1 ≤ moved.chunks → new.rows ≡ rows_after f moved.start moved.chunks n → CanGrow s space_now new → AppendsFrom g s f new moved.from a b →
        (g.tells → All (λ x. x < 256) (bytes_on g s moved.from a)) → MovesOne g s space_now f new moved target a b
    moves_archived one rows grown appends bytes =
        let total : bytes_of_rows new.rows ≡ bytes_of_rows f.rows + n = ap bytes_of_rows rows ∙ bytes-rows_more _ moved.chunks n f.rows in
        let fits : bytes_of_rows f.rows + n ≤ length new.numbers * s.extent = omega (arith, total, up-enough s.extent (bytes_of_rows new.rows) (length new.numbers) some grown.extents.sized) in
        let stays = λ (numbers : List ℕ) (apart : AreApart numbers new.numbers) (told : g.tells). other_stays s numbers new.numbers some (bytes_of_rows f.rows) n fits apart (work_written works told) in
        let at : target.at + 0 ≡ target.at = omega arith in
        record {
          rows = subst (λ t. new.rows ≡ rows_then f moved.start (share (not t) moved.chunks) (share (not t) n)) (sym k) (rows ∙ sym (rows_then-some f moved.start moved.chunks n one));
          grows = grown;
          kept = λ told.
              subst (λ t. take (target.at + share t n) (owner_bytes s target.extents.now (contents (g.history b))) ≡ take target.at (owner_bytes s target.extents.now (contents (g.history a))) ++ bytes_if t (bytes_on g s moved.from a)) (sym k)
              (ap (λ m. take m (owner_bytes s target.extents.now (contents (g.history b)))) at
              ∙ ap (take target.at) (stays target.extents.now (still_apart space space_now f new target.extents.now is.taken is.apart adds) told)
              ∙ sym (append-nil (take target.at (owner_bytes s target.extents.now (contents (g.history a))))));
          archived = λ told. subst (λ t. records_on g s new b ≡ records_on g s f a ++ bytes_if (not t) (bytes_on g s moved.from a)) (sym k) (appends told);
          source = λ told. stays moved.from.extents.now (still_apart space space_now f new moved.from.extents.now source.taken source.apart adds) told;
          bytes = bytes;
        }

    pub moves_on : 1 ≤ moved.chunks → (result : Result (Unit {0}) AppendFault) → OnOk result (new.rows ≡ rows_after f moved.start moved.chunks n) → OnOk result (CanGrow s space_now new) → OnOk result (AppendsFrom g s f new moved.from a b) →
        OnOk result (g.tells → All (λ x. x < 256) (bytes_on g s moved.from a)) → OnOk result (MovesOne g s space_now f new moved target a b)
    moves_on one (Ok value) rows grown appends bytes = moves_archived one rows grown appends bytes
    moves_on one (Err fault) rows grown appends bytes = tt
