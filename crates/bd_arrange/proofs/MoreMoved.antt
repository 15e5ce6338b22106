-- One stretch more, moved.
use Rattle.std.proofs.Common.{◌≡◌, ℕ, ◌+◌, ◌*◌, ◌<◌, ◌≤◌, Bool, true, false, not, List, [], ◌∷◌, ◌++◌, length, max, take, drop, get_or, refl, sym, ◌∙◌, ap, subst, arith, append_assoc, append-nil, length-append, take-append-drop}
use Rattle.std.specs.Prelude.{All}
use Rattle.std.proofs.Math.Seq.{take-add}
use Rattle.std.proofs.lemmas.List.{get_or_append_left, get_or_push, length_push, take_more}
use Rattle.std.proofs.lemmas.List.Elements.{All-append, All-nil, All-weaker}
use Rattle.bd_disk.specs.Runs.{Works}
use Rattle.bd_disk.specs.declared.disk.Disk.{Ghosts}
use Rattle.bd_disk.proofs.RunLemmas.{both_work}
use Rattle.bd_model.specs.Sizes.{Sizes}
use Rattle.bd_model.proofs.RoomLemmas.{up-le}
use Rattle.bd_extio.specs.Owned.{owned_on}
use Rattle.bd_extio.specs.Ranges.{InOwner}
use Rattle.bd_extio.proofs.Within.{in_wider}
use Rattle.bd_space.specs.Allotment.{Allotment, IsTaken}
use Rattle.bd_space.proofs.Uses.{taken_still}
use Rattle.bd_roll.specs.Catalogue.{bytes_of_rows}
use Rattle.bd_volume.specs.Copies.{InSection}
use Rattle.bd_volume.specs.Filled.{Filled}
use Rattle.bd_volume.specs.Growing.{AddsExtents, AreCounted, CanGrow, HasFreeFor, IsSource, NoneLater, records_on}
use Rattle.bd_volume.specs.declared.append.Records.{Records}
use Rattle.bd_volume.specs.declared.copy.Section.{Section}
use Rattle.bd_volume.proofs.CopyLemmas.{wider_work}
use Rattle.bd_volume.proofs.GrownExtents.{still_apart}
use Rattle.bd_arrange.specs.Cuts.{going}
use Rattle.bd_arrange.specs.Moving.{CanMove, InMoved, IsPlaceForKept, Moves, MovesOne, bytes_if, bytes_of, chunks_of, picked, rows_then, share}
use Rattle.bd_arrange.specs.declared.cut.Stretch.{Stretch}
use Rattle.bd_arrange.specs.declared.moving.Errand.{Errand}
use Rattle.bd_arrange.specs.declared.moving.Target.{Target}
use Rattle.bd_arrange.proofs.InGrown.{moved_before}
use Rattle.bd_arrange.proofs.Picked.{bytes-part, bytes-push, going-part, none_summed, picked-push, sum-going, summed_going}
use Rattle.bd_arrange.proofs.RowsThen.{rows_then-bytes, rows_then-order, rows_then-twice}

-- a list up to an item, with it, and behind it
pub split_item : (all : List Stretch) (i : ℕ) (d : Stretch) → i < length all → all ≡ (take i all ++ get_or all i d ∷ []) ++ drop (i + 1) all
split_item all i d lt = sym (take-append-drop (i + 1) all) ∙ ap (λ xs. xs ++ drop (i + 1) all) (take_more all i d lt)

-- A moment of the errand: these stretches were moved, the next one is there, and what was done so far is known.
pub record NextStretch {D : Type 0} (g : Ghosts D) (s : Sizes) (e : Errand) : Type 0 where
  pub some : 1 ≤ s.extent
  -- the space, the volume and the disk as the errand found them, and as they are
  pub space : Allotment
  pub mid : Allotment
  pub old : Filled
  pub filling : Filled
  pub a : D
  pub b : D
  pub can : CanMove s space old e
  -- the stretches that were moved, the next one, and those behind it
  pub xs : List Stretch
  pub x : Stretch
  pub more : List Stretch
  pub whole : e.stretches.now ≡ (xs ++ x ∷ []) ++ more
  pub adds : AddsExtents space mid old filling
  pub before : Moves g s e.start e.from.now e.to.now xs mid old filling a b
  -- the bytes that were moved, and those of them that were kept
  pub at : ℕ
  pub kept : ℕ
  pub is_at : at ≡ bytes_of xs
  pub is_kept : kept ≡ bytes_of (going true xs)

module _ {D : Type 0} {g : Ghosts D} {s : Sizes} {e : Errand} (w : NextStretch g s e) where
  abbrev now : List Stretch
  now = w.xs ++ w.x ∷ []

  all_counted : All (λ y. AreCounted s y.chunks y.bytes) (now ++ w.more)
  all_counted = subst (All (λ (y : Stretch). AreCounted s y.chunks y.bytes)) w.whole w.can.each

  counted_now : All (λ y. AreCounted s y.chunks y.bytes) now
  counted_now = λ k d lt. subst (λ (y : Stretch). AreCounted s y.chunks y.bytes) (front k d lt) (all_counted k d (omega (arith, lt, length-append now w.more)))
    where
      front : (k : ℕ) (d : Stretch) → k < length now → get_or (now ++ w.more) k d ≡ get_or now k d
      front k d lt = get_or_append_left now w.more d k lt

  counted_before : All (λ y. AreCounted s y.chunks y.bytes) w.xs
  counted_before = λ k d lt. subst (λ (y : Stretch). AreCounted s y.chunks y.bytes) (get_or_append_left w.xs (w.x ∷ []) d k lt) (counted_now k d (omega (arith, lt, length-append w.xs (w.x ∷ []))))

  pub counted_x : AreCounted s w.x.chunks w.x.bytes
  counted_x = subst (λ (y : Stretch). AreCounted s y.chunks y.bytes) (get_or_push w.xs w.x w.x (length w.xs) refl) (counted_now (length w.xs) w.x (omega (arith, length_push w.xs w.x)))

  abbrev gone : ℕ
  gone = bytes_of (going false w.xs)

  none_gone : chunks_of (going false w.xs) ≡ 0 → gone ≡ 0
  none_gone none = none_summed s (chunks_of (going false w.xs)) gone (summed_going s false w.xs counted_before) none

  mid_bytes : bytes_of_rows w.filling.rows ≡ bytes_of_rows w.old.rows + gone
  mid_bytes = ap bytes_of_rows w.before.rows ∙ rows_then-bytes w.old e.start (chunks_of (going false w.xs)) gone none_gone

  pub next_order : NoneLater w.old e.start → NoneLater w.filling e.start
  next_order order =
      let later : All (λ row. row.start ≤ max e.start w.old.oldest) w.filling.rows = subst (All (λ row. row.start ≤ max e.start w.old.oldest)) (sym w.before.rows) (rows_then-order w.old e.start (chunks_of (going false w.xs)) gone order) in
      subst (λ n. All (λ row. row.start ≤ max e.start n) w.filling.rows) (sym w.adds.oldest) later

  total_bytes : bytes_of w.xs + w.x.bytes ≤ bytes_of e.stretches.now
  total_bytes = omega (arith, bytes-push w.xs w.x, bytes-part now w.more, ap bytes_of w.whole)

  total_kept : bytes_of (going true w.xs) + share w.x.kept w.x.bytes ≤ bytes_of (going true e.stretches.now)
  total_kept = omega (arith, sum-going (λ (y : Stretch). y.bytes) true w.xs w.x, going-part true now w.more, ap (λ l. bytes_of (going true l)) w.whole)

  total_gone : gone + share (not w.x.kept) w.x.bytes ≤ bytes_of (going false e.stretches.now)
  total_gone = omega (arith, sum-going (λ (y : Stretch). y.bytes) false w.xs w.x, going-part false now w.more, ap (λ l. bytes_of (going false l)) w.whole)

  pub next_free : HasFreeFor s w.space w.old (bytes_of (going false e.stretches.now)) → HasFreeFor s w.mid w.filling (share (not w.x.kept) w.x.bytes)
  next_free free =
      omega (
        arith,
        free,
        up-le s.extent (bytes_of_rows w.filling.rows + share (not w.x.kept) w.x.bytes) (bytes_of_rows w.old.rows + bytes_of (going false e.stretches.now)) w.some (omega (arith, mid_bytes, total_gone)),
        w.adds.takes.counted,
        ap length w.adds.numbers,
        length-append w.old.numbers w.adds.more,
      )

  still : (numbers : List ℕ) → All (IsTaken w.space) numbers → All (IsTaken w.mid) numbers
  still numbers taken = All-weaker (IsTaken w.space) (IsTaken w.mid) (λ n t. taken_still w.adds.more w.space w.mid n w.adds.takes.marked t) numbers taken

  abbrev section : Section
  section = record { extents = e.from; at = w.at; bytes = w.x.bytes }

  abbrev target : Target
  target = record { kept = w.x.kept; extents = e.to; at = w.kept }

  abbrev moved : Records
  moved = record { start = e.start; chunks = w.x.chunks; from = section }

  pub next_source : IsSource s w.mid w.filling section
  next_source = record {
    lies = record { extents = w.can.source; within = omega (arith, w.is_at, total_bytes, w.can.within) };
    taken = still e.from.now w.can.source_taken;
    apart = still_apart w.space w.mid w.old w.filling e.from.now w.can.source_taken w.can.source_apart w.adds;
  }

  pub next_target : IsPlaceForKept s w.mid w.filling section target
  next_target = record {
    extents = w.can.target;
    taken = still e.to.now w.can.target_taken;
    apart = still_apart w.space w.mid w.old w.filling e.to.now w.can.target_taken w.can.target_apart w.adds;
    source = w.can.apart;
    room = omega (arith, w.is_kept, total_kept, w.can.room);
  }

  pub at_most : w.at + w.x.bytes ≤ length e.from.now * s.extent
  at_most = omega (arith, w.is_at, total_bytes, w.can.within)

  pub kept_most : w.kept + share w.x.kept w.x.bytes ≤ length e.to.now * s.extent
  kept_most = omega (arith, w.is_kept, total_kept, w.can.room)

  pub next_works : (d : D) → Works g (InOwner s e.from.now 0 (bytes_of e.stretches.now)) (InMoved s w.space w.old e.to.now 0 (bytes_of (going true e.stretches.now))) w.a w.b →
      Works g (InSection s section) (InMoved s w.mid w.filling e.to.now w.kept (share w.x.kept w.x.bytes)) w.b d →
      Works g (InOwner s e.from.now 0 (bytes_of e.stretches.now)) (InMoved s w.space w.old e.to.now 0 (bytes_of (going true e.stretches.now))) w.a d
  next_works d first then =
      both_work first (wider_work _ _
      (in_wider s e.from.now w.at w.x.bytes 0 (bytes_of e.stretches.now) (omega arith) (omega (arith, w.is_at, total_bytes)))
      (λ place r. moved_before s w.some w.space w.mid w.old w.filling e.to.now w.kept (share w.x.kept w.x.bytes) 0 (bytes_of (going true e.stretches.now)) place w.adds (omega (arith, mid_bytes)) w.before.grows (omega arith) (omega (arith, w.is_kept, total_kept)) r)
      then)

  pub next_moves : (space_now : Allotment) (new : Filled) (d : D) → MovesOne g s space_now w.filling new moved target w.b d → Moves g s e.start e.from.now e.to.now now space_now w.old new w.a d
  next_moves space_now new d one =
      let src = λ (disk : D). owned_on g s e.from.now disk in
      let part = λ (told : g.tells). λ (n : ℕ). ap (λ l. take n (drop w.at l)) (w.before.source told) ∙ ap (λ m. take n (drop m (src w.a))) w.is_at in
      record {
        rows = one.rows
            ∙ rows_then-twice w.old w.filling e.start (chunks_of (going false w.xs)) gone (share (not w.x.kept) w.x.chunks) (share (not w.x.kept) w.x.bytes) none_gone (none_shared (not w.x.kept)) w.before.rows w.adds.oldest
            ∙ (λ i. rows_then w.old e.start (sym (sum-going (λ (y : Stretch). y.chunks) false w.xs w.x) i) (sym (sum-going (λ (y : Stretch). y.bytes) false w.xs w.x) i));
        grows = one.grows;
        kept = λ told.
            ap (λ n. take n (owned_on g s e.to.now d)) (sum-going (λ (y : Stretch). y.bytes) true w.xs w.x ∙ ap (λ n. n + share w.x.kept w.x.bytes) (sym w.is_kept))
            ∙ one.kept told
            ∙ (λ i. take (w.is_kept i) (owned_on g s e.to.now w.b) ++ bytes_if w.x.kept (part told w.x.bytes i))
            ∙ ap (λ l. l ++ bytes_if w.x.kept (take w.x.bytes (drop (bytes_of w.xs) (src w.a)))) (w.before.kept told)
            ∙ sym (picked-push true w.xs w.x (src w.a));
        archived = λ told.
            one.archived told
            ∙ (λ i. w.before.archived told i ++ bytes_if (not w.x.kept) (part told w.x.bytes i))
            ∙ append_assoc (records_on g s w.old w.a) (picked false w.xs (src w.a)) (bytes_if (not w.x.kept) (take w.x.bytes (drop (bytes_of w.xs) (src w.a))))
            ∙ ap (λ l. records_on g s w.old w.a ++ l) (sym (picked-push false w.xs w.x (src w.a)));
        source = λ told. one.source told ∙ w.before.source told;
        bytes = λ told.
            subst (All (λ y. y < 256)) (sym (ap (λ n. take n (src w.a)) (bytes-push w.xs w.x) ∙ take-add (bytes_of w.xs) w.x.bytes (src w.a)))
            (All-append (λ y. y < 256) (take (bytes_of w.xs) (src w.a)) (take w.x.bytes (drop (bytes_of w.xs) (src w.a))) (w.before.bytes told) (subst (All (λ y. y < 256)) (part told w.x.bytes) (one.bytes told)));
      }
    where
      none_shared : (t : Bool) → share t w.x.chunks ≡ 0 → share t w.x.bytes ≡ 0
      none_shared true none = absurd (omega (arith, counted_x.some, none))
      none_shared false none = refl

-- before the first
pub moves_none : {D : Type 0} (g : Ghosts D) (s : Sizes) (start : ℕ) (from to : List ℕ) (space : Allotment) (f : Filled) (a : D) → CanGrow s space f → Moves g s start from to [] space f f a a
moves_none g s start from to space f a grows = record {
  rows = refl;
  grows = grows;
  kept = λ told. refl;
  archived = λ told. sym (append-nil (records_on g s f a));
  source = λ told. refl;
  bytes = λ told. All-nil (λ y. y < 256);
}
