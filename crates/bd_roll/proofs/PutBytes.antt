-- Bytes that are put behind each other.
use Rattle.std.proofs.Common.{◌≡◌, ℕ, ◌+◌, ◌<◌, ◌≤◌, List, ◌++◌, length, take, drop, get_or, map, refl, sym, ◌∙◌, ap, arith, append_assoc, length-append}
use Rattle.std.specs.List.{flat_map}
use Rattle.std.proofs.lemmas.List.{length-map, take_at, length-take-le, drop-drop, take_more, flat_map_more}
use Rattle.std.proofs.Math.Seq.{drop-append-add}
use Rattle.std.proofs.lemmas.List.Folds.{length-flat_map-take}
use Rattle.bd_model.specs.Records.{four}
use Rattle.bd_model.specs.declared.layout.Phase.TheVariants.{Settled, Waiting}
use Rattle.bd_roll.specs.declared.contents.Contents.{Contents}
use Rattle.bd_roll.specs.Catalogue.{Catalogue}
use Rattle.bd_roll.specs.Spelling.{spelled_phase, spelled_version, spelled_volume, spelled_active, spelled}
use Rattle.bd_roll.specs.Shown.{version_entry, volume_entry, open_entry, catalogue_of_contents}
use Rattle.bd_roll.specs.Writing.{put_at, spelled_head}

pub put_at-append : (buffer : List ℕ) (at : ℕ) (xs ys : List ℕ) → at + length xs ≤ length buffer →
    put_at (put_at buffer at xs) (at + length xs) ys ≡ put_at buffer at (xs ++ ys)
put_at-append buffer at xs ys within =
    let front = take at buffer in
    let behind = drop (at + length xs) buffer in
    let size : length (front ++ xs) ≡ at + length xs = omega (arith, length-append front xs, length-take-le at buffer (omega arith)) in
    let head : take (at + length xs) ((front ++ xs) ++ behind) ≡ front ++ xs = take_at (front ++ xs) behind (at + length xs) size in
    let tail : drop (at + length xs + length ys) ((front ++ xs) ++ behind) ≡ drop (at + length (xs ++ ys)) buffer =
    ap (λ (n : ℕ). drop (n + length ys) ((front ++ xs) ++ behind)) (sym size)
    ∙ drop-append-add (front ++ xs) behind (length ys)
    ∙ drop-drop (length ys) (at + length xs) buffer
    ∙ ap (λ (n : ℕ). drop n buffer) (omega (arith, length-append xs ys)) in
    ap (λ (h : List ℕ). h ++ ys ++ drop (at + length xs + length ys) ((front ++ xs) ++ behind)) head
    ∙ ap (λ (t : List ℕ). front ++ xs ++ ys ++ t) tail
    ∙ ap (λ (h : List ℕ). h ++ drop (at + length (xs ++ ys)) buffer) (append_assoc front xs ys)

-- one more item of a list, behind the items before it
module _ {X : Type 0} (spell : X → List ℕ) (front : List ℕ) (xs : List X) (i : ℕ) (d x : X) (is : x ≡ get_or xs i d) (more : i < length xs) where
  spelled_more : front ++ flat_map spell (take (i + 1) xs) ≡ (front ++ flat_map spell (take i xs)) ++ spell x
  spelled_more =
      ap (λ (ys : List X). front ++ flat_map spell ys) (take_more xs i d more) ∙ sym (flat_map_more spell front (take i xs) (get_or xs i d))
      ∙ ap (λ (y : X). (front ++ flat_map spell (take i xs)) ++ spell y) (sym is)

  pub put_at-more : (buffer now : List ℕ) (at place : ℕ) → now ≡ put_at buffer at (front ++ flat_map spell (take i xs))
      → place ≡ at + length (front ++ flat_map spell (take i xs)) → place ≤ length buffer
      → put_at now place (spell x) ≡ put_at buffer at (front ++ flat_map spell (take (i + 1) xs))
  put_at-more buffer now at place was here within =
      let done = front ++ flat_map spell (take i xs) in
      ap (λ (n : List ℕ). put_at n place (spell x)) was
      ∙ ap (λ (p : ℕ). put_at (put_at buffer at done) p (spell x)) here
      ∙ put_at-append buffer at done (spell x) (omega arith)
      ∙ ap (λ (bytes : List ℕ). put_at buffer at bytes) (sym spelled_more)

  pub place-more : (at place : ℕ) → place ≡ at + length (front ++ flat_map spell (take i xs))
      → place + length (spell x) ≡ at + length (front ++ flat_map spell (take (i + 1) xs))
  place-more at place here = omega (arith, ap length spelled_more, length-append (front ++ flat_map spell (take i xs)) (spell x))

  pub room-more : (at place top : ℕ) → place ≡ at + length (front ++ flat_map spell (take i xs)) → at + length (front ++ flat_map spell xs) ≤ top
      → place + length (spell x) ≤ top
  room-more at place top here room =
      omega (arith, length-flat_map-take spell xs i d more, ap (λ (y : X). length (spell y)) is, length-append front (flat_map spell (take i xs)), length-append front (flat_map spell xs))

-- so far these bytes were written, up to this place
pub record Wrote (buffer : List ℕ) (at : ℕ) (bytes now : List ℕ) (place : ℕ) : Type 0 where
  pub so : now ≡ put_at buffer at bytes
  pub here : place ≡ at + length bytes

pub wrote_more : (buffer now next : List ℕ) (at place behind : ℕ) (xs ys : List ℕ) → Wrote buffer at xs now place
    → next ≡ put_at now place ys → behind ≡ place + length ys → at + length xs ≤ length buffer → Wrote buffer at (xs ++ ys) next behind
wrote_more buffer now next at place behind xs ys wrote so here within = record {
  so = so ∙ ap (λ (n : List ℕ). put_at n place ys) wrote.so ∙ ap (λ (p : ℕ). put_at (put_at buffer at xs) p ys) wrote.here ∙ put_at-append buffer at xs ys within;
  here = omega (arith, wrote.here, length-append xs ys);
}

-- the spellings of the lists of a catalogue in memory
abbrev pub versions_part : Contents → List ℕ
versions_part x = flat_map spelled_version (map version_entry x.versions.items)

abbrev pub volumes_part : Contents → List ℕ
volumes_part x = flat_map spelled_volume (map volume_entry x.volumes.items)

abbrev pub actives_part : Contents → List ℕ
actives_part x = flat_map spelled_active (map open_entry x.actives.items)

pub spelled_parts : (x : Contents) → spelled (catalogue_of_contents x)
    ≡ spelled_head (catalogue_of_contents x) ++ versions_part x ++ volumes_part x ++ four (length x.actives.items) ++ actives_part x
spelled_parts x =
    ap (λ (n : ℕ). spelled_head (catalogue_of_contents x) ++ versions_part x ++ volumes_part x ++ four n ++ actives_part x) (length-map x.actives.items open_entry)

pub length-spelled_head : (c : Catalogue) → length (spelled_head c) ≡ 17
length-spelled_head c =
    let phase : length (spelled_phase c.phase) ≡ 5 = elim c.phase as (λ p. length (spelled_phase p) ≡ 5) [ Settled ↦ refl | Waiting cursor ↦ refl ] in
    omega (arith, length-append (four c.base ++ four c.newest ++ four (length c.versions)) (spelled_phase c.phase), phase)

pub length-spelled_parts : (x : Contents) → length (spelled (catalogue_of_contents x))
    ≡ 17 + length (versions_part x) + length (volumes_part x) + 4 + length (actives_part x)
length-spelled_parts x =
    let head = spelled_head (catalogue_of_contents x) in
    let front = head ++ versions_part x ++ volumes_part x in
    omega (
      arith,
      ap length (spelled_parts x),
      length-append (front ++ four (length x.actives.items)) (actives_part x),
      length-append front (four (length x.actives.items)),
      length-append (head ++ versions_part x) (volumes_part x),
      length-append head (versions_part x),
      length-spelled_head (catalogue_of_contents x),
    )

-- the parts written one behind the other are the whole spelling
pub written_parts : (x : Contents) (buffer b1 b2 b3 b4 b5 : List ℕ) (p2 p3 p5 : ℕ) → length (spelled (catalogue_of_contents x)) ≤ length buffer
    → b1 ≡ put_at buffer 0 (spelled_head (catalogue_of_contents x))
    → b2 ≡ put_at b1 17 (versions_part x) → p2 ≡ 17 + length (versions_part x)
    → b3 ≡ put_at b2 p2 (volumes_part x) → p3 ≡ p2 + length (volumes_part x)
    → b4 ≡ put_at b3 p3 (four (length x.actives.items))
    → b5 ≡ put_at b4 (p3 + 4) (actives_part x) → p5 ≡ p3 + 4 + length (actives_part x)
    → b5 ≡ spelled (catalogue_of_contents x) ++ drop p5 buffer
written_parts x buffer b1 b2 b3 b4 b5 p2 p3 p5 room is1 is2 at2 is3 at3 is4 is5 at5 =
    let head = spelled_head (catalogue_of_contents x) in
    let parts = length-spelled_parts x in
    let size = length-spelled_head (catalogue_of_contents x) in
    let first : Wrote buffer 0 head b1 17 = record { so = is1; here = omega arith } in
    let second = wrote_more buffer b1 b2 0 17 p2 head (versions_part x) first is2 at2 (omega arith) in
    let done2 = head ++ versions_part x in
    let size2 = length-append head (versions_part x) in
    let third = wrote_more buffer b2 b3 0 p2 p3 done2 (volumes_part x) second is3 at3 (omega arith) in
    let done3 = done2 ++ volumes_part x in
    let size3 = length-append done2 (volumes_part x) in
    let fourth = wrote_more buffer b3 b4 0 p3 (p3 + 4) done3 (four (length x.actives.items)) third is4 refl (omega arith) in
    let done4 = done3 ++ four (length x.actives.items) in
    let size4 = length-append done3 (four (length x.actives.items)) in
    let fifth = wrote_more buffer b4 b5 0 (p3 + 4) p5 done4 (actives_part x) fourth is5 at5 (omega arith) in
    fifth.so ∙ ap (λ (n : ℕ). done4 ++ actives_part x ++ drop n buffer) (sym fifth.here)
    ∙ ap (λ (bytes : List ℕ). bytes ++ drop p5 buffer) (sym (spelled_parts x))
