-- What a copy leaves of the bytes of both owners.
use Rattle.std.proofs.Common.{◌≡◌, ℕ, ◌+◌, ◌*◌, ◌<◌, ◌≤◌, List, ◌++◌, length, take, drop, refl, sym, ◌∙◌, ap, subst, arith, length-take, length-drop}
use Rattle.std.specs.Prelude.{All}
use Rattle.std.proofs.Math.Seq.{take-add}
use Rattle.std.proofs.lemmas.List.Elements.{All-append}
use Rattle.bd_disk.specs.History.{History, contents}
use Rattle.bd_disk.specs.Images.{overwritten}
use Rattle.bd_disk.specs.Made.{WritesOnly}
use Rattle.bd_disk.specs.Runs.{WorkedAt, Works}
use Rattle.bd_disk.specs.declared.disk.Disk.{Ghosts}
use Rattle.bd_disk.proofs.AgreeLemmas.{agree_fewer, sub_bytes}
use Rattle.bd_disk.proofs.Frames.{same_contents, writes_wider}
use Rattle.bd_disk.proofs.LookedPlaces.{looks_wider}
use Rattle.bd_disk.proofs.RunLemmas.{both_work, worked_none}
use Rattle.bd_model.specs.Extents.{owner_bytes}
use Rattle.bd_model.specs.Sizes.{Sizes, disk_bytes}
use Rattle.bd_extio.specs.Ranges.{InOwner, owner_range}
use Rattle.bd_extio.proofs.Places.{length-owner_bytes}
use Rattle.bd_extio.proofs.Ranges.{overwritten-append}
use Rattle.bd_extio.proofs.Within.{in_wider}
use Rattle.bd_catalog.specs.Agreement.{InExtents}
use Rattle.bd_catalog.proofs.AgreeLemmas.{in_extents, owners_apart, same_owner_bytes}
use Rattle.bd_volume.specs.Copies.{AreApart, IsSection}
use Rattle.bd_volume.specs.declared.copy.Section.{Section}

-- ---- runs that read and write

pub no_work : {D : Type 0} {g : Ghosts D} {Looked Written : ℕ → Type 0} {a : D} → Works g Looked Written a a
no_work {D} {g} {Looked} {Written} {a} = record { bytes = refl; calls = worked_none g Looked Written a }

-- a run stays one among more places, of which those that are written are known where the disk tells
pub work_told : {D : Type 0} {g : Ghosts D} {Looked Written : ℕ → Type 0} (Read Put : ℕ → Type 0) {a b : D} → ((place : ℕ) → Looked place → Read place) → (g.tells → (place : ℕ) → Written place → Put place) →
    Works g Looked Written a b → Works g Read Put a b
unfolding WorkedAt
work_told Read Put reads writes f = record { bytes = f.bytes; calls = λ told. (looks_wider Read reads (f.calls told).0, writes_wider Put (writes told) (f.calls told).1) }

pub wider_work : {D : Type 0} {g : Ghosts D} {Looked Written : ℕ → Type 0} (Read Put : ℕ → Type 0) {a b : D} → ((place : ℕ) → Looked place → Read place) → ((place : ℕ) → Written place → Put place) →
    Works g Looked Written a b → Works g Read Put a b
wider_work Read Put reads writes f = work_told Read Put reads (λ told. writes) f

-- one part more reads and writes within the whole
pub works_on : {D : Type 0} {g : Ghosts D} (s : Sizes) (from to : List ℕ) (at place done n total : ℕ) {a b c : D} → done + n ≤ total → Works g (InOwner s from at total) (InOwner s to place total) a b →
    Works g (InOwner s from (at + done) n) (InOwner s to (place + done) n) b c → Works g (InOwner s from at total) (InOwner s to place total) a c
works_on s from to at place done n total fits before works =
    both_work before (wider_work _ _ (in_wider s from (at + done) n at total (omega arith) (omega (arith, fits))) (in_wider s to (place + done) n place total (omega arith) (omega (arith, fits))) works)

-- ---- bytes

-- the bytes of an owner stay while another's are written
pub other_stays : (s : Sizes) (one other : List ℕ) → 1 ≤ s.extent → (at n : ℕ) → at + n ≤ length other * s.extent → AreApart one other → {a b : History} → WritesOnly (InOwner s other at n) a b →
    owner_bytes s one (contents b) ≡ owner_bytes s one (contents a)
other_stays s one other some at n fits apart {a} {b} writes =
    let inside : (place : ℕ) → InOwner s other at n place → InExtents s other place =
    λ place r. subst (InExtents s other) (sym r.so) (in_extents s other some (at + r.k) (omega (arith, r.within, fits))) in
    same_owner_bytes s one (contents a) (contents b)
    (agree_fewer (λ place. InOwner s other at n place → ⊥) (InExtents s one) (contents a) (contents b)
    (λ place here there. owners_apart s one other apart.each place here (inside place there)) (same_contents writes))

-- one part more was copied
pub copy_more : (source first before now : List ℕ) (at place done n total : ℕ) → done + n ≤ total → at + total ≤ length source → place + total ≤ length first →
    before ≡ overwritten first place (take done (take total (drop at source))) → now ≡ overwritten before (place + done) (take n (drop (at + done) source)) →
    now ≡ overwritten first place (take (done + n) (take total (drop at source)))
copy_more source first before now at place done n total fits inside room so_far is =
    let all = take total (drop at source) in
    let whole : length all ≡ total = omega (arith, length-take total (drop at source), length-drop at source, inside) in
    let known : length (take done all) ≡ done = omega (arith, length-take done all, whole, fits) in
    let part = take n (drop (at + done) source) in
    let size : length part ≡ n = omega (arith, length-take n (drop (at + done) source), length-drop (at + done) source, inside, fits) in
    is
    ∙ (λ k. overwritten (so_far k) (place + sym known k) part)
    ∙ overwritten-append first place (take done all) part (omega (arith, known, size, room, fits))
    ∙ ap (λ bytes. overwritten first place (take done all ++ bytes)) (sub_bytes at total done n source fits)
    ∙ ap (overwritten first place) (sym (take-add done n all))

-- one part more is bytes
pub bytes_more : (source : List ℕ) (at done n total : ℕ) → done + n ≤ total → All (λ b. b < 256) (take done (take total (drop at source))) → All (λ b. b < 256) (take n (drop (at + done) source)) →
    All (λ b. b < 256) (take (done + n) (take total (drop at source)))
bytes_more source at done n total fits before more =
    let all = take total (drop at source) in
    subst (All (λ b. b < 256)) (sym (take-add done n all))
    (All-append (λ b. b < 256) (take done all) (take n (drop done all)) before (subst (All (λ b. b < 256)) (sub_bytes at total done n source fits) more))

-- a section has as many bytes as it says
pub length-section : (s : Sizes) (section : Section) (image : List ℕ) → 1 ≤ s.extent → disk_bytes s ≤ length image → IsSection s section →
    length (owner_range s section.extents.now section.at section.bytes image) ≡ section.bytes
length-section s section image some room is =
    let owner = owner_bytes s section.extents.now image in
    omega (arith, length-take section.bytes (drop section.at owner), length-drop section.at owner, length-owner_bytes s section.extents.now some is.extents.below image room, is.within)
