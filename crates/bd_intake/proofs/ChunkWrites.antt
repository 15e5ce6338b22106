-- What is written for a chunk, and what stays.
use Rattle.std.proofs.Common.{◌≡◌, ℕ, ◌+◌, ◌*◌, ◌/◌, ◌%◌, ◌≤◌, List, [], ◌∷◌, ◌++◌, length, take, get_or, sym, ◌∙◌, ap, subst, arith, length-append, length-take}
use Rattle.std.specs.Prelude.{Contains}
use Rattle.std.proofs.lemmas.List.{append-nil, take-append-le, map-append}
use Rattle.std.proofs.lemmas.Grind.{flat_map-append}
use Rattle.std.proofs.lemmas.List.Elements.{Contains-append_left, Contains-append_right}
use Rattle.bd_disk.specs.History.{contents}
use Rattle.bd_disk.specs.Images.{overwritten}
use Rattle.bd_disk.specs.Runs.{Writes}
use Rattle.bd_disk.specs.declared.disk.Disk.{Ghosts}
use Rattle.bd_disk.proofs.AgreeLemmas.{agree_fewer}
use Rattle.bd_disk.proofs.Frames.{same_contents}
use Rattle.bd_disk.proofs.RunLemmas.{both_writes, wider_writes, written}
use Rattle.bd_model.specs.Extents.{owner_bytes, extent_bytes}
use Rattle.bd_model.specs.Laws.{entries_of_chunks}
use Rattle.bd_model.specs.Sizes.{Sizes, extent_place, disk_bytes}
use Rattle.bd_model.specs.declared.layout.RecipeEntry.{RecipeEntry}
use Rattle.bd_extio.specs.Ranges.{AreExtents, InOwner}
use Rattle.bd_extio.proofs.Places.{length-owner_bytes}
use Rattle.bd_catalog.specs.Standing.{BeginWith}
use Rattle.bd_catalog.specs.Agreement.{InExtents}
use Rattle.bd_catalog.proofs.AgreeLemmas.{in_extents, owners_apart, begin_with_agrees, begin_with_more}
use Rattle.bd_intake.specs.Putting.{Held, IsPut, IsPutOn, put_count}
use Rattle.bd_intake.proofs.Firsts.{entry}

-- ---- the bytes of chunks

-- the recipe of one chunk more
pub entries-more : (old : List RecipeEntry) (v : ℕ) (cs : List (List ℕ)) (c : List ℕ) → entries_of_chunks old v (cs ++ c ∷ []) ≡ entries_of_chunks old v cs ++ entry old v c ∷ []
entries-more old v cs c = map-append (entry old v) cs (c ∷ [])

-- ---- one owner

module _ (s : Sizes) (extents : List ℕ) (some : 1 ≤ s.extent) where
  in_one_of : (at n : ℕ) → at + n ≤ length extents * s.extent → (place : ℕ) → InOwner s extents at n place → InExtents s extents place
  in_one_of at n fits place r =
      let i = at + r.k in
      let inside : InExtents s extents (extent_place s (get_or extents (i / s.extent) 0) + i % s.extent) = in_extents s extents some i (omega (arith, r.within, fits)) in
      subst (InExtents s extents) (sym r.so) (record { extent = inside.extent; among = inside.among; within = inside.within })

  pub owner_writes : (at n : ℕ) → at + n ≤ length extents * s.extent → {D : Type 0} {g : Ghosts D} {a b : D} → Writes g (InOwner s extents at n) a b → Writes g (InExtents s extents) a b
  owner_writes at n fits writes = wider_writes _ (λ place r. in_one_of at n fits place r) writes

  module _ (are : AreExtents s extents) (old new : List ℕ) (room : disk_bytes s ≤ length old) where
    sized : length (owner_bytes s extents old) ≡ length extents * s.extent
    sized = length-owner_bytes s extents some are.below old room

    -- what is held was written behind the first bytes
    pub written_out : (p q : Held) (bytes : List ℕ) → p.written + length p.held ≤ length extents * s.extent → owner_bytes s extents new ≡ overwritten (owner_bytes s extents old) p.written p.held →
        q.held ≡ [] → q.written ≡ put_count p → IsPut s extents p bytes old → IsPut s extents q bytes new
    written_out p q bytes fits is none count before =
        let whole : owner_bytes s extents new ≡ overwritten (owner_bytes s extents old) (length before.first) p.held = is ∙ (λ k. overwritten (owner_bytes s extents old) (sym before.count k) p.held) in
        record {
          first = bytes;
          so = sym (ap (λ xs. bytes ++ xs) none ∙ append-nil bytes);
          count = omega (arith, ap length before.so, length-append before.first p.held, before.count, count);
          begins = subst (λ xs. BeginWith s extents xs new) (sym before.so) (begin_with_more s extents before.first p.held old new before.begins (omega (arith, before.count, fits, sized)) whole);
        }

-- where nothing is held, all that was put is written
pub all_written : (s : Sizes) (extents : List ℕ) (p : Held) (bytes image : List ℕ) → p.held ≡ [] → IsPut s extents p bytes image → BeginWith s extents bytes image
all_written s extents p bytes image none before =
    subst (λ xs. BeginWith s extents xs image) (sym (before.so ∙ ap (λ xs. before.first ++ xs) none ∙ append-nil before.first)) before.begins

-- ---- two owners

pub one_writes : (s : Sizes) (extents more : List ℕ) {D : Type 0} {g : Ghosts D} {a b : D} → Writes g (InExtents s extents) a b → Writes g (InExtents s (extents ++ more)) a b
one_writes s extents more writes = wider_writes _ (λ place r. record { extent = r.extent; among = Contains-append_left extents more r.extent r.among; within = r.within }) writes

pub other_writes : (s : Sizes) (extents more : List ℕ) {D : Type 0} {g : Ghosts D} {a b : D} → Writes g (InExtents s more) a b → Writes g (InExtents s (extents ++ more)) a b
other_writes s extents more writes = wider_writes _ (λ place r. record { extent = r.extent; among = Contains-append_right extents more r.extent r.among; within = r.within }) writes

pub both_in : (s : Sizes) (extents more : List ℕ) {D : Type 0} {g : Ghosts D} {a b c : D} → Writes g (InExtents s more) a b → Writes g (InExtents s extents) b c → Writes g (InExtents s (extents ++ more)) a c
both_in s extents more first second = both_writes (other_writes s extents more first) (one_writes s extents more second)

-- what one owner's bytes begin with stays while another's are written
still_begins : (s : Sizes) (extents others bytes : List ℕ) → ((e : ℕ) → Contains extents e → Contains others e → ⊥) → {D : Type 0} {g : Ghosts D} {a b : D} → Writes g (InExtents s others) a b → g.tells →
    BeginWith s extents bytes (contents (g.history a)) → BeginWith s extents bytes (contents (g.history b))
still_begins s extents others bytes apart {D} {g} {a} {b} writes told begins =
    begin_with_agrees s extents bytes (contents (g.history a)) (contents (g.history b))
    (agree_fewer (λ place. InExtents s others place → ⊥) (InExtents s extents) (contents (g.history a)) (contents (g.history b))
    (λ place inside other. owners_apart s extents others apart place inside (record { extent = other.extent; among = other.among; within = other.within }))
    (same_contents (written writes told)))
    begins

-- and so does what was put
pub still_put : (s : Sizes) (extents others : List ℕ) (p : Held) (bytes : List ℕ) → ((e : ℕ) → Contains extents e → Contains others e → ⊥) → {D : Type 0} {g : Ghosts D} {a b : D} → Writes g (InExtents s others) a b → g.tells →
    IsPutOn g s extents p bytes a → IsPutOn g s extents p bytes b
still_put s extents others p bytes apart writes told before =
    record { first = before.first; so = before.so; count = before.count; begins = still_begins s extents others before.first apart writes told before.begins }

-- and while more extents follow
begins_longer : (s : Sizes) (extents more bytes image : List ℕ) → BeginWith s extents bytes image → BeginWith s (extents ++ more) bytes image
begins_longer s extents more bytes image begins =
    let first = owner_bytes s extents image in
    let fits : length bytes ≤ length first = omega (arith, length-take (length bytes) first, ap length begins.front) in
    record {
      front = ap (take (length bytes)) (flat_map-append (extent_bytes s image) extents more)
          ∙ take-append-le (length bytes) first (owner_bytes s more image) fits ∙ begins.front;
    }

pub put_longer : (s : Sizes) (more before after : List ℕ) (p : Held) (bytes image : List ℕ) → after ≡ before ++ more → IsPut s before p bytes image → IsPut s after p bytes image
put_longer s more before after p bytes image so was =
    record { first = was.first; so = was.so; count = was.count; begins = subst (λ xs. BeginWith s xs was.first image) (sym so) (begins_longer s before more was.first image was.begins) }
