-- The chunks that are decided, one after the other.
use Rattle.std.proofs.Common.{◌≡◌, ℕ, ◌*◌, ◌≤◌, true, false, List, [], ◌∷◌, ◌++◌, length, take, Some, refl, sym, ◌∙◌, ap, subst, arith}
use Rattle.std.specs.Prelude.{Contains}
use Rattle.std.proofs.lemmas.List.{append-nil}
use Rattle.std.proofs.lemmas.List.Elements.{Contains-append_left, Contains-append_cases, Contains-append_right}
use Rattle.std.proofs.Common.{⊎_elim}
use Rattle.bd_disk.specs.Runs.{Writes}
use Rattle.bd_disk.specs.declared.disk.Disk.{Ghosts}
use Rattle.bd_disk.proofs.RunLemmas.{both_writes, wider_writes}
use Rattle.bd_model.specs.Chunks.{Cut, chunks, chunks_after}
use Rattle.bd_model.specs.Laws.{entries_of_chunks}
use Rattle.bd_model.specs.Layout.{record_bytes}
use Rattle.bd_model.specs.Room.{up, counted_of}
use Rattle.bd_model.specs.Sizes.{Sizes}
use Rattle.bd_model.proofs.ChunkLemmas.{chunk_len-bounds}
use Rattle.bd_space.specs.Allotment.{Allotment, held_count}
use Rattle.bd_gear.specs.Chunking.{Chunking, next_len}
use Rattle.bd_gear.specs.Feeding.{HasFed, place_after}
use Rattle.bd_gear.proofs.NextLemmas.{next_len-within}
use Rattle.bd_catalog.specs.Agreement.{InExtents}
use Rattle.bd_intake.specs.declared.fault.IntakeFault.{IntakeFault}
use Rattle.bd_intake.specs.declared.fault.IntakeFault.TheVariants.{Full, SourceFault, DiskFault, OutOfMemory}
use Rattle.bd_intake.specs.declared.staging.Staging.{Staging}
use Rattle.bd_intake.specs.Answers.{RefusesRoom}
use Rattle.bd_intake.specs.Firsts.{cut_in, extents_taken, new_by_mark}
use Rattle.bd_intake.specs.Given.{Given}
use Rattle.bd_intake.specs.Needs.{RefusesChunks}
use Rattle.bd_intake.specs.Staging.{StagesOn, Grows, HasPut, HasTaken, IsFed, IsStaging, staged_extents}
use Rattle.bd_intake.proofs.Firsts.{counted-first}
use Rattle.bd_intake.proofs.StagedChunks.{grows_none, grows_both}

-- a chunk that is given is no longer than the most
pub next-short : (s : Sizes) (c : Chunking) (n : ℕ) → (fed : IsFed s c) → next_len (cut_in s) fed.stream (place_after fed.taken) c.finished ≡ Some n → n ≤ s.max
next-short s c n fed given =
    let cut = cut_in s in
    let start = place_after fed.taken in
    let parts = next_len-within cut fed.stream start n c.finished fed.fed.is_cut given in
    omega (arith, parts.1, chunk_len-bounds cut fed.stream start fed.fed.is_cut parts.0)

-- ---- extents that were written stay among those that are staged

module _ (s : Sizes) {space one : Allotment} {a b : Staging} (grows : Grows space one a b) {D : Type 0} {g : Ghosts D} where
  wider : {x y : D} → Writes g (InExtents s (staged_extents a)) x y → Writes g (InExtents s (staged_extents b)) x y
  wider writes = wider_writes _ (λ place r. record {
    extent = r.extent;
    among = ⊎_elim
        (λ here. Contains-append_left b.recipe.numbers b.fresh.numbers r.extent (subst (λ xs. Contains xs r.extent) (sym grows.recipe.1) (Contains-append_left a.recipe.numbers grows.recipe.0 r.extent here)))
        (λ here. Contains-append_right b.recipe.numbers b.fresh.numbers r.extent (subst (λ xs. Contains xs r.extent) (sym grows.fresh.1) (Contains-append_left a.fresh.numbers grows.fresh.0 r.extent here)))
        (Contains-append_cases a.recipe.numbers a.fresh.numbers r.extent r.among);
    within = r.within;
  }) writes

  -- and those that are written then
  pub writes_on : {x y z : D} → Writes g (InExtents s (staged_extents a)) x y → Writes g (InExtents s (staged_extents b)) y z → Writes g (InExtents s (staged_extents b)) x z
  writes_on first next = both_writes (wider first) next

-- what is put changes no extents
pub writes_after : (s : Sizes) (a b : Staging) → b ≡ record a { records = b.records; entries = b.entries } → {D : Type 0} {g : Ghosts D} {x y z : D} →
    Writes g (InExtents s (staged_extents a)) x y → Writes g (InExtents s (staged_extents a)) y z → Writes g (InExtents s (staged_extents b)) x z
writes_after s a b same {D} {g} {x} {y} {z} first next = subst (λ (d : Staging). Writes g (InExtents s (staged_extents d)) x z) (sym same) (both_writes first next)

-- ---- the loop

pub record Drains (t : Given) (told : Type 0) (space space_now : Allotment) (a b : Staging) (c d : Chunking) (old new : List ℕ) : Type 0 where
  pub staging : IsStaging t space_now b
  pub fed : IsFed t.sizes d
  pub finished : d.finished ≡ c.finished
  pub grows : Grows space space_now a b
  pub goes : (stream : List ℕ) (taken : List (List ℕ)) → HasFed (cut_in t.sizes) stream taken c → HasTaken t taken a → StagesOn ⊥ t stream taken d a b told old new

pub drains_none : (t : Given) (told : Type 0) (space : Allotment) (a : Staging) (c : Chunking) (image : List ℕ) → IsStaging t space a → IsFed t.sizes c → Drains t told space space a a c c image image
drains_none t told space a c image staging fed = record {
  staging = staging;
  fed = fed;
  finished = refl;
  grows = grows_none space a a refl refl;
  goes = λ stream taken is has. record { all = taken; fed = is; has = has; put = λ t was. was; ended = λ none. absurd none };
}

-- what holds of one chunk that was taken
pub record TakesOne (t : Given) (told : Type 0) (body : List ℕ) (space space_now : Allotment) (a b : Staging) (c d : Chunking) (old new : List ℕ) : Type 0 where
  pub staging : IsStaging t space_now b
  pub finished : d.finished ≡ c.finished
  pub grows : Grows space space_now a b
  pub fed : (stream : List ℕ) (taken : List (List ℕ)) → HasFed (cut_in t.sizes) stream taken c → HasFed (cut_in t.sizes) stream (taken ++ body ∷ []) d
  pub has : (taken : List (List ℕ)) → HasTaken t taken a → HasTaken t (taken ++ body ∷ []) b
  pub put : told → (taken : List (List ℕ)) → HasTaken t taken a → HasPut t taken a old → HasPut t (taken ++ body ∷ []) b new

pub drains_one : (t : Given) (told : Type 0) (body : List ℕ) (space one two : Allotment) (a b e : Staging) (c d f : Chunking) (x y z : List ℕ) →
    Drains t told space one a b c d x y → TakesOne t told body one two b e d f y z → Drains t told space two a e c f x z
drains_one t told body space one two a b e c d f x y z so_far next = record {
  staging = next.staging;
  fed = record { stream = so_far.fed.stream; taken = so_far.fed.taken ++ body ∷ []; fed = next.fed so_far.fed.stream so_far.fed.taken so_far.fed.fed };
  finished = next.finished ∙ so_far.finished;
  grows = grows_both so_far.grows next.grows;
  goes = λ stream taken is has.
      let before = so_far.goes stream taken is has in
      record {
        all = before.all ++ body ∷ [];
        fed = next.fed stream before.all before.fed;
        has = next.has before.all before.has;
        put = λ t was. next.put t before.all before.has (before.put t was);
        ended = λ none. absurd none;
      };
}

-- ---- refusals

-- what was taken so far is no more than what was free
pub fits_so_far : (t : Given) (space : Allotment) (a : Staging) (taken : List (List ℕ)) → IsStaging t space a → HasTaken t taken a → extents_taken t.sizes.extent t.old taken ≤ t.free
fits_so_far t space a taken is has =
    let records : up t.sizes.extent a.fresh_bytes ≡ up t.sizes.extent (record_bytes (new_by_mark t.old taken)) = ap (up t.sizes.extent) has.record_bytes_is in
    let entries : up t.sizes.extent (40 * a.chunks) ≡ up t.sizes.extent (40 * length taken) = ap (λ n. up t.sizes.extent (40 * n)) has.chunk_count in
    omega (arith, records, entries, is.extents.recipe, is.extents.fresh, is.owns.counted, is.left)

-- the chunks of every stream that begins with the bytes so far, and is them at their end
pub front_of : (cut : Cut) (stream more : List ℕ) (taken : List (List ℕ)) (c : Chunking) → HasFed cut stream taken c → (c.finished ≡ true → more ≡ []) →
    chunks cut (stream ++ more) ≡ taken ++ chunks_after cut (stream ++ more) (place_after taken)
front_of cut stream more taken c fed ended =
    elim c.finished as (λ b. c.finished ≡ b → chunks cut (stream ++ more) ≡ taken ++ chunks_after cut (stream ++ more) (place_after taken)) [
      | true ↦ λ is.
          let all : stream ++ more ≡ stream = ap (λ xs. stream ++ xs) (ended is) ∙ append-nil stream in
          subst (λ xs. chunks cut xs ≡ taken ++ chunks_after cut xs (place_after taken)) (sym all) fed.now
      | false ↦ λ is. fed.later is more
    ] refl

refuses_at : (t : Given) (earlier : List (List ℕ)) (last : List ℕ) (rest parts : List (List ℕ)) (held : ℕ) → 1 ≤ t.sizes.extent → extents_taken t.sizes.extent t.old earlier ≤ t.free → parts ≡ (earlier ++ last ∷ []) ++ rest →
    (fault : IntakeFault) → RefusesRoom (extents_taken t.sizes.extent t.old (earlier ++ last ∷ [])) t.free held fault → RefusesChunks t parts held fault
refuses_at t earlier last rest parts held some fits split (Full c f h) r =
    let same : counted_of t.sizes.extent t.old (entries_of_chunks t.old t.version parts) t.free ≡ extents_taken t.sizes.extent t.old (earlier ++ last ∷ []) =
    ap (λ cs. counted_of t.sizes.extent t.old (entries_of_chunks t.old t.version cs) t.free) split ∙ counted-first t.old t.version t.sizes.extent some earlier last rest t.free fits r.0 in
    (omega (arith, same, r.0), r.1 ∙ sym same, r.2, r.3)
refuses_at t earlier last rest parts held some fits split SourceFault r = tt
refuses_at t earlier last rest parts held some fits split DiskFault r = tt
refuses_at t earlier last rest parts held some fits split OutOfMemory r = tt

-- a chunk for which there was no room
pub refuses_one : (t : Given) (told : Type 0) (space one : Allotment) (a b : Staging) (c d f : Chunking) (x y : List ℕ) (body : List ℕ) (fault : IntakeFault) → 1 ≤ t.sizes.extent →
    IsStaging t space a → Drains t told space one a b c d x y → f.finished ≡ d.finished →
    ((stream : List ℕ) (taken : List (List ℕ)) → HasFed (cut_in t.sizes) stream taken d → HasFed (cut_in t.sizes) stream (taken ++ body ∷ []) f) →
    ((taken : List (List ℕ)) → HasTaken t taken b → RefusesRoom (extents_taken t.sizes.extent t.old (taken ++ body ∷ [])) t.free (held_count one) fault) →
    (stream more : List ℕ) (taken : List (List ℕ)) → HasFed (cut_in t.sizes) stream taken c → HasTaken t taken a → (c.finished ≡ true → more ≡ []) →
    RefusesChunks t (chunks (cut_in t.sizes) (stream ++ more)) (held_count space) fault
refuses_one t told space one a b c d f x y body fault some first so_far flag fed refused stream more taken is has ended =
    let goes = so_far.goes stream taken is has in
    let held : held_count one ≡ held_count space = (so_far.grows.owners first.base first.first first.owns).held ∙ sym first.owns.held in
    let now = fed stream goes.all goes.fed in
    refuses_at t goes.all body (chunks_after (cut_in t.sizes) (stream ++ more) (place_after (goes.all ++ body ∷ []))) (chunks (cut_in t.sizes) (stream ++ more)) (held_count space) some
    (fits_so_far t one b goes.all so_far.staging goes.has)
    (front_of (cut_in t.sizes) stream more (goes.all ++ body ∷ []) f now (λ over. ended (sym so_far.finished ∙ sym flag ∙ over)))
    fault (subst (λ n. RefusesRoom (extents_taken t.sizes.extent t.old (goes.all ++ body ∷ [])) t.free n fault) held (refused goes.all goes.has))

-- a chunk is taken from the bytes that are held
pub advanced : (s : Sizes) (c d f : Chunking) (n : ℕ) (body : List ℕ) → body ≡ take n d.held →
    ((cut : Cut) (stream : List ℕ) (taken : List (List ℕ)) → HasFed cut stream taken c → HasFed cut stream taken d) →
    ((cut : Cut) (stream : List ℕ) (taken : List (List ℕ)) → HasFed cut stream taken d → HasFed cut stream (taken ++ take n d.held ∷ []) f) →
    (stream : List ℕ) (taken : List (List ℕ)) → HasFed (cut_in s) stream taken c → HasFed (cut_in s) stream (taken ++ body ∷ []) f
advanced s c d f n body is looked removed stream taken fed =
    subst (λ b. HasFed (cut_in s) stream (taken ++ b ∷ []) f) (sym is) (removed (cut_in s) stream taken (looked (cut_in s) stream taken fed))
