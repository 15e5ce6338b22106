-- A source that comes piece after piece.
use Rattle.std.proofs.Common.{inl, inr, ⊎_elim, ◌≡◌, ℕ, ◌+◌, ◌-◌, ◌^◌, ◌<◌, ◌≤◌, List, ◌++◌, length, take, drop, min, sym, ◌∙◌, ap, subst, arith, length-append, length-take, take-append-drop}
use Rattle.std.specs.List.{concat}
use Rattle.std.proofs.Math.Seq.{take-add}
use Rattle.std.proofs.lemmas.List.{take_all}
use Rattle.bd_disk.specs.Images.{bytes_at}
use Rattle.bd_model.specs.FileMap.{FileMap}
use Rattle.bd_space.specs.Allotment.{Allotment}
use Rattle.bd_files.specs.Files.{Fetches, Holds, Lacks}
use Rattle.bd_files.proofs.FileLemmas.{held_once}
use Rattle.bd_gear.specs.Chunking.{Chunking}
use Rattle.bd_gear.specs.Feeding.{HasFed}
use Rattle.bd_intake.specs.declared.staging.Staging.{Staging}
use Rattle.bd_intake.specs.Filling.{IsFront, ComesIn, HasCome, CountsMissing}
use Rattle.bd_intake.specs.declared.terms.Terms.{Terms}
use Rattle.bd_intake.specs.Firsts.{cut_in}
use Rattle.bd_intake.specs.Given.{Given, given_of}
use Rattle.bd_intake.specs.Staging.{StagesOn, HasTaken, IsStaging}
use Rattle.bd_intake.proofs.StagedChunks.{IsSmall, staging_is_small}

-- the bytes that were fetched follow those before
pub front_more : (told : Type 0) (files : FileMap) (name front into : List ℕ) (at room n : ℕ) → length front ≡ at → n ≤ length into → (told → Fetches files name at room n into) →
    IsFront told files name front → IsFront told files name (front ++ take n into)
front_more told files name front into at room n size within fetched before = record {
  so = λ t stream holds.
      let f = fetched t in
      let piece = take n into in
      let same : f.bytes ≡ stream = held_once files name f.bytes stream f.file holds in
      let long : length (front ++ piece) ≡ at + n = omega (arith, length-append front piece, length-take n into, size, within) in
      let first : front ≡ take at stream = before.so t stream holds ∙ ap (λ m. take m stream) size in
      let second : piece ≡ take n (drop at stream) = f.so ∙ ap (bytes_at at n) same in
      (λ k. first k ++ second k) ∙ sym (take-add at n stream) ∙ ap (λ m. take m stream) (sym long);
}

-- a front, and what is behind it
pub front_rest : (told : Type 0) (files : FileMap) (name front : List ℕ) → IsFront told files name front → told → (stream : List ℕ) → Holds files name stream → front ++ drop (length front) stream ≡ stream
front_rest told files name front is t stream holds = ap (λ xs. xs ++ drop (length front) stream) (is.so t stream holds) ∙ take-append-drop (length front) stream

-- a chunker without a decided chunk has room for a piece
pub piece_is : (r held : ℕ) (piece : List ℕ) → length piece ≤ 65536 → held < 65536 → r ≡ min (length piece) (131072 - held) → take r piece ≡ piece
piece_is r held piece small short is = take_all r piece (omega (arith, is))

-- a chunker that goes on, though its stream isn't over
pub goes_on : (over : Type 0) (t : Given) (stream : List ℕ) (taken : List (List ℕ)) (c : Chunking) (a b : Staging) (told : Type 0) (old new : List ℕ) → StagesOn over t stream taken c a b told old new → StagesOn ⊥ t stream taken c a b told old new
goes_on over t stream taken c a b told old new goes = record { all = goes.all; fed = goes.fed; has = goes.has; put = goes.put; ended = λ none. absurd none }

pub fills_more : (t : Given) (at room n : ℕ) (told files_told : Type 0) (c e : Chunking) (a b : Staging) (old new : List ℕ) (files : FileMap) (name into piece : List ℕ) →
    ComesIn t at c a told old files_told files name → n ≤ length into → (files_told → Fetches files name at room n into) → piece ≡ take n into →
    ((stream : List ℕ) (taken : List (List ℕ)) → HasFed (cut_in t.sizes) stream taken c → HasTaken t taken a → StagesOn ⊥ t (stream ++ piece) taken e a b told old new) →
    ComesIn t (at + n) e b told new files_told files name
fills_more t at room n told files_told c e a b old new files name into piece before within fetched is goes =
    let after = goes before.front before.taken before.fed before.has in
    record {
      front = before.front ++ piece;
      taken = after.all;
      size = omega (arith, length-append before.front piece, before.size, ap length is, length-take n into, within);
      fed = after.fed;
      has = after.has;
      put = λ d. after.put d (before.put d);
      is_front = subst (λ p. IsFront files_told files name (before.front ++ p)) (sym is) (front_more files_told files name before.front into at room n before.size within fetched before.is_front);
    }

-- so many bytes that no sum of them passes 64 bits
pub filled_small : (terms : Terms) (at : ℕ) (c : Chunking) (a : Staging) (space : Allotment) (told : Type 0) (image : List ℕ) (files_told : Type 0) (files : FileMap) (name : List ℕ) →
    IsStaging (given_of terms) space a → ComesIn (given_of terms) at c a told image files_told files name → length c.held < 65536 → at < 2 ^ 52
filled_small terms at c a space told image files_told files name staging fills short =
    let small : IsSmall a = staging_is_small terms a space staging in
    omega (arith, small.entries, small.stream, fills.has.stream_bytes, fills.size, ap length fills.fed.bytes, length-append (concat fills.taken) c.held, short)

-- a piece less of a source is what was fetched of it, and the pieces before
pub rest_of : (t : Given) (at room n : ℕ) (c : Chunking) (a : Staging) (told : Type 0) (image : List ℕ) (files_told : Type 0) (files : FileMap) (name into piece : List ℕ) →
    (before : ComesIn t at c a told image files_told files name) → n ≤ length into → (files_told → Fetches files name at room n into) → piece ≡ take n into →
    files_told → (stream : List ℕ) → Holds files name stream → (before.front ++ piece) ++ drop (length (before.front ++ piece)) stream ≡ stream
rest_of t at room n c a told image files_told files name into piece before within fetched is =
    front_rest files_told files name (before.front ++ piece)
    (subst (λ p. IsFront files_told files name (before.front ++ p)) (sym is) (front_more files_told files name before.front into at room n before.size within fetched before.is_front))

-- one piece more
pub missing_more : (files other : FileMap) (name : List ℕ) (a b d : ℕ) → other ≡ files → CountsMissing files name a b → CountsMissing other name b d → CountsMissing files name a d
missing_more files other name a b d same first next = record {
  later = omega (arith, first.later, next.later);
  cause = ⊎_elim
      (λ stays. ⊎_elim (λ before. inl (stays ∙ before)) (λ lacks. inr lacks) first.cause)
      (λ lacks. inr (subst (λ f. Lacks f name) same lacks))
      next.cause;
}

-- a piece without bytes is behind the source
pub ended : (files : FileMap) (name into : List ℕ) (at room n : ℕ) → n ≡ 0 → room ≡ 65536 → Fetches files name at room n into → (stream : List ℕ) → Holds files name stream → length stream ≤ at
ended files name into at room n none some f stream holds =
    let same : f.bytes ≡ stream = held_once files name f.bytes stream f.file holds in
    ⊎_elim (λ short. omega (arith, short, ap length same)) (λ no_room. absurd (omega (arith, no_room, some))) (f.ends.0 none)

-- the source ended
pub filled_all : (t : Given) (at : ℕ) (c : Chunking) (a : Staging) (told : Type 0) (image : List ℕ) (files_told : Type 0) (files : FileMap) (name : List ℕ) →
    ComesIn t at c a told image files_told files name → (files_told → (stream : List ℕ) → Holds files name stream → length stream ≤ at) → HasCome t c a told image files_told files name
filled_all t at c a told image files_told files name fills ended = record {
  stream = fills.front;
  taken = fills.taken;
  fed = fills.fed;
  has = fills.has;
  put = fills.put;
  whole = λ f bytes holds. fills.is_front.so f bytes holds ∙ take_all (length fills.front) bytes (omega (arith, ended f bytes holds, fills.size));
}
