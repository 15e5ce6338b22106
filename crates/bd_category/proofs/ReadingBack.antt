-- Records that were written are read back.
use Rattle.std.proofs.Common.{◌≡◌, ℕ, ◌+◌, ◌-◌, ◌^◌, ◌<◌, ◌≤◌, false, cond, ◌&&◌, List, [], ◌∷◌, ◌++◌, length, take, drop, nat_le, nat_lt, le-leb, le-ltb, refl, sym, ◌∙◌, ap, arith, append_assoc, drop-drop, length-append}
use Rattle.std.specs.Prelude.{All, Ok, Err}
use Rattle.std.specs.Int.{w32, from_be_bytes}
use Rattle.std.proofs.lemmas.List.{take-append-drop, take-take, drop-take, take_at, drop_at}
use Rattle.std.proofs.lemmas.List.Elements.{All-head, All-tail}
use Rattle.std.proofs.lemmas.Nat.{from_be_bytes-to_be_bytes_4}
use Rattle.bd_disk.specs.Images.{overwritten}
use Rattle.bd_disk.proofs.AgreeLemmas.{bytes_at-overwritten}
use Rattle.bd_model.specs.Records.{Stored, four, stored_at, stored_in}
use Rattle.bd_model.specs.Sizes.{Sizes}
use Rattle.bd_model.specs.declared.damage.Damage.TheVariants.{Header as BadHeader}
use Rattle.bd_model.specs.declared.damage.Owner.{Owner}
use Rattle.bd_model.specs.declared.mark.Mark.{Mark}
use Rattle.bd_category.specs.Laws.{FitsInRow, IsWholeRecord, header_of, written_records}
use Rattle.bd_category.specs.Records.{body_at, header_at, header_in, record_with}

-- ---- one record, and what follows it

module _ (m : Mark) (body rest : List ℕ) (marked : length m.0 ≡ 32) (small : length body < 2 ^ 32) where
  abbrev bytes : List ℕ
  bytes = record_with m body ++ rest

  bytes-are : bytes ≡ four (length body) ++ (m.0 ++ (body ++ rest))
  bytes-are = append_assoc (four (length body) ++ m.0) body rest ∙ append_assoc (four (length body)) m.0 (body ++ rest)

  pub length-read : from_be_bytes w32 (take 4 bytes) ≡ length body
  length-read = ap (λ l. from_be_bytes w32 (take 4 l)) bytes-are ∙ from_be_bytes-to_be_bytes_4 (length body) small

  behind_length : drop 4 bytes ≡ m.0 ++ (body ++ rest)
  behind_length = ap (drop 4) bytes-are

  mark-read : take 32 (drop 4 bytes) ≡ m.0
  mark-read = ap (take 32) behind_length ∙ take_at m.0 (body ++ rest) 32 marked

  behind_header : drop 36 bytes ≡ body ++ rest
  behind_header = sym (drop-drop 32 4 bytes) ∙ ap (drop 32) behind_length ∙ drop_at m.0 (body ++ rest) 32 marked

  body-read : take (length body) (drop 36 bytes) ≡ body
  body-read = ap (take (length body)) behind_header ∙ take_at body rest (length body) refl

  pub stored-read : stored_at bytes ≡ record { length = length body; mark = m.0; body = body }
  stored-read = λ i. record {
    length = length-read i;
    mark = mark-read i;
    body = (ap (λ n. take n (drop 36 bytes)) length-read ∙ body-read) i;
  }

  pub rest-read : drop (36 + length body) bytes ≡ rest
  rest-read = sym (drop-drop (length body) 36 bytes) ∙ ap (drop (length body)) behind_header ∙ drop_at body rest (length body) refl

  header-read : (max : ℕ) (who : Owner) (at left : ℕ) → 1 ≤ length body → length body ≤ max → length body ≤ left → header_in max who at left (take 36 bytes) ≡ Ok (header_of m body at)
  header-read max who at left some short inside =
      let size : from_be_bytes w32 (take 4 (take 36 bytes)) ≡ length body = ap (from_be_bytes w32) (take-take 4 36 bytes (omega arith)) ∙ length-read in
      let mark : take 32 (drop 4 (take 36 bytes)) ≡ m.0 = ap (take 32) (drop-take 4 32 bytes) ∙ take-take 32 32 (drop 4 bytes) (omega arith) ∙ mark-read in
      let one = le-leb 1 (length body) some in
      let most = le-leb (length body) max short in
      let within = le-leb (length body) left inside in
      (λ i. cond ((nat_le 1 (size i) && nat_le (size i) max) && nat_le (size i) left) (Ok (record { length = size i; mark = record { 0 = mark i }; at = at })) (Err (BadHeader who at (size i) left)))
      ∙ (λ i. cond ((one i && most i) && within i) (Ok (header_of m body at)) (Err (BadHeader who at (length body) left)))

-- ---- a record among the bytes of an owner

module _ (s : Sizes) (m : Mark) (body owner : List ℕ) (at end : ℕ) (fits : FitsInRow s m body at end) (inside : end ≤ length owner) where
  abbrev now : List ℕ
  now = overwritten owner at (record_with m body)

  length-record : length (record_with m body) ≡ 36 + length body
  length-record = omega (arith, length-append (four (length body) ++ m.0) body, length-append (four (length body)) m.0, fits.mark)

  abbrev rest : List ℕ
  rest = drop (length (record_with m body)) (drop at now)

  there : drop at now ≡ record_with m body ++ rest
  there =
      sym (take-append-drop (length (record_with m body)) (drop at now))
      ∙ ap (λ front. front ++ rest) (bytes_at-overwritten owner at (record_with m body) (omega (arith, length-record, fits.inside)))

  small : length body < 2 ^ 32
  small = omega (arith, fits.short, fits.small)

  pub header-found : (who : Owner) → header_at s who at end now ≡ Ok (header_of m body at)
  header-found who =
      let wide : nat_lt (end - at) 36 ≡ false = le-ltb (end - at) 36 (omega (arith, fits.inside)) in
      ap (λ b. cond b (Err (BadHeader who at 0 (end - at))) (header_in s.max who at (end - at - 36) (take 36 (drop at now)))) wide
      ∙ ap (λ l. header_in s.max who at (end - at - 36) (take 36 l)) there
      ∙ header-read m body rest fits.mark small s.max who at (end - at - 36) fits.some fits.short (omega (arith, fits.inside))

  pub body-found : body_at (header_of m body at) now ≡ body
  body-found = ap (take (length body)) (sym (drop-drop 36 at now) ∙ ap (drop 36) there) ∙ body-read m body rest fits.mark small

-- ---- records end to end

pub records-read : (records : List Stored) (rest : List ℕ) → All IsWholeRecord records → stored_in (length records) (written_records records ++ rest) ≡ records
records-read [] rest whole = refl
records-read (r ∷ rs) rest whole =
    let is = All-head IsWholeRecord r rs whole in
    let m : Mark = record { 0 = r.mark } in
    let behind = written_records rs ++ rest in
    let small : length r.body < 2 ^ 32 = omega (arith, is.sized, is.small) in
    ap (stored_in (length (r ∷ rs))) (append_assoc (record_with m r.body) (written_records rs) rest)
    ∙ (λ i. stored-read m r.body behind is.marked small i ∷ stored_in (length rs) (drop (36 + length-read m r.body behind is.marked small i) (record_with m r.body ++ behind)))
    ∙ (λ i. record { length = sym is.sized i; mark = r.mark; body = r.body } ∷ stored_in (length rs) (rest-read m r.body behind is.marked small i))
    ∙ ap (λ xs. r ∷ xs) (records-read rs rest (All-tail IsWholeRecord r rs whole))
