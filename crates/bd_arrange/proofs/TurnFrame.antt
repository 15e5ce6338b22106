-- What a turn leaves as it was: what the catalogue names, what is kept of earlier splits, and the records of the volume.
use Rattle.std.proofs.Common.{◌≡◌, ⊎_elim, ℕ, zero, suc, ◌+◌, ◌-◌, ◌*◌, ◌/◌, ◌<◌, ◌≤◌, true, ◌&&◌, List, [], ◌∷◌, ◌++◌, length, take, map, flat_map, get_or, nat_eq, refl, sym, ◌∙◌, ap, subst, arith, length-take}
use Rattle.std.specs.Prelude.{All, Contains, IsTrue}
use Rattle.std.specs.List.{IsDistinct, list_all}
use Rattle.std.proofs.lemmas.List.Elements.{All-contains, Contains-append_cases, Contains-append_left, Contains-append_right, Contains-get_or}
use Rattle.bd_disk.specs.Images.{Agree, AgreeBut, InRange}
use Rattle.bd_disk.proofs.AgreeLemmas.{agree_fewer}
use Rattle.bd_model.specs.Extents.{owner_bytes}
use Rattle.bd_model.specs.Sizes.{Sizes, disk_bytes, extent_place}
use Rattle.bd_model.proofs.RoomLemmas.{up-enough}
use Rattle.bd_extio.specs.Ranges.{InOwner}
use Rattle.bd_extio.proofs.Places.{extent_of, length-owner_bytes, place_of-high, place_of-injective, place_of-low}
use Rattle.bd_space.specs.Allotment.{Allotment, extent_count, IsTaken, TakenExactly}
use Rattle.bd_space.specs.declared.space.Use.TheVariants.{Free}
use Rattle.std.proofs.lemmas.Option.{slice_get_within}
use Rattle.bd_space.proofs.Distinct.{distinct_apart, distinct_left, distinct_right}
use Rattle.bd_catalog.specs.Agreement.{InExtents}
use Rattle.bd_roll.specs.Catalogue.{Catalogue, OpenEntry, VersionEntry, VolumeEntry, all_extents, bytes_of_rows}
use Rattle.bd_catalog.specs.Damages.{header_holds}
use Rattle.bd_catalog.specs.Opening.{Found}
use Rattle.bd_catalog.specs.Rows.{open_row, records_at, row_bytes, row_end, row_spots, spots_from}
use Rattle.bd_roll.specs.Rules.{obeys}
use Rattle.bd_roll.specs.Splitting.{kept_extents, last_extents, last_rows}
use Rattle.bd_catalog.specs.Standing.{BeginWith}
use Rattle.bd_catalog.proofs.AgreeLemmas.{begin_with_agrees, in_extents, one_extent, owners_apart}
use Rattle.bd_volume.specs.Filled.{Filled}
use Rattle.bd_volume.specs.Growing.{CanGrow}
use Rattle.bd_volume.specs.Named.{InNamed, IsUnnamed, Named, named_by, open_named, recipe_named, volume_named}
use Rattle.bd_volume.proofs.Beside.{ends_within, free_or_taken}
use Rattle.bd_volume.proofs.NamedPlaces.{FitsNamed, all_fit, begin_named}
use Rattle.bd_volume.proofs.Unnamed.{in_flat, named_bytes_decide}
use Rattle.bd_arrange.specs.Cuts.{IsWholeCategory, bytes_in, records_in}
use Rattle.bd_arrange.specs.Desks.{InRoom, OnDesk, new_extents}
use Rattle.bd_arrange.specs.Underway.{IsStaged}

-- ---- bytes that stay

-- so many first bytes of an owner
pub front_stays : (s : Sizes) (extents : List ℕ) (n : ℕ) (old new : List ℕ) → 1 ≤ s.extent → All (λ e. e < s.extents) extents → disk_bytes s ≤ length old → n ≤ length extents * s.extent →
    Agree (InOwner s extents 0 n) old new → take n (owner_bytes s extents new) ≡ take n (owner_bytes s extents old)
front_stays s extents n old new some below room inside agree =
    let owner = owner_bytes s extents old in
    let bytes = take n owner in
    let long : length bytes ≡ n = omega (arith, length-take n owner, length-owner_bytes s extents some below old room, inside) in
    let begins : BeginWith s extents bytes old = record { front = ap (λ k. take k owner) long } in
    let stays : BeginWith s extents bytes new =
    begin_named s extents bytes old new some below room (omega (arith, long, inside)) (subst (λ k. Agree (InOwner s extents 0 k) old new) (sym long) agree) begins in
    ap (λ k. take k (owner_bytes s extents new)) (sym long) ∙ stays.front

pub among_map : {X Y : Type 0} (f : X → Y) (xs : List X) (x : X) → Contains xs x → Contains (map f xs) (f x)
among_map f [] x has = absurd (omega (arith, has.1))
among_map f (y ∷ xs) x (zero, lt, at) = (0, omega arith, ap f at)
among_map f (y ∷ xs) x (suc k, lt, at) = let rest = among_map f xs x (k, omega (arith, lt), at) in (suc rest.0, omega (arith, rest.1), rest.2)

pub open_among : (c : Catalogue) (a : OpenEntry) → Contains c.actives a → Contains (named_by c) (open_named a)
open_among c a has = Contains-append_right (map recipe_named c.versions ++ map volume_named c.volumes) (map open_named c.actives) (open_named a) (among_map open_named c.actives a has)

-- ---- a category

module _ (s : Sizes) (c : Catalogue) (some : 1 ≤ s.extent) (rules : IsTrue (obeys s c)) (old new : List ℕ) (room : disk_bytes s ≤ length old) (agree : Agree (InNamed s c) old new) (a : OpenEntry) (has : Contains c.actives a) where
  row_stays : row_bytes s new (open_row a) ≡ row_bytes s old (open_row a)
  row_stays =
      let o = open_named a in
      let among = open_among c a has in
      let fits : FitsNamed s o = All-contains (FitsNamed s) (named_by c) o (all_fit s some c rules) among in
      let n = row_end (open_row a) in
      let same : n ≡ a.row.bytes = omega arith in
      front_stays s a.extents n old new some fits.below room (omega (arith, same, fits.inside))
      (agree_fewer (InNamed s c) (InOwner s a.extents 0 n) old new (λ place p. record { owner = o; among = among; within = record { k = p.k; within = omega (arith, p.within, same); so = p.so } }) agree)

  pub spots_stay : row_spots s new (open_row a) ≡ row_spots s old (open_row a)
  spots_stay = ap (λ bytes. spots_from a.extents bytes a.row.chunks 0) row_stays

  pub records_stay : records_in s new a ≡ records_in s old a
  records_stay = ap records_at spots_stay

  pub whole_before : IsWholeCategory s new a → IsWholeCategory s old a
  whole_before whole = record {
    headers = record { each = subst (λ spots. (list_all (header_holds s (open_row a)) spots && true) ≡ true) spots_stay whole.headers.each };
    fills = ap bytes_in (sym records_stay) ∙ whole.fills;
  }

-- ---- the desk at work

-- the last volume among those that are named
last_among : (es : List VolumeEntry) → 1 ≤ length es → Contains (map volume_named es) (record { extents = last_extents es; bytes = bytes_of_rows (last_rows es) })
last_among [] some = absurd (omega (arith, some))
last_among (e ∷ []) some = (0, omega arith, refl)
last_among (e ∷ second ∷ es) some = let rest = last_among (second ∷ es) (omega arith) in (suc rest.0, omega (arith, rest.1), rest.2)

last_owned : (es : List VolumeEntry) (n : ℕ) → Contains (last_extents es) n → Contains (flat_map (λ e. e.extents) es) n
last_owned [] n has = has
last_owned (e ∷ []) n has = Contains-append_left e.extents [] n has
last_owned (e ∷ second ∷ es) n has = Contains-append_right e.extents (flat_map (λ (x : VolumeEntry). x.extents) (second ∷ es)) n (last_owned (second ∷ es) n has)

pub last_among_all : (c : Catalogue) (n : ℕ) → Contains (last_extents c.volumes) n → Contains (all_extents c) n
last_among_all c n has =
    let versions = flat_map (λ (x : VersionEntry). x.extents) c.versions in
    let volumes = flat_map (λ (x : VolumeEntry). x.extents) c.volumes in
    Contains-append_left (versions ++ volumes) (flat_map (λ (x : OpenEntry). x.extents) c.actives) n (Contains-append_right versions volumes n (last_owned c.volumes n has))

pub active_among_all : (c : Catalogue) (a : OpenEntry) → Contains c.actives a → (n : ℕ) → Contains a.extents n → Contains (all_extents c) n
active_among_all c a has n own =
    let versions = flat_map (λ (x : VersionEntry). x.extents) c.versions in
    let volumes = flat_map (λ (x : VolumeEntry). x.extents) c.volumes in
    Contains-append_right (versions ++ volumes) (flat_map (λ (x : OpenEntry). x.extents) c.actives) n (in_flat (λ (x : OpenEntry). x.extents) c.actives a n has own)

-- the newest closed volume while it grows, and whose extents are taken
pub record IsAtWork (found : Found) (space : Allotment) (desk : OnDesk) : Type 0 where
  pub grows : CanGrow found.sizes space desk.filling
  pub owners : TakenExactly space (all_extents found.catalogue ++ new_extents desk)
  pub count : extent_count space ≡ found.sizes.extents
  pub volume : 1 ≤ length found.catalogue.volumes
  pub numbers : desk.filling.numbers ≡ last_extents found.catalogue.volumes ++ desk.filling.added
  pub bytes : bytes_of_rows (last_rows found.catalogue.volumes) ≤ bytes_of_rows desk.filling.rows

module _ (found : Found) (some : 1 ≤ found.sizes.extent) (rules : IsTrue (obeys found.sizes found.catalogue)) (space : Allotment) (desk : OnDesk) (work : IsAtWork found space desk) where
  abbrev s : Sizes
  s = found.sizes

  abbrev c : Catalogue
  c = found.catalogue

  abbrev f : Filled
  f = desk.filling

  taken : (n : ℕ) → Contains (all_extents c) n → IsTaken space n
  taken n has = All-contains (IsTaken space) (all_extents c ++ new_extents desk) n work.owners.taken (Contains-append_left (all_extents c) (new_extents desk) n has)

  taken_new : (n : ℕ) → Contains (new_extents desk) n → IsTaken space n
  taken_new n has = All-contains (IsTaken space) (all_extents c ++ new_extents desk) n work.owners.taken (Contains-append_right (all_extents c) (new_extents desk) n has)

  new_apart : (n : ℕ) → Contains (all_extents c) n → Contains (new_extents desk) n → ⊥
  new_apart n = distinct_apart (all_extents c) (new_extents desk) n work.owners.once

  pub enough : bytes_of_rows f.rows ≤ length f.numbers * s.extent
  enough = up-enough s.extent (bytes_of_rows f.rows) (length f.numbers) some work.grows.extents.sized

  -- another owner's extents are apart from the volume's
  pub open_apart : (a : OpenEntry) → Contains c.actives a → (n : ℕ) → Contains a.extents n → Contains f.numbers n → ⊥
  open_apart a has n own there =
      let all = subst (λ ns. Contains ns n) work.numbers there in
      ⊎_elim
      (λ last. both_owned n own last)
      (λ added. new_apart n (active_among_all c a has n own) (Contains-append_left f.added (kept_extents desk.splits) n added))
      (Contains-append_cases (last_extents c.volumes) f.added n all)
    where
      both_owned : (m : ℕ) → Contains a.extents m → Contains (last_extents c.volumes) m → ⊥
      both_owned m mine last =
          let versions = flat_map (λ (x : VersionEntry). x.extents) c.versions in
          let volumes = flat_map (λ (x : VolumeEntry). x.extents) c.volumes in
          let actives = flat_map (λ (x : OpenEntry). x.extents) c.actives in
          let once : IsDistinct nat_eq ((versions ++ volumes) ++ actives) = distinct_left_of in
          distinct_apart (versions ++ volumes) actives m once (Contains-append_right versions volumes m (last_owned c.volumes m last)) (in_flat (λ (x : OpenEntry). x.extents) c.actives a m has mine)
        where
          distinct_left_of : IsDistinct nat_eq (all_extents c)
          distinct_left_of = distinct_left (all_extents c) (new_extents desk) work.owners.once

  kept_apart : (n : ℕ) → Contains (kept_extents desk.splits) n → Contains f.numbers n → ⊥
  kept_apart n own there =
      ⊎_elim
      (λ last. new_apart n (last_among_all c n last) (Contains-append_right f.added (kept_extents desk.splits) n own))
      (λ added. distinct_apart f.added (kept_extents desk.splits) n (distinct_right (all_extents c) (new_extents desk) work.owners.once) added own)
      (Contains-append_cases (last_extents c.volumes) f.added n (subst (λ ns. Contains ns n) work.numbers there))

  -- ---- the places that a turn may write

  rest_inside : (place : ℕ) → InOwner s f.numbers (bytes_of_rows f.rows) (length f.numbers * s.extent - bytes_of_rows f.rows) place → InExtents s f.numbers place
  rest_inside place p =
      subst (InExtents s f.numbers) (sym p.so) (in_extents s f.numbers some (bytes_of_rows f.rows + p.k) (omega (arith, p.within)))

  pub room_staged : (place : ℕ) → InRoom s space desk place → IsStaged found place
  room_staged place inside =
      ⊎_elim
      (λ free. record {
        unnamed = named_bytes_decide.unowned s c free.extent place some rules (λ owned. free_or_taken space free.extent free.free (taken free.extent owned)) free.within;
        ends = ends_within s free.extent place (omega (arith, slice_get_within space.uses free.extent Free free.free, work.count)) free.within.1;
        whose = λ extent inside owned. absurd (free_or_taken space free.extent free.free (taken free.extent (subst (Contains (all_extents c)) (one_extent s extent free.extent place inside free.within) owned)));
      })
      (λ rest.
      let o : Named = record { extents = last_extents c.volumes; bytes = bytes_of_rows (last_rows c.volumes) } in
      let among : Contains (named_by c) o =
      Contains-append_left (map recipe_named c.versions ++ map volume_named c.volumes) (map open_named c.actives) o
      (Contains-append_right (map recipe_named c.versions) (map volume_named c.volumes) o (last_among c.volumes work.volume)) in
      let n = length f.numbers * s.extent - bytes_of_rows f.rows in
      let within : bytes_of_rows f.rows + n ≤ length (last_extents c.volumes ++ f.added) * s.extent =
      omega (arith, enough, ap (λ ns. length ns * s.extent) work.numbers) in
      let unnamed : IsUnnamed s c place =
      named_bytes_decide.behind s c o f.added (bytes_of_rows f.rows) n place some rules among
      (λ e added owned. new_apart e owned (Contains-append_left f.added (kept_extents desk.splits) e added)) work.bytes within
      (subst (λ ns. InOwner s ns (bytes_of_rows f.rows) n place) work.numbers rest) in
      let there = rest_inside place rest in
      record {
        unnamed = unnamed;
        ends = ends_within s there.extent place (All-contains (λ e. e < s.extents) f.numbers there.extent work.grows.extents.extents.below there.among) there.within.1;
        whose = λ extent inside owned.
            ⊎_elim (λ last. last) (λ added. absurd (new_apart extent owned (Contains-append_left f.added (kept_extents desk.splits) extent added)))
            (Contains-append_cases (last_extents c.volumes) f.added extent
            (subst (λ ns. Contains ns extent) work.numbers (subst (Contains f.numbers) (one_extent s there.extent extent place there.within inside) there.among)));
      })
      inside

  -- ---- what stays

  module _ (now next : List ℕ) (agree : AgreeBut (InRoom s space desk) now next) where
    -- what is kept of earlier splits
    pub kept_stays : (extents bytes : List ℕ) → ((n : ℕ) → Contains extents n → Contains (kept_extents desk.splits) n) → BeginWith s extents bytes now → BeginWith s extents bytes next
    kept_stays extents bytes among begins =
        begin_with_agrees s extents bytes now next
        (agree_fewer _ (InExtents s extents) now next (λ place own inside.
        ⊎_elim
        (λ free. free_or_taken space free.extent free.free
        (taken_new free.extent (Contains-append_right f.added (kept_extents desk.splits) free.extent
        (among free.extent (subst (Contains extents) (one_extent s own.extent free.extent place own.within free.within) own.among)))))
        (λ rest. owners_apart s extents f.numbers (λ e mine there. kept_apart e (among e mine) there) place own (rest_inside place rest))
        inside) agree) begins

    -- the records of the volume
    pub volume_stays : disk_bytes s ≤ length now → take (bytes_of_rows f.rows) (owner_bytes s f.numbers next) ≡ take (bytes_of_rows f.rows) (owner_bytes s f.numbers now)
    volume_stays room =
        let n = bytes_of_rows f.rows in
        front_stays s f.numbers n now next some work.grows.extents.extents.below room enough
        (agree_fewer _ (InOwner s f.numbers 0 n) now next (λ place own inside.
        let q = 0 + own.k in
        let low : q < length f.numbers * s.extent = omega (arith, own.within, enough) in
        let e = get_or f.numbers (q / s.extent) 0 in
        let among : Contains f.numbers e = Contains-get_or f.numbers (q / s.extent) 0 (extent_of s f.numbers some q low) in
        let here : InRange (extent_place s e) s.extent place = subst (InRange (extent_place s e) s.extent) (sym own.so) (place_of-low s f.numbers some q, place_of-high s f.numbers some q) in
        ⊎_elim
        (λ free. free_or_taken space free.extent free.free
        (All-contains (IsTaken space) f.numbers free.extent work.grows.extents.taken (subst (Contains f.numbers) (one_extent s e free.extent place here free.within) among)))
        (λ rest.
        let p = n + rest.k in
        let same : q ≡ p = place_of-injective s f.numbers some work.grows.extents.extents q p low (omega (arith, rest.within)) (sym own.so ∙ rest.so) in
        omega (arith, same, own.within))
        inside) agree)
