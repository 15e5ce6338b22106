-- The formats on small values, computed.
use Rattle.std.proofs.Common.{◌≡◌, ℕ, List, [], ◌∷◌, ◌++◌, refl, replicate, map, get_or, Some, None}
use Rattle.std.specs.List.{range_with_len}
use Rattle.bd_model.specs.History.{VersionHistory, no_versions}
use Rattle.bd_model.specs.Sizes.{Sizes, payload_room, half_bytes, disk_bytes, extent_place}
use Rattle.bd_model.specs.declared.layout.Phase.TheVariants.{Settled, Waiting}
use Rattle.bd_gate.specs.Superblock.{superblock}
use Rattle.bd_roll.specs.Catalogue.{Catalogue, empty_catalogue, entry_with}
use Rattle.bd_roll.specs.Spelling.{spelled}
use Rattle.bd_roll.specs.Rules.{catalogue_of}
use Rattle.bd_catalog.specs.Walks.{restore_reads, bodies_read}

-- a small shape: 16 extents of 64 bytes, four versions
abbrev small : Sizes
small = record { extent = 64; extents = 16; retain = 4; min = 4; bits = 0; max = 4 }

pub small_places : payload_room small ∷ half_bytes small ∷ disk_bytes small ∷ extent_place small 1 ∷ [] ≡ 856 ∷ 66403 ∷ 133894 ∷ 132934 ∷ []
small_places = refl

pub small_superblock : superblock small ≡ 0x4F ∷ 0x42 ∷ 0x44 ∷ 0x53 ∷ 0x54 ∷ 0x4F ∷ 0x52 ∷ 0x45 ∷ 0 ∷ 0 ∷ 0 ∷ 1 ∷ 0 ∷ 0 ∷ 0 ∷ 0x40 ∷ 0 ∷ 0 ∷ 0 ∷ 0x10 ∷ 0 ∷ 0 ∷ 0 ∷ 4 ∷ 0 ∷ 0 ∷ 0 ∷ 4 ∷ 0 ∷ 0 ∷ 0 ∷ 0 ∷ 0 ∷ 0 ∷ 0 ∷ 4 ∷ replicate 28 0
small_superblock = refl

pub empty_spelled : spelled empty_catalogue ≡ replicate 21 0
empty_spelled = refl

pub empty_read : catalogue_of small (replicate 21 0) ≡ Some empty_catalogue
empty_read = refl

-- one byte more, or a phase that waits with nothing retained, spells none
pub longer_read : catalogue_of small (replicate 22 0) ≡ None
longer_read = refl

pub waiting_read : catalogue_of small (replicate 12 0 ++ 1 ∷ replicate 8 0) ≡ None
waiting_read = refl

-- a version of three chunks, with its recipe in two extents and its chunks in two
abbrev one_version : Catalogue
one_version = record {
  base = 0;
  newest = 1;
  phase = Settled;
  versions = entry_with 12 3 3 (0 ∷ 1 ∷ []) ∷ [];
  volumes = [];
  actives = record { row = record { start = 1; chunks = 3; bytes = 120 }; extents = 2 ∷ 3 ∷ [] } ∷ [];
}

pub one_spelled : spelled one_version ≡
    0 ∷ 0 ∷ 0 ∷ 0 ∷ 0 ∷ 0 ∷ 0 ∷ 1 ∷ 0 ∷ 0 ∷ 0 ∷ 1 ∷ 0 ∷ 0 ∷ 0 ∷ 0 ∷ 0 ∷ []
    ++ 0 ∷ 0 ∷ 0 ∷ 0 ∷ 0 ∷ 0 ∷ 0 ∷ 12 ∷ 0 ∷ 0 ∷ 0 ∷ 0 ∷ 0 ∷ 0 ∷ 0 ∷ 3 ∷ 0 ∷ 0 ∷ 0 ∷ 0 ∷ 0 ∷ 0 ∷ 0 ∷ 3 ∷ []
    ++ 0 ∷ 0 ∷ 0 ∷ 2 ∷ 0 ∷ 0 ∷ 0 ∷ 0 ∷ 0 ∷ 0 ∷ 0 ∷ 1 ∷ []
    ++ 0 ∷ 0 ∷ 0 ∷ 1 ∷ 0 ∷ 0 ∷ 0 ∷ 1 ∷ 0 ∷ 0 ∷ 0 ∷ 0 ∷ 0 ∷ 0 ∷ 0 ∷ 3 ∷ 0 ∷ 0 ∷ 0 ∷ 0 ∷ 0 ∷ 0 ∷ 0 ∷ 120 ∷ []
    ++ 0 ∷ 0 ∷ 0 ∷ 2 ∷ 0 ∷ 0 ∷ 0 ∷ 2 ∷ 0 ∷ 0 ∷ 0 ∷ 3 ∷ []
one_spelled = refl

pub one_read : catalogue_of small (spelled one_version) ≡ Some one_version
one_read = refl

abbrev abc : List (List ℕ)
abc = (65 ∷ 65 ∷ 65 ∷ 65 ∷ []) ∷ (66 ∷ 66 ∷ 66 ∷ 66 ∷ []) ∷ (67 ∷ 67 ∷ 67 ∷ 67 ∷ []) ∷ []

abbrev one : VersionHistory
one = record (no_versions 0) { versions = abc ∷ [] }

-- the 120 bytes of the recipe, then header and body of each chunk
pub one_reads : restore_reads small one_version one 1 ≡ range_with_len 132870 120 ++ range_with_len 132998 120
unfolding restore_reads
one_reads = refl

pub one_bodies : bodies_read one Settled 1 ≡ abc
one_bodies = refl

-- a second version that lacks the chunk of 66s and has a new one, before it is arranged
abbrev acd : List (List ℕ)
acd = (65 ∷ 65 ∷ 65 ∷ 65 ∷ []) ∷ (67 ∷ 67 ∷ 67 ∷ 67 ∷ []) ∷ (68 ∷ 68 ∷ 68 ∷ 68 ∷ []) ∷ []

abbrev two : VersionHistory
two = record (no_versions 0) { versions = abc ∷ acd ∷ [] }

abbrev two_versions : Catalogue
two_versions = record {
  base = 0;
  newest = 2;
  phase = Waiting 1;
  versions =
      entry_with 12 3 3 (0 ∷ 1 ∷ [])
      ∷ entry_with 12 3 1 (4 ∷ 5 ∷ []) ∷ [];
  volumes = record { rows = []; extents = [] } ∷ [];
  actives =
      record { row = record { start = 1; chunks = 3; bytes = 120 }; extents = 2 ∷ 3 ∷ [] }
      ∷ record { row = record { start = 2; chunks = 1; bytes = 40 }; extents = 6 ∷ [] } ∷ [];
}

pub two_read : catalogue_of small (spelled two_versions) ≡ Some two_versions
two_read = refl

-- of the open category 1 the second body isn't read
pub two_reads : restore_reads small two_versions two 2 ≡ range_with_len 133126 120 ++ range_with_len 132998 76 ++ range_with_len 133078 40 ++ range_with_len 133254 40
unfolding restore_reads
two_reads = refl

pub two_bodies : bodies_read two (Waiting 1) 2 ≡ acd
two_bodies = refl

-- a third version, with the chunk of 66s back
abbrev three : VersionHistory
three = record (no_versions 0) { versions = abc ∷ acd ∷ ((66 ∷ 66 ∷ 66 ∷ 66 ∷ []) ∷ (65 ∷ 65 ∷ 65 ∷ 65 ∷ []) ∷ (68 ∷ 68 ∷ 68 ∷ 68 ∷ []) ∷ []) ∷ [] }

abbrev firsts : List (List ℕ) → List ℕ
firsts chunks = map (λ c. get_or c 0 0) chunks

-- settled: of the first version B from its own volume, C from the next, A from the open category
pub three_bodies : firsts (bodies_read three Settled 1) ∷ firsts (bodies_read three Settled 2) ∷ firsts (bodies_read three Settled 3) ∷ [] ≡ (66 ∷ 67 ∷ 65 ∷ []) ∷ (67 ∷ 65 ∷ 68 ∷ []) ∷ (65 ∷ 68 ∷ 66 ∷ []) ∷ []
three_bodies = refl

-- before arranging, C is still in the open category
pub waiting_bodies : firsts (bodies_read three (Waiting 1) 1) ∷ firsts (bodies_read three (Waiting 1) 2) ∷ [] ≡ (66 ∷ 65 ∷ 67 ∷ []) ∷ (65 ∷ 67 ∷ 68 ∷ []) ∷ []
waiting_bodies = refl

-- with the first version given up, the second is read as before
pub expired_bodies : firsts (bodies_read (record three { expired = 1 }) Settled 2) ≡ 67 ∷ 65 ∷ 68 ∷ []
expired_bodies = refl
