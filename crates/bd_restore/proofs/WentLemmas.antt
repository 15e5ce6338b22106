-- Parts of a walk that went well one after the other, and a damage met behind them.
use Rattle.std.proofs.Common.{◌≡◌, ℕ, List, [], ◌∷◌, ◌++◌, sym, ◌∙◌, ap, subst}
use Rattle.std.proofs.lemmas.List.{append-nil}
use Rattle.std.specs.Prelude.{IsTrue}
use Rattle.std.specs.List.{list_all}
use Rattle.bd_disk.specs.History.{contents}
use Rattle.bd_disk.specs.Runs.{Reads}
use Rattle.bd_disk.specs.declared.disk.Disk.{Ghosts}
use Rattle.bd_disk.proofs.RunLemmas.{nothing_written, same_contents}
use Rattle.bd_files.specs.declared.files.Files.{Ghosts as FileGhosts}
use Rattle.bd_model.specs.declared.damage.Damage.{Damage}
use Rattle.bd_catalog.specs.Damages.{header_holds}
use Rattle.bd_catalog.specs.Rows.{RowPlace, Spot, row_spots, spots_in}
use Rattle.bd_restore.specs.Met.{MeetsOn, MetOn}
use Rattle.bd_restore.specs.Target.{held}
use Rattle.bd_restore.specs.Walk.{Gives, Walks}
use Rattle.bd_volume.specs.Headers.{HasGoodHeaders}
use Rattle.bd_restore.specs.Went.{Aim, IsReadyToFill, Moment, Went, WentOver}
use Rattle.bd_volume.proofs.ReadHeaders.{headers_row}
use Rattle.bd_restore.proofs.JoinedWalks.{gives_both, gives_none, headers_both, headers_none, met_after, met_before, spots-append, walks_both, walks_none}

module _ {D F : Type 0} (d : Ghosts D) (f : FileGhosts F) (a : Aim) where
  pub went_none : (x : Moment D F) → IsReadyToFill f a x.progress x.files → Went d f a [] x x
  went_none x ready = record {
    ready = ready;
    walk = λ told. walks_none a.sought.sizes a.sought.entries x.progress.filled.items (d.history x.disk);
    gives = λ told tells. gives_none a.sought.sizes a.sought.entries x.progress.filled.items (held (f.files x.files) a.name);
  }

  -- the records of both, as the disk that tells has them
  pub went_both : (xs ys zs all : List Spot) (x y z : Moment D F) → (d.tells → zs ≡ ys) → (d.tells → all ≡ xs ++ ys) → Went d f a xs x y → Went d f a zs y z → Went d f a all x z
  went_both xs ys zs all x y z same are one other =
      let s = a.sought.sizes in
      let entries = a.sought.entries in
      let filled = λ (m : Moment D F). m.progress.filled.items in
      let file = λ (m : Moment D F). held (f.files m.files) a.name in
      record {
        ready = other.ready;
        walk = λ told.
            subst (λ l. Walks s entries l (filled x) (filled z) (d.history x.disk) (d.history z.disk)) (sym (are told))
            (walks_both s entries xs ys (filled x) (filled y) (filled z) (one.walk told)
            (subst (λ l. Walks s entries l (filled y) (filled z) (d.history y.disk) (d.history z.disk)) (same told) (other.walk told)));
        gives = λ told tells.
            subst (λ l. Gives entries l (filled x) (file x) (file z)) (sym (are told))
            (gives_both s entries xs ys (filled x) (filled y) (file x) (file y) (file z) (one.walk told) (one.gives told tells)
            (subst (λ l. Gives entries l (filled y) (file y) (file z)) (same told) (other.gives told tells)));
      }

  pub over_none : (x : Moment D F) → IsReadyToFill f a x.progress x.files → WentOver d f a [] x x
  over_none x ready = record { went = went_none x ready; good = λ told. headers_none a.sought.sizes (contents (d.history x.disk)) }

  -- the records of one row
  pub over_row : (p : RowPlace) (x y : Moment D F) → Went d f a (row_spots a.sought.sizes (contents (d.history x.disk)) p) x y →
      (d.tells → IsTrue (list_all (header_holds a.sought.sizes p) (row_spots a.sought.sizes (contents (d.history x.disk)) p))) → WentOver d f a (p ∷ []) x y
  over_row p x y went good = record {
    went = subst (λ l. Went d f a l x y) (sym (append-nil (row_spots a.sought.sizes (contents (d.history x.disk)) p))) went;
    good = λ told. headers_row a.sought.sizes (contents (d.history x.disk)) p (good told);
  }

  module _ (xs ys all : List RowPlace) (are : all ≡ xs ++ ys) {Places : ℕ → Type 0} (x y z : Moment D F) (reads : Reads d Places x.disk y.disk) (one : WentOver d f a xs x y) where
    abbrev image : List ℕ
    image = contents (d.history x.disk)

    pub over_both : WentOver d f a ys y z → WentOver d f a all x z
    over_both other =
        let s = a.sought.sizes in
        record {
          went = went_both (spots_in s image xs) (spots_in s image ys) (spots_in s (contents (d.history y.disk)) ys) (spots_in s image all) x y z
              (λ told. ap (λ i. spots_in s i ys) (same_contents reads told))
              (λ told. ap (spots_in s image) are ∙ spots-append s image xs ys) one.went other.went;
          good = λ told.
              subst (HasGoodHeaders s image) (sym are)
              (headers_both s image xs ys (one.good told) (subst (λ i. HasGoodHeaders s i ys) (same_contents reads told) (other.good told)));
        }

    pub meets_behind : (rest more : List RowPlace) (damage : Damage) → more ≡ all ++ rest → MeetsOn d a.sought ys y z damage → MeetsOn d a.sought more x z damage
    meets_behind rest more damage goes meets = λ told.
        let w = a.sought in
        let filled = λ (m : Moment D F). m.progress.filled.items in
        let here : MetOn w image (filled y) ys damage (d.history y.disk) (d.history z.disk) =
        subst (λ i. MetOn w i (filled y) ys damage (d.history y.disk) (d.history z.disk)) (same_contents reads told) (meets told) in
        subst (λ l. MetOn w image (filled x) l damage (d.history x.disk) (d.history z.disk)) (sym (goes ∙ ap (λ l. l ++ rest) are))
        (met_before w image damage (filled x) (xs ++ ys) rest
        (met_after w image damage (filled x) (filled y) xs ys (nothing_written reads told) (one.good told) (one.went.walk told).flags here))
