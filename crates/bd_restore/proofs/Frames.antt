-- Runs of calls of files that follow each other, as a clause has them.
use Rattle.std.proofs.Common.{◌≡◌, ◌∙◌, ℕ, List, refl}
use Rattle.bd_files.specs.Files.{ChangesOnly, UnfinishesOnly}
use Rattle.bd_files.specs.declared.files.Files.{Ghosts}
use Rattle.bd_files.proofs.FileLemmas.{changes_both, changes_none, unfinishes_both, unfinishes_none}
use Rattle.bd_restore.specs.Target.{ChangesTarget, KeepsOtherFiles}

module _ {F : Type 0} (g : Ghosts F) (name : List ℕ) where
  pub others_none : (a : F) → KeepsOtherFiles g name a a
  unfolding KeepsOtherFiles
  others_none a = λ tells. (refl, changes_none name (g.files a), unfinishes_none name (g.unfinished a))

  pub others_both : (a b c : F) → KeepsOtherFiles g name a b → KeepsOtherFiles g name b c → KeepsOtherFiles g name a c
  unfolding KeepsOtherFiles
  others_both a b c first second = λ tells. ((second tells).0 ∙ (first tells).0, changes_both name _ _ _ (first tells).1 (second tells).1, unfinishes_both name _ _ _ (first tells).2 (second tells).2)

-- what closes chains of calls, with each exit by `?`, and loops whose invariant has the run so far
pub ruleset targets = (others_none, others_both)

pub target_none : {F : Type 0} {g : Ghosts F} {name : List ℕ} {a : F} → ChangesTarget g name a a
target_none {F} {g} {name} {a} = record { sources = refl; others = others_none g name a }

pub target_both : {F : Type 0} {g : Ghosts F} {name : List ℕ} {a b c : F} → ChangesTarget g name a b → ChangesTarget g name b c → ChangesTarget g name a c
target_both {F} {g} {name} {a} {b} {c} first second = record { sources = second.sources ∙ first.sources; others = others_both g name a b c first.others second.others }

-- one call, by what the contract of the files says of it
pub target_once : {F : Type 0} {g : Ghosts F} {name : List ℕ} {a b : F} → g.source_faults b ≡ g.source_faults a → (g.tells → g.strays b ≡ g.strays a) → (g.tells → ChangesOnly name (g.files a) (g.files b)) →
    (g.tells → UnfinishesOnly name (g.unfinished a) (g.unfinished b)) → ChangesTarget g name a b
unfolding KeepsOtherFiles
target_once sources strays others unfinished = record { sources = sources; others = λ tells. (strays tells, others tells, unfinished tells) }

-- what a run says of files that tell
pub same_others : {F : Type 0} {g : Ghosts F} {name : List ℕ} {a b : F} → ChangesTarget g name a b → g.tells → ChangesOnly name (g.files a) (g.files b)
unfolding KeepsOtherFiles
same_others f tells = (f.others tells).1
