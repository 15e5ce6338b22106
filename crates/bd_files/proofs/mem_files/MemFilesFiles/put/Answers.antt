use Rattle.std.proofs.Common.{◌≡◌, List, ℕ, rules}
use Rattle.std.specs.FinMap as map
use Rattle.bd_disk.specs.Images.{overwritten}
use Rattle.bd_files.specs.Files.{Holds}
use Rattle.bd_files.proofs.FileLemmas.{changes_only_what_was_put}
use Rattle.bd_files.proofs.mem_files.MemFilesFiles.put.Goals as goal

pub returns-clause-others : goal.returns-clause-others
returns-clause-others c =
    let there = c.requires.there in
    let put : (old : List ℕ) → Holds c.args.self.now.files c.args.name.now old → c.overwrite.new.self ≡ map.insert c.args.self.now.files c.args.name.now (overwritten old c.args.at c.args.bytes.now) = search rules in
    changes_only_what_was_put _ _ _ _ (put there.0 there.1)
