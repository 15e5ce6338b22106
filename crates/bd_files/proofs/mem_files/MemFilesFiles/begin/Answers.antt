use Rattle.std.proofs.Common.{◌≡◌, replicate, rules}
use Rattle.std.specs.FinMap as map
use Rattle.bd_files.proofs.FileLemmas.{changes_only_what_was_put}
use Rattle.bd_files.proofs.mem_files.MemFilesFiles.begin.Goals as goal

pub returns-in-Ok-clause-others : goal.returns-in-Ok-clause-others
returns-in-Ok-clause-others c =
    let zeros : c.begin_zeros.new.table ≡ map.insert c.args.self.now.files c.args.name.now (replicate c.args.length 0) = search rules in
    changes_only_what_was_put _ _ _ _ zeros
