use Rattle.std.proofs.Common.{arith}
use Rattle.std.specs.Prelude.{true, false, not, if◌then◌else◌}
use Rattle.bd_arrange.specs.declared.cut.Stretch.{Stretch}
use Rattle.bd_arrange.proofs.Stretches.{some_of_all}
use Rattle.bd_arrange.proofs.cut.Cut.put.Goals as goal

pub with-self-requires-clause-chunks : goal.with-self-requires-clause-chunks
with-self-requires-clause-chunks c = omega (arith, some_of_all (λ (x : Stretch). if true then x.kept else not x.kept) (λ x. x.chunks) c.args.self.now.stretches.items, c.requires.sums.kept.chunks, c.requires.room.chunks)

pub with-self-requires-clause-bytes : goal.with-self-requires-clause-bytes
with-self-requires-clause-bytes c = omega (arith, some_of_all (λ (x : Stretch). if true then x.kept else not x.kept) (λ x. x.bytes) c.args.self.now.stretches.items, c.requires.sums.kept.bytes, c.requires.room.bytes)

pub with-self-requires-else-more-clause-chunks : goal.with-self-requires-else-more-clause-chunks
with-self-requires-else-more-clause-chunks c = omega (arith, some_of_all (λ (x : Stretch). if false then x.kept else not x.kept) (λ x. x.chunks) c.args.self.now.stretches.items, c.requires.sums.archived.chunks, c.requires.room.chunks)

pub with-self-requires-else-more-clause-bytes : goal.with-self-requires-else-more-clause-bytes
with-self-requires-else-more-clause-bytes c = omega (arith, some_of_all (λ (x : Stretch). if false then x.kept else not x.kept) (λ x. x.bytes) c.args.self.now.stretches.items, c.requires.sums.archived.bytes, c.requires.room.bytes)
