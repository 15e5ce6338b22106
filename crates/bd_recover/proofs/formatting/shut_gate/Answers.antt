use Rattle.std.proofs.Common.{rules, sym, ◌∙◌}
use Rattle.bd_disk.proofs.Frames.{still_settled}
use Rattle.bd_disk.proofs.RunLemmas.{both_work, nothing_written, reads_work, writes_work, written}
use Rattle.bd_model.specs.Sizes.{sizes_of}
use Rattle.bd_recover.proofs.Stops.{asked, asked_and_closes, closed, not_open}
use Rattle.bd_recover.proofs.FirstCalls.{syncs_on}
use Rattle.bd_recover.proofs.formatting.shut_gate.Goals as goal

pub returns-in_err-asks_for_closing-clause-stops :
    goal.returns-in_err-asks_for_closing-clause-stops
returns-in_err-asks_for_closing-clause-stops g c = λ told none settled. asked _ none settled (nothing_written c.asks_for_closing.ensures.disk told)

pub returns-in_err-store-clause-stops : goal.returns-in_err-store-clause-stops
returns-in_err-store-clause-stops g c = λ told none settled.
    asked_and_closes (sizes_of c.args.shape.now) none (sym (c.in_ok-asks_for_closing.ensures.gate told) ∙ c.if-branch.true) settled
    (nothing_written c.asks_for_closing.ensures.disk told) (written c.store.ensures.disk told)

pub returns-in_ok-store-clause-shut : goal.returns-in_ok-store-clause-shut
returns-in_ok-store-clause-shut g c = λ told. closed (sizes_of c.args.shape.now) (c.in_ok-store.ensures.stored told).stores

pub returns-in_ok-store-clause-stops : goal.returns-in_ok-store-clause-stops
returns-in_ok-store-clause-stops g c = λ told none settled.
    asked_and_closes (sizes_of c.args.shape.now) none (sym (c.in_ok-asks_for_closing.ensures.gate told) ∙ c.if-branch.true) settled
    (nothing_written c.asks_for_closing.ensures.disk told) (written c.store.ensures.disk told)

pub returns-else-branch-clause-shut : goal.returns-else-branch-clause-shut
returns-else-branch-clause-shut g c = λ told.
    not_open (sizes_of c.args.shape.now) (sym (c.in_ok-asks_for_closing.ensures.gate told) ∙ c.if-branch.false) (nothing_written c.asks_for_closing.ensures.disk told)

pub returns-else-branch-clause-settled : goal.returns-else-branch-clause-settled
returns-else-branch-clause-settled g c = λ told settled. still_settled (nothing_written c.asks_for_closing.ensures.disk told) settled

pub returns-else-branch-clause-stops : goal.returns-else-branch-clause-stops
returns-else-branch-clause-stops g c = λ told none settled. asked _ none settled (nothing_written c.asks_for_closing.ensures.disk told)

pub returns-in_err-asks_for_closing-clause-disk : goal.returns-in_err-asks_for_closing-clause-disk
returns-in_err-asks_for_closing-clause-disk g c = reads_work _ c.asks_for_closing.ensures.disk

pub returns-in_err-asks_for_closing-clause-answer : goal.returns-in_err-asks_for_closing-clause-answer
returns-in_err-asks_for_closing-clause-answer g c = record { size = search rules; refused = search rules; untouched = λ told fault is. nothing_written c.asks_for_closing.ensures.disk told }

pub returns-in_err-store-clause-disk : goal.returns-in_err-store-clause-disk
returns-in_err-store-clause-disk g c = both_work (reads_work _ c.asks_for_closing.ensures.disk) (writes_work _ c.store.ensures.disk)

pub returns-in_err-store-clause-answer : goal.returns-in_err-store-clause-answer
returns-in_err-store-clause-answer g c = record { size = search rules; refused = search rules; untouched = λ told fault is. absurd (cc (c.in_ok-asks_for_closing.ensures.refused told, is)) }

pub returns-in_ok-store-clause-disk : goal.returns-in_ok-store-clause-disk
returns-in_ok-store-clause-disk g c = both_work (reads_work _ c.asks_for_closing.ensures.disk) (writes_work _ c.store.ensures.disk)

pub returns-in_ok-store-clause-answer : goal.returns-in_ok-store-clause-answer
returns-in_ok-store-clause-answer g c = record { size = search rules; refused = search rules; untouched = λ told fault is. absurd (cc (c.in_ok-asks_for_closing.ensures.refused told, is)) }

pub returns-else-branch-clause-disk : goal.returns-else-branch-clause-disk
returns-else-branch-clause-disk g c = reads_work _ c.asks_for_closing.ensures.disk

pub returns-else-branch-clause-answer : goal.returns-else-branch-clause-answer
returns-else-branch-clause-answer g c = record { size = search rules; refused = search rules; untouched = λ told fault is. nothing_written c.asks_for_closing.ensures.disk told }

pub returns-in_err-store-clause-synced : goal.returns-in_err-store-clause-synced
returns-in_err-store-clause-synced g c = λ told. syncs_on (c.asks_for_closing.ensures.synced told) (written c.store.ensures.disk told)

pub returns-in_ok-store-clause-synced : goal.returns-in_ok-store-clause-synced
returns-in_ok-store-clause-synced g c = λ told. syncs_on (c.asks_for_closing.ensures.synced told) (written c.store.ensures.disk told)
