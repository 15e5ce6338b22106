use Rattle.bd_disk.proofs.Frames.{leaves_both}
use Rattle.bd_disk.proofs.RunLemmas.{both_work, written}
use Rattle.bd_model.specs.Sizes.{sizes_of}
use Rattle.bd_recover.proofs.Stops.{behind, gate_before, made, opens, parts_before, shut_before}
use Rattle.std.proofs.Common.{rules}
use Rattle.bd_recover.proofs.FirstCalls.{syncs_on}
use Rattle.bd_recover.proofs.formatting.format_disk.Goals as goal

pub returns-in_err-write_parts-clause-stops : goal.returns-in_err-write_parts-clause-stops
returns-in_err-write_parts-clause-stops g c = λ told none settled.
    leaves_both (c.shut_gate.ensures.stops told none settled)
    (behind (sizes_of c.args.shape.now) (c.in_ok-shut_gate.ensures.shut told) (c.in_ok-shut_gate.ensures.settled told settled) (written c.write_parts.ensures.disk told))

pub returns-in_err-store-clause-stops : goal.returns-in_err-store-clause-stops
returns-in_err-store-clause-stops g c = λ told none settled.
    let s = sizes_of c.args.shape.now in
    leaves_both (c.shut_gate.ensures.stops told none settled)
    (leaves_both
    (behind s (c.in_ok-shut_gate.ensures.shut told) (c.in_ok-shut_gate.ensures.settled told settled) (written c.write_parts.ensures.disk told))
    (opens s c.args.shape.now.in_range (c.in_ok-write_parts.ensures.fresh told) (c.in_ok-write_parts.ensures.settled told) (written c.store.ensures.disk told)))

pub returns-clause-made : goal.returns-clause-made
returns-clause-made g c = λ told.
    made (sizes_of c.args.shape.now) c.args.shape.now.in_range (c.in_ok-write_parts.ensures.fresh told) (c.in_ok-store.ensures.stored told).stores

pub returns-clause-stops : goal.returns-clause-stops
returns-clause-stops g c = λ told none settled.
    let s = sizes_of c.args.shape.now in
    leaves_both (c.shut_gate.ensures.stops told none settled)
    (leaves_both
    (behind s (c.in_ok-shut_gate.ensures.shut told) (c.in_ok-shut_gate.ensures.settled told settled) (written c.write_parts.ensures.disk told))
    (opens s c.args.shape.now.in_range (c.in_ok-write_parts.ensures.fresh told) (c.in_ok-write_parts.ensures.settled told) (written c.store.ensures.disk told)))

pub returns-in_err-shut_gate-clause-disk : goal.returns-in_err-shut_gate-clause-disk
returns-in_err-shut_gate-clause-disk g c = shut_before (sizes_of c.args.shape.now) c.shut_gate.ensures.disk

pub returns-in_err-shut_gate-clause-answer : goal.returns-in_err-shut_gate-clause-answer
returns-in_err-shut_gate-clause-answer g c = record { size = search rules; refused = search rules; untouched = λ told fault is. c.shut_gate.ensures.answer.untouched told fault is }

pub returns-in_err-write_parts-clause-disk : goal.returns-in_err-write_parts-clause-disk
returns-in_err-write_parts-clause-disk g c = both_work (shut_before (sizes_of c.args.shape.now) c.shut_gate.ensures.disk) (parts_before (sizes_of c.args.shape.now) c.write_parts.ensures.disk)

pub returns-in_err-write_parts-clause-answer : goal.returns-in_err-write_parts-clause-answer
returns-in_err-write_parts-clause-answer g c = record { size = search rules; refused = search rules; untouched = λ told fault is. absurd (cc (c.in_ok-shut_gate.ensures.answer.refused told, is)) }

pub returns-in_err-store-clause-disk : goal.returns-in_err-store-clause-disk
returns-in_err-store-clause-disk g c = both_work (shut_before (sizes_of c.args.shape.now) c.shut_gate.ensures.disk) (both_work (parts_before (sizes_of c.args.shape.now) c.write_parts.ensures.disk) (gate_before (sizes_of c.args.shape.now) c.store.ensures.disk))

pub returns-in_err-store-clause-answer : goal.returns-in_err-store-clause-answer
returns-in_err-store-clause-answer g c = record { size = search rules; refused = search rules; untouched = λ told fault is. absurd (cc (c.in_ok-shut_gate.ensures.answer.refused told, is)) }

pub returns-clause-disk : goal.returns-clause-disk
returns-clause-disk g c = both_work (shut_before (sizes_of c.args.shape.now) c.shut_gate.ensures.disk) (both_work (parts_before (sizes_of c.args.shape.now) c.write_parts.ensures.disk) (gate_before (sizes_of c.args.shape.now) c.store.ensures.disk))

pub returns-clause-answer : goal.returns-clause-answer
returns-clause-answer g c = record { size = search rules; refused = search rules; untouched = λ told fault is. absurd (cc (c.in_ok-shut_gate.ensures.answer.refused told, is)) }

pub returns-in_err-write_parts-clause-synced : goal.returns-in_err-write_parts-clause-synced
returns-in_err-write_parts-clause-synced g c = λ told. syncs_on (c.shut_gate.ensures.synced told) (written c.write_parts.ensures.disk told)

pub returns-in_err-store-clause-synced : goal.returns-in_err-store-clause-synced
returns-in_err-store-clause-synced g c = λ told. syncs_on (syncs_on (c.shut_gate.ensures.synced told) (written c.write_parts.ensures.disk told)) (written c.store.ensures.disk told)

pub returns-clause-synced : goal.returns-clause-synced
returns-clause-synced g c = λ told. syncs_on (syncs_on (c.shut_gate.ensures.synced told) (written c.write_parts.ensures.disk told)) (written c.store.ensures.disk told)
