use Rattle.std.proofs.Common.{◌≡◌, ◌+◌, ◌-◌, ◌%◌, length, sym, ◌∙◌, ap, subst, arith}
use Rattle.std.specs.Prelude.{IsTrue}
use Rattle.std.proofs.Math.Nat.{mod-lt}
use Rattle.bd_disk.specs.History.{History, contents}
use Rattle.bd_disk.specs.Made.{Makes, WritesOnly}
use Rattle.bd_disk.specs.Runs.{Writes}
use Rattle.bd_disk.proofs.RunLemmas.{written}
use Rattle.bd_model.specs.Sizes.{sizes_of}
use Rattle.bd_space.specs.Allotment.{TakenExactly}
use Rattle.bd_gate.specs.Commits.{FailsWithin}
use Rattle.bd_gate.specs.Halves.{Half}
use Rattle.bd_gate.specs.Standing.{IsOlderHalf, next_turn}
use Rattle.bd_gate.proofs.Commits.{part_made}
use Rattle.bd_roll.specs.Catalogue.{Catalogue, all_extents}
use Rattle.bd_catalog.specs.Ledger.{Ledger}
use Rattle.bd_catalog.specs.Opening.{Found}
use Rattle.bd_roll.specs.Rules.{obeys}
use Rattle.bd_roll.specs.Shown.{catalogue_of_contents}
use Rattle.bd_roll.specs.Spelling.{spelled}
use Rattle.bd_roll.specs.Steps.{stepped}
use Rattle.bd_catalog.specs.Steps.{catalogue_calls, InOtherHalf, LeavesBeside, StopsBeside}
use Rattle.bd_catalog.proofs.CommitLemmas.{other-beside, other-next, is-made, leaves-either}
use Rattle.bd_catalog.proofs.FrameLemmas.{length-written_back}
use Rattle.bd_roll.proofs.Lengths.{length-spelled}
use Rattle.bd_roll.proofs.RuleLemmas.{IsBounded, bounded_in, bounded_of}
use Rattle.bd_catalog.proofs.catalog.Catalog.commit.Goals as goal

pub write_beside-requires-clause-ready : goal.write_beside-requires-clause-ready
write_beside-requires-clause-ready g c = λ told.
    let found = c.args.self.now.found in
    let same = sym (ap (λ (l : Ledger). l.found) c.self.view_is ∙ c.make.ensures.found) in
    subst (λ (f : Found). IsOlderHalf f.sizes (1 - f.half.number) f.half.other_open (g.D.Disk.history c.args.disk.now)) same (other-beside found (g.D.Disk.history c.args.disk.now) (c.requires.agrees told))

pub write_beside-requires-clause-next : goal.write_beside-requires-clause-next
write_beside-requires-clause-next g c = λ told.
    let found = c.args.self.now.found in
    let same = sym (ap (λ (l : Ledger). l.found) c.self.view_is ∙ c.make.ensures.found) in
    subst (λ (f : Found). (f.half.turn + 1) % 3 ≡ next_turn f.sizes (1 - f.half.number) (contents (g.D.Disk.history c.args.disk.now))) same (other-next found (g.D.Disk.history c.args.disk.now) (c.requires.agrees told))

pub log_place-self-inside-requires-clause-fits : goal.log_place-self-inside-requires-clause-fits
log_place-self-inside-requires-clause-fits g c =
    let s = sizes_of c.self.inside.shape in
    omega (arith, ap (λ (h : Half). h.length) c.in_ok-half.ensures.half, length-spelled s (bounded_of c.self.inside.shape) (catalogue_of_contents c.self.inside.contents) c.self.inside.rules)

pub invariant_of-self-2 : goal.invariant_of-self-2
invariant_of-self-2 g c =
    let s = sizes_of c.self.inside.shape in
    let fits = length-spelled s (bounded_of c.self.inside.shape) (catalogue_of_contents c.self.inside.contents) c.self.inside.rules in
    let number : c.in_ok-half.half.number ≡ 1 - c.self.inside.half.number = ap (λ (h : Half). h.number) c.in_ok-half.ensures.half in
    let turn : c.in_ok-half.half.turn ≡ (c.self.inside.half.turn + 1) % 3 = ap (λ (h : Half). h.turn) c.in_ok-half.ensures.half in
    let size : c.in_ok-half.half.length ≡ length (spelled (catalogue_of_contents c.self.inside.contents)) = ap (λ (h : Half). h.length) c.in_ok-half.ensures.half in
    record {
      place = record {
        number = omega (arith, number);
        turn = omega (arith, turn, mod-lt (c.self.inside.half.turn + 1) {m = 3} (omega arith));
        begins = omega (arith, c.log_place-self-inside.ensures);
        ends = omega (arith, c.log_place-self-inside.ensures, size, fits);
      };
      frame = length-written_back c.self.inside.frame.len c.write_beside.new.buffer c.self.inside.frame.items (omega (arith, c.deref_mut.ensures.len)) (c.write_beside.ensures.buffer ∙ ap length c.deref_mut.ensures.value) ∙ c.self.invariant.frame;
    }

pub returns-clause-owners : goal.returns-clause-owners
returns-clause-owners g c =
    let same = sym (ap (λ (l : Ledger). l.found) c.self.view_is ∙ c.make.ensures.found) in
    subst (λ (f : Found). TakenExactly c.make.new.space (all_extents f.catalogue)) same c.make.ensures.owners

pub returns-in_err-half-clause-disk : goal.returns-in_err-half-clause-disk
returns-in_err-half-clause-disk g c =
    let same = ap (λ (l : Ledger). l.found) c.self.view_is ∙ c.make.ensures.found in
    subst (λ (f : Found). Writes g.D.Disk (InOtherHalf f) c.args.disk.now c.write_beside.new.disk) same c.write_beside.ensures.disk

pub returns-in_err-half-clause-either : goal.returns-in_err-half-clause-either
returns-in_err-half-clause-either g c = λ told.
    let found = c.args.self.now.found in
    let after : Catalogue = stepped found.catalogue c.args.step in
    let old : History = g.D.Disk.history c.args.disk.now in
    let new : History = g.D.Disk.history c.write_beside.new.disk in
    let same = ap (λ (l : Ledger). l.found) c.self.view_is ∙ c.make.ensures.found in
    let bounded : IsBounded found.sizes = bounded_in found.sizes c.args.self.now.shaped in
    let rules : IsTrue (obeys found.sizes after) = subst (λ (f : Found). IsTrue (obeys f.sizes f.catalogue)) same c.self.inside.rules in
    leaves-either found old (c.requires.agrees told) after bounded rules new
    (subst (λ (f : Found). WritesOnly (InOtherHalf f) old new) same (written c.write_beside.ensures.disk told))
    (subst (λ (f : Found). StopsBeside f.sizes f.half f.catalogue old new) same (c.write_beside.ensures.stops told))

pub returns-clause-disk : goal.returns-clause-disk
returns-clause-disk g c =
    let same = ap (λ (l : Ledger). l.found) c.self.view_is ∙ c.make.ensures.found in
    subst (λ (f : Found). Writes g.D.Disk (InOtherHalf f) c.args.disk.now c.write_beside.new.disk) same c.write_beside.ensures.disk

pub returns-clause-either : goal.returns-clause-either
returns-clause-either g c = λ told.
    let found = c.args.self.now.found in
    let after : Catalogue = stepped found.catalogue c.args.step in
    let old : History = g.D.Disk.history c.args.disk.now in
    let new : History = g.D.Disk.history c.write_beside.new.disk in
    let same = ap (λ (l : Ledger). l.found) c.self.view_is ∙ c.make.ensures.found in
    let bounded : IsBounded found.sizes = bounded_in found.sizes c.args.self.now.shaped in
    let rules : IsTrue (obeys found.sizes after) = subst (λ (f : Found). IsTrue (obeys f.sizes f.catalogue)) same c.self.inside.rules in
    leaves-either found old (c.requires.agrees told) after bounded rules new
    (subst (λ (f : Found). WritesOnly (InOtherHalf f) old new) same (written c.write_beside.ensures.disk told))
    (subst (λ (f : Found). StopsBeside f.sizes f.half f.catalogue old new) same (c.write_beside.ensures.stops told))

pub returns-clause-done : goal.returns-clause-done
returns-clause-done g c = λ told.
    let found = c.args.self.now.found in
    let after : Catalogue = stepped found.catalogue c.args.step in
    let old : History = g.D.Disk.history c.args.disk.now in
    let new : History = g.D.Disk.history c.write_beside.new.disk in
    let same = ap (λ (l : Ledger). l.found) c.self.view_is ∙ c.make.ensures.found in
    let bounded : IsBounded found.sizes = bounded_in found.sizes c.args.self.now.shaped in
    let rules : IsTrue (obeys found.sizes after) = subst (λ (f : Found). IsTrue (obeys f.sizes f.catalogue)) same c.self.inside.rules in
    is-made found old (c.requires.agrees told) after bounded rules new
    (subst (λ (f : Found). Makes (catalogue_calls f f.catalogue) old new) same (c.in_ok-half.ensures.calls told))
    (subst (λ (f : Found). LeavesBeside f.sizes f.half f.catalogue old new) same (c.in_ok-half.ensures.done told))
    (c.in_ok-half.ensures.settled told)

pub returns-in_err-half-clause-calls : goal.returns-in_err-half-clause-calls
returns-in_err-half-clause-calls g c = λ told.
    let same = ap (λ (l : Ledger). l.found) c.self.view_is ∙ c.make.ensures.found in
    part_made _ c.from_residual.result c.from_residual.ensures.1
    (subst (λ (f : Found). FailsWithin (catalogue_calls f f.catalogue) (g.D.Disk.history c.args.disk.now) (g.D.Disk.history c.write_beside.new.disk)) same (c.in_err-half.ensures.calls told))

pub returns-clause-calls : goal.returns-clause-calls
returns-clause-calls g c = λ told.
    let same = ap (λ (l : Ledger). l.found) c.self.view_is ∙ c.make.ensures.found in
    subst (λ (f : Found). Makes (catalogue_calls f f.catalogue) (g.D.Disk.history c.args.disk.now) (g.D.Disk.history c.write_beside.new.disk)) same (c.in_ok-half.ensures.calls told)
