use Rattle.std.proofs.Common.{◌≡◌, Some, None, cond, ap, sym, ◌∙◌}
use Rattle.std.proofs.lemmas.Bool.{false≢true}
use Rattle.bd_gear.specs.Chunking.{Chunking, next_given}
use Rattle.bd_gear.proofs.FeedingLemmas.{HasFed-all}
use Rattle.bd_gear.proofs.chunker.Chunker.next_length.Goals as goal
use Rattle.bd_gear.proofs.chunker.Chunker.next_length.Goals.{then-self, else-self, then-not-self, else-not-self}

pub returns-clause-ended : goal.returns-clause-ended
returns-clause-ended c =
    elim c.if-self.branch [
      | then-self w ↦ rw w.result-is tt
      | else-self w ↦ rw w.result-is (λ end cut s taken h.
          elim c.if-not-self.branch [
            | then-not-self v ↦
                let none : next_given c.if-not-self.self ≡ None = ap next_given (sym c.self-2.view_is) ∙ (λ k. cond (w.if-self.false k) (Some c.self-2.inside.scanned) None) in
                HasFed-all h end (v.look_on.ensures.next cut s taken h ∙ ap next_given (sym v.self-is) ∙ none)
            | else-not-self v ↦
                absurd (false≢true (sym w.if-self.false ∙ ap (λ (a : Chunking). a.found) (c.self-2.view_is ∙ v.self-is ∙ sym c.self.view_is) ∙ v.if-not-self.false))
          ])
    ]
