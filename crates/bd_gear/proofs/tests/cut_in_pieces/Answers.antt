use Rattle.std.proofs.Common.{◌≡◌, ◌++◌, [], take, drop, length, ap, sym, ◌∙◌, arith, append_assoc, length-take, take-append-drop}
use Rattle.std.proofs.lemmas.List.{take_rest, take-take, take_all, append-nil}
use Rattle.std.proofs.lemmas.Bool.{eqb-true}
use Rattle.bd_model.specs.Chunks.{Cut, chunks}
use Rattle.bd_model.specs.State.{cut_of}
use Rattle.bd_gear.specs.Chunking.{Chunking}
use Rattle.bd_gear.proofs.tests.cut_in_pieces.Goals as goal

pub loop-rest-preserved : goal.loop-rest-preserved
loop-rest-preserved c =
    let cut = cut_of c.args.shape in
    let s = c.loop-rest.invariant.0.0 in
    let rest = c.loop-rest.rest.now in
    let count = c.feed-count.result in
    let piece = c.min.result in
    let fed = c.feed-count.ensures.fed cut s _ c.loop-rest.invariant.0.2 in
    let whole : s ++ take count (take piece rest) ++ drop count rest ≡ c.args.stream.now =
    append_assoc s (take count (take piece rest)) (drop count rest)
    ∙ ap (λ xs. s ++ (xs ++ drop count rest)) (take-take count piece rest (omega (arith, c.feed-count.ensures.count, length-take piece rest)))
    ∙ ap (λ xs. s ++ xs) (take-append-drop count rest)
    ∙ c.loop-rest.invariant.0.1 in
    let cut_is = c.in_ok-take_chunks.ensures.cut ∙ ap (λ (a : Chunking). a.cut) c.feed-count.ensures.appended ∙ c.loop-rest.invariant.1 in (
      (s ++ take count (take piece rest), ap (λ xs. s ++ take count (take piece rest) ++ xs) (take_rest rest count) ∙ whole, c.in_ok-take_chunks.ensures.taken cut _ fed),
      cut_is,
      c.in_ok-take_chunks.ensures.finished ∙ ap (λ (a : Chunking). a.finished) c.feed-count.ensures.appended ∙ c.loop-rest.invariant.2,
      omega (arith, c.in_ok-take_chunks.ensures.short, ap (λ (k : Cut). k.most) cut_is, ap (λ (k : Cut). k.most) c.in_ok-take_chunks.ensures.cut, c.args.shape.in_range.max_high),
    )

pub returns : goal.returns
returns c =
    let cut = cut_of c.args.shape in
    let s = c.loop-rest.invariant.0.0 in
    let rest = c.loop-rest.rest.now in
    let none : length rest ≡ 0 = eqb-true (length rest) 0 (sym c.loop-rest-test.ensures) in
    let empty : [] ≡ rest = take_all 0 rest (omega arith) in
    let whole : s ≡ c.args.stream.now = sym (append-nil s) ∙ ap (λ xs. s ++ xs) empty ∙ c.loop-rest.invariant.0.1 in
    c.in_ok-take_chunks-2.ensures.ended (ap (λ (a : Chunking). a.finished) c.finish.ensures.finished) cut s (c.finish.ensures.fed cut s _ c.loop-rest.invariant.0.2) ∙ ap (chunks cut) whole
