use Rattle.std.proofs.Common.{◌≡◌, ◌++◌, true, sym, ◌∙◌, ap, subst, length, take}
use Rattle.std.proofs.lemmas.Bool.{false≢true}
use Rattle.std.proofs.lemmas.Result.{on_ok_weaker}
use Rattle.bd_disk.specs.History.{contents}
use Rattle.bd_gear.specs.Chunking.{Chunking}
use Rattle.bd_gear.specs.Feeding.{HasFed}
use Rattle.bd_model.specs.Sizes.{sizes_of}
use Rattle.bd_intake.specs.Firsts.{cut_in}
use Rattle.bd_intake.specs.Given.{given_of}
use Rattle.bd_intake.proofs.FillLemmas.{goes_on, piece_is}
use Rattle.bd_intake.proofs.source.take_piece.Goals as goal

pub take_chunks-requires-clause-fed : goal.take_chunks-requires-clause-fed
take_chunks-requires-clause-fed g c =
    let fed = c.requires.fed in
    record { stream = fed.stream ++ take c.feed.result c.args.piece.now; taken = fed.taken; fed = c.feed.ensures.fed (cut_in (sizes_of c.args.terms.now.shape)) fed.stream fed.taken fed.fed }

pub returns-clause-taken : goal.returns-clause-taken
returns-clause-taken g c =
    let cut = cut_in (sizes_of c.args.terms.now.shape) in
    let piece = c.args.piece.now in
    let all : take c.feed.result piece ≡ piece = piece_is c.feed.result (length c.args.chunker.now.held) piece c.requires.few c.requires.short c.feed.ensures.count in
    on_ok_weaker c.take_chunks.result (λ goes stream taken fed has.
    goes_on (c.feed.new.self.finished ≡ true) (given_of c.args.terms.now) (stream ++ piece) taken c.take_chunks.new.chunker c.args.staging.now c.take_chunks.new.staging g.D.Disk.tells
    (contents (g.D.Disk.history c.args.disk.now)) (contents (g.D.Disk.history c.take_chunks.new.disk))
    (goes (stream ++ piece) taken (subst (λ p. HasFed cut (stream ++ p) taken c.feed.new.self) all (c.feed.ensures.fed cut stream taken fed)) has)) c.take_chunks.ensures.taken

pub returns-clause-refused : goal.returns-clause-refused
returns-clause-refused g c = λ stream more taken fed has.
    let cut = cut_in (sizes_of c.args.terms.now.shape) in
    let piece = c.args.piece.now in
    let all : take c.feed.result piece ≡ piece = piece_is c.feed.result (length c.args.chunker.now.held) piece c.requires.few c.requires.short c.feed.ensures.count in
    c.take_chunks.ensures.refused (stream ++ piece) more taken (subst (λ p. HasFed cut (stream ++ p) taken c.feed.new.self) all (c.feed.ensures.fed cut stream taken fed)) has
    (λ over. absurd (false≢true (sym c.requires.open ∙ sym (ap (λ (d : Chunking). d.finished) c.feed.ensures.appended) ∙ over)))
