use Rattle.std.proofs.Common.{◌∙◌, [], cond, refl, sym, subst, ap, true}
use Rattle.std.specs.Prelude.{slice_index_or}
use Rattle.std.specs.Str.{bytes_eq}
use Rattle.bd_model.specs.Recipe.{has_mark}
use Rattle.bd_model.specs.declared.layout.RecipeEntry.{RecipeEntry}
use Rattle.bd_model.proofs.ChunkListLemmas.{bytes_eq-same, bytes_eq-sym}
use Rattle.bd_intake.specs.Firsts.{knows}
use Rattle.bd_intake.specs.Seen.{AreUsed, SeenMarks}
use Rattle.bd_intake.proofs.KnownChunk.{flag_set, known_more, start-known, start-unknown}
use Rattle.bd_intake.proofs.seen.Seen.meet.Goals as goal

pub returns-in-Some-clause-start : goal.returns-in-Some-clause-start
returns-in-Some-clause-start c =
    let d : RecipeEntry = record { mark = record { 0 = [] }; length = 0; start = 0 } in
    ap (λ es. (slice_index_or es c.in-Some.index d).start) (c.as_slice.ensures ∙ c.entries.ensures.entries)
    ∙ sym (start-known c.args.neighbour.now.entries c.args.mark.now.0 c.in-Some.index c.args.version d (sym c.in-Some.ensures.index))

pub returns-in-Some-clause-used : goal.returns-in-Some-clause-used
returns-in-Some-clause-used c = λ came are.
    let es = c.args.neighbour.now.entries in
    flag_set es came c.self.inside.used.items (subst (AreUsed es came) (ap (λ (s : SeenMarks). s.used) (sym c.self.view_is)) are) c.args.mark.now.0 c.in-Some.index (sym c.in-Some.ensures.index)

pub returns-in_ok-insert-in-None-clause-start : goal.returns-in_ok-insert-in-None-clause-start
returns-in_ok-insert-in-None-clause-start c = sym (start-unknown c.args.neighbour.now.entries c.args.mark.now.0 c.args.version (sym c.in-None.ensures.index))

pub returns-in_ok-insert-in-None-clause-known : goal.returns-in_ok-insert-in-None-clause-known
returns-in_ok-insert-in-None-clause-known c = λ m.
    let own = c.args.mark.now.0 in
    let es = c.args.neighbour.now.entries in
    known_more (knows c.args.self.now.marks m) (knows c.insert.new.self.keys m) (bytes_eq m own) (has_mark es m)
    (c.in_ok-insert-in-None.ensures.updates.0 m
    ∙ ap (λ b. cond b true (knows c.self.inside.marks.keys m)) (bytes_eq-sym own m)
    ∙ ap (λ (s : SeenMarks). cond (bytes_eq m own) true (knows s.marks m)) c.self.view_is)
    (λ same. ap (has_mark es) (bytes_eq-same m own same) ∙ c.in-None.ensures.none.0 refl)
