use Rattle.std.proofs.Common.{◌≡◌, ◌+◌, ◌*◌, ◌||◌, ◌&&◌, cond, not, [], ◌∷◌, ◌++◌, sym, ◌∙◌, ap, subst, arith, length}
use Rattle.std.specs.Str.{bytes_eq}
use Rattle.std.proofs.lemmas.Result.{err_from_is_err_and}
use Rattle.bd_disk.specs.History.{contents}
use Rattle.bd_disk.specs.Runs.{Writes}
use Rattle.bd_disk.proofs.RunLemmas.{no_writes}
use Rattle.bd_model.specs.Laws.{entries_of_chunks, start_in}
use Rattle.bd_model.specs.Marks.{mark}
use Rattle.bd_model.specs.Recipe.{has_mark}
use Rattle.bd_model.specs.Records.{records_of, spelled_recipe}
use Rattle.bd_model.specs.Room.{up}
use Rattle.bd_model.specs.Sizes.{sizes_of}
use Rattle.bd_model.specs.declared.layout.RecipeEntry.{RecipeEntry}
use Rattle.bd_space.specs.Allotment.{held_count}
use Rattle.bd_catalog.specs.Agreement.{InExtents}
use Rattle.bd_intake.specs.declared.staging.Staging.{Staging}
use Rattle.bd_intake.specs.Answers.{RefusesRoom}
use Rattle.bd_intake.specs.Firsts.{new_by_mark, any_marked, knows, extents_taken}
use Rattle.bd_intake.specs.Given.{Given, given_of}
use Rattle.bd_intake.specs.Putting.{IsPut, put_count}
use Rattle.bd_intake.specs.Seen.{AreUsed, SeenMarks}
use Rattle.bd_intake.specs.Spaces.{Owns}
use Rattle.bd_intake.specs.Staging.{staged_extents}
use Rattle.bd_intake.proofs.Firsts.{entry}
use Rattle.bd_intake.proofs.StagedChunks.{as_number, one_or_none, extents-after, grows_still, new_is, staging_is_small, took}
use Rattle.bd_intake.proofs.OwnedExtents.{owns_apart}
use Rattle.bd_intake.proofs.ChunkWrites.{entries-more, put_longer}
use Rattle.bd_model.proofs.RoomLemmas.{up-enough}
use Rattle.bd_intake.proofs.staging.take_chunk.Goals as goal

pub returns-in_err-met-clause-disk : goal.returns-in_err-met-clause-disk
returns-in_err-met-clause-disk g c = no_writes

pub returns-in_err-make_room-clause-disk : goal.returns-in_err-make_room-clause-disk
returns-in_err-make_room-clause-disk g c = no_writes

pub returns-in_err-make_room-clause-refused : goal.returns-in_err-make_room-clause-refused
returns-in_err-make_room-clause-refused g c = λ taken has.
    let t : Given = given_of c.args.terms.now in
    let old = c.args.staging.now in
    let body = c.args.body.now in
    let is_new = c.in_ok-met.met.is_new in
    let is : is_new ≡ not (has_mark t.old (mark body) || knows old.seen.marks (mark body)) = c.in_ok-met.ensures.is_new ∙ ap (λ m. not (has_mark t.old m || knows old.seen.marks m)) c.mark_of-own.ensures in
    let count : up t.sizes.extent (old.fresh_bytes + c.record_bytes.result) + up t.sizes.extent (40 * (old.chunks + 1)) ≡ extents_taken t.sizes.extent t.old (taken ++ body ∷ []) =
    ap (λ n. up t.sizes.extent (old.fresh_bytes + n) + up t.sizes.extent (40 * (old.chunks + 1))) c.record_bytes.ensures ∙ extents-after t taken old body is_new has is in
    let p = err_from_is_err_and c.from_residual-in_err-make_room.result c.from_residual-in_err-make_room.ensures.1 in
    rw (p.1, p.2) (subst (λ n. RefusesRoom n c.args.terms.now.free (held_count c.args.space.now) c.in_err-make_room.field-0.0) count c.in_err-make_room.ensures.refused)

pub put_parts-requires-clause-numbers : goal.put_parts-requires-clause-numbers
put_parts-requires-clause-numbers g c =
    let is = c.requires.staging in
    owns_apart (sizes_of c.args.terms.now.shape) is.base is.first c.make_room.new.space c.make_room.new.staging.recipe.numbers c.make_room.new.staging.fresh.numbers is.count (c.make_room.ensures.grows.owners is.base is.first is.owns)

pub put_parts-requires-clause-record_range : goal.put_parts-requires-clause-record_range
put_parts-requires-clause-record_range g c = λ new.
    let s = sizes_of c.args.terms.now.shape in
    let records : c.make_room.new.staging.records ≡ c.args.staging.now.records = ap (λ (a : Staging). a.records) c.make_room.ensures.same in
    let bytes : c.record_bytes.result ≡ 36 + length c.args.body.now = c.record_bytes.ensures ∙ ap (λ b. cond b (36 + length c.args.body.now) 0) new in
    omega (
      arith,
      ap put_count records,
      c.requires.staging.put.records,
      bytes,
      up-enough s.extent (c.args.staging.now.fresh_bytes + c.record_bytes.result) (length c.make_room.new.staging.fresh.numbers) (omega (arith, c.args.terms.now.shape.in_range.extent_low)) c.in_ok-make_room.ensures.fresh,
    )

pub put_parts-requires-clause-entry_range : goal.put_parts-requires-clause-entry_range
put_parts-requires-clause-entry_range g c =
    let s = sizes_of c.args.terms.now.shape in
    let entries : c.make_room.new.staging.entries ≡ c.args.staging.now.entries = ap (λ (a : Staging). a.entries) c.make_room.ensures.same in
    omega (
      arith,
      ap put_count entries,
      c.requires.staging.put.entries,
      up-enough s.extent (40 * (c.args.staging.now.chunks + 1)) (length c.make_room.new.staging.recipe.numbers) (omega (arith, c.args.terms.now.shape.in_range.extent_low)) c.in_ok-make_room.ensures.recipe,
    )

pub returns-in_err-put_parts-clause-disk : goal.returns-in_err-put_parts-clause-disk
returns-in_err-put_parts-clause-disk g c =
    subst (λ (a : Staging). Writes g.D.Disk (InExtents (sizes_of c.args.terms.now.shape) (staged_extents a)) c.args.disk.now c.put_parts.new.disk) (sym c.put_parts.ensures.same) c.put_parts.ensures.disk

pub returns-in_err-put_parts-clause-grows : goal.returns-in_err-put_parts-clause-grows
returns-in_err-put_parts-clause-grows g c =
    let grows = grows_still c.put_parts.ensures.same c.make_room.ensures.grows in record { recipe = grows.recipe; fresh = grows.fresh; owners = grows.owners }

pub returns-clause-disk : goal.returns-clause-disk
returns-clause-disk g c =
    subst (λ (a : Staging). Writes g.D.Disk (InExtents (sizes_of c.args.terms.now.shape) (staged_extents a)) c.args.disk.now c.put_parts.new.disk) (sym c.put_parts.ensures.same) c.put_parts.ensures.disk

pub returns-clause-grows : goal.returns-clause-grows
returns-clause-grows g c =
    let grows = grows_still c.put_parts.ensures.same c.make_room.ensures.grows in record { recipe = grows.recipe; fresh = grows.fresh; owners = grows.owners }

pub overflow_add-staging : goal.overflow_add-staging
overflow_add-staging g c =
    let small = staging_is_small c.args.terms.now c.args.staging.now c.args.space.now c.requires.staging in
    omega (arith, small.entries, small.few, ap (λ (a : Staging). a.fresh_chunks) c.put_parts.ensures.same, ap (λ (a : Staging). a.fresh_chunks) c.make_room.ensures.same, c.from.ensures, as_number c.in_ok-met.met.is_new, one_or_none c.in_ok-met.met.is_new)

pub overflow_add-staging-3 : goal.overflow_add-staging-3
overflow_add-staging-3 g c =
    let small = staging_is_small c.args.terms.now c.args.staging.now c.args.space.now c.requires.staging in
    omega (arith, small.entries, small.stream, ap (λ (a : Staging). a.length) c.put_parts.ensures.same, ap (λ (a : Staging). a.length) c.make_room.ensures.same, c.requires.short, c.args.terms.now.shape.in_range.max_high)

pub returns-clause-taken : goal.returns-clause-taken
returns-clause-taken g c = λ taken has.
    let t : Given = given_of c.args.terms.now in
    let old = c.args.staging.now in
    let body = c.args.body.now in
    let is_new = c.in_ok-met.met.is_new in
    let same = c.make_room.ensures.same in
    let last = c.put_parts.ensures.same in
    let own = c.mark_of-own.ensures in
    let seen : c.put_parts.new.staging.seen ≡ c.meet.new.self = ap (λ (a : Staging). a.seen) last ∙ ap (λ (a : Staging). a.seen) same in
    let is : is_new ≡ not (has_mark t.old (mark body) || knows old.seen.marks (mark body)) = c.in_ok-met.ensures.is_new ∙ ap (λ m. not (has_mark t.old m || knows old.seen.marks m)) own in
    took t taken old _ body is_new has c.requires.some c.requires.short is
    (λ m. ap (λ (s : SeenMarks). knows s.marks m) seen ∙ c.in_ok-met.ensures.known m ∙ ap (λ o. knows old.seen.marks m || (bytes_eq m o && not (has_mark t.old m))) own)
    (subst (λ (s : SeenMarks). AreUsed t.old (λ m. any_marked taken m || bytes_eq m (mark body)) s.used) (sym seen)
    (subst (λ o. AreUsed t.old (λ m. any_marked taken m || bytes_eq m o) c.meet.new.self.used) own (c.in_ok-met.ensures.used (any_marked taken) has.used)))
    (ap (λ n. old.fresh_bytes + n) c.record_bytes.ensures)
    (omega (arith, ap (λ (a : Staging). a.fresh_chunks) last, ap (λ (a : Staging). a.fresh_chunks) same, c.from.ensures, as_number is_new))
    (omega (arith, ap (λ (a : Staging). a.chunks) last, ap (λ (a : Staging). a.chunks) same))
    (omega (arith, ap (λ (a : Staging). a.length) last, ap (λ (a : Staging). a.length) same))

pub returns-clause-staging : goal.returns-clause-staging
returns-clause-staging g c =
    let is = c.requires.staging in
    let s = sizes_of c.args.terms.now.shape in
    let now = c.make_room.new.staging in
    let same = c.make_room.ensures.same in
    let last = c.put_parts.ensures.same in
    let chunks : c.put_parts.new.staging.chunks ≡ c.args.staging.now.chunks = ap (λ (a : Staging). a.chunks) last ∙ ap (λ (a : Staging). a.chunks) same in
    record {
      taken = is.taken ++ c.args.body.now ∷ [];
      has = returns-clause-taken g c is.taken is.has;
      extents = record {
        recipe = ap (λ (a : Staging). length a.recipe.numbers) last ∙ c.in_ok-make_room.ensures.recipe ∙ ap (λ n. up s.extent (40 * (n + 1))) (sym chunks);
        fresh = ap (λ (a : Staging). length a.fresh.numbers) last ∙ c.in_ok-make_room.ensures.fresh;
      };
      put = record {
        entries = omega (arith, c.in_ok-put_parts.ensures.entry_count, ap (λ (a : Staging). put_count a.entries) same, is.put.entries, chunks);
        records = c.in_ok-put_parts.ensures.record_count
            ∙ (λ k. (ap (λ (a : Staging). put_count a.records) same ∙ is.put.records) k + sym c.record_bytes.ensures k);
      };
      base = is.base;
      first = is.first;
      owns = subst (λ (a : Staging). Owns is.base is.first c.make_room.new.space a.recipe.numbers a.fresh.numbers) (sym last) (c.make_room.ensures.grows.owners is.base is.first is.owns);
      count = is.count;
      left = is.left;
    }

pub returns-clause-put : goal.returns-clause-put
returns-clause-put g c = λ told taken has was.
    let t : Given = given_of c.args.terms.now in
    let s = t.sizes in
    let old = c.args.staging.now in
    let body = c.args.body.now in
    let is_new = c.in_ok-met.met.is_new in
    let same = c.make_room.ensures.same in
    let last = c.put_parts.ensures.same in
    let grows = c.make_room.ensures.grows in
    let now = c.make_room.new.staging in
    let end = c.put_parts.new.staging in
    let image = contents (g.D.Disk.history c.args.disk.now) in
    let image_now = contents (g.D.Disk.history c.put_parts.new.disk) in
    let own = c.mark_of-own.ensures in
    let is : is_new ≡ not (has_mark t.old (mark body) || knows old.seen.marks (mark body)) = c.in_ok-met.ensures.is_new ∙ ap (λ m. not (has_mark t.old m || knows old.seen.marks m)) own in
    let before = entries_of_chunks t.old t.version taken in
    let firsts = new_by_mark t.old taken in
    let e : RecipeEntry = record { mark = c.mark_of-own.result; length = length body; start = c.in_ok-met.met.start } in
    let start : c.in_ok-met.met.start ≡ start_in t.old (mark body) t.version = c.in_ok-met.ensures.start ∙ ap (λ m. start_in t.old m t.version) own in
    let here : e ≡ entry t.old t.version body = λ k. record { mark = record { 0 = own k }; length = length body; start = start k } in
    let entries : before ++ e ∷ [] ≡ entries_of_chunks t.old t.version (taken ++ body ∷ []) = ap (λ x. before ++ x ∷ []) here ∙ sym (entries-more t.old t.version taken body) in
    record {
      recipe = subst (λ (a : Staging). IsPut s a.recipe.numbers end.entries (spelled_recipe (entries_of_chunks t.old t.version (taken ++ body ∷ []))) image_now) (sym last)
          (subst (λ es. IsPut s now.recipe.numbers end.entries (spelled_recipe es) image_now) entries
          (c.in_ok-put_parts.ensures.entries told before
          (subst (λ (a : Staging). IsPut s now.recipe.numbers a.entries (spelled_recipe before) image) (sym same)
          (put_longer s grows.recipe.0 old.recipe.numbers now.recipe.numbers old.entries (spelled_recipe before) image grows.recipe.1 was.recipe))));
      fresh = subst (λ (a : Staging). IsPut s a.fresh.numbers end.records (records_of (new_by_mark t.old (taken ++ body ∷ []))) image_now) (sym last)
          (subst (λ cs. IsPut s now.fresh.numbers end.records (records_of cs) image_now) (sym (new_is t taken old body is_new has is))
          (c.in_ok-put_parts.ensures.records told firsts
          (subst (λ (a : Staging). IsPut s now.fresh.numbers a.records (records_of firsts) image) (sym same)
          (put_longer s grows.fresh.0 old.fresh.numbers now.fresh.numbers old.records (records_of firsts) image grows.fresh.1 was.fresh))));
    }
