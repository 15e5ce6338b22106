use Rattle.std.proofs.Common.{◌≡◌, ◌≢◌, ℕ, ◌+◌, [], ◌∷◌, length, take, sym, ◌∙◌, ap, subst, arith}
use Rattle.std.specs.Prelude.{Err}
use Rattle.std.proofs.lemmas.List.{length-take-le}
use Rattle.bd_disk.specs.History.{contents}
use Rattle.bd_disk.specs.Trace.{ReadsOnly}
use Rattle.bd_disk.proofs.RunLemmas.{both_reads, same_contents}
use Rattle.bd_disk.proofs.Traces.{reads_both}
use Rattle.bd_model.specs.Extents.{owner_bytes, places_at}
use Rattle.bd_model.specs.Marks.{mark}
use Rattle.bd_model.specs.declared.damage.Damage.TheVariants.{Body as BadBody, Length as BadLength}
use Rattle.bd_model.specs.declared.mark.Mark.{Mark}
use Rattle.bd_extio.proofs.Places.{range_small}
use Rattle.bd_extio.proofs.Within.{reads_within}
use Rattle.bd_category.specs.Places.{ReadsHeader, ReadsBody}
use Rattle.bd_category.specs.Records.{AnswersBody, AnswersHeader, body_at, header_at}
use Rattle.bd_catalog.specs.Rows.{row_end, spot_in}
use Rattle.bd_restore.specs.Met.{HasEntry, MetAt}
use Rattle.bd_restore.specs.Target.{held, Fills, PutsBody}
use Rattle.bd_restore.specs.Walk.{is_wanted, AreFlags, Walks}
use Rattle.bd_restore.specs.Went.{placed_row, placed_sizes, sought_by}
use Rattle.bd_restore.proofs.FaultPassedOn.{damaged_by, record_damage}
use Rattle.bd_volume.proofs.ReadHeaders.{good_header, header_read, header_within, is_stored}
use Rattle.bd_restore.proofs.MetByRecord.{body_met, header_met, length_met}
use Rattle.bd_restore.proofs.WrittenOver.{written_back}
use Rattle.bd_restore.proofs.WalkLemmas.{walks_unwanted, gives_unwanted, walks_wanted, gives_wanted}
use Rattle.bd_restore.proofs.plan.Wanted.read_record.Goals as goal

pub overflow_add-end : goal.overflow_add-end
overflow_add-end g c = omega (arith, range_small (placed_sizes c.args.placed.now) c.args.placed.now.extents.now c.requires.inside.numbers (omega arith) (omega arith), c.requires.inside.room)

pub overflow_add-next : goal.overflow_add-next
overflow_add-next g c = omega (arith, range_small (placed_sizes c.args.placed.now) c.args.placed.now.extents.now c.requires.inside.numbers (omega arith) (omega arith), c.requires.inside.room, c.requires.to)

pub overflow_add-next-2 : goal.overflow_add-next-2
overflow_add-next-2 g c = omega (arith, range_small (placed_sizes c.args.placed.now) c.args.placed.now.extents.now c.requires.inside.numbers (omega arith) (omega arith), c.requires.inside.room, c.in_ok-header.ensures.within)

-- ---- where it was read

pub returns-in_err-header-clause-disk : goal.returns-in_err-header-clause-disk
returns-in_err-header-clause-disk g c =
    let p = placed_row c.args.placed.now in
    reads_within p.from p.row.bytes c.requires.from (header_within c.args.at (row_end p) c.requires.to) c.read_header.ensures.disk

pub returns-then-not-wants-clause-disk : goal.returns-then-not-wants-clause-disk
returns-then-not-wants-clause-disk g c =
    let p = placed_row c.args.placed.now in
    reads_within p.from p.row.bytes c.requires.from (header_within c.args.at (row_end p) c.requires.to) c.read_header.ensures.disk

pub returns-in_err-read_front-clause-disk : goal.returns-in_err-read_front-clause-disk
returns-in_err-read_front-clause-disk g c =
    let p = placed_row c.args.placed.now in
    both_reads (reads_within p.from p.row.bytes c.requires.from (header_within c.args.at (row_end p) c.requires.to) c.read_header.ensures.disk)
    (reads_within p.from p.row.bytes (omega (arith, c.requires.from, c.in_ok-header.ensures.place)) (omega (arith, c.in_ok-header.ensures.place, c.in_ok-header.ensures.within)) c.read_front.ensures.disk)

pub returns-in_err-put_everywhere-clause-disk : goal.returns-in_err-put_everywhere-clause-disk
returns-in_err-put_everywhere-clause-disk g c =
    let p = placed_row c.args.placed.now in
    both_reads (reads_within p.from p.row.bytes c.requires.from (header_within c.args.at (row_end p) c.requires.to) c.read_header.ensures.disk)
    (reads_within p.from p.row.bytes (omega (arith, c.requires.from, c.in_ok-header.ensures.place)) (omega (arith, c.in_ok-header.ensures.place, c.in_ok-header.ensures.within)) c.read_front.ensures.disk)

pub returns-clause-disk : goal.returns-clause-disk
returns-clause-disk g c =
    let p = placed_row c.args.placed.now in
    both_reads (reads_within p.from p.row.bytes c.requires.from (header_within c.args.at (row_end p) c.requires.to) c.read_header.ensures.disk)
    (reads_within p.from p.row.bytes (omega (arith, c.requires.from, c.in_ok-header.ensures.place)) (omega (arith, c.in_ok-header.ensures.place, c.in_ok-header.ensures.within)) c.read_front.ensures.disk)

-- ---- damages

pub returns-in_err-header-clause-damage : goal.returns-in_err-header-clause-damage
returns-in_err-header-clause-damage g c =
    let s = placed_sizes c.args.placed.now in
    let p = placed_row c.args.placed.now in
    let at = c.args.at in
    let w = sought_by s c.args.self.now in
    let entries = c.args.self.now.tables in
    let filled = c.args.progress.now.filled.items in
    let before = g.D.Disk.history c.args.disk.now in
    let image = contents before in
    let now = g.D.Disk.history c.read_header.new.disk in
    record_damage (λ damage. g.D.Disk.tells → MetAt w filled p (spot_in s image p at) damage before now) c.in_err-header.field-0.0 c.from_residual.result c.from_residual.ensures.1 (λ damage is told.
    header_met w image p at filled damage c.requires.to
    (subst (λ f. AnswersHeader (header_at s p.who at (row_end p) (owner_bytes s p.extents image)) (Err f)) is (c.in_err-header.ensures.header told))
    (subst (λ f. ReadsHeader s p.extents at (row_end p) before now (Err f)) is (c.in_err-header.ensures.places told)))

pub returns-in_err-read_front-clause-damage : goal.returns-in_err-read_front-clause-damage
returns-in_err-read_front-clause-damage g c =
    let s = placed_sizes c.args.placed.now in
    let p = placed_row c.args.placed.now in
    let at = c.args.at in
    let w = sought_by s c.args.self.now in
    let entries = c.args.self.now.tables in
    let filled = c.args.progress.now.filled.items in
    let before = g.D.Disk.history c.args.disk.now in
    let image = contents before in
    let h = c.in_ok-header.header in
    let between = g.D.Disk.history c.read_header.new.disk in
    let now = g.D.Disk.history c.read_front.new.disk in
    record_damage (λ damage. g.D.Disk.tells → MetAt w filled p (spot_in s image p at) damage before now) c.in_err-read_front.field-0.0 c.from_residual-in_err-read_front.result c.from_residual-in_err-read_front.ensures.1 (λ damage is told.
    let body = body_at h (owner_bytes s p.extents (contents between)) in
    let answer : (damage ≡ BadBody p.who h.at h.mark (record { 0 = mark body })) × (mark body ≡ h.mark.0 → ⊥) = subst (λ f. AnswersBody p.who h body (take h.length c.read_front.new.buffer) (Err f)) is (c.in_err-read_front.ensures.body told) in
    let header = header_read s p.extents at (row_end p) h c.in_ok-header.ensures.within (c.in_ok-header.ensures.places told) in
    let rest : ReadsOnly (places_at s p.extents (h.at + 36) h.length) between now = subst (λ f. ReadsBody s p.extents h between now (Err f)) is (c.in_err-read_front.ensures.places told) in
    body_met w image p at filled h (c.in_ok-header.ensures.header told) c.in_ok-header.ensures.within (λ seen flags. sym c.if-not-wants.false ∙ c.wants.ensures seen (subst (AreFlags entries seen) (sym c.deref.ensures.value) flags)) damage body
    (ap (λ i. body_at h (owner_bytes s p.extents i)) (same_contents c.read_header.ensures.disk told)) answer.0 answer.1 (reads_both header rest))

pub returns-in_err-put_everywhere-clause-damage : goal.returns-in_err-put_everywhere-clause-damage
returns-in_err-put_everywhere-clause-damage g c =
    let s = placed_sizes c.args.placed.now in
    let p = placed_row c.args.placed.now in
    let at = c.args.at in
    let w = sought_by s c.args.self.now in
    let entries = c.args.self.now.tables in
    let filled = c.args.progress.now.filled.items in
    let before = g.D.Disk.history c.args.disk.now in
    let image = contents before in
    let h = c.in_ok-header.header in
    let between = g.D.Disk.history c.read_header.new.disk in
    let now = g.D.Disk.history c.read_front.new.disk in
    let body = take h.length c.deref-2.result.now in
    let read_now = c.read_front.new.buffer in
    let kept = written_back c.args.progress.now.buffer.len read_now c.args.progress.now.buffer.items c.deref_mut.result.now c.read_front.auto.buffer c.deref_mut.ensures.len in
    let whole : length c.deref-2.result.now ≡ s.max = ap length (c.deref-2.ensures.value ∙ kept) ∙ c.read_front.auto.buffer ∙ ap length c.deref_mut.ensures.value ∙ c.requires.ready.buffer in
    let size : length body ≡ h.length = length-take-le h.length c.deref-2.result.now (omega (arith, whole, c.in_ok-header.ensures.short)) in
    damaged_by (Unit {0}) (λ damage. (e : ℕ) × (m : Mark) × (damage ≡ BadLength c.args.self.now.version m e (length body)) × (m.0 ≡ h.mark.0) × (length body ≢ e) × HasEntry entries h.mark.0 e)
    (λ damage. g.D.Disk.tells → MetAt w filled p (spot_in s image p at) damage before now) c.in_err-put_everywhere.field-0.0 c.from_residual-in_err-put_everywhere.result c.from_residual-in_err-put_everywhere.ensures.1 (λ damage is told.
    let header = header_read s p.extents at (row_end p) h c.in_ok-header.ensures.within (c.in_ok-header.ensures.places told) in
    let rest = c.in_ok-read_front.ensures.places told in
    length_met w image p at filled h (c.in_ok-header.ensures.header told) c.in_ok-header.ensures.within (λ seen flags. sym c.if-not-wants.false ∙ c.wants.ensures seen (subst (AreFlags entries seen) (sym c.deref.ensures.value) flags)) damage is.1 is.0 (length body)
    is.2 is.3 size is.4 is.5 (reads_both header rest)) c.in_err-put_everywhere.ensures.damage

-- ---- a record that was walked over

pub returns-then-not-wants-clause-next : goal.returns-then-not-wants-clause-next
returns-then-not-wants-clause-next g c = record {
  goes = omega arith;
  within = omega (arith, c.from.ensures, c.in_ok-header.ensures.within);
  over = λ told.
      let s = placed_sizes c.args.placed.now in
      let p = placed_row c.args.placed.now in
      let image = contents (g.D.Disk.history c.args.disk.now) in
      let h = c.in_ok-header.header in
      let st = is_stored s p.who c.args.at (row_end p) (owner_bytes s p.extents image) h c.requires.to c.in_ok-header.ensures.within (c.in_ok-header.ensures.header told) in
      record {
        good = good_header s image p c.args.at h c.in_ok-header.ensures.within (c.in_ok-header.ensures.header told);
        ends = ap (λ n. c.args.at + 36 + n) (c.from.ensures ∙ st.size);
      };
}

pub returns-clause-next : goal.returns-clause-next
returns-clause-next g c = record {
  goes = omega arith;
  within = omega (arith, c.from.ensures, c.in_ok-header.ensures.within);
  over = λ told.
      let s = placed_sizes c.args.placed.now in
      let p = placed_row c.args.placed.now in
      let image = contents (g.D.Disk.history c.args.disk.now) in
      let h = c.in_ok-header.header in
      let st = is_stored s p.who c.args.at (row_end p) (owner_bytes s p.extents image) h c.requires.to c.in_ok-header.ensures.within (c.in_ok-header.ensures.header told) in
      record {
        good = good_header s image p c.args.at h c.in_ok-header.ensures.within (c.in_ok-header.ensures.header told);
        ends = ap (λ n. c.args.at + 36 + n) (c.from.ensures ∙ st.size);
      };
}

pub returns-then-not-wants-clause-went : goal.returns-then-not-wants-clause-went
returns-then-not-wants-clause-went g c =
    let s = placed_sizes c.args.placed.now in
    let p = placed_row c.args.placed.now in
    let at = c.args.at in
    let w = sought_by s c.args.self.now in
    let entries = c.args.self.now.tables in
    let filled = c.args.progress.now.filled.items in
    let before = g.D.Disk.history c.args.disk.now in
    let image = contents before in
    let h = c.in_ok-header.header in
    let between = g.D.Disk.history c.read_header.new.disk in
    record {
      ready = c.requires.ready;
      walk = λ told.
          let st = is_stored s p.who at (row_end p) (owner_bytes s p.extents image) h c.requires.to c.in_ok-header.ensures.within (c.in_ok-header.ensures.header told) in
          let header = header_read s p.extents at (row_end p) h c.in_ok-header.ensures.within (c.in_ok-header.ensures.places told) in
          walks_unwanted s entries p.extents at (spot_in s image p at).stored filled (λ seen flags. sym c.if-not-wants.true ∙ c.wants.ensures seen (subst (AreFlags entries seen) (sym c.deref.ensures.value) flags) ∙ ap (is_wanted entries seen) st.mark) header;
      gives = λ told tells.
          let st = is_stored s p.who at (row_end p) (owner_bytes s p.extents image) h c.requires.to c.in_ok-header.ensures.within (c.in_ok-header.ensures.header told) in
          gives_unwanted s entries p.extents at (spot_in s image p at).stored filled (λ seen flags. sym c.if-not-wants.true ∙ c.wants.ensures seen (subst (AreFlags entries seen) (sym c.deref.ensures.value) flags) ∙ ap (is_wanted entries seen) st.mark) (held (g.F.Files.files c.args.files.now) c.args.name.now);
    }

pub returns-clause-went : goal.returns-clause-went
returns-clause-went g c =
    let s = placed_sizes c.args.placed.now in
    let p = placed_row c.args.placed.now in
    let at = c.args.at in
    let w = sought_by s c.args.self.now in
    let entries = c.args.self.now.tables in
    let filled = c.args.progress.now.filled.items in
    let before = g.D.Disk.history c.args.disk.now in
    let image = contents before in
    let h = c.in_ok-header.header in
    let r = (spot_in s image p at).stored in
    let between = g.D.Disk.history c.read_header.new.disk in
    let now = g.D.Disk.history c.read_front.new.disk in
    let name = c.args.name.now in
    let new = c.put_everywhere.new.filled in
    let mine = written_back c.args.progress.now.filled.len new filled c.deref_mut-2.result.now c.put_everywhere.auto.filled c.deref_mut-2.ensures.len in
    let old_file = held (g.F.Files.files c.args.files.now) name in
    let new_file = held (g.F.Files.files c.put_everywhere.new.files) name in
    let read_now = c.read_front.new.buffer in
    let kept = written_back c.args.progress.now.buffer.len read_now c.args.progress.now.buffer.items c.deref_mut.result.now c.read_front.auto.buffer c.deref_mut.ensures.len in
    let body = take h.length c.deref-2.result.now in
    let body_is : body ≡ take h.length read_now = ap (take h.length) (c.deref-2.ensures.value ∙ kept) in
    record {
      ready = record {
        flags = ap length mine ∙ c.put_everywhere.auto.filled ∙ ap length c.deref_mut-2.ensures.value ∙ c.requires.ready.flags;
        buffer = ap length kept ∙ c.read_front.auto.buffer ∙ ap length c.deref_mut.ensures.value ∙ c.requires.ready.buffer;
        there = λ tells. c.in_ok-put_everywhere.ensures.there tells;
      };
      walk = λ told.
          let st = is_stored s p.who at (row_end p) (owner_bytes s p.extents image) h c.requires.to c.in_ok-header.ensures.within (c.in_ok-header.ensures.header told) in
          let header = header_read s p.extents at (row_end p) h c.in_ok-header.ensures.within (c.in_ok-header.ensures.places told) in
          let rest : ReadsOnly (places_at s p.extents (at + 36) r.length) between now =
          subst (λ n. ReadsOnly (places_at s p.extents (at + 36) n) between now) st.size
          (subst (λ k. ReadsOnly (places_at s p.extents (k + 36) h.length) between now) st.place (c.in_ok-read_front.ensures.places told)) in
          subst (λ l. Walks s entries (spot_in s image p at ∷ []) filled l before now) (sym mine)
          (walks_wanted s entries p.extents at r filled new (λ seen flags. sym c.if-not-wants.false ∙ c.wants.ensures seen (subst (AreFlags entries seen) (sym c.deref.ensures.value) flags) ∙ ap (is_wanted entries seen) st.mark)
          (subst (λ l. Fills entries r.mark (length entries) l new) c.deref_mut-2.ensures.value
          (subst (λ m. Fills entries m (length entries) c.deref_mut-2.result.now new) st.mark c.in_ok-put_everywhere.ensures.filled))
          (reads_both header rest));
      gives = λ told tells.
          let st = is_stored s p.who at (row_end p) (owner_bytes s p.extents image) h c.requires.to c.in_ok-header.ensures.within (c.in_ok-header.ensures.header told) in
          let same : contents between ≡ image = same_contents c.read_header.ensures.disk told in
          let read = c.in_ok-read_front.ensures.body told in
          let given : body ≡ r.body = body_is ∙ read.0 ∙ ap (λ i. body_at h (owner_bytes s p.extents i)) same ∙ st.body in
          let marked : mark r.body ≡ r.mark = ap mark (sym (ap (λ i. body_at h (owner_bytes s p.extents i)) same ∙ st.body)) ∙ read.1 ∙ st.mark in
          gives_wanted s entries p.extents at r filled (λ seen flags. sym c.if-not-wants.false ∙ c.wants.ensures seen (subst (AreFlags entries seen) (sym c.deref.ensures.value) flags) ∙ ap (is_wanted entries seen) st.mark) marked old_file new_file
          (subst (λ b. PutsBody entries r.mark b (length entries) old_file new_file) given
          (subst (λ m. PutsBody entries m body (length entries) old_file new_file) st.mark (c.in_ok-put_everywhere.ensures.put tells)));
    }
