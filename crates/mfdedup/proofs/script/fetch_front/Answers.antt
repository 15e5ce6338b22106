use Rattle.std.proofs.Common.{◌≡◌, ◌-◌, ◌∙◌, ◌≤◌, arith, length, length-drop, length-take-le, drop}
use Rattle.mfdedup.proofs.Fronts.{front_full, front_more, none_missing}
use Rattle.mfdedup.proofs.script.fetch_front.Goals as goal
use borrow.Rule.Slice.PartMut.{put_mid, same_len_mid}

pub loop-at-preserved : goal.loop-at-preserved
loop-at-preserved g c =
    let at = c.loop-at.at in
    let into = c.loop-at.into in
    let k = length into - at in
    let low : at ≤ length into = c.loop-at.invariant.within in
    let long : length c.fetch.new.into ≡ k = c.fetch.auto.into ∙ omega (arith, length-drop at into, length-take-le k (drop at into) (omega (arith, length-drop at into))) in
    let kept : length (put_mid at k into c.fetch.new.into) ≡ length into = same_len_mid at k into c.fetch.new.into c.fetch.auto.into in
    record {
      within = omega (arith, kept, c.in_ok-count.ensures.within, long, low);
      room = kept ∙ c.loop-at.invariant.room;
      sources = c.in_ok-count.ensures.cause.kept ∙ c.loop-at.invariant.sources;
      targets = c.fetch.ensures.targets ∙ c.loop-at.invariant.targets;
      same = λ told. c.fetch.ensures.same told ∙ c.loop-at.invariant.same told;
      unfinished = λ told. c.fetch.ensures.unfinished told ∙ c.loop-at.invariant.unfinished told;
      strays = λ told. none_missing _ _ _ _ c.fetch.result c.in_ok-count.count c.in_ok-count.was (c.fetch.ensures.missing told) (c.fetch.ensures.strays told) ∙ c.loop-at.invariant.strays told;
      front = λ told. front_more _ _ c.args.name.now at c.in_ok-count.count k _ into c.fetch.new.into (c.loop-at.invariant.same told) (c.in_ok-count.ensures.read told) low (omega (arith, c.in_ok-count.ensures.within, long)) (c.loop-at.invariant.front told);
    }

pub returns-after-loop-at-clause-front : goal.returns-after-loop-at-clause-front
returns-after-loop-at-clause-front g c = λ told. front_full _ _ _ _ _ (omega (arith, c.loop-at.invariant.within, c.loop-at.invariant.room, c.requires.room, c.loop-at-test.false)) (omega (arith, c.loop-at.invariant.within, c.loop-at.invariant.room, c.loop-at-test.false)) (c.loop-at.invariant.front told)
