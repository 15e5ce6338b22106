use Rattle.std.proofs.Common.{◌≡◌, ◌+◌, ◌-◌, ◌++◌, take, slice_range, ap, sym, ◌∙◌, subst, arith, length, length-take}
use Rattle.std.specs.Vec.{with_items}
use Rattle.std.proofs.lemmas.List.{with_items_is}
use Rattle.bd_gear.specs.Chunking.{Chunking}
use Rattle.bd_gear.specs.Feeding.{HasFed}
use Rattle.bd_gear.proofs.FeedingLemmas.{HasFed-feed}
use Rattle.bd_gear.proofs.chunker.Chunker.feed.Goals as goal

pub returns-clause-appended : goal.returns-clause-appended
returns-clause-appended c =
    let is = c.self.view_is in
    let inside = c.self.inside in
    let start = c.make_room-self-inside.result in
    let held = inside.end - inside.start in
    let count = c.min-count.result in
    let t = take count c.args.bytes.now in
    let roomy = c.make_room-self-inside.new.buffer in
    let size : length t ≡ count = length-take count c.args.bytes.now ∙ omega arith in
    let first = c.deref_mut.ensures.value in
    let roomy_is : (with_items inside.buffer roomy).items ≡ roomy = with_items_is inside.buffer roomy (c.make_room-self-inside.auto.buffer ∙ c.deref_mut.ensures.len) in
    let second : c.deref_mut-2.result.now ≡ roomy = c.deref_mut-2.ensures.value ∙ roomy_is in
    let written : (with_items (with_items inside.buffer roomy) c.append.new.buffer).items ≡ c.append.new.buffer =
    with_items_is (with_items inside.buffer roomy) c.append.new.buffer (c.append.auto.buffer ∙ c.deref_mut-2.ensures.len) in
    let all : slice_range (with_items (with_items inside.buffer roomy) c.append.new.buffer).items start (start + held + count) ≡ c.args.self.now.held ++ t =
    (λ k. slice_range (written k) start (start + held + sym size k))
    ∙ c.append.ensures
    ∙ ap (λ xs. xs ++ t) (ap (λ xs. slice_range xs start (start + held)) second ∙ c.make_room-self-inside.ensures.kept ∙ ap (λ xs. slice_range xs inside.start inside.end) first ∙ ap (λ (v : Chunking). v.held) is) in
    (λ k. record { cut = (is k).cut; held = all k; scanned = (is k).scanned; hash = (is k).hash; found = (is k).found; finished = (is k).finished })

pub returns-clause-fed : goal.returns-clause-fed
returns-clause-fed c cut s taken h =
    let t = take c.min-count.result c.args.bytes.now in
    subst (λ v. HasFed cut (s ++ t) taken v) (sym (returns-clause-appended c)) (HasFed-feed t c.requires h)
