use Rattle.std.proofs.Common.{◌≡◌, ◌∙◌, ◌+◌, ◌-◌, ◌<◌, [], ap, arith, cond, length, length-set, get_or, drop, unwrap_or, Some}
use Rattle.std.specs.Str.{bytes_eq}
use Rattle.bd_model.specs.declared.layout.RecipeEntry.{RecipeEntry}
use Rattle.bd_recipe.specs.Marked.{first_from}
use Rattle.bd_recipe.proofs.EntriesByMark.{first_more, nexts_more}
use Rattle.bd_recipe.proofs.neighbour.Neighbour.of.Goals as goal

pub loop-index-preserved : goal.loop-index-preserved
loop-index-preserved c =
    let es = c.args.recipe.items in
    let n = c.loop-index.index in
    let d : RecipeEntry = record { mark = record { 0 = [] }; length = 0; start = 0 } in
    let all : c.as_slice.result.now ≡ es = c.as_slice.ensures in
    let is : n ≡ n - 1 + 1 = omega arith in
    let inside : n - 1 < length es = omega arith in
    let before = c.loop-index.invariant in
    let old = c.in_ok-insert.ensures.old ∙ before.firsts (get_or c.as_slice.result.now (n - 1) d).mark.0 ∙ ap (λ xs. first_from n (drop n es) (get_or xs (n - 1) d).mark.0) all in
    record {
      count = length-set c.loop-index.next.items (n - 1) c.unwrap_or.result ∙ before.count;
      firsts = λ m.
          c.in_ok-insert.ensures.updates.0 m
          ∙ ap (λ o. cond (bytes_eq (get_or c.as_slice.result.now (n - 1) d).mark.0 m) (Some (n - 1)) o) (before.firsts m)
          ∙ ap (λ xs. cond (bytes_eq (get_or xs (n - 1) d).mark.0 m) (Some (n - 1)) (first_from n (drop n es) m)) all
          ∙ first_more es (n - 1) n is inside d m;
      nexts = nexts_more es (n - 1) n is inside d c.loop-index.next.items c.unwrap_or.result before.count (c.unwrap_or.ensures ∙ ap (λ o. unwrap_or o 0) old) before.nexts;
    }
