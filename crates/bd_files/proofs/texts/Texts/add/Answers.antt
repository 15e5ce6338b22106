use Rattle.std.proofs.Common.{◌≡◌, ◌++◌, ◌∷◌, [], ◌∙◌, ap, length, rules}
use Rattle.bd_files.specs.Sinks.{whole}
use Rattle.bd_files.specs.Texts.{cut_into}
use Rattle.bd_files.proofs.TextLemmas.{cut-append}
use Rattle.bd_files.proofs.texts.Texts.add.Goals as goal

pub returns-clause-ok : goal.returns-clause-ok
returns-clause-ok c =
    let texts = c.self.inside in
    let moments : c.push.new.self.items ≡ texts.moments.items ++ c.args.moment ∷ [] = search rules in
    let lengths : c.push-2.new.self.items ≡ texts.lengths.items ++ length c.args.bytes.now ∷ [] = search rules in
    let written : c.extend_from_slice.new.self.items ≡ texts.written.items ++ c.args.bytes.now = search rules in
    ap (λ l. cut_into l c.push-2.new.self.items c.extend_from_slice.new.self.items) moments
    ∙ ap (λ l. cut_into (texts.moments.items ++ c.args.moment ∷ []) l c.extend_from_slice.new.self.items) lengths
    ∙ ap (cut_into (texts.moments.items ++ c.args.moment ∷ []) (texts.lengths.items ++ length c.args.bytes.now ∷ [])) written
    ∙ cut-append texts.moments.items texts.lengths.items texts.written.items c.args.bytes.now c.args.moment c.self.invariant
    ∙ ap (λ l. l ++ whole c.args.moment c.args.bytes.now ∷ []) c.self.view_is
