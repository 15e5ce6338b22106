use Rattle.std.proofs.Common.{◌∙◌, sym, string_bytes, true, false}
use Rattle.bd_words.proofs.Pairs.{half_pair, pair_asked}
use Rattle.bd_words.proofs.words.+are_options.Goals as goal

pub returns-in-len1 : goal.returns-in-len1
returns-in-len1 t c = half_pair string_bytes c.args.words.now c.in-len1.len_at_least c.in-len1.len_below

pub returns-then-is_asked_once : goal.returns-then-is_asked_once
returns-then-is_asked_once t c = c.are_options.ensures ∙ sym (pair_asked string_bytes c.args.words.now c.word-item.result c.value-item.result c.as_str.result.now c.as_str-in-len2-up.result.now true
    c.in-len2-up.len_at_least c.word-item.is c.value-item.is c.as_str.ensures.value c.as_str-in-len2-up.ensures.value (c.if-is_asked_once.ensures))

pub returns-else-is_asked_once : goal.returns-else-is_asked_once
returns-else-is_asked_once t c = c.if-is_asked_once.false ∙ sym (pair_asked string_bytes c.args.words.now c.word-item.result c.value-item.result c.as_str.result.now c.as_str-in-len2-up.result.now false
    c.in-len2-up.len_at_least c.word-item.is c.value-item.is c.as_str.ensures.value c.as_str-in-len2-up.ensures.value (c.if-is_asked_once.ensures))
