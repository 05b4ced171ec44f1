use Rattle.std.proofs.Common.{◌++◌, ◌∙◌, sym, ap, take, get_or}
use Rattle.std.proofs.lemmas.List.{append_assoc}
use Rattle.rule_terms.specs.TermView.{terms_of}
use Rattle.term_text.specs.TermText.{value_words, terms_words}
use Rattle.term_text.proofs.WordTurns.{words_take}
use Rattle.term_text.proofs.writing.+writing.Goals as goal

pub put_values-loop-v-preserved : goal.put_values-loop-v-preserved
put_values-loop-v-preserved t c =
    let items = c.args.items.now in
    let v = c.v-item.result in
    c.in_ok-put_value.ensures
    ∙ (λ j. c.loop-v.invariant j ++ value_words (c.v-item.is j))
    ∙ append_assoc c.args.out.now (terms_words (terms_of (take c.loop-v.v-index items))) (value_words (get_or items c.loop-v.v-index v))
    ∙ ap (λ ws. c.args.out.now ++ ws) (sym (words_take items c.loop-v.v-index v c.loop-v-test.true))
