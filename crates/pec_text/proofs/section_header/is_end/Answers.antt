use Rattle.std.proofs.Common.{bytes_eq, sym, ap, ◌∙◌}
use Rattle.pec_text.specs.SectionHeader.{is_end, is_end_of_words}
use Rattle.pec_text.proofs.SectionHeaderLemmas.{is_end_of_other}
use Rattle.pec_text.proofs.section_header.is_end.Goals as goal

pub returns-in-Some : goal.returns-in-Some
unfolding is_end
returns-in-Some c = c.eq.ensures ∙ ap (bytes_eq c.in-Some.word.now) c.as_slice.ensures ∙ sym (ap is_end_of_words c.in-Some.ensures.found)

pub returns-in-None : goal.returns-in-None
unfolding is_end
returns-in-None c = sym (is_end_of_other _ c.in-None.ensures.none)
