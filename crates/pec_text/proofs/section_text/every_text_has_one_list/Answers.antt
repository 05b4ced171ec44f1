use Rattle.pec_text.proofs.SectionLemmas.{one_list}
use Rattle.pec_text.proofs.section_text.every_text_has_one_list.Goals as goal

pub returns : goal.returns
returns c = one_list
