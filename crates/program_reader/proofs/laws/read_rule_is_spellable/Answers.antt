use Rattle.program_reader.proofs.RuleSpellable.{read_rule_is_spellable}
use Rattle.program_reader.proofs.laws.read_rule_is_spellable.Goals as goal

pub returns : goal.returns
returns c = read_rule_is_spellable
