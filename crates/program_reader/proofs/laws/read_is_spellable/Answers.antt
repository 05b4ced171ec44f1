use Rattle.program_reader.proofs.ReadSpellable.{read_is_spellable}
use Rattle.program_reader.proofs.laws.read_is_spellable.Goals as goal

pub returns : goal.returns
returns c = read_is_spellable
