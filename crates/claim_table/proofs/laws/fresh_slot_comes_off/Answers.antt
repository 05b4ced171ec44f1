use Rattle.claim_table.proofs.Occurrences.{without-push}
use Rattle.claim_table.proofs.laws.fresh_slot_comes_off.Goals as goal

pub returns : goal.returns
returns c = without-push
