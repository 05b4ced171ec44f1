use Rattle.entry_pairs.proofs.EntryListed.{cuts_are_entry_list}
use Rattle.entry_pairs.proofs.laws.cuts_are_entry_list.Goals as goal

pub returns : goal.returns
returns c = cuts_are_entry_list
