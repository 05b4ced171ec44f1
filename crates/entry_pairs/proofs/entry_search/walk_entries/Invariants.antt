use Rattle.std.proofs.Common.{◌≡◌, ◌-◌, true}
use Rattle.std.specs.List.{list_all}
use Rattle.entry_pairs.specs.Cuts.{walked}
use Rattle.entry_pairs.specs.CutAnswers.{may_be_entry}
use Rattle.entry_pairs.proofs.entry_search.walk_entries.Given as goal

abbrev pub invariant-loop-i : goal.invariant-loop-i
invariant-loop-i l = record {
  left : walked (64 - l.i) l.rule l.points l.i l.entries ≡ walked 64 l.rule l.points 0 l.fn.entries;
  before : list_all (may_be_entry l.rule) l.entries ≡ true;
}
