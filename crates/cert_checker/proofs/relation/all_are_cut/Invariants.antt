use Rattle.std.proofs.Common.{◌≡◌, drop}
use Rattle.std.specs.List.{list_all}
use Rattle.cert_checker.specs.Certificates.{is_cut_entry}
use Rattle.cert_checker.proofs.relation.all_are_cut.Given as goal

abbrev pub invariant-loop-e : goal.invariant-loop-e
invariant-loop-e l = list_all (is_cut_entry l.points) (drop l.e-index l.entries) ≡ list_all (is_cut_entry l.points) l.entries
