use Rattle.std.proofs.Common.{◌≡◌, drop}
use Rattle.std.specs.List.{list_all}
use Rattle.cert_checker.specs.Certificates.{is_inside}
use Rattle.cert_checker.proofs.relation.all_are_inside.Given as goal

abbrev pub invariant-loop-e : goal.invariant-loop-e
invariant-loop-e l = list_all (is_inside l.rule) (drop l.e-index l.entries) ≡ list_all (is_inside l.rule) l.entries
