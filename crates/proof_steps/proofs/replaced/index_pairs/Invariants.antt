-- The pairs that are left leave of the steps that are left what all pairs leave.
use Rattle.std.proofs.Common.{◌≡◌, [], drop}
use Rattle.std.specs.Option.{option_map}
use Rattle.rule_terms.specs.TermView.{terms_of}
use Rattle.law_clauses.specs.Arguments.{index_arguments}
use Rattle.proof_steps.specs.Replaced.{left_by_pairs}
use Rattle.proof_steps.proofs.replaced.index_pairs.Given as goal

abbrev pub invariant-loop-i : goal.invariant-loop-i
invariant-loop-i l =
    left_by_pairs l.earlier (option_map (λ k. drop k l.from) l.at) (index_arguments (terms_of (drop l.i l.vs)) []) (index_arguments (terms_of (drop l.i l.ws)) [])
    ≡ left_by_pairs l.earlier (option_map (λ k. drop k l.from) l.fn.at) (index_arguments (terms_of l.vs) []) (index_arguments (terms_of l.ws) [])
