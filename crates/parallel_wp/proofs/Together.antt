-- The nodes of an obligation at a pair of paths, and counts of it that stand still.
use Rattle.std.proofs.Common.{◌≡◌, ◌<◌, ◌+◌, ◌-◌, ◌^◌, ℕ, ap, ◌∙◌, sym, arith}
use Rattle.std.specs.Prelude.{nat_lt}
use Rattle.std.proofs.lemmas.Bool.Decides.{nat_tests}
use Rattle.rule_terms.specs.Counts.{saturated, literals_nodes, conjunct_nodes, conjuncts_nodes, obligation_nodes}
use Rattle.rule_terms.specs.declared.obligation.Conjunct.{Conjunct}
use Rattle.rule_terms.specs.declared.obligation.Obligation.{Obligation}
use Rattle.rule_terms.specs.declared.path.Path.{Path}
use Rattle.parallel_wp.specs.Precondition.{both_literals, goal_at, precondition}
use Rattle.parallel_wp.specs.PreconditionLaws.{counted_with, ObligationNodes}
use Rattle.parallel_wp.proofs.Weighing.{literals_nodes-append}

precondition_nodes : (left right : Path) (c : Conjunct) → conjunct_nodes (precondition left right c) ≡ literals_nodes (both_literals left right) + conjunct_nodes (goal_at left right c)
precondition_nodes left right c = omega (arith, literals_nodes-append (both_literals left right) (goal_at left right c).when)

together : (ob : Obligation) (left right : Path) (c : Conjunct) → ob.path ≡ both_literals left right → ob.goal ≡ goal_at left right c
    → obligation_nodes ob ≡ conjuncts_nodes ob.known + conjunct_nodes (precondition left right c)
together ob left right c path goal =
    (λ i. conjuncts_nodes ob.known + (literals_nodes (path i) + conjunct_nodes (goal i)))
    ∙ ap (λ n. conjuncts_nodes ob.known + n) (sym (precondition_nodes left right c))

stands_still : (all known before : ℕ) → all ≡ known + before → saturated all ≡ saturated (saturated known + saturated before)
stands_still all known before e = omega (arith, e)

tells : (all still most : ℕ) → saturated all ≡ still → most < 2 ^ 64 - 1 → nat_lt most all ≡ nat_lt most still
tells all still most e small = grind (arith, nat_tests)

pub obligation_nodes_are : ObligationNodes
obligation_nodes_are ob left right c path goal =
    let nodes : obligation_nodes ob ≡ conjuncts_nodes ob.known + conjunct_nodes (precondition left right c) = together ob left right c path goal in
    let counted : saturated (obligation_nodes ob) ≡ counted_with ob.known (precondition left right c) =
    stands_still (obligation_nodes ob) (conjuncts_nodes ob.known) (conjunct_nodes (precondition left right c)) nodes in
    record {
      nodes = nodes;
      counted = counted;
      passes = λ most small. tells (obligation_nodes ob) (counted_with ob.known (precondition left right c)) most counted small;
    }
