use Rattle.std.proofs.Common.{◌≡◌, ◌++◌, refl, sym, ◌∙◌, ap, arith}
use Rattle.rule_terms.specs.Counts.{store_nodes, literals_nodes}
use Rattle.path_pairs.proofs.LargeWalks.{large_test}
use Rattle.path_pairs.proofs.NodesAt.{literals_append}
use Rattle.path_pairs.proofs.met.Met.with.Goals as goal

pub returns-then-nodes-gt-MOST_NODES-clause-err : goal.returns-then-nodes-gt-MOST_NODES-clause-err
returns-then-nodes-gt-MOST_NODES-clause-err c = (
  refl,
  large_test _ (omega (
    arith,
    literals_append c.args.self.now.literals c.args.outcome.now,
    c.args.self.now.literals_counted,
    c.args.self.now.store_counted,
    c.nodes_of.ensures,
    c.saturating_add-of_literals.ensures,
    c.saturating_add-nodes.ensures,
    c.if-nodes-gt-MOST_NODES.true,
  )),
)

pub invariant_of-result : goal.invariant_of-result
invariant_of-result c =
    let all : c.in_ok-literals.literals ≡ c.args.self.now.literals ++ c.args.outcome.now = c.in_ok-literals.ensures ∙ ap (λ ls. ls ++ c.args.outcome.now) c.as_slice.ensures in
    let literals : c.saturating_add-of_literals.result ≡ literals_nodes (c.args.self.now.literals ++ c.args.outcome.now) =
    omega (
      arith,
      literals_append c.args.self.now.literals c.args.outcome.now,
      c.args.self.now.literals_counted,
      c.nodes_of.ensures,
      c.saturating_add-of_literals.ensures,
      c.saturating_add-nodes.ensures,
      c.if-nodes-gt-MOST_NODES.false,
    ) in
    record {
      literals_counted = literals ∙ ap literals_nodes (sym all);
      store_counted = c.args.self.now.store_counted ∙ ap store_nodes (sym c.in_ok-store.ensures);
      within = omega (arith, c.saturating_add-nodes.ensures, c.if-nodes-gt-MOST_NODES.false);
    }
