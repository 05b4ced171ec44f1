use Rattle.std.proofs.Common.{◌≡◌, ◌+◌, refl, sym, ◌∙◌, ap, arith}
use Rattle.toy_imp.specs.ExprView.{exprs_of}
use Rattle.rule_terms.specs.Counts.{store_nodes}
use Rattle.rule_terms.specs.Term.{put}
use Rattle.rule_terms.specs.ValueAt.{number_of, value_at, values_at}
use Rattle.path_pairs.specs.NodeCounts.{expr_nodes, exprs_nodes}
use Rattle.path_pairs.proofs.LargeWalks.{large_test}
use Rattle.path_pairs.proofs.NodesAt.{put_nodes}
use Rattle.path_pairs.proofs.met.Met.write.Goals as goal

pub returns-then-nodes-gt-MOST_NODES-clause-err : goal.returns-then-nodes-gt-MOST_NODES-clause-err
returns-then-nodes-gt-MOST_NODES-clause-err c =
    let count : store_nodes (put c.args.self.store (number_of c.args.x.now) (values_at (exprs_of c.args.indices.now) c.args.self.store) (value_at c.args.e.now c.args.self.store))
    ≡ c.args.self.of_store + (exprs_nodes (exprs_of c.args.indices.now) c.args.self.of_store + expr_nodes c.args.e.now c.args.self.of_store) + 1 =
    put_nodes c.args.self.store (number_of c.args.x.now) (exprs_of c.args.indices.now) c.args.e.now c.args.self.of_store c.args.self.store_counted in
    (refl, large_test _ (omega (arith, count, c.args.self.literals_counted, c.with_written-of_store.ensures, c.saturating_add-nodes.ensures, c.if-nodes-gt-MOST_NODES.true)))

pub invariant_of-result : goal.invariant_of-result
invariant_of-result c =
    let count : store_nodes (put c.args.self.store (number_of c.args.x.now) (values_at (exprs_of c.args.indices.now) c.args.self.store) (value_at c.args.e.now c.args.self.store))
    ≡ c.args.self.of_store + (exprs_nodes (exprs_of c.args.indices.now) c.args.self.of_store + expr_nodes c.args.e.now c.args.self.of_store) + 1 =
    put_nodes c.args.self.store (number_of c.args.x.now) (exprs_of c.args.indices.now) c.args.e.now c.args.self.of_store c.args.self.store_counted in
    let exact : c.with_written-of_store.result
    ≡ store_nodes (put c.args.self.store (number_of c.args.x.now) (values_at (exprs_of c.args.indices.now) c.args.self.store) (value_at c.args.e.now c.args.self.store)) =
    omega (arith, count, c.with_written-of_store.ensures, c.saturating_add-nodes.ensures, c.if-nodes-gt-MOST_NODES.false) in
    record {
      literals_counted = c.args.self.literals_counted;
      store_counted = exact ∙ ap store_nodes (sym c.in_ok-store.ensures);
      within = omega (arith, c.saturating_add-nodes.ensures, c.if-nodes-gt-MOST_NODES.false);
    }
