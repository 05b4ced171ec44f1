use Rattle.std.proofs.Common.{◌≡◌, ◌+◌, true, [], ◌∷◌, ◌++◌, refl, sym, ◌∙◌, ap, arith}
use Rattle.rule_terms.specs.Counts.{store_nodes, literals_nodes}
use Rattle.rule_terms.specs.Term.{run}
use Rattle.rule_terms.specs.declared.obligation.Atom.TheVariants.{Ends}
use Rattle.path_pairs.proofs.LargeWalks.{large_test}
use Rattle.path_pairs.proofs.NodesAt.{run_nodes, end_nodes, with_end_is}
use Rattle.path_pairs.proofs.met.Met.run.Goals as goal

pub returns-then-nodes-gt-MOST_NODES-clause-err : goal.returns-then-nodes-gt-MOST_NODES-clause-err
returns-then-nodes-gt-MOST_NODES-clause-err c = (
  refl,
  large_test _ (omega (
    arith,
    end_nodes c.args.self.now.literals true c.args.k c.args.self.now.store,
    run_nodes c.args.k c.args.self.now.store,
    c.args.self.now.literals_counted,
    c.args.self.now.store_counted,
    c.if-nodes-gt-MOST_NODES.true,
  )),
)

pub invariant_of-result : goal.invariant_of-result
invariant_of-result c =
    let all : c.in_ok-literals.literals ≡ c.args.self.now.literals ++ record { sign = true; atom = Ends (run c.args.k c.args.self.now.store) } ∷ [] =
    with_end_is c.in_ok-literals.literals c.args.self.now.literals c.as_slice.result.now true c.args.k c.args.self.now.store c.in_ok-store.store c.in_ok-literals.ensures c.as_slice.ensures c.in_ok-store.ensures in
    let literals : c.args.self.now.of_literals + (c.args.self.now.of_store + 1 + 1) ≡ literals_nodes (c.args.self.now.literals ++ record { sign = true; atom = Ends (run c.args.k c.args.self.now.store) } ∷ []) =
    omega (arith, end_nodes c.args.self.now.literals true c.args.k c.args.self.now.store, c.args.self.now.literals_counted, c.args.self.now.store_counted) in
    let store : c.args.self.now.of_store + 1 ≡ store_nodes (run c.args.k c.args.self.now.store) = omega (arith, run_nodes c.args.k c.args.self.now.store, c.args.self.now.store_counted) in
    record {
      literals_counted = literals ∙ ap literals_nodes (sym all);
      store_counted = store ∙ ap store_nodes (sym c.in_ok-store.ensures);
      within = omega (arith, c.if-nodes-gt-MOST_NODES.false);
    }
