use Rattle.std.proofs.Common.{rules, ◌≡◌, None, pos}
use Rattle.std.specs.Prelude.{replicate}
use Rattle.diff_prover.proofs.Explained.{fresh_explained}
use Rattle.diff_prover.proofs.search.solve.Goals as goal

pub lower_until_settled-requires-clause-explained : goal.lower_until_settled-requires-clause-explained
lower_until_settled-requires-clause-explained c =
    let values : c.deref_mut.result.now ≡ replicate c.args.n (pos 0) = search rules in
    let parents : c.deref_mut-2.result.now ≡ replicate c.args.n None = search rules in
    fresh_explained c.args.n c.args.rows.now _ _ values parents
