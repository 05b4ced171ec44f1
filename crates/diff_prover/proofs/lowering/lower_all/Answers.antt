use Rattle.std.proofs.Common.{◌≡◌, length, refl}
use Rattle.diff_prover.proofs.Passes.{place_in, passes_met, passes_lowered, passes_all}
use Rattle.diff_prover.proofs.lowering.lower_all.Goals as goal
use Rattle.diff_prover.proofs.lowering.lower_all.Goals.{then-backward, else-backward, in-Nowhere, in-Somewhere}

pub loop-i-preserved : goal.loop-i-preserved
loop-i-preserved c =
    let place : c.if-backward.place ≡ place_in c.args.backward (length c.args.rows.now) c.loop-i.i =
    elim c.if-backward.branch [
      | then-backward w ↦ rw w.if-backward.true w.place-is
      | else-backward w ↦ rw w.if-backward.false w.place-is
    ] in
    record {
      count_is = refl;
      explained = rw c.lower_row.auto.values c.lower_row.ensures.explained;
      passes = elim c.match-lower_row.branch [
        | in-Nowhere w ↦ rw w.lowered-is
            (passes_met _ _ _ _ _ _ _ _ c.loop-i.invariant.passes place w.in-Nowhere.ensures.lowered.0 w.in-Nowhere.ensures.lowered.1)
        | in-Somewhere w ↦ rw w.lowered-is
            (passes_lowered _ _ _ _ _ _ _ c.if-backward.place c.loop-i.invariant.passes w.in-Somewhere.ensures.lowered.0 w.in-Somewhere.ensures.lowered.1)
      ];
    }

pub returns-else-lowered-clause-lowered : goal.returns-else-lowered-clause-lowered
returns-else-lowered-clause-lowered c =
    passes_all c.args.rows.now c.args.backward _ _ _ c.loop-i-test.false (rw c.if-lowered.false at c.loop-i.invariant.passes)
