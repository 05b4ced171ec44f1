use Rattle.std.proofs.Common.{◌∷◌, [], arith, refl}
use Rattle.std.proofs.lemmas.Int.{ints}
use Rattle.std.proofs.lemmas.List.Elements.{All-nil, All-cons}
use Rattle.diff_prover.specs.Row.{IsMet, assignment}
use Rattle.diff_prover.specs.Cycle.{row_at}
use Rattle.diff_prover.proofs.Explained.{bounds, lowered_explained, lowered_below, lowered_somewhere}
use Rattle.diff_prover.proofs.lowering.lower_row.Goals as goal

pub returns-then-values-left-clause-lowered : goal.returns-then-values-left-clause-lowered
returns-then-values-left-clause-lowered c =
    let known = bounds c.args.rows.now c.args.values.now c.args.place c.requires.rows c.requires.within c.requires.place in
    let row = row_at c.args.rows.now c.args.place in
    let higher = c.if-values-left.true in
    let met : IsMet (assignment c.args.values.now) row = omega (arith, ints) in
    (refl, All-cons (IsMet (assignment c.args.values.now)) row [] met (All-nil (IsMet (assignment c.args.values.now))))

pub returns-then-bound-lt-LOWEST-clause-explained : goal.returns-then-bound-lt-LOWEST-clause-explained
returns-then-bound-lt-LOWEST-clause-explained c =
    let known = bounds c.args.rows.now c.args.values.now c.args.place c.requires.rows c.requires.within c.requires.place in
    let higher = c.if-values-left.false in
    lowered_explained _ _ _ _ c.args.place _ c.requires.explained c.requires.place known.over (omega (arith, ints)) (omega (arith, ints))

pub returns-else-bound-lt-LOWEST-clause-explained : goal.returns-else-bound-lt-LOWEST-clause-explained
returns-else-bound-lt-LOWEST-clause-explained c =
    let known = bounds c.args.rows.now c.args.values.now c.args.place c.requires.rows c.requires.within c.requires.place in
    let higher = c.if-values-left.false in
    lowered_explained _ _ _ _ c.args.place _ c.requires.explained c.requires.place known.over (omega (arith, ints)) (omega (arith, ints))

pub returns-then-bound-lt-LOWEST-clause-lowered : goal.returns-then-bound-lt-LOWEST-clause-lowered
returns-then-bound-lt-LOWEST-clause-lowered c =
    let known = bounds c.args.rows.now c.args.values.now c.args.place c.requires.rows c.requires.within c.requires.place in
    let higher = c.if-values-left.false in
    let low = c.if-bound-lt-LOWEST.true in
    lowered_below _ _ _ _ c.args.place _ c.requires.explained c.requires.place known.over (omega (arith, ints)) (omega (arith, ints)) (row_at c.args.rows.now c.args.place ∷ []) (omega (arith, ints))

pub returns-else-bound-lt-LOWEST-clause-lowered : goal.returns-else-bound-lt-LOWEST-clause-lowered
returns-else-bound-lt-LOWEST-clause-lowered c =
    let known = bounds c.args.rows.now c.args.values.now c.args.place c.requires.rows c.requires.within c.requires.place in
    let higher = c.if-values-left.false in
    let low = c.if-bound-lt-LOWEST.false in
    lowered_somewhere _ _ _ _ c.args.place _ c.requires.explained c.requires.place known.over (omega (arith, ints)) (omega (arith, ints)) (row_at c.args.rows.now c.args.place ∷ []) (omega (arith, ints)) c.requires.within
