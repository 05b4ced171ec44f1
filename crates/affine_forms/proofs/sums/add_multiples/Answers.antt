use Rattle.std.proofs.Common.{◌≡◌, arith, to_z, of_z, w64, pos, length}
use Rattle.std.proofs.lemmas.Int.{to_z-of_z}
use Rattle.affine_forms.proofs.Places.{Next, begun, next, ended}
use Rattle.affine_forms.proofs.sums.add_multiples.Goals as goal

-- src/sums.rt:58:5
pub loop-k-init : goal.loop-k-init
loop-k-init c = begun c.args.numbers.now c.args.others.now (to_z w64 (of_z w64 c.args.times))

step : (c : goal.After-numbers-in-loop-k-1) → Next c.args.numbers.now c.args.others.now (to_z w64 (of_z w64 c.args.times)) c.loop-k.k c.loop-k.numbers
step c =
    let at : length c.args.numbers.now ≡ length c.args.others.now = c.requires.as_many in
    next c.args.numbers.now c.args.others.now c.args.times (to_z w64 (of_z w64 c.args.times)) c.loop-k.k c.loop-k.numbers
    (to_z-of_z w64 c.args.times c.ranges.times) c.loop-k.invariant c.loop-k-test.true at
    (c.requires.numbers c.loop-k.k (pos 0) c.loop-k-test.true)
    (c.requires.others c.loop-k.k (pos 0) (omega (arith, c.loop-k-test.true, at)))
    (c.requires.products c.loop-k.k (pos 0) (omega (arith, c.loop-k-test.true, at)))

-- src/sums.rt:59:9
pub overflow_add-numbers : goal.overflow_add-numbers
overflow_add-numbers c = (step c).fits

-- src/sums.rt:58:5
pub loop-k-preserved : goal.loop-k-preserved
loop-k-preserved c = (step c).is

-- src/sums.rt:50:1
pub returns : goal.returns
returns c =
    ended c.args.numbers.now c.args.others.now c.args.times (to_z w64 (of_z w64 c.args.times)) c.loop-k.k c.loop-k.numbers
    (to_z-of_z w64 c.args.times c.ranges.times) c.loop-k.invariant (omega (arith, c.loop-k-test.false, c.requires.as_many))
