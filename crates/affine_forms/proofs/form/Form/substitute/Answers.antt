use Rattle.std.proofs.Common.{rules, arith, ◌≡◌, ◌∙◌, ap, sym, pos, [], length, slice_index_or}
use Rattle.affine_forms.specs.Form.{plus_multiple}
use Rattle.affine_forms.specs.declared.form.Form.{Form}
use Rattle.affine_forms.proofs.Substituting.{started, goes_on, ended, room, products_room, unit_kept}
use Rattle.affine_forms.proofs.form.Form.substitute.Goals as goal

abbrev nothing : Form
nothing = record { counters = []; symbols = []; constant = pos 0 }

-- src/sums.rt:45:9
pub loop-k-init : goal.loop-k-init
loop-k-init c = rw c.without_counters-sum.ensures (started c.args.self c.args.by.now c.requires.form)

-- src/sums.rt:46:13
pub plus_multiple-sum-requires-clause-numbers : goal.plus_multiple-sum-requires-clause-numbers
plus_multiple-sum-requires-clause-numbers c = room c.args.self c.args.by.now c.loop-k.k c.loop-k.sum c.loop-k.invariant c.loop-k-test.true

-- src/sums.rt:46:13
pub plus_multiple-sum-requires-clause-products : goal.plus_multiple-sum-requires-clause-products
plus_multiple-sum-requires-clause-products c =
    let n : length c.args.self.counters ≡ 4 = search rules in
    rw (unit_kept c.args.self c.loop-k.k (pos 0) (omega (arith, n, c.loop-k-test.true)) c.requires.unit)
    (products_room c.args.self c.args.by.now c.loop-k.k (pos 0) nothing (omega (arith, n, c.loop-k-test.true)) (n ∙ sym c.told-by) c.requires.unit c.requires.by)

-- src/sums.rt:45:9
pub loop-k-preserved : goal.loop-k-preserved
loop-k-preserved c =
    let n : length c.args.self.counters ≡ 4 = search rules in
    let lt = c.loop-k-test.true in
    let kept = unit_kept c.args.self c.loop-k.k (pos 0) (omega (arith, n, lt)) c.requires.unit in
    rw (c.plus_multiple-sum.ensures ∙ ap (λ t. plus_multiple c.loop-k.sum t (slice_index_or c.args.by.now c.loop-k.k nothing)) kept)
    (goes_on c.args.self c.args.by.now c.loop-k.k c.loop-k.sum (pos 0) nothing c.loop-k.invariant (omega (arith, n, lt)) (n ∙ sym c.told-by) c.requires.unit c.requires.by)

-- src/sums.rt:38:5
pub returns : goal.returns
returns c =
    let n : length c.args.self.counters ≡ 4 = search rules in
    ended c.args.self c.args.by.now c.loop-k.k c.loop-k.sum c.loop-k.invariant (omega (arith, n, c.loop-k-test.false))
