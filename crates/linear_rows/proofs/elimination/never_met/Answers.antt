use Rattle.std.proofs.Common.{◌≡◌, ℤ, get_or, sym, ap, ◌∙◌}
use Rattle.std.specs.declared.vec.Vec.{Vec}
use Rattle.std.specs.declared.alloc.Global.{Global}
use Rattle.linear_rows.proofs.Recorders.{never_at}
use Rattle.linear_rows.proofs.elimination.never_met.Goals as goal

pub returns-then-is_never_met-clause-number : goal.returns-then-is_never_met-clause-number
returns-then-is_never_met-clause-number c =
    let d = c.index-lines-i.result in
    let line_is : c.deref.result.now ≡ (get_or c.args.lines.now c.loop-i.i d).items = c.deref.ensures.value ∙ ap (λ (v : Vec ℤ Global). v.items) c.index-lines-i.is in
    never_at c.args.numbers.now c.args.lines.now c.loop-i.i d c.number_at.result c.deref.result.now c.loop-i-test.true c.number_at.ensures line_is (sym c.is_never_met.ensures ∙ c.if-is_never_met.true)
