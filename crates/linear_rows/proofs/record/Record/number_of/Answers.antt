use Rattle.std.proofs.Common.{◌≡◌, ◌+◌, length, arith, refl}
use Rattle.linear_rows.proofs.Recorders.{numbers_same, numbers_pushed}
use Rattle.linear_rows.proofs.record.Record.number_of.Goals as goal

pub returns-then-step-eq1-2 : goal.returns-then-step-eq1-2
returns-then-step-eq1-2 c = numbers_same c.args.self.now c.args.step c.if-step-eq1.true c.if-step-eq0.true c.if-step-eq1-2.true

pub returns : goal.returns
returns c =
    let number_is : c.in-Ok.number ≡ c.args.self.now.given + length c.args.self.now.steps.items = omega (arith, c.in-Ok.ensures, c.saturating_add.ensures, c.len.ensures) in
    numbers_pushed c.args.self.now (record { given = c.args.self.now.given; steps = c.push.new.self }) c.args.step c.in-Ok.number refl c.in_ok-push.ensures.items number_is
