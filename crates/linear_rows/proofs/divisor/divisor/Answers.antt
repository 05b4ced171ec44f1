use Rattle.std.proofs.Common.{◌≡◌}
use Rattle.std.proofs.lemmas.Nat.Gcd.{IsGcd-from_mod}
use Rattle.linear_rows.specs.Divisor.{divisor}
use Rattle.linear_rows.proofs.Divisors.{divisor_at_end, divisor_positive, divisor_most}
use Rattle.linear_rows.proofs.divisor.divisor.Goals as goal

pub loop-b-preserved : goal.loop-b-preserved
loop-b-preserved c = λ g is. c.loop-b.invariant g (IsGcd-from_mod c.loop-b.a c.loop-b.b g is)

pub returns : goal.returns
returns c =
    let is : c.loop-b.a ≡ divisor c.args.a c.args.b = divisor_at_end c.args.a c.args.b c.loop-b.a c.loop-b.b c.loop-b-test.false c.loop-b.invariant in
    record {
      value = is;
      positive = λ lt. rw is (divisor_positive c.args.a c.args.b lt);
      most = λ lt. rw is (divisor_most c.args.a c.args.b lt);
    }
