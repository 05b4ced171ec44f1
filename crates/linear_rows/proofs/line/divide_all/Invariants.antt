use Rattle.std.proofs.Common.{◌≡◌, ℕ, pos, ◌<◌, ◌≤◌, get_or}
use Rattle.std.specs.Prelude.{int_div}
use Rattle.linear_rows.proofs.line.divide_all.Given as goal

abbrev pub invariant-loop-z : goal.invariant-loop-z
invariant-loop-z l = record {
  done : (k : ℕ) → k < l.z-index → get_or l.line k (pos 0) ≡ int_div (get_or l.fn.line k (pos 0)) (pos l.cut);
  left : (k : ℕ) → l.z-index ≤ k → get_or l.line k (pos 0) ≡ get_or l.fn.line k (pos 0);
}
