use Rattle.std.proofs.Common.{◌≡◌, ◌++◌, ◌-◌, ◌==◌}
use Rattle.std.specs.List.{filter, list_any, range_with_len}
use Rattle.entry_pairs.proofs.cut_points.push_named.Given as goal

abbrev pub invariant-loop-p : goal.invariant-loop-p
invariant-loop-p l =
    l.all ++ filter (λ p. list_any (λ c. c == p) l.named) (range_with_len l.p (l.exit - l.p))
    ≡ l.fn.all ++ filter (λ p. list_any (λ c. c == p) l.named) (range_with_len 1 (l.exit - 1))
