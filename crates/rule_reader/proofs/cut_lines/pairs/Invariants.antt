use Rattle.std.proofs.Common.{◌≡◌, ◌-◌, [], ◌∷◌}
use Rattle.rule_reader.specs.CutReading.{is_comma, next_pair_read, pairs_read}
use Rattle.rule_reader.specs.Front.{with_found, items_read}
use Rattle.rule_reader.proofs.cut_lines.pairs.Given as goal

abbrev pub invariant-loop-turn : goal.invariant-loop-turn
invariant-loop-turn l = with_found l.found (items_read is_comma next_pair_read (l._turn-end - l._turn) l.rest) ≡ with_found (l.fn.first ∷ []) (pairs_read l.tokens)
