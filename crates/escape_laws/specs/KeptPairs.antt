-- What the tests of two terms say of laws 6, 10 and 22: where the marks of an escape pass them, each clause of these laws holds, and
-- the other way round.
use Rattle.std.specs.Prelude.{◌≡◌, Bool, true, false}
use Rattle.std.specs.List.{list_all}
use Rattle.rule_terms.specs.declared.obligation.Obligation.{Obligation}
use Rattle.law_clauses.specs.ClauseForms.{Clause, left_ends, right_ends, neither_ends, sum_exchanged, product_exchanged}
use Rattle.escape_marks.specs.declared.escape.Escape.{Escape}
use Rattle.escape_marks.specs.LawsHold.{LawsHold}
use Rattle.escape_laws.specs.PairLaws.{sides_kept, halts_as_all, exchanges_with_all}
use Rattle.escape_laws.specs.KeptLaws.{HoldsIn}

-- a clause of laws 6, 10 and 22
abbrev pub speaks_of_pairs : Clause → Bool
speaks_of_pairs left_ends = true
speaks_of_pairs right_ends = true
speaks_of_pairs (neither_ends a c) = true
speaks_of_pairs (sum_exchanged a b c d) = true
speaks_of_pairs (product_exchanged a b c d) = true
speaks_of_pairs _ = false

pub record PairsPass (ob : Obligation) (e : Escape) : Type 0 where
  pub sides : sides_kept ob.params e ≡ true
  pub halts : list_all (halts_as_all ob.params e) e.stores ≡ true
  pub exchanges : list_all (exchanges_with_all ob.params e) e.values ≡ true

abbrev pub PairLawsHold : Type 0
PairLawsHold = (ob : Obligation) (e : Escape) → PairsPass ob e → (c : Clause) → speaks_of_pairs c ≡ true → HoldsIn ob e c

abbrev pub PairLawsPass : Type 0
PairLawsPass = (ob : Obligation) (e : Escape) → LawsHold ob e → PairsPass ob e
