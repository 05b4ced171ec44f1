-- Offset terms: a value term plus or minus a constant.
use Rattle.std.specs.Prelude.{ℤ, neg_ℤ, Option, Some, None}
use Rattle.rule_terms.specs.Term.{ValueTerm, num, add, sub}
use Rattle.law_clauses.specs.declared.offsets.Offset.{Offset}

-- the term that a constant is added to, and the constant
unfoldable pub offset : ValueTerm → Option (ValueTerm × ℤ)
offset (add a (num c)) = Some (a, c)
offset (add (num c) a) = Some (a, c)
offset (sub a (num c)) = Some (a, neg_ℤ c)
offset _ = None

-- .. as the code hands them on
abbrev pub offset_by : Offset → ValueTerm × ℤ
offset_by o = (o.base.now, o.by)
