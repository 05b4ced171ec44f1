-- How a relation begins, as its first two entries are looked at.
use Rattle.std.specs.Prelude.{◌≡◌, true, [], ◌∷◌}
use Rattle.toy_imp.specs.declared.rule.Rule.{Rule}
use Rattle.toy_imp.specs.Faults.{same_pair}
use Rattle.spot_obligations.specs.declared.entry.Entry.{Entry}
use Rattle.rule_terms.specs.Goals.{sides_equal}
use Rattle.spot_obligations.specs.Owed.{pair_of}
use Rattle.spot_obligations.specs.PathsOfEntry.{is_exit}

-- `L = R` is all that is said at an entry
abbrev pub IsPlain : Entry → Type 0
IsPlain e = e.conjuncts ≡ sides_equal ∷ []

pub record BeginsSo (rule : Rule) (first second : Entry) : Type 0 where
  pub starts : same_pair (pair_of first) (0, 0) ≡ true
  pub first_plain : IsPlain first
  pub ends : is_exit rule second ≡ true
  pub second_plain : IsPlain second
