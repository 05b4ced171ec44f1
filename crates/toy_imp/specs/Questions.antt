-- What the questions ask that the code puts to each place of a rule's sides.
use Rattle.std.specs.Prelude.{Bool}
use Rattle.toy_imp.specs.declared.uses.Question.{Question}
use Rattle.toy_imp.specs.declared.uses.Question.TheVariants.{IsUndeclared, IsMisplaced, IsNumber}
use Rattle.toy_imp.specs.Faults.{is_undeclared, is_misplaced, is_number}
use Rattle.toy_imp.specs.Uses.{Use}

abbrev pub asked : Question → Use → Bool
asked (IsUndeclared count) = is_undeclared count
asked (IsMisplaced params) = is_misplaced params.now
asked (IsNumber k) = is_number k
