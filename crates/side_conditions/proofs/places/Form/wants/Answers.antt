use Rattle.std.proofs.Common.{sym, ◌∙◌, ap}
use Rattle.std.specs.Prelude.{not}
use Rattle.toy_imp.specs.ExprView.{exprs_of}
use Rattle.side_conditions.specs.Seeking.{has_form}
use Rattle.side_conditions.proofs.Forms.{none_wanted, some_wanted}
use Rattle.side_conditions.proofs.places.Form.wants.Goals as goal

pub returns-in-Variable : goal.returns-in-Variable
returns-in-Variable c = c.is_empty.ensures ∙ none_wanted c.args.indices.now ∙ ap (λ f. has_form f (exprs_of c.args.indices.now)) (sym c.in-Variable.is)

pub returns-in-Indexed : goal.returns-in-Indexed
returns-in-Indexed c = ap not c.is_empty-in-Indexed.ensures ∙ some_wanted c.args.indices.now ∙ ap (λ f. has_form f (exprs_of c.args.indices.now)) (sym c.in-Indexed.is)
