use Rattle.std.proofs.Common.{rules, ◌≡◌, [], Some, ap, sym, ◌∙◌}
use Rattle.toy_imp.specs.declared.param.Kind.TheVariants as kind
use Rattle.toy_imp.specs.Expr.{at}
use Rattle.toy_imp.specs.ExprView.{exprs_of}
use Rattle.toy_imp.specs.Parameters.{kind_of}
use Rattle.program_reader.proofs.Naming.{cell_is_at}
use Rattle.program_reader.proofs.names.Names.cell.Goals as goal
use Rattle.program_reader.proofs.names.Names.cell.Goals.{in_default-via-in-Some-Expr+else-is_empty, in_default-via-in-Some+in_default, in_default-via-in_default}

pub returns-in_ok-name-in_default : goal.returns-in_ok-name-in_default
returns-in_ok-name-in_default c =
    let other : kind_of c.args.self.now c.args.x.now ≡ Some kind.Expr → c.args.indices ≡ [] → ⊥ =
    elim c.in_default.branch [ in_default-via-in-Some-Expr+else-is_empty w ↦ (λ k none. search rules) | in_default-via-in-Some+in_default w ↦ (λ k none. search rules) | in_default-via-in_default w ↦ (λ k none. search rules) ] in
    c.at.ensures ∙ ap (λ z. at z (exprs_of c.args.indices)) c.in_ok-name-in_default.ensures ∙ sym (cell_is_at _ c.args.self.now c.args.x.now c.args.indices other)
