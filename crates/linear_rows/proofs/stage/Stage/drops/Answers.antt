use Rattle.std.proofs.Common.{sym, ◌∙◌}
use Rattle.linear_rows.proofs.Walking.{dropped_else}
use Rattle.linear_rows.proofs.stage.Stage.drops.Goals as goal

pub returns-else-is_always_met : goal.returns-else-is_always_met
returns-else-is_always_met c =
    dropped_else (λ line. line.items) c.args.self.now.lines.keys c.args.line.now c.contains.result (sym c.is_always_met.ensures ∙ c.if-is_always_met.false) c.contains.ensures
