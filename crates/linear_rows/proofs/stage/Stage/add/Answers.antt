use Rattle.linear_rows.proofs.Walking.{added_line}
use Rattle.linear_rows.proofs.stage.Stage.add.Goals as goal

pub returns-clause-lines : goal.returns-clause-lines
returns-clause-lines c = added_line (λ line. line.items) c.args.self.now.lines.keys c.insert.new.self.keys c.args.line c.requires c.in_ok-_added.ensures.keys
