use Rattle.std.proofs.Common.{rules, arith, ◌≡◌, false, true, ◌<◌, length}
use Rattle.std.specs.List.{list_all}
use Rattle.linear_rows.specs.Fractions.{is_small}
use Rattle.linear_rows.specs.Stage.{is_dropped}
use Rattle.linear_rows.specs.Lines.{lines_of}
use Rattle.std.proofs.lemmas.List.{length-map}
use Rattle.linear_rows.proofs.Walking.{taken_last, small_last}
use Rattle.linear_rows.proofs.Recorders.{step_taken}
use Rattle.linear_rows.proofs.stage.Stage.take_lowest.Goals as goal

pub returns-clause-taken : goal.returns-clause-taken
returns-clause-taken c =
    let kept : is_dropped (lines_of c.args.self.now) c.args.line.items ≡ false = search rules in
    let count = length-map c.args.self.now.lines.keys (λ line. line.items) in
    let few : length (lines_of c.args.self.now) < 4096 = omega arith in
    let small : list_all is_small c.args.line.items ≡ true = search rules in
    taken_last (lines_of c.args.self.now) (lines_of c.add.new.self) c.args.line.items kept few small c.in_ok-add.ensures.lines

pub returns-clause-small : goal.returns-clause-small
returns-clause-small c =
    let small : list_all is_small c.args.line.items ≡ true = search rules in
    small_last (lines_of c.args.self.now) (lines_of c.add.new.self) c.args.line.items c.requires small c.in_ok-add.ensures.lines

pub returns-clause-recorded : goal.returns-clause-recorded
returns-clause-recorded c =
    step_taken c.args.step c.args.line.items c.in_ok-number.number c.args.history.now c.number_of.new.self c.args.self.now c.add.new.self c.in_ok-number.ensures c.in_ok-add.ensures.lines c.in_ok-add.ensures.numbers
