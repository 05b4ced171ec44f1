use Rattle.std.proofs.Common.{rules, ◌≡◌, ◌∙◌, ap, sym, None, Some}
use Rattle.program_reader.specs.declared.refusal.Unread.TheVariants.{NotGrammar}
use Rattle.rule_reader.specs.CutReading.{first_pair_read, cut_line}
use Rattle.rule_reader.specs.Front.{valued}
use Rattle.rule_reader.proofs.CutTurns.{line_of, line_unread, line_none, line_some}
use Rattle.rule_reader.proofs.cut_lines.pair_cuts.Goals as goal

pub returns-in_err-all : goal.returns-in_err-all
returns-in_err-all c =
    let none : c.in_err-all.field-0.0 ≡ NotGrammar → valued cut_line (first_pair_read c.args.tokens.now) ≡ None =
    λ e. line_unread c.args.tokens.now c.in_ok-first.rest.now c.in_ok-first.first c.in_ok-first.ensures (c.in_err-all.ensures e) in
    search rules

pub returns-in_err-behind : goal.returns-in_err-behind
returns-in_err-behind c =
    let none : c.in_err-behind.field-0.0 ≡ NotGrammar → valued cut_line (first_pair_read c.args.tokens.now) ≡ None =
    λ e. line_none c.args.tokens.now c.in_ok-first.rest.now c.in_ok-first.first c.in_ok-first.ensures c.in_ok-all.all c.in_ok-all.more.now c.in_ok-all.ensures (c.in_err-behind.ensures e) in
    search rules

pub returns : goal.returns
returns c =
    line_some c.args.tokens.now c.in_ok-first.rest.now c.in_ok-first.first c.in_ok-first.ensures c.in_ok-all.all c.in_ok-all.more.now c.in_ok-behind.behind.now c.in_ok-all.ensures c.in_ok-behind.ensures
    ∙ ap (λ z. Some (z, c.in_ok-behind.behind.now)) (ap line_of (sym c.as_slice.ensures) ∙ sym c.in_ok-line.ensures)
