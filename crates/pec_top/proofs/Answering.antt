-- From what a reader answered to what a section holds.
use Rattle.std.proofs.Common.{◌≡◌, ℕ, Bool, List, Some, Result, Ok, Err, IfOk, sym, ap, ◌∙◌}
use Rattle.toy_imp.specs.declared.rule.Rule.{Rule}
use Rattle.toy_imp.specs.Block.{Block}
use Rattle.pec_text.specs.declared.section_data.Section.{Section}
use Rattle.program_reader.specs.Grammar.{ProgramAnswer}
use Rattle.program_reader.specs.RuleText.{RuleAnswer}
use Rattle.program_reader.specs.declared.refusal.ReadRule.{ReadRule}
use Rattle.pec_top.specs.declared.command.Command.{Command}
use Rattle.pec_top.specs.declared.content.Content.{Content}
use Rattle.cert_checker.specs.declared.certificate.Certificate.{Certificate}
use Rattle.cert_format.specs.SectionText.{CertificateAnswer}
use Rattle.term_text.specs.declared.refusal.Unread.{Unread}
use Rattle.pec_top.specs.Content.{rule_read_content, program_read_content, certificate_read_content, RuleHolds, ProgramHolds, CertificateHolds}

pub rule_held : {E : Type 0} (command : Command) (repeated : Bool) (section : Section) (read : Result Rule ReadRule) (r : Result Content E)
    → RuleAnswer section.title section.body read → IfOk r (λ found. rule_read_content command repeated read ≡ Some found) → IfOk r (RuleHolds command repeated section)
rule_held command repeated section read (Ok found) answer is = record { read = read; answer = answer; is = is }
rule_held command repeated section read (Err e) answer is = tt

pub program_held : {E : Type 0} (repeated : Bool) (section : Section) (title : List ℕ) (read : Result Block ReadRule) (r : Result Content E)
    → title ≡ section.title → ProgramAnswer section.body read → IfOk r (λ found. program_read_content repeated title read ≡ Some found) → IfOk r (ProgramHolds repeated section)
program_held repeated section title read (Ok found) same answer is =
    record { read = read; answer = answer; is = sym (ap (λ z. program_read_content repeated z read) same) ∙ is }
program_held repeated section title read (Err e) same answer is = tt

pub certificate_held : {E : Type 0} (has_rule : Bool) (section : Section) (title : List ℕ) (read : Result Certificate Unread) (r : Result Content E)
    → title ≡ section.title → CertificateAnswer section.body read → IfOk r (λ found. certificate_read_content has_rule title read ≡ Some found) → IfOk r (CertificateHolds has_rule section)
certificate_held has_rule section title read (Ok found) same answer is =
    record { read = read; answer = answer; is = ap (λ t. certificate_read_content has_rule t read) (sym same) ∙ is }
certificate_held has_rule section title read (Err e) same answer is = tt
