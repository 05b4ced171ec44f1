-- What one section holds behind the earlier sections of an input: an item, nothing that is taken up, or what is refused.
-- Of several reasons the first in this order is told: not in the grammar, a number too wide, not well formed by the least item, not built.
use Rattle.std.specs.Prelude.{◌≡◌, ℕ, Bool, true, false, not, ◌&&◌, List, Option, None, Some, Result, Ok, Err, if◌then◌else◌}
use Rattle.toy_imp.specs.declared.rule.Rule.{Rule}
use Rattle.toy_imp.specs.Block.{Block}
use Rattle.pec_text.specs.declared.section_data.Section.{Section}
use Rattle.pec_text.specs.declared.section_data.SectionKind.{SectionKind}
use Rattle.pec_text.specs.declared.section_data.SectionKind.TheVariants as kind
use Rattle.cert_checker.specs.declared.certificate.Certificate.{Certificate}
use Rattle.cert_format.specs.SectionText.{CertificateAnswer}
use Rattle.term_text.specs.declared.refusal.Unread.{Unread}
use Rattle.term_text.specs.declared.refusal.Unread.TheVariants as why
use Rattle.program_reader.specs.Grammar.{ProgramAnswer}
use Rattle.program_reader.specs.RuleText.{RuleAnswer}
use Rattle.program_reader.specs.declared.refusal.ReadRule.{ReadRule}
use Rattle.program_reader.specs.declared.refusal.ReadRule.TheVariants as read
use Rattle.pec_top.specs.declared.command.Command.{Command}
use Rattle.pec_top.specs.declared.command.Command.TheVariants.{Prove, Check, Print, Run}
use Rattle.pec_top.specs.declared.content.Content.{Content}
use Rattle.pec_top.specs.declared.content.Content.TheVariants as content
use Rattle.pec_top.specs.declared.content.Item.{Item}
use Rattle.pec_top.specs.declared.content.Item.TheVariants as item
use Rattle.pec_top.specs.declared.content.Reason.TheVariants as reason
use Rattle.pec_top.specs.LaterFormats.{is_later_format}
use Rattle.pec_top.specs.SkipForm.{is_skip_rule}
use Rattle.pec_top.specs.Titles.{is_chain, Namesakes, namesakes}

abbrev pub is_prove : Command → Bool
is_prove Prove = true
is_prove Check = false
is_prove Print = false
is_prove (Run steps) = false

-- what the command does with this rule is built; all but `prove` take rules of each method
abbrev pub is_built : Command → Rule → Bool
is_built Prove rule = is_skip_rule rule
is_built Check rule = true
is_built Print rule = true
is_built (Run steps) rule = true

-- why a body is refused that is not read; want of memory says nothing of it
abbrev pub unread : ReadRule → Option Content
unread read.NotGrammar = Some (content.Refused reason.NotGrammar)
unread read.Wide = Some (content.Refused reason.TooWide)
unread (read.IllFormed f) = Some (content.Refused (reason.IllFormed f))
unread read.NoMemory = None

-- what becomes of a rule, where an earlier rule has its title or none has; `prove` takes no rule of method chain
abbrev pub rule_content : Command → Bool → Rule → Content
rule_content command repeated rule =
    if repeated then content.Refused (reason.IllFormed 12)
    else if is_prove command && is_chain rule.method then content.Refused (reason.IllFormed 14)
    else if is_built command rule then content.Item (item.Rule rule)
    else content.Refused reason.NotBuilt

-- what becomes of a program, where an earlier program has its title or none has
abbrev pub program_content : Bool → List ℕ → Block → Content
program_content repeated title block =
    if repeated then content.Refused (reason.IllFormed 12)
    else content.Item (item.Program (record { title = title; block = block }))

-- what becomes of a section that rests on a rule and whose body is not read
abbrev pub resting_content : Bool → Content
resting_content has_rule = if has_rule then content.Refused reason.NotBuilt else content.Refused (reason.IllFormed 13)

-- what becomes of a certificate, where an earlier rule has its title or none has
abbrev pub certificate_content : Bool → List ℕ → Certificate → Content
certificate_content has_rule title c =
    if has_rule then content.Item (item.Certificate (record { title = title; certificate = c })) else content.Refused (reason.IllFormed 13)

-- the same of what a reader answered; want of memory says nothing of it
abbrev pub certificate_read_content : Bool → List ℕ → Result Certificate Unread → Option Content
certificate_read_content has_rule title (Ok c) = Some (certificate_content has_rule title c)
certificate_read_content has_rule title (Err why.NotGrammar) = Some (content.Refused reason.NotGrammar)
certificate_read_content has_rule title (Err why.NoMemory) = None

-- what becomes of a `chain` section, whose body is not read, where an earlier rule of method chain has its title or none
-- has, and an earlier `chain` section has it or none has; `prove` takes none
abbrev pub chain_content : Command → Bool → Bool → Content
chain_content command has_rule repeated =
    if is_prove command then content.Refused (reason.IllFormed 14)
    else if has_rule && not repeated then content.Refused reason.NotBuilt
    else content.Refused (reason.IllFormed 15)

-- the same of what a reader answered
abbrev pub rule_read_content : Command → Bool → Result Rule ReadRule → Option Content
rule_read_content command repeated (Ok rule) = Some (rule_content command repeated rule)
rule_read_content command repeated (Err refusal) = unread refusal

abbrev pub program_read_content : Bool → List ℕ → Result Block ReadRule → Option Content
program_read_content repeated title (Ok block) = Some (program_content repeated title block)
program_read_content repeated title (Err refusal) = unread refusal

-- what is read of a rule's body under its title is this content
pub record RuleHolds (command : Command) (repeated : Bool) (section : Section) (found : Content) : Type 0 where
  pub read : Result Rule ReadRule
  pub answer : RuleAnswer section.title section.body read
  pub is : rule_read_content command repeated read ≡ Some found

pub record ProgramHolds (repeated : Bool) (section : Section) (found : Content) : Type 0 where
  pub read : Result Block ReadRule
  pub answer : ProgramAnswer section.body read
  pub is : program_read_content repeated section.title read ≡ Some found

pub record CertificateHolds (has_rule : Bool) (section : Section) (found : Content) : Type 0 where
  pub read : Result Certificate Unread
  pub answer : CertificateAnswer section.body read
  pub is : certificate_read_content has_rule section.title read ≡ Some found

-- the body of a certificate of a later format is not read
abbrev pub CertSectionHolds : Bool → Bool → Section → Content → Type 0
CertSectionHolds true has_rule section found = found ≡ resting_content has_rule
CertSectionHolds false has_rule section found = CertificateHolds has_rule section found

-- by kind, where these are the namesakes among earlier sections
abbrev pub KindHolds : SectionKind → Command → Namesakes → Section → Content → Type 0
KindHolds kind.Rule command earlier section found = RuleHolds command earlier.rule section found
KindHolds kind.Program command earlier section found = ProgramHolds earlier.program section found
KindHolds kind.Cert command earlier section found = CertSectionHolds (is_later_format section.body) earlier.rule section found
KindHolds kind.Refused command earlier section found = found ≡ resting_content earlier.rule
KindHolds kind.Trace command earlier section found = found ≡ resting_content earlier.rule
KindHolds kind.Report command earlier section found = found ≡ content.Nothing
KindHolds kind.Chain command earlier section found = found ≡ chain_content command earlier.chain_rule earlier.chain

-- the section holds this, behind these earlier ones, which hold these items
abbrev pub Holds : Command → List Section → List Item → Section → Content → Type 0
Holds command earlier items section found = KindHolds section.kind command (namesakes section.title earlier items) section found
