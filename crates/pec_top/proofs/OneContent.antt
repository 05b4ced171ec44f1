-- A section holds one thing behind the earlier ones: what a reader answers of one body is the same answer each time, want of
-- memory left out.
use Rattle.std.proofs.Common.{◌≡◌, ℕ, Bool, true, false, List, None, Some, Result, Ok, Err, refl, sym, ap, subst, ◌∙◌}
use Rattle.std.proofs.lemmas.Option.{none-some, same_Some}
use Rattle.toy_imp.specs.declared.rule.Rule.{Rule}
use Rattle.toy_imp.specs.Block.{Block}
use Rattle.toy_imp.specs.Faults.{first_fault}
use Rattle.pec_text.specs.declared.section_data.Section.{Section}
use Rattle.pec_text.specs.declared.section_data.SectionKind.{SectionKind}
use Rattle.pec_text.specs.declared.section_data.SectionKind.TheVariants as kind
use Rattle.pec_text.proofs.Readings.{one_reading}
use Rattle.program_reader.specs.Grammar.{HasWide, ProgramAnswer}
use Rattle.program_reader.specs.RuleText.{SpellsRule, RuleAnswer}
use Rattle.program_reader.specs.declared.refusal.ReadRule.{ReadRule}
use Rattle.program_reader.specs.declared.refusal.ReadRule.TheVariants as read
use Rattle.rule_reader.proofs.Unambiguous.{one_rule, never_wide}
use Rattle.pec_top.specs.declared.command.Command.{Command}
use Rattle.pec_top.specs.declared.content.Content.{Content}
use Rattle.pec_top.specs.declared.content.Item.{Item}
use Rattle.pec_top.specs.Titles.{Namesakes}
use Rattle.cert_checker.specs.declared.certificate.Certificate.{Certificate}
use Rattle.cert_format.specs.SectionText.{CertificateAnswer}
use Rattle.cert_format.proofs.TextLaws.{one_certificate}
use Rattle.term_text.specs.declared.refusal.Unread.{Unread}
use Rattle.term_text.specs.declared.refusal.Unread.TheVariants as why
use Rattle.pec_top.specs.LaterFormats.{is_later_format}
use Rattle.pec_top.specs.Content.{unread, rule_read_content, program_read_content, certificate_read_content, CertSectionHolds, KindHolds, Holds}

-- ---- answers on rules
module _ (title bytes : List ℕ) where
  same_rule : (a b : Rule) → SpellsRule title bytes a → SpellsRule title bytes b → a ≡ b
  same_rule a b x y = one_rule title bytes b a y x

  -- a rule with which nothing is wrong, and one with which something is
  never_both : (a b : Rule) (f : ℕ) → SpellsRule title bytes a → first_fault a ≡ None → SpellsRule title bytes b → first_fault b ≡ Some f → ⊥
  never_both a b f x none y some = none-some f (sym none ∙ ap first_fault (same_rule a b x y) ∙ some)

  same_fault : (a b : Rule) (f g : ℕ) → SpellsRule title bytes a → first_fault a ≡ Some f → SpellsRule title bytes b → first_fault b ≡ Some g → f ≡ g
  same_fault a b f g x one y other = same_Some _ _ (sym one ∙ ap first_fault (same_rule a b x y) ∙ other)

  one_rule_content : (command : Command) (repeated : Bool) (r s : Result Rule ReadRule) (a b : Content) → RuleAnswer title bytes r → RuleAnswer title bytes s
      → rule_read_content command repeated r ≡ Some a → rule_read_content command repeated s ≡ Some b → a ≡ b
  one_rule_content command repeated (Ok p) (Ok q) a b x y h k =
      same_Some _ _ (sym h ∙ ap (λ z. rule_read_content command repeated (Ok z)) (same_rule p q x.0 y.0) ∙ k)
  one_rule_content command repeated (Ok p) (Err read.NotGrammar) a b x y h k = absurd (y x.0.tokens x.0.tree x.0.text)
  one_rule_content command repeated (Ok p) (Err read.Wide) a b x y h k = absurd (never_wide title bytes p x.0 y.0 y.1 y.2 y.3)
  one_rule_content command repeated (Ok p) (Err (read.IllFormed f)) a b x y h k = absurd (never_both p y.0 f x.0 x.1 y.1 y.2)
  one_rule_content command repeated (Err read.NotGrammar) (Ok q) a b x y h k = absurd (x y.0.tokens y.0.tree y.0.text)
  one_rule_content command repeated (Err read.NotGrammar) (Err read.NotGrammar) a b x y h k = same_Some _ _ (sym h ∙ k)
  one_rule_content command repeated (Err read.NotGrammar) (Err read.Wide) a b x y h k = absurd (x y.0 y.1 y.2)
  one_rule_content command repeated (Err read.NotGrammar) (Err (read.IllFormed f)) a b x y h k = absurd (x y.1.tokens y.1.tree y.1.text)
  one_rule_content command repeated (Err read.Wide) (Ok q) a b x y h k = absurd (never_wide title bytes q y.0 x.0 x.1 x.2 x.3)
  one_rule_content command repeated (Err read.Wide) (Err read.NotGrammar) a b x y h k = absurd (y x.0 x.1 x.2)
  one_rule_content command repeated (Err read.Wide) (Err read.Wide) a b x y h k = same_Some _ _ (sym h ∙ k)
  one_rule_content command repeated (Err read.Wide) (Err (read.IllFormed f)) a b x y h k = absurd (never_wide title bytes y.0 y.1 x.0 x.1 x.2 x.3)
  one_rule_content command repeated (Err (read.IllFormed f)) (Ok q) a b x y h k = absurd (never_both q x.0 f y.0 y.1 x.1 x.2)
  one_rule_content command repeated (Err (read.IllFormed f)) (Err read.NotGrammar) a b x y h k = absurd (y x.1.tokens x.1.tree x.1.text)
  one_rule_content command repeated (Err (read.IllFormed f)) (Err read.Wide) a b x y h k = absurd (never_wide title bytes x.0 x.1 y.0 y.1 y.2 y.3)
  one_rule_content command repeated (Err (read.IllFormed f)) (Err (read.IllFormed g)) a b x y h k =
      same_Some _ _ (sym h ∙ ap (λ z. unread (read.IllFormed z)) (same_fault x.0 y.0 f g x.1 x.2 y.1 y.2) ∙ k)
  one_rule_content command repeated (Err read.NoMemory) s a b x y h k = absurd (none-some a h)
  one_rule_content command repeated r (Err read.NoMemory) a b x y h k = absurd (none-some b k)

-- ---- answers on programs
module _ (bytes title : List ℕ) where
  one_program_content : (repeated : Bool) (r s : Result Block ReadRule) (a b : Content) → ProgramAnswer bytes r → ProgramAnswer bytes s
      → program_read_content repeated title r ≡ Some a → program_read_content repeated title s ≡ Some b → a ≡ b
  one_program_content repeated (Ok p) (Ok q) a b x y h k = same_Some _ _ (sym h ∙ ap (λ z. program_read_content repeated title (Ok z)) (y.1 p x.0) ∙ k)
  one_program_content repeated (Ok p) (Err read.NotGrammar) a b x y h k = absurd (y x.0.tokens p x.0.text)
  one_program_content repeated (Ok p) (Err read.Wide) a b x y h k =
      absurd (x.0.narrow (subst HasWide (one_reading bytes y.0 x.0.tokens y.2.spelled x.0.text.spelled) y.3))
  one_program_content repeated (Ok p) (Err (read.IllFormed f)) a b x y h k = absurd y
  one_program_content repeated (Err read.NotGrammar) (Ok q) a b x y h k = absurd (x y.0.tokens q y.0.text)
  one_program_content repeated (Err read.NotGrammar) (Err read.NotGrammar) a b x y h k = same_Some _ _ (sym h ∙ k)
  one_program_content repeated (Err read.NotGrammar) (Err read.Wide) a b x y h k = absurd (x y.0 y.1 y.2)
  one_program_content repeated (Err read.NotGrammar) (Err (read.IllFormed f)) a b x y h k = absurd y
  one_program_content repeated (Err read.Wide) (Ok q) a b x y h k =
      absurd (y.0.narrow (subst HasWide (one_reading bytes x.0 y.0.tokens x.2.spelled y.0.text.spelled) x.3))
  one_program_content repeated (Err read.Wide) (Err read.NotGrammar) a b x y h k = absurd (y x.0 x.1 x.2)
  one_program_content repeated (Err read.Wide) (Err read.Wide) a b x y h k = same_Some _ _ (sym h ∙ k)
  one_program_content repeated (Err read.Wide) (Err (read.IllFormed f)) a b x y h k = absurd y
  one_program_content repeated (Err (read.IllFormed f)) s a b x y h k = absurd x
  one_program_content repeated (Err read.NoMemory) s a b x y h k = absurd (none-some a h)
  one_program_content repeated r (Err read.NoMemory) a b x y h k = absurd (none-some b k)

-- ---- answers on certificates
module _ (body title : List ℕ) where
  one_certificate_content : (has_rule : Bool) (r s : Result Certificate Unread) (a b : Content) → CertificateAnswer body r → CertificateAnswer body s
      → certificate_read_content has_rule title r ≡ Some a → certificate_read_content has_rule title s ≡ Some b → a ≡ b
  one_certificate_content has_rule (Ok c) (Ok d) a b x y h k =
      same_Some _ _ (sym h ∙ ap (λ z. certificate_read_content has_rule title (Ok z)) (one_certificate body c d x y) ∙ k)
  one_certificate_content has_rule (Ok c) (Err why.NotGrammar) a b x y h k = absurd (y refl c x)
  one_certificate_content has_rule (Err why.NotGrammar) (Ok d) a b x y h k = absurd (x refl d y)
  one_certificate_content has_rule (Err why.NotGrammar) (Err why.NotGrammar) a b x y h k = same_Some _ _ (sym h ∙ k)
  one_certificate_content has_rule (Err why.NoMemory) s a b x y h k = absurd (none-some a h)
  one_certificate_content has_rule r (Err why.NoMemory) a b x y h k = absurd (none-some b k)

one_cert_section : (later has_rule : Bool) (section : Section) (a b : Content) → CertSectionHolds later has_rule section a → CertSectionHolds later has_rule section b → a ≡ b
one_cert_section true has_rule section a b x y = x ∙ sym y
one_cert_section false has_rule section a b x y = one_certificate_content section.body section.title has_rule x.read y.read a b x.answer y.answer x.is y.is

-- ---- sections
pub one_kind_content : (k : SectionKind) (command : Command) (known : Namesakes) (section : Section) (a b : Content)
    → KindHolds k command known section a → KindHolds k command known section b → a ≡ b
one_kind_content kind.Rule command known section a b x y =
    one_rule_content section.title section.body command known.rule x.read y.read a b x.answer y.answer x.is y.is
one_kind_content kind.Program command known section a b x y =
    one_program_content section.body section.title known.program x.read y.read a b x.answer y.answer x.is y.is
one_kind_content kind.Report command known section a b x y = x ∙ sym y
one_kind_content kind.Cert command known section a b x y = one_cert_section (is_later_format section.body) known.rule section a b x y
one_kind_content kind.Refused command known section a b x y = x ∙ sym y
one_kind_content kind.Trace command known section a b x y = x ∙ sym y
one_kind_content kind.Chain command known section a b x y = x ∙ sym y

pub one_content : (command : Command) (earlier : List Section) (items : List Item) (section : Section) (a b : Content)
    → Holds command earlier items section a → Holds command earlier items section b → a ≡ b
one_content command earlier items section a b x y = one_kind_content section.kind command _ section a b x y
