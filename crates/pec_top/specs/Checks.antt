-- The certificates of an input in order, each with whether it is one of the rule of its title that stands before it.
use Rattle.std.specs.Prelude.{◌≡◌, ◌↔◌, ℕ, true, List, [], ◌∷◌, ◌++◌, Option, None, Some, Contains, bytes_eq, if◌then◌else◌}
use Rattle.toy_imp.specs.declared.rule.Rule.{Rule}
use Rattle.toy_imp.specs.Faults.{is_simulate}
use Rattle.toy_imp.specs.Valid.{Valid}
use Rattle.pec_text.specs.declared.section_data.Section.{Section}
use Rattle.pec_text.specs.declared.section_data.SectionKind.TheVariants as kind
use Rattle.program_reader.specs.RuleText.{SpellsRule}
use Rattle.cert_checker.specs.Certificates.{IsCertificate}
use Rattle.cert_checker.specs.declared.certificate.Certificate.{Certificate}
use Rattle.pec_top.specs.declared.check.Check.{Check}
use Rattle.pec_top.specs.declared.content.Item.{Item}
use Rattle.pec_top.specs.declared.content.Item.TheVariants as item
use Rattle.pec_top.specs.declared.content.TitledCertificate.{TitledCertificate}

-- the rule where it has this title, else what was found behind it
abbrev pub or_own : List ℕ → Rule → Option Rule → Option Rule
or_own title rule (Some later) = Some later
or_own title rule None = if bytes_eq rule.title title then Some rule else None

-- the last rule with this title
abbrev pub titled_rule : List ℕ → List Item → Option Rule
titled_rule title [] = None
titled_rule title (item.Rule rule ∷ more) = or_own title rule (titled_rule title more)
titled_rule title (item.Program program ∷ more) = titled_rule title more
titled_rule title (item.Certificate c ∷ more) = titled_rule title more

-- the rule is of method simulate, and it is a certificate of the rule
abbrev pub IsProvedBy : Rule → Certificate → Type 0
IsProvedBy rule c = (is_simulate rule.method ≡ true) × IsCertificate rule c

-- it is a certificate of the rule of its title among the items before it, which is of method simulate
pub record IsValidBehind (before : List Item) (c : TitledCertificate) : Type 0 where
  pub rule : Rule
  pub found : titled_rule c.title before ≡ Some rule
  pub simulates : is_simulate rule.method ≡ true
  pub certified : IsCertificate rule c.certificate

pub record IsCheckOf (before : List Item) (c : TitledCertificate) (check : Check) : Type 0 where
  pub title : check.title ≡ c.title
  pub exact : (check.is_valid ≡ true) ↔ IsValidBehind before c

-- the checks of one item, behind these
abbrev pub ItemChecks : List Item → Item → List Check → Type 0
ItemChecks before (item.Rule rule) checks = checks ≡ []
ItemChecks before (item.Program program) checks = checks ≡ []
ItemChecks before (item.Certificate c) checks = (check : Check) × (checks ≡ check ∷ []) × IsCheckOf before c check

-- the checks of items, behind those before
abbrev pub AreChecks : List Item → List Item → List Check → Type 0
AreChecks before [] checks = checks ≡ []
AreChecks before (a ∷ more) checks =
    (own : List Check) × (others : List Check) × (checks ≡ own ++ others) × ItemChecks before a own × AreChecks (before ++ a ∷ []) more others

-- each rule section with the title of a certificate that is valid spells a valid rule
abbrev pub CheckedAreValid : List Section → List Item → Type 0
CheckedAreValid sections items =
    (before : List Item) (c : TitledCertificate) (behind : List Item) → items ≡ before ++ item.Certificate c ∷ behind → IsValidBehind before c
    → (section : Section) → Contains sections section → section.kind ≡ kind.Rule → section.title ≡ c.title
    → (rule : Rule) → SpellsRule section.title section.body rule → Valid rule
