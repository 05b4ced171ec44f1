-- The verdicts on the rules of an input, in order, and what they say of the rules that the input's sections spell.
use Rattle.std.specs.Prelude.{◌≡◌, true, List, [], ◌∷◌, Contains, flat_map}
use Rattle.toy_imp.specs.declared.rule.Rule.{Rule}
use Rattle.toy_imp.specs.Valid.{Valid}
use Rattle.pec_text.specs.declared.section_data.Section.{Section}
use Rattle.pec_text.specs.declared.section_data.SectionKind.TheVariants as kind
use Rattle.program_reader.specs.RuleText.{SpellsRule}
use Rattle.pec_top.specs.declared.content.Item.{Item}
use Rattle.pec_top.specs.declared.content.Item.TheVariants as item
use Rattle.pec_top.specs.declared.verdict.Verdict.{Verdict}
use Rattle.pec_top.specs.SkipForm.{sides_agree}

-- a rule is proved where its sides agree
abbrev pub verdict_of : Rule → Verdict
verdict_of rule = record { title = rule.title; is_proved = sides_agree rule }

abbrev pub item_verdicts : Item → List Verdict
item_verdicts (item.Rule rule) = verdict_of rule ∷ []
item_verdicts (item.Program program) = []
item_verdicts (item.Certificate c) = []

abbrev pub verdicts : List Item → List Verdict
verdicts items = flat_map item_verdicts items

-- each rule section with the title of a rule that is proved spells a valid rule
abbrev pub ProvedAreValid : List Section → List Item → Type 0
ProvedAreValid sections items = (verdict : Verdict) → Contains (verdicts items) verdict → verdict.is_proved ≡ true
    → (section : Section) → Contains sections section → section.kind ≡ kind.Rule → section.title ≡ verdict.title
    → (rule : Rule) → SpellsRule section.title section.body rule → Valid rule
