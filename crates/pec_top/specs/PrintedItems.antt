-- The text of `print`: the canonical text of each item, in order.
use Rattle.std.specs.Prelude.{ℕ, List, ◌++◌, All, codes, flat_map}
use Rattle.cert_checker.specs.declared.certificate.Certificate.{Certificate}
use Rattle.cert_format.specs.SectionText.{certificate_body}
use Rattle.program_reader.specs.SpellableProgram.{IsSpellableProgram}
use Rattle.program_reader.specs.SpellableRule.{IsSpellableRule}
use Rattle.rule_printer.specs.PrintedRule.{rule_text}
use Rattle.rule_printer.specs.ProgramText.{program_text}
use Rattle.pec_top.specs.declared.content.Item.{Item}
use Rattle.pec_top.specs.declared.content.Item.TheVariants as item
use Rattle.pec_top.specs.declared.input.Input.{Input}
use Rattle.pec_top.specs.declared.input.Input.TheVariants as input

-- the section of a certificate in canonical text
abbrev pub certificate_text : List ℕ → Certificate → List ℕ
certificate_text title c = codes "cert " ++ (title ++ (codes "\n" ++ (certificate_body c ++ codes "end\n")))

abbrev pub item_text : Item → List ℕ
item_text (item.Rule rule) = rule_text rule
item_text (item.Program program) = program_text program.title program.block
item_text (item.Certificate c) = certificate_text c.title c.certificate

abbrev pub items_text : List Item → List ℕ
items_text items = flat_map item_text items

-- an item that can be written down, as each is that was read
abbrev pub IsSpellable : Item → Type 0
IsSpellable (item.Rule rule) = IsSpellableRule rule
IsSpellable (item.Program program) = IsSpellableProgram program.title program.block
IsSpellable (item.Certificate c) = Unit {0}

-- what there is to print can be written down
abbrev pub IsPrintable : Input → Type 0
IsPrintable (input.Accepted items) = All IsSpellable items
IsPrintable _ = Unit {0}
