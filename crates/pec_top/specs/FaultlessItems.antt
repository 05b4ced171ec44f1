-- Items whose rules are well formed, as each is that was read.
use Rattle.std.specs.Prelude.{◌≡◌, All, None}
use Rattle.toy_imp.specs.declared.rule.Rule.{Rule}
use Rattle.toy_imp.specs.Faults.{first_fault}
use Rattle.pec_top.specs.declared.content.Item.{Item}
use Rattle.pec_top.specs.declared.content.Item.TheVariants as item
use Rattle.pec_top.specs.declared.input.Input.{Input}
use Rattle.pec_top.specs.declared.input.Input.TheVariants as input

abbrev pub IsFaultlessRule : Rule → Type 0
IsFaultlessRule rule = first_fault rule ≡ None

abbrev pub IsFaultless : Item → Type 0
IsFaultless (item.Rule rule) = IsFaultlessRule rule
IsFaultless (item.Program program) = Unit {0}
IsFaultless (item.Certificate c) = Unit {0}

abbrev pub HasNoFault : Input → Type 0
HasNoFault (input.Accepted items) = All IsFaultless items
HasNoFault _ = Unit {0}
