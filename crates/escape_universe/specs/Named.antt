-- No meaning: the names of an obligation, literal by literal.
use Rattle.std.specs.Prelude.{ℕ, Bool, true, ◌&&◌, List, is_some}
use Rattle.std.specs.List.{list_all}
use Rattle.toy_imp.specs.declared.param.Kind.{Kind}
use Rattle.rule_terms.specs.declared.obligation.Atom.{Atom}
use Rattle.rule_terms.specs.declared.obligation.Atom.TheVariants.{SameName}
use Rattle.rule_terms.specs.declared.obligation.Literal.{Literal}
use Rattle.rule_terms.specs.declared.obligation.Conjunct.{Conjunct}
use Rattle.term_universe.specs.Names.{literal_names, conjunct_literals}
use Rattle.escape_marks.specs.Marks.{name_class}

module _ (params : List Kind) (classes : List ℕ) where
  abbrev pub named : ℕ → Bool
  named x = is_some (name_class params classes x)

  abbrev pub equality_named : Atom → Bool
  equality_named (SameName x y) = named x && named y
  equality_named _ = true

  unfoldable pub literal_named : Literal → Bool
  literal_named l = list_all named (literal_names l)

  unfoldable pub conjunct_named : Conjunct → Bool
  conjunct_named c = list_all literal_named (conjunct_literals c)
