-- No meaning: what the code looks for among the parts of an obligation.
use Rattle.std.specs.Prelude.{ℕ, Bool, not, is_some, List}
use Rattle.toy_imp.specs.declared.param.Kind.{Kind}
use Rattle.rule_terms.specs.Parts.{Part, a_place}
use Rattle.std.specs.Prelude.{false}
use Rattle.term_universe.specs.Walked.{part_of}
use Rattle.escape_marks.specs.Marks.{name_class}
use Rattle.escape_universe.specs.Covered.{same_part, is_near, uncovered}
use Rattle.escape_universe.specs.declared.sought.Sought.{Sought}
use Rattle.escape_universe.specs.declared.sought.Sought.TheVariants.{Same, Near, Unmarked, Unnamed}

-- a place whose name has no class
abbrev pub unnamed : List Kind → List ℕ → Part → Bool
unnamed params classes (a_place p) = not (is_some (name_class params classes p.name))
unnamed params classes _ = false

unfoldable pub meets : Sought → Part → Bool
meets (Same p) q = same_part (part_of p) q
meets (Near cs t) q = is_near cs.now t.now q
meets (Unmarked cs e) q = uncovered cs.now e.now q
meets (Unnamed params classes) q = unnamed params.now classes.now q
