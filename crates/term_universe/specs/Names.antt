-- The names of an obligation: those of its places, and those that it says to be equal or not.
use Rattle.std.specs.Prelude.{ℕ, List, [], ◌∷◌, ◌++◌, Option, Some, None}
use Rattle.std.specs.List.{flat_map}
use Rattle.rule_terms.specs.Parts.{Part, a_place, atom_parts}
use Rattle.rule_terms.specs.declared.obligation.Atom.{Atom}
use Rattle.rule_terms.specs.declared.obligation.Atom.TheVariants.{SameName}
use Rattle.rule_terms.specs.declared.obligation.Literal.{Literal}
use Rattle.rule_terms.specs.declared.obligation.Conjunct.{Conjunct}
use Rattle.rule_terms.specs.declared.obligation.Obligation.{Obligation}

abbrev pub place_name : Part → List ℕ
place_name (a_place p) = p.name ∷ []
place_name _ = []

abbrev pub atom_names : Atom → List ℕ
atom_names (SameName x y) = x ∷ y ∷ []
atom_names a = flat_map place_name (atom_parts a)

abbrev pub literal_names : Literal → List ℕ
literal_names l = atom_names l.atom

abbrev pub given_literal : Option Literal → List Literal
given_literal None = []
given_literal (Some l) = l ∷ []

abbrev pub conjunct_literals : Conjunct → List Literal
conjunct_literals c = c.when ++ given_literal c.gives

-- the literals of what is known, of the path, and of the goal
unfoldable pub obligation_literals : Obligation → List Literal
obligation_literals ob = flat_map conjunct_literals ob.known ++ (ob.path ++ conjunct_literals ob.goal)

-- the names, some of them more than once
abbrev pub obligation_names : Obligation → List ℕ
obligation_names ob = flat_map literal_names (obligation_literals ob)
