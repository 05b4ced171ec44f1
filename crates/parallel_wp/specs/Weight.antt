-- The nodes of literals and conjuncts where L counts a nodes and R counts b: those that they have with stores of so many
-- nodes in place of L and R.
use Rattle.std.specs.Prelude.{ℕ, ◌+◌, suc, List, [], ◌∷◌, Option, None, Some}
use Rattle.rule_terms.specs.SubstituteLaws.{store_weight, value_weight}
use Rattle.rule_terms.specs.declared.obligation.Atom.{Atom}
use Rattle.rule_terms.specs.declared.obligation.Atom.TheVariants.{SameName, SameStore, SameValue, AtMost, Ends, Holds}
use Rattle.rule_terms.specs.declared.obligation.Literal.{Literal}
use Rattle.rule_terms.specs.declared.obligation.Conjunct.{Conjunct}

unfoldable pub atom_weight : ℕ → ℕ → Atom → ℕ
atom_weight a b (SameName x y) = 0
atom_weight a b (SameStore s u) = store_weight a b s + store_weight a b u
atom_weight a b (SameValue v w) = value_weight a b v + value_weight a b w
atom_weight a b (AtMost v w c) = value_weight a b v + value_weight a b w
atom_weight a b (Ends s) = store_weight a b s
atom_weight a b (Holds k s) = store_weight a b s

abbrev pub literal_weight : ℕ → ℕ → Literal → ℕ
literal_weight a b x = suc (atom_weight a b x.atom)

abbrev pub literals_weight : ℕ → ℕ → List Literal → ℕ
literals_weight a b [] = 0
literals_weight a b (x ∷ xs) = literal_weight a b x + literals_weight a b xs

abbrev pub gives_weight : ℕ → ℕ → Option Literal → ℕ
gives_weight a b None = 0
gives_weight a b (Some x) = literal_weight a b x

abbrev pub conjunct_weight : ℕ → ℕ → Conjunct → ℕ
conjunct_weight a b c = literals_weight a b c.when + gives_weight a b c.gives
