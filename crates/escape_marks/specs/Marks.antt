-- What an escape says of names and terms: classes, numbers and flags, and which atoms are true in it.
-- A name that has no class, and a term that has no mark, is equal to nothing.
use Rattle.std.specs.Prelude.{ℕ, ℤ, ◌+ℤ◌, Bool, true, false, not, cond, ◌==◌, ◌&&◌, ◌||◌, List, [], ◌∷◌, length, filter, take, Option, Some, None, slice_get, int_le}
use Rattle.std.specs.Ordering.{int_eq}
use Rattle.std.specs.List.{list_all}
use Rattle.toy_imp.specs.declared.param.Kind.{Kind}
use Rattle.toy_imp.specs.declared.param.Kind.TheVariants as kind
use Rattle.rule_terms.specs.Term.{StoreTerm, ValueTerm}
use Rattle.rule_terms.specs.Order.{store_same, value_same}
use Rattle.rule_terms.specs.declared.obligation.Atom.{Atom}
use Rattle.rule_terms.specs.declared.obligation.Atom.TheVariants.{SameName, SameStore, SameValue, AtMost, Ends, Holds}
use Rattle.rule_terms.specs.declared.obligation.Literal.{Literal}
use Rattle.rule_terms.specs.declared.obligation.Conjunct.{Conjunct}
use Rattle.law_clauses.specs.Signed.{Signed, plus, minus, signed_of}
use Rattle.escape_marks.specs.declared.escape.StoreMark.{StoreMark}
use Rattle.escape_marks.specs.declared.escape.ValueMark.{ValueMark}
use Rattle.escape_marks.specs.declared.escape.TestMark.{TestMark}
use Rattle.escape_marks.specs.declared.escape.Escape.{Escape}

-- the classes are those of the parameters of kind name, in order
abbrev pub is_name : Kind → Bool
is_name kind.Name = true
is_name kind.Expr = false
is_name kind.Test = false
is_name kind.Stmt = false

abbrev pub count_names : List Kind → ℕ
count_names params = length (filter is_name params)

abbrev pub class_of_kind : List ℕ → ℕ → Option Kind → Option ℕ
class_of_kind classes before (Some kind.Name) = slice_get classes before
class_of_kind classes before _ = None

-- the class of a name parameter
unfoldable pub name_class : List Kind → List ℕ → ℕ → Option ℕ
name_class params classes x = class_of_kind classes (count_names (take x params)) (slice_get params x)

-- the mark of a term
unfoldable pub store_mark : List StoreMark → StoreTerm → Option StoreMark
store_mark [] s = None
store_mark (m ∷ ms) s = cond (store_same s m.store) (Some m) (store_mark ms s)

unfoldable pub value_mark : List ValueMark → ValueTerm → Option ValueMark
value_mark [] v = None
value_mark (m ∷ ms) v = cond (value_same v m.value) (Some m) (value_mark ms v)

unfoldable pub test_mark : List TestMark → ℕ → StoreTerm → Option TestMark
test_mark [] k s = None
test_mark (m ∷ ms) k s = cond (k == m.test && store_same s m.store) (Some m) (test_mark ms k s)

abbrev pub one_number : Option ℕ → Option ℕ → Bool
one_number (Some c) (Some d) = c == d
one_number _ _ = false

abbrev pub one_class : Option StoreMark → Option StoreMark → Bool
one_class (Some m) (Some n) = m.class == n.class
one_class _ _ = false

abbrev pub one_value : Option ValueMark → Option ValueMark → Bool
one_value (Some m) (Some n) = int_eq m.number n.number
one_value _ _ = false

abbrev pub at_most : Option ValueMark → Option ValueMark → ℤ → Bool
at_most (Some m) (Some n) c = int_le m.number (n.number +ℤ c)
at_most _ _ c = false

abbrev pub ending : Option StoreMark → Bool
ending None = false
ending (Some m) = m.ends

abbrev pub holding : Option TestMark → Bool
holding None = false
holding (Some m) = m.holds

module _ (params : List Kind) (e : Escape) where
  -- names agree by their classes
  abbrev pub names_agree : ℕ → ℕ → Bool
  names_agree x y = one_number (name_class params e.names x) (name_class params e.names y)

  -- equality is the same class or the same number
  unfoldable pub atom_true : Atom → Bool
  atom_true (SameName x y) = one_number (name_class params e.names x) (name_class params e.names y)
  atom_true (SameStore a b) = one_class (store_mark e.stores a) (store_mark e.stores b)
  atom_true (SameValue a b) = one_value (value_mark e.values a) (value_mark e.values b)
  atom_true (AtMost a b c) = at_most (value_mark e.values a) (value_mark e.values b) c
  atom_true (Ends s) = ending (store_mark e.stores s)
  atom_true (Holds k s) = holding (test_mark e.tests k s)

  abbrev pub signed_true : Signed → Bool
  signed_true (plus a) = atom_true a
  signed_true (minus a) = not (atom_true a)

  abbrev pub literal_true : Literal → Bool
  literal_true x = signed_true (signed_of x)

  abbrev pub gives_true : Option Literal → Bool
  gives_true None = false
  gives_true (Some x) = literal_true x

  abbrev pub conjunct_true : Conjunct → Bool
  conjunct_true c = not (list_all literal_true c.when) || gives_true c.gives
