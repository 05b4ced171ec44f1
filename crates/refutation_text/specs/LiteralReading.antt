-- Literals read from the front of words. How a term is read is passed in.
use Rattle.std.specs.Prelude.{Bool, true, false, ◌∷◌, Some, None}
use Rattle.rule_terms.specs.Term.{StoreTerm, ValueTerm}
use Rattle.rule_terms.specs.declared.obligation.Atom.{Atom}
use Rattle.rule_terms.specs.declared.obligation.Atom.TheVariants as atom
use Rattle.rule_terms.specs.declared.obligation.Literal.{Literal}
use Rattle.word_text.specs.declared.token.Key.TheVariants as key
use Rattle.word_text.specs.declared.token.Token.TheVariants.{Key}
use Rattle.term_text.specs.TermReading.{Read, then_read, store_read, value_read}
use Rattle.refutation_text.specs.declared.head.AtomHead.{AtomHead}
use Rattle.refutation_text.specs.declared.head.AtomHead.TheVariants as head
use Rattle.refutation_text.specs.NumberText.{par_read, wide_read}

abbrev pub sign_read : Read Bool
sign_read (Key key.Plus ∷ ts) = Some (true, ts)
sign_read (Key key.Minus ∷ ts) = Some (false, ts)
sign_read _ = None

abbrev pub atom_head : Read AtomHead
atom_head (Key key.Name ∷ ts) = Some (head.Name, ts)
atom_head (Key key.Store ∷ ts) = Some (head.Store, ts)
atom_head (Key key.Value ∷ ts) = Some (head.Value, ts)
atom_head (Key key.Most ∷ ts) = Some (head.Most, ts)
atom_head (Key key.Ends ∷ ts) = Some (head.Ends, ts)
atom_head (Key key.Holds ∷ ts) = Some (head.Holds, ts)
atom_head _ = None

-- one thing, and what it makes
abbrev pub one_read : {X Y : Type 0} → Read X → (X → Y) → Read Y
one_read first make ts = then_read (first ts) (λ x rest. Some (make x, rest))

-- two things, one behind the other
abbrev pub two_read : {X Y Z : Type 0} → Read X → Read Y → (X → Y → Z) → Read Z
two_read first second make ts = then_read (first ts) (λ x more. one_read second (make x) more)

module _ (store : Read StoreTerm) (value : Read ValueTerm) where
  unfoldable pub atom_behind : AtomHead → Read Atom
  atom_behind head.Name ts = two_read par_read par_read atom.SameName ts
  atom_behind head.Store ts = two_read store store atom.SameStore ts
  atom_behind head.Value ts = two_read value value atom.SameValue ts
  atom_behind head.Most ts = then_read (value ts) (λ a more. two_read value wide_read (atom.AtMost a) more)
  atom_behind head.Ends ts = one_read store atom.Ends ts
  atom_behind head.Holds ts = two_read par_read store atom.Holds ts

  abbrev pub atom_read : Read Atom
  atom_read ts = then_read (atom_head ts) atom_behind

  abbrev pub literal_read : Read Literal
  literal_read ts = then_read (sign_read ts) (λ sign more. one_read atom_read (λ a. record { sign = sign; atom = a }) more)

-- terms are written out
abbrev pub written_literal : Read Literal
written_literal = literal_read (store_read 4100) (value_read 4100)
