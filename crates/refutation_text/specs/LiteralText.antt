-- Literals as words, and which of them are within the grammar. How a term stands in a line is passed in.
--   lit : (+|-) (name #j #k | store STORE STORE | value VALUE VALUE | most VALUE VALUE N | ends STORE | holds #k STORE)
use Rattle.std.specs.Prelude.{Bool, true, false, ◌&&◌, List, [], ◌∷◌, ◌++◌, nat_le}
use Rattle.std.specs.List.{list_all}
use Rattle.rule_terms.specs.Term.{StoreTerm, ValueTerm, store_depth, value_depth}
use Rattle.rule_terms.specs.declared.obligation.Atom.{Atom}
use Rattle.rule_terms.specs.declared.obligation.Atom.TheVariants as atom
use Rattle.rule_terms.specs.declared.obligation.Literal.{Literal}
use Rattle.word_text.specs.declared.token.Key.TheVariants as key
use Rattle.word_text.specs.declared.token.Token.{Token}
use Rattle.word_text.specs.declared.token.Token.TheVariants.{Key, Par}
use Rattle.term_text.specs.TermText.{number_word, store_fits, value_fits}
use Rattle.refutation_text.specs.NumberText.{is_word_128}

abbrev pub sign_word : Bool → Token
sign_word true = Key key.Plus
sign_word false = Key key.Minus

module _ (store : StoreTerm → List Token) (value : ValueTerm → List Token) where
  abbrev pub atom_words : Atom → List Token
  atom_words (atom.SameName x y) = Key key.Name ∷ Par x ∷ Par y ∷ []
  atom_words (atom.SameStore a b) = Key key.Store ∷ (store a ++ store b)
  atom_words (atom.SameValue a b) = Key key.Value ∷ (value a ++ value b)
  atom_words (atom.AtMost a b c) = Key key.Most ∷ (value a ++ (value b ++ number_word c ∷ []))
  atom_words (atom.Ends s) = Key key.Ends ∷ store s
  atom_words (atom.Holds k s) = Key key.Holds ∷ Par k ∷ store s

  abbrev pub literal_words : Literal → List Token
  literal_words x = sign_word x.sign ∷ atom_words x.atom

-- ---- terms nest at most 4,100 deep, numbers have the bits of their types
abbrev pub small_store : StoreTerm → Bool
small_store s = nat_le (store_depth s) 4100 && store_fits s

abbrev pub small_value : ValueTerm → Bool
small_value v = nat_le (value_depth v) 4100 && value_fits v

abbrev pub atom_fits : Atom → Bool
atom_fits (atom.SameName x y) = true
atom_fits (atom.SameStore a b) = small_store a && small_store b
atom_fits (atom.SameValue a b) = small_value a && small_value b
atom_fits (atom.AtMost a b c) = small_value a && (small_value b && is_word_128 c)
atom_fits (atom.Ends s) = small_store s
atom_fits (atom.Holds k s) = small_store s

abbrev pub literal_fits : Literal → Bool
literal_fits x = atom_fits x.atom

abbrev pub literals_fit : List Literal → Bool
literals_fit xs = list_all literal_fits xs
