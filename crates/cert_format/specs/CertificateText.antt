-- Certificates as words, line by line, and which of them are within the grammar. How a term stands in a line is passed in.
--   certificate : entries n; for each `entry P Q m` and m lines `conj k LIT{k} then LIT`, or `then false`;
--                 proofs n; for each `proof E A B C U` (spot, `-` for no conjunct, used) and a refutation
use Rattle.std.specs.Prelude.{ℕ, Bool, true, ◌&&◌, List, [], ◌∷◌, ◌++◌, length, Option, None, Some}
use Rattle.std.specs.List.{list_all, flat_map}
use Rattle.rule_terms.specs.Term.{StoreTerm, ValueTerm}
use Rattle.rule_terms.specs.declared.obligation.Conjunct.{Conjunct}
use Rattle.rule_terms.specs.declared.obligation.Literal.{Literal}
use Rattle.spot_obligations.specs.declared.entry.Entry.{Entry}
use Rattle.spot_obligations.specs.declared.entry.Spot.{Spot}
use Rattle.cert_checker.specs.declared.certificate.Certificate.{Certificate}
use Rattle.cert_checker.specs.declared.certificate.Proved.{Proved}
use Rattle.word_text.specs.declared.token.Key.TheVariants as key
use Rattle.word_text.specs.declared.token.Token.{Token}
use Rattle.word_text.specs.declared.token.Token.TheVariants.{Key, End}
use Rattle.term_text.specs.TermText.{store_words, value_words}
use Rattle.refutation_text.specs.NumberText.{count_word, counted_words}
use Rattle.refutation_text.specs.LiteralText.{literal_words, literal_fits, literals_fit}
use Rattle.refutation_text.specs.StepText.{refutation_words, refutation_fits, index_fits}

-- how many lines there are, and they
abbrev pub lines_words : {X : Type 0} → (X → List Token) → List X → List Token
lines_words words xs = count_word (length xs) ∷ End ∷ flat_map words xs

abbrev pub conjunct_number : Option ℕ → Token
conjunct_number None = Key key.Minus
conjunct_number (Some c) = count_word c

module _ (store : StoreTerm → List Token) (value : ValueTerm → List Token) where
  abbrev pub gives_words : Option Literal → List Token
  gives_words None = Key key.False ∷ []
  gives_words (Some x) = literal_words store value x

  abbrev pub conjunct_words : Conjunct → List Token
  conjunct_words c =
      Key key.Conj ∷ (counted_words (literal_words store value) c.when ++ (Key key.Then ∷ (gives_words c.gives ++ End ∷ [])))

  abbrev pub entry_words : Entry → List Token
  entry_words e = Key key.Entry ∷ count_word e.left ∷ count_word e.right ∷ lines_words conjunct_words e.conjuncts

  abbrev pub proved_words : Proved → List Token
  proved_words p =
      Key key.Proof ∷ count_word p.spot.entry ∷ count_word p.spot.left ∷ count_word p.spot.right ∷ conjunct_number p.spot.conjunct
      ∷ count_word p.used ∷ End ∷ refutation_words store value p.proof

  abbrev pub certificate_words : Certificate → List Token
  certificate_words c =
      Key key.Entries ∷ (lines_words entry_words c.entries ++ (Key key.Proofs ∷ lines_words proved_words c.proofs))

-- the first format, in which each term is written out at its place
abbrev pub first_format : Certificate → List Token
first_format c = Key key.Format ∷ count_word 1 ∷ Key key.Simulate ∷ End ∷ certificate_words store_words value_words c

-- ---- terms nest at most 4,100 deep, numbers have the bits of their types
abbrev pub gives_fits : Option Literal → Bool
gives_fits None = true
gives_fits (Some x) = literal_fits x

abbrev pub conjunct_fits : Conjunct → Bool
conjunct_fits c = literals_fit c.when && gives_fits c.gives

abbrev pub entry_fits : Entry → Bool
entry_fits e = index_fits e.left && (index_fits e.right && list_all conjunct_fits e.conjuncts)

abbrev pub number_fits : Option ℕ → Bool
number_fits None = true
number_fits (Some c) = index_fits c

abbrev pub spot_fits : Spot → Bool
spot_fits s = index_fits s.entry && (index_fits s.left && (index_fits s.right && number_fits s.conjunct))

abbrev pub proved_fits : Proved → Bool
proved_fits p = spot_fits p.spot && (index_fits p.used && refutation_fits p.proof)

abbrev pub certificate_fits : Certificate → Bool
certificate_fits c = list_all entry_fits c.entries && list_all proved_fits c.proofs
