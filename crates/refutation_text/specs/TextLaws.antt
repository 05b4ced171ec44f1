-- The law of literals, steps and refutations as words: those that are within the grammar are read as they are, whatever follows.
use Rattle.std.specs.Prelude.{◌≡◌, true, List, ◌++◌, Some}
use Rattle.rule_terms.specs.declared.obligation.Literal.{Literal}
use Rattle.refutations.specs.Refutation.{Refutation}
use Rattle.word_text.specs.declared.token.Token.{Token}
use Rattle.term_text.specs.TermText.{store_words, value_words}
use Rattle.refutation_text.specs.LiteralText.{literal_words, literal_fits}
use Rattle.refutation_text.specs.LiteralReading.{written_literal}
use Rattle.refutation_text.specs.StepText.{written_refutation, refutation_fits}
use Rattle.refutation_text.specs.StepReading.{written_refutation_read}

abbrev pub LiteralReadsBack : Type 0
LiteralReadsBack =
    (x : Literal) (rest : List Token) → literal_fits x ≡ true
    → written_literal (literal_words store_words value_words x ++ rest) ≡ Some (x, rest)

abbrev pub RefutationReadsBack : Type 0
RefutationReadsBack =
    (r : Refutation) (rest : List Token) → refutation_fits r ≡ true
    → written_refutation_read (written_refutation r ++ rest) ≡ Some (r, rest)
