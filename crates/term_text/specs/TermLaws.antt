-- The laws of terms as words: the words of a term whose constants have 64 bits and which nests at most 4,100 deep are read as it.
use Rattle.std.specs.Prelude.{◌≡◌, ◌≤◌, true, List, ◌++◌, Some}
use Rattle.rule_terms.specs.Term.{StoreTerm, ValueTerm, store_depth, value_depth}
use Rattle.word_text.specs.declared.token.Token.{Token}
use Rattle.term_text.specs.TermText.{store_words, value_words, store_fits, value_fits}
use Rattle.term_text.specs.TermReading.{store_read, value_read}

abbrev pub TermReadsBack : Type 0
TermReadsBack =
    ((s : StoreTerm) (rest : List Token) → store_depth s ≤ 4100 → store_fits s ≡ true → store_read 4100 (store_words s ++ rest) ≡ Some (s, rest))
    × ((v : ValueTerm) (rest : List Token) → value_depth v ≤ 4100 → value_fits v ≡ true → value_read 4100 (value_words v ++ rest) ≡ Some (v, rest))
