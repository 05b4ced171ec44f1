-- Literals and refutations whose terms are written out are read as they are.
use Rattle.std.specs.Prelude.{◌≡◌, ◌≤◌, ℕ, true, List, ◌++◌, Some, nat_le}
use Rattle.std.proofs.Common.{arith}
use Rattle.std.proofs.lemmas.Bool.Decides.{nat_tests}
use Rattle.std.proofs.lemmas.Bool.{and_parts}
use Rattle.rule_terms.specs.Term.{StoreTerm, ValueTerm, store_depth, value_depth}
use Rattle.word_text.specs.declared.token.Token.{Token}
use Rattle.term_text.specs.TermText.{store_words, value_words, store_fits, value_fits}
use Rattle.term_text.specs.TermReading.{store_read, value_read}
use Rattle.term_text.proofs.ReadTerms.{store_reads, value_reads}
use Rattle.refutation_text.specs.LiteralText.{small_store, small_value}
use Rattle.refutation_text.specs.TextLaws.{LiteralReadsBack, RefutationReadsBack}
use Rattle.refutation_text.proofs.ReadsBack.{literal_reads, refutation_reads}

le_is : (a b : ℕ) → nat_le a b ≡ true → a ≤ b
le_is a b h = grind (arith, nat_tests)

pub small_store_reads : (s : StoreTerm) (rest : List Token) → small_store s ≡ true → store_read 4100 (store_words s ++ rest) ≡ Some (s, rest)
small_store_reads s rest h =
    let p = and_parts (nat_le (store_depth s) 4100) (store_fits s) h in store_reads 4100 s rest (le_is (store_depth s) 4100 p.0) p.1

pub small_value_reads : (v : ValueTerm) (rest : List Token) → small_value v ≡ true → value_read 4100 (value_words v ++ rest) ≡ Some (v, rest)
small_value_reads v rest h =
    let p = and_parts (nat_le (value_depth v) 4100) (value_fits v) h in value_reads 4100 v rest (le_is (value_depth v) 4100 p.0) p.1

pub literal_reads_back : LiteralReadsBack
literal_reads_back x rest h = literal_reads (store_read 4100) (value_read 4100) store_words value_words small_store_reads small_value_reads x rest h

pub refutation_reads_back : RefutationReadsBack
refutation_reads_back r rest h = refutation_reads (store_read 4100) (value_read 4100) store_words value_words small_store_reads small_value_reads r rest h
