-- Steps and refutations as words, and which of them are within the grammar. How a term stands in a line is passed in.
--   proof : split LIT, and two proofs; or leaf k, and k lines `step LIT` with a reason
use Rattle.std.specs.Prelude.{◌^◌, Bool, true, ◌&&◌, ℕ, List, [], ◌∷◌, ◌++◌, length, nat_lt}
use Rattle.std.specs.List.{list_all, flat_map}
use Rattle.rule_terms.specs.Term.{StoreTerm, ValueTerm}
use Rattle.refutations.specs.Refutation.{Refutation, parts}
use Rattle.refutations.specs.declared.refutation.By.{By}
use Rattle.refutations.specs.declared.refutation.By.TheVariants as by
use Rattle.refutations.specs.declared.refutation.Part.{Part}
use Rattle.refutations.specs.declared.refutation.Part.TheVariants as part
use Rattle.refutations.specs.declared.refutation.Step.{Step}
use Rattle.refutations.specs.declared.refutation.SumRow.{SumRow}
use Rattle.refutations.specs.declared.refutation.SumRow.TheVariants as row
use Rattle.word_text.specs.declared.token.Key.TheVariants as key
use Rattle.word_text.specs.declared.token.Token.{Token}
use Rattle.word_text.specs.declared.token.Token.TheVariants.{Key, End}
use Rattle.term_text.specs.TermText.{number_word, is_word_64, store_words, value_words}
use Rattle.refutation_text.specs.NumberText.{count_word, counted_words, index_words}
use Rattle.refutation_text.specs.LiteralText.{literal_words, literal_fits, literals_fit, small_value}

module _ (value : ValueTerm → List Token) where
  abbrev pub row_words : SumRow → List Token
  row_words (row.Of k) = Key key.Of ∷ count_word k ∷ []
  row_words (row.Back k) = Key key.Back ∷ count_word k ∷ []
  row_words (row.Num a b) = Key key.Num ∷ number_word a ∷ number_word b ∷ []
  row_words (row.Off v) = Key key.Off ∷ value v
  row_words (row.OffBack v) = Key key.OffBack ∷ value v

module _ (store : StoreTerm → List Token) (value : ValueTerm → List Token) where
  abbrev pub reason_words : By → List Token
  reason_words by.Given = Key key.Given ∷ []
  reason_words (by.Known k from) = Key key.Known ∷ count_word k ∷ counted_words index_words from
  reason_words by.Refl = Key key.Refl ∷ []
  reason_words (by.Flip k) = Key key.Flip ∷ count_word k ∷ []
  reason_words (by.Chain j k) = Key key.Chain ∷ count_word j ∷ count_word k ∷ []
  reason_words (by.Alike from) = Key key.Alike ∷ counted_words index_words from
  reason_words (by.Carry k from) = Key key.Carry ∷ count_word k ∷ counted_words index_words from
  reason_words (by.Law k clause p from) =
      Key key.Law ∷ count_word k ∷ (counted_words (literal_words store value) clause
      ++ (count_word p ∷ counted_words index_words from))
  reason_words (by.Meet j k) = Key key.Meet ∷ count_word j ∷ count_word k ∷ []
  reason_words (by.Sum rows) = Key key.Sum ∷ counted_words (row_words value) rows

  abbrev pub step_words : Step → List Token
  step_words s = Key key.Step ∷ (literal_words store value s.gives ++ (reason_words s.by ++ End ∷ []))

  abbrev pub part_words : Part → List Token
  part_words (part.Split x) = Key key.Split ∷ (literal_words store value x ++ End ∷ [])
  part_words (part.Leaf steps) = Key key.Leaf ∷ count_word (length steps) ∷ End ∷ flat_map step_words steps

  abbrev pub refutation_words : Refutation → List Token
  refutation_words r = flat_map part_words (parts r)

-- terms are written out
abbrev pub written_step : Step → List Token
written_step = step_words store_words value_words

abbrev pub written_refutation : Refutation → List Token
written_refutation = refutation_words store_words value_words

-- ---- terms nest at most 4,100 deep, numbers have the bits of their types
abbrev pub index_fits : ℕ → Bool
index_fits k = nat_lt k (2 ^ 32)

abbrev pub row_fits : SumRow → Bool
row_fits (row.Of k) = index_fits k
row_fits (row.Back k) = index_fits k
row_fits (row.Num a b) = is_word_64 a && is_word_64 b
row_fits (row.Off v) = small_value v
row_fits (row.OffBack v) = small_value v

abbrev pub reason_fits : By → Bool
reason_fits by.Given = true
reason_fits (by.Known k from) = index_fits k && list_all index_fits from
reason_fits by.Refl = true
reason_fits (by.Flip k) = index_fits k
reason_fits (by.Chain j k) = index_fits j && index_fits k
reason_fits (by.Alike from) = list_all index_fits from
reason_fits (by.Carry k from) = index_fits k && list_all index_fits from
reason_fits (by.Law k clause p from) = index_fits k && (literals_fit clause && (index_fits p && list_all index_fits from))
reason_fits (by.Meet j k) = index_fits j && index_fits k
reason_fits (by.Sum rows) = list_all row_fits rows

abbrev pub step_fits : Step → Bool
step_fits s = literal_fits s.gives && reason_fits s.by

abbrev pub part_fits : Part → Bool
part_fits (part.Split x) = literal_fits x
part_fits (part.Leaf steps) = list_all step_fits steps

abbrev pub refutation_fits : Refutation → Bool
refutation_fits r = list_all part_fits (parts r)
