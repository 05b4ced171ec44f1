-- Steps and refutations read from the front of words. How a term is read is passed in.
use Rattle.std.specs.Prelude.{ℕ, zero, suc, List, [], ◌∷◌, length, Option, Some, None}
use Rattle.rule_terms.specs.Term.{StoreTerm, ValueTerm}
use Rattle.refutations.specs.Refutation.{Refutation, tree_of}
use Rattle.refutations.specs.declared.refutation.By.{By}
use Rattle.refutations.specs.declared.refutation.By.TheVariants as by
use Rattle.refutations.specs.declared.refutation.Part.{Part}
use Rattle.refutations.specs.declared.refutation.Part.TheVariants as part
use Rattle.refutations.specs.declared.refutation.Step.{Step}
use Rattle.refutations.specs.declared.refutation.SumRow.{SumRow}
use Rattle.refutations.specs.declared.refutation.SumRow.TheVariants as row
use Rattle.word_text.specs.declared.token.Key.TheVariants as key
use Rattle.word_text.specs.declared.token.Token.{Token}
use Rattle.word_text.specs.declared.token.Token.TheVariants.{Key}
use Rattle.term_text.specs.TermReading.{Read, then_read, store_read, value_read}
use Rattle.refutation_text.specs.declared.head.ReasonHead.{ReasonHead}
use Rattle.refutation_text.specs.declared.head.ReasonHead.TheVariants as why
use Rattle.refutation_text.specs.declared.head.RowHead.{RowHead}
use Rattle.refutation_text.specs.declared.head.RowHead.TheVariants as of
use Rattle.refutation_text.specs.declared.head.PartHead.{PartHead}
use Rattle.refutation_text.specs.declared.head.PartHead.TheVariants as begin
use Rattle.refutation_text.specs.NumberText.{after, end_read, count_read, index_read, int_read, many_read, counted_read}
use Rattle.refutation_text.specs.LiteralReading.{one_read, two_read, literal_read}

abbrev pub row_head : Read RowHead
row_head (Key key.Of ∷ ts) = Some (of.Of, ts)
row_head (Key key.Back ∷ ts) = Some (of.Back, ts)
row_head (Key key.Num ∷ ts) = Some (of.Num, ts)
row_head (Key key.Off ∷ ts) = Some (of.Off, ts)
row_head (Key key.OffBack ∷ ts) = Some (of.OffBack, ts)
row_head _ = None

abbrev pub reason_head : Read ReasonHead
reason_head (Key key.Given ∷ ts) = Some (why.Given, ts)
reason_head (Key key.Known ∷ ts) = Some (why.Known, ts)
reason_head (Key key.Refl ∷ ts) = Some (why.Refl, ts)
reason_head (Key key.Flip ∷ ts) = Some (why.Flip, ts)
reason_head (Key key.Chain ∷ ts) = Some (why.Chain, ts)
reason_head (Key key.Alike ∷ ts) = Some (why.Alike, ts)
reason_head (Key key.Carry ∷ ts) = Some (why.Carry, ts)
reason_head (Key key.Law ∷ ts) = Some (why.Law, ts)
reason_head (Key key.Meet ∷ ts) = Some (why.Meet, ts)
reason_head (Key key.Sum ∷ ts) = Some (why.Sum, ts)
reason_head _ = None

abbrev pub part_head : Read PartHead
part_head (Key key.Split ∷ ts) = Some (begin.Split, ts)
part_head (Key key.Leaf ∷ ts) = Some (begin.Leaf, ts)
part_head _ = None

abbrev pub step_head : List Token → Option (List Token)
step_head (Key key.Step ∷ ts) = Some ts
step_head _ = None

abbrev pub indices_read : Read (List ℕ)
indices_read = counted_read index_read

-- how many refutations are still to come behind this part, where so many were to come
abbrev pub wanted_behind : ℕ → Part → ℕ
wanted_behind n (part.Split x) = suc n
wanted_behind zero (part.Leaf steps) = zero
wanted_behind (suc n) (part.Leaf steps) = n

-- no part more where no refutation is to come
abbrev pub unless_wanted : ℕ → List Token → Option (List Part × List Token) → Option (List Part × List Token)
unless_wanted zero ts more = Some ([], ts)
unless_wanted (suc n) ts more = more

module _ (value : Read ValueTerm) where
  unfoldable pub row_behind : RowHead → Read SumRow
  row_behind of.Of ts = one_read index_read row.Of ts
  row_behind of.Back ts = one_read index_read row.Back ts
  row_behind of.Num ts = two_read int_read int_read row.Num ts
  row_behind of.Off ts = one_read value row.Off ts
  row_behind of.OffBack ts = one_read value row.OffBack ts

  abbrev pub row_read : Read SumRow
  row_read ts = then_read (row_head ts) row_behind

module _ (store : Read StoreTerm) (value : Read ValueTerm) where
  -- a clause, the place of a literal in it, and the steps that are cited
  abbrev pub law_read : ℕ → Read By
  law_read k ts =
      then_read (counted_read (literal_read store value) ts) (λ clause more.
      two_read index_read indices_read (by.Law k clause) more)

  unfoldable pub reason_behind : ReasonHead → Read By
  reason_behind why.Given ts = Some (by.Given, ts)
  reason_behind why.Known ts = two_read index_read indices_read by.Known ts
  reason_behind why.Refl ts = Some (by.Refl, ts)
  reason_behind why.Flip ts = one_read index_read by.Flip ts
  reason_behind why.Chain ts = two_read index_read index_read by.Chain ts
  reason_behind why.Alike ts = one_read indices_read by.Alike ts
  reason_behind why.Carry ts = two_read index_read indices_read by.Carry ts
  reason_behind why.Law ts = then_read (index_read ts) law_read
  reason_behind why.Meet ts = two_read index_read index_read by.Meet ts
  reason_behind why.Sum ts = one_read (counted_read (row_read value)) by.Sum ts

  abbrev pub reason_read : Read By
  reason_read ts = then_read (reason_head ts) reason_behind

  -- a literal and its reason, and the end of the line
  abbrev pub reasoned : Read Step
  reasoned ts =
      then_read (literal_read store value ts) (λ x more.
      then_read (reason_read more) (λ why rest.
      after (end_read rest) (λ rest. Some (record { gives = x; by = why }, rest))))

  abbrev pub step_read : Read Step
  step_read ts = after (step_head ts) reasoned

  unfoldable pub part_behind : PartHead → Read Part
  part_behind begin.Split ts =
      then_read (literal_read store value ts) (λ x more. after (end_read more) (λ rest. Some (part.Split x, rest)))
  part_behind begin.Leaf ts =
      then_read (count_read ts) (λ n more. after (end_read more) (one_read (many_read step_read n) part.Leaf))

  abbrev pub part_read : Read Part
  part_read ts = then_read (part_head ts) part_behind

  -- the parts of so many refutations, at most so many parts
  unfoldable pub parts_read : ℕ → ℕ → Read (List Part)
  parts_read zero n ts = unless_wanted n ts None
  parts_read (suc most) n ts =
      unless_wanted n ts (then_read (part_read ts) (λ p more.
      then_read (parts_read most (wanted_behind n p) more) (λ ps rest. Some (p ∷ ps, rest))))

  -- each part has a word
  abbrev pub refutation_read : Read Refutation
  refutation_read ts = one_read (parts_read (length ts) 1) tree_of ts

-- terms are written out
abbrev pub written_step_read : Read Step
written_step_read = step_read (store_read 4100) (value_read 4100)

abbrev pub written_refutation_read : Read Refutation
written_refutation_read = refutation_read (store_read 4100) (value_read 4100)
