-- Certificates read from the front of words. How a term is read is passed in.
use Rattle.std.specs.Prelude.{ℕ, ◌==◌, cond, List, ◌∷◌, Option, None, Some}
use Rattle.rule_terms.specs.Term.{StoreTerm, ValueTerm}
use Rattle.rule_terms.specs.declared.obligation.Conjunct.{Conjunct}
use Rattle.rule_terms.specs.declared.obligation.Literal.{Literal}
use Rattle.spot_obligations.specs.declared.entry.Entry.{Entry}
use Rattle.spot_obligations.specs.declared.entry.Spot.{Spot}
use Rattle.cert_checker.specs.declared.certificate.Certificate.{Certificate}
use Rattle.cert_checker.specs.declared.certificate.Proved.{Proved}
use Rattle.word_text.specs.declared.token.Key.TheVariants as key
use Rattle.word_text.specs.declared.token.Token.{Token}
use Rattle.word_text.specs.declared.token.Token.TheVariants.{Key}
use Rattle.term_text.specs.TermReading.{Read, then_read, store_read, value_read}
use Rattle.refutation_text.specs.NumberText.{after, end_read, count_read, index_read, many_read, counted_read}
use Rattle.refutation_text.specs.LiteralReading.{one_read, two_read, literal_read}
use Rattle.refutation_text.specs.StepReading.{refutation_read}

-- ---- the tokens behind a word
abbrev pub format_head : List Token → Option (List Token)
format_head (Key key.Format ∷ ts) = Some ts
format_head _ = None

abbrev pub simulate_head : List Token → Option (List Token)
simulate_head (Key key.Simulate ∷ ts) = Some ts
simulate_head _ = None

abbrev pub entries_head : List Token → Option (List Token)
entries_head (Key key.Entries ∷ ts) = Some ts
entries_head _ = None

abbrev pub entry_head : List Token → Option (List Token)
entry_head (Key key.Entry ∷ ts) = Some ts
entry_head _ = None

abbrev pub conj_head : List Token → Option (List Token)
conj_head (Key key.Conj ∷ ts) = Some ts
conj_head _ = None

abbrev pub then_head : List Token → Option (List Token)
then_head (Key key.Then ∷ ts) = Some ts
then_head _ = None

abbrev pub false_head : List Token → Option (List Token)
false_head (Key key.False ∷ ts) = Some ts
false_head _ = None

abbrev pub minus_head : List Token → Option (List Token)
minus_head (Key key.Minus ∷ ts) = Some ts
minus_head _ = None

abbrev pub proofs_head : List Token → Option (List Token)
proofs_head (Key key.Proofs ∷ ts) = Some ts
proofs_head _ = None

abbrev pub proof_head : List Token → Option (List Token)
proof_head (Key key.Proof ∷ ts) = Some ts
proof_head _ = None

-- how many lines there are, and they
abbrev pub lines_read : {X : Type 0} → Read X → Read (List X)
lines_read read ts = then_read (count_read ts) (λ n more. after (end_read more) (many_read read n))

-- nothing where this word stands, else what is read
abbrev pub unless_word : {X : Type 0} → Option (List Token) → Option (X × List Token) → Option (Option X × List Token)
unless_word (Some rest) read = Some (None, rest)
unless_word None read = then_read read (λ x rest. Some (Some x, rest))

-- the number of a conjunct, or `-`
abbrev pub conjunct_number_read : Read (Option ℕ)
conjunct_number_read ts = unless_word (minus_head ts) (index_read ts)

abbrev pub spot_read : Read Spot
spot_read ts =
    then_read (index_read ts) (λ e more.
    then_read (index_read more) (λ a more.
    two_read index_read conjunct_number_read (λ b c. record { entry = e; left = a; right = b; conjunct = c }) more))

module _ (store : Read StoreTerm) (value : Read ValueTerm) where
  -- a literal, or `false`
  abbrev pub gives_read : Read (Option Literal)
  gives_read ts = unless_word (false_head ts) (literal_read store value ts)

  -- what a conjunct gives, and the end of the line
  abbrev pub given_read : List Literal → Read Conjunct
  given_read when ts =
      after (then_head ts) (λ more.
      then_read (gives_read more) (λ gives rest.
      after (end_read rest) (λ rest. Some (record { when = when; gives = gives }, rest))))

  abbrev pub conjunct_read : Read Conjunct
  conjunct_read ts = after (conj_head ts) (λ more. then_read (counted_read (literal_read store value) more) given_read)

  abbrev pub entry_read : Read Entry
  entry_read ts =
      after (entry_head ts) (λ more.
      then_read (index_read more) (λ p more.
      two_read index_read (lines_read conjunct_read) (λ q cs. record { left = p; right = q; conjuncts = cs }) more))

  -- how many conjuncts are used, the end of the line, and the refutation
  abbrev pub shown_read : Spot → Read Proved
  shown_read spot ts =
      then_read (index_read ts) (λ used more.
      after (end_read more) (one_read (refutation_read store value) (λ r. record { spot = spot; used = used; proof = r })))

  abbrev pub proved_read : Read Proved
  proved_read ts = after (proof_head ts) (λ more. then_read (spot_read more) shown_read)

  abbrev pub proofs_read : List Entry → Read Certificate
  proofs_read entries ts =
      after (proofs_head ts) (one_read (lines_read proved_read) (λ ps. record { entries = entries; proofs = ps }))

  abbrev pub certificate_read : Read Certificate
  certificate_read ts = after (entries_head ts) (λ more. then_read (lines_read entry_read more) proofs_read)

-- ---- the first format
abbrev pub is_one : ℕ × List Token → Option (List Token)
is_one p = cond (p.0 == 1) (Some p.1) None

abbrev pub first_head : List Token → Option (List Token)
first_head ts =
    after (format_head ts) (λ more.
    then_read (count_read more) (λ n more.
    after (is_one (n, more)) (λ more. after (simulate_head more) end_read)))

abbrev pub first_read : Read Certificate
first_read ts = after (first_head ts) (certificate_read (store_read 4100) (value_read 4100))
