-- The words of a certificate are read as it, whatever follows, where those of terms are.
use Rattle.std.specs.Prelude.{◌≡◌, ℕ, Bool, true, false, ◌&&◌, List, [], ◌∷◌, ◌++◌, Option, Some, None, refl}
use Rattle.std.specs.List.{list_all}
use Rattle.std.proofs.Common.{◌∙◌}
use Rattle.std.proofs.lemmas.Bool.{and_parts}
use Rattle.rule_terms.specs.Term.{StoreTerm, ValueTerm}
use Rattle.rule_terms.specs.declared.obligation.Conjunct.{Conjunct}
use Rattle.rule_terms.specs.declared.obligation.Literal.{Literal}
use Rattle.spot_obligations.specs.declared.entry.Entry.{Entry}
use Rattle.spot_obligations.specs.declared.entry.Spot.{Spot}
use Rattle.cert_checker.specs.declared.certificate.Certificate.{Certificate}
use Rattle.cert_checker.specs.declared.certificate.Proved.{Proved}
use Rattle.word_text.specs.declared.token.Key.TheVariants as key
use Rattle.word_text.specs.declared.token.Token.{Token}
use Rattle.word_text.specs.declared.token.Token.TheVariants.{Key, End}
use Rattle.term_text.specs.TermText.{store_words, value_words}
use Rattle.term_text.specs.TermReading.{Read, then_read, store_read, value_read}
use Rattle.term_text.proofs.ReadTerms.{read_after}
use Rattle.refutation_text.specs.NumberText.{after, end_read, index_read, counted_read, count_word, counted_words, index_words}
use Rattle.refutation_text.specs.LiteralText.{sign_word, atom_words, literal_words, small_store, small_value, literal_fits, literals_fit}
use Rattle.refutation_text.specs.LiteralReading.{one_read, two_read, literal_read}
use Rattle.refutation_text.specs.StepText.{refutation_words, refutation_fits, index_fits}
use Rattle.refutation_text.specs.StepReading.{refutation_read}
use Rattle.refutation_text.proofs.ReadsBack.{step, one_reads, two_reads, index_reads, many_reads, counted_reads, literal_reads, refutation_reads}
use Rattle.refutation_text.proofs.WrittenBack.{small_store_reads, small_value_reads}
use Rattle.cert_format.specs.CertificateText.{lines_words, conjunct_number, gives_words, conjunct_words, entry_words, proved_words, certificate_words, first_format, gives_fits, conjunct_fits, entry_fits, number_fits, spot_fits, proved_fits, certificate_fits}
use Rattle.cert_format.specs.CertificateReading.{lines_read, unless_word, false_head, conjunct_number_read, spot_read, gives_read, given_read, conjunct_read, entry_read, shown_read, proved_read, proofs_read, certificate_read, first_read}

lines_reads : {X : Type 0} (read : Read X) (words : X → List Token) (fits : X → Bool) (each : (x : X) (rest : List Token) → fits x ≡ true → read (words x ++ rest) ≡ Some (x, rest))
    (xs : List X) (rest : List Token) → list_all fits xs ≡ true → lines_read read (lines_words words xs ++ rest) ≡ Some (xs, rest)
lines_reads read words fits each xs rest h = many_reads read words fits each xs rest h

number_reads : (o : Option ℕ) (rest : List Token) → number_fits o ≡ true → conjunct_number_read (conjunct_number o ∷ rest) ≡ Some (o, rest)
number_reads None rest h = refl
number_reads (Some c) rest h = step (index_read (index_words c ++ rest)) (λ x rest. Some (Some x, rest)) c rest (index_reads c rest h)

abbrev spot_words : Spot → List Token
spot_words s = count_word s.entry ∷ count_word s.left ∷ count_word s.right ∷ conjunct_number s.conjunct ∷ []

spot_reads : (s : Spot) (rest : List Token) → spot_fits s ≡ true → spot_read (spot_words s ++ rest) ≡ Some (s, rest)
spot_reads s rest h =
    let a = and_parts (index_fits s.entry) (index_fits s.left && (index_fits s.right && number_fits s.conjunct)) h in
    let b = and_parts (index_fits s.left) (index_fits s.right && number_fits s.conjunct) a.1 in
    let c = and_parts (index_fits s.right) (number_fits s.conjunct) b.1 in
    let last = conjunct_number s.conjunct ∷ rest in
    let third = count_word s.right ∷ last in
    let second = count_word s.left ∷ third in
    step (index_read (index_words s.entry ++ second))
    (λ e more. then_read (index_read more) (λ a more. two_read index_read conjunct_number_read (λ b c. record { entry = e; left = a; right = b; conjunct = c }) more))
    s.entry second (index_reads s.entry second a.0)
    ∙ step (index_read (index_words s.left ++ third)) (λ a more. two_read index_read conjunct_number_read (λ b c. record { entry = s.entry; left = a; right = b; conjunct = c }) more)
    s.left third (index_reads s.left third b.0)
    ∙ two_reads index_read conjunct_number_read (λ b c. record { entry = s.entry; left = s.left; right = b; conjunct = c }) (index_words s.right) (conjunct_number s.conjunct ∷ []) rest
    s.right s.conjunct (index_reads s.right last c.0) (number_reads s.conjunct rest c.1)

-- a literal does not begin with `false`
signed_literal : (sign : Bool) (ts : List Token) (o : Option (Literal × List Token)) → unless_word (false_head (sign_word sign ∷ ts)) o ≡ then_read o (λ y rest. Some (Some y, rest))
signed_literal true ts o = refl
signed_literal false ts o = refl

module _ (sr : Read StoreTerm) (vr : Read ValueTerm) (sw : StoreTerm → List Token) (vw : ValueTerm → List Token)
    (hs : (s : StoreTerm) (rest : List Token) → small_store s ≡ true → sr (sw s ++ rest) ≡ Some (s, rest))
    (hv : (v : ValueTerm) (rest : List Token) → small_value v ≡ true → vr (vw v ++ rest) ≡ Some (v, rest)) where
  abbrev lit : Read Literal
  lit = literal_read sr vr

  abbrev lw : Literal → List Token
  lw x = literal_words sw vw x

  lit_reads : (x : Literal) (rest : List Token) → literal_fits x ≡ true → lit (lw x ++ rest) ≡ Some (x, rest)
  lit_reads x rest h = literal_reads sr vr sw vw hs hv x rest h

  given_literal : (x : Literal) (rest : List Token) → gives_read sr vr (lw x ++ rest) ≡ then_read (lit (lw x ++ rest)) (λ y rest. Some (Some y, rest))
  given_literal x rest = signed_literal x.sign (atom_words sw vw x.atom ++ rest) (lit (lw x ++ rest))

  gives_reads : (o : Option Literal) (rest : List Token) → gives_fits o ≡ true → gives_read sr vr (gives_words sw vw o ++ rest) ≡ Some (o, rest)
  gives_reads None rest h = refl
  gives_reads (Some x) rest h = given_literal x rest ∙ step (lit (lw x ++ rest)) (λ y rest. Some (Some y, rest)) x rest (lit_reads x rest h)

  conjunct_reads : (c : Conjunct) (rest : List Token) → conjunct_fits c ≡ true → conjunct_read sr vr (conjunct_words sw vw c ++ rest) ≡ Some (c, rest)
  conjunct_reads c rest h =
      let p = and_parts (literals_fit c.when) (gives_fits c.gives) h in
      let back = Key key.Then ∷ (gives_words sw vw c.gives ++ End ∷ []) in
      read_after (counted_read lit) (given_read sr vr) (counted_words lw c.when) back rest c.when (counted_reads lit lw literal_fits lit_reads c.when (back ++ rest) p.0)
      ∙ read_after (gives_read sr vr) (λ gives rest. after (end_read rest) (λ rest. Some (record { when = c.when; gives = gives }, rest))) (gives_words sw vw c.gives) (End ∷ []) rest c.gives
      (gives_reads c.gives (End ∷ rest) p.1)

  entry_reads : (e : Entry) (rest : List Token) → entry_fits e ≡ true → entry_read sr vr (entry_words sw vw e ++ rest) ≡ Some (e, rest)
  entry_reads e rest h =
      let a = and_parts (index_fits e.left) (index_fits e.right && list_all conjunct_fits e.conjuncts) h in
      let b = and_parts (index_fits e.right) (list_all conjunct_fits e.conjuncts) a.1 in
      let lines = lines_words (conjunct_words sw vw) e.conjuncts in
      let more = count_word e.right ∷ (lines ++ rest) in
      step (index_read (index_words e.left ++ more)) (λ p more. two_read index_read (lines_read (conjunct_read sr vr)) (λ q cs. record { left = p; right = q; conjuncts = cs }) more)
      e.left more (index_reads e.left more a.0)
      ∙ two_reads index_read (lines_read (conjunct_read sr vr)) (λ q cs. record { left = e.left; right = q; conjuncts = cs }) (index_words e.right) lines rest e.right e.conjuncts
      (index_reads e.right (lines ++ rest) b.0)
      (lines_reads (conjunct_read sr vr) (conjunct_words sw vw) conjunct_fits conjunct_reads e.conjuncts rest b.1)

  proved_reads : (p : Proved) (rest : List Token) → proved_fits p ≡ true → proved_read sr vr (proved_words sw vw p ++ rest) ≡ Some (p, rest)
  proved_reads p rest h =
      let a = and_parts (spot_fits p.spot) (index_fits p.used && refutation_fits p.proof) h in
      let b = and_parts (index_fits p.used) (refutation_fits p.proof) a.1 in
      let words = refutation_words sw vw p.proof in
      let more = count_word p.used ∷ End ∷ (words ++ rest) in
      step (spot_read (spot_words p.spot ++ more)) (shown_read sr vr) p.spot more (spot_reads p.spot more a.0)
      ∙ step (index_read (index_words p.used ++ (End ∷ (words ++ rest))))
      (λ used more. after (end_read more) (one_read (refutation_read sr vr) (λ r. record { spot = p.spot; used = used; proof = r })))
      p.used (End ∷ (words ++ rest)) (index_reads p.used (End ∷ (words ++ rest)) b.0)
      ∙ one_reads (refutation_read sr vr) (λ r. record { spot = p.spot; used = p.used; proof = r }) (words ++ rest) rest p.proof
      (refutation_reads sr vr sw vw hs hv p.proof rest b.1)

  pub certificate_reads : (c : Certificate) (rest : List Token) → certificate_fits c ≡ true → certificate_read sr vr (certificate_words sw vw c ++ rest) ≡ Some (c, rest)
  certificate_reads c rest h =
      let p = and_parts (list_all entry_fits c.entries) (list_all proved_fits c.proofs) h in
      let lines = lines_words (proved_words sw vw) c.proofs in
      read_after (lines_read (entry_read sr vr)) (proofs_read sr vr) (lines_words (entry_words sw vw) c.entries) (Key key.Proofs ∷ lines) rest c.entries
      (lines_reads (entry_read sr vr) (entry_words sw vw) entry_fits entry_reads c.entries ((Key key.Proofs ∷ lines) ++ rest) p.0)
      ∙ one_reads (lines_read (proved_read sr vr)) (λ ps. record { entries = c.entries; proofs = ps }) (lines ++ rest) rest c.proofs
      (lines_reads (proved_read sr vr) (proved_words sw vw) proved_fits proved_reads c.proofs rest p.1)

pub first_reads : (c : Certificate) (rest : List Token) → certificate_fits c ≡ true → first_read (first_format c ++ rest) ≡ Some (c, rest)
first_reads c rest h = certificate_reads (store_read 4100) (value_read 4100) store_words value_words small_store_reads small_value_reads c rest h
