-- The words of a term are read as the term, whatever follows.
use Rattle.std.specs.Prelude.{◌≡◌, ◌≤◌, ℕ, zero, suc, ℤ, pos, negsuc, true, false, cond, ◌&&◌, List, ◌∷◌, ◌++◌, Option, Some, None, refl}
use Rattle.std.proofs.Common.{◌∙◌, ap, arith, append_assoc}
use Rattle.std.proofs.lemmas.Bool.{and_parts}
use Rattle.rule_terms.specs.Term.{StoreTerm, left_store, right_store, put, run, ValueTerm, num, get, ev, add, sub, mul, ValueTerms, no_terms, term, store_depth, value_depth, terms_depth}
use Rattle.word_text.specs.declared.token.Token.{Token}
use Rattle.word_text.specs.declared.token.Token.TheVariants.{Number, Par}
use Rattle.term_text.specs.TermText.{number_word, term_count, store_words, value_words, terms_words, is_word_64, store_fits, value_fits, terms_fit}
use Rattle.term_text.specs.TermLaws.{TermReadsBack}
use Rattle.term_text.specs.TermReading.{Read, then_read, constant, num_read, terms_read, write_read, pair_read, store_by, value_by, store_read, value_read}

num_reads : (z : ℤ) (rest : List Token) → is_word_64 z ≡ true → num_read (number_word z ∷ rest) ≡ Some (num z, rest)
num_reads (pos n) rest h = ap (λ b. constant (cond b (Some (pos n)) None) rest) h
num_reads (negsuc n) rest h = ap (λ b. constant (cond b (Some (negsuc n)) None) rest) h

-- one thing behind another
pub read_after : {X Y : Type 0} (read : Read X) (f : X → List Token → Option Y) (front back rest : List Token) (x : X) → read (front ++ (back ++ rest)) ≡ Some (x, back ++ rest)
    → then_read (read ((front ++ back) ++ rest)) f ≡ f x (back ++ rest)
read_after read f front back rest x h = ap (λ ts. then_read (read ts) f) (append_assoc front back rest) ∙ ap (λ r. then_read r f) h

pub read_last : {X Y : Type 0} (read : Read X) (f : X → List Token → Option Y) (front rest : List Token) (x : X) → read (front ++ rest) ≡ Some (x, rest) → then_read (read (front ++ rest)) f ≡ f x rest
read_last read f front rest x h = ap (λ r. then_read r f) h

pair_reads : (d : ℕ) (both : ValueTerm → ValueTerm → ValueTerm) (a b : ValueTerm) (rest : List Token) → value_read d (value_words a ++ (value_words b ++ rest)) ≡ Some (a, value_words b ++ rest)
    → value_read d (value_words b ++ rest) ≡ Some (b, rest) → pair_read (value_read d) both ((value_words a ++ value_words b) ++ rest) ≡ Some (both a b, rest)
pair_reads d both a b rest ha hb =
    read_after (value_read d) (λ x more. then_read (value_read d more) (λ y rest. Some (both x y, rest))) (value_words a) (value_words b) rest a ha
    ∙ read_last (value_read d) (λ y rest. Some (both a y, rest)) (value_words b) rest b hb

mutual
  unfolding store_read value_read store_by value_by terms_read

  pub store_reads : (d : ℕ) (s : StoreTerm) (rest : List Token) → store_depth s ≤ d → store_fits s ≡ true → store_read d (store_words s ++ rest) ≡ Some (s, rest)
  store_reads zero left_store rest h f = absurd (omega (arith, h))
  store_reads (suc d) left_store rest h f = refl
  store_reads zero right_store rest h f = absurd (omega (arith, h))
  store_reads (suc d) right_store rest h f = refl
  store_reads zero (put s x is v) rest h f = absurd (omega (arith, h))
  store_reads (suc d) (put s x is v) rest h f =
      let p = and_parts (store_fits s) (terms_fit is && value_fits v) f in
      let q = and_parts (terms_fit is) (value_fits v) p.1 in
      let back : List Token = Par x ∷ Number false (term_count is) ∷ (terms_words is ++ value_words v) in
      read_after (store_read d) (write_read (value_read d)) (store_words s) back rest s (store_reads d s (back ++ rest) (omega (arith, h)) p.0)
      ∙ read_after (terms_read (value_read d) (term_count is)) (λ js more. then_read (value_read d more) (λ w rest. Some (put s x js w, rest))) (terms_words is) (value_words v) rest is
      (terms_reads d is (value_words v ++ rest) (omega (arith, h)) q.0)
      ∙ read_last (value_read d) (λ w rest. Some (put s x is w, rest)) (value_words v) rest v (value_reads d v rest (omega (arith, h)) q.1)
  store_reads zero (run k s) rest h f = absurd (omega (arith, h))
  store_reads (suc d) (run k s) rest h f =
      read_last (store_read d) (λ u rest. Some (run k u, rest)) (store_words s) rest s (store_reads d s rest (omega (arith, h)) f)

  pub value_reads : (d : ℕ) (v : ValueTerm) (rest : List Token) → value_depth v ≤ d → value_fits v ≡ true → value_read d (value_words v ++ rest) ≡ Some (v, rest)
  value_reads zero (num z) rest h f = absurd (omega (arith, h))
  value_reads (suc d) (num z) rest h f = num_reads z rest f
  value_reads zero (get x is s) rest h f = absurd (omega (arith, h))
  value_reads (suc d) (get x is s) rest h f =
      let p = and_parts (terms_fit is) (store_fits s) f in
      read_after (terms_read (value_read d) (term_count is)) (λ js more. then_read (store_read d more) (λ u rest. Some (get x js u, rest))) (terms_words is) (store_words s) rest is
      (terms_reads d is (store_words s ++ rest) (omega (arith, h)) p.0)
      ∙ read_last (store_read d) (λ u rest. Some (get x is u, rest)) (store_words s) rest s (store_reads d s rest (omega (arith, h)) p.1)
  value_reads zero (ev k s) rest h f = absurd (omega (arith, h))
  value_reads (suc d) (ev k s) rest h f =
      read_last (store_read d) (λ u rest. Some (ev k u, rest)) (store_words s) rest s (store_reads d s rest (omega (arith, h)) f)
  value_reads zero (add a b) rest h f = absurd (omega (arith, h))
  value_reads (suc d) (add a b) rest h f =
      let p = and_parts (value_fits a) (value_fits b) f in
      pair_reads d add a b rest (value_reads d a (value_words b ++ rest) (omega (arith, h)) p.0) (value_reads d b rest (omega (arith, h)) p.1)
  value_reads zero (sub a b) rest h f = absurd (omega (arith, h))
  value_reads (suc d) (sub a b) rest h f =
      let p = and_parts (value_fits a) (value_fits b) f in
      pair_reads d sub a b rest (value_reads d a (value_words b ++ rest) (omega (arith, h)) p.0) (value_reads d b rest (omega (arith, h)) p.1)
  value_reads zero (mul a b) rest h f = absurd (omega (arith, h))
  value_reads (suc d) (mul a b) rest h f =
      let p = and_parts (value_fits a) (value_fits b) f in
      pair_reads d mul a b rest (value_reads d a (value_words b ++ rest) (omega (arith, h)) p.0) (value_reads d b rest (omega (arith, h)) p.1)

  pub terms_reads : (d : ℕ) (vs : ValueTerms) (rest : List Token) → terms_depth vs ≤ d → terms_fit vs ≡ true → terms_read (value_read d) (term_count vs) (terms_words vs ++ rest) ≡ Some (vs, rest)
  terms_reads d no_terms rest h f = refl
  terms_reads d (term v vs) rest h f =
      let p = and_parts (value_fits v) (terms_fit vs) f in
      read_after (value_read d) (λ w more. then_read (terms_read (value_read d) (term_count vs) more) (λ ws rest. Some (term w ws, rest))) (value_words v) (terms_words vs) rest v
      (value_reads d v (terms_words vs ++ rest) (omega (arith, h)) p.0)
      ∙ read_last (terms_read (value_read d) (term_count vs)) (λ ws rest. Some (term v ws, rest)) (terms_words vs) rest vs (terms_reads d vs rest (omega (arith, h)) p.1)

pub term_reads_back : TermReadsBack
term_reads_back = (λ s rest h f. store_reads 4100 s rest h f, λ v rest h f. value_reads 4100 v rest h f)
