-- Terms read from the front of words, up to a depth: the term and the words after it, or nothing.
use Rattle.std.specs.Prelude.{Bool, ℕ, zero, suc, ℤ, pos, negsuc, true, false, cond, List, ◌∷◌, Option, Some, None}
use Rattle.rule_terms.specs.Term.{StoreTerm, left_store, right_store, put, run, ValueTerm, num, get, ev, add, sub, mul, ValueTerms, no_terms, term}
use Rattle.word_text.specs.declared.token.Key.TheVariants as key
use Rattle.word_text.specs.declared.token.Token.{Token}
use Rattle.word_text.specs.declared.token.Token.TheVariants.{Key, Number, Par}
use Rattle.term_text.specs.TermText.{is_word_64}

abbrev pub Read : Type 0 → Type 0
Read X = List Token → Option (X × List Token)

-- what is read next, from what was read and the words after it
abbrev pub then_read : {X Y : Type 0} → Option (X × List Token) → (X → List Token → Option Y) → Option Y
then_read None f = None
then_read (Some p) f = f p.0 p.1

-- the constant of a sign and a magnitude, where it has 64 bits
abbrev pub constant_of : Bool → ℕ → Option ℤ
constant_of false n = cond (is_word_64 (pos n)) (Some (pos n)) None
constant_of true zero = None
constant_of true (suc n) = cond (is_word_64 (negsuc n)) (Some (negsuc n)) None

abbrev pub constant : Option ℤ → List Token → Option (ValueTerm × List Token)
constant None rest = None
constant (Some z) rest = Some (num z, rest)

abbrev pub num_read : Read ValueTerm
num_read (Number s n ∷ rest) = constant (constant_of s n) rest
num_read _ = None

-- a run, and the value of an expression, behind their words
abbrev pub run_read : Read StoreTerm → Read StoreTerm
run_read store (Par k ∷ ts) = then_read (store ts) (λ s rest. Some (run k s, rest))
run_read store _ = None

abbrev pub ev_read : Read StoreTerm → Read ValueTerm
ev_read store (Par k ∷ ts) = then_read (store ts) (λ s rest. Some (ev k s, rest))
ev_read store _ = None

module _ (value : Read ValueTerm) where
  -- so many terms
  unfoldable pub terms_read : ℕ → Read ValueTerms
  terms_read zero ts = Some (no_terms, ts)
  terms_read (suc n) ts = then_read (value ts) (λ v more. then_read (terms_read n more) (λ vs rest. Some (term v vs, rest)))

  -- the indices of a place
  abbrev pub counted_read : Read ValueTerms
  counted_read (Number false n ∷ ts) = terms_read n ts
  counted_read _ = None

  -- the place and value of a write, and the store of a read
  abbrev pub write_read : StoreTerm → Read StoreTerm
  write_read s (Par x ∷ ts) = then_read (counted_read ts) (λ is more. then_read (value more) (λ v rest. Some (put s x is v, rest)))
  write_read s _ = None

  abbrev pub pair_read : (ValueTerm → ValueTerm → ValueTerm) → Read ValueTerm
  pair_read both ts = then_read (value ts) (λ a more. then_read (value more) (λ b rest. Some (both a b, rest)))

  module _ (store : Read StoreTerm) where
    abbrev pub put_read : Read StoreTerm
    put_read ts = then_read (store ts) write_read

    abbrev pub reading_read : Read ValueTerm
    reading_read (Par x ∷ ts) = then_read (counted_read ts) (λ is more. then_read (store more) (λ s rest. Some (get x is s, rest)))
    reading_read _ = None

    unfoldable pub store_by : Read StoreTerm
    store_by (Key key.L ∷ ts) = Some (left_store, ts)
    store_by (Key key.R ∷ ts) = Some (right_store, ts)
    store_by (Key key.Put ∷ ts) = put_read ts
    store_by (Key key.Run ∷ ts) = run_read store ts
    store_by _ = None

    unfoldable pub value_by : Read ValueTerm
    value_by (Key key.Num ∷ ts) = num_read ts
    value_by (Key key.Get ∷ ts) = reading_read ts
    value_by (Key key.Ev ∷ ts) = ev_read store ts
    value_by (Key key.Add ∷ ts) = pair_read add ts
    value_by (Key key.Sub ∷ ts) = pair_read sub ts
    value_by (Key key.Mul ∷ ts) = pair_read mul ts
    value_by _ = None

-- up to a depth
unfoldable mutual
  pub store_read : ℕ → Read StoreTerm
  store_read zero ts = None
  store_read (suc d) ts = store_by (value_read d) (store_read d) ts

  pub value_read : ℕ → Read ValueTerm
  value_read zero ts = None
  value_read (suc d) ts = value_by (value_read d) (store_read d) ts
