-- Numbers as words, and what is read from the front of words: a number, a parameter, the end of a line, so many things one after another.
use Rattle.std.specs.Prelude.{ℕ, zero, suc, ◌^◌, ℤ, pos, negsuc, Bool, true, false, cond, List, [], ◌∷◌, length, nat_lt, Option, Some, None}
use Rattle.std.specs.List.{flat_map}
use Rattle.word_text.specs.declared.token.Token.{Token}
use Rattle.word_text.specs.declared.token.Token.TheVariants.{Number, Par, End}
use Rattle.term_text.specs.TermReading.{Read, then_read, constant_of}

-- ---- words
abbrev pub count_word : ℕ → Token
count_word n = Number false n

-- how many things there are, and the words of each
abbrev pub counted_words : {X : Type 0} → (X → List Token) → List X → List Token
counted_words words xs = count_word (length xs) ∷ flat_map words xs

abbrev pub index_words : ℕ → List Token
index_words k = count_word k ∷ []

-- ---- reading: what is read, and the words after it
-- the words after those that were looked for
abbrev pub after : {X : Type 0} → Option (List Token) → (List Token → Option X) → Option X
after None f = None
after (Some ts) f = f ts

abbrev pub end_read : List Token → Option (List Token)
end_read (End ∷ ts) = Some ts
end_read _ = None

abbrev pub par_read : Read ℕ
par_read (Par k ∷ ts) = Some (k, ts)
par_read _ = None

-- a number from zero on
abbrev pub count_read : Read ℕ
count_read (Number false n ∷ ts) = Some (n, ts)
count_read _ = None

abbrev pub of_32_bits : ℕ × List Token → Option (ℕ × List Token)
of_32_bits p = cond (nat_lt p.0 (2 ^ 32)) (Some p) None

abbrev pub index_read : Read ℕ
index_read ts = then_read (count_read ts) (λ n rest. of_32_bits (n, rest))

-- a constant, in 64 bits or in 128
abbrev pub is_word_128 : ℤ → Bool
is_word_128 (pos n) = nat_lt n (2 ^ 127)
is_word_128 (negsuc n) = nat_lt n (2 ^ 127)

abbrev pub wide_of : Bool → ℕ → Option ℤ
wide_of false n = cond (is_word_128 (pos n)) (Some (pos n)) None
wide_of true zero = None
wide_of true (suc n) = cond (is_word_128 (negsuc n)) (Some (negsuc n)) None

abbrev pub with_rest : {X : Type 0} → List Token → Option X → Option (X × List Token)
with_rest rest None = None
with_rest rest (Some x) = Some (x, rest)

abbrev pub int_read : Read ℤ
int_read (Number sign n ∷ ts) = with_rest ts (constant_of sign n)
int_read _ = None

abbrev pub wide_read : Read ℤ
wide_read (Number sign n ∷ ts) = with_rest ts (wide_of sign n)
wide_read _ = None

module _ {X : Type 0} (read : Read X) where
  -- so many things, one after another
  unfoldable pub many_read : ℕ → Read (List X)
  many_read zero ts = Some ([], ts)
  many_read (suc n) ts = then_read (read ts) (λ x more. then_read (many_read n more) (λ xs rest. Some (x ∷ xs, rest)))

  -- how many things there are, and they
  abbrev pub counted_read : Read (List X)
  counted_read ts = then_read (count_read ts) many_read
