-- Terms as words: the words of a term are one list, from the front. `store_words` and `value_words` are the grammar.
--   store : L | R | put STORE PLACE VALUE | run #k STORE
--   place : #k n VALUE{n}
--   value : num N | get PLACE STORE | ev #k STORE | add VALUE VALUE | sub VALUE VALUE | mul VALUE VALUE
use Rattle.std.specs.Prelude.{ℕ, suc, ◌^◌, ℤ, pos, negsuc, Bool, true, false, ◌&&◌, List, [], ◌∷◌, ◌++◌, nat_lt}
use Rattle.rule_terms.specs.Term.{StoreTerm, left_store, right_store, put, run, ValueTerm, num, get, ev, add, sub, mul, ValueTerms, no_terms, term, Place}
use Rattle.word_text.specs.declared.token.Key.TheVariants as key
use Rattle.word_text.specs.declared.token.Token.{Token}
use Rattle.word_text.specs.declared.token.Token.TheVariants.{Key, Number, Par}

abbrev pub number_word : ℤ → Token
number_word (pos n) = Number false n
number_word (negsuc n) = Number true (suc n)

abbrev pub term_count : ValueTerms → ℕ
term_count no_terms = 0
term_count (term v vs) = suc (term_count vs)

abbrev mutual
  pub store_words : StoreTerm → List Token
  store_words left_store = Key key.L ∷ []
  store_words right_store = Key key.R ∷ []
  store_words (put s x is v) = Key key.Put ∷ (store_words s ++ (Par x ∷ Number false (term_count is) ∷ (terms_words is ++ value_words v)))
  store_words (run k s) = Key key.Run ∷ Par k ∷ store_words s

  pub value_words : ValueTerm → List Token
  value_words (num z) = Key key.Num ∷ number_word z ∷ []
  value_words (get x is s) = Key key.Get ∷ Par x ∷ Number false (term_count is) ∷ (terms_words is ++ store_words s)
  value_words (ev k s) = Key key.Ev ∷ Par k ∷ store_words s
  value_words (add a b) = Key key.Add ∷ (value_words a ++ value_words b)
  value_words (sub a b) = Key key.Sub ∷ (value_words a ++ value_words b)
  value_words (mul a b) = Key key.Mul ∷ (value_words a ++ value_words b)

  pub terms_words : ValueTerms → List Token
  terms_words no_terms = []
  terms_words (term v vs) = value_words v ++ terms_words vs

-- the name of a place, how many indices it has, and they
abbrev pub place_words : Place → List Token
place_words p = Par p.name ∷ Number false (term_count p.indices) ∷ terms_words p.indices

-- a constant has 64 bits
abbrev pub is_word_64 : ℤ → Bool
is_word_64 (pos n) = nat_lt n (2 ^ 63)
is_word_64 (negsuc n) = nat_lt n (2 ^ 63)

-- what can be spelled: numbers within their types
abbrev mutual
  pub store_fits : StoreTerm → Bool
  store_fits left_store = true
  store_fits right_store = true
  store_fits (put s x is v) = store_fits s && (terms_fit is && value_fits v)
  store_fits (run k s) = store_fits s

  pub value_fits : ValueTerm → Bool
  value_fits (num z) = is_word_64 z
  value_fits (get x is s) = terms_fit is && store_fits s
  value_fits (ev k s) = store_fits s
  value_fits (add a b) = value_fits a && value_fits b
  value_fits (sub a b) = value_fits a && value_fits b
  value_fits (mul a b) = value_fits a && value_fits b

  pub terms_fit : ValueTerms → Bool
  terms_fit no_terms = true
  terms_fit (term v vs) = value_fits v && terms_fit vs
