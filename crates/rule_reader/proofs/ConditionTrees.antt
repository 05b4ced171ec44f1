-- What is read as side conditions has derivation trees, and the tokens of conditions are read as their values.
use Rattle.std.proofs.Common.{◌≡◌, ℕ, ◌<◌, Bool, true, false, List, [], ◌∷◌, ◌++◌, cond, bytes_eq, codes, map, flat_map, length, Option, None, Some, sym, ◌∙◌, ap, subst, refl, append_assoc, arith}
use Rattle.std.proofs.lemmas.Option.{none-some, same_Some}
use Rattle.std.proofs.lemmas.List.Concat.{flat_map_single}
use Rattle.toy_imp.specs.declared.condition.Condition.{Condition}
use Rattle.toy_imp.specs.declared.condition.Region.{Region}
use Rattle.toy_imp.specs.declared.condition.Region.TheVariants as region
use Rattle.toy_imp.specs.declared.param.Param.{Param}
use Rattle.toy_imp.specs.RuleGrammar.{ConditionTree, keeps, ignores, commutes, positive, constant, distinct, quiet, swaps_over_1, swaps_over_2, condition_value}
use Rattle.pec_text.specs.declared.token.Sign.TheVariants as s
use Rattle.pec_text.specs.declared.token.Token.{Token}
use Rattle.pec_text.specs.declared.token.Token.TheVariants as t
use Rattle.pec_text.specs.declared.token.Word.TheVariants as w
use Rattle.program_reader.specs.Read.{and_next}
use Rattle.program_reader.specs.RuleTokens.{region_word, condition_tokens, given_tokens}
use Rattle.program_reader.proofs.ReadSteps.{next_some}
use Rattle.rule_reader.specs.declared.condition_words.Form.{Form}
use Rattle.rule_reader.specs.declared.condition_words.Form.TheVariants as form
use Rattle.rule_reader.specs.declared.condition_words.OfOne.{OfOne}
use Rattle.rule_reader.specs.declared.condition_words.OfOne.TheVariants as one
use Rattle.rule_reader.specs.declared.condition_words.OfTwo.{OfTwo}
use Rattle.rule_reader.specs.declared.condition_words.OfTwo.TheVariants as two
use Rattle.rule_reader.specs.Front.{valued, name_read, two_names_read, at_semicolon}
use Rattle.rule_reader.specs.ConditionReading.{form_word, form_of, region_of, of_one, of_two, where_some, region_read, over_read, listed_read, swaps_read, formed_read, condition_read, is_given, given_read, conditions_read}
use Rattle.rule_reader.proofs.FrontTrees.{joined, name_has, two_names_have, semicolon_has, where_has, same_bytes, word_case}
use Rattle.rule_reader.proofs.ItemTrees.{valued_some, HasTree, HasTrees, items_have, all_items_are_read}

-- ---- words
abbrev is_form : List ℕ → Form → Type 0
is_form x f = x ≡ form_word f

form_has : (x : List ℕ) (f : Form) → form_of x ≡ Some f → x ≡ form_word f
form_has x f =
    word_case is_form x (codes "keeps") (form.Two two.Keeps) f _ refl
    (word_case is_form x (codes "ignores") (form.Two two.Ignores) f _ refl
    (word_case is_form x (codes "commutes") (form.Two two.Commutes) f _ refl
    (word_case is_form x (codes "distinct") (form.Two two.Distinct) f _ refl
    (word_case is_form x (codes "positive") (form.One one.Positive) f _ refl
    (word_case is_form x (codes "constant") (form.One one.Constant) f _ refl
    (word_case is_form x (codes "quiet") (form.One one.Quiet) f _ refl
    (word_case is_form x (codes "swaps") form.Swaps f _ refl
    (λ h. absurd (none-some _ h)))))))))

abbrev is_region : List ℕ → Region → Type 0
is_region x r = x ≡ region_word r

region_is : (x : List ℕ) (r : Region) → region_of x ≡ Some r → x ≡ region_word r
region_is x r =
    word_case is_region x (codes "distinct") region.Distinct r _ refl
    (word_case is_region x (codes "earlier") region.Earlier r _ refl
    (word_case is_region x (codes "crossing") region.Crossing r _ refl
    (λ h. absurd (none-some _ h))))

region_has : (tokens : List Token) (q : Region × List Token) → region_read tokens ≡ Some q → tokens ≡ t.Name (region_word q.0) ∷ q.1
region_has tokens q h =
    let m = next_some (name_read tokens) (λ x rest. where_some (region_of x) rest) q h in
    let word = where_has (region_of m.0.0) m.0.1 q m.2 in
    name_has tokens m.0 m.1 ∙ ap (λ z. t.Name z ∷ m.0.1) (region_is m.0.0 q.0 word.0) ∙ ap (λ z. t.Name (region_word q.0) ∷ z) word.1

over_by : (x : List ℕ) (rest : List Token) (q : List ℕ × List Token) (b : Bool) → (b ≡ true → x ≡ codes "over") → cond b (name_read rest) None ≡ Some q
    → t.Name x ∷ rest ≡ t.Name (codes "over") ∷ t.Name q.0 ∷ q.1
over_by x rest q false is h = absurd (none-some _ h)
over_by x rest q true is h = ap (λ z. t.Name z ∷ rest) (is refl) ∙ ap (λ z. t.Name (codes "over") ∷ z) (name_has rest q h)

-- ---- what is read stands in front
over_has : (tokens : List Token) (q : List ℕ × List Token) → over_read tokens ≡ Some q → tokens ≡ t.Name (codes "over") ∷ t.Name q.0 ∷ q.1
over_has tokens q h =
    let m = next_some (name_read tokens) (λ x rest. cond (bytes_eq x (codes "over")) (name_read rest) None) q h in
    name_has tokens m.0 m.1 ∙ over_by m.0.0 m.0.1 q (bytes_eq m.0.0 (codes "over")) (same_bytes m.0.0 (codes "over")) m.2

-- what stands in front of the names behind `over`
abbrev swaps_front : List ℕ × List ℕ → List ℕ → List Token → List Token
swaps_front p k rest = t.Name (codes "swaps") ∷ t.Name p.0 ∷ t.Name p.1 ∷ t.Name (codes "over") ∷ t.Name k ∷ rest

one_listed : (p : List ℕ × List ℕ) (k : List ℕ) (tokens : List Token) (q : ConditionTree × List Token)
    → and_next (region_read tokens) (λ r rest. Some (swaps_over_1 p.0 p.1 k r, rest)) ≡ Some q → swaps_front p k tokens ≡ condition_tokens q.0 ++ q.1
one_listed p k tokens q h =
    let m = next_some (region_read tokens) (λ r rest. Some (swaps_over_1 p.0 p.1 k r, rest)) q h in
    ap (swaps_front p k) (region_has tokens m.0 m.1) ∙ ap (λ z. condition_tokens z.0 ++ z.1) (same_Some (swaps_over_1 p.0 p.1 k m.0.0, m.0.1) q m.2)

listed_has : (p : List ℕ × List ℕ) (k : List ℕ) (tokens : List Token) (q : ConditionTree × List Token) → listed_read p k tokens ≡ Some q
    → swaps_front p k tokens ≡ condition_tokens q.0 ++ q.1
unfolding listed_read
listed_has p k (t.Sign s.Comma ∷ rest) q h =
    let m = next_some (name_read rest) (λ l rest. and_next (region_read rest) (λ r rest. Some (swaps_over_2 p.0 p.1 k l r, rest))) q h in
    let n = next_some (region_read m.0.1) (λ r rest. Some (swaps_over_2 p.0 p.1 k m.0.0 r, rest)) q m.2 in
    ap (λ z. swaps_front p k (t.Sign s.Comma ∷ z)) (name_has rest m.0 m.1 ∙ ap (λ z. t.Name m.0.0 ∷ z) (region_has m.0.1 n.0 n.1))
    ∙ ap (λ z. condition_tokens z.0 ++ z.1) (same_Some (swaps_over_2 p.0 p.1 k m.0.0 n.0.0, n.0.1) q n.2)
listed_has p k tokens q h = one_listed p k tokens q h

swaps_have : (tokens : List Token) (q : ConditionTree × List Token) → swaps_read tokens ≡ Some q → t.Name (codes "swaps") ∷ tokens ≡ condition_tokens q.0 ++ q.1
unfolding swaps_read
swaps_have tokens q h =
    let m = next_some (two_names_read tokens) (λ p rest. and_next (over_read rest) (λ k rest. listed_read p k rest)) q h in
    let n = next_some (over_read m.0.1) (λ k rest. listed_read m.0.0 k rest) q m.2 in
    ap (λ z. t.Name (codes "swaps") ∷ z) (two_names_have tokens m.0 m.1 ∙ ap (λ z. t.Name m.0.0.0 ∷ t.Name m.0.0.1 ∷ z) (over_has m.0.1 n.0 n.1))
    ∙ listed_has m.0.0 n.0.0 n.0.1 q n.2

tokens_of_two : (f : OfTwo) (p : List ℕ × List ℕ) (rest : List Token) → t.Name (form_word (form.Two f)) ∷ t.Name p.0 ∷ t.Name p.1 ∷ rest ≡ condition_tokens (of_two f p) ++ rest
tokens_of_two two.Keeps p rest = refl
tokens_of_two two.Ignores p rest = refl
tokens_of_two two.Commutes p rest = refl
tokens_of_two two.Distinct p rest = refl

tokens_of_one : (f : OfOne) (x : List ℕ) (rest : List Token) → t.Name (form_word (form.One f)) ∷ t.Name x ∷ rest ≡ condition_tokens (of_one f x) ++ rest
tokens_of_one one.Positive x rest = refl
tokens_of_one one.Constant x rest = refl
tokens_of_one one.Quiet x rest = refl

formed_has : (o : Option Form) (x : List ℕ) (rest : List Token) (q : ConditionTree × List Token) → form_of x ≡ o → formed_read o rest ≡ Some q
    → t.Name x ∷ rest ≡ condition_tokens q.0 ++ q.1
formed_has (Some (form.Two f)) x rest q e h =
    let m = valued_some (of_two f) (two_names_read rest) q h in
    ap (λ z. t.Name z ∷ rest) (form_has x (form.Two f) e) ∙ ap (λ z. t.Name (form_word (form.Two f)) ∷ z) (two_names_have rest m.0 m.1)
    ∙ tokens_of_two f m.0.0 m.0.1 ∙ ap (λ z. condition_tokens z.0 ++ z.1) m.2
formed_has (Some (form.One f)) x rest q e h =
    let m = valued_some (of_one f) (name_read rest) q h in
    ap (λ z. t.Name z ∷ rest) (form_has x (form.One f) e) ∙ ap (λ z. t.Name (form_word (form.One f)) ∷ z) (name_has rest m.0 m.1)
    ∙ tokens_of_one f m.0.0 m.0.1 ∙ ap (λ z. condition_tokens z.0 ++ z.1) m.2
formed_has (Some form.Swaps) x rest q e h = ap (λ z. t.Name z ∷ rest) (form_has x form.Swaps e) ∙ swaps_have rest q h
formed_has None x rest q e h = absurd (none-some _ h)

condition_has : (tokens : List Token) (q : ConditionTree × List Token) → condition_read tokens ≡ Some q → tokens ≡ condition_tokens q.0 ++ q.1
unfolding condition_read
condition_has tokens q h =
    let m = next_some (name_read tokens) (λ x rest. formed_read (form_of x) rest) q h in
    name_has tokens m.0 m.1 ∙ formed_has (form_of m.0.0) m.0.0 m.0.1 q refl m.2

given_has : (tokens : List Token) (q : ConditionTree × List Token) → given_read tokens ≡ Some q → tokens ≡ given_tokens q.0 ++ q.1
unfolding given_read
given_has (t.Word w.Given ∷ rest) q h =
    let m = next_some (condition_read rest) (λ c rest. at_semicolon c rest) q h in
    let ends = semicolon_has m.0.0 m.0.1 q m.2 in
    ap (λ z. t.Word w.Given ∷ z) (joined (condition_tokens m.0.0) (t.Sign s.Semicolon ∷ []) q.1 rest m.0.1 (condition_has rest m.0 m.1) ends.0)
    ∙ ap (λ z. given_tokens z ++ q.1) ends.1
given_has _ q h = absurd (none-some _ h)

module _ (ps : List Param) where
  -- the one condition of an item
  abbrev alone : ConditionTree → List Condition
  alone c = condition_value ps c ∷ []

  alone_has : (tokens : List Token) (p : List Condition × List Token) → valued alone (given_read tokens) ≡ Some p → HasTree given_tokens alone tokens p
  alone_has tokens p h =
      let m = valued_some alone (given_read tokens) p h in
      subst (HasTree given_tokens alone tokens) m.2 (record { tree = m.0.0; in_front = given_has tokens m.0 m.1; value_is = refl })

  items_of_conditions : (tokens : List Token) (p : List Condition × List Token) → conditions_read ps tokens ≡ Some p → HasTrees given_tokens alone tokens p
  unfolding conditions_read
  items_of_conditions tokens p h = items_have given_tokens alone is_given (λ rest. valued alone (given_read rest)) alone_has (length tokens) tokens p h

-- conditions stand in front, and these are their values
pub record HasConditions (ps : List Param) (tokens : List Token) (p : List Condition × List Token) : Type 0 where
  pub trees : List ConditionTree
  pub in_front : tokens ≡ flat_map given_tokens trees ++ p.1
  pub values_are : map (condition_value ps) trees ≡ p.0

pub conditions_have : (ps : List Param) (tokens : List Token) (p : List Condition × List Token) → conditions_read ps tokens ≡ Some p → HasConditions ps tokens p
conditions_have ps tokens p h =
    let has = items_of_conditions ps tokens p h in
    record { trees = has.trees; in_front = has.in_front; values_are = sym (flat_map_single (condition_value ps) has.trees) ∙ has.values_are }

-- ---- the tokens of conditions are read
condition_is_read : (c : ConditionTree) (rest : List Token) → condition_read (condition_tokens c ++ rest) ≡ Some (c, rest)
unfolding condition_read swaps_read listed_read
condition_is_read (keeps x y) rest = refl
condition_is_read (ignores x y) rest = refl
condition_is_read (commutes x y) rest = refl
condition_is_read (positive x) rest = refl
condition_is_read (constant x) rest = refl
condition_is_read (distinct x y) rest = refl
condition_is_read (quiet x) rest = refl
condition_is_read (swaps_over_1 x y k region.Distinct) rest = refl
condition_is_read (swaps_over_1 x y k region.Earlier) rest = refl
condition_is_read (swaps_over_1 x y k region.Crossing) rest = refl
condition_is_read (swaps_over_2 x y k l region.Distinct) rest = refl
condition_is_read (swaps_over_2 x y k l region.Earlier) rest = refl
condition_is_read (swaps_over_2 x y k l region.Crossing) rest = refl

given_is_read : (c : ConditionTree) (rest : List Token) → given_read (given_tokens c ++ rest) ≡ Some (c, rest)
unfolding given_read
given_is_read c rest =
    ap (λ z. and_next (condition_read z) (λ c rest. at_semicolon c rest)) (append_assoc (condition_tokens c) (t.Sign s.Semicolon ∷ []) rest)
    ∙ ap (λ r. and_next r (λ c rest. at_semicolon c rest)) (condition_is_read c (t.Sign s.Semicolon ∷ rest))

given_begins : (c : ConditionTree) (rest : List Token) → is_given (given_tokens c ++ rest) ≡ true
given_begins c rest = refl

some_token : (c : ConditionTree) → 0 < length (given_tokens c)
some_token c = omega arith

pub conditions_are_read : (ps : List Param) (cs : List ConditionTree) (rest : List Token) → is_given rest ≡ false
    → conditions_read ps (flat_map given_tokens cs ++ rest) ≡ Some (map (condition_value ps) cs, rest)
unfolding conditions_read
conditions_are_read ps cs rest ends =
    all_items_are_read given_tokens (alone ps) is_given (λ rest. valued (alone ps) (given_read rest)) given_begins some_token
    (λ c rest. ap (valued (alone ps)) (given_is_read c rest)) cs rest ends
    ∙ ap (λ z. Some (z, rest)) (flat_map_single (condition_value ps) cs)
