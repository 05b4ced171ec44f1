-- Items that are read one after another have derivation trees where each has one, and the tokens of trees are read as the
-- trees' values where each tree's tokens are. Each item has a token, so the tokens' number is enough turns.
use Rattle.std.proofs.Common.{◌≡◌, ℕ, zero, suc, ◌<◌, ◌≤◌, Bool, true, false, List, [], ◌∷◌, ◌++◌, cond, flat_map, length, None, Some, sym, ◌∙◌, ap, subst, refl, append_assoc, length-append, arith}
use Rattle.std.proofs.lemmas.Option.{none-some, same_Some}
use Rattle.pec_text.specs.declared.token.Token.{Token}
use Rattle.program_reader.specs.Read.{ReadStmt, and_next}
use Rattle.program_reader.proofs.ReadSteps.{next_some}
use Rattle.rule_reader.specs.Front.{valued, with_found, items_read}

-- what is given by a value is the value of what is read
pub valued_some : {A B : Type 0} (value : A → B) (r : ReadStmt A) (p : B × List Token) → valued value r ≡ Some p → (q : A × List Token) × (r ≡ Some q) × ((value q.0, q.1) ≡ p)
valued_some value None p h = absurd (none-some _ h)
valued_some value (Some q) p h = (q, refl, same_Some _ _ h)

-- a tree stands in front, and this is its value
pub record HasTree {A B : Type 0} (spelled : B → List Token) (value : B → A) (tokens : List Token) (p : A × List Token) : Type 0 where
  pub tree : B
  pub in_front : tokens ≡ spelled tree ++ p.1
  pub value_is : value tree ≡ p.0

-- trees stand in front, and these are their values
pub record HasTrees {A B : Type 0} (spelled : B → List Token) (values : B → List A) (tokens : List Token) (p : List A × List Token) : Type 0 where
  pub trees : List B
  pub in_front : tokens ≡ flat_map spelled trees ++ p.1
  pub values_are : flat_map values trees ≡ p.0

module _ {A B : Type 0} (spelled : B → List Token) (values : B → List A) (goes_on : List Token → Bool) (one : List Token → ReadStmt (List A))
    (one_has : (tokens : List Token) (p : List A × List Token) → one tokens ≡ Some p → HasTree spelled values tokens p) where
  none_have : (tokens : List Token) (p : List A × List Token) → Some ([], tokens) ≡ Some p → HasTrees spelled values tokens p
  none_have tokens p h = subst (HasTrees spelled values tokens) (same_Some _ _ h) (record { trees = []; in_front = refl; values_are = refl })

  more_have : (tokens : List Token) (q r : List A × List Token) → HasTree spelled values tokens q → HasTrees spelled values q.1 r → HasTrees spelled values tokens (q.0 ++ r.0, r.1)
  more_have tokens q r first others = record {
    trees = first.tree ∷ others.trees;
    in_front = first.in_front ∙ ap (λ z. spelled first.tree ++ z) others.in_front ∙ sym (append_assoc (spelled first.tree) (flat_map spelled others.trees) r.1);
    values_are = ap (λ z. z ++ flat_map values others.trees) first.value_is ∙ ap (λ z. q.0 ++ z) others.values_are;
  }

  turn_has : (n : ℕ) (tokens : List Token) (p : List A × List Token) (b : Bool) → ((rest : List Token) (q : List A × List Token) → items_read goes_on one n rest ≡ Some q → HasTrees spelled values rest q)
      → cond b (and_next (one tokens) (λ a rest. with_found a (items_read goes_on one n rest))) (Some ([], tokens)) ≡ Some p → HasTrees spelled values tokens p
  turn_has n tokens p false more h = none_have tokens p h
  turn_has n tokens p true more h =
      let m = next_some (one tokens) (λ a rest. with_found a (items_read goes_on one n rest)) p h in
      let l = valued_some (λ others. m.0.0 ++ others) (items_read goes_on one n m.0.1) p m.2 in
      subst (HasTrees spelled values tokens) l.2 (more_have tokens m.0 l.0 (one_has tokens m.0 m.1) (more m.0.1 l.0 l.1))

  pub items_have : (n : ℕ) (tokens : List Token) (p : List A × List Token) → items_read goes_on one n tokens ≡ Some p → HasTrees spelled values tokens p
  unfolding items_read
  items_have zero tokens p h = none_have tokens p h
  items_have (suc n) tokens p h = turn_has n tokens p (goes_on tokens) (λ rest q. items_have n rest q) h

module _ {A B : Type 0} (spelled : B → List Token) (values : B → List A) (goes_on : List Token → Bool) (one : List Token → ReadStmt (List A))
    (begins : (b : B) (rest : List Token) → goes_on (spelled b ++ rest) ≡ true)
    (some_token : (b : B) → 0 < length (spelled b))
    (one_reads : (b : B) (rest : List Token) → one (spelled b ++ rest) ≡ Some (values b, rest)) where
  items_stop : (n : ℕ) (rest : List Token) → goes_on rest ≡ false → items_read goes_on one n rest ≡ Some ([], rest)
  unfolding items_read
  items_stop zero rest ends = refl
  items_stop (suc n) rest ends = ap (λ b. cond b (and_next (one rest) (λ a rest. with_found a (items_read goes_on one n rest))) (Some ([], rest))) ends

  pub items_are_read : (bs : List B) (n : ℕ) (rest : List Token) → length (flat_map spelled bs) ≤ n → goes_on rest ≡ false
      → items_read goes_on one n (flat_map spelled bs ++ rest) ≡ Some (flat_map values bs, rest)
  unfolding items_read
  items_are_read [] n rest fits ends = items_stop n rest ends
  items_are_read (b ∷ bs) zero rest fits ends =
      let joined = length-append (spelled b) (flat_map spelled bs) in
      absurd (omega (arith, some_token b))
  items_are_read (b ∷ bs) (suc n) rest fits ends =
      let joined = length-append (spelled b) (flat_map spelled bs) in
      let behind : List Token = flat_map spelled bs ++ rest in
      let shorter : length (flat_map spelled bs) ≤ n = omega (arith, some_token b) in
      ap (items_read goes_on one (suc n)) (append_assoc (spelled b) (flat_map spelled bs) rest)
      ∙ ap (λ c. cond c (and_next (one (spelled b ++ behind)) (λ a rest. with_found a (items_read goes_on one n rest))) (Some ([], spelled b ++ behind))) (begins b behind)
      ∙ ap (λ r. and_next r (λ a rest. with_found a (items_read goes_on one n rest))) (one_reads b behind)
      ∙ ap (λ r. with_found (values b) r) (items_are_read bs n rest shorter ends)

  -- as many turns as there are tokens
  pub all_items_are_read : (bs : List B) (rest : List Token) → goes_on rest ≡ false
      → items_read goes_on one (length (flat_map spelled bs ++ rest)) (flat_map spelled bs ++ rest) ≡ Some (flat_map values bs, rest)
  all_items_are_read bs rest ends =
      let joined = length-append (flat_map spelled bs) rest in
      items_are_read bs (length (flat_map spelled bs ++ rest)) rest (omega arith) ends
