-- The turns of the loops that read items: what was found stands in front of what is read of the rest.
use Rattle.std.proofs.Common.{◌≡◌, ℕ, zero, suc, ◌+◌, ◌-◌, ◌<◌, ◌≤◌, Bool, true, false, List, [], ◌∷◌, ◌++◌, cond, Option, None, Some, option_map, sym, ◌∙◌, ap, refl, append_assoc, append-nil, arith}
use Rattle.std.proofs.lemmas.Option.{none-some, same_Some}
use Rattle.pec_text.specs.declared.token.Token.{Token}
use Rattle.program_reader.specs.Read.{ReadStmt, and_next}
use Rattle.rule_reader.specs.Front.{valued, with_found, semicolon_read, at_semicolon, items_read}

pub found_twice : {A : Type 0} (found more : List A) (r : ReadStmt (List A)) → with_found found (with_found more r) ≡ with_found (found ++ more) r
found_twice found more None = refl
found_twice found more (Some p) = ap (λ z. Some (z, p.1)) (sym (append_assoc found more p.0))

pub found_none : {A : Type 0} (found : List A) (rest : List Token) → with_found found (Some ([], rest)) ≡ Some (found, rest)
found_none found rest = ap (λ z. Some (z, rest)) (append-nil found)

pub nothing_found : {A : Type 0} (r : ReadStmt (List A)) → with_found [] r ≡ r
nothing_found None = refl
nothing_found (Some p) = refl

module _ {A : Type 0} (goes_on : List Token → Bool) (one : List Token → ReadStmt (List A)) where
  items_turn : (found : List A) (n at : ℕ) (rest : List Token) (whole : ReadStmt (List A)) → at < n → goes_on rest ≡ true → with_found found (items_read goes_on one (n - at) rest) ≡ whole
      → whole ≡ with_found found (and_next (one rest) (λ a rest. with_found a (items_read goes_on one (n - (at + 1)) rest)))
  unfolding items_read
  items_turn found n at rest whole below goes inv =
      let turns : n - at ≡ suc (n - (at + 1)) = omega (arith, below) in
      sym inv ∙ ap (λ z. with_found found (items_read goes_on one z rest)) turns
      ∙ ap (λ c. with_found found (cond c (and_next (one rest) (λ a rest. with_found a (items_read goes_on one (n - (at + 1)) rest))) (Some ([], rest)))) goes

  pub items_more : (found all a : List A) (n at : ℕ) (rest after : List Token) (whole : ReadStmt (List A)) → at < n → goes_on rest ≡ true → with_found found (items_read goes_on one (n - at) rest) ≡ whole
      → one rest ≡ Some (a, after) → all ≡ found ++ a → with_found all (items_read goes_on one (n - (at + 1)) after) ≡ whole
  items_more found all a n at rest after whole below goes inv read made =
      ap (λ z. with_found z (items_read goes_on one (n - (at + 1)) after)) made
      ∙ sym (items_turn found n at rest whole below goes inv
      ∙ ap (λ z. with_found found (and_next z (λ a rest. with_found a (items_read goes_on one (n - (at + 1)) rest)))) read
      ∙ found_twice found a (items_read goes_on one (n - (at + 1)) after))

  -- the same where one item is read with what was found before in front of it
  joined_turn : (found all : List A) (n : ℕ) (after : List Token) (r : ReadStmt (List A)) → with_found found r ≡ Some (all, after)
      → with_found found (and_next r (λ a rest. with_found a (items_read goes_on one n rest))) ≡ with_found all (items_read goes_on one n after)
  joined_turn found all n after None h = absurd (none-some _ h)
  joined_turn found all n after (Some p) h =
      let same : ◌≡◌ {A = List A × List Token} (found ++ p.0, p.1) (all, after) = same_Some _ _ h in
      found_twice found p.0 (items_read goes_on one n p.1) ∙ ap (λ q. with_found q.0 (items_read goes_on one n q.1)) same

  pub items_joined : (found all : List A) (n at : ℕ) (rest after : List Token) (whole : ReadStmt (List A)) → at < n → goes_on rest ≡ true → with_found found (items_read goes_on one (n - at) rest) ≡ whole
      → with_found found (one rest) ≡ Some (all, after) → with_found all (items_read goes_on one (n - (at + 1)) after) ≡ whole
  items_joined found all n at rest after whole below goes inv read =
      sym (items_turn found n at rest whole below goes inv ∙ joined_turn found all (n - (at + 1)) after (one rest) read)

  not_joined : (found : List A) (n : ℕ) (r : ReadStmt (List A)) → with_found found r ≡ None → with_found found (and_next r (λ a rest. with_found a (items_read goes_on one n rest))) ≡ None
  not_joined found n None h = refl
  not_joined found n (Some p) h = absurd (none-some _ (sym h))

  pub items_unread : (found : List A) (n at : ℕ) (rest : List Token) (whole : ReadStmt (List A)) → at < n → goes_on rest ≡ true → with_found found (items_read goes_on one (n - at) rest) ≡ whole
      → with_found found (one rest) ≡ None → whole ≡ None
  items_unread found n at rest whole below goes inv read = items_turn found n at rest whole below goes inv ∙ not_joined found (n - (at + 1)) (one rest) read

  -- where no item follows, and after all turns
  pub items_end : (found : List A) (n : ℕ) (rest : List Token) (whole : ReadStmt (List A)) → goes_on rest ≡ false → with_found found (items_read goes_on one n rest) ≡ whole → whole ≡ Some (found, rest)
  unfolding items_read
  items_end found zero rest whole ends inv = sym inv ∙ found_none found rest
  items_end found (suc n) rest whole ends inv =
      sym inv ∙ ap (λ c. with_found found (cond c (and_next (one rest) (λ a rest. with_found a (items_read goes_on one n rest))) (Some ([], rest)))) ends ∙ found_none found rest

  pub items_out : (found : List A) (n at : ℕ) (rest : List Token) (whole : ReadStmt (List A)) → n ≤ at → with_found found (items_read goes_on one (n - at) rest) ≡ whole → whole ≡ Some (found, rest)
  unfolding items_read
  items_out found n at rest whole past inv =
      let none : n - at ≡ 0 = omega (arith, past) in
      sym inv ∙ ap (λ z. with_found found (items_read goes_on one z rest)) none ∙ found_none found rest

-- ---- what is valued
pub value_none : {A B : Type 0} (value : A → B) (r : ReadStmt A) → valued value r ≡ None → r ≡ None
value_none value None h = refl
value_none value (Some p) h = absurd (none-some _ (sym h))

option_map_twice : {A B C : Type 0} (f : A → B) (g : B → C) (o : Option A) → option_map g (option_map f o) ≡ option_map (λ a. g (f a)) o
option_map_twice f g None = refl
option_map_twice f g (Some a) = refl

-- a value and then the semicolon
pub ended_some : {A B : Type 0} (value : A → B) (r : ReadStmt A) (b : B) (rest : List Token) → valued value r ≡ Some (b, rest)
    → valued value (and_next r (λ a rest. at_semicolon a rest)) ≡ at_semicolon b rest
ended_some value None b rest h = absurd (none-some _ h)
ended_some {B = B} value (Some p) b rest h =
    let same : ◌≡◌ {A = B × List Token} (value p.0, p.1) (b, rest) = same_Some _ _ h in
    option_map_twice (λ rest. (p.0, rest)) (λ q. (value q.0, q.1)) (semicolon_read p.1) ∙ ap (λ q. at_semicolon q.0 q.1) same

pub ended_none : {A B : Type 0} (value : A → B) (r : ReadStmt A) → valued value r ≡ None → valued value (and_next r (λ a rest. at_semicolon a rest)) ≡ None
ended_none value None h = refl
ended_none value (Some p) h = absurd (none-some _ (sym h))

-- one value alone in a list
pub alone_some : {A B : Type 0} (value : A → B) (r : ReadStmt A) (b : B) (rest : List Token) → valued value r ≡ Some (b, rest) → valued (λ a. value a ∷ []) r ≡ Some (b ∷ [], rest)
alone_some value None b rest h = absurd (none-some _ h)
alone_some value (Some p) b rest h = ap (λ q. Some (q.0 ∷ [], q.1)) (same_Some (value p.0, p.1) (b, rest) h)

pub alone_none : {A B : Type 0} (value : A → B) (r : ReadStmt A) → valued value r ≡ None → valued (λ a. value a ∷ []) r ≡ None
alone_none value None h = refl
alone_none value (Some p) h = absurd (none-some _ (sym h))
