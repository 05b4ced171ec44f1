-- Store terms and value terms as plain trees, and places: what a contract sees of a `StoreTerm`, a `ValueTerm` and a `Place`.
-- A place is a name parameter with indices; in a tree it stands as these two.
use Rattle.std.specs.Prelude.{ℕ, suc, max, ℤ}

mutual
  pub data StoreTerm : Type 0 where
    left_store : StoreTerm
    right_store : StoreTerm
    put : StoreTerm → ℕ → ValueTerms → ValueTerm → StoreTerm
    run : ℕ → StoreTerm → StoreTerm

  pub data ValueTerm : Type 0 where
    num : ℤ → ValueTerm
    get : ℕ → ValueTerms → StoreTerm → ValueTerm
    ev : ℕ → StoreTerm → ValueTerm
    add : ValueTerm → ValueTerm → ValueTerm
    sub : ValueTerm → ValueTerm → ValueTerm
    mul : ValueTerm → ValueTerm → ValueTerm

  -- the indices of a place
  pub data ValueTerms : Type 0 where
    no_terms : ValueTerms
    term : ValueTerm → ValueTerms → ValueTerms

pub record Place : Type 0 where
  pub name : ℕ
  pub indices : ValueTerms

-- how many constructors of store and value terms are nested, a place being none
abbrev mutual
  pub store_depth : StoreTerm → ℕ
  store_depth left_store = 1
  store_depth right_store = 1
  store_depth (put s x is v) = suc (max (store_depth s) (max (terms_depth is) (value_depth v)))
  store_depth (run k s) = suc (store_depth s)

  pub value_depth : ValueTerm → ℕ
  value_depth (num z) = 1
  value_depth (get x is s) = suc (max (terms_depth is) (store_depth s))
  value_depth (ev k s) = suc (store_depth s)
  value_depth (add a b) = suc (max (value_depth a) (value_depth b))
  value_depth (sub a b) = suc (max (value_depth a) (value_depth b))
  value_depth (mul a b) = suc (max (value_depth a) (value_depth b))

  pub terms_depth : ValueTerms → ℕ
  terms_depth no_terms = 0
  terms_depth (term v vs) = max (value_depth v) (terms_depth vs)
