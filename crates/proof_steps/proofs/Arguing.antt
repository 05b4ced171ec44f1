-- Arguments of terms pair by pair, the indices before what stands behind them.
use Rattle.std.specs.Prelude.{◌≡◌, ◌≤◌, ◌<◌, ℕ, zero, suc, length, true, false, List, [], ◌∷◌, Option, Some, refl}
use Rattle.std.proofs.Common.{ap, drop, arith}
use Rattle.std.proofs.lemmas.List.{drop_all}
use Rattle.rule_terms.specs.Term.{StoreTerm, put, ValueTerm, get, ValueTerms, no_terms, term}
use Rattle.term_meaning.specs.Indices.{count}
use Rattle.refutations.specs.declared.refutation.Step.{Step}
use Rattle.law_clauses.specs.Arguments.{Argument, of_name, of_store, of_value, index_arguments, store_arguments, value_arguments}
use Rattle.proof_steps.specs.Replaced.{left_by_pair, left_by_pairs, all_used, replaced}

pairs_behind : (earlier : List Step) (o : Option (List ℕ)) (is js : ValueTerms) (more others : List Argument) → count is ≡ count js →
    left_by_pairs earlier o (index_arguments is more) (index_arguments js others)
    ≡ left_by_pairs earlier (left_by_pairs earlier o (index_arguments is []) (index_arguments js [])) more others
unfolding left_by_pairs
pairs_behind earlier o no_terms no_terms more others e = refl
pairs_behind earlier o no_terms (term w ws) more others e = absurd (omega arith)
pairs_behind earlier o (term v vs) no_terms more others e = absurd (omega arith)
pairs_behind earlier o (term v vs) (term w ws) more others e =
    let h : count vs ≡ count ws = omega arith in
    pairs_behind earlier (left_by_pair earlier o (of_value v) (of_value w)) vs ws more others h

-- of a write: its store, its place and its value
pub put_replaced : (earlier : List Step) (from : List ℕ) (s : StoreTerm) (x : ℕ) (is : ValueTerms) (v : ValueTerm) (t : StoreTerm) (y : ℕ) (js : ValueTerms) (w : ValueTerm) → count is ≡ count js →
    replaced earlier from (store_arguments (put s x is v)) (store_arguments (put t y js w))
    ≡ all_used (left_by_pair earlier (left_by_pairs earlier (left_by_pair earlier (Some from) (of_store s) (of_store t)) (of_name x ∷ index_arguments is []) (of_name y ∷ index_arguments js [])) (of_value v) (of_value w))
unfolding left_by_pairs
put_replaced earlier from s x is v t y js w e =
    ap all_used (pairs_behind earlier (left_by_pair earlier (left_by_pair earlier (Some from) (of_store s) (of_store t)) (of_name x) (of_name y)) is js (of_value v ∷ []) (of_value w ∷ []) e)

-- of a read: its place and its store
pub get_replaced : (earlier : List Step) (from : List ℕ) (x : ℕ) (is : ValueTerms) (s : StoreTerm) (y : ℕ) (js : ValueTerms) (t : StoreTerm) → count is ≡ count js →
    replaced earlier from (value_arguments (get x is s)) (value_arguments (get y js t))
    ≡ all_used (left_by_pair earlier (left_by_pairs earlier (Some from) (of_name x ∷ index_arguments is []) (of_name y ∷ index_arguments js [])) (of_store s) (of_store t))
unfolding left_by_pairs
get_replaced earlier from x is s y js t e =
    ap all_used (pairs_behind earlier (left_by_pair earlier (Some from) (of_name x) (of_name y)) is js (of_store s ∷ []) (of_store t ∷ []) e)

-- of a term without arguments
pub nothing_replaced : (earlier : List Step) (from : List ℕ) → replaced earlier from [] [] ≡ all_used (Some from)
unfolding left_by_pairs
nothing_replaced earlier from = refl

-- ---- steps that are left
pub used_up : (from : List ℕ) (k : ℕ) → length from ≤ k → all_used (Some (drop k from)) ≡ true
used_up from k h = rw (drop_all k from h) refl

pub some_left : (from : List ℕ) (k : ℕ) → k < length from → all_used (Some (drop k from)) ≡ false
some_left [] k h = absurd (omega arith)
some_left (n ∷ from) zero h = refl
some_left (n ∷ from) (suc k) h = let more : k < length from = omega arith in some_left from k more
