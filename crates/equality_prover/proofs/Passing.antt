-- A pass over pairs of terms: what one pair comes to, and how passes add up.
use Rattle.std.specs.Prelude.{◌≡◌, ℕ, zero, suc, ◌+◌, ◌<◌, Bool, true, false, List, [], ◌∷◌, length, get_or, map, sum, refl}
use Rattle.std.proofs.Common.{sym, ◌∙◌, subst, true≢false, below_more, arith}
use Rattle.std.proofs.lemmas.List.{length-map, get_or-map}
use Rattle.law_clauses.specs.Arguments.{Argument, of_name}
use Rattle.law_clauses.specs.ArgumentView.{argument_of}
use Rattle.law_clauses.specs.declared.arguments.Argument as code
use Rattle.equality_prover.specs.Terms.{arguments, same_top}
use Rattle.equality_prover.specs.Congruence.{all_related}
use Rattle.equality_prover.specs.Places.{places_of, table_of, pairs_in_class, in_class}
use Rattle.equality_prover.specs.Growth.{term_at, class_at, IsJoined, TakesIn, IsSettled, Passed}
use Rattle.equality_prover.proofs.Relating.{contains_at, pairs_related, related_more, in_class_related}
use Rattle.equality_prover.proofs.Taking.{both_taken, none_respected}

-- ---- one pair
term_is : (terms : List code.Argument) (i : ℕ) (d : code.Argument) → i < length terms → term_at (map argument_of terms) i ≡ argument_of (get_or terms i d)
term_is terms i d h = get_or-map argument_of terms i d (of_name 0) h

row_is : (terms : List Argument) (items : List code.Argument) (i : ℕ) (d : code.Argument) (e : List ℕ) → i < length items →
    get_or (table_of terms (map argument_of items)) i e ≡ places_of terms (arguments (argument_of (get_or items i d)))
row_is terms [] i d e h = absurd (omega arith)
row_is terms (a ∷ items) zero d e h = refl
row_is terms (a ∷ items) (suc i) d e h = row_is terms items i d e (omega arith)

pub of_one_class : (terms : List Argument) (classes : List ℕ) (i j : ℕ) → class_at classes i ≡ class_at classes j → IsSettled terms classes i j
of_one_class terms classes i j e = λ top same. e

pub other_top : (terms : List code.Argument) (classes : List ℕ) (i j : ℕ) (d f : code.Argument) → i < length terms → j < length terms
    → same_top (argument_of (get_or terms i d)) (argument_of (get_or terms j f)) ≡ false → IsSettled (map argument_of terms) classes i j
other_top terms classes i j d f h g e = λ top same. absurd (true≢false (sym top ∙ (λ k. same_top (term_is terms i d h k) (term_is terms j f g k)) ∙ e))

arguments_related : (terms : List code.Argument) (table : List (List ℕ)) (classes : List ℕ) (i j : ℕ) (d : code.Argument) (e f : List ℕ) → i < length terms → j < length terms
    → table ≡ table_of (map argument_of terms) (map argument_of terms) → pairs_in_class classes (get_or table i e) (get_or table j f)
    ≡ all_related (in_class (map argument_of terms) classes) (arguments (term_at (map argument_of terms) i)) (arguments (term_at (map argument_of terms) j))
arguments_related terms table classes i j d e f h g is =
    (λ k. pairs_in_class classes (get_or (is k) i e) (get_or (is k) j f))
    ∙ (λ k. pairs_in_class classes (row_is (map argument_of terms) terms i d e h k) (row_is (map argument_of terms) terms j d f g k))
    ∙ pairs_related (map argument_of terms) classes (arguments (argument_of (get_or terms i d))) (arguments (argument_of (get_or terms j d)))
    ∙ (λ k. all_related (in_class (map argument_of terms) classes) (arguments (sym (term_is terms i d h) k)) (arguments (sym (term_is terms j d g) k)))

pub other_arguments : (terms : List code.Argument) (table : List (List ℕ)) (classes : List ℕ) (i j : ℕ) (d : code.Argument) (e f : List ℕ) → i < length terms → j < length terms
    → table ≡ table_of (map argument_of terms) (map argument_of terms) → pairs_in_class classes (get_or table i e) (get_or table j f) ≡ false
    → IsSettled (map argument_of terms) classes i j
other_arguments terms table classes i j d e f h g is other =
    λ top same. absurd (true≢false (sym same ∙ sym (arguments_related terms table classes i j d e f h g is) ∙ other))

pub alike_joined : (terms : List code.Argument) (table : List (List ℕ)) (old new : List ℕ) (i j : ℕ) (d c : code.Argument) (e f : List ℕ) → length old ≡ length terms → i < length terms → j < length terms
    → table ≡ table_of (map argument_of terms) (map argument_of terms) → same_top (argument_of (get_or terms i d)) (argument_of (get_or terms j c)) ≡ true
    → pairs_in_class old (get_or table i e) (get_or table j f) ≡ true → IsJoined i j old new → TakesIn (map argument_of terms) [] old new
alike_joined terms table old new i j d c e f count h g is top alike joined = record {
  count = joined.count;
  coarser = joined.coarser;
  respected = none_respected (in_class named new);
  sound = λ r cong none sound.
      joined.sound named r cong
      (cong.alike (term_at named i) (term_at named j) (contains_at named i within) (contains_at named j inside)
      ((λ k. same_top (term_is terms i d h k) (term_is terms j c g k)) ∙ top)
      (related_more (in_class named old) r (in_class_related named r old (count ∙ sym (length-map terms argument_of)) cong sound) (arguments (term_at named i)) (arguments (term_at named j))
      (sym (arguments_related terms table old i j d e f h g is) ∙ alike)))
      sound;
}
  where
    named : List Argument
    named = map argument_of terms

    within : i < length named
    within = subst (λ n. i < n) (sym (length-map terms argument_of)) h

    inside : j < length named
    inside = subst (λ n. j < n) (sym (length-map terms argument_of)) g

-- ---- one look more
joined_more : (terms : List Argument) (a b c : List ℕ) (looked : Type 0) (joined : Bool) → Passed terms a b looked joined → TakesIn terms [] b c → sum c < sum b → TakesIn terms [] a c × (sum c < sum a)
joined_more terms a b c looked true before more fewer = (both_taken terms [] [] a b c before.0 more, omega (arith, before.1, fewer))
joined_more terms a b c looked false before more fewer = (subst (λ xs. TakesIn terms [] xs c) before.0 more, subst (λ xs. sum c < sum xs) before.0 fewer)

pub then_passed : (terms : List Argument) (P : List ℕ → ℕ → Type 0) (n : ℕ) (a b c : List ℕ) (joined flag : Bool) → Passed terms a b ((k : ℕ) → k < n → P b k) joined → Passed terms b c (P c n) true → flag ≡ true
    → Passed terms a c ((k : ℕ) → k < n + 1 → P c k) flag
then_passed terms P n a b c joined flag before now is =
    subst (Passed terms a c ((k : ℕ) → k < n + 1 → P c k)) (sym is) (joined_more terms a b c ((k : ℕ) → k < n → P b k) joined before now.0 now.1)

none_more : (terms : List Argument) (P : List ℕ → ℕ → Type 0) (n : ℕ) (a b c : List ℕ) (joined : Bool) → Passed terms a b ((k : ℕ) → k < n → P b k) joined → c ≡ b → P c n
    → Passed terms a c ((k : ℕ) → k < n + 1 → P c k) joined
none_more terms P n a b c true before same here = (subst (λ xs. TakesIn terms [] a xs) (sym same) before.0, subst (λ xs. sum xs < sum a) (sym same) before.1)
none_more terms P n a b c false before same here = (same ∙ before.0, below_more (P c) n (subst (λ xs. (k : ℕ) → k < n → P xs k) (sym same) before.1) here)

pub else_passed : (terms : List Argument) (P : List ℕ → ℕ → Type 0) (n : ℕ) (a b c : List ℕ) (joined flag : Bool) → Passed terms a b ((k : ℕ) → k < n → P b k) joined → Passed terms b c (P c n) false → flag ≡ joined
    → Passed terms a c ((k : ℕ) → k < n + 1 → P c k) flag
else_passed terms P n a b c joined flag before now is =
    subst (Passed terms a c ((k : ℕ) → k < n + 1 → P c k)) (sym is) (none_more terms P n a b c joined before now.0 now.1)
