-- The steps of a leaf: when a literal follows from what is given and from the steps before, by each of the ten reasons.
use Rattle.std.specs.Prelude.{ℕ, suc, pos, negsuc, Bool, true, false, ◌==◌, ◌&&◌, List, [], ◌∷◌, ◌++◌, take, drop, Option, Some, None, slice_get, nat_le}
use Rattle.std.specs.Ordering.{int_eq}
use Rattle.std.specs.List.{list_any, list_all}
use Rattle.rule_terms.specs.Term.{num, value_depth}
use Rattle.rule_terms.specs.Order.{store_same, value_same}
use Rattle.rule_terms.specs.Counts.{literal_depth}
use Rattle.rule_terms.specs.declared.obligation.Atom.{Atom}
use Rattle.rule_terms.specs.declared.obligation.Atom.TheVariants.{SameName, SameStore, SameValue, AtMost}
use Rattle.rule_terms.specs.declared.obligation.Literal.{Literal}
use Rattle.rule_terms.specs.declared.obligation.Conjunct.{Conjunct}
use Rattle.rule_terms.specs.declared.obligation.Obligation.{Obligation}
use Rattle.law_clauses.specs.Signed.{Signed, plus, minus, signed_of, all_signed, negated, signed_same}
use Rattle.law_clauses.specs.Laws.{is_clause}
use Rattle.refutations.specs.declared.refutation.By.{By}
use Rattle.refutations.specs.declared.refutation.By.TheVariants.{Given, Known, Refl, Flip, Chain, Alike, Carry, Law, Meet, Sum}
use Rattle.refutations.specs.declared.refutation.Step.{Step}
use Rattle.refutations.specs.declared.refutation.SumRow.{SumRow}
use Rattle.refutations.specs.declared.refutation.SumRow.TheVariants.{Of, Back, Num, Off, OffBack}
use Rattle.proof_steps.specs.Cited.{fact, is_that, cited}
use Rattle.proof_steps.specs.Replaced.{alike, carried}
use Rattle.proof_steps.specs.Sums.{adds_up}

-- Given: one of the literals that are given
abbrev pub is_given : List Signed → Signed → Bool
is_given given x = list_any (signed_same x) given

-- Known: what a known conjunct gives, where the steps give its `when`; one that gives nothing gives what is false
abbrev pub given_by : Option Literal → Signed
given_by None = plus (AtMost (num (pos 0)) (num (pos 0)) (negsuc 0))
given_by (Some x) = signed_of x

unfoldable pub by_known : List Step → Option Conjunct → List ℕ → Signed → Bool
by_known earlier None from x = false
by_known earlier (Some c) from x = cited earlier from (all_signed c.when) && signed_same x (given_by c.gives)

-- Refl: equality of a term with itself
unfoldable pub by_itself : Signed → Bool
by_itself (plus (SameName x y)) = x == y
by_itself (plus (SameStore a b)) = store_same a b
by_itself (plus (SameValue a b)) = value_same a b
by_itself _ = false

-- Flip: an equality with its sides exchanged, the sign kept
abbrev pub is_flipped : Atom → Atom → Bool
is_flipped (SameName x y) (SameName z w) = z == y && w == x
is_flipped (SameStore a b) (SameStore c d) = store_same c b && store_same d a
is_flipped (SameValue a b) (SameValue c d) = value_same c b && value_same d a
is_flipped _ _ = false

unfoldable pub flipped : Option Signed → Signed → Bool
flipped (Some (plus a)) (plus b) = is_flipped a b
flipped (Some (minus a)) (minus b) = is_flipped a b
flipped _ _ = false

-- Chain: a = c from a = b and b = c
abbrev pub is_chain : Atom → Atom → Atom → Bool
is_chain (SameName a b) (SameName c d) (SameName e f) = b == c && (e == a && f == d)
is_chain (SameStore a b) (SameStore c d) (SameStore e f) = store_same b c && (store_same e a && store_same f d)
is_chain (SameValue a b) (SameValue c d) (SameValue e f) = value_same b c && (value_same e a && value_same f d)
is_chain _ _ _ = false

unfoldable pub chained : Option Signed → Option Signed → Signed → Bool
chained (Some (plus a)) (Some (plus b)) (plus c) = is_chain a b c
chained _ _ _ = false

-- Law: a literal of a clause, where the steps give the negations of the others
abbrev pub without : ℕ → List Signed → List Signed
without p xs = take p xs ++ drop (suc p) xs

unfoldable pub all_negated : List Signed → List Signed
all_negated [] = []
all_negated (x ∷ xs) = negated x ∷ all_negated xs

unfoldable pub by_law : Obligation → List Step → ℕ → List Signed → ℕ → List ℕ → Signed → Bool
by_law ob earlier k clause p from x = is_clause ob k clause && (is_that (slice_get clause p) x && cited earlier from (all_negated (without p clause)))

-- Meet: equality of values of which each is at most the other
unfoldable pub met : Option Signed → Option Signed → Signed → Bool
met (Some (plus (AtMost a b c))) (Some (plus (AtMost d e f))) (plus (SameValue p q)) =
    int_eq c (pos 0) && (int_eq f (pos 0) && (value_same d b && (value_same e a && (value_same p a && value_same q b))))
met _ _ _ = false

-- Sum: a bound that one row or more add up to; without rows nothing runs from a value to another
abbrev pub has_rows : List SumRow → Bool
has_rows [] = false
has_rows (row ∷ rows) = true

unfoldable pub summed : List Step → List SumRow → Signed → Bool
summed earlier rows (plus (AtMost a z c)) = has_rows rows && adds_up earlier rows a (pos 0) z c
summed earlier rows _ = false

abbrev pub follows : Obligation → List Signed → List Step → By → Signed → Bool
follows ob given earlier Given x = is_given given x
follows ob given earlier (Known k from) x = by_known earlier (slice_get ob.known k) from x
follows ob given earlier Refl x = by_itself x
follows ob given earlier (Flip i) x = flipped (fact earlier i) x
follows ob given earlier (Chain i j) x = chained (fact earlier i) (fact earlier j) x
follows ob given earlier (Alike from) x = alike earlier from x
follows ob given earlier (Carry i from) x = carried earlier from (fact earlier i) x
follows ob given earlier (Law k clause p from) x = by_law ob earlier k (all_signed clause) p from x
follows ob given earlier (Meet i j) x = met (fact earlier i) (fact earlier j) x
follows ob given earlier (Sum rows) x = summed earlier rows x

-- no term nests more than 4,100 deep
abbrev pub is_shallow : Literal → Bool
is_shallow x = nat_le (literal_depth x) 4100

abbrev pub row_is_shallow : SumRow → Bool
row_is_shallow (Of k) = true
row_is_shallow (Back k) = true
row_is_shallow (Num a b) = true
row_is_shallow (Off v) = nat_le (value_depth v) 4100
row_is_shallow (OffBack v) = nat_le (value_depth v) 4100

abbrev pub reason_is_shallow : By → Bool
reason_is_shallow (Law k clause p from) = list_all is_shallow clause
reason_is_shallow (Sum rows) = list_all row_is_shallow rows
reason_is_shallow _ = true

unfoldable pub step_holds : Obligation → List Signed → List Step → Step → Bool
step_holds ob given earlier s = is_shallow s.gives && (reason_is_shallow s.by && follows ob given earlier s.by (signed_of s.gives))
