-- Class numbers of all terms, cut into those of names, store terms and value terms.
use Rattle.std.specs.Prelude.{◌≡◌, ℕ, ◌+◌, ◌-◌, ◌≤◌, List, ◌++◌, length, map}
use Rattle.std.proofs.Common.{sym, ap, ◌∙◌, subst, take, drop, arith}
use Rattle.std.proofs.lemmas.List.{length-map, length-append, length-take-le, length-drop, take-append-drop, take_rest, drop-drop}
use Rattle.toy_imp.specs.declared.param.Kind.{Kind}
use Rattle.rule_terms.specs.Term.{StoreTerm, ValueTerm}
use Rattle.rule_terms.specs.declared.obligation.Literal.{Literal}
use Rattle.law_clauses.specs.Signed.{all_signed}
use Rattle.law_clauses.specs.Arguments.{of_name, of_store, of_value}
use Rattle.law_clauses.specs.ArgumentView.{argument_of}
use Rattle.law_clauses.specs.declared.arguments.Argument as code
use Rattle.term_universe.specs.declared.term_universe.TermUniverse.{TermUniverse}
use Rattle.equality_prover.specs.declared.answer.Classes.{Classes}
use Rattle.equality_prover.specs.Terms.{names_from, all_terms}
use Rattle.equality_prover.specs.Closure.{AreClasses, all_numbers, IsClosure, IsSplit}

terms_count : (params : List Kind) (stores : List StoreTerm) (values : List ValueTerm) → length (all_terms params stores values) ≡ length (names_from 0 params) + (length stores + length values)
unfolding all_terms
terms_count params stores values =
    length-append (map of_name (names_from 0 params)) (map of_store stores ++ map of_value values)
    ∙ (λ j. length-map (names_from 0 params) of_name j + (length-append (map of_store stores) (map of_value values) ∙ (λ k. length-map stores of_store k + length-map values of_value k)) j)

code_count : (terms : List code.Argument) (params : List Kind) (stores : List StoreTerm) (values : List ValueTerm) → map argument_of terms ≡ all_terms params stores values →
    length terms ≡ length (names_from 0 params) + (length stores + length values)
code_count terms params stores values is = sym (length-map terms argument_of) ∙ ap length is ∙ terms_count params stores values

pub names_left : (terms : List code.Argument) (params : List Kind) (stores : List StoreTerm) (values : List ValueTerm) → map argument_of terms ≡ all_terms params stores values →
    (length stores ≤ length terms) × (length values ≤ length terms - length stores)
names_left terms params stores values is = let e = code_count terms params stores values is in (omega (arith, e), omega (arith, e))

pub names_and_stores : (terms : List code.Argument) (classes : List ℕ) (params : List Kind) (stores : List StoreTerm) (values : List ValueTerm) → map argument_of terms ≡ all_terms params stores values →
    length classes ≡ length (map argument_of terms) → (length terms - length stores - length values) + length stores ≤ length classes
names_and_stores terms classes params stores values is count =
    let e = code_count terms params stores values is in
    let f = length-map terms argument_of in
    omega (arith, e, f, count)

is_closure : (terms : List code.Argument) (params : List Kind) (u : TermUniverse) (literals : List Literal) (classes : List ℕ) (c : Classes) → map argument_of terms ≡ all_terms params u.stores u.values →
    AreClasses (map argument_of terms) (all_signed literals) classes → IsSplit classes (length terms - length u.stores - length u.values) (length u.stores) c → IsClosure params u literals c
is_closure terms params u literals classes c is are parts =
    let e = code_count terms params u.stores u.values is in
    let f = length-map terms argument_of in
    let all : length c.names + (length c.stores + length c.values) ≡ length classes =
    sym (length-append c.names (c.stores ++ c.values) ∙ ap (λ n. length c.names + n) (length-append c.stores c.values)) ∙ ap length parts.whole in
    record {
      names = omega (arith, e, parts.names);
      stores = parts.stores;
      values = omega (arith, e, f, all, parts.names, parts.stores, are.count);
      classes = subst (λ ts. AreClasses ts (all_signed literals) (all_numbers c)) is (subst (AreClasses (map argument_of terms) (all_signed literals)) (sym parts.whole) are);
    }

pub is_split : (classes : List ℕ) (names stores : ℕ) (first second third : List ℕ) → names + stores ≤ length classes → first ≡ take names classes → second ≡ take (names + stores - names) (drop names classes)
    → third ≡ take (length classes - (names + stores)) (drop (names + stores) classes) → IsSplit classes names stores (record { names = first; stores = second; values = third })
is_split classes names stores first second third h one two three =
    let only : names + stores - names ≡ stores = omega arith in
    let middle : second ≡ take stores (drop names classes) = two ∙ ap (λ n. take n (drop names classes)) only in
    let last : third ≡ drop (names + stores) classes = three ∙ take_rest classes (names + stores) in
    record {
      whole =
          (λ j. one j ++ (middle j ++ last j))
          ∙ ap (λ xs. take names classes ++ (take stores (drop names classes) ++ xs)) (sym (drop-drop stores names classes))
          ∙ ap (λ xs. take names classes ++ xs) (take-append-drop stores (drop names classes))
          ∙ take-append-drop names classes;
      names = ap length one ∙ length-take-le names classes (omega arith);
      stores = ap length middle ∙ length-take-le stores (drop names classes) (let e = length-drop names classes in omega (arith, e));
    }

pub is_closure_at : (terms : List code.Argument) (params : List Kind) (u : TermUniverse) (literals : List Literal) (classes cut : List ℕ) (first second : ℕ) (c : Classes) → map argument_of terms ≡ all_terms params u.stores u.values →
    AreClasses (map argument_of terms) (all_signed literals) classes → cut ≡ classes → first ≡ length terms - length u.stores - length u.values → second ≡ length u.stores → IsSplit cut first second c → IsClosure params u literals c
is_closure_at terms params u literals classes cut first second c is are same one two parts =
    is_closure terms params u literals classes c is are (subst (λ n. IsSplit classes (length terms - length u.stores - length u.values) n c) two (subst (λ n. IsSplit classes n second c) one (subst (λ cs. IsSplit cs first second c) same parts)))
