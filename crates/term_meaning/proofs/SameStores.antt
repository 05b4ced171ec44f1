-- The tests of stores and of names answer whether they are equal.
use Rattle.std.specs.Prelude.{◌≡◌, ℕ, ℤ, true, List, Option, Some, None, refl}
use Rattle.std.proofs.Common.{sym, ap, subst, true≢false}
use Rattle.std.specs.Ordering.{is_eq, ordering_then}
use Rattle.std.specs.declared.cmp.Ordering.{Ordering}
use Rattle.std.specs.declared.cmp.Ordering.TheVariants.{Less, Equal, Greater}
use Rattle.std.specs.Cmp.{IsTotalOrder}
use Rattle.std.proofs.lemmas.Cmp.{tied_itself, int_cmp_total, nat_list_cmp_total, lists_total, then_total, on_total}
use Rattle.std.specs.FinMap as map
use Rattle.toy_imp.specs.Cell.{Cell}
use Rattle.toy_imp.specs.Store.{Store, read, held, cell_total}
use Rattle.toy_imp.proofs.Stores.{agreeing_is_equal, cell_same}
use Rattle.term_meaning.specs.SameStore.{held_cmp, same_store, same_bytes}
use Rattle.term_meaning.specs.MaybeStore.{same_option}

tied : (r : Ordering) → is_eq r ≡ true → r ≡ Equal
tied Less e = cc
tied Equal e = refl
tied Greater e = cc

first_tied : (q r : Ordering) → ordering_then q r ≡ Equal → q ≡ Equal
first_tied Less r e = cc
first_tied Equal r e = refl
first_tied Greater r e = cc

second_tied : (q r : Ordering) → ordering_then q r ≡ Equal → r ≡ Equal
second_tied Less r e = cc
second_tied Equal r e = e
second_tied Greater r e = cc

held_total : IsTotalOrder held_cmp
held_total = then_total (on_total (λ (a : Cell × ℤ). a.0) cell_total) (on_total (λ (a : Cell × ℤ). a.1) int_cmp_total)

held_same : map.IsAntisymmetric held_cmp
held_same a b e =
    let cells : a.0 ≡ b.0 = cell_same a.0 b.0 (first_tied _ _ e) in
    let values : a.1 ≡ b.1 = map.int_cmp-IsAntisymmetric a.1 b.1 (second_tied _ _ e) in
    λ i. (cells i, values i)

same_cells : (s t : Store) → s.cells ≡ t.cells → s ≡ t
unfolding read
same_cells s t e = agreeing_is_equal s t (λ c. ap (λ m. held (map.get m c)) e)

pub same_equal : (s t : Store) → same_store s t ≡ true → s ≡ t
unfolding same_store
same_equal s t e = same_cells s t (map.same_entries_map s.cells t.cells (map.slice_cmp-IsAntisymmetric held_same _ _ (tied _ e)))

pub same_self : (s : Store) → same_store s s ≡ true
unfolding same_store
same_self s = ap is_eq (tied_itself (lists_total held_total) (map.entries s.cells))

pub same_from : (s t : Store) → s ≡ t → same_store s t ≡ true
same_from s t e = subst (λ x. same_store s x ≡ true) e (same_self s)

pub option_equal : (o p : Option Store) → same_option o p ≡ true → o ≡ p
option_equal None None e = refl
option_equal None (Some t) e = absurd (true≢false (sym e))
option_equal (Some s) None e = absurd (true≢false (sym e))
option_equal (Some s) (Some t) e = ap Some (same_equal s t e)

option_self : (o : Option Store) → same_option o o ≡ true
option_self None = refl
option_self (Some s) = same_self s

pub option_from : (o p : Option Store) → o ≡ p → same_option o p ≡ true
option_from o p e = subst (λ x. same_option o x ≡ true) e (option_self o)

pub bytes_equal : (a b : List ℕ) → same_bytes a b ≡ true → a ≡ b
bytes_equal a b e = map.slice_cmp-IsAntisymmetric map.nat_cmp-IsAntisymmetric a b (tied _ e)

pub bytes_from : (a b : List ℕ) → a ≡ b → same_bytes a b ≡ true
bytes_from a b e = subst (λ x. same_bytes a x ≡ true) e (ap is_eq (tied_itself nat_list_cmp_total a))
