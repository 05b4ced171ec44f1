-- Side conditions by text imply their meaning: the laws of what a text does not write, kind by kind.
use Rattle.std.specs.Prelude.{◌≡◌, ◌≢◌, ℕ, suc, zero, ℤ, pos, negsuc, Bool, true, false, not, ◌&&◌, ◌||◌, ◌+ℤ◌, ◌-ℤ◌, ◌*ℤ◌, ◌≤ℤ◌, List, bytes_eq, int_le, refl}
use Rattle.std.proofs.Common.{sym, ◌∙◌, ap, ap₂, subst, true≢false, arith}
use Rattle.std.proofs.lemmas.Int.{ints}
use Rattle.std.proofs.lemmas.Slice.Eq.{bytes_eq-Decides}
use Rattle.toy_imp.specs.declared.name.Name.{Name}
use Rattle.toy_imp.specs.declared.instance.Filling.TheVariants as filling
use Rattle.toy_imp.specs.Cell.{spelled}
use Rattle.toy_imp.specs.Store.{Store}
use Rattle.toy_imp.specs.Value.{value}
use Rattle.toy_imp.specs.Expr.{Expr, num, at, add, sub, mul, par_expr}
use Rattle.toy_imp.specs.Block.{Block}
use Rattle.side_conditions.specs.Places.{expr_has, block_asserts}
use Rattle.side_conditions.specs.Seeking.{writes_name}
use Rattle.side_conditions.specs.ApartLaws.{WritesApart}
use Rattle.side_conditions.specs.ByText.{occurs, writes_into, has_positive_form}
use Rattle.side_conditions.specs.TextLaws.{KeepsSuffices, IgnoresSuffices, CommutesSuffices, PositiveSuffices, ConstantSuffices, DistinctSuffices, QuietSuffices}
use Rattle.side_conditions.proofs.Within.{first_no, second_no}
use Rattle.side_conditions.proofs.Apart.{apart_commute, assertless_is_quiet}
use Rattle.side_conditions.proofs.Keeping.{unwritten_expr_kept, unwritten_test_kept, unwritten_name_kept}
use Rattle.side_conditions.proofs.Ignoring.{absent_ignored_by_expr, absent_ignored_by_test, absent_ignored_by_stmt}
use Rattle.side_conditions.proofs.Asking.{written_is_asked}

no_of : (a : Bool) → not a ≡ true → a ≡ false
no_of true e = absurd (true≢false (sym e))
no_of false e = refl

pub first_yes : (a b : Bool) → (a && b) ≡ true → a ≡ true
first_yes true b e = refl
first_yes false b e = absurd (true≢false (sym e))

pub second_yes : (a b : Bool) → (a && b) ≡ true → b ≡ true
second_yes true b e = e
second_yes false b e = absurd (true≢false (sym e))

-- ---- keeps
-- a name is the same as itself, so a block that writes it would write into it
name_unwritten : (b : Block) (x : Name) (w : Bool) → writes_name b (spelled x) ≡ w → writes_into b (filling.Name x) ≡ false → w ≡ false
name_unwritten b x false e never = refl
name_unwritten b x true e never =
    absurd (true≢false (sym ((bytes_eq-Decides (spelled x) (spelled x)).1 refl) ∙ written_is_asked (spelled x) (occurs (filling.Name x)) b e never))

pub keeps_suffices : KeepsSuffices
keeps_suffices (filling.Stmt b) (filling.Expr e) holds =
    unwritten_expr_kept b e (λ z w. written_is_asked z (occurs (filling.Expr e)) b w (no_of _ holds))
keeps_suffices (filling.Stmt b) (filling.Test q) holds =
    unwritten_test_kept b q (λ z w. written_is_asked z (occurs (filling.Test q)) b w (no_of _ holds))
keeps_suffices (filling.Stmt b) (filling.Name x) holds =
    unwritten_name_kept b x (name_unwritten b x (writes_name b (spelled x)) refl (no_of _ holds))
keeps_suffices (filling.Stmt b) (filling.Stmt c) holds = absurd (true≢false (sym holds))
keeps_suffices (filling.Name x) g holds = absurd (true≢false (sym holds))
keeps_suffices (filling.Expr e) g holds = absurd (true≢false (sym holds))
keeps_suffices (filling.Test q) g holds = absurd (true≢false (sym holds))

-- ---- ignores
pub ignores_suffices : IgnoresSuffices
ignores_suffices (filling.Expr e) (filling.Name x) holds = absent_ignored_by_expr e x (no_of _ holds)
ignores_suffices (filling.Test q) (filling.Name x) holds = absent_ignored_by_test q x (no_of _ holds)
ignores_suffices (filling.Stmt b) (filling.Name x) holds =
    absent_ignored_by_stmt b x (first_no _ _ (no_of _ holds)) (second_no _ _ (no_of _ holds))
ignores_suffices (filling.Expr e) (filling.Expr f) holds = absurd (true≢false (sym holds))
ignores_suffices (filling.Expr e) (filling.Test f) holds = absurd (true≢false (sym holds))
ignores_suffices (filling.Expr e) (filling.Stmt f) holds = absurd (true≢false (sym holds))
ignores_suffices (filling.Test q) (filling.Expr f) holds = absurd (true≢false (sym holds))
ignores_suffices (filling.Test q) (filling.Test f) holds = absurd (true≢false (sym holds))
ignores_suffices (filling.Test q) (filling.Stmt f) holds = absurd (true≢false (sym holds))
ignores_suffices (filling.Stmt b) (filling.Expr f) holds = absurd (true≢false (sym holds))
ignores_suffices (filling.Stmt b) (filling.Test f) holds = absurd (true≢false (sym holds))
ignores_suffices (filling.Stmt b) (filling.Stmt f) holds = absurd (true≢false (sym holds))
ignores_suffices (filling.Name x) g holds = absurd (true≢false (sym holds))

-- ---- commutes
writes_apart : (b c : Block) → writes_into b (filling.Stmt c) ≡ false → WritesApart b c
writes_apart b c never = λ z w. written_is_asked z (occurs (filling.Stmt c)) b w never

pub commutes_suffices : CommutesSuffices
commutes_suffices (filling.Stmt b) (filling.Stmt c) holds =
    let rest = second_yes (not (block_asserts b)) _ holds in
    let both = second_yes (not (block_asserts c)) _ rest in
    record {
      first_quiet = assertless_is_quiet b (no_of _ (first_yes (not (block_asserts b)) _ holds));
      second_quiet = assertless_is_quiet c (no_of _ (first_yes (not (block_asserts c)) _ rest));
      alike = apart_commute b c
          (writes_apart b c (no_of _ (first_yes (not (writes_into b (filling.Stmt c))) _ both)))
          (writes_apart c b (no_of _ (second_yes (not (writes_into b (filling.Stmt c))) _ both)));
    }
commutes_suffices (filling.Stmt b) (filling.Name f) holds = absurd (true≢false (sym holds))
commutes_suffices (filling.Stmt b) (filling.Expr f) holds = absurd (true≢false (sym holds))
commutes_suffices (filling.Stmt b) (filling.Test f) holds = absurd (true≢false (sym holds))
commutes_suffices (filling.Name x) g holds = absurd (true≢false (sym holds))
commutes_suffices (filling.Expr e) g holds = absurd (true≢false (sym holds))
commutes_suffices (filling.Test q) g holds = absurd (true≢false (sym holds))

-- ---- positive
sum_positive : (a b : ℤ) → pos 1 ≤ℤ a → pos 1 ≤ℤ b → pos 1 ≤ℤ (a +ℤ b)
sum_positive a b h k = omega (arith, ints)

product_positive : (a b : ℤ) → pos 1 ≤ℤ a → pos 1 ≤ℤ b → pos 1 ≤ℤ (a *ℤ b)
product_positive (pos zero) b h k = absurd (omega (arith, ints))
product_positive (negsuc m) b h k = absurd (omega (arith, ints))
product_positive (pos (suc m)) (pos zero) h k = absurd (omega (arith, ints))
product_positive (pos (suc m)) (negsuc n) h k = absurd (omega (arith, ints))
product_positive (pos (suc m)) (pos (suc n)) h k = omega (arith, ints)

positive_value : (e : Expr) (s : Store) → has_positive_form e ≡ true → pos 1 ≤ℤ value e s
unfolding value
positive_value (num z) s holds = omega (arith, ints)
positive_value (at x is) s holds = absurd (true≢false (sym holds))
positive_value (add a b) s holds = sum_positive (value a s) (value b s) (positive_value a s (first_yes _ _ holds)) (positive_value b s (second_yes _ _ holds))
positive_value (sub a b) s holds = absurd (true≢false (sym holds))
positive_value (mul a b) s holds = product_positive (value a s) (value b s) (positive_value a s (first_yes _ _ holds)) (positive_value b s (second_yes _ _ holds))
positive_value (par_expr k) s holds = absurd (true≢false (sym holds))

pub positive_suffices : PositiveSuffices
positive_suffices (filling.Expr e) holds = record { positive = λ s. positive_value e s holds }
positive_suffices (filling.Name x) holds = absurd (true≢false (sym holds))
positive_suffices (filling.Test q) holds = absurd (true≢false (sym holds))
positive_suffices (filling.Stmt b) holds = absurd (true≢false (sym holds))

-- ---- constant
constant_value : (e : Expr) (s t : Store) → expr_has (λ x is. true) e ≡ false → value e s ≡ value e t
unfolding value
constant_value (num z) s t never = refl
constant_value (at x is) s t never = absurd (true≢false never)
constant_value (add a b) s t never = ap₂ (λ v w. v +ℤ w) (constant_value a s t (first_no _ _ never)) (constant_value b s t (second_no _ _ never))
constant_value (sub a b) s t never = ap₂ (λ v w. v -ℤ w) (constant_value a s t (first_no _ _ never)) (constant_value b s t (second_no _ _ never))
constant_value (mul a b) s t never = ap₂ (λ v w. v *ℤ w) (constant_value a s t (first_no _ _ never)) (constant_value b s t (second_no _ _ never))
constant_value (par_expr k) s t never = refl

pub constant_suffices : ConstantSuffices
constant_suffices (filling.Expr e) holds = record { same = λ s t. constant_value e s t (no_of _ holds) }
constant_suffices (filling.Name x) holds = absurd (true≢false (sym holds))
constant_suffices (filling.Test q) holds = absurd (true≢false (sym holds))
constant_suffices (filling.Stmt b) holds = absurd (true≢false (sym holds))

-- ---- distinct
pub distinct_suffices : DistinctSuffices
distinct_suffices (filling.Name x) (filling.Name y) holds =
    λ same. true≢false (sym ((bytes_eq-Decides (spelled x) (spelled y)).1 same) ∙ no_of _ holds)
distinct_suffices (filling.Name x) (filling.Expr f) holds = absurd (true≢false (sym holds))
distinct_suffices (filling.Name x) (filling.Test f) holds = absurd (true≢false (sym holds))
distinct_suffices (filling.Name x) (filling.Stmt f) holds = absurd (true≢false (sym holds))
distinct_suffices (filling.Expr e) g holds = absurd (true≢false (sym holds))
distinct_suffices (filling.Test q) g holds = absurd (true≢false (sym holds))
distinct_suffices (filling.Stmt b) g holds = absurd (true≢false (sym holds))

-- ---- quiet
pub quiet_suffices : QuietSuffices
quiet_suffices (filling.Stmt b) holds = assertless_is_quiet b (no_of _ holds)
quiet_suffices (filling.Name x) holds = absurd (true≢false (sym holds))
quiet_suffices (filling.Expr e) holds = absurd (true≢false (sym holds))
quiet_suffices (filling.Test q) holds = absurd (true≢false (sym holds))
