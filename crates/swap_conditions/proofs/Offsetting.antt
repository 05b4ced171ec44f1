-- What the distance of a place says of the values of its indices: the one at the position is that far from the counter.
use Rattle.std.specs.Prelude.{◌≡◌, ◌≢◌, ◌<ℤ◌, ◌≤ℤ◌, ℕ, zero, suc, ℤ, ◌+ℤ◌, Bool, true, false, cond, ◌==◌, List, [], ◌∷◌, Option, Some, None, option_and_then, int_le, refl}
use Rattle.std.specs.Ordering.{int_eq}
use Rattle.std.proofs.Common.{sym, ◌∙◌, ap, arith, true≢false}
use Rattle.std.proofs.lemmas.Int.{ints}
use Rattle.std.specs.Option.{option_map}
use Rattle.toy_imp.specs.Store.{Store, read}
use Rattle.toy_imp.specs.Value.{value, values}
use Rattle.toy_imp.specs.Expr.{Expr, Exprs, no_exprs, expr}
use Rattle.side_conditions.specs.Offsets.{offset_of}
use Rattle.side_conditions.proofs.Distance.{offset_tells}
use Rattle.swap_conditions.specs.Placing.{count, index_at, distance, is_just, not_above}

-- the number at a position
abbrev pub number_at : ℕ → List ℤ → Option ℤ
number_at p [] = None
number_at zero (v ∷ vs) = Some v
number_at (suc p) (v ∷ vs) = number_at p vs

number_of_index : (es : Exprs) (p : ℕ) (s : Store) → number_at p (values es s) ≡ option_map (λ e. value e s) (index_at p es)
unfolding values
number_of_index no_exprs p s = refl
number_of_index (expr e es) zero s = refl
number_of_index (expr e es) (suc p) s = number_of_index es p s

number_tells : (k : List ℕ) (i : Option Expr) (c : ℤ) (s : Store) → option_and_then (offset_of k) i ≡ Some c → option_map (λ e. value e s) i ≡ Some (read s (k, []) +ℤ c)
number_tells k (Some e) c s h = ap Some (offset_tells k e c h s)
number_tells k None c s h = cc

some_of : {A : Type 0} (b : Bool) (o : Option A) (c : A) → cond b o None ≡ Some c → o ≡ Some c
some_of true o c h = h
some_of false o c h = cc

pub distance_tells : (k : List ℕ) (n p : ℕ) (es : Exprs) (c v : ℤ) (s : Store) → read s (k, []) ≡ v → distance k n p es ≡ Some c → number_at p (values es s) ≡ Some (v +ℤ c)
distance_tells k n p es c v s holds far =
    number_of_index es p s
    ∙ number_tells k (index_at p es) c s (some_of (count es == n) (option_and_then (offset_of k) (index_at p es)) c far)
    ∙ ap (λ u. Some (u +ℤ c)) holds

-- ---- the tests of distances
pub equal_of : (c d : ℤ) → int_eq c d ≡ true → d ≡ c
equal_of c d e = grind (arith, ints)

pub just_tells : (c : ℤ) (o : Option ℤ) → is_just c o ≡ true → o ≡ Some c
just_tells c (Some d) e = ap Some (equal_of c d e)
just_tells c None e = absurd (true≢false (sym e))

least_of : (d c : ℤ) → int_le d c ≡ true → d ≤ℤ c
least_of d c e = grind (arith, ints)

-- a distance that is at most another
pub under_tells : (o : Option ℤ) (c : ℤ) → not_above o (Some c) ≡ true → (d : ℤ) × (o ≡ Some d) × (d ≤ℤ c)
under_tells (Some d) c e = (d, refl, least_of d c e)
under_tells None c e = absurd (true≢false (sym e))

pub under_none : (o : Option ℤ) → not_above o None ≡ false
under_none (Some d) = refl
under_none None = refl

-- ---- numbers that cannot be the same
some_same : (a b : ℤ) → Some a ≡ Some b → a ≡ b
some_same a b e = cc

pub apart_at : (p : ℕ) (is : List ℤ) (v w c : ℤ) → v ≢ w → number_at p is ≡ Some (v +ℤ c) → number_at p is ≡ Some (w +ℤ c) → ⊥
apart_at p is v w c differ h g = let same : v +ℤ c ≡ w +ℤ c = some_same (v +ℤ c) (w +ℤ c) (sym h ∙ g) in differ (omega (arith, ints))

pub ordered_at : (p : ℕ) (is : List ℤ) (v w c d : ℤ) → w <ℤ v → d ≤ℤ c → number_at p is ≡ Some (v +ℤ c) → number_at p is ≡ Some (w +ℤ d) → ⊥
ordered_at p is v w c d less most h g = let same : v +ℤ c ≡ w +ℤ d = some_same (v +ℤ c) (w +ℤ d) (sym h ∙ g) in absurd (omega (arith, ints))
