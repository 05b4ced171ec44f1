-- An instance for which a condition holds by text meets it, kind by kind.
use Rattle.std.specs.Prelude.{◌≡◌, ℕ, Bool, true, List, [], ◌∷◌, map, Option, Some, None, slice_get, refl}
use Rattle.std.proofs.Common.{sym, true≢false}
use Rattle.toy_imp.specs.declared.condition.Condition.TheVariants as condition
use Rattle.toy_imp.specs.declared.condition.Region.{Region}
use Rattle.toy_imp.specs.declared.instance.Filling.{Filling}
use Rattle.toy_imp.specs.declared.instance.Filling.TheVariants as filling
use Rattle.toy_imp.specs.declared.instance.Instance.{Instance}
use Rattle.toy_imp.specs.Block.{Block}
use Rattle.toy_imp.specs.Meets.{Keeps, Ignores, Commutes, Positive, Constant, Distinct, Quiet, SwapsNamed}
use Rattle.side_conditions.specs.ByText.{keeps_by_text, ignores_by_text, commutes_by_text, positive_by_text, constant_by_text, distinct_by_text, quiet_by_text}
use Rattle.side_conditions.proofs.Sufficing as law
use Rattle.swap_conditions.specs.ByText.{of_one, of_two, names_swap, swap_holds}
use Rattle.swap_conditions.specs.SwapLaws.{HoldingSuffices}
use Rattle.swap_conditions.proofs.Implying.{swap_suffices}

-- ---- what a test of one filling or of two says
one_meets : (test : Filling → Bool) (Meaning : Option Filling → Type 0) → ((f : Filling) → test f ≡ true → Meaning (Some f)) → (o : Option Filling) → of_one test o ≡ true → Meaning o
one_meets test Meaning law (Some f) e = law f e
one_meets test Meaning law None e = absurd (true≢false (sym e))

two_meet : (test : Filling → Filling → Bool) (Meaning : Option Filling → Option Filling → Type 0) → ((f g : Filling) → test f g ≡ true → Meaning (Some f) (Some g))
    → (o p : Option Filling) → of_two test o p ≡ true → Meaning o p
two_meet test Meaning law (Some f) (Some g) e = law f g e
two_meet test Meaning law (Some f) None e = absurd (true≢false (sym e))
two_meet test Meaning law None p e = absurd (true≢false (sym e))

-- ---- `swaps`
module _ (i : Instance) (S T : Block) (r : Region) where
  over_one : (k : ℕ) (o : Option Filling) → slice_get i.fillings k ≡ o → names_swap S T (o ∷ []) r ≡ true → SwapsNamed i (Some (filling.Stmt S)) (Some (filling.Stmt T)) (k ∷ []) r
  over_one k (Some (filling.Name x)) is e = record { counters = x ∷ []; named = (is, tt); swaps = swap_suffices S T (x ∷ []) r e }
  over_one k (Some (filling.Expr f)) is e = absurd (true≢false (sym e))
  over_one k (Some (filling.Test f)) is e = absurd (true≢false (sym e))
  over_one k (Some (filling.Stmt f)) is e = absurd (true≢false (sym e))
  over_one k None is e = absurd (true≢false (sym e))

  over_two : (k l : ℕ) (o p : Option Filling) → slice_get i.fillings k ≡ o → slice_get i.fillings l ≡ p → names_swap S T (o ∷ p ∷ []) r ≡ true
      → SwapsNamed i (Some (filling.Stmt S)) (Some (filling.Stmt T)) (k ∷ l ∷ []) r
  over_two k l (Some (filling.Name x)) (Some (filling.Name y)) is at e = record { counters = x ∷ y ∷ []; named = (is, (at, tt)); swaps = swap_suffices S T (x ∷ y ∷ []) r e }
  over_two k l (Some (filling.Name x)) (Some (filling.Expr f)) is at e = absurd (true≢false (sym e))
  over_two k l (Some (filling.Name x)) (Some (filling.Test f)) is at e = absurd (true≢false (sym e))
  over_two k l (Some (filling.Name x)) (Some (filling.Stmt f)) is at e = absurd (true≢false (sym e))
  over_two k l (Some (filling.Name x)) None is at e = absurd (true≢false (sym e))
  over_two k l (Some (filling.Expr f)) p is at e = absurd (true≢false (sym e))
  over_two k l (Some (filling.Test f)) p is at e = absurd (true≢false (sym e))
  over_two k l (Some (filling.Stmt f)) p is at e = absurd (true≢false (sym e))
  over_two k l None p is at e = absurd (true≢false (sym e))

  of_three : (o p q : Option Filling) (rest : List (Option Filling)) → names_swap S T (o ∷ p ∷ q ∷ rest) r ≡ true → ⊥
  of_three (Some (filling.Name x)) (Some (filling.Name y)) q rest e = true≢false (sym e)
  of_three (Some (filling.Name x)) (Some (filling.Expr f)) q rest e = true≢false (sym e)
  of_three (Some (filling.Name x)) (Some (filling.Test f)) q rest e = true≢false (sym e)
  of_three (Some (filling.Name x)) (Some (filling.Stmt f)) q rest e = true≢false (sym e)
  of_three (Some (filling.Name x)) None q rest e = true≢false (sym e)
  of_three (Some (filling.Expr f)) p q rest e = true≢false (sym e)
  of_three (Some (filling.Test f)) p q rest e = true≢false (sym e)
  of_three (Some (filling.Stmt f)) p q rest e = true≢false (sym e)
  of_three None p q rest e = true≢false (sym e)

  over_names : (ks : List ℕ) → names_swap S T (map (slice_get i.fillings) ks) r ≡ true → SwapsNamed i (Some (filling.Stmt S)) (Some (filling.Stmt T)) ks r
  over_names [] e = absurd (true≢false (sym e))
  over_names (k ∷ []) e = over_one k (slice_get i.fillings k) refl e
  over_names (k ∷ l ∷ []) e = over_two k l (slice_get i.fillings k) (slice_get i.fillings l) refl refl e
  over_names (k ∷ l ∷ m ∷ ks) e = absurd (of_three (slice_get i.fillings k) (slice_get i.fillings l) (slice_get i.fillings m) (map (slice_get i.fillings) ks) e)

swaps_named : (i : Instance) (o p : Option Filling) (ks : List ℕ) (r : Region) → swap_holds o p (map (slice_get i.fillings) ks) r ≡ true → SwapsNamed i o p ks r
swaps_named i (Some (filling.Stmt s)) (Some (filling.Stmt t)) ks r e = over_names i s t r ks e
swaps_named i (Some (filling.Stmt s)) (Some (filling.Name f)) ks r e = absurd (true≢false (sym e))
swaps_named i (Some (filling.Stmt s)) (Some (filling.Expr f)) ks r e = absurd (true≢false (sym e))
swaps_named i (Some (filling.Stmt s)) (Some (filling.Test f)) ks r e = absurd (true≢false (sym e))
swaps_named i (Some (filling.Stmt s)) None ks r e = absurd (true≢false (sym e))
swaps_named i (Some (filling.Name f)) p ks r e = absurd (true≢false (sym e))
swaps_named i (Some (filling.Expr f)) p ks r e = absurd (true≢false (sym e))
swaps_named i (Some (filling.Test f)) p ks r e = absurd (true≢false (sym e))
swaps_named i None p ks r e = absurd (true≢false (sym e))

pub holding_suffices : HoldingSuffices
holding_suffices i (condition.Keeps s o) e = two_meet keeps_by_text Keeps law.keeps_suffices (slice_get i.fillings s) (slice_get i.fillings o) e
holding_suffices i (condition.Ignores o x) e = two_meet ignores_by_text Ignores law.ignores_suffices (slice_get i.fillings o) (slice_get i.fillings x) e
holding_suffices i (condition.Commutes s t) e = two_meet commutes_by_text Commutes law.commutes_suffices (slice_get i.fillings s) (slice_get i.fillings t) e
holding_suffices i (condition.Positive a) e = one_meets positive_by_text Positive law.positive_suffices (slice_get i.fillings a) e
holding_suffices i (condition.Constant a) e = one_meets constant_by_text Constant law.constant_suffices (slice_get i.fillings a) e
holding_suffices i (condition.Distinct x y) e = two_meet distinct_by_text Distinct law.distinct_suffices (slice_get i.fillings x) (slice_get i.fillings y) e
holding_suffices i (condition.Quiet s) e = one_meets quiet_by_text Quiet law.quiet_suffices (slice_get i.fillings s) e
holding_suffices i (condition.Swaps s t ks r) e = swaps_named i (slice_get i.fillings s) (slice_get i.fillings t) ks r e
