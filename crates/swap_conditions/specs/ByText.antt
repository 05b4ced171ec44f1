-- Whether a side condition of any kind holds by text for an instance. A condition whose numbers have no fillings of its kinds
-- does not hold, nor does a `swaps` over another number of names than one or two.
use Rattle.std.specs.Prelude.{Bool, false, List, [], ◌∷◌, map, Option, Some, slice_get}
use Rattle.toy_imp.specs.declared.condition.Condition.{Condition}
use Rattle.toy_imp.specs.declared.condition.Condition.TheVariants as condition
use Rattle.toy_imp.specs.declared.condition.Region.{Region}
use Rattle.toy_imp.specs.declared.instance.Filling.{Filling}
use Rattle.toy_imp.specs.declared.instance.Filling.TheVariants as filling
use Rattle.toy_imp.specs.declared.instance.Instance.{Instance}
use Rattle.toy_imp.specs.Block.{Block}
use Rattle.side_conditions.specs.ByText.{keeps_by_text, ignores_by_text, commutes_by_text, positive_by_text, constant_by_text, distinct_by_text, quiet_by_text}
use Rattle.swap_conditions.specs.SwapText.{swaps_by_text}

-- a test of a filling, where there is one
abbrev pub of_one : (Filling → Bool) → Option Filling → Bool
of_one test (Some f) = test f
of_one test _ = false

-- a test of two fillings
abbrev pub of_two : (Filling → Filling → Bool) → Option Filling → Option Filling → Bool
of_two test (Some f) (Some g) = test f g
of_two test _ _ = false

-- of two statements over one name or two
abbrev pub names_swap : Block → Block → List (Option Filling) → Region → Bool
names_swap s t (Some (filling.Name k) ∷ []) r = swaps_by_text s t (k ∷ []) r
names_swap s t (Some (filling.Name k) ∷ Some (filling.Name l) ∷ []) r = swaps_by_text s t (k ∷ l ∷ []) r
names_swap s t _ r = false

abbrev pub swap_holds : Option Filling → Option Filling → List (Option Filling) → Region → Bool
swap_holds (Some (filling.Stmt s)) (Some (filling.Stmt t)) ks r = names_swap s t ks r
swap_holds _ _ ks r = false

abbrev pub holds_by_text : Instance → Condition → Bool
holds_by_text i (condition.Keeps s o) = of_two keeps_by_text (slice_get i.fillings s) (slice_get i.fillings o)
holds_by_text i (condition.Ignores o x) = of_two ignores_by_text (slice_get i.fillings o) (slice_get i.fillings x)
holds_by_text i (condition.Commutes s t) = of_two commutes_by_text (slice_get i.fillings s) (slice_get i.fillings t)
holds_by_text i (condition.Positive e) = of_one positive_by_text (slice_get i.fillings e)
holds_by_text i (condition.Constant e) = of_one constant_by_text (slice_get i.fillings e)
holds_by_text i (condition.Distinct x y) = of_two distinct_by_text (slice_get i.fillings x) (slice_get i.fillings y)
holds_by_text i (condition.Quiet s) = of_one quiet_by_text (slice_get i.fillings s)
holds_by_text i (condition.Swaps s t ks r) = swap_holds (slice_get i.fillings s) (slice_get i.fillings t) (map (slice_get i.fillings) ks) r
