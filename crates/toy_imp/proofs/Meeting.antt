-- A condition that is listed is met where all are.
-- So of any fact that holds of all items of a list.
use Rattle.std.specs.Prelude.{◌≡◌, ℕ, zero, suc, List, [], ◌∷◌, Some, slice_get, All}
use Rattle.std.proofs.Common.{subst, arith}
use Rattle.toy_imp.specs.declared.condition.Condition.{Condition}
use Rattle.toy_imp.specs.declared.instance.Instance.{Instance}
use Rattle.toy_imp.specs.Meets.{Meets, MeetsAll}

pub listed : {X : Type 0} (P : X → Type 0) (xs : List X) (k : ℕ) (x : X) → All P xs → slice_get xs k ≡ Some x → P x
listed P [] k x all at = cc
listed P (y ∷ ys) zero x all at = let same : y ≡ x = cc in subst P same (all zero y (omega arith))
listed {X = X} P (y ∷ ys) (suc k) x all at = listed P ys k x (λ j d h. all (suc j) d (omega arith)) at

pub meets_listed : (i : Instance) (conditions : List Condition) (k : ℕ) (c : Condition) → MeetsAll i conditions → slice_get conditions k ≡ Some c → Meets i c
meets_listed i conditions k c all at = listed (Meets i) conditions k c all at
