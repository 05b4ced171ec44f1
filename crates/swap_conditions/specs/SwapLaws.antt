-- What the tests by text imply: two blocks that swap by text swap, and an instance for which a condition holds by text meets it.
use Rattle.std.specs.Prelude.{◌≡◌, true, List}
use Rattle.toy_imp.specs.declared.name.Name.{Name}
use Rattle.toy_imp.specs.declared.condition.Condition.{Condition}
use Rattle.toy_imp.specs.declared.condition.Region.{Region}
use Rattle.toy_imp.specs.declared.instance.Instance.{Instance}
use Rattle.toy_imp.specs.Block.{Block}
use Rattle.toy_imp.specs.Meets.{Meets}
use Rattle.toy_imp.specs.Swaps.{SwapsOver}
use Rattle.swap_conditions.specs.ByText.{holds_by_text}
use Rattle.swap_conditions.specs.SwapText.{swaps_by_text}

-- for all tuples of the region, and whatever other names are set round either block
abbrev pub SwapSuffices : Type 0
SwapSuffices = (s t : Block) (ks : List Name) (r : Region) → swaps_by_text s t ks r ≡ true → SwapsOver s t ks r

abbrev pub HoldingSuffices : Type 0
HoldingSuffices = (i : Instance) (c : Condition) → holds_by_text i c ≡ true → Meets i c
