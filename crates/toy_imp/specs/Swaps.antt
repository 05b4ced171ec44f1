-- What the condition `swaps` means: two blocks halt from no store, and each with the counters set to a tuple end alike in both orders.
-- This holds for all tuples of a region, and whatever other names are set round either block.
use Rattle.std.specs.Prelude.{◌≡◌, ◌≢◌, ◌⊎◌, ℤ, List, [], ◌∷◌, length, All, ◌<ℤ◌}
use Rattle.toy_imp.specs.declared.name.Name.{Name}
use Rattle.toy_imp.specs.declared.condition.Region.{Region}
use Rattle.toy_imp.specs.declared.condition.Region.TheVariants as region
use Rattle.toy_imp.specs.Cell.{spelled}
use Rattle.toy_imp.specs.Ends.{EndAlike, IsQuiet}
use Rattle.toy_imp.specs.Expr.{num}
use Rattle.toy_imp.specs.Block.{let_in, Block, empty, stmt, append}

-- the first tuple is before the second in lexicographic order
abbrev pub IsBefore : List ℤ → List ℤ → Type 0
IsBefore [] b = ⊥
IsBefore (x ∷ a) [] = ⊥
IsBefore (x ∷ a) (y ∷ b) = (x <ℤ y) ⊎ ((x ≡ y) × IsBefore a b)

-- two counters each, of which one rises and the other falls
abbrev pub IsCrossing : List ℤ → List ℤ → Type 0
IsCrossing (x1 ∷ x2 ∷ []) (y1 ∷ y2 ∷ []) = ((x1 <ℤ y1) × (y2 <ℤ x2)) ⊎ ((y1 <ℤ x1) × (x2 <ℤ y2))
IsCrossing _ _ = ⊥

-- the region of a pair of tuples, the first statement's and the second's; in `earlier` the second's is before the first's
abbrev pub IsWithin : Region → List ℤ → List ℤ → Type 0
IsWithin region.Distinct a b = a ≢ b
IsWithin region.Earlier a b = IsBefore b a
IsWithin region.Crossing a b = IsCrossing a b

-- `let names = numbers { b }`: the names set one inside the other, the first outermost
abbrev pub set_round : List Name → List ℤ → Block → Block
set_round [] vs b = b
set_round (x ∷ xs) [] b = b
set_round (x ∷ xs) (v ∷ vs) b = stmt (let_in x (num v) (set_round xs vs b)) empty

-- names set round a block, each to a number, none of them a counter
pub record Outer (counters : List Name) : Type 0 where
  pub names : List Name
  pub numbers : List ℤ
  pub as_long : length numbers ≡ length names
  pub apart : All (λ x. All (λ k. spelled x ≢ spelled k) counters) names

-- the block with the counters set to a tuple, inside of other names that are set
abbrev pub turn : (counters : List Name) → Outer counters → List ℤ → Block → Block
turn counters o a b = set_round o.names o.numbers (set_round counters a b)

pub record SwapsOver (b c : Block) (counters : List Name) (region : Region) : Type 0 where
  pub first_quiet : IsQuiet b
  pub second_quiet : IsQuiet c
  pub alike : (x y : List ℤ) → length x ≡ length counters → length y ≡ length counters → IsWithin region x y → (o u : Outer counters) → EndAlike (append (turn counters o x b) (turn counters u y c)) (append (turn counters u y c) (turn counters o x b))
