-- When an instance meets a side condition, by what stands for the parameters that the condition numbers.
-- A condition whose numbers have no fillings of its kinds is not met.
use Rattle.std.specs.Prelude.{◌≡◌, ◌≢◌, ℕ, List, [], ◌∷◌, Option, Some, slice_get, All}
use Rattle.toy_imp.specs.declared.name.Name.{Name}
use Rattle.toy_imp.specs.declared.condition.Condition.{Condition}
use Rattle.toy_imp.specs.declared.condition.Condition.TheVariants as condition
use Rattle.toy_imp.specs.declared.condition.Region.{Region}
use Rattle.toy_imp.specs.declared.instance.Filling.{Filling}
use Rattle.toy_imp.specs.declared.instance.Filling.TheVariants as filling
use Rattle.toy_imp.specs.declared.instance.Instance.{Instance}
use Rattle.toy_imp.specs.Cell.{spelled}
use Rattle.toy_imp.specs.Ends.{IsQuiet}
use Rattle.toy_imp.specs.Keeps.{KeepsExpr, KeepsTest, KeepsName, ExprIgnores, TestIgnores, StmtIgnores, StmtsCommute, IsPositive, IsConstant}
use Rattle.toy_imp.specs.Swaps.{SwapsOver}

-- `keeps`: a statement, and an expression, a test or a name
abbrev pub Keeps : Option Filling → Option Filling → Type 0
Keeps (Some (filling.Stmt b)) (Some (filling.Expr e)) = KeepsExpr b e
Keeps (Some (filling.Stmt b)) (Some (filling.Test q)) = KeepsTest b q
Keeps (Some (filling.Stmt b)) (Some (filling.Name x)) = KeepsName b x
Keeps _ _ = ⊥

-- `ignores`: an expression, a test or a statement, and a name
abbrev pub Ignores : Option Filling → Option Filling → Type 0
Ignores (Some (filling.Expr e)) (Some (filling.Name x)) = ExprIgnores e x
Ignores (Some (filling.Test q)) (Some (filling.Name x)) = TestIgnores q x
Ignores (Some (filling.Stmt b)) (Some (filling.Name x)) = StmtIgnores b x
Ignores _ _ = ⊥

-- `commutes`: two statements that halt from no store, and one after the other end alike in both orders
abbrev pub Commutes : Option Filling → Option Filling → Type 0
Commutes (Some (filling.Stmt b)) (Some (filling.Stmt c)) = StmtsCommute b c
Commutes _ _ = ⊥

abbrev pub Positive : Option Filling → Type 0
Positive (Some (filling.Expr e)) = IsPositive e
Positive _ = ⊥

abbrev pub Constant : Option Filling → Type 0
Constant (Some (filling.Expr e)) = IsConstant e
Constant _ = ⊥

-- `distinct`: two names of different bytes
abbrev pub Distinct : Option Filling → Option Filling → Type 0
Distinct (Some (filling.Name x)) (Some (filling.Name y)) = spelled x ≢ spelled y
Distinct _ _ = ⊥

-- `quiet`: a statement that halts from no store
abbrev pub Quiet : Option Filling → Type 0
Quiet (Some (filling.Stmt b)) = IsQuiet b
Quiet _ = ⊥

-- the numbers stand for these names, one for one
abbrev pub Named : Instance → List ℕ → List Name → Type 0
Named i [] [] = Unit {0}
Named i [] (x ∷ xs) = ⊥
Named i (k ∷ ks) [] = ⊥
Named i (k ∷ ks) (x ∷ xs) = (slice_get i.fillings k ≡ Some (filling.Name x)) × Named i ks xs

abbrev pub Swaps : Option Filling → Option Filling → List Name → Region → Type 0
Swaps (Some (filling.Stmt b)) (Some (filling.Stmt c)) counters region = SwapsOver b c counters region
Swaps _ _ counters region = ⊥

-- `swaps`: two statements, and names that the listed numbers stand for
pub record SwapsNamed (i : Instance) (b c : Option Filling) (ks : List ℕ) (region : Region) : Type 0 where
  pub counters : List Name
  pub named : Named i ks counters
  pub swaps : Swaps b c counters region

abbrev pub Meets : Instance → Condition → Type 0
Meets i (condition.Keeps k o) = Keeps (slice_get i.fillings k) (slice_get i.fillings o)
Meets i (condition.Ignores k x) = Ignores (slice_get i.fillings k) (slice_get i.fillings x)
Meets i (condition.Commutes k l) = Commutes (slice_get i.fillings k) (slice_get i.fillings l)
Meets i (condition.Positive k) = Positive (slice_get i.fillings k)
Meets i (condition.Constant k) = Constant (slice_get i.fillings k)
Meets i (condition.Distinct x y) = Distinct (slice_get i.fillings x) (slice_get i.fillings y)
Meets i (condition.Quiet k) = Quiet (slice_get i.fillings k)
Meets i (condition.Swaps k l ks region) = SwapsNamed i (slice_get i.fillings k) (slice_get i.fillings l) ks region

abbrev pub MeetsAll : Instance → List Condition → Type 0
MeetsAll i conditions = All (Meets i) conditions
