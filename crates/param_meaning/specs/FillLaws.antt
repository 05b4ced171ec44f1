-- The laws of filling: of a list that is cut in two, what stays, what depends on what, and what a filled tree means.
-- Matching, rewriting and simulation stand on these.
use Rattle.std.specs.Prelude.{◌≡◌, ◌↔◌, ℕ, Bool, true, List}
use Rattle.toy_imp.specs.declared.param.Kind.{Kind}
use Rattle.toy_imp.specs.declared.param.Kind.TheVariants as kind
use Rattle.toy_imp.specs.declared.rule.Rule.{Rule}
use Rattle.toy_imp.specs.declared.instance.Instance.{Instance}
use Rattle.toy_imp.specs.Expr.{Expr}
use Rattle.toy_imp.specs.Test.{Test}
use Rattle.toy_imp.specs.Block.{Block, append}
use Rattle.toy_imp.specs.Fill.{name_at, expr_at, test_at, block_at, fill_expr, fill_test, fill}
use Rattle.toy_imp.specs.Fits.{fits}
use Rattle.toy_imp.specs.Program.{is_closed, is_closed_test, is_program}
use Rattle.toy_imp.specs.Run.{Item, before}
use Rattle.toy_imp.specs.Store.{Store}
use Rattle.toy_imp.specs.Truth.{truth}
use Rattle.toy_imp.specs.Value.{value}
use Rattle.param_meaning.specs.Covers.{covers_expr, covers_test, covers, declares, is_closed_instance}
use Rattle.param_meaning.specs.Each.{each_in}
use Rattle.param_meaning.specs.Occurs.{OccursInExpr, OccursInTest, Occurs}
use Rattle.param_meaning.specs.Under.{value_under, truth_under}

-- ---- a list that is cut in two is filled part by part
abbrev pub FilledByParts : Type 0
FilledByParts = (i : Instance) (p q : Block) → fill i (append p q) ≡ append (fill i p) (fill i q)

-- .. and so is the work that it stands for
abbrev pub FilledWorkByParts : Type 0
FilledWorkByParts = (i : Instance) (p q : Block) (work : List Item) → before (fill i (append p q)) work ≡ before (fill i p) (before (fill i q) work)

-- ---- a test that each parameter passes is one that each occurring parameter passes
abbrev pub EachIsOccurring : Type 0
EachIsOccurring = (q : Kind → ℕ → Bool) (b : Block) → (each_in q b ≡ true) ↔ ((c : Kind) (k : ℕ) → Occurs c k b → q c k ≡ true)

-- ---- what is filled holds no parameter, where the fillings hold none and none is missing
abbrev pub FilledExprIsClosed : Type 0
FilledExprIsClosed = (i : Instance) (e : Expr) → covers_expr i e ≡ true → is_closed_instance i ≡ true → is_closed (fill_expr i e) ≡ true

abbrev pub FilledTestIsClosed : Type 0
FilledTestIsClosed = (i : Instance) (t : Test) → covers_test i t ≡ true → is_closed_instance i ≡ true → is_closed_test (fill_test i t) ≡ true

abbrev pub FilledIsProgram : Type 0
FilledIsProgram = (i : Instance) (b : Block) → covers i b ≡ true → is_closed_instance i ≡ true → is_program (fill i b) ≡ true

-- an instance that fits a rule covers what the rule's parameters are declared for, by fillings that hold no parameter
pub record IsCovered (i : Instance) (b : Block) : Type 0 where
  pub covered : covers i b ≡ true
  pub closed : is_closed_instance i ≡ true

abbrev pub FittingCovers : Type 0
FittingCovers = (i : Instance) (rule : Rule) (b : Block) → fits i rule ≡ true → declares rule.params b ≡ true → IsCovered i b

-- so it makes a program of it
abbrev pub FittingFillsProgram : Type 0
FittingFillsProgram = (i : Instance) (rule : Rule) (b : Block) → fits i rule ≡ true → declares rule.params b ≡ true → is_program (fill i b) ≡ true

-- ---- what holds no parameter stays as it is
abbrev pub ClosedExprStays : Type 0
ClosedExprStays = (i : Instance) (e : Expr) → is_closed e ≡ true → fill_expr i e ≡ e

abbrev pub ClosedTestStays : Type 0
ClosedTestStays = (i : Instance) (t : Test) → is_closed_test t ≡ true → fill_test i t ≡ t

abbrev pub ProgramStays : Type 0
ProgramStays = (i : Instance) (b : Block) → is_program b ≡ true → fill i b ≡ b

-- ---- filling depends only on what stands for the parameters that occur

-- the same stands for a parameter under both instances
abbrev pub StandsAlike : Instance → Instance → Kind → ℕ → Type 0
StandsAlike i j kind.Name k = name_at i k ≡ name_at j k
StandsAlike i j kind.Expr k = expr_at i k ≡ expr_at j k
StandsAlike i j kind.Test k = test_at i k ≡ test_at j k
StandsAlike i j kind.Stmt k = block_at i k ≡ block_at j k

abbrev pub ExprFilledAlike : Type 0
ExprFilledAlike = (i j : Instance) (e : Expr) → ((c : Kind) (k : ℕ) → OccursInExpr c k e → StandsAlike i j c k) → fill_expr i e ≡ fill_expr j e

abbrev pub TestFilledAlike : Type 0
TestFilledAlike = (i j : Instance) (t : Test) → ((c : Kind) (k : ℕ) → OccursInTest c k t → StandsAlike i j c k) → fill_test i t ≡ fill_test j t

abbrev pub FilledAlike : Type 0
FilledAlike = (i j : Instance) (b : Block) → ((c : Kind) (k : ℕ) → Occurs c k b → StandsAlike i j c k) → fill i b ≡ fill j b

-- ---- a filled expression has the value that it has under the instance, and a filled test its truth
abbrev pub ValueOfFilled : Type 0
ValueOfFilled = (i : Instance) (e : Expr) (s : Store) → value (fill_expr i e) s ≡ value_under i e s

abbrev pub TruthOfFilled : Type 0
TruthOfFilled = (i : Instance) (t : Test) (s : Store) → truth (fill_test i t) s ≡ truth_under i t s
