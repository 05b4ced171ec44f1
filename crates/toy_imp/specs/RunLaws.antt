-- The laws of runs: how work splits and joins, that there is at most one outcome, and what may be replaced.
-- Every theorem about programs stands on these.
use Rattle.std.specs.Prelude.{◌≡◌, ◌⊎◌, ℕ, ◌+◌, List, ◌∷◌, ◌++◌, Some, None}
use Rattle.toy_imp.specs.Store.{Store}
use Rattle.toy_imp.specs.Run.{Item, act, before, Outcome, ended, halted, run}
use Rattle.toy_imp.specs.Ends.{Reaches, Alike, Same, EndAlike, IsQuiet}
use Rattle.toy_imp.specs.Block.{skip, par_stmt, Block, empty, stmt, append}

-- of n steps that do u and then w, the first do u, and the rest do w from the store between
pub record Parts (n : ℕ) (u w : List Item) (s : Store) (o : Outcome) : Type 0 where
  pub first : ℕ
  pub second : ℕ
  pub as_many : first + second ≡ n
  pub between : Store
  pub front : run first u s ≡ Some (ended between)
  pub rear : run second w between ≡ Some o

-- n steps of u halt, and this is the outcome
pub record HaltsBefore (n : ℕ) (u : List Item) (s : Store) (o : Outcome) : Type 0 where
  pub store : Store
  pub is : o ≡ halted store
  pub front : run n u s ≡ Some (halted store)

abbrev pub WorkSplits : Type 0
WorkSplits = (n : ℕ) (u w : List Item) (s : Store) (o : Outcome) → run n (u ++ w) s ≡ Some o → Parts n u w s o ⊎ HaltsBefore n u s o

abbrev pub WorkJoins : Type 0
WorkJoins = (n : ℕ) (u w : List Item) (s : Store) (o : Outcome) → Parts n u w s o ⊎ HaltsBefore n u s o → run n (u ++ w) s ≡ Some o

-- work that has an outcome in some number of steps has no other by any number of steps
abbrev pub OneOutcome : Type 0
OneOutcome = (work : List Item) (s : Store) (o p : Outcome) → Reaches work s o → Reaches work s p → o ≡ p

-- `skip` in front of any work changes nothing
abbrev pub SkipIsNothing : Type 0
SkipIsNothing = (work : List Item) → Alike (act skip ∷ work) work

-- nor does it at any place of a block
abbrev pub SkipDrops : Type 0
SkipDrops = (p q : Block) → Same (append p (stmt skip q)) (append p q)

-- nor does the empty block, in front of work or after a block
abbrev pub EmptyIsNothing : Type 0
EmptyIsNothing = ((work : List Item) → before empty work ≡ work) × ((p : Block) → append p empty ≡ p)

-- work that is done later may be replaced by work that comes out alike
abbrev pub LaterReplaced : Type 0
LaterReplaced = (u v w : List Item) → Alike v w → Alike (u ++ v) (u ++ w)

-- a block in front of work may be replaced by one that is the same
abbrev pub FrontReplaced : Type 0
FrontReplaced = (p q : Block) (work : List Item) → Same p q → Alike (before p work) (before q work)

-- so may both parts of a block
abbrev pub PartsReplaced : Type 0
PartsReplaced = (p q c d : Block) → Same p q → Same c d → Same (append p c) (append q d)

-- a parameter that stands for no statement never comes out
abbrev pub OpenNeverEnds : Type 0
OpenNeverEnds = (n k : ℕ) (work : List Item) (s : Store) → run n (act (par_stmt k) ∷ work) s ≡ None

-- quiet blocks that end alike are the same, and two quiet blocks one after the other are quiet
abbrev pub QuietIsSame : Type 0
QuietIsSame = (p q : Block) → IsQuiet p → IsQuiet q → EndAlike p q → Same p q

abbrev pub QuietTogether : Type 0
QuietTogether = (p q : Block) → IsQuiet p → IsQuiet q → IsQuiet (append p q)
