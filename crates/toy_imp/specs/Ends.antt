-- A block ends from a store in another where some number of steps does all of it and leaves the other. It halts in a store where
-- some number of steps comes to an `assert` that is false there. From a store it does at most one of these, in one store.
-- Two blocks are the same where each ends exactly where the other does, and halts exactly where the other does, in the same stores.
use Rattle.std.specs.Prelude.{◌≡◌, ℕ, List, [], Some}
use Rattle.toy_imp.specs.Store.{Store}
use Rattle.toy_imp.specs.Run.{Item, before, Outcome, ended, halted, run}
use Rattle.toy_imp.specs.Block.{Block}

-- some number of steps of the work, from s, has this outcome
pub record Reaches (work : List Item) (s : Store) (o : Outcome) : Type 0 where
  pub steps : ℕ
  pub reached : run steps work s ≡ Some o

abbrev pub ComesOut : Block → Store → Outcome → Type 0
ComesOut b s o = Reaches (before b []) s o

abbrev pub Ends : Block → Store → Store → Type 0
Ends b s t = ComesOut b s (ended t)

abbrev pub Halts : Block → Store → Store → Type 0
Halts b s t = ComesOut b s (halted t)

-- two lists of work that come out alike: they end alike and halt alike
pub record Alike (v w : List Item) : Type 0 where
  pub to : (s : Store) (o : Outcome) → Reaches v s o → Reaches w s o
  pub back : (s : Store) (o : Outcome) → Reaches w s o → Reaches v s o

pub record Same (p q : Block) : Type 0 where
  pub to : (s : Store) (o : Outcome) → ComesOut p s o → ComesOut q s o
  pub back : (s : Store) (o : Outcome) → ComesOut q s o → ComesOut p s o

-- two blocks that end alike; whether they halt is not said
pub record EndAlike (p q : Block) : Type 0 where
  pub to : (s t : Store) → Ends p s t → Ends q s t
  pub back : (s t : Store) → Ends q s t → Ends p s t

-- a block that halts from no store
pub record IsQuiet (b : Block) : Type 0 where
  pub never : (s t : Store) → ¬ (Halts b s t)
