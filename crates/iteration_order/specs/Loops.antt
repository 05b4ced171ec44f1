-- What running order means for programs: a loop runs as the list of its turns, one after another, and a nest of loops as the list of its tuples in running order.
-- A turn is the body inside a `let` that sets the counters; `specs/Exchange.antt` says in which other order the turns may run.
use Rattle.std.specs.Prelude.{◌≡◌, ◌≢◌, ℤ, List, [], ◌∷◌, ◌++◌, map, All, AllPairs}
use Rattle.toy_imp.specs.declared.name.Name.{Name}
use Rattle.toy_imp.specs.Cell.{spelled, variable}
use Rattle.toy_imp.specs.Store.{Store, read}
use Rattle.toy_imp.specs.Value.{value}
use Rattle.toy_imp.specs.Expr.{Expr}
use Rattle.toy_imp.specs.Block.{for_to, Block, empty, stmt}
use Rattle.toy_imp.specs.Keeps.{KeepsExpr, KeepsName, ExprIgnores}
use Rattle.toy_imp.specs.Swaps.{set_round}
use Rattle.toy_imp.specs.Run.{Outcome}
use Rattle.toy_imp.specs.Ends.{ComesOut}
use Rattle.iteration_order.specs.declared.affine.Affine.{Affine}
use Rattle.iteration_order.specs.declared.bounds.Bounds.{Bounds}
use Rattle.iteration_order.specs.Affine.{value_at}
use Rattle.iteration_order.specs.RunningOrder.{turns_between, running_order}
use Rattle.iteration_order.specs.Exchange.{joined}

-- from one store, two blocks end alike and halt alike
pub record SameFrom (s : Store) (p q : Block) : Type 0 where
  pub to : (o : Outcome) → ComesOut p s o → ComesOut q s o
  pub back : (o : Outcome) → ComesOut q s o → ComesOut p s o

-- `let x = v { b }`
abbrev pub turn_at : Name → Block → ℤ → Block
turn_at x b v = set_round (x ∷ []) (v ∷ []) b

-- from each store, `for x = low to high { b }` ends and halts as its turns do, with the bounds' values in that store
abbrev pub LoopIsItsTurns : Type 0
LoopIsItsTurns = (x : Name) (low high : Expr) (b : Block) (s : Store) → SameFrom s (stmt (for_to x low high b) empty) (joined (turn_at x b) (turns_between (value low s) (value high s)))

-- ---- nests
-- a loop of a program: its counter, and its bounds
pub record Loop : Type 0 where
  pub counter : Name
  pub low : Expr
  pub high : Expr

abbrev pub counters_of : List Loop → List Name
counters_of loops = map (λ l. l.counter) loops

-- the loops one inside the other, the first outermost, round a body
abbrev pub nest_round : List Loop → Block → Block
nest_round [] b = b
nest_round (l ∷ loops) b = stmt (for_to l.counter l.low l.high (nest_round loops b)) empty

-- in each store the expression has the value of the form, at the counters' variables and the symbols' values there
pub record HasForm (e : Expr) (a : Affine) (counters : List Name) (symbols : List Expr) : Type 0 where
  pub same : (s : Store) → value e s ≡ value_at a (map (λ x. read s (variable x)) counters) (map (λ f. value f s) symbols)

-- each loop has the bounds that the nest has for it, over the counters of the loops round it
abbrev pub HaveBounds : List Name → List Expr → List Loop → List Bounds → Type 0
HaveBounds around symbols [] [] = Unit {0}
HaveBounds around symbols [] (b ∷ nest) = ⊥
HaveBounds around symbols (l ∷ loops) [] = ⊥
HaveBounds around symbols (l ∷ loops) (b ∷ nest) = HasForm l.low b.low around symbols × HasForm l.high b.high around symbols × HaveBounds (around ++ l.counter ∷ []) symbols loops nest

-- the counters are different, the body keeps them and the symbols, and the symbols do not read them
pub record IsSteady (counters : List Name) (symbols : List Expr) (b : Block) : Type 0 where
  pub apart : AllPairs (λ x y. spelled x ≢ spelled y) counters
  pub counters_kept : All (λ x. KeepsName b x) counters
  pub symbols_kept : All (λ e. KeepsExpr b e) symbols
  pub symbols_ignore : All (λ e. All (λ x. ExprIgnores e x) counters) symbols

-- from each store, such a nest ends and halts as its turns do, in running order, with the symbols' values in that store
abbrev pub NestIsItsTurns : Type 0
NestIsItsTurns = (loops : List Loop) (nest : List Bounds) (symbols : List Expr) (b : Block) → HaveBounds [] symbols loops nest → IsSteady (counters_of loops) symbols b → (s : Store) →
    SameFrom s (nest_round loops b) (joined (λ t. set_round (counters_of loops) t b) (running_order nest (map (λ e. value e s) symbols)))
