-- The running order of a nest of loops: the tuples of the counters' values, one for each turn of the innermost loop, in the order in which the turns come.
-- The outer loop's turns come one after another, and within each of them those of the loops inside, with bounds at the counters' values there.
use Rattle.std.specs.Prelude.{◌<◌, ℕ, zero, suc, ℤ, pos, negsuc, ◌+ℤ◌, ◌-ℤ◌, ◌≤ℤ◌, ◌<ℤ◌, ◌⊎◌, ◌↔◌, List, [], ◌∷◌, ◌++◌, map, length, Contains, AllPairs}
use Rattle.std.specs.List.{flat_map}
use Rattle.toy_imp.specs.Swaps.{IsBefore}
use Rattle.iteration_order.specs.declared.bounds.Bounds.{Bounds}
use Rattle.iteration_order.specs.Affine.{value_at}

-- so many whole numbers in order, from one on
abbrev pub count_up : ℤ → ℕ → List ℤ
count_up low zero = []
count_up low (suc n) = low ∷ count_up (low +ℤ pos 1) n

-- a number, or 0 where it is negative
abbrev pub or_zero : ℤ → ℕ
or_zero (pos n) = n
or_zero (negsuc n) = 0

-- the counter's values in the turns of a loop: the whole numbers from its lower bound on that are below its upper one, in order
unfoldable pub turns_between : ℤ → ℤ → List ℤ
turns_between low high = count_up low (or_zero (high -ℤ low))

-- the turns of one loop, at the values of the counters round it and of the symbols
abbrev pub turns_of : Bounds → List ℤ → List ℤ → List ℤ
turns_of b around symbols = turns_between (value_at b.low around symbols) (value_at b.high around symbols)

-- for each turn of the outer loop, its counter's value in front of each tuple of the loops inside
unfoldable pub tuples_within : List Bounds → List ℤ → List ℤ → List (List ℤ)
tuples_within [] around symbols = [] ∷ []
tuples_within (b ∷ nest) around symbols = flat_map (λ v. map (λ t. v ∷ t) (tuples_within nest (around ++ v ∷ []) symbols)) (turns_of b around symbols)

-- the running order of a nest that stands in no loop
abbrev pub running_order : List Bounds → List ℤ → List (List ℤ)
running_order nest symbols = tuples_within nest [] symbols

-- for each turn of a loop the values of the counters round it and then its own
unfoldable pub tuples_between : List ℤ → ℤ → ℤ → List (List ℤ)
tuples_between around low high = map (λ v. around ++ v ∷ []) (turns_between low high)

-- the tuples of two loops, in so many turns of the outer one
unfoldable pub pairs_between : Bounds → List ℤ → ℤ → ℤ → List (List ℤ)
pairs_between inner symbols low high = flat_map (λ v. map (λ t. v ∷ t) (tuples_within (inner ∷ []) (v ∷ []) symbols)) (turns_between low high)

-- the turns of the outermost loop
abbrev pub outer_turns : List Bounds → List ℤ → List ℤ
outer_turns [] symbols = []
outer_turns (b ∷ nest) symbols = turns_of b [] symbols

-- more than 65,536 tuples, or turns of the outer loop
abbrev pub AreMany : List Bounds → List ℤ → Type 0
AreMany nest symbols = (65536 < length (running_order nest symbols)) ⊎ (65536 < length (outer_turns nest symbols))

-- each number of the tuple is within the bounds of its loop, at the numbers before it
abbrev pub IsTurn : List Bounds → List ℤ → List ℤ → List ℤ → Type 0
IsTurn [] around symbols [] = Unit {0}
IsTurn [] around symbols (v ∷ t) = ⊥
IsTurn (b ∷ nest) around symbols [] = ⊥
IsTurn (b ∷ nest) around symbols (v ∷ t) = (value_at b.low around symbols ≤ℤ v) × (v <ℤ value_at b.high around symbols) × IsTurn nest (around ++ v ∷ []) symbols t

-- the tuples in running order are those within the bounds, and no others ..
abbrev pub TuplesAreTheTurns : Type 0
TuplesAreTheTurns = (nest : List Bounds) (around symbols t : List ℤ) → Contains (tuples_within nest around symbols) t ↔ IsTurn nest around symbols t

-- .. each once, in lexicographic order
abbrev pub TuplesAscend : Type 0
TuplesAscend = (nest : List Bounds) (around symbols : List ℤ) → AllPairs IsBefore (tuples_within nest around symbols)
