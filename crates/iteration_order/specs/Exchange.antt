-- When a list of blocks may run in another order: any two blocks whose order is reversed end and halt alike in both orders.
-- This is the heart of reordered loops, since a loop runs as the list of its turns.
-- As an example take the loop `for i = 0 to 3 { a[i] := a[i] + 1; }` and its turns 0, 1 and 2, to be run backward as 2, 1, 0.
-- Three pairs of turns are reversed: 0 and 1, 0 and 2, 1 and 2. The turns of each pair write different cells, so they end alike
-- in both orders, and the law says that the loop and its reversal end in the same stores. Had the body been `a[i + 1] := a[i];`,
-- turn 1 would read what turn 0 writes, the pair 0 and 1 would not end alike, and the law would say nothing. Where only the
-- turns 1 and 2 change places, as in 0, 2, 1, they alone must end alike in both orders.
-- Blocks may never end: what is shown is that each side ends, and halts, in a store exactly where the other does. Two blocks that may
-- halt seldom do so alike in both orders, since the store at the halt shows which came first; quiet ones do where they end alike.
use Rattle.std.specs.Prelude.{◌≡◌, ◌≢◌, ℕ, ◌<◌, List, [], ◌∷◌, length, slice_index_or, Contains, AllPairs}
use Rattle.std.specs.List.{range_with_len}
use Rattle.toy_imp.specs.Block.{Block, empty, append}
use Rattle.toy_imp.specs.Ends.{Same}

-- the blocks of the items of a list, one after another
abbrev pub joined : {A : Type 0} → (A → Block) → List A → Block
joined block [] = empty
joined block (x ∷ xs) = append (block x) (joined block xs)

-- two blocks end and halt alike in both orders
pub record Swap (p q : Block) : Type 0 where
  pub same : Same (append p q) (append q p)

-- one item stands before another at some two places of a list
pub record Precedes {A : Type 0} (xs : List A) (x y : A) : Type 0 where
  pub first : ℕ
  pub second : ℕ
  pub in_order : first < second
  pub within : second < length xs
  pub first_is : slice_index_or xs first x ≡ x
  pub second_is : slice_index_or xs second y ≡ y

-- two lists without repeats that have the same items: one is a permutation of the other
pub record IsReordering {A : Type 0} (xs ys : List A) : Type 0 where
  pub once : AllPairs (λ x y. x ≢ y) xs
  pub once_there : AllPairs (λ x y. x ≢ y) ys
  pub there : (x : A) → Contains xs x → Contains ys x
  pub back : (x : A) → Contains ys x → Contains xs x

-- the blocks of any two items that stand in one order here and in the other order there
pub record ReversedSwap {A : Type 0} (block : A → Block) (xs ys : List A) : Type 0 where
  pub swap : (x y : A) → Precedes xs x y → Precedes ys y x → Swap (block x) (block y)

-- the exchange law, for items of any type that name blocks, as the tuples of a loop name its turns
abbrev pub Exchange : Type 0 → Type 0
Exchange A = (block : A → Block) (xs ys : List A) → IsReordering xs ys → ReversedSwap block xs ys → Same (joined block xs) (joined block ys)

-- the block at a place of a list
abbrev pub block_at : List Block → ℕ → Block
block_at blocks k = slice_index_or blocks k empty

-- all places of a list, each once, in some order
abbrev pub IsOrder : List Block → List ℕ → Type 0
IsOrder blocks order = IsReordering (range_with_len 0 (length blocks)) order

-- the same for two lists of blocks, of which one is a permutation of the other: a block may stand in them more than once, so the places are what is put in another order
abbrev pub BlocksExchange : Type 0
BlocksExchange = (blocks : List Block) (order : List ℕ) → IsOrder blocks order → ((i j : ℕ) → i < j → Precedes order j i → Swap (block_at blocks i) (block_at blocks j)) → Same (joined (λ b. b) blocks) (joined (block_at blocks) order)
