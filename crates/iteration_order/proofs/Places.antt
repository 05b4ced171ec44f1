-- The exchange law for two lists of blocks: their places are the items, and the blocks at the places in order are the list.
use Rattle.std.specs.Prelude.{◌≡◌, ℕ, zero, suc, ◌+◌, ◌<◌, List, [], ◌∷◌, length, refl}
use Rattle.std.specs.List.{range_with_len}
use Rattle.std.proofs.Common.{sym, ◌∙◌, ap, ap₂, subst, arith}
use Rattle.std.proofs.lemmas.List.FromFn.{length-range_with_len, get_or-range_with_len}
use Rattle.toy_imp.specs.Block.{Block, append}
use Rattle.toy_imp.specs.Ends.{Same}
use Rattle.iteration_order.specs.Exchange.{joined, block_at, Precedes, BlocksExchange}
use Rattle.iteration_order.proofs.Exchanges.{exchange}

-- a function that gives the blocks of a list from a place on gives them joined
joined-places : (f : ℕ → Block) (blocks : List Block) (a : ℕ) → ((k : ℕ) → k < length blocks → f (a + k) ≡ block_at blocks k) →
    joined f (range_with_len a (length blocks)) ≡ joined (λ b. b) blocks
joined-places f [] a is = refl
joined-places f (b ∷ blocks) a is =
    let first : f a ≡ b = ap f (omega arith) ∙ is zero (omega arith) in
    ap₂ append first (joined-places f blocks (a + 1) (λ k lt. ap f (omega arith) ∙ is (suc k) (omega arith)))

-- of the places in order the smaller comes first
places_ascend : (n i j : ℕ) → Precedes (range_with_len 0 n) i j → i < j
places_ascend n i j p =
    let lt = p.in_order in
    let within : p.second < n = omega (arith, p.within, length-range_with_len 0 n) in
    let first : i ≡ 0 + p.first = sym p.first_is ∙ get_or-range_with_len 0 n p.first i (omega arith) in
    let second : j ≡ 0 + p.second = sym p.second_is ∙ get_or-range_with_len 0 n p.second j within in
    omega arith

pub blocks_exchange : BlocksExchange
blocks_exchange blocks order is swaps =
    let law : Same (joined (block_at blocks) (range_with_len 0 (length blocks))) (joined (block_at blocks) order) =
    exchange ℕ (block_at blocks) (range_with_len 0 (length blocks)) order is
    (record { swap = λ i j p q. swaps i j (places_ascend (length blocks) i j p) q }) in
    subst (λ b. Same b (joined (block_at blocks) order)) (joined-places (block_at blocks) blocks 0 (λ k lt. ap (block_at blocks) (omega arith))) law
