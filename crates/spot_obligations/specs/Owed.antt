-- What a pair of paths owes where they stop: the conjuncts that have to be shown of the stores there.
-- Paths that stop at the points of an entry owe each conjunct of it. Two that halt, or that are stuck before one statement, owe that
-- their stores are equal. Two that are stuck before statements that halt from no store owe nothing. All others owe what is never true.
use Rattle.std.specs.Prelude.{ℕ, suc, Bool, cond, true, false, ◌&&◌, ◌||◌, ◌==◌, List, [], ◌∷◌, Option, Some, None, find, slice_get}
use Rattle.std.specs.List.{list_any}
use Rattle.toy_imp.specs.declared.condition.Condition.{Condition}
use Rattle.toy_imp.specs.declared.condition.Condition.TheVariants as condition
use Rattle.rule_terms.specs.Goals.{sides_equal, falsehood}
use Rattle.rule_terms.specs.declared.obligation.Conjunct.{Conjunct}
use Rattle.rule_terms.specs.declared.path.Stop.{Stop}
use Rattle.rule_terms.specs.declared.path.Stop.TheVariants.{At, Halted, Stuck}
use Rattle.spot_obligations.specs.declared.entry.Entry.{Entry}
use Rattle.spot_obligations.specs.declared.owed.Owed as code

-- A statement parameter is quiet in a rule where a condition `quiet`, `commutes` or `swaps` names it: each says that it halts from
-- no store.
abbrev pub says_quiet : ℕ → Condition → Bool
says_quiet k (condition.Quiet s) = s == k
says_quiet k (condition.Commutes s t) = s == k || t == k
says_quiet k (condition.Swaps s t names region) = s == k || t == k
says_quiet k _ = false

unfoldable pub is_quiet : List Condition → ℕ → Bool
is_quiet conditions k = list_any (says_quiet k) conditions

-- the points of an entry, and the entry at two points
abbrev pub pair_of : Entry → ℕ × ℕ
pair_of e = (e.left, e.right)

abbrev pub stands_at : ℕ → ℕ → Entry → Bool
stands_at p q e = e.left == p && e.right == q

abbrev pub entry_at : List Entry → ℕ → ℕ → Option Entry
entry_at entries p q = find (stands_at p q) entries

pub data Owed : Type 0 where
  each : List Conjunct → Owed  -- each of these, by its number
  one : Conjunct → Owed  -- this one, which has no number
  nothing : Owed

abbrev pub arrival : Option Entry → Owed
arrival None = one falsehood
arrival (Some e) = each e.conjuncts

unfoldable pub owed : List Condition → List Entry → Stop → Stop → Owed
owed conditions entries (At p) (At q) = arrival (entry_at entries p q)
owed conditions entries Halted Halted = one sides_equal
owed conditions entries (Stuck j) (Stuck k) = cond (is_quiet conditions j && is_quiet conditions k) nothing (one (cond (j == k) sides_equal falsehood))
owed conditions entries _ _ = one falsehood

-- the numbers of the conjuncts that are owed, in order
abbrev pub numbered_from : ℕ → List Conjunct → List (Option ℕ)
numbered_from c [] = []
numbered_from c (x ∷ xs) = Some c ∷ numbered_from (suc c) xs

abbrev pub owed_numbers : Owed → List (Option ℕ)
owed_numbers (each conjuncts) = numbered_from 0 conjuncts
owed_numbers (one conjunct) = None ∷ []
owed_numbers nothing = []

-- the conjunct of a number
abbrev pub owed_at : Owed → Option ℕ → Option Conjunct
owed_at (each conjuncts) (Some c) = slice_get conjuncts c
owed_at (each conjuncts) None = None
owed_at (one conjunct) (Some c) = None
owed_at (one conjunct) None = Some conjunct
owed_at nothing (Some c) = None
owed_at nothing None = None

-- what the code's value of the same name stands for
abbrev pub owed_of : code.Owed → Owed
owed_of (code.TheVariants.Each conjuncts) = each conjuncts.now
owed_of code.TheVariants.EqualStores = one sides_equal
owed_of code.TheVariants.Falsehood = one falsehood
owed_of code.TheVariants.Nothing = nothing
