-- The frame law, after Hoare: what a run does depends on the cells that it reads alone, and it changes those alone that it writes.
-- The laws speak of any list of work, so of a block too, whose work is `before b []`.
use Rattle.std.specs.Prelude.{◌≡◌, ◌≢◌, ℕ, true, ◌||◌, List, []}
use Rattle.toy_imp.specs.Cell.{Cell}
use Rattle.toy_imp.specs.Store.{Store, read}
use Rattle.toy_imp.specs.Block.{Block}
use Rattle.toy_imp.specs.Run.{Item, before, run}
use Rattle.side_conditions.specs.Each.{Each}
use Rattle.side_conditions.specs.Frame.{Write, after, reads, writes, written, outcome}
use Rattle.side_conditions.specs.Seeking.{reads_name, writes_name}

-- two stores hold the same in each of these cells
abbrev pub Agree : List Cell → Store → Store → Type 0
Agree cells s t = Each (λ c. read s c ≡ read t c) cells

-- n steps from two stores read the same cells, write the same numbers into the same cells, and leave the same work
pub record SameSteps (n : ℕ) (work : List Item) (s t : Store) : Type 0 where
  pub same_reads : reads n work s ≡ reads n work t
  pub same_writes : writes n work s ≡ writes n work t
  pub same_work : (after n work s).work ≡ (after n work t).work

-- stores that agree on what n steps from the first read
abbrev pub FrameLaw : Type 0
FrameLaw = (n : ℕ) (work : List Item) (s t : Store) → Agree (reads n work s) s t → SameSteps n work s t

-- a run has come out as the work that is left tells, in the store that is left; so after the same work, both have ended or none
abbrev pub WorkTellsOutcome : Type 0
WorkTellsOutcome = (n : ℕ) (work : List Item) (s : Store) → run n work s ≡ outcome ((after n work s).work) ((after n work s).store)

-- the store that n steps leave is the first one with their writes done
abbrev pub WritesTellStore : Type 0
WritesTellStore = (n : ℕ) (work : List Item) (s : Store) → (after n work s).store ≡ written s (writes n work s)

-- a cell that is not among the writes
abbrev pub IsApart : Cell → List Write → Type 0
IsApart c ws = Each (λ w. c ≢ w.0) ws

-- keeps its value
abbrev pub OthersKept : Type 0
OthersKept = (n : ℕ) (work : List Item) (s : Store) (c : Cell) → IsApart c (writes n work s) → read ((after n work s).store) c ≡ read s c

-- what a run of a block reads has a name that the text reads or sets, and what it writes has a name that the text writes
pub record IsWithinText (b : Block) (n : ℕ) (s : Store) : Type 0 where
  pub read_names : Each (λ c. (reads_name b c.0 || writes_name b c.0) ≡ true) (reads n (before b []) s)
  pub written_names : Each (λ w. writes_name b w.0.0 ≡ true) (writes n (before b []) s)

abbrev pub WithinText : Type 0
WithinText = (b : Block) (n : ℕ) (s : Store) → IsWithinText b n s
