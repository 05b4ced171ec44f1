-- An intake of bytes into memory: what it holds, the room that is left, the greatest number of bytes
-- of one write, the numbers of the writes that fail (the first is 1), and how many writes and faults there were.
use Rattle.std.specs.Prelude.{◌≡◌, ℕ, ◌-◌, ◌<◌, ◌⊎◌, ◌++◌, List, length, take, Result, Ok, Err, Contains}
use Rattle.pec_io.specs.Faults.{one_more}

pub record Intake : Type 0 where
  pub written : List ℕ
  pub room : ℕ
  pub most : ℕ
  pub fails : List ℕ
  pub calls : ℕ
  pub faults : ℕ

-- the next write of this piece fails: its number is listed, or a piece that is not empty meets no room
abbrev pub Refuses : Intake → List ℕ → Type 0
Refuses intake piece = Contains intake.fails (one_more intake.calls) ⊎ ((0 < length piece) × (intake.room ≡ 0))

-- the intake after a write: one that answers n holds n bytes of the piece more, one that fails has raised the faults
abbrev pub after_write : {E : Type 0} → Intake → List ℕ → Result ℕ E → Intake
after_write intake piece (Ok n) =
    record intake { written = intake.written ++ take n piece; room = intake.room - n; calls = one_more intake.calls }
after_write intake piece (Err e) = record intake { calls = one_more intake.calls; faults = one_more intake.faults }
