-- What the code keeps of a stage, as the list of its lines.
use Rattle.std.specs.Prelude.{◌≡◌, ℤ, List, map, Option, Some, None, Ok, Err}
use Rattle.std.specs.declared.vec.Vec.{Vec}
use Rattle.std.specs.declared.alloc.Global.{Global}
use Rattle.linear_rows.specs.declared.stage.Stage.{Stage}
use Rattle.linear_rows.specs.declared.answer.RowKind.{RowKind}
use Rattle.linear_rows.specs.Stage.{taken, gathered}

abbrev pub items_of : List (Vec ℤ Global) → List (List ℤ)
items_of lines = map (λ line. line.items) lines

abbrev pub lines_of : Stage → List (List ℤ)
lines_of stage = items_of stage.lines.keys

-- one line was taken, or passed a limit
abbrev pub Takes : List (List ℤ) → List ℤ → List (List ℤ) → Option RowKind → Type 0
Takes old line new None = taken old line ≡ Ok new
Takes old line new (Some what) = taken old line ≡ Err what

-- so many were taken in turn, or one of them passed a limit
abbrev pub Gathers : List (List ℤ) → List (List ℤ) → List (List ℤ) → Option RowKind → Type 0
Gathers old lines new None = gathered old lines ≡ Ok new
Gathers old lines new (Some what) = gathered old lines ≡ Err what
