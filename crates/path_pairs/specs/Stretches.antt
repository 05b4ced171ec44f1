-- What a list of stretches of the code stands for, and what is left of it in front of the statement that stands next.
use Rattle.std.specs.Prelude.{List, [], ◌∷◌}
use Rattle.toy_imp.specs.Block.{empty, stmt}
use Rattle.toy_imp.specs.BlockView.{block_of}
use Rattle.path_pairs.specs.declared.stretch.Stretch as code
use Rattle.path_pairs.specs.Rests.{Stretch, stretch, Rest}

abbrev pub stretch_of : code.Stretch → Stretch
stretch_of x = stretch x.first (block_of x.stmts.now)

abbrev pub rest_of : List code.Stretch → Rest
rest_of [] = []
rest_of (x ∷ xs) = stretch_of x ∷ rest_of xs

-- without the stretches in front in which no statement is left
abbrev pub from_next : Rest → Rest
from_next [] = []
from_next (stretch n empty ∷ rest) = from_next rest
from_next (stretch n (stmt a b) ∷ rest) = stretch n (stmt a b) ∷ rest
