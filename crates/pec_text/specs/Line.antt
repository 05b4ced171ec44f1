-- The lines of a text, which of them count, and their words.
-- A line feed is 10 and `#` is 35; blanks are spaces and tabs.
use Rattle.std.specs.Prelude.{ℕ, Bool, false, not, List, [], ◌∷◌, length, if◌then◌else◌, ◌==◌, find, filter}
use Rattle.std.specs.List.{slice_split, onto_first}
use Rattle.std.specs.Option.{option_map_or}
use Rattle.pec_text.specs.Byte.{is_blank}

-- a line ends with a line feed or with the input
abbrev pub lines : List ℕ → List (List ℕ)
lines [] = []
lines (b ∷ more) = if b == 10 then [] ∷ lines more else onto_first b (lines more)

-- a line counts unless it is blanks alone, or a comment: its first byte that is no blank is `#`
abbrev pub is_kept : List ℕ → Bool
is_kept line = option_map_or (λ b. not (b == 35)) (find (λ b. not (is_blank b)) line) false

-- the lines that are neither blank nor comments, in order
abbrev pub kept_lines : List ℕ → List (List ℕ)
kept_lines bytes = filter is_kept (lines bytes)

-- the words of a line stand between blanks and are not empty
abbrev pub words : List ℕ → List (List ℕ)
words line = filter (λ word. not (length word == 0)) (slice_split is_blank line)
