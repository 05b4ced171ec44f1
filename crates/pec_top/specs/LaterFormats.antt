-- Certificates whose format is not built yet, by the first line of their section: `format 2 simulate` and `format 1 permute`.
use Rattle.std.specs.Prelude.{ℕ, Bool, false, ◌&&◌, ◌||◌, List, [], ◌∷◌, codes, bytes_eq}
use Rattle.pec_text.specs.Line.{kept_lines, words}

-- the number and the method
abbrev pub is_later_method : List ℕ → List ℕ → Bool
is_later_method number method =
    (bytes_eq number (codes "2") && bytes_eq method (codes "simulate")) || (bytes_eq number (codes "1") && bytes_eq method (codes "permute"))

-- the words of the first line
abbrev pub is_later : List (List ℕ) → Bool
is_later (a ∷ b ∷ c ∷ []) = bytes_eq a (codes "format") && is_later_method b c
is_later _ = false

-- of the first of these lines
abbrev pub begins_later : List (List ℕ) → Bool
begins_later [] = false
begins_later (line ∷ more) = is_later (words line)

abbrev pub is_later_format : List ℕ → Bool
is_later_format body = begins_later (kept_lines body)
