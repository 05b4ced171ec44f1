-- What is an ID, the form of titles and names, as a test:
-- a letter and then letters, digits and `_`, at most 32 bytes in all.
use Rattle.std.specs.Prelude.{ℕ, Bool, false, ◌&&◌, List, [], ◌∷◌, length, nat_le}
use Rattle.std.specs.Char.{is_ascii_alphabetic}
use Rattle.std.specs.List.{list_all}
use Rattle.pec_text.specs.Byte.{is_id_byte}

-- an ID is a letter and then letters, digits and `_`, at most 32 bytes
abbrev pub is_id : List ℕ → Bool
is_id [] = false
is_id (first ∷ more) = is_ascii_alphabetic first && list_all is_id_byte more && nat_le (length (first ∷ more)) 32
