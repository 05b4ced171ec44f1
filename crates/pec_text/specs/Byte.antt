-- Classes of bytes that lines and words are cut by, as tests.
-- Space is 32, tab 9, `_` 95; letters and digits are those of ASCII.
use Rattle.std.specs.Prelude.{ℕ, Bool, ◌||◌, ◌==◌}
use Rattle.std.specs.Char.{is_ascii_alphanumeric}

-- a blank is a space or a tab
abbrev pub is_blank : ℕ → Bool
is_blank b = b == 32 || b == 9

-- after its first byte an ID has letters, digits and `_`
abbrev pub is_id_byte : ℕ → Bool
is_id_byte b = is_ascii_alphanumeric b || b == 95
