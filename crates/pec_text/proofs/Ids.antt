-- What an ID is made of, and that this makes one.
use Rattle.std.proofs.Common.{◌≡◌, ℕ, ◌≤◌, true, ◌&&◌, leb, List, [], ◌∷◌, length, slice_index, arith}
use Rattle.std.specs.Char.{is_ascii_alphabetic}
use Rattle.std.specs.List.{list_all}
use Rattle.std.proofs.lemmas.Bool.{false≢true}
use Rattle.std.proofs.lemmas.Bool.Decides.{nat_tests}
use Rattle.pec_text.specs.Byte.{is_id_byte}
use Rattle.pec_text.specs.Id.{is_id}
use Rattle.pec_text.proofs.Runs.{both_true}

-- a run of ID bytes that a letter begins, at most 32 bytes long
pub record IsShortRun (lexeme : List ℕ) : Type 0 where
  pub letter : is_ascii_alphabetic (slice_index lexeme 0) ≡ true
  pub run : list_all is_id_byte lexeme ≡ true
  pub short : length lexeme ≤ 32

pub letter_in_id : (byte : ℕ) → is_ascii_alphabetic byte ≡ true → is_id_byte byte ≡ true
letter_in_id byte h = grind (arith, nat_tests)

pub run_of_id : (lexeme : List ℕ) → is_id lexeme ≡ true → IsShortRun lexeme
run_of_id [] h = absurd (false≢true h)
run_of_id (first ∷ more) h =
    let outer = both_true (is_ascii_alphabetic first && list_all is_id_byte more) (leb (length (first ∷ more)) 32) h in
    let inner = both_true (is_ascii_alphabetic first) (list_all is_id_byte more) outer.0 in
    record { letter = inner.0; run = rw (letter_in_id first inner.0) inner.1; short = (let e = outer.1 in grind (arith, nat_tests)) }

pub id_of_run : (lexeme : List ℕ) → is_ascii_alphabetic (slice_index lexeme 0) ≡ true → list_all is_id_byte lexeme ≡ true → length lexeme ≤ 32 → is_id lexeme ≡ true
id_of_run [] letter run short = absurd (false≢true letter)
id_of_run (first ∷ more) letter run short =
    let inner = both_true (is_id_byte first) (list_all is_id_byte more) run in
    let within : leb (length (first ∷ more)) 32 ≡ true = grind (arith, nat_tests) in
    rw (letter, inner.1) within
