-- The value of digits that is read from the left and stands still at the greatest u64.
use Rattle.std.proofs.Common.{◌≡◌, ℕ, ◌+◌, ◌-◌, ◌*◌, ◌^◌, ◌<◌, min, true, List, length, take, get_or, arith}
use Rattle.std.specs.Char.{is_ascii_digit}
use Rattle.std.specs.Int.{IsInRange}
use Rattle.std.specs.List.{list_all}
use Rattle.std.specs.Str.Parse.{digits_value}
use Rattle.std.proofs.lemmas.Int.Digits.{digits_value_more}
use Rattle.std.proofs.lemmas.Str.{digit_value_digit}
use Rattle.std.proofs.lemmas.Str.Parse.{IsDigitsTest, IsNumeralModel, numerals_by_value, digit_at}
use Rattle.std.proofs.Common.{rules}

tells_digits : IsDigitsTest (λ digits. list_all is_ascii_digit digits ≡ true)
tells_digits = search rules

own : IsNumeralModel (λ digits. list_all is_ascii_digit digits ≡ true) (digits_value 10)
own = numerals_by_value _ tells_digits

-- each of the digits is one
pub digit_of : (digits : List ℕ) (i : ℕ) → list_all is_ascii_digit digits ≡ true → i < length digits → IsInRange 48 57 (get_or digits i 0)
digit_of digits i all within = digit_at digits i (own.to digits all) within

abbrev greatest : ℕ
greatest = 2 ^ 64 - 1

pub one_more_digit : (digits : List ℕ) (i value : ℕ) → list_all is_ascii_digit digits ≡ true → i < length digits
    → value ≡ min (digits_value 10 (take i digits)) (2 ^ 64 - 1)
    → min (min (value * 10) (2 ^ 64 - 1) + (get_or digits i 0 - 48)) (2 ^ 64 - 1) ≡ min (digits_value 10 (take (i + 1) digits)) (2 ^ 64 - 1)
one_more_digit digits i value all within so_far =
    let range = digit_of digits i all within in
    let is = digit_value_digit (get_or digits i 0) range in
    omega (arith, digits_value_more 10 digits i within)
