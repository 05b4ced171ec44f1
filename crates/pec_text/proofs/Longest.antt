-- No lexeme at the front of a text is longer than one that ends where its token ends.
use Rattle.std.proofs.Common.{◌≡◌, ◌⊎◌, inl, inr, ℕ, ◌<◌, ◌≤◌, Bool, true, false, List, [], ◌∷◌, ◌++◌, length, slice_index, refl, sym, ap, ◌∙◌, subst, arith, length-append}
use Rattle.std.specs.Char.{is_ascii_alphabetic, is_ascii_digit}
use Rattle.std.specs.List.{list_all}
use Rattle.std.proofs.lemmas.Bool.{false≢true}
use Rattle.pec_text.specs.declared.token.Sign.{Sign}
use Rattle.pec_text.specs.declared.token.Sign.TheVariants as s
use Rattle.pec_text.specs.declared.token.Token.{Token}
use Rattle.pec_text.specs.declared.token.Token.TheVariants as t
use Rattle.pec_text.specs.Byte.{is_id_byte}
use Rattle.pec_text.specs.Spelling.{sign_text, IsLexeme, sign_goes_on, goes_on, StopsBefore, TakesLongest}
use Rattle.pec_text.specs.Scanning.{is_before_equals}
use Rattle.pec_text.proofs.FirstTokens.{digit_no_letter, begins_by_letter, begins_by_digit, first_digit}
use Rattle.pec_text.proofs.Gaps.{sign_has_byte}
use Rattle.pec_text.proofs.Ids.{run_of_id}
use Rattle.pec_text.proofs.Runs.{both_true}
use Rattle.pec_text.proofs.Tables.{reserved_text}

-- One of two fronts of a text is no longer than the other, or goes on with a byte that stands behind the other.
record GoesBeyond (lexeme rest front : List ℕ) : Type 0 where
  byte : ℕ
  more : List ℕ
  tail : List ℕ
  behind : rest ≡ byte ∷ more
  longer : front ≡ lexeme ++ (byte ∷ tail)

fronts : (lexeme rest front behind : List ℕ) → lexeme ++ rest ≡ front ++ behind → (length front ≤ length lexeme) ⊎ GoesBeyond lexeme rest front
fronts lexeme rest [] behind e = inl (omega arith)
fronts [] rest (byte ∷ front) behind e = inr (record { byte = byte; more = front ++ behind; tail = front; behind = e; longer = refl })
fronts (first ∷ lexeme) rest (byte ∷ front) behind e =
    let same : first ≡ byte = cc in
    elim (fronts lexeme rest front behind cc) [
      | inl short ↦ inl (omega arith)
      | inr beyond ↦ inr (record { byte = beyond.byte; more = beyond.more; tail = beyond.tail; behind = beyond.behind; longer = ap (λ front. byte ∷ front) beyond.longer ∙ ap (λ byte. byte ∷ (lexeme ++ (beyond.byte ∷ beyond.tail))) (sym same) })
    ]

-- ---- what the first byte says of a lexeme

sign_no_letter : (sign : Sign) → is_ascii_alphabetic (slice_index (sign_text sign) 0) ≡ false
sign_no_letter sign = elim sign as (λ sign. is_ascii_alphabetic (slice_index (sign_text sign) 0) ≡ false) [ s.Less ↦ refl | _ ↦ refl ]

sign_no_digit : (sign : Sign) → is_ascii_digit (slice_index (sign_text sign) 0) ≡ false
sign_no_digit sign = elim sign as (λ sign. is_ascii_digit (slice_index (sign_text sign) 0) ≡ false) [ s.Less ↦ refl | _ ↦ refl ]

run_by_letter : (front : List ℕ) (other : Token) → IsLexeme front other → is_ascii_alphabetic (slice_index front 0) ≡ true → list_all is_id_byte front ≡ true
run_by_letter front (t.Name name) is letter = (run_of_id front is.0.id).run
run_by_letter front (t.Word reserved) is letter = rw is (reserved_text reserved).run
run_by_letter front (t.Number numeral) is letter =
    absurd (false≢true (sym (digit_no_letter (slice_index front 0) (first_digit front is.0.some is.0.digits)) ∙ letter))
run_by_letter front (t.Sign sign) is letter = absurd (false≢true (sym (sign_no_letter sign) ∙ (ap (λ front. is_ascii_alphabetic (slice_index front 0)) (sym is) ∙ letter)))

digits_by_digit : (front : List ℕ) (other : Token) → IsLexeme front other → is_ascii_digit (slice_index front 0) ≡ true → list_all is_ascii_digit front ≡ true
digits_by_digit front (t.Name name) is digit = absurd (false≢true (sym (digit_no_letter (slice_index front 0) digit) ∙ (run_of_id front is.0.id).letter))
digits_by_digit front (t.Word reserved) is digit =
    absurd (false≢true (sym (digit_no_letter (slice_index front 0) digit) ∙ (ap (λ front. is_ascii_alphabetic (slice_index front 0)) is ∙ (reserved_text reserved).letter)))
digits_by_digit front (t.Number numeral) is digit = is.0.digits
digits_by_digit front (t.Sign sign) is digit = absurd (false≢true (sym (sign_no_digit sign) ∙ (ap (λ front. is_ascii_digit (slice_index front 0)) (sym is) ∙ digit)))

-- ---- a longer front is no lexeme

begins_alike : (lexeme tail : List ℕ) (byte : ℕ) → 0 < length lexeme → slice_index (lexeme ++ (byte ∷ tail)) 0 ≡ slice_index lexeme 0
begins_alike [] tail byte some = absurd (omega arith)
begins_alike (first ∷ lexeme) tail byte some = refl

inside_passes : (p : ℕ → Bool) (lexeme tail : List ℕ) (byte : ℕ) → list_all p (lexeme ++ (byte ∷ tail)) ≡ true → p byte ≡ true
inside_passes p [] tail byte h = (both_true (p byte) (list_all p tail) h).0
inside_passes p (first ∷ lexeme) tail byte h = inside_passes p lexeme tail byte (both_true (p first) (list_all p (lexeme ++ (byte ∷ tail))) h).1

no_longer : (lexeme tail : List ℕ) (byte n : ℕ) → 0 < length lexeme → n ≡ 1 → n ≡ length (lexeme ++ (byte ∷ tail)) → ⊥
no_longer lexeme tail byte n some one is = omega (arith, length-append lexeme (byte ∷ tail))

-- where a sign is the front of one that ends with `=`, it goes on with `=`
front_of_two : (sign : Sign) (first byte : ℕ) (tail : List ℕ) → is_before_equals first ≡ true → first ∷ 61 ∷ [] ≡ sign_text sign ++ (byte ∷ tail) → sign_goes_on sign byte ≡ true
front_of_two s.Less first byte tail before e = let is : byte ≡ 61 = cc in rw is refl
front_of_two s.Equals first byte tail before e = let is : byte ≡ 61 = cc in rw is refl
front_of_two s.Assign first byte tail before e = absurd cc
front_of_two s.LessEq first byte tail before e = absurd cc
front_of_two s.DoubleEquals first byte tail before e = absurd cc
front_of_two sign first byte tail before e = absurd (false≢true (sym (ap (λ front. is_before_equals (slice_index front 0)) e) ∙ before))

front_of_sign : (sign other : Sign) (byte : ℕ) (tail : List ℕ) → sign_text other ≡ sign_text sign ++ (byte ∷ tail) → sign_goes_on sign byte ≡ true
front_of_sign sign s.Assign byte tail e = front_of_two sign 58 byte tail refl e
front_of_sign sign s.LessEq byte tail e = front_of_two sign 60 byte tail refl e
front_of_sign sign s.DoubleEquals byte tail e = front_of_two sign 61 byte tail refl e
front_of_sign sign other byte tail e = absurd (no_longer (sign_text sign) tail byte (length (sign_text other)) (sign_has_byte sign) refl (ap length e))

sign_by_sign : (sign : Sign) (other : Token) (byte : ℕ) (tail : List ℕ) → IsLexeme (sign_text sign ++ (byte ∷ tail)) other → sign_goes_on sign byte ≡ true
sign_by_sign sign (t.Name name) byte tail is =
    absurd (false≢true (sym (sign_no_letter sign) ∙ (ap is_ascii_alphabetic (sym (begins_alike (sign_text sign) tail byte (sign_has_byte sign))) ∙ (run_of_id (sign_text sign ++ (byte ∷ tail)) is.0.id).letter)))
sign_by_sign sign (t.Word reserved) byte tail is =
    absurd (false≢true (sym (sign_no_letter sign) ∙ (ap is_ascii_alphabetic (sym (begins_alike (sign_text sign) tail byte (sign_has_byte sign)))
    ∙ (ap (λ front. is_ascii_alphabetic (slice_index front 0)) is ∙ (reserved_text reserved).letter))))
sign_by_sign sign (t.Number numeral) byte tail is =
    absurd (false≢true (sym (sign_no_digit sign) ∙ (ap is_ascii_digit (sym (begins_alike (sign_text sign) tail byte (sign_has_byte sign))) ∙ first_digit (sign_text sign ++ (byte ∷ tail)) is.0.some is.0.digits)))
sign_by_sign sign (t.Sign other) byte tail is = front_of_sign sign other byte tail (sym is)

-- A lexeme that goes beyond another goes on with what that token goes on with.
goes_on_inside : (lexeme tail : List ℕ) (byte : ℕ) (token other : Token) → IsLexeme lexeme token → IsLexeme (lexeme ++ (byte ∷ tail)) other → goes_on token byte ≡ true
goes_on_inside lexeme tail byte (t.Name name) other is longer =
    let id = run_of_id lexeme is.0.id in
    inside_passes is_id_byte lexeme tail byte (run_by_letter (lexeme ++ (byte ∷ tail)) other longer (begins_by_letter lexeme (byte ∷ tail) id.letter))
goes_on_inside lexeme tail byte (t.Word reserved) other is longer =
    let letter = ap (λ lexeme. is_ascii_alphabetic (slice_index lexeme 0)) is ∙ (reserved_text reserved).letter in
    inside_passes is_id_byte lexeme tail byte (run_by_letter (lexeme ++ (byte ∷ tail)) other longer (begins_by_letter lexeme (byte ∷ tail) letter))
goes_on_inside lexeme tail byte (t.Number numeral) other is longer =
    inside_passes is_ascii_digit lexeme tail byte (digits_by_digit (lexeme ++ (byte ∷ tail)) other longer (begins_by_digit lexeme (byte ∷ tail) (first_digit lexeme is.0.some is.0.digits)))
goes_on_inside lexeme tail byte (t.Sign sign) other is longer =
    sign_by_sign sign other byte tail (subst (λ lexeme. IsLexeme (lexeme ++ (byte ∷ tail)) other) is longer)

pub takes_longest : TakesLongest
takes_longest lexeme rest front behind token other is stops is_other e =
    elim (fronts lexeme rest front behind e) [
      | inl short ↦ short
      | inr beyond ↦
          let stops_at : goes_on token beyond.byte ≡ false = subst (StopsBefore (goes_on token)) beyond.behind stops in
          let passes = goes_on_inside lexeme beyond.tail beyond.byte token other is (subst (λ front. IsLexeme front other) beyond.longer is_other) in
          absurd (false≢true (sym stops_at ∙ passes))
    ]
