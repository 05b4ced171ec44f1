-- Tables of words and signs: what they have for bytes is what is spelled so.
use Rattle.std.proofs.Common.{◌≡◌, ◌≢◌, ℕ, true, List, [], ◌∷◌, map, slice_index, Some, None, refl, sym, ap, ◌∙◌, inl, inr}
use Rattle.std.specs.Char.{is_ascii_alphabetic}
use Rattle.std.specs.List.{list_all}
use Rattle.std.specs.Str.{bytes_eq}
use Rattle.std.proofs.lemmas.Slice.Eq.{bytes_eq-Decides}
use Rattle.pec_text.specs.declared.token.Sign.{Sign}
use Rattle.pec_text.specs.declared.token.Sign.TheVariants as s
use Rattle.pec_text.specs.declared.token.Word.{Word}
use Rattle.pec_text.specs.declared.token.Word.TheVariants as w
use Rattle.pec_text.specs.Byte.{is_id_byte}
use Rattle.pec_text.specs.Spelling.{word_text, sign_text}
use Rattle.pec_text.specs.Scanning.{lookup, words, signs, reserved_of, sign_of}
use Rattle.pec_text.proofs.Runs.{chosen}

module _ {A : Type 0} (text : A → List ℕ) where
  lookup_is : (items : List A) (lexeme : List ℕ) (item : A) → lookup (map (λ a. (text a, a)) items) lexeme ≡ Some item → lexeme ≡ text item
  lookup_is [] lexeme item h = cc
  lookup_is (first ∷ items) lexeme item h =
      elim (chosen (bytes_eq (text first) lexeme) (Some first) (lookup (map (λ a. (text a, a)) items) lexeme) (Some item) h) [
        | inl found ↦ let same : first ≡ item = (let e = found.1 in cc) in sym ((bytes_eq-Decides (text first) lexeme).0 found.0) ∙ ap text same
        | inr other ↦ lookup_is items lexeme item other.1
      ]

pub reserved_is : (lexeme : List ℕ) (reserved : Word) → reserved_of lexeme ≡ Some reserved → lexeme ≡ word_text reserved
unfolding reserved_of
reserved_is lexeme reserved h = lookup_is word_text words lexeme reserved h

pub sign_is : (lexeme : List ℕ) (sign : Sign) → sign_of lexeme ≡ Some sign → lexeme ≡ sign_text sign
unfolding sign_of
sign_is lexeme sign h = lookup_is sign_text signs lexeme sign h

-- what holds of the bytes of each reserved word
pub record IsReservedText (reserved : Word) : Type 0 where
  pub letter : is_ascii_alphabetic (slice_index (word_text reserved) 0) ≡ true
  pub run : list_all is_id_byte (word_text reserved) ≡ true
  pub found : reserved_of (word_text reserved) ≡ Some reserved

pub reserved_text : (reserved : Word) → IsReservedText reserved
unfolding reserved_of
reserved_text reserved = elim reserved as IsReservedText [ w.Skip ↦ record { letter = refl; run = refl; found = refl } | _ ↦ record { letter = refl; run = refl; found = refl } ]

pub sign_found : (sign : Sign) → sign_of (sign_text sign) ≡ Some sign
unfolding sign_of
sign_found sign = elim sign as (λ sign. sign_of (sign_text sign) ≡ Some sign) [ s.Less ↦ refl | _ ↦ refl ]

-- bytes that are no reserved word
pub reserved_none : (lexeme : List ℕ) → ((reserved : Word) → lexeme ≢ word_text reserved) → reserved_of lexeme ≡ None
reserved_none lexeme free =
    elim (reserved_of lexeme) as (λ found. reserved_of lexeme ≡ found → reserved_of lexeme ≡ None) [
      | None ↦ λ e. e
      | Some reserved ↦ λ e. absurd (free reserved (reserved_is lexeme reserved e))
    ] refl

pub reserved_free : (lexeme : List ℕ) → reserved_of lexeme ≡ None → (reserved : Word) → lexeme ≢ word_text reserved
reserved_free lexeme none reserved is = let e = sym (ap reserved_of is ∙ (reserved_text reserved).found) ∙ none in cc
