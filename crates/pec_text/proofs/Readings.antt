-- Reading token by token: what was found so far, with what the rest spells, is just what the text spells.
use Rattle.std.proofs.Common.{◌≡◌, ℕ, ◌<◌, true, List, [], ◌∷◌, ◌++◌, length, Option, Some, None, refl, sym, ap, ◌∙◌, subst, arith}
use Rattle.std.specs.List.{list_all}
use Rattle.std.proofs.lemmas.Bool.{false≢true}
use Rattle.std.proofs.lemmas.List.{append_assoc, append-nil, nil_from_length}
use Rattle.pec_text.specs.declared.token.Token.{Token}
use Rattle.pec_text.specs.Spelling.{is_gap_byte, StopsBefore, Begins, Spells, OneReading}
use Rattle.pec_text.specs.Scanning.{after_gap, first_token, sign_at, sign_len, sign_token, sign_of}
use Rattle.pec_text.proofs.FirstTokens.{reads_word_of}
use Rattle.pec_text.proofs.Runs.{both_true}
use Rattle.pec_text.proofs.ReadTokens.{begins_with_read}
use Rattle.pec_text.proofs.Gaps.{begins_at_once, begins_shortens, after_gap_stops, spells_after_gap, spells_before_gap}

no_shorter : {n : ℕ} → n < 0 → ⊥
no_shorter h = omega arith

-- A text that begins with a token, and with no gap, is read so.
read_of_begins : (text rest : List ℕ) (token : Token) → StopsBefore is_gap_byte text → Begins text token rest → first_token text ≡ Some (token, rest)
read_of_begins text rest token stops begins =
    let at = begins_at_once text rest token stops begins in ap first_token at.1 ∙ reads_word_of at.0 rest token at.2 at.3

-- nothing is read at the end
nothing_read : first_token [] ≡ None
unfolding first_token sign_at sign_len sign_token sign_of
nothing_read = refl

gap_is_empty : (text : List ℕ) → StopsBefore is_gap_byte text → list_all is_gap_byte text ≡ true → text ≡ []
gap_is_empty [] stops gap_bytes = refl
gap_is_empty (byte ∷ text) stops gap_bytes = absurd (false≢true (sym stops ∙ (both_true (is_gap_byte byte) (list_all is_gap_byte text) gap_bytes).0))

same_read : {token other : Token} {rest behind : List ℕ} → ◌≡◌ {A = Option (Token × List ℕ)} (Some (token, rest)) (Some (other, behind)) → (token ≡ other) × (rest ≡ behind)
same_read {token} {other} {rest} {behind} h =
    let same : ◌≡◌ {A = Token × List ℕ} (token, rest) (other, behind) = cc in (ap (λ pair. pair.0) same, ap (λ pair. pair.1) same)

-- a token, and the tokens that the text behind it spells
abbrev pub IsFirstOf : Token → List ℕ → List Token → Type 0
IsFirstOf token rest tokens = (more : List Token) × (tokens ≡ token ∷ more) × Spells rest more

-- What a text spells begins with the token that is read at its front.
first_of_spelled : (text rest : List ℕ) (token : Token) (tokens : List Token) → StopsBefore is_gap_byte text → first_token text ≡ Some (token, rest) → Spells text tokens → IsFirstOf token rest tokens
first_of_spelled text rest token [] stops read gap_bytes = let e = sym read ∙ (ap first_token (gap_is_empty text stops gap_bytes) ∙ nothing_read) in absurd cc
first_of_spelled text rest token (first ∷ more) stops read spelled =
    let same = same_read (sym read ∙ read_of_begins text spelled.0 first stops spelled.1) in
    (more, ap (λ token. token ∷ more) (sym same.0), subst (λ rest. Spells rest more) (sym same.1) spelled.2)

-- What was found in a text before the rest: with what the rest spells it is spelled by the text, and the text spells nothing else.
pub record IsReadUpTo (bytes : List ℕ) (found : List Token) (rest : List ℕ) : Type 0 where
  pub stops : StopsBefore is_gap_byte rest
  pub goes_on : (more : List Token) → Spells rest more → Spells bytes (found ++ more)
  pub nothing_else : (tokens : List Token) → Spells bytes tokens → (more : List Token) × (tokens ≡ found ++ more) × Spells rest more

pub read_none : (bytes : List ℕ) → IsReadUpTo bytes [] (after_gap bytes)
read_none bytes = record {
  stops = after_gap_stops bytes;
  goes_on = λ more spelled. spells_before_gap bytes more spelled;
  nothing_else = λ tokens spelled. (tokens, refl, spells_after_gap bytes tokens spelled);
}

pub read_more : (bytes rest behind : List ℕ) (found : List Token) (token : Token) → IsReadUpTo bytes found rest → first_token rest ≡ Some (token, behind)
    → IsReadUpTo bytes (found ++ (token ∷ [])) (after_gap behind)
read_more bytes rest behind found token so_far read = record {
  stops = after_gap_stops behind;
  goes_on = λ more spelled. rw (append_assoc found (token ∷ []) more) (so_far.goes_on (token ∷ more) (behind, begins_with_read rest token behind read, spells_before_gap behind more spelled));
  nothing_else = λ tokens spelled.
      let up_to = so_far.nothing_else tokens spelled in
      let first = first_of_spelled rest behind token up_to.0 so_far.stops read up_to.2 in
      (first.0, up_to.1 ∙ (ap (λ more. found ++ more) first.1 ∙ sym (append_assoc found (token ∷ []) first.0)), spells_after_gap behind first.0 first.2);
}

pub read_all : (bytes rest : List ℕ) (found : List Token) → IsReadUpTo bytes found rest → length rest ≡ 0 → Spells bytes found
read_all bytes rest found so_far end = rw (← append-nil found) (so_far.goes_on [] (rw (nil_from_length rest end) refl))

-- The end of a text spells no token.
end_spells : (tokens : List Token) → Spells [] tokens → tokens ≡ []
end_spells [] spelled = refl
end_spells (token ∷ tokens) spelled = absurd (no_shorter (begins_shortens [] spelled.0 token spelled.1))

pub read_all_only : (bytes rest : List ℕ) (found others : List Token) → IsReadUpTo bytes found rest → length rest ≡ 0 → Spells bytes others → others ≡ found
read_all_only bytes rest found others so_far end spelled =
    let up_to = so_far.nothing_else others spelled in
    let none = end_spells up_to.0 (subst (λ rest. Spells rest up_to.0) (nil_from_length rest end) up_to.2) in
    up_to.1 ∙ (ap (λ more. found ++ more) none ∙ append-nil found)

-- Where no token is read before the end, nothing is spelled.
nothing_spelled : (rest : List ℕ) (tokens : List Token) → StopsBefore is_gap_byte rest → 0 < length rest → first_token rest ≡ None → Spells rest tokens → ⊥
nothing_spelled rest [] stops some read gap_bytes = no_shorter (rw (ap length (gap_is_empty rest stops gap_bytes)) at some)
nothing_spelled rest (token ∷ tokens) stops some read spelled = let e = sym read ∙ read_of_begins rest spelled.0 token stops spelled.1 in cc

pub read_refused : (bytes rest : List ℕ) (found : List Token) → IsReadUpTo bytes found rest → 0 < length rest → first_token rest ≡ None → (tokens : List Token) → Spells bytes tokens → ⊥
read_refused bytes rest found so_far some read tokens spelled =
    let up_to = so_far.nothing_else tokens spelled in nothing_spelled rest up_to.0 so_far.stops some read up_to.2

-- the rest behind the token that is read is shorter
pub read_shortens : (text rest : List ℕ) (token : Token) → first_token text ≡ Some (token, rest) → length rest < length text
read_shortens text rest token read = begins_shortens text rest token (begins_with_read text token rest read)

-- One text spells at most one list of tokens.
one_from_front : (text : List ℕ) (tokens others : List Token) → StopsBefore is_gap_byte text → Spells text tokens → Spells text others → tokens ≡ others
one_from_front text [] others stops gap_bytes spelled = sym (end_spells others (subst (λ text. Spells text others) (gap_is_empty text stops gap_bytes) spelled))
one_from_front text (token ∷ tokens) others stops spelled other =
    let first = first_of_spelled text spelled.0 token others stops (read_of_begins text spelled.0 token stops spelled.1) other in
    let rest = one_from_front (after_gap spelled.0) tokens first.0 (after_gap_stops spelled.0) (spells_after_gap spelled.0 tokens spelled.2) (spells_after_gap spelled.0 first.0 first.2) in
    ap (λ more. token ∷ more) rest ∙ sym first.1

pub one_reading : OneReading
one_reading bytes tokens others spelled other =
    one_from_front (after_gap bytes) tokens others (after_gap_stops bytes) (spells_after_gap bytes tokens spelled) (spells_after_gap bytes others other)
