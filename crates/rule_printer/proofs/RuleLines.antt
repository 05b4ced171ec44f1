-- Pieces that end a line with its line feed, and lines one after another.
use Rattle.std.proofs.Common.{ℕ, List, [], ◌∷◌, ◌++◌, codes, refl, sym, subst}
use Rattle.std.proofs.lemmas.List.{append_assoc, append-nil}
use Rattle.pec_text.specs.declared.token.Sign.TheVariants as s
use Rattle.pec_text.specs.declared.token.Token.{Token}
use Rattle.pec_text.specs.declared.token.Token.TheVariants as t
use Rattle.pec_text.proofs.Runs.{stops_never}
use Rattle.rule_printer.proofs.WrittenLines.{AreLines, IsWriting, can_end-with, writing-lines, whole-nothing, whole-append, semicolon}
use Rattle.rule_printer.proofs.Laying.{Lays, Anything, Piece, Lines, lays-append, gap_lays, sign_laid}
use Rattle.rule_printer.proofs.BlockLaid.{BlockLaid}

-- the bytes spell the tokens, and behind a line that is being written leave whole lines
pub record Closing (bytes : List ℕ) (tokens : List Token) : Type 0 where
  pub lays : Lays Anything bytes tokens
  pub closes : (before : List ℕ) → IsWriting before → AreLines (before ++ bytes)

pub then_close : {P : List ℕ → Type 0} {a b : List ℕ} {ts us : List Token} → Piece P a ts → Closing b us → ((rest : List ℕ) → P (b ++ rest)) → Closing (a ++ b) (ts ++ us)
then_close {P} {a} {b} {ts} {us} x y fits = record {
  lays = lays-append P Anything a b ts us x.lays y.lays (λ rest _. fits rest);
  closes = λ before w. subst AreLines (append_assoc before a b) (y.closes (before ++ a) (x.on before w));
}

pub close_then : {a b : List ℕ} {ts us : List Token} → Closing a ts → Lines b us → Closing (a ++ b) (ts ++ us)
close_then {a} {b} {ts} {us} x y = record {
  lays = lays-append Anything Anything a b ts us x.lays y.lays (λ rest _. tt);
  closes = λ before w. subst AreLines (append_assoc before a b) (y.whole (before ++ a) (x.closes before w));
}

pub as_lines : {a : List ℕ} {ts : List Token} → Closing a ts → Lines a ts
as_lines x = record { lays = x.lays; whole = λ before l. x.closes before (writing-lines before l) }

pub lines_then : {a b : List ℕ} {ts us : List Token} → Lines a ts → Lines b us → Lines (a ++ b) (ts ++ us)
lines_then {a} {b} {ts} {us} x y = record { lays = lays-append Anything Anything a b ts us x.lays y.lays (λ rest _. tt); whole = whole-append a b x.whole y.whole }

pub no_lines : Lines [] []
no_lines = record { lays = gap_lays [] refl; whole = whole-nothing }

pub closed : Closing (codes ";\n") (t.Sign s.Semicolon ∷ [])
closed = record {
  lays = lays-append Anything Anything (codes ";") (codes "\n") (t.Sign s.Semicolon ∷ []) [] ((sign_laid s.Semicolon refl stops_never).lays) (gap_lays (codes "\n") refl) (λ rest _. tt);
  closes = can_end-with 59 semicolon;
}

pub block_closed : {a : List ℕ} {ts : List Token} → BlockLaid a ts → Closing (a ++ codes "\n") ts
block_closed {a} {ts} x = record {
  lays = subst (Lays Anything (a ++ codes "\n")) (append-nil ts) (lays-append Anything Anything a (codes "\n") ts [] x.lays (gap_lays (codes "\n") refl) (λ rest _. tt));
  closes = x.ends;
}

-- three pieces, of which the first two belong together
pub close_grouped : (a b c : List ℕ) (ts us vs : List Token) → Closing (a ++ (b ++ c)) (ts ++ (us ++ vs)) → Closing ((a ++ b) ++ c) ((ts ++ us) ++ vs)
close_grouped a b c ts us vs x = subst (λ z. Closing z ((ts ++ us) ++ vs)) (sym (append_assoc a b c)) (subst (Closing (a ++ (b ++ c))) (sym (append_assoc ts us vs)) x)
