-- Names, words and semicolons that are read stand in front of the tokens.
use Rattle.std.proofs.Common.{◌≡◌, ℕ, Bool, true, false, List, ◌∷◌, ◌++◌, cond, bytes_eq, Option, None, Some, sym, ◌∙◌, ap, subst, refl, append_assoc, rules}
use Rattle.std.proofs.lemmas.Option.{none-some, same_Some}
use Rattle.std.proofs.lemmas.Slice.Eq.{bytes_eq-Decides}
use Rattle.pec_text.specs.declared.token.Sign.TheVariants as s
use Rattle.pec_text.specs.declared.token.Token.{Token}
use Rattle.pec_text.specs.declared.token.Token.TheVariants as t
use Rattle.program_reader.specs.Read.{and_next}
use Rattle.program_reader.proofs.ReadSteps.{next_some}
use Rattle.rule_reader.specs.Front.{name_read, two_names_read, at_semicolon}
use Rattle.rule_reader.specs.ConditionReading.{where_some}

-- one part behind another
pub joined : (front middle last tokens rest : List Token) → tokens ≡ front ++ rest → rest ≡ middle ++ last → tokens ≡ (front ++ middle) ++ last
joined front middle last tokens rest first next = first ∙ ap (λ z. front ++ z) next ∙ sym (append_assoc front middle last)

pub name_has : (tokens : List Token) (q : List ℕ × List Token) → name_read tokens ≡ Some q → tokens ≡ t.Name q.0 ∷ q.1
name_has (t.Name x ∷ rest) q h = ap (λ z. t.Name z.0 ∷ z.1) (same_Some (x, rest) q h)
name_has _ q h = absurd (none-some _ h)

pub two_names_have : (tokens : List Token) (q : (List ℕ × List ℕ) × List Token) → two_names_read tokens ≡ Some q → tokens ≡ t.Name q.0.0 ∷ t.Name q.0.1 ∷ q.1
two_names_have tokens q h =
    let m = next_some (name_read tokens) (λ x rest. and_next (name_read rest) (λ y rest. Some ((x, y), rest))) q h in
    let n = next_some (name_read m.0.1) (λ y rest. Some ((m.0.0, y), rest)) q m.2 in
    name_has tokens m.0 m.1 ∙ ap (λ z. t.Name m.0.0 ∷ z) (name_has m.0.1 n.0 n.1) ∙ ap (λ z. t.Name z.0.0 ∷ t.Name z.0.1 ∷ z.1) (same_Some ((m.0.0, n.0.0), n.0.1) q n.2)

pub semicolon_has : {A : Type 0} (a : A) (tokens : List Token) (p : A × List Token) → at_semicolon a tokens ≡ Some p → (tokens ≡ t.Sign s.Semicolon ∷ p.1) × (a ≡ p.0)
semicolon_has a (t.Sign s.Semicolon ∷ rest) p h = let same = same_Some (a, rest) p h in (ap (λ z. t.Sign s.Semicolon ∷ z.1) same, ap (λ z. z.0) same)
semicolon_has a _ p h = absurd (none-some _ h)

pub where_has : {A : Type 0} (o : Option A) (rest : List Token) (p : A × List Token) → where_some o rest ≡ Some p → (o ≡ Some p.0) × (rest ≡ p.1)
where_has None rest p h = absurd (none-some _ h)
where_has (Some a) rest p h = let same = same_Some (a, rest) p h in (ap (λ z. Some z.0) same, ap (λ z. z.1) same)

-- ---- words
pub same_bytes : (x y : List ℕ) → bytes_eq x y ≡ true → x ≡ y
same_bytes x y h = search (rules, bytes_eq-Decides)

word_by : {A : Type 0} (P : List ℕ → A → Type 0) (x word : List ℕ) (a f : A) (other : Option A) (b : Bool) → bytes_eq x word ≡ b → P word a → (other ≡ Some f → P x f)
    → cond b (Some a) other ≡ Some f → P x f
word_by P x word a f other true e is others h = subst (λ z. P z f) (sym (same_bytes x word e)) (subst (P word) (same_Some a f h) is)
word_by P x word a f other false e is others h = others h

-- what holds of a word and what it stands for, and of the words that follow in a table
pub word_case : {A : Type 0} (P : List ℕ → A → Type 0) (x word : List ℕ) (a f : A) (other : Option A) → P word a → (other ≡ Some f → P x f)
    → cond (bytes_eq x word) (Some a) other ≡ Some f → P x f
word_case P x word a f other is others h = word_by P x word a f other (bytes_eq x word) refl is others h
