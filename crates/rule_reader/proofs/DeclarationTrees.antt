-- What is read as declarations has derivation trees, and the tokens of declarations are read as their parameters.
use Rattle.std.proofs.Common.{◌≡◌, ℕ, ◌<◌, true, false, List, [], ◌∷◌, ◌++◌, map, flat_map, length, Some, sym, ◌∙◌, ap, subst, refl, append_assoc, arith}
use Rattle.std.proofs.lemmas.Option.{none-some, same_Some}
use Rattle.toy_imp.specs.declared.param.Kind.{Kind}
use Rattle.toy_imp.specs.declared.param.Kind.TheVariants as kind
use Rattle.toy_imp.specs.declared.param.Param.{Param}
use Rattle.toy_imp.specs.RuleGrammar.{Declaration, declared_by, params_value}
use Rattle.pec_text.specs.declared.token.Sign.TheVariants as s
use Rattle.pec_text.specs.declared.token.Token.{Token}
use Rattle.pec_text.specs.declared.token.Token.TheVariants as t
use Rattle.pec_text.specs.declared.token.Word.TheVariants as w
use Rattle.program_reader.specs.Read.{and_next}
use Rattle.program_reader.specs.RuleTokens.{kind_word, declaration_tokens}
use Rattle.program_reader.proofs.ReadSteps.{next_some}
use Rattle.rule_reader.specs.Front.{valued, name_read}
use Rattle.rule_reader.specs.DeclarationReading.{kind_read, is_some, is_declared, names_read, declaration_of, declared_read, declaration_read, params_read}
use Rattle.rule_reader.proofs.FrontTrees.{name_has}
use Rattle.rule_reader.proofs.ItemTrees.{valued_some, HasTree, HasTrees, items_have, all_items_are_read}

-- ---- what is read stands in front
kind_has : (tokens : List Token) (q : Kind × List Token) → kind_read tokens ≡ Some q → tokens ≡ t.Word (kind_word q.0) ∷ q.1
kind_has (t.Word w.Name ∷ rest) q h = ap (λ z. t.Word (kind_word z.0) ∷ z.1) (same_Some (kind.Name, rest) q h)
kind_has (t.Word w.Expr ∷ rest) q h = ap (λ z. t.Word (kind_word z.0) ∷ z.1) (same_Some (kind.Expr, rest) q h)
kind_has (t.Word w.Test ∷ rest) q h = ap (λ z. t.Word (kind_word z.0) ∷ z.1) (same_Some (kind.Test, rest) q h)
kind_has (t.Word w.Stmt ∷ rest) q h = ap (λ z. t.Word (kind_word z.0) ∷ z.1) (same_Some (kind.Stmt, rest) q h)
kind_has _ q h = absurd (none-some _ h)

names_have : (tokens : List Token) (p : List (List ℕ) × List Token) → names_read tokens ≡ Some p → tokens ≡ map t.Name p.0 ++ (t.Sign s.Semicolon ∷ p.1)
unfolding names_read
names_have (t.Name x ∷ rest) p h =
    let m = valued_some (λ xs. x ∷ xs) (names_read rest) p h in
    ap (λ z. t.Name x ∷ z) (names_have rest m.0 m.1) ∙ ap (λ z. map t.Name z.0 ++ (t.Sign s.Semicolon ∷ z.1)) m.2
names_have (t.Sign s.Semicolon ∷ rest) p h = ap (λ z. map t.Name z.0 ++ (t.Sign s.Semicolon ∷ z.1)) (same_Some ([], rest) p h)
names_have _ p h = absurd (none-some _ h)

declared_has : (k : Kind) (tokens : List Token) (p : Declaration × List Token) → declared_read k tokens ≡ Some p → t.Word (kind_word k) ∷ tokens ≡ declaration_tokens p.0 ++ p.1
declared_has k tokens p h =
    let l = next_some (name_read tokens) (λ x rest. valued (declaration_of k x) (names_read rest)) p h in
    let m = valued_some (declaration_of k l.0.0) (names_read l.0.1) p l.2 in
    ap (λ z. t.Word (kind_word k) ∷ z) (name_has tokens l.0 l.1)
    ∙ ap (λ z. t.Word (kind_word k) ∷ t.Name l.0.0 ∷ z) (names_have l.0.1 m.0 m.1 ∙ sym (append_assoc (map t.Name m.0.0) (t.Sign s.Semicolon ∷ []) m.0.1))
    ∙ ap (λ z. declaration_tokens z.0 ++ z.1) m.2

declaration_has : (tokens : List Token) (p : Declaration × List Token) → declaration_read tokens ≡ Some p → tokens ≡ declaration_tokens p.0 ++ p.1
declaration_has tokens p h =
    let m = next_some (kind_read tokens) declared_read p h in
    kind_has tokens m.0 m.1 ∙ declared_has m.0.0 m.0.1 p m.2

params_of_one : (tokens : List Token) (p : List Param × List Token) → valued declared_by (declaration_read tokens) ≡ Some p → HasTree declaration_tokens declared_by tokens p
params_of_one tokens p h =
    let m = valued_some declared_by (declaration_read tokens) p h in
    subst (HasTree declaration_tokens declared_by tokens) m.2 (record { tree = m.0.0; in_front = declaration_has tokens m.0 m.1; value_is = refl })

pub params_have : (tokens : List Token) (p : List Param × List Token) → params_read tokens ≡ Some p → HasTrees declaration_tokens declared_by tokens p
unfolding params_read
params_have tokens p h = items_have declaration_tokens declared_by is_declared (λ rest. valued declared_by (declaration_read rest)) params_of_one (length tokens) tokens p h

-- ---- the tokens of declarations are read
kind_is_read : (k : Kind) (rest : List Token) → kind_read (t.Word (kind_word k) ∷ rest) ≡ Some (k, rest)
kind_is_read kind.Name rest = refl
kind_is_read kind.Expr rest = refl
kind_is_read kind.Test rest = refl
kind_is_read kind.Stmt rest = refl

names_are_read : (xs : List (List ℕ)) (rest : List Token) → names_read (map t.Name xs ++ (t.Sign s.Semicolon ∷ rest)) ≡ Some (xs, rest)
unfolding names_read
names_are_read [] rest = refl
names_are_read (x ∷ xs) rest = ap (valued (λ ys. x ∷ ys)) (names_are_read xs rest)

declaration_is_read : (d : Declaration) (rest : List Token) → declaration_read (declaration_tokens d ++ rest) ≡ Some (d, rest)
declaration_is_read d rest =
    let names : List Token = map t.Name d.others ++ (t.Sign s.Semicolon ∷ []) in
    ap (λ r. and_next r declared_read) (kind_is_read d.kind (t.Name d.first ∷ (names ++ rest)))
    ∙ ap (λ z. valued (declaration_of d.kind d.first) (names_read z)) (append_assoc (map t.Name d.others) (t.Sign s.Semicolon ∷ []) rest)
    ∙ ap (valued (declaration_of d.kind d.first)) (names_are_read d.others rest)

declaration_begins : (d : Declaration) (rest : List Token) → is_declared (declaration_tokens d ++ rest) ≡ true
declaration_begins d rest = ap is_some (kind_is_read d.kind (t.Name d.first ∷ ((map t.Name d.others ++ (t.Sign s.Semicolon ∷ [])) ++ rest)))

some_token : (d : Declaration) → 0 < length (declaration_tokens d)
some_token d = omega arith

pub params_are_read : (ds : List Declaration) (rest : List Token) → is_declared rest ≡ false → params_read (flat_map declaration_tokens ds ++ rest) ≡ Some (params_value ds, rest)
unfolding params_read
params_are_read ds rest ends =
    all_items_are_read declaration_tokens declared_by is_declared (λ rest. valued declared_by (declaration_read rest)) declaration_begins some_token
    (λ d rest. ap (valued declared_by) (declaration_is_read d rest)) ds rest ends
