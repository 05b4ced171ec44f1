-- The turns of the loops that read expressions, tests and statements: a recursion on a count of turns, beside a loop
-- that counts up. What was found stands in front of what is read of the rest.
use Rattle.std.proofs.Common.{◌≡◌, ℕ, suc, zero, ◌+◌, ◌-◌, ◌<◌, ◌≤◌, List, [], ◌∷◌, ◌++◌, None, Some, option_map, sym, ap, subst, ◌∙◌, refl, append_assoc, arith}
use Rattle.std.proofs.lemmas.Option.{none-some, same_Some}
use Rattle.toy_imp.specs.declared.param.Param.{Param}
use Rattle.toy_imp.specs.Expr.{Expr, mul}
use Rattle.toy_imp.specs.Test.{Test, and_of, or_of}
use Rattle.pec_text.specs.declared.token.Sign.{Sign}
use Rattle.pec_text.specs.declared.token.Sign.TheVariants as s
use Rattle.pec_text.specs.declared.token.Token.{Token}
use Rattle.pec_text.specs.declared.token.Token.TheVariants as t
use Rattle.pec_text.specs.declared.token.Word.TheVariants as w
use Rattle.program_reader.specs.Read.{Read, and_then}
use Rattle.program_reader.specs.ExprReading.{behind_index, indices_read, factor_read, products_read, term_read, sums_read}
use Rattle.program_reader.specs.TestReading.{ands_read, both_read, ors_read}
use Rattle.program_reader.specs.ExprParts.{sum_sign, joined}

pub one_more : {X : Type 0} {x : X} (f : ℕ → X) (n at : ℕ) → at < n → x ≡ f (n - at) → x ≡ f (suc (n - (at + 1)))
one_more f n at below e = let turn : n - at ≡ suc (n - (at + 1)) = omega arith in e ∙ ap f turn

pub no_more : {X : Type 0} {x : X} (f : ℕ → X) (n at : ℕ) → n ≤ at → x ≡ f (n - at) → x ≡ f 0
no_more f n at done e = let none : n - at ≡ 0 = omega arith in e ∙ ap f none

-- ---- parts with operators between them: `loop` reads what follows the parts found so far, one part with `one`, and
-- joins it to them. A turn reads an operator's token and a part.
abbrev pub Turns : {A : Type 0} (loop : ℕ → A → ℕ → List Token → Read A) (one : ℕ → List Token → Read A) (join : A → A → A) (token : Token) (found : A) (after : List Token) → Type 0
Turns loop one join token found after = (m j : ℕ) → loop (suc m) found (suc j) (token ∷ after) ≡ and_then (one j after) (λ e k rest. loop m (join found e) k rest)

pub turn : {A : Type 0} (loop : ℕ → A → ℕ → List Token → Read A) (one : ℕ → List Token → Read A) (join : A → A → A) (token : Token) (found : A) (rest after : List Token) (n at k : ℕ) (whole : Read A)
    → Turns loop one join token found after → at < n → (k ≡ 0 → ⊥) → rest ≡ token ∷ after → loop (n - at) found k rest ≡ whole
    → whole ≡ and_then (one (k - 1) after) (λ e k rest. loop (n - (at + 1)) (join found e) k rest)
turn loop one join token found rest after n at k whole law below some is inv =
    let turns : n - at ≡ suc (n - (at + 1)) = omega (arith, below) in
    let left : k ≡ suc (k - 1) = omega (arith, some) in
    sym inv ∙ ap (λ z. loop (n - at) found k z) is ∙ ap (λ z. loop z found k (token ∷ after)) turns ∙ ap (λ z. loop (suc (n - (at + 1))) found z (token ∷ after)) left
    ∙ law (n - (at + 1)) (k - 1)

pub turned : {A : Type 0} (loop : ℕ → A → ℕ → List Token → Read A) (one : ℕ → List Token → Read A) (join : A → A → A) (token : Token) (found next made : A) (rest after more : List Token) (n at k fewer : ℕ) (whole : Read A)
    → Turns loop one join token found after → at < n → (k ≡ 0 → ⊥) → rest ≡ token ∷ after → loop (n - at) found k rest ≡ whole
    → one (k - 1) after ≡ Some (next, fewer, more) → made ≡ join found next → loop (n - (at + 1)) made fewer more ≡ whole
turned loop one join token found next made rest after more n at k fewer whole law below some is inv read same =
    ap (λ z. loop (n - (at + 1)) z fewer more) same
    ∙ sym (turn loop one join token found rest after n at k whole law below some is inv ∙ ap (λ z. and_then z (λ e k rest. loop (n - (at + 1)) (join found e) k rest)) read)

pub unturned : {A : Type 0} (loop : ℕ → A → ℕ → List Token → Read A) (one : ℕ → List Token → Read A) (join : A → A → A) (token : Token) (found : A) (rest after : List Token) (n at k : ℕ) (whole : Read A)
    → Turns loop one join token found after → at < n → (k ≡ 0 → ⊥) → rest ≡ token ∷ after → loop (n - at) found k rest ≡ whole
    → one (k - 1) after ≡ None → whole ≡ None
unturned loop one join token found rest after n at k whole law below some is inv read =
    turn loop one join token found rest after n at k whole law below some is inv ∙ ap (λ z. and_then z (λ e k rest. loop (n - (at + 1)) (join found e) k rest)) read

-- ---- indices
abbrev pub with_indices : List Expr → Read (List Expr) → Read (List Expr)
with_indices found read = option_map (λ p. (found ++ p.0, p.1, p.2)) read

pub with_one_index : (found : List Expr) (e : Expr) (read : Read (List Expr))
    → with_indices found (and_then read (λ es k rest. Some (e ∷ es, k, rest))) ≡ with_indices (found ++ (e ∷ [])) read
with_one_index found e None = refl
with_one_index found e (Some p) = ap (λ z. Some (z, p.1, p.2)) (sym (append_assoc found (e ∷ []) p.0))

-- what the indices still to be read are, where one of them is read
pub index_turn : (inner : ℕ → List Token → Read Expr) (n at : ℕ) (found : List Expr) (e : Expr) (k fewer : ℕ) (rest more : List Token) (whole : Read (List Expr)) → at < n
    → with_indices found (indices_read inner (n - at) k rest) ≡ whole → inner k rest ≡ Some (e, fewer, more)
    → whole ≡ with_indices found (behind_index inner (λ k rest. indices_read inner (n - (at + 1)) k rest) e fewer more)
unfolding indices_read
index_turn inner n at found e k fewer rest more whole below inv read =
    let turns : n - at ≡ suc (n - (at + 1)) = omega (arith, below) in
    sym inv ∙ ap (λ z. with_indices found (indices_read inner z k rest)) turns
    ∙ ap (λ z. with_indices found (and_then z (behind_index inner (λ k rest. indices_read inner (n - (at + 1)) k rest)))) read

pub indices_end : (inner : ℕ → List Token → Read Expr) (n at : ℕ) (found all : List Expr) (e : Expr) (k fewer : ℕ) (rest more after : List Token) (whole : Read (List Expr)) → at < n
    → with_indices found (indices_read inner (n - at) k rest) ≡ whole → inner k rest ≡ Some (e, fewer, more) → all ≡ found ++ (e ∷ []) → more ≡ t.Sign s.CloseBracket ∷ after
    → whole ≡ Some (all, fewer, after)
indices_end inner n at found all e k fewer rest more after whole below inv read made is =
    index_turn inner n at found e k fewer rest more whole below inv read
    ∙ ap (λ z. with_indices found (behind_index inner (λ k rest. indices_read inner (n - (at + 1)) k rest) e fewer z)) is
    ∙ ap (λ z. Some (z, fewer, after)) (sym made)

pub indices_more : (inner : ℕ → List Token → Read Expr) (n at : ℕ) (found all : List Expr) (e : Expr) (k fewer : ℕ) (rest more after : List Token) (whole : Read (List Expr)) → at < n
    → with_indices found (indices_read inner (n - at) k rest) ≡ whole → inner k rest ≡ Some (e, fewer, more) → all ≡ found ++ (e ∷ []) → more ≡ t.Sign s.Comma ∷ after
    → with_indices all (indices_read inner (n - (at + 1)) fewer after) ≡ whole
indices_more inner n at found all e k fewer rest more after whole below inv read made is =
    ap (λ z. with_indices z (indices_read inner (n - (at + 1)) fewer after)) made
    ∙ sym (index_turn inner n at found e k fewer rest more whole below inv read
    ∙ ap (λ z. with_indices found (behind_index inner (λ k rest. indices_read inner (n - (at + 1)) k rest) e fewer z)) is
    ∙ with_one_index found e (indices_read inner (n - (at + 1)) fewer after))

behind_other : (inner : ℕ → List Token → Read Expr) (more : ℕ → List Token → Read (List Expr)) (e : Expr) (k : ℕ) (rest : List Token)
    → ((after : List Token) → ¬ (rest ≡ t.Sign s.CloseBracket ∷ after)) → ((after : List Token) → ¬ (rest ≡ t.Sign s.Comma ∷ after)) → behind_index inner more e k rest ≡ None
behind_other inner more e k (t.Sign s.CloseBracket ∷ after) close comma = absurd (close after refl)
behind_other inner more e k (t.Sign s.Comma ∷ after) close comma = absurd (comma after refl)
behind_other inner more e k _ close comma = refl

pub indices_other : (inner : ℕ → List Token → Read Expr) (n at : ℕ) (found : List Expr) (e : Expr) (k fewer : ℕ) (rest more : List Token) (whole : Read (List Expr)) → at < n
    → with_indices found (indices_read inner (n - at) k rest) ≡ whole → inner k rest ≡ Some (e, fewer, more)
    → ((after : List Token) → ¬ (more ≡ t.Sign s.CloseBracket ∷ after)) → ((after : List Token) → ¬ (more ≡ t.Sign s.Comma ∷ after))
    → whole ≡ None
indices_other inner n at found e k fewer rest more whole below inv read close comma =
    index_turn inner n at found e k fewer rest more whole below inv read
    ∙ ap (with_indices found) (behind_other inner (λ k rest. indices_read inner (n - (at + 1)) k rest) e fewer more close comma)

pub products_next : (ps : List Param) (inner : ℕ → List Token → Read Expr) (found : Expr) (after : List Token)
    → Turns (products_read ps inner) (factor_read ps inner) mul (t.Sign s.Star) found after
unfolding products_read
products_next ps inner found after = λ m j. refl

pub products_stop : (ps : List Param) (inner : ℕ → List Token → Read Expr) (n : ℕ) (found : Expr) (k : ℕ) (rest : List Token) → ((more : List Token) → ¬ (rest ≡ t.Sign s.Star ∷ more))
    → products_read ps inner n found k rest ≡ Some (found, k, rest)
unfolding products_read
products_stop ps inner zero found k rest other = refl
products_stop ps inner (suc n) found zero (t.Sign s.Star ∷ more) other = absurd (other more refl)
products_stop ps inner (suc n) found zero _ other = refl
products_stop ps inner (suc n) found (suc k) (t.Sign s.Star ∷ more) other = absurd (other more refl)
products_stop ps inner (suc n) found (suc k) _ other = refl

-- ---- sums: both signs at once
pub sum_sign_is : (rest : List Token) (sign : Sign) (after : List Token) → sum_sign rest ≡ Some (sign, after) → rest ≡ t.Sign sign ∷ after
sum_sign_is (t.Sign s.Plus ∷ more) sign after h =
    let same : (s.Plus, more) ≡ (sign, after) = same_Some _ _ h in ap (λ p. t.Sign p.0 ∷ p.1) same
sum_sign_is (t.Sign s.Minus ∷ more) sign after h =
    let same : (s.Minus, more) ≡ (sign, after) = same_Some _ _ h in ap (λ p. t.Sign p.0 ∷ p.1) same
sum_sign_is _ sign after h = absurd (none-some _ h)

pub sums_next : (ps : List Param) (inner : ℕ → List Token → Read Expr) (found : Expr) (sign : Sign) (rest after : List Token) → sum_sign rest ≡ Some (sign, after)
    → Turns (sums_read ps inner) (term_read ps inner) (joined sign) (t.Sign sign) found after
unfolding sums_read
sums_next ps inner found sign (t.Sign s.Plus ∷ more) after h =
    let same : s.Plus ≡ sign = ap (λ p. p.0) (same_Some _ _ h) in
    subst (λ z. Turns (sums_read ps inner) (term_read ps inner) (joined z) (t.Sign z) found after) same (λ m j. refl)
sums_next ps inner found sign (t.Sign s.Minus ∷ more) after h =
    let same : s.Minus ≡ sign = ap (λ p. p.0) (same_Some _ _ h) in
    subst (λ z. Turns (sums_read ps inner) (term_read ps inner) (joined z) (t.Sign z) found after) same (λ m j. refl)
sums_next ps inner found sign _ after h = absurd (none-some _ h)

pub sums_stop : (ps : List Param) (inner : ℕ → List Token → Read Expr) (n : ℕ) (found : Expr) (k : ℕ) (rest : List Token) → sum_sign rest ≡ None
    → sums_read ps inner n found k rest ≡ Some (found, k, rest)
unfolding sums_read
sums_stop ps inner zero found k rest none = refl
sums_stop ps inner (suc n) found zero (t.Sign s.Plus ∷ more) none = absurd (none-some _ (sym none))
sums_stop ps inner (suc n) found zero (t.Sign s.Minus ∷ more) none = absurd (none-some _ (sym none))
sums_stop ps inner (suc n) found zero _ none = refl
sums_stop ps inner (suc n) found (suc k) (t.Sign s.Plus ∷ more) none = absurd (none-some _ (sym none))
sums_stop ps inner (suc n) found (suc k) (t.Sign s.Minus ∷ more) none = absurd (none-some _ (sym none))
sums_stop ps inner (suc n) found (suc k) _ none = refl

-- ---- tests
pub ands_next : (one : ℕ → List Token → Read Test) (found : Test) (after : List Token) → Turns (ands_read one) one and_of (t.Word w.And) found after
unfolding ands_read
ands_next one found after = λ m j. refl

pub ands_stop : (one : ℕ → List Token → Read Test) (n : ℕ) (found : Test) (k : ℕ) (rest : List Token) → ((more : List Token) → ¬ (rest ≡ t.Word w.And ∷ more))
    → ands_read one n found k rest ≡ Some (found, k, rest)
unfolding ands_read
ands_stop one zero found k rest other = refl
ands_stop one (suc n) found zero (t.Word w.And ∷ more) other = absurd (other more refl)
ands_stop one (suc n) found zero _ other = refl
ands_stop one (suc n) found (suc k) (t.Word w.And ∷ more) other = absurd (other more refl)
ands_stop one (suc n) found (suc k) _ other = refl

pub ors_next : (one : ℕ → List Token → Read Test) (found : Test) (after : List Token) → Turns (ors_read one) (both_read one) or_of (t.Word w.Or) found after
unfolding ors_read
ors_next one found after = λ m j. refl

pub ors_stop : (one : ℕ → List Token → Read Test) (n : ℕ) (found : Test) (k : ℕ) (rest : List Token) → ((more : List Token) → ¬ (rest ≡ t.Word w.Or ∷ more))
    → ors_read one n found k rest ≡ Some (found, k, rest)
unfolding ors_read
ors_stop one zero found k rest other = refl
ors_stop one (suc n) found zero (t.Word w.Or ∷ more) other = absurd (other more refl)
ors_stop one (suc n) found zero _ other = refl
ors_stop one (suc n) found (suc k) (t.Word w.Or ∷ more) other = absurd (other more refl)
ors_stop one (suc n) found (suc k) _ other = refl
