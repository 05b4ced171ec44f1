-- What is read as a method and as cuts has derivation trees, and their tokens are read as trees of the same value.
use Rattle.std.proofs.Common.{◌≡◌, ℕ, ◌^◌, ◌<◌, ◌≤◌, min, Bool, true, false, ◌||◌, List, [], ◌∷◌, ◌++◌, cond, nat_lt, nat_le, codes, map, flat_map, length, None, Some, sym, ◌∙◌, ap, subst, refl, append_assoc, rules, arith}
use Rattle.std.specs.List.{list_any}
use Rattle.std.proofs.lemmas.Option.{none-some, same_Some}
use Rattle.toy_imp.specs.declared.rule.CutList.TheVariants as cuts
use Rattle.toy_imp.specs.declared.rule.Method.{Method}
use Rattle.toy_imp.specs.declared.rule.Method.TheVariants as method
use Rattle.toy_imp.specs.RuleGrammar.{MethodTree, no_method, simulated, permuted, chained, tiled, method_value, CutsTree, no_cuts, cuts_none, cuts_at, cut_value, greatest_cut}
use Rattle.pec_text.specs.Spelling.{numeral_of}
use Rattle.pec_text.specs.declared.token.Numeral.{Numeral}
use Rattle.pec_text.specs.declared.token.Numeral.TheVariants as n
use Rattle.pec_text.specs.declared.token.Sign.TheVariants as s
use Rattle.pec_text.specs.declared.token.Token.{Token}
use Rattle.pec_text.specs.declared.token.Token.TheVariants as t
use Rattle.pec_text.specs.declared.token.Word.TheVariants as w
use Rattle.program_reader.specs.Read.{and_next}
use Rattle.program_reader.specs.RuleTokens.{method_tokens, pair_tokens, cuts_tokens}
use Rattle.program_reader.proofs.ReadSteps.{next_some}
use Rattle.rule_reader.specs.Front.{valued, name_read, at_semicolon}
use Rattle.rule_reader.specs.ConditionReading.{where_some}
use Rattle.rule_reader.specs.CutReading.{method_of, named_method_read, method_read, numeral_number, number_read, pair_read, is_comma, next_pair_read, pairs_read, listed_cuts_read, cuts_read, is_beyond, cut_line}
use Rattle.rule_reader.proofs.FrontTrees.{joined, name_has, semicolon_has, where_has, word_case}
use Rattle.rule_reader.proofs.ItemTrees.{valued_some, HasTree, items_have, all_items_are_read}

-- ---- the method
-- the tree of a method stands in front, and this is its value
pub record HasMethod (tokens : List Token) (q : Method × List Token) : Type 0 where
  pub tree : MethodTree
  pub in_front : tokens ≡ method_tokens tree ++ q.1
  pub value_is : method_value tree ≡ q.0

record IsMethod (x : List ℕ) (m : Method) : Type 0 where
  tree : MethodTree
  spelled : ◌≡◌ {A = List Token} (t.Word w.Method ∷ t.Name x ∷ t.Sign s.Semicolon ∷ []) (method_tokens tree)
  value_is : method_value tree ≡ m

method_is : (x : List ℕ) (m : Method) → method_of x ≡ Some m → IsMethod x m
method_is x m =
    word_case IsMethod x (codes "simulate") method.Simulate m _ (record { tree = simulated; spelled = refl; value_is = refl })
    (word_case IsMethod x (codes "permute") method.Permute m _ (record { tree = permuted; spelled = refl; value_is = refl })
    (word_case IsMethod x (codes "chain") method.Chain m _ (record { tree = chained; spelled = refl; value_is = refl })
    (word_case IsMethod x (codes "tile") method.Tile m _ (record { tree = tiled; spelled = refl; value_is = refl })
    (λ h. absurd (none-some _ h)))))

method_made : (x : List ℕ) (m : Method) (rest more : List Token) (q : Method × List Token) → rest ≡ t.Name x ∷ more → more ≡ t.Sign s.Semicolon ∷ q.1 → IsMethod x m → m ≡ q.0
    → HasMethod (t.Word w.Method ∷ rest) q
method_made x m rest more q first next is same = record {
  tree = is.tree;
  in_front = ap (λ z. t.Word w.Method ∷ z) (first ∙ ap (λ z. t.Name x ∷ z) next) ∙ ap (λ z. z ++ q.1) is.spelled;
  value_is = is.value_is ∙ same;
}

named_method_has : (rest : List Token) (q : Method × List Token) → named_method_read rest ≡ Some q → HasMethod (t.Word w.Method ∷ rest) q
unfolding named_method_read
named_method_has rest q h =
    let l = next_some (name_read rest) (λ x rest. and_next (where_some (method_of x) rest) (λ m rest. at_semicolon m rest)) q h in
    let m = next_some (where_some (method_of l.0.0) l.0.1) (λ m rest. at_semicolon m rest) q l.2 in
    let word = where_has (method_of l.0.0) l.0.1 m.0 m.1 in
    let ends = semicolon_has m.0.0 m.0.1 q m.2 in
    method_made l.0.0 m.0.0 rest l.0.1 q (name_has rest l.0 l.1) (word.1 ∙ ends.0) (method_is l.0.0 m.0.0 word.0) ends.1

pub method_has : (tokens : List Token) (q : Method × List Token) → method_read tokens ≡ Some q → HasMethod tokens q
unfolding method_read
method_has (t.Word w.Method ∷ rest) q h = named_method_has rest q h
method_has rest q h = subst (HasMethod rest) (same_Some (method.Simulate, rest) q h) (record { tree = no_method; in_front = refl; value_is = refl })

-- no method line stands before a token that is not its word
pub method_is_read : (m : MethodTree) (rest : List Token) → method_read rest ≡ Some (method.Simulate, rest) → method_read (method_tokens m ++ rest) ≡ Some (method_value m, rest)
unfolding method_read named_method_read
method_is_read no_method rest other = other
method_is_read simulated rest other = refl
method_is_read permuted rest other = refl
method_is_read chained rest other = refl
method_is_read tiled rest other = refl

-- ---- numbers
below : (k n : ℕ) → nat_lt k n ≡ true → k < n
below k n h = search rules

above : (k n : ℕ) → nat_lt k n ≡ false → n ≤ k
above k n h = search rules

value_is : (m v : ℕ) (b : Bool) → nat_lt m (2 ^ 63) ≡ b → cond b (Some m) None ≡ Some v → n.Value m ≡ numeral_of v
value_is m v false e h = absurd (none-some _ h)
value_is m v true e h = sym (ap (λ b. cond b (n.Value m) n.Wide) e) ∙ ap numeral_of (same_Some m v h)

numeral_is : (m : Numeral) (v : ℕ) → numeral_number m ≡ Some v → m ≡ numeral_of v
numeral_is (n.Value m) v h = value_is m v (nat_lt m (2 ^ 63)) refl h
numeral_is n.Wide v h = ap numeral_of (same_Some (2 ^ 63) v h)

number_has : (tokens : List Token) (q : ℕ × List Token) → number_read tokens ≡ Some q → tokens ≡ t.Number (numeral_of q.0) ∷ q.1
number_has (t.Number m ∷ rest) q h =
    let found = where_has (numeral_number m) rest q h in
    ap (λ z. t.Number z ∷ rest) (numeral_is m q.0 found.0) ∙ ap (λ z. t.Number (numeral_of q.0) ∷ z) found.1
number_has _ q h = absurd (none-some _ h)

-- a number of 2 ^ 63 or more counts as 2 ^ 63
abbrev pub clamped : ℕ → ℕ
clamped v = min v (2 ^ 63)

clamped_is : (v : ℕ) (b : Bool) → nat_lt v (2 ^ 63) ≡ b → numeral_number (cond b (n.Value v) n.Wide) ≡ Some (clamped v)
clamped_is v true e =
    let small : v < 2 ^ 63 = below v (2 ^ 63) e in
    let least : v ≡ clamped v = omega arith in
    ap (λ b. cond b (Some v) None) e ∙ ap Some least
clamped_is v false e =
    let wide : 2 ^ 63 ≤ v = above v (2 ^ 63) e in
    let least : 2 ^ 63 ≡ clamped v = omega arith in
    ap Some least

number_is_read : (v : ℕ) (rest : List Token) → number_read (t.Number (numeral_of v) ∷ rest) ≡ Some (clamped v, rest)
number_is_read v rest = ap (λ o. where_some o rest) (clamped_is v (nat_lt v (2 ^ 63)) refl)

-- ---- pairs
pair_has : (tokens : List Token) (q : (ℕ × ℕ) × List Token) → pair_read tokens ≡ Some q → tokens ≡ pair_tokens q.0 ++ q.1
unfolding pair_read
pair_has tokens q h =
    let m = next_some (number_read tokens) (λ a rest. and_next (number_read rest) (λ b rest. Some ((a, b), rest))) q h in
    let l = next_some (number_read m.0.1) (λ b rest. Some ((m.0.0, b), rest)) q m.2 in
    number_has tokens m.0 m.1 ∙ ap (λ z. t.Number (numeral_of m.0.0) ∷ z) (number_has m.0.1 l.0 l.1)
    ∙ ap (λ z. pair_tokens z.0 ++ z.1) (same_Some ((m.0.0, l.0.0), l.0.1) q l.2)

abbrev pub clamped_pair : ℕ × ℕ → ℕ × ℕ
clamped_pair a = (clamped a.0, clamped a.1)

pair_is_read : (a : ℕ × ℕ) (rest : List Token) → pair_read (pair_tokens a ++ rest) ≡ Some (clamped_pair a, rest)
unfolding pair_read
pair_is_read a rest =
    ap (λ r. and_next r (λ a rest. and_next (number_read rest) (λ b rest. Some ((a, b), rest)))) (number_is_read a.0 (t.Number (numeral_of a.1) ∷ rest))
    ∙ ap (λ r. and_next r (λ b rest. Some ((clamped a.0, b), rest))) (number_is_read a.1 rest)

-- a pair behind its comma
abbrev next_tokens : ℕ × ℕ → List Token
next_tokens a = t.Sign s.Comma ∷ pair_tokens a

abbrev alone : ℕ × ℕ → List (ℕ × ℕ)
alone a = a ∷ []

next_pair_has : (tokens : List Token) (p : List (ℕ × ℕ) × List Token) → next_pair_read tokens ≡ Some p → HasTree next_tokens alone tokens p
unfolding next_pair_read
next_pair_has (t.Sign s.Comma ∷ rest) p h =
    let m = valued_some alone (pair_read rest) p h in
    subst (HasTree next_tokens alone (t.Sign s.Comma ∷ rest)) m.2 (record { tree = m.0.0; in_front = ap (λ z. t.Sign s.Comma ∷ z) (pair_has rest m.0 m.1); value_is = refl })
next_pair_has _ p h = absurd (none-some _ h)

all_alone : (pairs : List (ℕ × ℕ)) → flat_map alone pairs ≡ pairs
all_alone [] = refl
all_alone (a ∷ pairs) = ap (λ z. a ∷ z) (all_alone pairs)

pairs_have : (tokens : List Token) (p : List (ℕ × ℕ) × List Token) → pairs_read tokens ≡ Some p → tokens ≡ flat_map next_tokens p.0 ++ p.1
unfolding pairs_read
pairs_have tokens p h =
    let has = items_have next_tokens alone is_comma next_pair_read next_pair_has (length tokens) tokens p h in
    has.in_front ∙ ap (λ z. flat_map next_tokens z ++ p.1) (sym (all_alone has.trees) ∙ has.values_are)

abbrev alone_clamped : ℕ × ℕ → List (ℕ × ℕ)
alone_clamped a = clamped_pair a ∷ []

all_clamped : (pairs : List (ℕ × ℕ)) → flat_map alone_clamped pairs ≡ map clamped_pair pairs
all_clamped [] = refl
all_clamped (a ∷ pairs) = ap (λ z. clamped_pair a ∷ z) (all_clamped pairs)

some_token : (a : ℕ × ℕ) → 0 < length (next_tokens a)
some_token a = omega arith

next_begins : (a : ℕ × ℕ) (rest : List Token) → is_comma (next_tokens a ++ rest) ≡ true
next_begins a rest = refl

next_pair_is_read : (a : ℕ × ℕ) (rest : List Token) → next_pair_read (next_tokens a ++ rest) ≡ Some (alone_clamped a, rest)
unfolding next_pair_read
next_pair_is_read a rest = ap (valued alone) (pair_is_read a rest)

pairs_are_read : (pairs : List (ℕ × ℕ)) (rest : List Token) → is_comma rest ≡ false → pairs_read (flat_map next_tokens pairs ++ rest) ≡ Some (map clamped_pair pairs, rest)
unfolding pairs_read
pairs_are_read pairs rest ends =
    all_items_are_read next_tokens alone_clamped is_comma next_pair_read next_begins some_token next_pair_is_read pairs rest ends ∙ ap (λ z. Some (z, rest)) (all_clamped pairs)

-- ---- the cuts
first_pair_has : (rest : List Token) (q : CutsTree × List Token) → and_next (pair_read rest) (λ a rest. and_next (pairs_read rest) (λ more rest. at_semicolon (cuts_at a more) rest)) ≡ Some q
    → t.Word w.Cuts ∷ rest ≡ cuts_tokens q.0 ++ q.1
first_pair_has rest q h =
    let m = next_some (pair_read rest) (λ a rest. and_next (pairs_read rest) (λ more rest. at_semicolon (cuts_at a more) rest)) q h in
    let l = next_some (pairs_read m.0.1) (λ more rest. at_semicolon (cuts_at m.0.0 more) rest) q m.2 in
    let ends = semicolon_has (cuts_at m.0.0 l.0.0) l.0.1 q l.2 in
    let behind : m.0.1 ≡ (flat_map next_tokens l.0.0 ++ (t.Sign s.Semicolon ∷ [])) ++ q.1 =
    joined (flat_map next_tokens l.0.0) (t.Sign s.Semicolon ∷ []) q.1 m.0.1 l.0.1 (pairs_have m.0.1 l.0 l.1) ends.0 in
    ap (λ z. t.Word w.Cuts ∷ z) (joined (pair_tokens m.0.0) (flat_map next_tokens l.0.0 ++ (t.Sign s.Semicolon ∷ [])) q.1 rest m.0.1 (pair_has rest m.0 m.1) behind)
    ∙ ap (λ z. cuts_tokens z ++ q.1) ends.1

listed_has : (rest : List Token) (q : CutsTree × List Token) → listed_cuts_read rest ≡ Some q → t.Word w.Cuts ∷ rest ≡ cuts_tokens q.0 ++ q.1
unfolding listed_cuts_read
listed_has (t.Word w.None ∷ rest) q h =
    let ends = semicolon_has cuts_none rest q h in
    ap (λ z. t.Word w.Cuts ∷ t.Word w.None ∷ z) ends.0 ∙ ap (λ z. cuts_tokens z ++ q.1) ends.1
listed_has rest q h = first_pair_has rest q h

pub cuts_have : (tokens : List Token) (q : CutsTree × List Token) → cuts_read tokens ≡ Some q → tokens ≡ cuts_tokens q.0 ++ q.1
unfolding cuts_read
cuts_have (t.Word w.Cuts ∷ rest) q h = listed_has rest q h
cuts_have rest q h = ap (λ z. cuts_tokens z.0 ++ z.1) (same_Some (no_cuts, rest) q h)

abbrev pub clamped_cuts : CutsTree → CutsTree
clamped_cuts no_cuts = no_cuts
clamped_cuts cuts_none = cuts_none
clamped_cuts (cuts_at a more) = cuts_at (clamped_pair a) (map clamped_pair more)

-- no cuts line stands before a token that is not its word
pub cuts_are_read : (c : CutsTree) (rest : List Token) → cuts_read rest ≡ Some (no_cuts, rest) → cuts_read (cuts_tokens c ++ rest) ≡ Some (clamped_cuts c, rest)
unfolding cuts_read listed_cuts_read
cuts_are_read no_cuts rest other = other
cuts_are_read cuts_none rest other = refl
cuts_are_read (cuts_at a more) rest other =
    let last : List Token = t.Sign s.Semicolon ∷ rest in
    ap listed_cuts_read (append_assoc (pair_tokens a) (flat_map next_tokens more ++ (t.Sign s.Semicolon ∷ [])) rest
    ∙ ap (λ z. pair_tokens a ++ z) (append_assoc (flat_map next_tokens more) (t.Sign s.Semicolon ∷ []) rest))
    ∙ ap (λ r. and_next r (λ a rest. and_next (pairs_read rest) (λ more rest. at_semicolon (cuts_at a more) rest))) (pair_is_read a (flat_map next_tokens more ++ last))
    ∙ ap (λ r. and_next r (λ more rest. at_semicolon (cuts_at (clamped_pair a) more) rest)) (pairs_are_read more last refl)

-- ---- what cuts stand for, which the greatest numbers do not change
same_number : (v : ℕ) → min (clamped v) greatest_cut ≡ min v greatest_cut
same_number v = omega arith

same_cut : (a : ℕ × ℕ) → cut_value (clamped_pair a) ≡ cut_value a
same_cut a = λ i. (same_number a.0 i, same_number a.1 i)

same_cuts : (pairs : List (ℕ × ℕ)) → map cut_value (map clamped_pair pairs) ≡ map cut_value pairs
same_cuts [] = refl
same_cuts (a ∷ pairs) = λ i. same_cut a i ∷ same_cuts pairs i

reaches : (v : ℕ) → 2 ^ 32 ≤ v → nat_le (2 ^ 32) v ≡ true
reaches v h = search rules

misses : (v : ℕ) → v < 2 ^ 32 → nat_le (2 ^ 32) v ≡ false
misses v h = search rules

at_least : (v : ℕ) → nat_le (2 ^ 32) v ≡ true → 2 ^ 32 ≤ v
at_least v h = search rules

less : (v : ℕ) → nat_le (2 ^ 32) v ≡ false → v < 2 ^ 32
less v h = search rules

same_size : (v : ℕ) (b : Bool) → nat_le (2 ^ 32) v ≡ b → nat_le (2 ^ 32) (clamped v) ≡ b
same_size v true e = let big : 2 ^ 32 ≤ v = at_least v e in reaches (clamped v) (omega arith)
same_size v false e = let small : v < 2 ^ 32 = less v e in misses (clamped v) (omega arith)

same_beyond : (a : ℕ × ℕ) → is_beyond (clamped_pair a) ≡ is_beyond a
same_beyond a = λ i. same_size a.0 (nat_le (2 ^ 32) a.0) refl i || same_size a.1 (nat_le (2 ^ 32) a.1) refl i

none_beyond : (pairs : List (ℕ × ℕ)) → list_any is_beyond (map clamped_pair pairs) ≡ list_any is_beyond pairs
none_beyond [] = refl
none_beyond (a ∷ pairs) = λ i. same_beyond a i || none_beyond pairs i

pub same_line : (c : CutsTree) → cut_line (clamped_cuts c) ≡ cut_line c
same_line no_cuts = refl
same_line cuts_none = refl
same_line (cuts_at a more) =
    λ i. record { cuts = cuts.Listed (same_cut a i ∷ same_cuts more i); is_beyond = same_beyond a i || none_beyond more i }
