-- The canonical text of a rule spells the tokens of its canonical tree, and is whole lines. Each case is one alternative.
use Rattle.std.proofs.Common.{◌≡◌, ℕ, ◌<◌, ◌^◌, Bool, true, false, cond, List, [], ◌∷◌, ◌++◌, map, flat_map, codes, None, refl, subst, arith}
use Rattle.std.specs.List.{AllByRecursion, list_all}
use Rattle.std.proofs.lemmas.Bool.{and_parts, ltb-true}
use Rattle.std.proofs.lemmas.List.{append_assoc}
use Rattle.toy_imp.specs.declared.condition.Condition.{Condition}
use Rattle.toy_imp.specs.declared.condition.Condition.TheVariants as condition
use Rattle.toy_imp.specs.declared.condition.Region.{Region}
use Rattle.toy_imp.specs.declared.condition.Region.TheVariants as region
use Rattle.toy_imp.specs.declared.param.Kind.{Kind}
use Rattle.toy_imp.specs.declared.param.Kind.TheVariants as kind
use Rattle.toy_imp.specs.declared.param.Param.{Param}
use Rattle.toy_imp.specs.declared.rule.CutList.{CutList}
use Rattle.toy_imp.specs.declared.rule.CutList.TheVariants as cuts
use Rattle.toy_imp.specs.declared.rule.Method.{Method}
use Rattle.toy_imp.specs.declared.rule.Method.TheVariants as method
use Rattle.toy_imp.specs.declared.rule.Rule.{Rule}
use Rattle.toy_imp.specs.Block.{Block}
use Rattle.toy_imp.specs.BlockCanonical.{canonical_block}
use Rattle.toy_imp.specs.ExprCanonical.{declared_name}
use Rattle.toy_imp.specs.Faults.{kind_is}
use Rattle.toy_imp.specs.RuleGrammar.{Declaration}
use Rattle.toy_imp.specs.Spellable.{is_first, is_spellable_block}
use Rattle.pec_text.specs.Id.{is_id}
use Rattle.pec_text.specs.Scanning.{reserved_of}
use Rattle.pec_text.specs.Spelling.{word_text, IsName}
use Rattle.pec_text.specs.declared.token.Sign.TheVariants as s
use Rattle.pec_text.specs.declared.token.Token.{Token}
use Rattle.pec_text.specs.declared.token.Token.TheVariants as t
use Rattle.pec_text.specs.declared.token.Word.TheVariants as w
use Rattle.pec_text.proofs.Runs.{stops_never}
use Rattle.pec_text.proofs.Tables.{reserved_free}
use Rattle.program_reader.specs.TreeTokens.{in_braces, stmts_tokens}
use Rattle.program_reader.specs.RuleTokens.{kind_word, declaration_tokens, region_word, condition_tokens, given_tokens, method_tokens, pair_tokens, cuts_tokens, rule_tokens}
use Rattle.program_reader.specs.OwnNames.{BlockNamesAre}
use Rattle.program_reader.specs.RuleCanonical.{declared_before, declarations, canonical_condition, canonical_method, canonical_cuts, canonical_rule}
use Rattle.rule_printer.specs.RuleCanonicalText.{spaced, declaration_bytes, condition_bytes, given_bytes, method_bytes, pair_bytes, cuts_bytes, side_bytes}
use Rattle.program_reader.specs.SpellableRule.{is_spellable_condition, is_narrow_pair, are_narrow_cuts, IsSpellableRule}
use Rattle.rule_printer.specs.PrintedRule.{rule_body}
use Rattle.rule_printer.proofs.Laying.{Piece, Anything, Breaks, Lines, then, space, sign_laid, word_lexeme, word_before, name_laid, number_laid}
use Rattle.rule_printer.proofs.ExprLaid.{first_is_name}
use Rattle.rule_printer.proofs.BlockLaid.{block_laid, stmts_laid}
use Rattle.rule_printer.proofs.RuleLines.{Closing, then_close, close_then, as_lines, lines_then, no_lines, closed, block_closed, close_grouped}

-- ---- words in their places, which are names
free_word : (word : List ℕ) → is_id word ≡ true → reserved_of word ≡ None → IsName word
free_word word id free = record { id = id; free = reserved_free word free }

keeps_word : IsName (codes "keeps")
unfolding reserved_of
keeps_word = free_word (codes "keeps") refl refl

ignores_word : IsName (codes "ignores")
unfolding reserved_of
ignores_word = free_word (codes "ignores") refl refl

commutes_word : IsName (codes "commutes")
unfolding reserved_of
commutes_word = free_word (codes "commutes") refl refl

positive_word : IsName (codes "positive")
unfolding reserved_of
positive_word = free_word (codes "positive") refl refl

constant_word : IsName (codes "constant")
unfolding reserved_of
constant_word = free_word (codes "constant") refl refl

quiet_word : IsName (codes "quiet")
unfolding reserved_of
quiet_word = free_word (codes "quiet") refl refl

distinct_word : IsName (codes "distinct")
unfolding reserved_of
distinct_word = free_word (codes "distinct") refl refl

swaps_word : IsName (codes "swaps")
unfolding reserved_of
swaps_word = free_word (codes "swaps") refl refl

over_word : IsName (codes "over")
unfolding reserved_of
over_word = free_word (codes "over") refl refl

permute_word : IsName (codes "permute")
unfolding reserved_of
permute_word = free_word (codes "permute") refl refl

chain_word : IsName (codes "chain")
unfolding reserved_of
chain_word = free_word (codes "chain") refl refl

tile_word : IsName (codes "tile")
unfolding reserved_of
tile_word = free_word (codes "tile") refl refl

region_is_name : (r : Region) → IsName (region_word r)
unfolding reserved_of
region_is_name region.Distinct = free_word (codes "distinct") refl refl
region_is_name region.Earlier = free_word (codes "earlier") refl refl
region_is_name region.Crossing = free_word (codes "crossing") refl refl

-- a name before a space, and one behind a space
name_before : (x : List ℕ) → IsName x → Piece Anything (x ++ codes " ") (t.Name x ∷ [])
name_before x is = then (name_laid x is) space (λ rest _. refl)

name_behind : (x : List ℕ) → IsName x → Piece Breaks (codes " " ++ x) (t.Name x ∷ [])
name_behind x is = then space (name_laid x is) (λ rest _. tt)

two_names : (x y : List ℕ) → IsName x → IsName y → Piece Breaks (x ++ (codes " " ++ y)) (t.Name x ∷ t.Name y ∷ [])
two_names x y is also = then (name_laid x is) (name_behind y also) (λ rest _. refl)

-- ---- declarations
-- each name of a declaration is a name
abbrev AreNamed : Declaration → Type 0
AreNamed d = AllByRecursion IsName (d.first ∷ d.others)

before_named : (p : Param) (ds : List Declaration) → IsName p.name → AllByRecursion AreNamed ds → AllByRecursion AreNamed (declared_before p ds)
before_named p [] is all = ((is, tt), tt)
before_named p (d ∷ ds) is all = at_kind (kind_is p.kind d.kind)
  where
    at_kind : (v : Bool) → AllByRecursion AreNamed (cond v (record { kind = d.kind; first = p.name; others = d.first ∷ d.others } ∷ ds) (record { kind = p.kind; first = p.name; others = [] } ∷ d ∷ ds))
    at_kind true = ((is, all.0), all.1)
    at_kind false = ((is, tt), all)

declarations_named : (ps : List Param) → AllByRecursion (λ p. IsName p.name) ps → AllByRecursion AreNamed (declarations ps)
declarations_named [] all = tt
declarations_named (p ∷ ps) all = before_named p (declarations ps) all.0 (declarations_named ps all.1)

breaks_spaced : (names : List (List ℕ)) (rest : List ℕ) → Breaks ((spaced names ++ codes ";\n") ++ rest)
breaks_spaced [] rest = refl
breaks_spaced (x ∷ names) rest = refl

spaced_closed : (names : List (List ℕ)) → AllByRecursion IsName names → Closing (spaced names ++ codes ";\n") (map t.Name names ++ (t.Sign s.Semicolon ∷ []))
spaced_closed [] all = closed
spaced_closed (x ∷ names) all =
    close_grouped (codes " " ++ x) (spaced names) (codes ";\n") (t.Name x ∷ []) (map t.Name names) (t.Sign s.Semicolon ∷ [])
    (then_close (name_behind x all.0) (spaced_closed names all.1) (breaks_spaced names))

kind_before : (k : Kind) → Piece Anything (word_text (kind_word k) ++ codes " ") (t.Word (kind_word k) ∷ [])
kind_before kind.Name = word_before w.Name refl
kind_before kind.Expr = word_before w.Expr refl
kind_before kind.Test = word_before w.Test refl
kind_before kind.Stmt = word_before w.Stmt refl

declaration_closed : (d : Declaration) → AreNamed d → Closing (declaration_bytes d) (declaration_tokens d)
declaration_closed d all =
    subst (λ z. Closing z (declaration_tokens d)) (append_assoc (word_text (kind_word d.kind)) (codes " ") (d.first ++ (spaced d.others ++ codes ";\n")))
    (then_close (kind_before d.kind) (then_close (name_laid d.first all.0) (spaced_closed d.others all.1) (breaks_spaced d.others)) (λ rest. tt))

declarations_laid : (ds : List Declaration) → AllByRecursion AreNamed ds → Lines (flat_map declaration_bytes ds) (flat_map declaration_tokens ds)
declarations_laid [] all = no_lines
declarations_laid (d ∷ ds) all = lines_then (as_lines (declaration_closed d all.0)) (declarations_laid ds all.1)

-- ---- the method and the cuts
-- a line that names a method
method_named : (word : List ℕ) → IsName word → Lines (codes "method " ++ (word ++ codes ";\n")) (t.Word w.Method ∷ t.Name word ∷ t.Sign s.Semicolon ∷ [])
method_named word is = as_lines (then_close (word_before w.Method refl) (then_close (name_laid word is) closed (λ rest. refl)) (λ rest. tt))

method_laid : (m : Method) → Lines (method_bytes (canonical_method m)) (method_tokens (canonical_method m))
method_laid method.Simulate = no_lines
method_laid method.Permute = method_named (codes "permute") permute_word
method_laid method.Chain = method_named (codes "chain") chain_word
method_laid method.Tile = method_named (codes "tile") tile_word

wide_enough : (k : ℕ) → k < 2 ^ 32 → k < 2 ^ 63
wide_enough k low = omega arith

pair_laid : (a : ℕ × ℕ) → is_narrow_pair a ≡ true → Piece Breaks (pair_bytes a) (pair_tokens a)
pair_laid a h =
    let low : a.0 < 2 ^ 32 = ltb-true a.0 (2 ^ 32) ((and_parts _ _ h).0) in
    let also : a.1 < 2 ^ 32 = ltb-true a.1 (2 ^ 32) ((and_parts _ _ h).1) in
    then (number_laid a.0 (wide_enough a.0 low)) (then space (number_laid a.1 (wide_enough a.1 also)) (λ rest _. tt)) (λ rest _. refl)

abbrev later_bytes : List (ℕ × ℕ) → List ℕ
later_bytes more = flat_map (λ b. codes ", " ++ pair_bytes b) more

abbrev later_tokens : List (ℕ × ℕ) → List Token
later_tokens more = flat_map (λ b. t.Sign s.Comma ∷ pair_tokens b) more

breaks_later : (more : List (ℕ × ℕ)) (rest : List ℕ) → Breaks ((later_bytes more ++ codes ";\n") ++ rest)
breaks_later [] rest = refl
breaks_later (b ∷ more) rest = refl

comma : Piece Anything (codes ", ") (t.Sign s.Comma ∷ [])
comma = then (sign_laid s.Comma refl stops_never) space (λ rest _. tt)

later_closed : (more : List (ℕ × ℕ)) → list_all is_narrow_pair more ≡ true → Closing (later_bytes more ++ codes ";\n") (later_tokens more ++ (t.Sign s.Semicolon ∷ []))
later_closed [] h = closed
later_closed (b ∷ more) h =
    close_grouped (codes ", " ++ pair_bytes b) (later_bytes more) (codes ";\n") (t.Sign s.Comma ∷ pair_tokens b) (later_tokens more) (t.Sign s.Semicolon ∷ [])
    (then_close (then comma (pair_laid b ((and_parts _ _ h).0)) (λ rest _. tt)) (later_closed more ((and_parts _ _ h).1)) (breaks_later more))

none_laid : Piece Breaks (codes "none") (t.Word w.None ∷ [])
none_laid = word_lexeme w.None refl

cuts_laid : (c : CutList) → are_narrow_cuts c ≡ true → Lines (cuts_bytes (canonical_cuts c)) (cuts_tokens (canonical_cuts c))
cuts_laid cuts.Default h = no_lines
cuts_laid (cuts.Listed []) h = as_lines (then_close (word_before w.Cuts refl) (then_close none_laid closed (λ rest. refl)) (λ rest. tt))
cuts_laid (cuts.Listed (a ∷ more)) h =
    as_lines (then_close (word_before w.Cuts refl) (then_close (pair_laid a ((and_parts _ _ h).0)) (later_closed more ((and_parts _ _ h).1)) (breaks_later more)) (λ rest. tt))

module _ (ps : List Param) (all : AllByRecursion (λ p. IsName p.name) ps) where
  -- ---- conditions
  first_name : (k : ℕ) → is_first ps k ≡ true → IsName (declared_name ps k)
  first_name k h = first_is_name ps all k h

  pair_named : (word : List ℕ) → IsName word → (j k : ℕ) → list_all (is_first ps) (j ∷ k ∷ []) ≡ true
      → Piece Breaks ((word ++ codes " ") ++ (declared_name ps j ++ (codes " " ++ declared_name ps k))) (t.Name word ∷ t.Name (declared_name ps j) ∷ t.Name (declared_name ps k) ∷ [])
  pair_named word is j k h =
      let later : list_all (is_first ps) (k ∷ []) ≡ true = (and_parts _ _ h).1 in
      then (name_before word is) (two_names (declared_name ps j) (declared_name ps k) (first_name j ((and_parts _ _ h).0)) (first_name k ((and_parts _ _ later).0))) (λ rest _. tt)

  one_named : (word : List ℕ) → IsName word → (k : ℕ) → list_all (is_first ps) (k ∷ []) ≡ true
      → Piece Breaks ((word ++ codes " ") ++ declared_name ps k) (t.Name word ∷ t.Name (declared_name ps k) ∷ [])
  one_named word is k h = then (name_before word is) (name_laid (declared_name ps k) (first_name k ((and_parts _ _ h).0))) (λ rest _. tt)

  over_before : Piece Anything (codes " over ") (t.Name (codes "over") ∷ [])
  over_before = then space (name_before (codes "over") over_word) (λ rest _. tt)

  swaps_1 : (x y k : ℕ) (r : Region) → list_all (is_first ps) (x ∷ y ∷ k ∷ []) ≡ true
      → Piece Breaks (condition_bytes (canonical_condition ps (condition.Swaps x y (k ∷ []) r))) (condition_tokens (canonical_condition ps (condition.Swaps x y (k ∷ []) r)))
  swaps_1 x y k r h =
      let later : list_all (is_first ps) (y ∷ k ∷ []) ≡ true = (and_parts _ _ h).1 in
      let last : list_all (is_first ps) (k ∷ []) ≡ true = (and_parts _ _ later).1 in
      then (name_before (codes "swaps") swaps_word)
      (then (name_laid (declared_name ps x) (first_name x ((and_parts _ _ h).0)))
      (then (name_behind (declared_name ps y) (first_name y ((and_parts _ _ later).0)))
      (then over_before
      (then (name_laid (declared_name ps k) (first_name k ((and_parts _ _ last).0))) (name_behind (region_word r) (region_is_name r)) (λ rest _. refl))
      (λ rest _. tt))
      (λ rest _. refl))
      (λ rest _. refl))
      (λ rest _. tt)

  swaps_2 : (x y k l : ℕ) (r : Region) → list_all (is_first ps) (x ∷ y ∷ k ∷ l ∷ []) ≡ true
      → Piece Breaks (condition_bytes (canonical_condition ps (condition.Swaps x y (k ∷ l ∷ []) r))) (condition_tokens (canonical_condition ps (condition.Swaps x y (k ∷ l ∷ []) r)))
  swaps_2 x y k l r h =
      let later : list_all (is_first ps) (y ∷ k ∷ l ∷ []) ≡ true = (and_parts _ _ h).1 in
      let last : list_all (is_first ps) (k ∷ l ∷ []) ≡ true = (and_parts _ _ later).1 in
      let end : list_all (is_first ps) (l ∷ []) ≡ true = (and_parts _ _ last).1 in
      then (name_before (codes "swaps") swaps_word)
      (then (name_laid (declared_name ps x) (first_name x ((and_parts _ _ h).0)))
      (then (name_behind (declared_name ps y) (first_name y ((and_parts _ _ later).0)))
      (then over_before
      (then (name_laid (declared_name ps k) (first_name k ((and_parts _ _ last).0)))
      (then comma (then (name_laid (declared_name ps l) (first_name l ((and_parts _ _ end).0))) (name_behind (region_word r) (region_is_name r)) (λ rest _. refl)) (λ rest _. tt))
      (λ rest _. refl))
      (λ rest _. tt))
      (λ rest _. refl))
      (λ rest _. refl))
      (λ rest _. tt)

  condition_laid : (c : Condition) → is_spellable_condition ps c ≡ true → Piece Breaks (condition_bytes (canonical_condition ps c)) (condition_tokens (canonical_condition ps c))
  condition_laid (condition.Keeps x y) h = pair_named (codes "keeps") keeps_word x y ((and_parts _ _ h).0)
  condition_laid (condition.Ignores x y) h = pair_named (codes "ignores") ignores_word x y ((and_parts _ _ h).0)
  condition_laid (condition.Commutes x y) h = pair_named (codes "commutes") commutes_word x y ((and_parts _ _ h).0)
  condition_laid (condition.Positive x) h = one_named (codes "positive") positive_word x ((and_parts _ _ h).0)
  condition_laid (condition.Constant x) h = one_named (codes "constant") constant_word x ((and_parts _ _ h).0)
  condition_laid (condition.Distinct x y) h = pair_named (codes "distinct") distinct_word x y ((and_parts _ _ h).0)
  condition_laid (condition.Quiet x) h = one_named (codes "quiet") quiet_word x ((and_parts _ _ h).0)
  condition_laid (condition.Swaps x y [] r) h = let none : false ≡ true = (and_parts (list_all (is_first ps) (x ∷ y ∷ [])) false h).1 in cc
  condition_laid (condition.Swaps x y (k ∷ []) r) h = swaps_1 x y k r ((and_parts (list_all (is_first ps) (x ∷ y ∷ k ∷ [])) true h).0)
  condition_laid (condition.Swaps x y (k ∷ l ∷ []) r) h = swaps_2 x y k l r ((and_parts (list_all (is_first ps) (x ∷ y ∷ k ∷ l ∷ [])) true h).0)
  condition_laid (condition.Swaps x y (k ∷ l ∷ m ∷ more) r) h = let none : false ≡ true = (and_parts (list_all (is_first ps) (x ∷ y ∷ k ∷ l ∷ m ∷ more)) false h).1 in cc

  givens_laid : (cs : List Condition) → list_all (is_spellable_condition ps) cs ≡ true
      → Lines (flat_map given_bytes (map (canonical_condition ps) cs)) (flat_map given_tokens (map (canonical_condition ps) cs))
  givens_laid [] h = no_lines
  givens_laid (c ∷ cs) h =
      lines_then (as_lines (then_close (word_before w.Given refl) (then_close (condition_laid c ((and_parts _ _ h).0)) closed (λ rest. refl)) (λ rest. tt)))
      (givens_laid cs ((and_parts _ _ h).1))

  side_closed : (b : Block) → is_spellable_block ps b ≡ true → BlockNamesAre IsName b → Closing (side_bytes (canonical_block ps b)) (in_braces (stmts_tokens (canonical_block ps b)))
  side_closed b h names = block_closed (block_laid 0 (canonical_block ps b) (stmts_laid ps all 1 b h names))

-- ---- rules
pub rule_laid : (rule : Rule) → IsSpellableRule rule → Lines (rule_body rule) (rule_tokens (canonical_rule rule))
rule_laid rule h =
    lines_then (declarations_laid (declarations rule.params) (declarations_named rule.params h.declared))
    (lines_then (givens_laid rule.params h.declared rule.conditions h.conditions)
    (lines_then (method_laid rule.method)
    (lines_then (cuts_laid rule.cuts h.cuts)
    (as_lines (then_close (word_before w.Left refl)
    (close_then (side_closed rule.params h.declared rule.left h.left h.left_names)
    (as_lines (then_close (word_before w.Right refl) (side_closed rule.params h.declared rule.right h.right h.right_names) (λ rest. tt))))
    (λ rest. tt))))))
