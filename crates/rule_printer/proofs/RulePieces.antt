-- The text of declarations, conditions and cuts, piece by piece as it is written.
use Rattle.std.proofs.Common.{◌≡◌, ℕ, Bool, true, false, cond, List, [], ◌∷◌, ◌++◌, map, flat_map, codes, refl, sym, ap, ◌∙◌}
use Rattle.std.proofs.lemmas.List.{append_assoc}
use Rattle.toy_imp.specs.declared.condition.Condition.{Condition}
use Rattle.toy_imp.specs.declared.condition.Condition.TheVariants as condition
use Rattle.toy_imp.specs.declared.condition.Region.{Region}
use Rattle.toy_imp.specs.declared.param.Kind.{Kind}
use Rattle.toy_imp.specs.declared.param.Param.{Param}
use Rattle.toy_imp.specs.ExprCanonical.{declared_name}
use Rattle.toy_imp.specs.Faults.{kind_is}
use Rattle.toy_imp.specs.RuleGrammar.{Declaration}
use Rattle.pec_text.specs.Spelling.{word_text}
use Rattle.program_reader.specs.RuleTokens.{kind_word, region_word}
use Rattle.program_reader.specs.RuleCanonical.{declared_before, declarations, canonical_condition}
use Rattle.rule_printer.specs.RuleCanonicalText.{spaced, declaration_bytes, condition_bytes, given_bytes, pair_bytes}
use Rattle.rule_printer.specs.RulePieces.{first_bytes, next_bytes, declared_after, over_bytes}
use Rattle.rule_printer.proofs.RulePrinted.{kinds_equal}

-- ---- declarations
-- what follows the word of the first declaration
abbrev behind : Declaration → List Declaration → List ℕ
behind d more = codes " " ++ (d.first ++ (spaced d.others ++ (codes ";\n" ++ flat_map declaration_bytes more)))

all_of : (d : Declaration) (more : List Declaration) → flat_map declaration_bytes (d ∷ more) ≡ word_text (kind_word d.kind) ++ behind d more
all_of d more =
    append_assoc (word_text (kind_word d.kind)) (codes " " ++ (d.first ++ (spaced d.others ++ codes ";\n"))) (flat_map declaration_bytes more)
    ∙ ap (λ z. word_text (kind_word d.kind) ++ (codes " " ++ z)) (append_assoc d.first (spaced d.others ++ codes ";\n") (flat_map declaration_bytes more) ∙ ap (λ z. d.first ++ z) (append_assoc (spaced d.others) (codes ";\n") (flat_map declaration_bytes more)))

-- the declarations begin with one of this parameter's kind, behind whose word stand it and the rest
record StartsRun (p : Param) (ps : List Param) : Type 0 where
  first : Declaration
  more : List Declaration
  are : declarations (p ∷ ps) ≡ first ∷ more
  kind : first.kind ≡ p.kind
  text : behind first more ≡ codes " " ++ (p.name ++ declared_after p.kind ps)

spaced_first : (x : List ℕ) (names : List (List ℕ)) (rest : List ℕ) → spaced (x ∷ names) ++ rest ≡ codes " " ++ (x ++ (spaced names ++ rest))
spaced_first x names rest = append_assoc (codes " " ++ x) (spaced names) rest

starts_run : (p : Param) (ps : List Param) → StartsRun p ps
starts_run p [] = record { first = record { kind = p.kind; first = p.name; others = [] }; more = []; are = refl; kind = refl; text = refl }
starts_run p (q ∷ qs) = at_run (starts_run q qs)
  where
    at_kind : (d : Declaration) (ds : List Declaration) → declarations (q ∷ qs) ≡ d ∷ ds → d.kind ≡ q.kind → behind d ds ≡ codes " " ++ (q.name ++ declared_after q.kind qs)
        → (v : Bool) → kind_is p.kind d.kind ≡ v → StartsRun p (q ∷ qs)
    at_kind d ds are kind text true e = record {
      first = record { kind = d.kind; first = p.name; others = d.first ∷ d.others };
      more = ds;
      are = ap (declared_before p) are ∙ ap (λ v. cond v (record { kind = d.kind; first = p.name; others = d.first ∷ d.others } ∷ ds) (record { kind = p.kind; first = p.name; others = [] } ∷ d ∷ ds)) e;
      kind = sym (kinds_equal p.kind d.kind e);
      text =
          ap (λ z. codes " " ++ (p.name ++ z)) (spaced_first d.first d.others (codes ";\n" ++ flat_map declaration_bytes ds) ∙ text)
          ∙ ap (λ z. codes " " ++ (p.name ++ z))
          (sym (append_assoc (codes " ") q.name (declared_after q.kind qs)) ∙ ap (λ v. cond v (codes " " ++ q.name) (codes ";\n" ++ first_bytes q) ++ declared_after q.kind qs) (sym (ap (kind_is p.kind) (sym kind) ∙ e)));
    }
    at_kind d ds are kind text false e = record {
      first = record { kind = p.kind; first = p.name; others = [] };
      more = d ∷ ds;
      are = ap (declared_before p) are ∙ ap (λ v. cond v (record { kind = d.kind; first = p.name; others = d.first ∷ d.others } ∷ ds) (record { kind = p.kind; first = p.name; others = [] } ∷ d ∷ ds)) e;
      kind = refl;
      text =
          ap (λ z. codes " " ++ (p.name ++ (codes ";\n" ++ z))) (all_of d ds ∙ ap (λ k. word_text (kind_word k) ++ behind d ds) kind ∙ ap (λ z. word_text (kind_word q.kind) ++ z) text)
          ∙ ap (λ z. codes " " ++ (p.name ++ z))
          (ap (λ z. codes ";\n" ++ z) (sym (append_assoc (word_text (kind_word q.kind)) (codes " " ++ q.name) (declared_after q.kind qs)))
          ∙ ap (λ v. cond v (codes " " ++ q.name) (codes ";\n" ++ first_bytes q) ++ declared_after q.kind qs) (sym (ap (kind_is p.kind) (sym kind) ∙ e)));
    }

    at_run : StartsRun q qs → StartsRun p (q ∷ qs)
    at_run run = at_kind run.first run.more run.are run.kind run.text (kind_is p.kind run.first.kind) refl

-- parameters that begin with this one
pub some_declared : (front : List ℕ) (p : Param) (ps : List Param) → (front ++ first_bytes p) ++ declared_after p.kind ps ≡ front ++ flat_map declaration_bytes (declarations (p ∷ ps))
some_declared front p ps =
    let run : StartsRun p ps = starts_run p ps in
    let whole : flat_map declaration_bytes (declarations (p ∷ ps)) ≡ word_text (kind_word p.kind) ++ (codes " " ++ (p.name ++ declared_after p.kind ps)) =
    ap (flat_map declaration_bytes) run.are ∙ all_of run.first run.more ∙ ap (λ k. word_text (kind_word k) ++ behind run.first run.more) run.kind ∙ ap (λ z. word_text (kind_word p.kind) ++ z) run.text in
    append_assoc front (first_bytes p) (declared_after p.kind ps)
    ∙ ap (λ z. front ++ z) (append_assoc (word_text (kind_word p.kind)) (codes " " ++ p.name) (declared_after p.kind ps) ∙ sym whole)

pub one_declared : (front : List ℕ) (k : Kind) (p : Param) (ps : List Param) → (front ++ next_bytes k p) ++ declared_after p.kind ps ≡ front ++ declared_after k (p ∷ ps)
one_declared front k p ps = append_assoc front (next_bytes k p) (declared_after p.kind ps)

-- ---- conditions
pub one_given : (front : List ℕ) (ps : List Param) (c : Condition) (cs : List Condition)
    → (front ++ given_bytes (canonical_condition ps c)) ++ flat_map given_bytes (map (canonical_condition ps) cs) ≡ front ++ flat_map given_bytes (map (canonical_condition ps) (c ∷ cs))
one_given front ps c cs = append_assoc front (given_bytes (canonical_condition ps c)) (flat_map given_bytes (map (canonical_condition ps) cs))

pub swaps_parts : (front : List ℕ) (ps : List Param) (x y : ℕ) (names : List ℕ) (r : Region)
    → (front ++ (codes "swaps " ++ (declared_name ps x ++ (codes " " ++ declared_name ps y)))) ++ (codes " over " ++ (over_bytes ps names ++ (codes " " ++ region_word r)))
    ≡ front ++ condition_bytes (canonical_condition ps (condition.Swaps x y names r))
swaps_parts front ps x y names r =
    let over : List ℕ = codes " over " ++ (over_bytes ps names ++ (codes " " ++ region_word r)) in
    append_assoc front (codes "swaps " ++ (declared_name ps x ++ (codes " " ++ declared_name ps y))) over
    ∙ ap (λ z. front ++ (codes "swaps " ++ z)) (append_assoc (declared_name ps x) (codes " " ++ declared_name ps y) over)
    ∙ at_names names
  where
    at_names : (names : List ℕ)
        → front ++ (codes "swaps " ++ (declared_name ps x ++ ((codes " " ++ declared_name ps y) ++ (codes " over " ++ (over_bytes ps names ++ (codes " " ++ region_word r))))))
        ≡ front ++ condition_bytes (canonical_condition ps (condition.Swaps x y names r))
    at_names [] = refl
    at_names (k ∷ []) = refl
    at_names (k ∷ l ∷ more) =
        ap (λ z. front ++ (codes "swaps " ++ (declared_name ps x ++ (codes " " ++ (declared_name ps y ++ (codes " over " ++ z)))))) (append_assoc (declared_name ps k) (codes ", " ++ declared_name ps l) (codes " " ++ region_word r))

-- ---- cuts
pub one_pair : (front : List ℕ) (a : ℕ × ℕ) (more : List (ℕ × ℕ))
    → (front ++ (codes ", " ++ pair_bytes a)) ++ flat_map (λ b. codes ", " ++ pair_bytes b) more ≡ front ++ flat_map (λ b. codes ", " ++ pair_bytes b) (a ∷ more)
one_pair front a more = append_assoc front (codes ", " ++ pair_bytes a) (flat_map (λ b. codes ", " ++ pair_bytes b) more)
