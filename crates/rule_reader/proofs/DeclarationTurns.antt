-- The turns of the loops that read declarations and the names in one.
use Rattle.std.proofs.Common.{◌≡◌, ℕ, ◌+◌, ◌-◌, ◌<◌, List, [], ◌∷◌, ◌++◌, map, None, Some, sym, ◌∙◌, ap, refl, append_assoc}
use Rattle.toy_imp.specs.declared.param.Kind.{Kind}
use Rattle.toy_imp.specs.declared.param.Param.{Param}
use Rattle.toy_imp.specs.RuleGrammar.{declared_by}
use Rattle.pec_text.specs.declared.token.Token.{Token}
use Rattle.program_reader.specs.Read.{ReadStmt, and_next}
use Rattle.rule_reader.specs.Front.{valued, with_found, name_read, items_read}
use Rattle.rule_reader.specs.DeclarationReading.{kind_read, is_some, is_declared, names_read, declaration_of, declared_read, declaration_read, param_of}
use Rattle.rule_reader.proofs.ItemTurns.{items_joined, items_unread}

first_declared : (k : Kind) (found : List Param) (x : List ℕ) (r : ReadStmt (List (List ℕ)))
    → with_found found (valued declared_by (valued (declaration_of k x) r)) ≡ with_found (found ++ (param_of k x ∷ [])) (valued (map (param_of k)) r)
first_declared k found x None = refl
first_declared k found x (Some p) = ap (λ z. Some (z, p.1)) (sym (append_assoc found (param_of k x ∷ []) (map (param_of k) p.0)))

-- behind the first name, whose parameter was found
pub declared_first : (k : Kind) (found made : List Param) (x : List ℕ) (tokens rest : List Token) → name_read tokens ≡ Some (x, rest) → made ≡ found ++ (param_of k x ∷ [])
    → with_found found (valued declared_by (declared_read k tokens)) ≡ with_found made (valued (map (param_of k)) (names_read rest))
declared_first k found made x tokens rest read is =
    ap (λ r. with_found found (valued declared_by (and_next r (λ x rest. valued (declaration_of k x) (names_read rest))))) read
    ∙ first_declared k found x (names_read rest)
    ∙ ap (λ z. with_found z (valued (map (param_of k)) (names_read rest))) (sym is)

module _ (found : List Param) (n at : ℕ) (rest after : List Token) (k : Kind) (whole : ReadStmt (List Param)) (below : at < n) (word : kind_read rest ≡ Some (k, after))
    (inv : with_found found (items_read is_declared (λ rest. valued declared_by (declaration_read rest)) (n - at) rest) ≡ whole) where
  pub params_more : (all : List Param) (behind : List Token) → with_found found (valued declared_by (declared_read k after)) ≡ Some (all, behind)
      → with_found all (items_read is_declared (λ rest. valued declared_by (declaration_read rest)) (n - (at + 1)) behind) ≡ whole
  params_more all behind read =
      items_joined is_declared (λ rest. valued declared_by (declaration_read rest)) found all n at rest behind whole below (ap is_some word) inv
      (ap (λ r. with_found found (valued declared_by (and_next r declared_read))) word ∙ read)

  pub params_unread : with_found found (valued declared_by (declared_read k after)) ≡ None → whole ≡ None
  params_unread read =
      items_unread is_declared (λ rest. valued declared_by (declaration_read rest)) found n at rest whole below (ap is_some word) inv
      (ap (λ r. with_found found (valued declared_by (and_next r declared_read))) word ∙ read)
