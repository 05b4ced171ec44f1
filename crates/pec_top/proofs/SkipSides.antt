-- A side of `skip;` and statement parameters is the same as its parameters one after another.
-- So two sides that keep the same parameters are the same, and their rule is valid.
use Rattle.std.proofs.Common.{◌≡◌, ℕ, Bool, true, false, List, [], ◌∷◌, ◌&&◌, refl, sym, subst}
use Rattle.std.specs.List.{list_all}
use Rattle.std.proofs.lemmas.Slice.Eq.{bytes_eq-Decides}
use Rattle.toy_imp.specs.declared.rule.Rule.{Rule}
use Rattle.toy_imp.specs.declared.instance.Instance.{Instance}
use Rattle.toy_imp.specs.Block.{skip, put, assert_that, if_then, while_do, for_to, let_in, par_stmt, Block, empty, stmt, append}
use Rattle.toy_imp.specs.Ends.{Same}
use Rattle.toy_imp.specs.Fill.{fill, fill_stmt, block_at}
use Rattle.toy_imp.specs.Valid.{Valid}
use Rattle.toy_imp.proofs.Alikes.{same_self, same_chain, same_turned, skip_drops, parts_replaced}
use Rattle.pec_top.specs.SkipForm.{is_simulated, are_default, are_none, is_statement, is_side, are_sides, is_skip_rule, kept, sides_agree}

-- the fillings of these parameters one after another
abbrev pub joined : Instance → List ℕ → Block
joined i [] = empty
joined i (k ∷ ks) = append (block_at i k) (joined i ks)

and_first : (a b : Bool) → (a && b) ≡ true → a ≡ true
and_first true b h = refl
and_first false b h = cc

and_second : (a b : Bool) → (a && b) ≡ true → b ≡ true
and_second true b h = h
and_second false b h = cc

last_of : (a b c d e : Bool) → (a && (b && (c && (d && e)))) ≡ true → e ≡ true
last_of a b c d e h = and_second d e (and_second c (d && e) (and_second b (c && (d && e)) (and_second a (b && (c && (d && e))) h)))

side_same : (i : Instance) (b : Block) → is_side b ≡ true → Same (fill i b) (joined i (kept b))
unfolding fill fill_stmt
side_same i empty h = same_self empty
side_same i (stmt skip b) h = same_chain _ _ _ (skip_drops empty (fill i b)) (side_same i b h)
side_same i (stmt (par_stmt k) b) h = parts_replaced _ _ _ _ (same_self (block_at i k)) (side_same i b h)
side_same i (stmt (put x is e) b) h = cc
side_same i (stmt (assert_that t) b) h = cc
side_same i (stmt (if_then t c d) b) h = cc
side_same i (stmt (while_do t c) b) h = cc
side_same i (stmt (for_to x lo hi c) b) h = cc
side_same i (stmt (let_in x e c) b) h = cc

agreeing_valid : (rule : Rule) → is_side rule.left ≡ true → is_side rule.right ≡ true → kept rule.left ≡ kept rule.right → Valid rule
agreeing_valid rule left right same = record {
  same = λ i fits meets. same_chain _ _ _ (side_same i rule.left left)
      (subst (λ ks. Same (joined i ks) (fill i rule.right)) (sym same) (same_turned _ _ (side_same i rule.right right)));
}

-- a rule in the form whose sides agree is valid
pub proved_valid : (rule : Rule) → is_skip_rule rule ≡ true → sides_agree rule ≡ true → Valid rule
proved_valid rule form agree =
    let sides : are_sides rule ≡ true =
    last_of (is_simulated rule.method) (are_default rule.cuts) (are_none rule.conditions) (list_all is_statement rule.params) (are_sides rule) form in
    agreeing_valid rule (and_first (is_side rule.left) (is_side rule.right) sides) (and_second (is_side rule.left) (is_side rule.right) sides)
    ((bytes_eq-Decides (kept rule.left) (kept rule.right)).0 agree)
