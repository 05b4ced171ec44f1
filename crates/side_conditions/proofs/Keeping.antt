-- A block keeps what it does not write: each of its writes is into a cell that the expression does not read.
use Rattle.std.specs.Prelude.{◌≡◌, ◌≢◌, ℕ, ℤ, true, false, List, [], ◌∷◌, refl}
use Rattle.std.proofs.Common.{sym, ◌∙◌, ap}
use Rattle.toy_imp.specs.declared.name.Name.{Name}
use Rattle.toy_imp.specs.Cell.{Cell, spelled, variable}
use Rattle.toy_imp.specs.Store.{Store, read, write}
use Rattle.toy_imp.specs.Value.{value}
use Rattle.toy_imp.specs.Truth.{truth}
use Rattle.toy_imp.specs.Block.{Block}
use Rattle.toy_imp.specs.Expr.{Expr}
use Rattle.toy_imp.specs.Test.{Test}
use Rattle.toy_imp.specs.Run.{before}
use Rattle.toy_imp.specs.Ends.{Ends}
use Rattle.toy_imp.proofs.Stores.{write_keeps_others}
use Rattle.side_conditions.specs.Each.{Each}
use Rattle.side_conditions.specs.Places.{expr_has, test_has}
use Rattle.side_conditions.specs.Seeking.{named, writes_name}
use Rattle.side_conditions.specs.Frame.{Write, expr_cells, test_cells, writes, written}
use Rattle.side_conditions.specs.FrameLaws.{Agree, IsWithinText}
use Rattle.side_conditions.specs.KeepLaws.{UnwrittenExprKept, UnwrittenTestKept, UnwrittenNameKept}
use Rattle.side_conditions.proofs.Framing.{value_alike, truth_alike, written_keeps}
use Rattle.side_conditions.proofs.Within.{expr_apart, test_apart, block_writes_other, within_text}
use Rattle.side_conditions.proofs.Apart.{EndsBy, ends_by}

-- a write into a cell of another name than all of these
pub agree_beside : (cs : List Cell) (s : Store) (c : Cell) (v : ℤ) → Each (λ (d : Cell). d.0 ≢ c.0) cs → Agree cs s (write s c v)
agree_beside [] s c v h = tt
agree_beside (d ∷ cs) s c v h = (sym (write_keeps_others s c v d (λ e. h.0 (ap (λ (f : Cell). f.0) e))), agree_beside cs s c v h.1)

expr_written : (b : Block) (e : Expr) → ((z : List ℕ) → writes_name b z ≡ true → expr_has (named z) e ≡ false) → (ws : List Write) (s : Store)
    → Each (λ (w : Write). writes_name b w.0.0 ≡ true) ws → value e (written s ws) ≡ value e s
expr_written b e apart [] s h = refl
expr_written b e apart (w ∷ ws) s h =
    expr_written b e apart ws (write s w.0 w.1) h.1
    ∙ sym (value_alike s (write s w.0 w.1) e (agree_beside (expr_cells e s) s w.0 w.1 (expr_apart w.0.0 e s (apart w.0.0 h.0))))

test_written : (b : Block) (q : Test) → ((z : List ℕ) → writes_name b z ≡ true → test_has (named z) q ≡ false) → (ws : List Write) (s : Store)
    → Each (λ (w : Write). writes_name b w.0.0 ≡ true) ws → truth q (written s ws) ≡ truth q s
test_written b q apart [] s h = refl
test_written b q apart (w ∷ ws) s h =
    test_written b q apart ws (write s w.0 w.1) h.1
    ∙ sym (truth_alike s (write s w.0 w.1) q (agree_beside (test_cells q s) s w.0 w.1 (test_apart w.0.0 q s (apart w.0.0 h.0))))

name_apart : (x : Name) (ws : List Write) → Each (λ (w : Write). w.0.0 ≢ spelled x) ws → Each (λ (w : Write). variable x ≢ w.0) ws
name_apart x [] h = tt
name_apart x (w ∷ ws) h = (λ e. h.0 (sym (ap (λ (f : Cell). f.0) e)), name_apart x ws h.1)

pub unwritten_expr_kept : UnwrittenExprKept
unwritten_expr_kept b e apart = record {
  kept = λ s t r.
      let run : EndsBy b s t = ends_by b s t r in
      let text : IsWithinText b run.steps s = within_text b run.steps s in
      ap (value e) (sym run.store_is) ∙ expr_written b e apart (writes run.steps (before b []) s) s text.written_names;
}

pub unwritten_test_kept : UnwrittenTestKept
unwritten_test_kept b q apart = record {
  kept = λ s t r.
      let run : EndsBy b s t = ends_by b s t r in
      let text : IsWithinText b run.steps s = within_text b run.steps s in
      ap (truth q) (sym run.store_is) ∙ test_written b q apart (writes run.steps (before b []) s) s text.written_names;
}

pub unwritten_name_kept : UnwrittenNameKept
unwritten_name_kept b x h = record {
  kept = λ s t r.
      let run : EndsBy b s t = ends_by b s t r in
      ap (λ u. read u (variable x)) (sym run.store_is)
      ∙ written_keeps (writes run.steps (before b []) s) s (variable x) (name_apart x (writes run.steps (before b []) s) (block_writes_other (spelled x) b run.steps s h));
}
