-- A cell of a name that does not stand in a text may be written before or after: the text reads other cells and writes other cells.
use Rattle.std.specs.Prelude.{◌≡◌, ◌≢◌, ℤ, false, List, [], ◌∷◌}
use Rattle.std.proofs.Common.{sym, ◌∙◌, ap, subst}
use Rattle.toy_imp.specs.declared.name.Name.{Name}
use Rattle.toy_imp.specs.Cell.{Cell, spelled}
use Rattle.toy_imp.specs.Store.{Store, write}
use Rattle.toy_imp.specs.Block.{Block}
use Rattle.toy_imp.specs.Run.{before}
use Rattle.toy_imp.specs.Ends.{Ends}
use Rattle.toy_imp.proofs.Stores.{write_keeps_others}
use Rattle.side_conditions.specs.Each.{Each}
use Rattle.side_conditions.specs.Seeking.{reads_name, writes_name}
use Rattle.side_conditions.specs.Frame.{Write, expr_cells, test_cells, reads, writes, written}
use Rattle.side_conditions.specs.FrameLaws.{Agree, IsApart}
use Rattle.side_conditions.specs.IgnoreLaws.{AbsentIgnoredByExpr, AbsentIgnoredByTest, AbsentIgnoredByStmt}
use Rattle.side_conditions.proofs.Framing.{value_alike, truth_alike}
use Rattle.side_conditions.proofs.Within.{expr_apart, test_apart, block_reads_other, block_writes_other}
use Rattle.side_conditions.proofs.Apart.{EndsBy, ends_by, moved, past}
use Rattle.side_conditions.proofs.Keeping.{agree_beside}

pub absent_ignored_by_expr : AbsentIgnoredByExpr
absent_ignored_by_expr e x h = record {
  same = λ s at v. sym (value_alike s (write s (spelled x, at) v) e (agree_beside (expr_cells e s) s (spelled x, at) v (expr_apart (spelled x) e s h)));
}

pub absent_ignored_by_test : AbsentIgnoredByTest
absent_ignored_by_test q x h = record {
  same = λ s at v. sym (truth_alike s (write s (spelled x, at) v) q (agree_beside (test_cells q s) s (spelled x, at) v (test_apart (spelled x) q s h)));
}

agree_without : (cs : List Cell) (s : Store) (c : Cell) (v : ℤ) → Each (λ (d : Cell). d.0 ≢ c.0) cs → Agree cs (write s c v) s
agree_without [] s c v h = tt
agree_without (d ∷ cs) s c v h = (write_keeps_others s c v d (λ e. h.0 (ap (λ (f : Cell). f.0) e)), agree_without cs s c v h.1)

cell_apart : (c : Cell) (ws : List Write) → Each (λ (w : Write). w.0.0 ≢ c.0) ws → IsApart c ws
cell_apart c [] h = tt
cell_apart c (w ∷ ws) h = (λ e. h.0 (sym (ap (λ (f : Cell). f.0) e)), cell_apart c ws h.1)

module _ (b : Block) (x : Name) (unread : reads_name b (spelled x) ≡ false) (unwritten : writes_name b (spelled x) ≡ false) (at : List ℤ) (v : ℤ) where
  written_before : (s u : Store) → Ends b (write s (spelled x, at) v) u → (t : Store) × Ends b s t × (u ≡ write t (spelled x, at) v)
  written_before s u r =
      let c : Cell = (spelled x, at) in
      let run : EndsBy b (write s c v) u = ends_by b (write s c v) u r in
      let ws : List Write = writes run.steps (before b []) (write s c v) in
      let others : Agree (reads run.steps (before b []) (write s c v)) (write s c v) s =
      agree_without (reads run.steps (before b []) (write s c v)) s c v (block_reads_other (spelled x) b run.steps (write s c v) unread unwritten) in
      let e : Ends b s (written s ws) = moved b (write s c v) s run.steps run.nothing_left others in
      let is : u ≡ write (written s ws) c v = sym run.store_is ∙ past ws s c v (cell_apart c ws (block_writes_other (spelled x) b run.steps (write s c v) unwritten)) in
      (written s ws, e, is)

  written_behind : (s t : Store) → Ends b s t → Ends b (write s (spelled x, at) v) (write t (spelled x, at) v)
  written_behind s t r =
      let c : Cell = (spelled x, at) in
      let run : EndsBy b s t = ends_by b s t r in
      let ws : List Write = writes run.steps (before b []) s in
      let others : Agree (reads run.steps (before b []) s) s (write s c v) =
      agree_beside (reads run.steps (before b []) s) s c v (block_reads_other (spelled x) b run.steps s unread unwritten) in
      let e : Ends b (write s c v) (written (write s c v) ws) = moved b s (write s c v) run.steps run.nothing_left others in
      let is : written (write s c v) ws ≡ write t c v = past ws s c v (cell_apart c ws (block_writes_other (spelled x) b run.steps s unwritten)) ∙ ap (λ u. write u c v) run.store_is in
      subst (λ u. Ends b (write s c v) u) is e

pub absent_ignored_by_stmt : AbsentIgnoredByStmt
absent_ignored_by_stmt b x unread unwritten = record { to = λ at v s u r. written_before b x unread unwritten at v s u r; back = λ at v s t r. written_behind b x unread unwritten at v s t r }
