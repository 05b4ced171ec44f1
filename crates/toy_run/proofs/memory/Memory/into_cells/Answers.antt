use Rattle.std.proofs.Common.{◌≡◌, subst, All, Result, Ok, Err, IfOk}
use Rattle.toy_imp.specs.Store.{Store}
use Rattle.toy_run.specs.declared.cell.Cell.{Cell}
use Rattle.std.specs.Prelude.{List}
use Rattle.toy_run.specs.Cells.{AreCells, is_not_zero}
use Rattle.toy_run.specs.Stored.{empty_store, with_cells}
use Rattle.toy_run.proofs.Merging.{all_in_order, both_listed}
use Rattle.toy_run.proofs.memory.Memory.into_cells.Goals as goal

pub returns-then-no_zero : goal.returns-then-no_zero
returns-then-no_zero c =
    let nonzero : All is_not_zero c.args.self.ascending = subst (All is_not_zero) c.as_slice.ensures (c.no_zero.ensures c.if-no_zero.true) in
    all_in_order c.args.self.ascending _ _ c.in_ok-rest.ensures (c.is_empty.ensures.0 c.if-is_empty.true) c.args.self.in_order nonzero

listed : {B : Type 0} (r : Result (List Cell) B) (xs cs ys os : List Cell) (s : Store) → xs ≡ cs → os ≡ ys → AreCells s ys → IfOk r (λ all. AreCells (with_cells xs (with_cells os empty_store)) all)
    → IfOk r (λ all. AreCells (with_cells cs s) all)
listed (Ok all) xs cs ys os s e f are h =
    both_listed cs ys all s are (subst (λ l. AreCells (with_cells cs (with_cells l empty_store)) all) f (subst (λ l. AreCells (with_cells l (with_cells os empty_store)) all) e h))
listed (Err b) xs cs ys os s e f are h = h

pub returns : goal.returns
returns c = listed c.merged.result _ _ _ _ _ c.as_slice-2.ensures c.as_slice-3.ensures c.in_ok-rest.ensures c.merged.ensures
