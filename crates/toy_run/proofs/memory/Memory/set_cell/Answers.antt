use Rattle.std.proofs.Common.{◌≡◌, ◌∙◌, sym, ap, subst, refl, List, [], ◌∷◌, ◌++◌, All, Result, Ok, Err, OnOk, OnErr, arith, to_z, of_z}
use Rattle.std.specs.Int.{w128}
use Rattle.std.specs.List.Sorted.{IsStrictlySortedBy}
use Rattle.std.proofs.lemmas.Int.{ints}
use Rattle.toy_imp.specs.Store.{Store, write}
use Rattle.toy_run.specs.declared.cell.Cell.{Cell}
use Rattle.toy_run.specs.Cells.{cell_order, has_indices}
use Rattle.toy_run.specs.Memory.{store_in}
use Rattle.toy_run.specs.Place.{cell_of}
use Rattle.toy_run.specs.Stored.{with_cells, IsApart, IsBehind, IsCellAt}
use Rattle.toy_run.proofs.InOrder.{apart_write, pushed, pushed_in_order, pushed_indexed, changed, changed_in_order, changed_indexed}
use Rattle.toy_run.proofs.memory.Memory.set_cell.Goals as goal

kept : {A B : Type 0} (r : Result A B) (P : List Cell → Type 0) (cs new next : List Cell) → OnOk r (new ≡ next) → OnErr r (new ≡ cs) → P cs → P next → P new
kept (Ok a) P cs new next ok err before after = subst P (sym ok) after
kept (Err b) P cs new next ok err before after = subst P (sym err) before

pub invariant_of-self-then-is_behind : goal.invariant_of-self-then-is_behind
invariant_of-self-then-is_behind c =
    let cells = c.args.self.now.ascending in
    let cell = c.in_ok-placed.field-0 in
    let behind : IsBehind (cell_of c.args.place) cells = subst (IsBehind (cell_of c.args.place)) c.as_slice.ensures (c.is_behind.ensures c.if-is_behind.true) in
    record {
      in_order = kept c.push.result (IsStrictlySortedBy cell_order) cells c.push.new.self _ c.push.ensures.ok c.push.ensures.err c.args.self.now.in_order
          (pushed_in_order cells (cells ++ cell ∷ []) cell (cell_of c.args.place) refl c.in_ok-placed.ensures.0 c.args.self.now.in_order behind);
      indexed = kept c.push.result (All has_indices) cells c.push.new.self _ c.push.ensures.ok c.push.ensures.err c.args.self.now.indexed
          (pushed_indexed cells (cells ++ cell ∷ []) cell (cell_of c.args.place) refl c.in_ok-placed.ensures.0 c.args.self.now.indexed c.requires);
    }

pub returns-then-is_behind : goal.returns-then-is_behind
returns-then-is_behind c =
    let back : to_z w128 (of_z w128 c.args.value) ≡ c.args.value = omega (arith, ints) in
    let behind : IsBehind (cell_of c.args.place) c.args.self.now.ascending = subst (IsBehind (cell_of c.args.place)) c.as_slice.ensures (c.is_behind.ensures c.if-is_behind.true) in
    pushed c.args.self.now.ascending c.push.new.self c.in_ok-placed.field-0 _ (cell_of c.args.place) c.args.value c.in_ok-push.ensures.ok c.in_ok-placed.ensures.0 (c.in_ok-placed.ensures.1 ∙ back) behind

pub invariant_of-self-in-Some : goal.invariant_of-self-in-Some
invariant_of-self-in-Some c =
    let at : IsCellAt c.args.self.now.ascending (cell_of c.args.place) c.in-Some.at = subst (λ l. IsCellAt l (cell_of c.args.place) c.in-Some.at) c.as_slice-2.ensures c.in-Some.ensures in
    record {
      in_order = changed_in_order c.args.self.now.ascending c.set.new.self c.in-Some.at c.in_ok-placed-in-Some.field-0 (cell_of c.args.place) c.set.ensures c.in_ok-placed-in-Some.ensures.0 c.args.self.now.in_order at;
      indexed = changed_indexed c.args.self.now.ascending c.set.new.self c.in-Some.at c.in_ok-placed-in-Some.field-0 (cell_of c.args.place) c.set.ensures c.in_ok-placed-in-Some.ensures.0 c.args.self.now.indexed c.requires;
    }

pub returns-in_ok-placed-in-Some : goal.returns-in_ok-placed-in-Some
returns-in_ok-placed-in-Some c =
    let back : to_z w128 (of_z w128 c.args.value) ≡ c.args.value = omega (arith, ints) in
    let at : IsCellAt c.args.self.now.ascending (cell_of c.args.place) c.in-Some.at = subst (λ l. IsCellAt l (cell_of c.args.place) c.in-Some.at) c.as_slice-2.ensures c.in-Some.ensures in
    changed c.args.self.now.ascending c.set.new.self _ c.in-Some.at c.in_ok-placed-in-Some.field-0 (cell_of c.args.place) c.args.value c.set.ensures c.in_ok-placed-in-Some.ensures.0 (c.in_ok-placed-in-Some.ensures.1 ∙ back) c.args.self.now.in_order at

written : {A B : Type 0} (r : Result A B) (t u v w : Store) → OnOk r (t ≡ u) → (t ≡ u → v ≡ w) → OnOk r (v ≡ w)
written (Ok a) t u v w h f = f h
written (Err b) t u v w h f = h

pub returns-in-None : goal.returns-in-None
returns-in-None c =
    let back : to_z w128 (of_z w128 c.args.value) ≡ c.args.value = omega (arith, ints) in
    let apart : IsApart (cell_of c.args.place) c.args.self.now.ascending = subst (IsApart (cell_of c.args.place)) c.as_slice-2.ensures c.in-None.ensures in
    written c.set_cell.result _ _ _ _ c.set_cell.ensures
    (λ made. ap (with_cells c.args.self.now.ascending) made
    ∙ apart_write c.args.self.now.ascending _ (cell_of c.args.place) (to_z w128 (of_z w128 c.args.value)) apart
    ∙ ap (write (store_in c.args.self.now) (cell_of c.args.place)) back)
