use Rattle.std.proofs.Common.{◌≡◌, ◌∙◌, sym, ap, subst, get_or, arith, rules, FitsSigned}
use Rattle.std.specs.Int.{w128}
use Rattle.std.proofs.lemmas.Int.{ints}
use Rattle.toy_imp.specs.Store.{read}
use Rattle.toy_run.specs.Memory.{store_in}
use Rattle.toy_run.specs.Place.{cell_of}
use Rattle.toy_run.specs.Stored.{IsApart, IsCellAt}
use Rattle.toy_run.proofs.InOrder.{apart_read, found_value}
use Rattle.toy_run.proofs.memory.Memory.cell.Goals as goal

pub returns-in-Some : goal.returns-in-Some
returns-in-Some c =
    let fits : FitsSigned w128 c.index-cells-at.result.value = search rules in
    let at : IsCellAt c.args.self.now.ascending (cell_of c.args.place.now) c.in-Some.at = subst (λ l. IsCellAt l (cell_of c.args.place.now) c.in-Some.at) c.as_slice-cells.ensures c.in-Some.ensures in
    let e : (get_or c.as_slice-cells.result.now c.in-Some.at c.index-cells-at.result).value ≡ read (store_in c.args.self.now) (cell_of c.args.place.now) =
    ap (λ l. (get_or l c.in-Some.at c.index-cells-at.result).value) c.as_slice-cells.ensures ∙ found_value c.args.self.now.ascending _ c.in-Some.at (cell_of c.args.place.now) c.index-cells-at.result c.args.self.now.in_order at in
    let is : c.index-cells-at.result.value ≡ (get_or c.as_slice-cells.result.now c.in-Some.at c.index-cells-at.result).value = ap (λ x. x.value) c.index-cells-at.is in
    omega (arith, ints, e, is, fits)

pub returns-in-None : goal.returns-in-None
returns-in-None c =
    let fits : FitsSigned w128 c.cell.result = search rules in
    let apart : IsApart (cell_of c.args.place.now) c.args.self.now.ascending = subst (IsApart (cell_of c.args.place.now)) c.as_slice-cells.ensures c.in-None.ensures in
    let e : c.cell.result ≡ read (store_in c.args.self.now) (cell_of c.args.place.now) = c.cell.ensures ∙ sym (apart_read c.args.self.now.ascending _ (cell_of c.args.place.now) apart) in
    omega (arith, ints, e)
