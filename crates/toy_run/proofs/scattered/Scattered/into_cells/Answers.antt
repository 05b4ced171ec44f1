use Rattle.std.proofs.Common.{◌≡◌, ◌∙◌, ap₂, subst, arith, rules, true, false, IfOk, FitsSigned, to_z, of_z}
use Rattle.std.specs.Int.{w128}
use Rattle.std.proofs.lemmas.Int.{ints}
use Rattle.toy_imp.specs.Store.{write}
use Rattle.toy_run.specs.Cells.{AreCells}
use Rattle.toy_run.specs.Stored.{store_of, store_by}
use Rattle.toy_run.proofs.Variables.{last_moves, none_left}
use Rattle.toy_run.proofs.scattered.Scattered.into_cells.Goals as goal

pub loop-name-preserved : goal.loop-name-preserved
loop-name-preserved c =
    let fits : FitsSigned w128 c.in-Some.value = search rules in
    let back : to_z w128 (of_z w128 c.in-Some.value) ≡ c.in-Some.value = omega (arith, ints, fits) in (
      last_moves c.loop-name.variables.entries c.pop_last.new.self.entries c.in-Some.name c.in-Some.value c.loop-name.cells.entries c.put.new.cells.entries
          (store_by c.args.self.variables.entries c.args.self.cells.entries) c.loop-name.invariant.0 c.in-Some.ensures.removal
          (c.in_ok-put.ensures.stored ∙ ap₂ (λ l z. write (store_of c.loop-name.cells.entries) (c.in-Some.name.now, l) z) c.new.ensures back),
      c.in_ok-put.ensures.no_zero,
    )

pub returns : goal.returns
returns c =
    subst (λ t. IfOk c.listed.result (λ cells. AreCells t cells))
    (none_left c.loop-name.variables.entries c.loop-name.cells.entries (store_by c.args.self.variables.entries c.args.self.cells.entries)
    (λ h. let clash : false ≡ true = c.in_default.ensures.variant.1 h in cc) c.loop-name.invariant.0)
    c.listed.ensures
