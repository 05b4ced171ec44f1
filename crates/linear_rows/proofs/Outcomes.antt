-- What a stage comes to, by what the next one comes to.
use Rattle.std.proofs.Common.{◌≡◌, ℕ, suc, ◌+◌, ℤ, List, false, Result, Ok, sym, ap, ◌∙◌, subst}
use Rattle.std.specs.Prelude.{IfOk, All}
use Rattle.std.specs.List.{list_any}
use Rattle.std.proofs.lemmas.Bool.{cond-false}
use Rattle.linear_rows.specs.declared.elimination.Found.{Found}
use Rattle.linear_rows.specs.Stage.{is_never_met, next_stage}
use Rattle.linear_rows.specs.Elimination.{Outcome, empty, after_stage, with_first, outcome_of, IsEliminated, Refutes}
use Rattle.linear_rows.specs.Found.{IsFound}
use Rattle.linear_rows.proofs.Gathered.{if_ok_then}
use Rattle.linear_rows.specs.declared.row.Row.{Row}
use Rattle.linear_rows.specs.declared.answer.Rows.{Rows}
use Rattle.linear_rows.specs.declared.answer.Rows.TheVariants.{Empty, Point, Limit}
use Rattle.linear_rows.specs.Row.{IsRowOver}
use Rattle.linear_rows.proofs.Weighing.{no_solution}

pub outcome_goes_on : {E : Type 0} (r : Result Found E) (n k m : ℕ) (stage next : List (List ℤ)) (found : Found) → n ≡ suc m → list_any is_never_met stage ≡ false →
    next_stage stage ≡ Ok next → IsFound (outcome_of m (k + 1) next) found →
    IfOk r (λ more. (o : Outcome) → IsFound o found → IsFound (with_first k stage o) more) → IfOk r (IsFound (outcome_of n k stage))
outcome_goes_on r n k m stage next found n_is never next_is found_is h =
    let go = λ (s : List (List ℤ)). with_first k stage (outcome_of m (k + 1) s) in
    let e : outcome_of n k stage ≡ with_first k stage (outcome_of m (k + 1) next) =
    ap (λ x. outcome_of x k stage) n_is ∙ cond-false (list_any is_never_met stage) empty (after_stage go (k + 1) (next_stage stage)) never ∙ ap (after_stage go (k + 1)) next_is in
    if_ok_then r _ (IsFound (outcome_of n k stage)) h (λ more f. subst (λ (o : Outcome). IsFound o more) (sym e) (f (outcome_of m (k + 1) next) found_is))

-- an answer of the elimination whose steps check leaves no point
pub eliminated_refutes : (n : ℕ) (rows : List Row) → All (IsRowOver n) rows → (answer : Rows) → IsEliminated n rows answer → Refutes rows answer
eliminated_refutes n rows over (Empty steps) is = no_solution n rows steps over is.1
eliminated_refutes n rows over (Point xs) is = tt
eliminated_refutes n rows over (Limit mark) is = tt
