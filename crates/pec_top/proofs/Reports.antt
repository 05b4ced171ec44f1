-- The reports on the programs among some items, and then among others, are those among all of them.
use Rattle.std.proofs.Common.{◌≡◌, ◌+◌, ◌<◌, ℕ, List, [], ◌∷◌, ◌++◌, flat_map, length, take, get_or, refl, sym, ap, subst, ◌∙◌}
use Rattle.std.proofs.lemmas.List.{append-nil, append_assoc, map-append, take_more}
use Rattle.std.proofs.lemmas.List.Concat.{flat_map-append}
use Rattle.std.specs.List.{list_all}
use Rattle.toy_run.specs.declared.ran.Ran.{Ran}
use Rattle.toy_run.specs.Ran.{ComesTo}
use Rattle.toy_imp.specs.declared.rule.Rule.{Rule}
use Rattle.pec_top.specs.declared.content.Item.{Item}
use Rattle.pec_top.specs.declared.content.Item.TheVariants as item
use Rattle.pec_top.specs.declared.content.Program.{Program}
use Rattle.pec_top.specs.declared.content.TitledCertificate.{TitledCertificate}
use Rattle.pec_top.specs.declared.run_report.Outcome.{Outcome}
use Rattle.pec_top.specs.declared.output.Output.{Output}
use Rattle.pec_top.specs.Output.{IsRunReport}
use Rattle.pec_top.specs.Report.{ending_of_all}
use Rattle.pec_top.specs.RunReport.{program_report, outcome_of, outcomes_of, has_ended, last_report, Reports}
use Rattle.pec_top.specs.Runs.{ProgramRun, AreRuns}

runs_append : (steps : ℕ) (xs ys : List Item) (a b : List ProgramRun) → AreRuns steps xs a → AreRuns steps ys b → AreRuns steps (xs ++ ys) (a ++ b)
runs_append steps [] ys a b x y = subst (λ z. AreRuns steps ys (z ++ b)) (sym x) y
runs_append steps (item.Rule rule ∷ more) ys a b x y = runs_append steps more ys a b x y
runs_append steps (item.Certificate c ∷ more) ys a b x y = runs_append steps more ys a b x y
runs_append steps (item.Program program ∷ more) ys a b x y =
    (x.0, x.1 ++ b, ap (λ z. z ++ b) x.2, x.3, runs_append steps more ys x.1 b x.4 y)

regrouped : (A : Type 0) (start next last front back whole : List A) → next ≡ start ++ front → last ≡ next ++ back → whole ≡ front ++ back → last ≡ start ++ whole
regrouped A start next last front back whole p q r =
    q ∙ ap (λ z. z ++ back) p ∙ append_assoc start front back ∙ ap (λ z. start ++ z) (sym r)

pub reports_then : (steps : ℕ) (xs ys : List Item) (o o' o'' : List Outcome) (t t' t'' : List ℕ)
    → Reports steps xs o o' t t' → Reports steps ys o' o'' t' t'' → Reports steps (xs ++ ys) o o'' t t''
reports_then steps xs ys o o' o'' t t' t'' x y = record {
  runs = x.runs ++ y.runs;
  are = runs_append steps xs ys x.runs y.runs x.are y.are;
  outcomes_are = regrouped Outcome o o' o'' (outcomes_of x.runs) (outcomes_of y.runs) (outcomes_of (x.runs ++ y.runs))
      x.outcomes_are y.outcomes_are (map-append (λ (run : ProgramRun). outcome_of run.ran) x.runs y.runs);
  out_is = regrouped ℕ t t' t'' (flat_map program_report x.runs) (flat_map program_report y.runs) (flat_map program_report (x.runs ++ y.runs))
      x.out_is y.out_is (flat_map-append program_report x.runs y.runs);
}

pub reports_none : (steps : ℕ) (o : List Outcome) (t : List ℕ) → Reports steps [] o o t t
reports_none steps o t = record { runs = []; are = refl; outcomes_are = sym (append-nil o); out_is = sym (append-nil t) }

pub reports_rule : (steps : ℕ) (a : Item) (rule : Rule) (o : List Outcome) (t : List ℕ) → a ≡ item.Rule rule → Reports steps (a ∷ []) o o t t
reports_rule steps a rule o t is =
    subst (λ z. Reports steps (z ∷ []) o o t t) (sym is) (record { runs = []; are = refl; outcomes_are = sym (append-nil o); out_is = sym (append-nil t) })

pub reports_certificate : (steps : ℕ) (a : Item) (c : TitledCertificate) (o : List Outcome) (t : List ℕ) → a ≡ item.Certificate c → Reports steps (a ∷ []) o o t t
reports_certificate steps a c o t is =
    subst (λ z. Reports steps (z ∷ []) o o t t) (sym is) (record { runs = []; are = refl; outcomes_are = sym (append-nil o); out_is = sym (append-nil t) })

pub reports_program : (steps : ℕ) (a : Item) (program : Program) (ran : Ran) (o o' : List Outcome) (t t' : List ℕ) → a ≡ item.Program program
    → ComesTo program.block steps ran → t' ≡ t ++ program_report (record { title = program.title; ran = ran }) → o' ≡ o ++ outcome_of ran ∷ []
    → Reports steps (a ∷ []) o o' t t'
reports_program steps a program ran o o' t t' is comes out outcomes =
    subst (λ z. Reports steps (z ∷ []) o o' t t') (sym is)
    (record {
      runs = record { title = program.title; ran = ran } ∷ [];
      are = (ran, [], refl, comes, refl);
      outcomes_are = outcomes;
      out_is = out ∙ ap (λ z. t ++ z) (sym (append-nil (program_report (record { title = program.title; ran = ran }))));
    })

-- with one item more, at place i
pub reports_more : (steps : ℕ) (items : List Item) (i : ℕ) (a : Item) (o o' o'' : List Outcome) (t t' t'' : List ℕ) → i < length items → a ≡ get_or items i a
    → Reports steps (take i items) o o' t t' → Reports steps (a ∷ []) o' o'' t' t'' → Reports steps (take (i + 1) items) o o'' t t''
reports_more steps items i a o o' o'' t t' t'' within is x y =
    let longer : take i items ++ a ∷ [] ≡ take (i + 1) items = ap (λ z. take i items ++ z ∷ []) is ∙ sym (take_more items i a within) in
    subst (λ z. Reports steps z o o'' t t'') longer (reports_then steps (take i items) (a ∷ []) o o' o'' t t' t'' x y)

-- and with the last report they are the whole
pub reports_whole : (steps : ℕ) (items : List Item) (o : List Outcome) (t : List ℕ) (output : Output) → Reports steps items [] o [] t
    → output.text ≡ t ++ last_report o → output.ending ≡ ending_of_all (list_all has_ended o) → IsRunReport steps items output
reports_whole steps items o t output x text ending = record {
  runs = x.runs;
  are = x.are;
  text = text ∙ ap (λ z. z ++ last_report o) x.out_is ∙ ap (λ z. flat_map program_report x.runs ++ last_report z) x.outcomes_are;
  ending = ending ∙ ap (λ z. ending_of_all (list_all has_ended z)) x.outcomes_are;
}
