-- The report of `check`: a line for each certificate in order, and how many are valid and are not.
use Rattle.std.specs.Prelude.{◌≡◌, ℕ, Bool, true, false, not, List, [], ◌++◌, codes, flat_map, count_by}
use Rattle.std.specs.List.{list_all}
use Rattle.pec_top.specs.declared.check.Check.{Check}
use Rattle.pec_top.specs.declared.content.Item.{Item}
use Rattle.pec_top.specs.declared.output.Ending.{Ending}
use Rattle.pec_top.specs.declared.output.Output.{Output}
use Rattle.pec_top.specs.Checks.{AreChecks}
use Rattle.pec_top.specs.Report.{count_line, ending_of_all}

abbrev pub check_word : Bool → List ℕ
check_word true = codes " valid\n"
check_word false = codes " not valid\n"

abbrev pub check_line : Check → List ℕ
check_line check = codes "cert " ++ (check.title ++ check_word check.is_valid)

abbrev pub valid_count : List Check → ℕ
valid_count all = count_by (λ check. check.is_valid) all

abbrev pub not_valid_count : List Check → ℕ
not_valid_count all = count_by (λ check. not check.is_valid) all

abbrev pub check_counts : List Check → List ℕ
check_counts all = count_line (codes "valid ") (valid_count all) ++ count_line (codes "not valid ") (not_valid_count all)

abbrev pub checks_text : List Check → List ℕ
checks_text all = codes "report check\n" ++ (flat_map check_line all ++ (check_counts all ++ codes "end\n"))

-- each certificate is valid, or some is not
abbrev pub checks_ending : List Check → Ending
checks_ending all = ending_of_all (list_all (λ check. check.is_valid) all)

pub record IsCheckReport (items : List Item) (output : Output) : Type 0 where
  pub checks : List Check
  pub are : AreChecks [] items checks
  pub text : output.text ≡ checks_text checks
  pub ending : output.ending ≡ checks_ending checks
