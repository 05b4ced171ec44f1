-- The report of `prove`: a line for each rule in order, and how many there are, are proved and are refused.
use Rattle.std.specs.Prelude.{ℕ, Bool, true, false, not, List, ◌++◌, length, codes, decimal, flat_map, count_by}
use Rattle.std.specs.List.{list_all}
use Rattle.pec_top.specs.declared.output.Ending.{Ending}
use Rattle.pec_top.specs.declared.output.Ending.TheVariants as ending
use Rattle.pec_top.specs.declared.verdict.Verdict.{Verdict}

abbrev pub verdict_word : Bool → List ℕ
verdict_word true = codes " proved\n"
verdict_word false = codes " refused\n"

abbrev pub verdict_line : Verdict → List ℕ
verdict_line verdict = codes "rule " ++ (verdict.title ++ verdict_word verdict.is_proved)

-- a word, a number and the end of the line
abbrev pub count_line : List ℕ → ℕ → List ℕ
count_line word count = word ++ (decimal count ++ codes "\n")

abbrev pub proved_count : List Verdict → ℕ
proved_count all = count_by (λ verdict. verdict.is_proved) all

abbrev pub refused_count : List Verdict → ℕ
refused_count all = count_by (λ verdict. not verdict.is_proved) all

abbrev pub counts_text : List Verdict → List ℕ
counts_text all =
    count_line (codes "rules ") (length all) ++ (count_line (codes "proved ") (proved_count all) ++ count_line (codes "refused ") (refused_count all))

abbrev pub report_text : List Verdict → List ℕ
report_text all = codes "report prove\n" ++ (flat_map verdict_line all ++ (counts_text all ++ codes "end\n"))

-- how the program ends where all went well, and where not all did
abbrev pub ending_of_all : Bool → Ending
ending_of_all true = ending.Done
ending_of_all false = ending.SomeFailed

-- each rule is proved, or some is refused
abbrev pub report_ending : List Verdict → Ending
report_ending all = ending_of_all (list_all (λ verdict. verdict.is_proved) all)
