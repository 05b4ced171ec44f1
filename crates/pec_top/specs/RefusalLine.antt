-- The line for an input that is refused.
use Rattle.std.specs.Prelude.{ℕ, List, ◌++◌, codes, decimal}
use Rattle.pec_top.specs.declared.content.Reason.{Reason}
use Rattle.pec_top.specs.declared.content.Reason.TheVariants as reason
use Rattle.pec_top.specs.declared.input.Refusal.{Refusal}

abbrev pub reason_text : Reason → List ℕ
reason_text reason.NoEnd = codes "no end"
reason_text reason.StrayLine = codes "stray line"
reason_text reason.NotGrammar = codes "not in the grammar"
reason_text reason.TooWide = codes "number too wide"
reason_text (reason.IllFormed item) = codes "ill formed F" ++ decimal item
reason_text reason.NotBuilt = codes "not built"

abbrev pub refusal_line : Refusal → List ℕ
refusal_line refusal = codes "input: section " ++ (decimal refusal.section ++ (codes ": " ++ (reason_text refusal.reason ++ codes "\n")))

abbrev pub larger_line : List ℕ
larger_line = codes "input: larger than 1048576 bytes\n"
