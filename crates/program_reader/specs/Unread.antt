-- What a reader of tokens answers, against what is read: its result, seen through `view`, is what is read, and tokens
-- that are not in the grammar are those of which nothing is read. Memory may be wanting.
use Rattle.std.specs.Prelude.{◌≡◌, Option, None, Some, Result, MatchResult}
use Rattle.program_reader.specs.declared.refusal.Unread.{Unread}
use Rattle.program_reader.specs.declared.refusal.Unread.TheVariants.{NotGrammar}

abbrev pub Gives : {A B : Type 0} → (A → B) → Result A Unread → Option B → Type 0
Gives view result read = MatchResult result (λ x. read ≡ Some (view x)) (λ unread. unread ≡ NotGrammar → read ≡ None)
