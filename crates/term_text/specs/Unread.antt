-- What a reader answers: what is read, or why nothing is.
use Rattle.std.specs.Prelude.{◌≡◌, Option, Some, None, MatchResult}
use Rattle.std.specs.declared.result.Result.{Result}
use Rattle.term_text.specs.declared.refusal.Unread.{Unread}
use Rattle.term_text.specs.declared.refusal.Unread.TheVariants.{NotGrammar}

-- without memory it says nothing
abbrev pub Gives : {A B : Type 0} → (A → B) → Result A Unread → Option B → Type 0
Gives view result read = MatchResult result (λ x. read ≡ Some (view x)) (λ unread. unread ≡ NotGrammar → read ≡ None)
