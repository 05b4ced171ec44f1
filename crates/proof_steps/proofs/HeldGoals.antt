-- The goal of an obligation that holds is true where its premises are, under a table that is faithful whatever is to be shown.
use Rattle.std.specs.Prelude.{◌≡◌, true, false}
use Rattle.std.proofs.Common.{sym, true≢false}
use Rattle.term_meaning.specs.Meaning.{conjunct_truth}
use Rattle.term_meaning.proofs.InUse.{by_truth}
use Rattle.proof_steps.specs.RefuteLaws.{HeldGoalIsTrue}

-- what is never reached is chosen as what is to be shown
pub held_goal_is_true : HeldGoalIsTrue
held_goal_is_true ob holds i fits meets T l r faithful covers known path =
    by_truth (conjunct_truth i T l r ob.goal ≡ true) (conjunct_truth i T l r ob.goal)
    (λ h. h)
    (λ h. absurd (true≢false (sym (holds.shows (λ n. false) i fits meets T l r (faithful (λ n. false)) covers known path h).1)))
