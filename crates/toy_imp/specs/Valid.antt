-- A rule is valid where for each instance that fits it and meets its conditions both sides end alike and halt alike.
-- That is: from every store, in the same stores, the left side exactly where the right side does.
use Rattle.std.specs.Prelude.{◌≡◌, true}
use Rattle.toy_imp.specs.declared.rule.Rule.{Rule}
use Rattle.toy_imp.specs.declared.instance.Instance.{Instance}
use Rattle.toy_imp.specs.Ends.{Same}
use Rattle.toy_imp.specs.Fill.{fill}
use Rattle.toy_imp.specs.Fits.{fits}
use Rattle.toy_imp.specs.Meets.{MeetsAll}

pub record Valid (rule : Rule) : Type 0 where
  pub same : (i : Instance) → fits i rule ≡ true → MeetsAll i rule.conditions → Same (fill i rule.left) (fill i rule.right)
