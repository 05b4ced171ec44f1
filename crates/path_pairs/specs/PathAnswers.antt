-- What a call that walks answers: the paths in order, or the first limit that they pass. No memory is a free answer.
use Rattle.std.specs.Prelude.{ℕ, ◌≡◌, nat_lt, true, false, List, ◌++◌, length, None, Some, Result, Ok, Err}
use Rattle.std.specs.List.{list_any}
use Rattle.toy_imp.specs.declared.rule.Rule.{Rule}
use Rattle.rule_terms.specs.declared.path.Path.{Path}
use Rattle.rule_terms.specs.Counts.{saturated}
use Rattle.rule_terms.specs.declared.limit.LimitKind.TheVariants.{PathSteps, PathNodes}
use Rattle.path_pairs.specs.declared.cut_points.CutPoints.{CutPoints}
use Rattle.path_pairs.specs.declared.cut_points.Side.{Side}
use Rattle.path_pairs.specs.declared.refusal.PathRefusal.{PathRefusal}
use Rattle.path_pairs.specs.declared.refusal.PathRefusal.TheVariants.{Limit, NoMemory}
use Rattle.path_pairs.specs.Paths.{is_large_path, is_long, paths, path_limit}

abbrev pub PathsAnswer : Rule → CutPoints → Side → ℕ → Result (List Path) PathRefusal → Type 0
PathsAnswer rule cuts side p (Ok all) = (path_limit rule cuts side p ≡ None) × (all ≡ paths rule cuts side p)
PathsAnswer rule cuts side p (Err (Limit what)) = path_limit rule cuts side p ≡ Some what
PathsAnswer rule cuts side p (Err NoMemory) = Unit {0}

-- What a call that counts them answers: how many they are, or that some walk is too long.
abbrev pub CountAnswer : Rule → CutPoints → Side → ℕ → Result ℕ PathRefusal → Type 0
CountAnswer rule cuts side p (Ok n) = (is_long rule cuts side p ≡ false) × (n ≡ saturated (length (paths rule cuts side p)))
CountAnswer rule cuts side p (Err (Limit what)) = (is_long rule cuts side p ≡ true) × (what ≡ PathSteps)
CountAnswer rule cuts side p (Err NoMemory) = Unit {0}

-- A walk of so many nodes is refused.
abbrev pub RefusesNodes : ℕ → PathRefusal → Type 0
RefusesNodes n (Limit what) = (what ≡ PathNodes) × (nat_lt 4096 n ≡ true)
RefusesNodes n NoMemory = Unit {0}

-- Paths are added behind those that were found; or one of them is too large.
abbrev pub Adds : {A : Type 0} → List Path → List Path → List Path → Result A PathRefusal → Type 0
Adds found before after (Ok u) = (after ≡ before ++ found) × (list_any is_large_path found ≡ false)
Adds found before after (Err (Limit what)) = (what ≡ PathNodes) × (list_any is_large_path found ≡ true)
Adds found before after (Err NoMemory) = Unit {0}

-- Paths are built; or one of them is too large.
abbrev pub Builds : List Path → Result (List Path) PathRefusal → Type 0
Builds found (Ok all) = (all ≡ found) × (list_any is_large_path found ≡ false)
Builds found (Err (Limit what)) = (what ≡ PathNodes) × (list_any is_large_path found ≡ true)
Builds found (Err NoMemory) = Unit {0}
