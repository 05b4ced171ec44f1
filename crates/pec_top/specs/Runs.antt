-- The programs of an input in order, each with what its run from the empty store comes to.
use Rattle.std.specs.Prelude.{◌≡◌, ℕ, List, [], ◌∷◌}
use Rattle.toy_run.specs.declared.ran.Ran.{Ran}
use Rattle.toy_run.specs.Ran.{ComesTo}
use Rattle.pec_top.specs.declared.content.Item.{Item}
use Rattle.pec_top.specs.declared.content.Item.TheVariants as item

pub record ProgramRun : Type 0 where
  pub title : List ℕ
  pub ran : Ran

-- these are the programs among the items, each run for at most so many steps
abbrev pub AreRuns : ℕ → List Item → List ProgramRun → Type 0
AreRuns steps [] runs = runs ≡ []
AreRuns steps (item.Rule rule ∷ more) runs = AreRuns steps more runs
AreRuns steps (item.Certificate c ∷ more) runs = AreRuns steps more runs
AreRuns steps (item.Program program ∷ more) runs =
    (ran : Ran) × (others : List ProgramRun) × (runs ≡ record { title = program.title; ran = ran } ∷ others)
    × ComesTo program.block steps ran × AreRuns steps more others
