-- What the machine does of one item: its step where it is narrow, and nothing where it is not.
-- Given are the store and the work behind the item before, and the store and the work after.
use Rattle.std.specs.Prelude.{◌≡◌, List}
use Rattle.toy_imp.specs.Store.{Store}
use Rattle.toy_imp.specs.Run.{Item, step}
use Rattle.toy_run.specs.declared.step.Width.{Width}
use Rattle.toy_run.specs.declared.step.Width.TheVariants.{Narrow, Wide}
use Rattle.toy_run.specs.Narrow.{NarrowItem}

abbrev pub Does : Item → Store → List Item → Width → Store → List Item → Type 0
Does item s work Narrow t after = NarrowItem item s × (t ≡ (step item s work).store) × (after ≡ (step item s work).work)
Does item s work Wide t after = ¬ (NarrowItem item s)
