-- What an input holds: the items of its sections in order, or the first section that is refused.
-- Sections are numbered from 1, reports too.
use Rattle.std.specs.Prelude.{◌≡◌, ◌⊎◌, ◌+◌, List, [], ◌∷◌, ◌++◌, length, Option, None, Some}
use Rattle.pec_text.specs.declared.section_data.Section.{Section}
use Rattle.pec_text.specs.declared.section_data.SectionList.{SectionList}
use Rattle.pec_text.specs.declared.section_data.TextRefusal.{TextRefusal}
use Rattle.pec_text.specs.declared.section_data.TextRefusal.TheVariants.{Unended, Stray}
use Rattle.pec_top.specs.declared.command.Command.{Command}
use Rattle.pec_top.specs.declared.content.Content.{Content}
use Rattle.pec_top.specs.declared.content.Content.TheVariants as content
use Rattle.pec_top.specs.declared.content.Item.{Item}
use Rattle.pec_top.specs.declared.content.Reason.TheVariants as reason
use Rattle.pec_top.specs.declared.input.Input.{Input}
use Rattle.pec_top.specs.declared.input.Input.TheVariants as input
use Rattle.pec_top.specs.declared.input.Refusal.{Refusal}
use Rattle.pec_top.specs.Content.{Holds}

-- the content of a section that is not refused, and its item where it has one
abbrev pub taken : Option Item → Content
taken None = content.Nothing
taken (Some item) = content.Item item

abbrev pub listed : Option Item → List Item
listed None = []
listed (Some item) = item ∷ []

-- none of the sections is refused behind the earlier ones, which hold these items, and their own items are the last list
abbrev pub HoldAll : Command → List Section → List Item → List Section → List Item → Type 0
HoldAll command earlier held [] items = items ≡ []
HoldAll command earlier held (section ∷ more) items =
    (first : Option Item) × (others : List Item) × (items ≡ listed first ++ others)
    × Holds command earlier held section (taken first) × HoldAll command (earlier ++ section ∷ []) (held ++ listed first) more others

-- one of the sections is refused, and none before it
pub record IsRefusedWithin (command : Command) (sections : List Section) (refusal : Refusal) : Type 0 where
  pub before : List Section
  pub section : Section
  pub behind : List Section
  pub in_order : sections ≡ before ++ section ∷ behind
  pub items : List Item
  pub accepted : HoldAll command [] [] before items
  pub refused : Holds command before items section (content.Refused refusal.reason)
  pub number : refusal.section ≡ length before + 1

-- why what stands behind the whole sections of a text is refused, where it is
abbrev pub rest_refusal : Option TextRefusal → Option Refusal
rest_refusal None = None
rest_refusal (Some (Unended k)) = Some (record { section = k; reason = reason.NoEnd })
rest_refusal (Some (Stray k)) = Some (record { section = k; reason = reason.StrayLine })

-- what stands behind the whole sections is refused, and none of these
pub record IsRefusedBehind (command : Command) (text : SectionList) (refusal : Refusal) : Type 0 where
  pub items : List Item
  pub accepted : HoldAll command [] [] text.whole items
  pub rest : rest_refusal text.rest ≡ Some refusal

-- what the sections of a text are as an input
abbrev pub InputIs : Command → SectionList → Input → Type 0
InputIs command text (input.Accepted items) = HoldAll command [] [] text.whole items × (text.rest ≡ None)
InputIs command text (input.Refused refusal) = IsRefusedWithin command text.whole refusal ⊎ IsRefusedBehind command text refusal
InputIs command text input.Larger = ⊥

-- the sections of a text are one input under a command
abbrev pub OneInput : Type 0
OneInput = (command : Command) (text : SectionList) (a b : Input) → InputIs command text a → InputIs command text b → a ≡ b
