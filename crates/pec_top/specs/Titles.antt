-- The titles of the sections of one kind, and of the rules of method chain, among those that were read.
use Rattle.std.specs.Prelude.{ℕ, Bool, true, false, ◌==◌, List, [], ◌∷◌, bytes_eq, flat_map, if◌then◌else◌}
use Rattle.std.specs.List.{list_any}
use Rattle.toy_imp.specs.declared.rule.Method.{Method}
use Rattle.toy_imp.specs.declared.rule.Method.TheVariants as method
use Rattle.pec_text.specs.declared.section_data.Section.{Section}
use Rattle.pec_text.specs.declared.section_data.SectionKind.{SectionKind}
use Rattle.pec_text.specs.declared.section_data.SectionKind.TheVariants as kind
use Rattle.pec_top.specs.declared.content.Item.{Item}
use Rattle.pec_top.specs.declared.content.Item.TheVariants as item

-- the number of a kind, a different one for each
abbrev pub kind_number : SectionKind → ℕ
kind_number kind.Rule = 0
kind_number kind.Program = 1
kind_number kind.Cert = 2
kind_number kind.Refused = 3
kind_number kind.Trace = 4
kind_number kind.Report = 5
kind_number kind.Chain = 6

abbrev pub is_kind : SectionKind → SectionKind → Bool
is_kind a b = kind_number a == kind_number b

-- the title of a section of this kind, and none of another
abbrev pub title_as : SectionKind → Section → List (List ℕ)
title_as kind section = if is_kind kind section.kind then section.title ∷ [] else []

abbrev pub titles_of : SectionKind → List Section → List (List ℕ)
titles_of kind sections = flat_map (title_as kind) sections

-- whether a section of this kind has this title
abbrev pub has_title : SectionKind → List ℕ → List Section → Bool
has_title kind title sections = list_any (bytes_eq title) (titles_of kind sections)

abbrev pub is_chain : Method → Bool
is_chain method.Simulate = false
is_chain method.Permute = false
is_chain method.Chain = true
is_chain method.Tile = false

-- the title of a rule of method chain, and none of another item
abbrev pub chain_title : Item → List (List ℕ)
chain_title (item.Rule rule) = if is_chain rule.method then rule.title ∷ [] else []
chain_title (item.Program program) = []
chain_title (item.Certificate c) = []

-- whether a rule of method chain has this title
abbrev pub has_chain_rule : List ℕ → List Item → Bool
has_chain_rule title items = list_any (bytes_eq title) (flat_map chain_title items)

-- whether a rule, a program, a rule of method chain, a `chain` section has a title
pub record Namesakes : Type 0 where
  pub rule : Bool
  pub program : Bool
  pub chain_rule : Bool
  pub chain : Bool

-- of this title, among these sections, which hold these items
abbrev pub namesakes : List ℕ → List Section → List Item → Namesakes
namesakes title sections items = record {
  rule = has_title kind.Rule title sections;
  program = has_title kind.Program title sections;
  chain_rule = has_chain_rule title items;
  chain = has_title kind.Chain title sections;
}
