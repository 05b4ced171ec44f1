-- The titles that were seen while sections are read one after another, and what one more section adds to them.
use Rattle.std.specs.Prelude.{◌≡◌, ℕ, Bool, false, List, [], ◌∷◌, ◌++◌, bytes_eq, map, if◌then◌else◌}
use Rattle.std.specs.Borrow.{Bor}
use Rattle.std.specs.List.{list_any}
use Rattle.pec_text.specs.declared.section_data.Section.{Section}
use Rattle.pec_text.specs.declared.section_data.SectionKind.{SectionKind}
use Rattle.pec_text.specs.declared.section_data.SectionKind.TheVariants as kind
use Rattle.pec_top.specs.declared.content.Content.{Content}
use Rattle.pec_top.specs.declared.content.Content.TheVariants as content
use Rattle.pec_top.specs.declared.content.Item.TheVariants as item
use Rattle.pec_top.specs.declared.titles.Titles.{Titles}
use Rattle.pec_top.specs.Titles.{is_kind, is_chain, Namesakes}

-- the titles in a list of borrowed titles; where a title is borrowed from does not count
abbrev pub titles_in : List (Bor (List ℕ)) → List (List ℕ)
titles_in titles = map (λ title. title.now) titles

-- whether a title is among these
abbrev pub is_among : List ℕ → List (Bor (List ℕ)) → Bool
is_among title titles = list_any (bytes_eq title) (titles_in titles)

-- what was seen of a title
abbrev pub namesakes_in : Titles → List ℕ → Namesakes
namesakes_in titles title = record {
  rule = is_among title titles.rules.keys;
  program = is_among title titles.programs.keys;
  chain_rule = is_among title titles.chain_rules.keys;
  chain = is_among title titles.chains.keys;
}

-- what was seen, and a title that may be new
abbrev pub with_title : List (List ℕ) → List ℕ → List (List ℕ)
with_title seen title = if list_any (bytes_eq title) seen then seen else seen ++ title ∷ []

-- what was seen, and the title of a section where it is of this kind
abbrev pub seen_with : SectionKind → List (List ℕ) → Section → List (List ℕ)
seen_with kind seen section = if is_kind kind section.kind then with_title seen section.title else seen

abbrev pub is_chain_rule : Content → Bool
is_chain_rule (content.Item (item.Rule rule)) = is_chain rule.method
is_chain_rule (content.Item (item.Program program)) = false
is_chain_rule (content.Item (item.Certificate c)) = false
is_chain_rule content.Nothing = false
is_chain_rule (content.Refused reason) = false

-- what was seen, and a title where a rule of method chain was found under it
abbrev pub chain_seen_with : List (List ℕ) → List ℕ → Content → List (List ℕ)
chain_seen_with seen title found = if is_chain_rule found then with_title seen title else seen

-- a section was read that holds this
pub record Sees (old new : Titles) (section : Section) (found : Content) : Type 0 where
  pub rules : titles_in new.rules.keys ≡ seen_with kind.Rule (titles_in old.rules.keys) section
  pub programs : titles_in new.programs.keys ≡ seen_with kind.Program (titles_in old.programs.keys) section
  pub chain_rules : titles_in new.chain_rules.keys ≡ chain_seen_with (titles_in old.chain_rules.keys) section.title found
  pub chains : titles_in new.chains.keys ≡ seen_with kind.Chain (titles_in old.chains.keys) section
