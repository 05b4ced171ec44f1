-- Sections that are not refused, one after another: their items, and what was seen of titles, with one section more; and that
-- each item can be written down.
use Rattle.std.proofs.Common.{◌≡◌, ◌+◌, ◌<◌, ℕ, Bool, true, false, not, ◌&&◌, List, [], ◌∷◌, ◌++◌, All, Option, None, Some, Result, Ok, Err, length, take, drop, get_or, if◌then◌else◌, refl, sym, ap, subst, ◌∙◌, arith}
use Rattle.std.proofs.lemmas.List.{append-nil, append_assoc, take-append-drop, take_more, drop_more, length-take-le}
use Rattle.std.proofs.lemmas.List.Elements.{All-nil, All-cons, All-head, All-tail}
use Rattle.toy_imp.specs.declared.rule.Rule.{Rule}
use Rattle.toy_imp.specs.Block.{Block}
use Rattle.pec_text.specs.Id.{is_id}
use Rattle.pec_text.specs.declared.section_data.Section.{Section}
use Rattle.pec_text.specs.declared.section_data.SectionKind.{SectionKind}
use Rattle.pec_text.specs.declared.section_data.SectionKind.TheVariants as kind
use Rattle.program_reader.specs.declared.refusal.ReadRule.{ReadRule}
use Rattle.program_reader.specs.declared.refusal.ReadRule.TheVariants as read
use Rattle.program_reader.specs.Grammar.{ProgramAnswer}
use Rattle.program_reader.specs.RuleText.{SpellsRule, RuleAnswer}
use Rattle.program_reader.proofs.ReadSpellable.{read_is_spellable}
use Rattle.program_reader.proofs.RuleSpellable.{read_rule_is_spellable}
use Rattle.pec_top.specs.declared.command.Command.{Command}
use Rattle.pec_top.specs.declared.content.Content.{Content}
use Rattle.pec_top.specs.declared.content.Content.TheVariants as content
use Rattle.pec_top.specs.declared.content.Item.{Item}
use Rattle.pec_top.specs.declared.content.Item.TheVariants as item
use Rattle.pec_top.specs.declared.content.Reason.{Reason}
use Rattle.pec_top.specs.declared.content.Reason.TheVariants as reason
use Rattle.pec_top.specs.declared.titles.Titles.{Titles}
use Rattle.cert_checker.specs.declared.certificate.Certificate.{Certificate}
use Rattle.term_text.specs.declared.refusal.Unread.{Unread}
use Rattle.term_text.specs.declared.refusal.Unread.TheVariants as why
use Rattle.pec_top.specs.Content.{is_prove, is_built, unread, program_content, resting_content, certificate_content, chain_content, rule_read_content, program_read_content, certificate_read_content}
use Rattle.pec_top.specs.Content.{RuleHolds, ProgramHolds, CertSectionHolds, KindHolds, Holds}
use Rattle.pec_top.specs.FaultlessItems.{IsFaultless}
use Rattle.pec_top.specs.LaterFormats.{is_later_format}
use Rattle.pec_top.specs.Input.{taken, listed, HoldAll, IsRefusedWithin}
use Rattle.pec_top.specs.PrintedItems.{IsSpellable}
use Rattle.pec_top.specs.Seen.{titles_in, namesakes_in, Sees}
use Rattle.pec_top.specs.Titles.{is_kind, is_chain, Namesakes}
use Rattle.pec_top.proofs.Seeing.{IsTitled, SeenOf, none_seen, seen_more}

-- ---- what is taken is not refused
not_taken : (why : Reason) (first : Option Item) → content.Refused why ≡ taken first → ⊥
not_taken why None h = cc
not_taken why (Some a) h = cc

unread_not_taken : (refusal : ReadRule) (first : Option Item) → unread refusal ≡ Some (taken first) → ⊥
unread_not_taken read.NotGrammar None h = cc
unread_not_taken read.NotGrammar (Some a) h = cc
unread_not_taken read.Wide None h = cc
unread_not_taken read.Wide (Some a) h = cc
unread_not_taken (read.IllFormed f) None h = cc
unread_not_taken (read.IllFormed f) (Some a) h = cc
unread_not_taken read.NoMemory first h = cc

chain_not_taken_by : (a b : Bool) (first : Option Item)
    → taken first ≡ (if a then content.Refused (reason.IllFormed 14) else if b then content.Refused reason.NotBuilt else content.Refused (reason.IllFormed 15)) → ⊥
chain_not_taken_by true b None h = cc
chain_not_taken_by true b (Some a) h = cc
chain_not_taken_by false true None h = cc
chain_not_taken_by false true (Some a) h = cc
chain_not_taken_by false false None h = cc
chain_not_taken_by false false (Some a) h = cc

pub chain_not_taken : (command : Command) (has_rule repeated : Bool) (first : Option Item) → taken first ≡ chain_content command has_rule repeated → ⊥
chain_not_taken command has_rule repeated first h = chain_not_taken_by (is_prove command) (has_rule && not repeated) first h

pub resting_not_taken : (has_rule : Bool) (first : Option Item) → taken first ≡ resting_content has_rule → ⊥
resting_not_taken true None h = cc
resting_not_taken true (Some a) h = cc
resting_not_taken false None h = cc
resting_not_taken false (Some a) h = cc

-- what a rule section is that is not refused
pub record RuleTaken (command : Command) (repeated : Bool) (section : Section) (first : Option Item) : Type 0 where
  pub rule : Rule
  pub answer : RuleAnswer section.title section.body (Ok rule)
  pub new : repeated ≡ false
  pub built : is_built command rule ≡ true
  pub one : first ≡ Some (item.Rule rule)

rule_taken_by : (repeated late built : Bool) (rule : Rule) (first : Option Item)
    → Some (if repeated then content.Refused (reason.IllFormed 12) else if late then content.Refused (reason.IllFormed 14)
    else if built then content.Item (item.Rule rule) else content.Refused reason.NotBuilt) ≡ Some (taken first)
    → (repeated ≡ false) × (built ≡ true) × (first ≡ Some (item.Rule rule))
rule_taken_by true late built rule None h = cc
rule_taken_by true late built rule (Some a) h = cc
rule_taken_by false true built rule None h = cc
rule_taken_by false true built rule (Some a) h = cc
rule_taken_by false false false rule None h = cc
rule_taken_by false false false rule (Some a) h = cc
rule_taken_by false false true rule None h = cc
rule_taken_by false false true rule (Some a) h = (refl, refl, cc)

rule_answer_taken : (command : Command) (repeated : Bool) (section : Section) (first : Option Item) (answered : Result Rule ReadRule)
    → RuleAnswer section.title section.body answered → rule_read_content command repeated answered ≡ Some (taken first) → RuleTaken command repeated section first
rule_answer_taken command repeated section first (Ok rule) answer h =
    let parts = rule_taken_by repeated (is_prove command && is_chain rule.method) (is_built command rule) rule first h in
    record { rule = rule; answer = answer; new = parts.0; built = parts.1; one = parts.2 }
rule_answer_taken command repeated section first (Err refusal) answer h = absurd (unread_not_taken refusal first h)

pub rule_taken : (command : Command) (repeated : Bool) (section : Section) (first : Option Item)
    → RuleHolds command repeated section (taken first) → RuleTaken command repeated section first
rule_taken command repeated section first h = rule_answer_taken command repeated section first h.read h.answer h.is

-- what a `cert` section is that is not refused
pub record CertificateTaken (section : Section) (first : Option Item) : Type 0 where
  pub certificate : Certificate
  pub one : first ≡ Some (item.Certificate (record { title = section.title; certificate = certificate }))

certificate_taken_by : (has_rule : Bool) (section : Section) (c : Certificate) (first : Option Item)
    → Some (certificate_content has_rule section.title c) ≡ Some (taken first) → CertificateTaken section first
certificate_taken_by true section c None h = cc
certificate_taken_by true section c (Some a) h = record { certificate = c; one = cc }
certificate_taken_by false section c None h = cc
certificate_taken_by false section c (Some a) h = cc

certificate_answer_taken : (has_rule : Bool) (section : Section) (first : Option Item) (read : Result Certificate Unread)
    → certificate_read_content has_rule section.title read ≡ Some (taken first) → CertificateTaken section first
certificate_answer_taken has_rule section first (Ok c) h = certificate_taken_by has_rule section c first h
certificate_answer_taken has_rule section None (Err why.NotGrammar) h = cc
certificate_answer_taken has_rule section (Some a) (Err why.NotGrammar) h = cc
certificate_answer_taken has_rule section first (Err why.NoMemory) h = cc

pub certificate_taken : (later has_rule : Bool) (section : Section) (first : Option Item) → CertSectionHolds later has_rule section (taken first) → CertificateTaken section first
certificate_taken true has_rule section first h = absurd (resting_not_taken has_rule first h)
certificate_taken false has_rule section first h = certificate_answer_taken has_rule section first h.read h.is

-- what a program section is that is not refused
pub record ProgramTaken (repeated : Bool) (section : Section) (first : Option Item) : Type 0 where
  pub block : Block
  pub answer : ProgramAnswer section.body (Ok block)
  pub new : repeated ≡ false
  pub one : first ≡ Some (item.Program (record { title = section.title; block = block }))

program_taken_by : (repeated : Bool) (title : List ℕ) (block : Block) (first : Option Item)
    → Some (program_content repeated title block) ≡ Some (taken first)
    → (repeated ≡ false) × (first ≡ Some (item.Program (record { title = title; block = block })))
program_taken_by true title block None h = cc
program_taken_by true title block (Some a) h = cc
program_taken_by false title block None h = cc
program_taken_by false title block (Some a) h = (refl, cc)

program_answer_taken : (repeated : Bool) (section : Section) (first : Option Item) (answered : Result Block ReadRule)
    → ProgramAnswer section.body answered → program_read_content repeated section.title answered ≡ Some (taken first) → ProgramTaken repeated section first
program_answer_taken repeated section first (Ok block) answer h =
    let parts = program_taken_by repeated section.title block first h in
    record { block = block; answer = answer; new = parts.0; one = parts.1 }
program_answer_taken repeated section first (Err refusal) answer h = absurd (unread_not_taken refusal first h)

pub program_taken : (repeated : Bool) (section : Section) (first : Option Item) → ProgramHolds repeated section (taken first) → ProgramTaken repeated section first
program_taken repeated section first h = program_answer_taken repeated section first h.read h.answer h.is

pub nothing_taken : (first : Option Item) → taken first ≡ content.Nothing → first ≡ None
nothing_taken None h = refl
nothing_taken (Some a) h = cc

false_is_not_true : false ≡ true → ⊥
false_is_not_true h = cc

pub new_rule : (k : SectionKind) (command : Command) (known : Namesakes) (section : Section) (first : Option Item)
    → KindHolds k command known section (taken first) → is_kind kind.Rule k ≡ true → known.rule ≡ false
new_rule kind.Rule command known section first h is = (rule_taken command known.rule section first h).new
new_rule kind.Program command known section first h is = absurd (false_is_not_true is)
new_rule kind.Cert command known section first h is = absurd (false_is_not_true is)
new_rule kind.Refused command known section first h is = absurd (false_is_not_true is)
new_rule kind.Trace command known section first h is = absurd (false_is_not_true is)
new_rule kind.Report command known section first h is = absurd (false_is_not_true is)
new_rule kind.Chain command known section first h is = absurd (false_is_not_true is)

-- a rule has the title of its section
pub rule_titled : (section : Section) (rule : Rule) → SpellsRule section.title section.body rule → rule.title ≡ section.title
rule_titled section rule x = ap (λ (r : Rule). r.title) (sym x.value)

kind_titled : (k : SectionKind) (command : Command) (known : Namesakes) (section : Section) (first : Option Item)
    → KindHolds k command known section (taken first) → IsTitled first section.title
kind_titled kind.Rule command known section first h =
    let parts = rule_taken command known.rule section first h in
    subst (λ z. IsTitled z section.title) (sym parts.one) (rule_titled section parts.rule parts.answer.0)
kind_titled kind.Program command known section first h = subst (λ z. IsTitled z section.title) (sym (program_taken known.program section first h).one) tt
kind_titled kind.Report command known section first h = subst (λ z. IsTitled z section.title) (sym (nothing_taken first h)) tt
kind_titled kind.Cert command known section first h =
    subst (λ z. IsTitled z section.title) (sym (certificate_taken (is_later_format section.body) known.rule section first h).one) tt
kind_titled kind.Refused command known section first h = absurd (resting_not_taken known.rule first h)
kind_titled kind.Trace command known section first h = absurd (resting_not_taken known.rule first h)
kind_titled kind.Chain command known section first h = absurd (chain_not_taken command known.chain_rule known.chain first h)

-- ---- a section behind those that are not refused
pub holds_at : (command : Command) (section : Section) (found : Content) (earlier earlier' : List Section) (items items' : List Item)
    → earlier ≡ earlier' → items ≡ items' → Holds command earlier items section found → Holds command earlier' items' section found
holds_at command section found earlier earlier' items items' sections_are items_are h =
    subst (λ z. Holds command z items' section found) sections_are (subst (λ z. Holds command earlier z section found) items_are h)

-- by the titles that were seen
pub holds_here : (command : Command) (titles : Titles) (earlier : List Section) (items : List Item) (section : Section) (found : Content)
    → SeenOf titles earlier items → KindHolds section.kind command (namesakes_in titles section.title) section found → Holds command earlier items section found
holds_here command titles earlier items section found seen h = subst (λ z. KindHolds section.kind command z section found) (seen section.title) h

-- ---- items
hold_more : (command : Command) (earlier : List Section) (held : List Item) (sections : List Section) (items : List Item) (section : Section) (first : Option Item)
    → HoldAll command earlier held sections items → Holds command (earlier ++ sections) (held ++ items) section (taken first)
    → HoldAll command earlier held (sections ++ section ∷ []) (items ++ listed first)
hold_more command earlier held [] items section first all here = (
  first,
  [],
  ap (λ z. z ++ listed first) all ∙ sym (append-nil (listed first)),
  holds_at command section (taken first) (earlier ++ []) earlier (held ++ items) held (append-nil earlier) (ap (λ z. held ++ z) all ∙ append-nil held) here,
  refl,
)
hold_more command earlier held (s ∷ more) items section first all here = (
  all.0,
  all.1 ++ listed first,
  ap (λ z. z ++ listed first) all.2 ∙ append_assoc (listed all.0) all.1 (listed first),
  all.3,
  hold_more command (earlier ++ s ∷ []) (held ++ listed all.0) more all.1 section first all.4
      (holds_at command section (taken first) (earlier ++ s ∷ more) ((earlier ++ s ∷ []) ++ more) (held ++ items) ((held ++ listed all.0) ++ all.1)
      (sym (append_assoc earlier (s ∷ []) more)) (ap (λ z. held ++ z) all.2 ∙ sym (append_assoc held (listed all.0) all.1)) here),
)

-- ---- a turn over the sections of a text, at place i
-- the first i sections are not refused, and these are their items and what was seen of titles
pub record AcceptedSoFar (command : Command) (sections : List Section) (i number : ℕ) (items : List Item) (titles : Titles) : Type 0 where
  pub counted : number ≡ i
  pub accepted : HoldAll command [] [] (take i sections) items
  pub seen : SeenOf titles (take i sections) items

pub none_accepted : (command : Command) (sections : List Section) (titles : Titles) → titles_in titles.rules.keys ≡ [] → titles_in titles.programs.keys ≡ []
    → titles_in titles.chain_rules.keys ≡ [] → titles_in titles.chains.keys ≡ [] → AcceptedSoFar command sections 0 0 [] titles
none_accepted command sections titles p q r s = record { counted = refl; accepted = refl; seen = none_seen titles p q r s }

module _ (command : Command) (sections : List Section) (i number : ℕ) (items : List Item) (titles : Titles) (section : Section)
    (so_far : AcceptedSoFar command sections i number items titles) (within : i < length sections) (is : section ≡ get_or sections i section) where
  longer : take i sections ++ section ∷ [] ≡ take (i + 1) sections
  longer = ap (λ z. take i sections ++ z ∷ []) is ∙ sym (take_more sections i section within)

  pub turn_accepted : (items' : List Item) (titles' : Titles) (found : Content) (first : Option Item)
      → KindHolds section.kind command (namesakes_in titles section.title) section found → found ≡ taken first
      → items' ≡ items ++ listed first → Sees titles titles' section found
      → AcceptedSoFar command sections (i + 1) (number + 1) items' titles'
  turn_accepted items' titles' found first h same items_are sees =
      let holds : KindHolds section.kind command (namesakes_in titles section.title) section (taken first) =
      subst (λ z. KindHolds section.kind command (namesakes_in titles section.title) section z) same h in
      let accepted : HoldAll command [] [] (take i sections ++ section ∷ []) (items ++ listed first) =
      hold_more command [] [] (take i sections) items section first so_far.accepted
      (holds_here command titles (take i sections) items section (taken first) so_far.seen holds) in
      let seen : SeenOf titles' (take i sections ++ section ∷ []) (items ++ listed first) =
      seen_more titles titles' (take i sections) items section first so_far.seen (subst (Sees titles titles' section) same sees)
      (kind_titled section.kind command (namesakes_in titles section.title) section first holds) in
      record {
        counted = ap (λ z. z + 1) so_far.counted;
        accepted = subst (λ z. HoldAll command [] [] z items') longer (subst (λ z. HoldAll command [] [] (take i sections ++ section ∷ []) z) (sym items_are) accepted);
        seen = subst (λ z. SeenOf titles' z items') longer (subst (λ z. SeenOf titles' (take i sections ++ section ∷ []) z) (sym items_are) seen);
      }

  pub one_refused : (why : Reason) → KindHolds section.kind command (namesakes_in titles section.title) section (content.Refused why)
      → IsRefusedWithin command sections (record { section = number + 1; reason = why })
  one_refused why h = record {
    before = take i sections;
    section = section;
    behind = drop (i + 1) sections;
    in_order = sym (take-append-drop i sections) ∙ ap (λ z. take i sections ++ z) (drop_more sections i section within ∙ ap (λ z. z ∷ drop (i + 1) sections) (sym is));
    items = items;
    accepted = so_far.accepted;
    refused = holds_here command titles (take i sections) items section (content.Refused why) so_far.seen h;
    number = ap (λ z. z + 1) (so_far.counted ∙ sym (length-take-le i sections (omega (arith, within))));
  }

-- ---- items can be written down
abbrev IsSpelled : Option Item → Type 0
IsSpelled None = Unit {0}
IsSpelled (Some a) = IsSpellable a

kind_spellable : (k : SectionKind) (command : Command) (known : Namesakes) (section : Section) (first : Option Item)
    → is_id section.title ≡ true → KindHolds k command known section (taken first) → IsSpelled first
kind_spellable kind.Rule command known section first id h =
    let parts = rule_taken command known.rule section first h in
    subst IsSpelled (sym parts.one) (read_rule_is_spellable section.title section.body parts.rule id parts.answer.0 parts.answer.1)
kind_spellable kind.Program command known section first id h =
    let parts = program_taken known.program section first h in
    subst IsSpelled (sym parts.one) (read_is_spellable section.title section.body parts.block id parts.answer.0)
kind_spellable kind.Report command known section first id h = subst IsSpelled (sym (nothing_taken first h)) tt
kind_spellable kind.Cert command known section first id h =
    subst IsSpelled (sym (certificate_taken (is_later_format section.body) known.rule section first h).one) tt
kind_spellable kind.Refused command known section first id h = absurd (resting_not_taken known.rule first h)
kind_spellable kind.Trace command known section first id h = absurd (resting_not_taken known.rule first h)
kind_spellable kind.Chain command known section first id h = absurd (chain_not_taken command known.chain_rule known.chain first h)

with_first : (first : Option Item) (others : List Item) → IsSpelled first → All IsSpellable others → All IsSpellable (listed first ++ others)
with_first None others h rest = rest
with_first (Some a) others h rest = All-cons IsSpellable a others h rest

pub accepted_spellable : (command : Command) (earlier : List Section) (held : List Item) (sections : List Section) (items : List Item)
    → All (λ section. is_id section.title ≡ true) sections → HoldAll command earlier held sections items → All IsSpellable items
accepted_spellable command earlier held [] items ids all = subst (All IsSpellable) (sym all) (All-nil IsSpellable)
accepted_spellable command earlier held (s ∷ more) items ids all =
    subst (All IsSpellable) (sym all.2)
    (with_first all.0 all.1
    (kind_spellable s.kind command _ s all.0 (All-head (λ (section : Section). is_id section.title ≡ true) s more ids) all.3)
    (accepted_spellable command (earlier ++ s ∷ []) (held ++ listed all.0) more all.1
    (All-tail (λ (section : Section). is_id section.title ≡ true) s more ids) all.4))

-- ---- items whose rules are well formed
abbrev IsWell : Option Item → Type 0
IsWell None = Unit {0}
IsWell (Some a) = IsFaultless a

kind_faultless : (k : SectionKind) (command : Command) (known : Namesakes) (section : Section) (first : Option Item)
    → KindHolds k command known section (taken first) → IsWell first
kind_faultless kind.Rule command known section first h =
    let parts = rule_taken command known.rule section first h in
    subst IsWell (sym parts.one) parts.answer.1
kind_faultless kind.Program command known section first h = subst IsWell (sym (program_taken known.program section first h).one) tt
kind_faultless kind.Report command known section first h = subst IsWell (sym (nothing_taken first h)) tt
kind_faultless kind.Cert command known section first h =
    subst IsWell (sym (certificate_taken (is_later_format section.body) known.rule section first h).one) tt
kind_faultless kind.Refused command known section first h = absurd (resting_not_taken known.rule first h)
kind_faultless kind.Trace command known section first h = absurd (resting_not_taken known.rule first h)
kind_faultless kind.Chain command known section first h = absurd (chain_not_taken command known.chain_rule known.chain first h)

with_well : (first : Option Item) (others : List Item) → IsWell first → All IsFaultless others → All IsFaultless (listed first ++ others)
with_well None others h rest = rest
with_well (Some a) others h rest = All-cons IsFaultless a others h rest

pub accepted_faultless : (command : Command) (earlier : List Section) (held : List Item) (sections : List Section) (items : List Item)
    → HoldAll command earlier held sections items → All IsFaultless items
accepted_faultless command earlier held [] items all = subst (All IsFaultless) (sym all) (All-nil IsFaultless)
accepted_faultless command earlier held (s ∷ more) items all =
    subst (All IsFaultless) (sym all.2)
    (with_well all.0 all.1 (kind_faultless s.kind command _ s all.0 all.3) (accepted_faultless command (earlier ++ s ∷ []) (held ++ listed all.0) more all.1 all.4))
