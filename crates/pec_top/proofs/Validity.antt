-- That a rule which is said to be proved, or has a certificate that is valid, is valid by its title: no two rule sections of an accepted
-- input have one title, so a title that stands in a verdict is that of the rule which was judged.
use Rattle.std.proofs.Common.{◌≡◌, ◌<◌, ◌⊎◌, inl, inr, ℕ, zero, suc, Bool, true, false, ◌||◌, List, [], ◌∷◌, ◌++◌, Option, None, Some, Contains, length, bytes_eq, slice_index_or, if◌then◌else◌, refl, sym, ap, subst, ◌∙◌, arith}
use Rattle.std.proofs.lemmas.List.Elements.{Contains-append_cases, Contains-append_left, Contains-append_right, Contains-push}
use Rattle.std.proofs.lemmas.Slice.Eq.{bytes_eq-Decides}
use Rattle.std.specs.List.{list_any}
use Rattle.toy_imp.specs.declared.rule.Rule.{Rule}
use Rattle.toy_imp.specs.Faults.{first_fault}
use Rattle.toy_imp.specs.Valid.{Valid}
use Rattle.cert_checker.proofs.Certified.{certified_is_valid}
use Rattle.std.proofs.lemmas.Option.{none-some, same_Some}
use Rattle.pec_text.specs.declared.section_data.Section.{Section}
use Rattle.pec_text.specs.declared.section_data.SectionKind.{SectionKind}
use Rattle.pec_text.specs.declared.section_data.SectionKind.TheVariants as kind
use Rattle.program_reader.specs.RuleText.{SpellsRule}
use Rattle.pec_top.specs.declared.command.Command.{Command}
use Rattle.pec_top.specs.declared.command.Command.TheVariants.{Prove, Check}
use Rattle.pec_top.specs.declared.content.Item.{Item}
use Rattle.pec_top.specs.declared.verdict.Verdict.{Verdict}
use Rattle.pec_top.specs.declared.content.Item.TheVariants as item
use Rattle.pec_top.specs.declared.content.Program.{Program}
use Rattle.pec_top.specs.declared.content.TitledCertificate.{TitledCertificate}
use Rattle.pec_top.specs.Checks.{or_own, titled_rule, CheckedAreValid}
use Rattle.pec_top.specs.Content.{is_built, KindHolds}
use Rattle.pec_top.specs.LaterFormats.{is_later_format}
use Rattle.pec_top.specs.Input.{taken, listed, HoldAll}
use Rattle.pec_top.specs.SkipForm.{sides_agree}
use Rattle.pec_top.specs.Titles.{is_kind, has_title, Namesakes}
use Rattle.pec_top.specs.Verdict.{verdict_of, item_verdicts, verdicts, ProvedAreValid}
use Rattle.pec_top.proofs.Accepted.{RuleTaken, rule_taken, program_taken, nothing_taken, certificate_taken, resting_not_taken, chain_not_taken, rule_titled, new_rule}
use Rattle.pec_top.proofs.Checking.{faultless_is}
use Rattle.pec_top.proofs.Seeing.{has_append}
use Rattle.pec_top.proofs.SkipSides.{proved_valid}

-- ---- members of a list
cons_cases_at : (A : Type 0) (x : A) (xs : List A) (y : A) (k : ℕ) → k < suc (length xs) → slice_index_or (x ∷ xs) k y ≡ y → (x ≡ y) ⊎ Contains xs y
cons_cases_at A x xs y zero within is = inl is
cons_cases_at A x xs y (suc k) within is = inr (k, omega (arith, within), is)

cons_cases : (A : Type 0) (x : A) (xs : List A) (y : A) → Contains (x ∷ xs) y → (x ≡ y) ⊎ Contains xs y
cons_cases A x xs y c = cons_cases_at A x xs y c.0 c.1 c.2

by_cases : (A B C : Type 0) → A ⊎ B → (A → C) → (B → C) → C
by_cases A B C (inl a) f g = f a
by_cases A B C (inr b) f g = g b

none_inside : (A : Type 0) (y : A) → Contains [] y → ⊥
none_inside A y c = omega (arith, c.1)

one_inside : (A : Type 0) (x y : A) → (x ≡ y) ⊎ Contains [] y → x ≡ y
one_inside A x y (inl is) = is
one_inside A x y (inr c) = absurd (none_inside A y c)

-- ---- titles of earlier sections
or_first : (a b : Bool) → a ≡ true → (a || b) ≡ true
or_first true b h = refl
or_first false b h = cc

or_second : (a b : Bool) → b ≡ true → (a || b) ≡ true
or_second true b h = refl
or_second false b h = h

has_more : (k : SectionKind) (title : List ℕ) (earlier : List Section) (section : Section) → has_title k title earlier ≡ true → has_title k title (earlier ++ section ∷ []) ≡ true
has_more k title earlier section h = has_append title k earlier section ∙ or_first _ _ h

own_title : (b : Bool) (title own : List ℕ) → b ≡ true → own ≡ title → list_any (bytes_eq title) (if b then own ∷ [] else []) ≡ true
own_title true title own h is = or_first (bytes_eq title own) false ((bytes_eq-Decides title own).1 (sym is))
own_title false title own h is = cc

has_own : (title : List ℕ) (earlier : List Section) (section : Section) → section.kind ≡ kind.Rule → section.title ≡ title
    → has_title kind.Rule title (earlier ++ section ∷ []) ≡ true
has_own title earlier section is_rule is =
    has_append title kind.Rule earlier section ∙ or_second _ _ (own_title (is_kind kind.Rule section.kind) title section.title (ap (λ z. is_kind kind.Rule z) is_rule) is)

-- no rule section behind has the title of an earlier rule
module _ (command : Command) (title : List ℕ) where
  no_later_by : (earlier : List Section) (s section : Section)
      → (has_title kind.Rule s.title earlier ≡ false) → has_title kind.Rule title earlier ≡ true → s ≡ section → section.title ≡ title → ⊥
  no_later_by earlier s section new has same is =
      let own : s.title ≡ title = ap (λ (z : Section). z.title) same ∙ is in
      let no : has_title kind.Rule title earlier ≡ false = ap (λ z. has_title kind.Rule z earlier) (sym own) ∙ new in
      let clash : true ≡ false = sym has ∙ no in
      cc

  pub no_later : (earlier : List Section) (held : List Item) (sections : List Section) (items : List Item) (section : Section) → HoldAll command earlier held sections items
      → has_title kind.Rule title earlier ≡ true → Contains sections section → section.kind ≡ kind.Rule → section.title ≡ title → ⊥
  no_later earlier held [] items section all has inside is_rule is = none_inside Section section inside
  no_later earlier held (s ∷ more) items section all has inside is_rule is =
      by_cases (s ≡ section) (Contains more section) ⊥ (cons_cases Section s more section inside)
      (λ same. no_later_by earlier s section
      (new_rule s.kind command _ s all.0 all.3 (ap (λ (z : Section). is_kind kind.Rule z.kind) same ∙ ap (λ z. is_kind kind.Rule z) is_rule))
      has same is)
      (λ later. no_later (earlier ++ s ∷ []) (held ++ listed all.0) more all.1 section all.4 (has_more kind.Rule title earlier s has) later is_rule is)

-- ---- the section of a rule among the items
pub record RuleHere (k : SectionKind) (command : Command) (repeated : Bool) (section : Section) (first : Option Item) (r : Rule) : Type 0 where
  pub is_rule : k ≡ kind.Rule
  pub taken : RuleTaken command repeated section first
  pub is : taken.rule ≡ r

same_item : (a r : Rule) → item.Rule a ≡ item.Rule r → a ≡ r
same_item a r h = cc

no_program : (p : Program) (r : Rule) → item.Program p ≡ item.Rule r → ⊥
no_program p r h = cc

no_certificate : (c : TitledCertificate) (r : Rule) → item.Certificate c ≡ item.Rule r → ⊥
no_certificate c r h = cc

only_item : (first : Option Item) (a b : Item) → first ≡ Some a → Contains (listed first) b → a ≡ b
only_item first a b is inside =
    one_inside Item a b (cons_cases Item a [] b (subst (λ z. Contains (listed z) b) is inside))

nothing_here : (first : Option Item) (a : Item) → first ≡ None → Contains (listed first) a → ⊥
nothing_here first a is inside = none_inside Item a (subst (λ z. Contains (listed z) a) is inside)

rule_here : (k : SectionKind) (command : Command) (known : Namesakes) (section : Section) (first : Option Item) (r : Rule)
    → KindHolds k command known section (taken first) → Contains (listed first) (item.Rule r) → RuleHere k command known.rule section first r
rule_here kind.Rule command known section first r h inside =
    let parts = rule_taken command known.rule section first h in
    record { is_rule = refl; taken = parts; is = same_item parts.rule r (only_item first (item.Rule parts.rule) (item.Rule r) parts.one inside) }
rule_here kind.Program command known section first r h inside =
    absurd (no_program _ r (only_item first _ (item.Rule r) (program_taken known.program section first h).one inside))
rule_here kind.Report command known section first r h inside = absurd (nothing_here first (item.Rule r) (nothing_taken first h) inside)
rule_here kind.Cert command known section first r h inside =
    absurd (no_certificate _ r (only_item first _ (item.Rule r) (certificate_taken (is_later_format section.body) known.rule section first h).one inside))
rule_here kind.Refused command known section first r h inside = absurd (resting_not_taken known.rule first h)
rule_here kind.Trace command known section first r h inside = absurd (resting_not_taken known.rule first h)
rule_here kind.Chain command known section first r h inside = absurd (chain_not_taken command known.chain_rule known.chain first h)

here_title : (command : Command) (b : Bool) (section : Section) (first : Option Item) (r : Rule) → RuleHere section.kind command b section first r → section.title ≡ r.title
here_title command b section first r here =
    sym (rule_titled section here.taken.rule here.taken.answer.0) ∙ ap (λ (z : Rule). z.title) here.is

-- a rule is the first section's item, or one of the others
item_cases : (first : Option Item) (others : List Item) (a : Item) → Contains (listed first ++ others) a → Contains (listed first) a ⊎ Contains others a
item_cases None others a inside = inr inside
item_cases (Some b) others a inside = Contains-append_cases (b ∷ []) others a inside

-- a rule section with this title
pub record RuleSection (sections : List Section) (title : List ℕ) : Type 0 where
  pub section : Section
  pub inside : Contains sections section
  pub is_rule : section.kind ≡ kind.Rule
  pub titled : section.title ≡ title

behind_first : (s : Section) (more : List Section) (title : List ℕ) → RuleSection more title → RuleSection (s ∷ more) title
behind_first s more title x = record { section = x.section; inside = Contains-append_right (s ∷ []) more x.section x.inside; is_rule = x.is_rule; titled = x.titled }

rule_section : (command : Command) (earlier : List Section) (held : List Item) (sections : List Section) (items : List Item) (r : Rule)
    → HoldAll command earlier held sections items → Contains items (item.Rule r) → RuleSection sections r.title
rule_section command earlier held [] items r all inside = absurd (none_inside Item (item.Rule r) (subst (λ z. Contains z (item.Rule r)) all inside))
rule_section command earlier held (s ∷ more) items r all inside =
    by_cases (Contains (listed all.0) (item.Rule r)) (Contains all.1 (item.Rule r)) (RuleSection (s ∷ more) r.title)
    (item_cases all.0 all.1 (item.Rule r) (subst (λ z. Contains z (item.Rule r)) all.2 inside))
    (λ first. let here = rule_here s.kind command _ s all.0 r all.3 first in
    record { section = s; inside = Contains-append_left (s ∷ []) more s (Contains-push [] s); is_rule = here.is_rule; titled = here_title command _ s all.0 r here })
    (λ later. behind_first s more r.title (rule_section command (earlier ++ s ∷ []) (held ++ listed all.0) more all.1 r all.4 later))

-- ---- what a section with the title of a rule spells is that rule, which is well formed
pub record IsJudged (command : Command) (r rule : Rule) : Type 0 where
  pub same : rule ≡ r
  pub faultless : first_fault r ≡ None
  pub built : is_built command r ≡ true

same_section : (command : Command) (s section : Section) (b : Bool) (first : Option Item) (r : Rule) → RuleHere s.kind command b s first r → s ≡ section
    → (rule : Rule) → SpellsRule section.title section.body rule → IsJudged command r rule
same_section command s section b first r here same rule spelled =
    let own : SpellsRule s.title s.body rule = subst (λ (z : Section). SpellsRule z.title z.body rule) (sym same) spelled in
    record {
      same = here.taken.answer.2 rule own ∙ here.is;
      faultless = subst (λ z. first_fault z ≡ None) here.is here.taken.answer.1;
      built = subst (λ z. is_built command z ≡ true) here.is here.taken.built;
    }

module _ (command : Command) (r : Rule) (section : Section) (is_rule : section.kind ≡ kind.Rule) (titled : section.title ≡ r.title)
    (rule : Rule) (spelled : SpellsRule section.title section.body rule) where
  pub judged_by_title : (earlier : List Section) (held : List Item) (sections : List Section) (items : List Item) → HoldAll command earlier held sections items
      → Contains items (item.Rule r) → Contains sections section → IsJudged command r rule
  judged_by_title earlier held [] items all held_rule inside = absurd (none_inside Section section inside)
  judged_by_title earlier held (s ∷ more) items all held_rule inside =
      let behind : List Section = earlier ++ s ∷ [] in
      let so_far : List Item = held ++ listed all.0 in
      by_cases (Contains (listed all.0) (item.Rule r)) (Contains all.1 (item.Rule r)) (IsJudged command r rule)
      (item_cases all.0 all.1 (item.Rule r) (subst (λ z. Contains z (item.Rule r)) all.2 held_rule))
      (λ first. let here = rule_here s.kind command _ s all.0 r all.3 first in
      by_cases (s ≡ section) (Contains more section) (IsJudged command r rule) (cons_cases Section s more section inside)
      (λ same. same_section command s section _ all.0 r here same rule spelled)
      (λ later. absurd (no_later command r.title behind so_far more all.1 section all.4
      (has_own r.title earlier s here.is_rule (here_title command _ s all.0 r here)) later is_rule titled)))
      (λ others. by_cases (s ≡ section) (Contains more section) (IsJudged command r rule) (cons_cases Section s more section inside)
      (λ same. let found = rule_section command behind so_far more all.1 r all.4 others in
      absurd (no_later command r.title behind so_far more all.1 found.section all.4
      (has_own r.title earlier s (ap (λ (z : Section). z.kind) same ∙ is_rule) (ap (λ (z : Section). z.title) same ∙ titled)) found.inside found.is_rule found.titled))
      (λ later. judged_by_title behind so_far more all.1 all.4 others later))

-- ---- what is said to be proved is valid
-- the rule of a verdict
record VerdictRule (items : List Item) (verdict : Verdict) : Type 0 where
  rule : Rule
  inside : Contains items (item.Rule rule)
  is : verdict_of rule ≡ verdict

verdict_behind : (a : Item) (more : List Item) (verdict : Verdict) → VerdictRule more verdict → VerdictRule (a ∷ more) verdict
verdict_behind a more verdict x = record { rule = x.rule; inside = Contains-append_right (a ∷ []) more (item.Rule x.rule) x.inside; is = x.is }

verdict_own : (a : Item) (more : List Item) (verdict : Verdict) → Contains (item_verdicts a) verdict → VerdictRule (a ∷ more) verdict
verdict_own (item.Rule rule) more verdict inside =
    record {
      rule = rule;
      inside = Contains-append_left (item.Rule rule ∷ []) more (item.Rule rule) (Contains-push [] (item.Rule rule));
      is = one_inside Verdict _ _ (cons_cases Verdict (verdict_of rule) [] verdict inside);
    }
verdict_own (item.Program program) more verdict inside = absurd (none_inside Verdict verdict inside)
verdict_own (item.Certificate c) more verdict inside = absurd (none_inside Verdict verdict inside)

verdict_rule : (items : List Item) (verdict : Verdict) → Contains (verdicts items) verdict → VerdictRule items verdict
verdict_rule [] verdict inside = absurd (none_inside Verdict verdict inside)
verdict_rule (a ∷ more) verdict inside =
    by_cases (Contains (item_verdicts a) verdict) (Contains (verdicts more) verdict) (VerdictRule (a ∷ more) verdict)
    (Contains-append_cases (item_verdicts a) (verdicts more) verdict inside)
    (λ own. verdict_own a more verdict own) (λ later. verdict_behind a more verdict (verdict_rule more verdict later))

pub proved_are_valid : (sections : List Section) (items : List Item) → HoldAll Prove [] [] sections items → ProvedAreValid sections items
proved_are_valid sections items all verdict judged proved section inside is_rule titled rule spelled =
    let from = verdict_rule items verdict judged in
    let title : section.title ≡ from.rule.title = titled ∙ sym (ap (λ (v : Verdict). v.title) from.is) in
    let found = judged_by_title Prove from.rule section is_rule title rule spelled [] [] sections items all from.inside inside in
    let agree : sides_agree from.rule ≡ true = ap (λ (v : Verdict). v.is_proved) from.is ∙ proved in
    subst Valid (sym found.same) (proved_valid from.rule found.built agree)

-- ---- what has a certificate that is valid is valid
record IsTitledIn (title : List ℕ) (items : List Item) (rule : Rule) : Type 0 where
  inside : Contains items (item.Rule rule)
  titled : rule.title ≡ title

titled_behind : (title : List ℕ) (a : Item) (more : List Item) (rule : Rule) → IsTitledIn title more rule → IsTitledIn title (a ∷ more) rule
titled_behind title a more rule x = record { inside = Contains-append_right (a ∷ []) more (item.Rule rule) x.inside; titled = x.titled }

titled_own : (b : Bool) (title : List ℕ) (own : Rule) (more : List Item) (rule : Rule) → bytes_eq own.title title ≡ b → (if b then Some own else None) ≡ Some rule
    → IsTitledIn title (item.Rule own ∷ more) rule
titled_own true title own more rule e is =
    subst (IsTitledIn title (item.Rule own ∷ more)) (same_Some own rule is)
    (record { inside = Contains-append_left (item.Rule own ∷ []) more (item.Rule own) (Contains-push [] (item.Rule own)); titled = (bytes_eq-Decides own.title title).0 e })
titled_own false title own more rule e is = absurd (none-some rule is)

titled_either : (title : List ℕ) (own : Rule) (more : List Item) (o : Option Rule) (rule : Rule) → ((later : Rule) → o ≡ Some later → IsTitledIn title more later)
    → or_own title own o ≡ Some rule → IsTitledIn title (item.Rule own ∷ more) rule
titled_either title own more None rule rest is = titled_own (bytes_eq own.title title) title own more rule refl is
titled_either title own more (Some later) rule rest is =
    subst (IsTitledIn title (item.Rule own ∷ more)) (same_Some later rule is) (titled_behind title (item.Rule own) more later (rest later refl))

titled_in : (title : List ℕ) (items : List Item) (rule : Rule) → titled_rule title items ≡ Some rule → IsTitledIn title items rule
titled_in title [] rule is = absurd (none-some rule is)
titled_in title (item.Rule own ∷ more) rule is = titled_either title own more (titled_rule title more) rule (λ later e. titled_in title more later e) is
titled_in title (item.Program program ∷ more) rule is = titled_behind title (item.Program program) more rule (titled_in title more rule is)
titled_in title (item.Certificate c ∷ more) rule is = titled_behind title (item.Certificate c) more rule (titled_in title more rule is)

pub checked_are_valid : (sections : List Section) (items : List Item) → HoldAll Check [] [] sections items → CheckedAreValid sections items
checked_are_valid sections items all before c behind are valid section inside is_rule titled rule spelled =
    let from = titled_in c.title before valid.rule valid.found in
    let held : Contains items (item.Rule valid.rule) =
    subst (λ z. Contains z (item.Rule valid.rule)) (sym are) (Contains-append_left before (item.Certificate c ∷ behind) (item.Rule valid.rule) from.inside) in
    let found = judged_by_title Check valid.rule section is_rule (titled ∙ sym from.titled) rule spelled [] [] sections items all held inside in
    subst Valid (sym found.same) (certified_is_valid valid.rule c.certificate (faultless_is valid.rule found.faultless) valid.simulates valid.certified)
