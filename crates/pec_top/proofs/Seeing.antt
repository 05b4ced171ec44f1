-- The titles that were seen are those that the sections so far have, with one section more.
use Rattle.std.proofs.Common.{◌≡◌, ℕ, Bool, true, false, ◌||◌, List, [], ◌∷◌, ◌++◌, Option, None, Some, bytes_eq, flat_map, if◌then◌else◌, refl, sym, ap, ◌∙◌}
use Rattle.std.proofs.lemmas.List.{append-nil, append_assoc}
use Rattle.std.proofs.lemmas.List.Concat.{flat_map-append}
use Rattle.std.proofs.lemmas.List.Folds.{list_any-append}
use Rattle.std.proofs.lemmas.Slice.Eq.{bytes_eq-Decides}
use Rattle.std.specs.List.{list_any}
use Rattle.pec_text.specs.declared.section_data.Section.{Section}
use Rattle.pec_text.specs.declared.section_data.SectionKind.{SectionKind}
use Rattle.pec_text.specs.declared.section_data.SectionKind.TheVariants as kind
use Rattle.pec_top.specs.declared.content.Item.{Item}
use Rattle.pec_top.specs.declared.content.Item.TheVariants as item
use Rattle.pec_top.specs.declared.titles.Titles.{Titles}
use Rattle.pec_top.specs.Input.{taken, listed}
use Rattle.pec_top.specs.Seen.{titles_in, namesakes_in, with_title, seen_with, chain_seen_with, Sees}
use Rattle.pec_top.specs.Titles.{is_kind, title_as, titles_of, has_title, is_chain, chain_title, has_chain_rule, Namesakes, namesakes}

pub or_false : (b : Bool) → (b || false) ≡ b
or_false true = refl
or_false false = refl

absorbed : (a b : Bool) → (b ≡ true → a ≡ true) → a ≡ (a || b)
absorbed true b h = refl
absorbed false false h = refl
absorbed false true h = h refl

titles_more : (k : SectionKind) (sections : List Section) (section : Section) → titles_of k (sections ++ section ∷ []) ≡ titles_of k sections ++ title_as k section
titles_more k [] section = append-nil (title_as k section)
titles_more k (s ∷ more) section =
    ap (λ z. title_as k s ++ z) (titles_more k more section) ∙ sym (append_assoc (title_as k s) (titles_of k more) (title_as k section))

-- ---- one title more
module _ (t : List ℕ) where
  with_title_by : (b : Bool) (seen : List (List ℕ)) (title : List ℕ) → list_any (bytes_eq title) seen ≡ b
      → list_any (bytes_eq t) (if b then seen else seen ++ title ∷ []) ≡ (list_any (bytes_eq t) seen || bytes_eq t title)
  with_title_by true seen title is =
      absorbed (list_any (bytes_eq t) seen) (bytes_eq t title)
      (λ same. ap (λ z. list_any (bytes_eq z) seen) ((bytes_eq-Decides t title).0 same) ∙ is)
  with_title_by false seen title is =
      list_any-append (bytes_eq t) seen (title ∷ []) ∙ ap (λ z. list_any (bytes_eq t) seen || z) (or_false (bytes_eq t title))

  among_with : (seen : List (List ℕ)) (title : List ℕ) → list_any (bytes_eq t) (with_title seen title) ≡ (list_any (bytes_eq t) seen || bytes_eq t title)
  among_with seen title = with_title_by (list_any (bytes_eq title) seen) seen title refl

  -- where it is added by a condition
  added_by : (b : Bool) (seen : List (List ℕ)) (title : List ℕ)
      → list_any (bytes_eq t) (if b then with_title seen title else seen) ≡ (list_any (bytes_eq t) seen || list_any (bytes_eq t) (if b then title ∷ [] else []))
  added_by true seen title = among_with seen title ∙ ap (λ z. list_any (bytes_eq t) seen || z) (sym (or_false (bytes_eq t title)))
  added_by false seen title = sym (or_false (list_any (bytes_eq t) seen))

  -- ---- the titles of one kind
  pub has_append : (k : SectionKind) (earlier : List Section) (section : Section)
      → has_title k t (earlier ++ section ∷ []) ≡ (has_title k t earlier || list_any (bytes_eq t) (title_as k section))
  has_append k earlier section =
      ap (list_any (bytes_eq t)) (titles_more k earlier section) ∙ list_any-append (bytes_eq t) (titles_of k earlier) (title_as k section)

  kind_more : (k : SectionKind) (old new : List (List ℕ)) (earlier : List Section) (section : Section) → new ≡ seen_with k old section
      → list_any (bytes_eq t) old ≡ has_title k t earlier → list_any (bytes_eq t) new ≡ has_title k t (earlier ++ section ∷ [])
  kind_more k old new earlier section are was =
      ap (list_any (bytes_eq t)) are ∙ added_by (is_kind k section.kind) old section.title
      ∙ ap (λ z. z || list_any (bytes_eq t) (title_as k section)) was ∙ sym (has_append k earlier section)

  -- ---- the titles of rules of method chain
  chain_by : (b : Bool) (seen : List (List ℕ)) (title own : List ℕ) → own ≡ title
      → list_any (bytes_eq t) (if b then with_title seen title else seen) ≡ (list_any (bytes_eq t) seen || list_any (bytes_eq t) ((if b then own ∷ [] else []) ++ []))
  chain_by b seen title own same =
      added_by b seen title
      ∙ ap (λ z. list_any (bytes_eq t) seen || list_any (bytes_eq t) (if b then z ∷ [] else [])) (sym same)
      ∙ ap (λ z. list_any (bytes_eq t) seen || list_any (bytes_eq t) z) (sym (append-nil (if b then own ∷ [] else [])))

-- an item that is a rule has this title
abbrev pub IsTitled : Option Item → List ℕ → Type 0
IsTitled None title = Unit {0}
IsTitled (Some (item.Rule rule)) title = rule.title ≡ title
IsTitled (Some (item.Program program)) title = Unit {0}
IsTitled (Some (item.Certificate c)) title = Unit {0}

chain_among : (t : List ℕ) (seen : List (List ℕ)) (title : List ℕ) (first : Option Item) → IsTitled first title
    → list_any (bytes_eq t) (chain_seen_with seen title (taken first)) ≡ (list_any (bytes_eq t) seen || has_chain_rule t (listed first))
chain_among t seen title None is = sym (or_false (list_any (bytes_eq t) seen))
chain_among t seen title (Some (item.Rule rule)) is = chain_by t (is_chain rule.method) seen title rule.title is
chain_among t seen title (Some (item.Program program)) is = sym (or_false (list_any (bytes_eq t) seen))
chain_among t seen title (Some (item.Certificate c)) is = sym (or_false (list_any (bytes_eq t) seen))

chain_append : (t : List ℕ) (items more : List Item) → has_chain_rule t (items ++ more) ≡ (has_chain_rule t items || has_chain_rule t more)
chain_append t items more =
    ap (list_any (bytes_eq t)) (flat_map-append chain_title items more) ∙ list_any-append (bytes_eq t) (flat_map chain_title items) (flat_map chain_title more)

chain_more : (t : List ℕ) (old new : List (List ℕ)) (items : List Item) (title : List ℕ) (first : Option Item) → IsTitled first title
    → new ≡ chain_seen_with old title (taken first) → list_any (bytes_eq t) old ≡ has_chain_rule t items
    → list_any (bytes_eq t) new ≡ has_chain_rule t (items ++ listed first)
chain_more t old new items title first is are was =
    ap (list_any (bytes_eq t)) are ∙ chain_among t old title first is
    ∙ ap (λ z. z || has_chain_rule t (listed first)) was ∙ sym (chain_append t items (listed first))

-- ---- all of them
-- what was seen of each title is what these sections and their items have of it
abbrev pub SeenOf : Titles → List Section → List Item → Type 0
SeenOf titles sections items = (t : List ℕ) → namesakes_in titles t ≡ namesakes t sections items

same_namesakes : (a b : Namesakes) → a.rule ≡ b.rule → a.program ≡ b.program → a.chain_rule ≡ b.chain_rule → a.chain ≡ b.chain → a ≡ b
same_namesakes a b p q r s = λ j. record { rule = p j; program = q j; chain_rule = r j; chain = s j }

pub none_seen : (titles : Titles) → titles_in titles.rules.keys ≡ [] → titles_in titles.programs.keys ≡ [] → titles_in titles.chain_rules.keys ≡ []
    → titles_in titles.chains.keys ≡ [] → SeenOf titles [] []
none_seen titles p q r s = λ t. same_namesakes (namesakes_in titles t) (namesakes t [] []) (ap (list_any (bytes_eq t)) p) (ap (list_any (bytes_eq t)) q)
    (ap (list_any (bytes_eq t)) r) (ap (list_any (bytes_eq t)) s)

pub seen_more : (old new : Titles) (earlier : List Section) (items : List Item) (section : Section) (first : Option Item) → SeenOf old earlier items
    → Sees old new section (taken first) → IsTitled first section.title → SeenOf new (earlier ++ section ∷ []) (items ++ listed first)
seen_more old new earlier items section first seen sees is = λ t.
    let was : namesakes_in old t ≡ namesakes t earlier items = seen t in
    same_namesakes (namesakes_in new t) (namesakes t (earlier ++ section ∷ []) (items ++ listed first))
    (kind_more t kind.Rule (titles_in old.rules.keys) (titles_in new.rules.keys) earlier section sees.rules (ap (λ (z : Namesakes). z.rule) was))
    (kind_more t kind.Program (titles_in old.programs.keys) (titles_in new.programs.keys) earlier section sees.programs (ap (λ (z : Namesakes). z.program) was))
    (chain_more t (titles_in old.chain_rules.keys) (titles_in new.chain_rules.keys) items section.title first is sees.chain_rules (ap (λ (z : Namesakes). z.chain_rule) was))
    (kind_more t kind.Chain (titles_in old.chains.keys) (titles_in new.chains.keys) earlier section sees.chains (ap (λ (z : Namesakes). z.chain) was))
