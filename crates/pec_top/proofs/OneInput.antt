-- The sections of a text are one input: the same items in the same order, or the same section refused for the same reason.
use Rattle.std.proofs.Common.{◌≡◌, ◌+◌, inl, inr, suc, List, [], ◌∷◌, ◌++◌, length, Option, None, Some, refl, sym, ap, subst, ◌∙◌}
use Rattle.std.proofs.lemmas.List.{append-nil, append_assoc}
use Rattle.std.proofs.lemmas.Option.{none-some, same_Some}
use Rattle.pec_text.specs.declared.section_data.Section.{Section}
use Rattle.pec_text.specs.declared.section_data.SectionList.{SectionList}
use Rattle.pec_top.specs.declared.command.Command.{Command}
use Rattle.pec_top.specs.declared.content.Content.{Content}
use Rattle.pec_top.specs.declared.content.Content.TheVariants as content
use Rattle.pec_top.specs.declared.content.Item.{Item}
use Rattle.pec_top.specs.declared.content.Reason.{Reason}
use Rattle.pec_top.specs.declared.input.Input.{Input}
use Rattle.pec_top.specs.declared.input.Input.TheVariants as input
use Rattle.pec_top.specs.declared.input.Refusal.{Refusal}
use Rattle.pec_top.specs.Content.{Holds}
use Rattle.pec_top.specs.Input.{taken, listed, HoldAll, IsRefusedWithin, rest_refusal, InputIs}
use Rattle.pec_top.proofs.Accepted.{holds_at}
use Rattle.pec_top.proofs.OneContent.{one_content}

same_taken : (a b : Option Item) → taken a ≡ taken b → a ≡ b
same_taken None None h = refl
same_taken None (Some b) h = cc
same_taken (Some a) None h = cc
same_taken (Some a) (Some b) h = cc

taken_or_refused : (first : Option Item) (why : Reason) → taken first ≡ content.Refused why → ⊥
taken_or_refused None why h = cc
taken_or_refused (Some a) why h = cc

same_reason : (a b : Reason) → content.Refused a ≡ content.Refused b → a ≡ b
same_reason a b h = cc

-- ---- where the sections before are the same
module _ (command : Command) where
  -- the first of two lists of sections hold the same
  first_same : (earlier : List Section) (held : List Item) (s : Section) (a b : Option Item)
      → Holds command earlier held s (taken a) → Holds command earlier held s (taken b) → a ≡ b
  first_same earlier held s a b x y = same_taken a b (one_content command earlier held s (taken a) (taken b) x y)

  -- the items of sections that are not refused are the same each time
  pub one_list : (earlier : List Section) (held : List Item) (sections : List Section) (a b : List Item)
      → HoldAll command earlier held sections a → HoldAll command earlier held sections b → a ≡ b
  one_list earlier held [] a b x y = x ∙ sym y
  one_list earlier held (s ∷ more) a b x y =
      let first : x.0 ≡ y.0 = first_same earlier held s x.0 y.0 x.3 y.3 in
      let others : x.1 ≡ y.1 = one_list (earlier ++ s ∷ []) (held ++ listed x.0) more x.1 y.1 x.4
      (subst (λ z. HoldAll command (earlier ++ s ∷ []) (held ++ listed z) more y.1) (sym first) y.4) in
      x.2 ∙ (λ j. listed (first j) ++ others j) ∙ sym y.2

  -- what holds behind a list of sections holds behind its tail, where its first section is an earlier one
  behind_first : (section : Section) (found : Content) (earlier : List Section) (held : List Item) (s : Section) (more : List Section)
      (items others : List Item) (first : Option Item) → items ≡ listed first ++ others
      → Holds command (earlier ++ s ∷ more) (held ++ items) section found
      → Holds command ((earlier ++ s ∷ []) ++ more) ((held ++ listed first) ++ others) section found
  behind_first section found earlier held s more items others first are h =
      holds_at command section found (earlier ++ s ∷ more) ((earlier ++ s ∷ []) ++ more) (held ++ items) ((held ++ listed first) ++ others)
      (sym (append_assoc earlier (s ∷ []) more)) (ap (λ z. held ++ z) are ∙ sym (append_assoc held (listed first) others)) h

  -- .. and behind no section
  behind_none : (section : Section) (found : Content) (earlier : List Section) (held items : List Item) → items ≡ []
      → Holds command (earlier ++ []) (held ++ items) section found → Holds command earlier held section found
  behind_none section found earlier held items none h =
      holds_at command section found (earlier ++ []) earlier (held ++ items) held (append-nil earlier) (ap (λ z. held ++ z) none ∙ append-nil held) h

  -- a section among those that are not refused is not refused
  none_refused : (earlier : List Section) (held : List Item) (before : List Section) (section : Section) (behind : List Section) (items some : List Item) (why : Reason)
      → HoldAll command earlier held (before ++ section ∷ behind) items → HoldAll command earlier held before some
      → Holds command (earlier ++ before) (held ++ some) section (content.Refused why) → ⊥
  none_refused earlier held [] section behind items some why all part refused =
      taken_or_refused all.0 why (one_content command earlier held section (taken all.0) (content.Refused why) all.3
      (behind_none section (content.Refused why) earlier held some part refused))
  none_refused earlier held (s ∷ before) section behind items some why all part refused =
      let first : part.0 ≡ all.0 = first_same earlier held s part.0 all.0 part.3 all.3 in
      none_refused (earlier ++ s ∷ []) (held ++ listed part.0) before section behind all.1 part.1 why
      (subst (λ z. HoldAll command (earlier ++ s ∷ []) (held ++ listed z) (before ++ section ∷ behind) all.1) (sym first) all.4)
      part.4 (behind_first section (content.Refused why) earlier held s before some part.1 part.0 part.2 refused)

  -- what follows a first section that two lists share
  same_head : (s t : Section) (xs ys : List Section) → s ∷ xs ≡ t ∷ ys → s ≡ t
  same_head s t xs ys h = cc

  same_rest : (s t : Section) (xs ys : List Section) → s ∷ xs ≡ t ∷ ys → xs ≡ ys
  same_rest s t xs ys h = cc

  -- two sections that are refused, none before them, are one
  one_place : (earlier : List Section) (held : List Item) (before others : List Section) (s t : Section) (behind rest : List Section) (items more : List Item) (why what : Reason)
      → before ++ s ∷ behind ≡ others ++ t ∷ rest
      → HoldAll command earlier held before items → HoldAll command earlier held others more
      → Holds command (earlier ++ before) (held ++ items) s (content.Refused why) → Holds command (earlier ++ others) (held ++ more) t (content.Refused what)
      → (length before ≡ length others) × (why ≡ what)
  one_place earlier held [] [] s t behind rest items more why what same x y r q =
      let own : s ≡ t = same_head s t behind rest same in
      let here : Holds command earlier held t (content.Refused why) =
      subst (λ z. Holds command earlier held z (content.Refused why)) own (behind_none s (content.Refused why) earlier held items x r) in
      (refl, same_reason why what (one_content command earlier held t _ _ here (behind_none t (content.Refused what) earlier held more y q)))
  one_place earlier held [] (u ∷ others) s t behind rest items more why what same x y r q =
      let own : s ≡ u = same_head s u behind (others ++ t ∷ rest) same in
      let here : Holds command earlier held u (content.Refused why) =
      subst (λ z. Holds command earlier held z (content.Refused why)) own (behind_none s (content.Refused why) earlier held items x r) in
      absurd (taken_or_refused y.0 why (one_content command earlier held u (taken y.0) (content.Refused why) y.3 here))
  one_place earlier held (u ∷ before) [] s t behind rest items more why what same x y r q =
      let own : t ≡ u = sym (same_head u t (before ++ s ∷ behind) rest same) in
      let here : Holds command earlier held u (content.Refused what) =
      subst (λ z. Holds command earlier held z (content.Refused what)) own (behind_none t (content.Refused what) earlier held more y q) in
      absurd (taken_or_refused x.0 what (one_content command earlier held u (taken x.0) (content.Refused what) x.3 here))
  one_place earlier held (u ∷ before) (v ∷ others) s t behind rest items more why what same x y r q =
      let own : v ≡ u = sym (same_head u v (before ++ s ∷ behind) (others ++ t ∷ rest) same) in
      let first : y.0 ≡ x.0 = first_same earlier held u y.0 x.0 (subst (λ z. Holds command earlier held z (taken y.0)) own y.3) x.3 in
      let tail : HoldAll command (earlier ++ u ∷ []) (held ++ listed x.0) others y.1 =
      subst (λ z. HoldAll command (earlier ++ z ∷ []) (held ++ listed x.0) others y.1) own
      (subst (λ z. HoldAll command (earlier ++ v ∷ []) (held ++ listed z) others y.1) first y.4) in
      let right : Holds command ((earlier ++ u ∷ []) ++ others) ((held ++ listed x.0) ++ y.1) t (content.Refused what) =
      subst (λ z. Holds command ((earlier ++ z ∷ []) ++ others) ((held ++ listed x.0) ++ y.1) t (content.Refused what)) own
      (subst (λ z. Holds command ((earlier ++ v ∷ []) ++ others) ((held ++ listed z) ++ y.1) t (content.Refused what)) first
      (behind_first t (content.Refused what) earlier held v others more y.1 y.0 y.2 q)) in
      let found = one_place (earlier ++ u ∷ []) (held ++ listed x.0) before others s t behind rest x.1 y.1 why what
      (same_rest u v (before ++ s ∷ behind) (others ++ t ∷ rest) same) x.4 tail
      (behind_first s (content.Refused why) earlier held u before items x.1 x.0 x.2 r) right in
      (ap (λ n. suc n) found.0, found.1)

  same_refusal : (a b : Refusal) → a.section ≡ b.section → a.reason ≡ b.reason → a ≡ b
  same_refusal a b sections reasons = λ j. record { section = sections j; reason = reasons j }

  within_once : (sections : List Section) (a b : Refusal) → IsRefusedWithin command sections a → IsRefusedWithin command sections b → a ≡ b
  within_once sections a b x y =
      let one = one_place [] [] x.before y.before x.section y.section x.behind y.behind x.items y.items a.reason b.reason
      (sym x.in_order ∙ y.in_order) x.accepted y.accepted x.refused y.refused in
      same_refusal a b (x.number ∙ ap (λ n. n + 1) one.0 ∙ sym y.number) one.1

  not_both : (sections : List Section) (items : List Item) (a : Refusal) → HoldAll command [] [] sections items → IsRefusedWithin command sections a → ⊥
  not_both sections items a held x =
      none_refused [] [] x.before x.section x.behind items x.items a.reason (subst (λ z. HoldAll command [] [] z items) x.in_order held) x.accepted x.refused

  pub one_input : (text : SectionList) (a b : Input) → InputIs command text a → InputIs command text b → a ≡ b
  one_input text (input.Accepted a) (input.Accepted b) x y = ap input.Accepted (one_list [] [] text.whole a b x.0 y.0)
  one_input text (input.Accepted a) (input.Refused b) x (inl y) = absurd (not_both text.whole a b x.0 y)
  one_input text (input.Accepted a) (input.Refused b) x (inr y) = absurd (none-some b (ap rest_refusal (sym x.1) ∙ y.rest))
  one_input text (input.Accepted a) input.Larger x y = absurd y
  one_input text (input.Refused a) (input.Accepted b) (inl x) y = absurd (not_both text.whole b a y.0 x)
  one_input text (input.Refused a) (input.Accepted b) (inr x) y = absurd (none-some a (ap rest_refusal (sym y.1) ∙ x.rest))
  one_input text (input.Refused a) (input.Refused b) (inl x) (inl y) = ap input.Refused (within_once text.whole a b x y)
  one_input text (input.Refused a) (input.Refused b) (inl x) (inr y) = absurd (not_both text.whole y.items a y.accepted x)
  one_input text (input.Refused a) (input.Refused b) (inr x) (inl y) = absurd (not_both text.whole x.items b x.accepted y)
  one_input text (input.Refused a) (input.Refused b) (inr x) (inr y) = ap input.Refused (same_Some _ _ (sym x.rest ∙ y.rest))
  one_input text (input.Refused a) input.Larger x y = absurd y
  one_input text input.Larger b x y = absurd x
