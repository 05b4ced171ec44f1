-- The checks of items one after another, the rule of a title, and that checks are determined by the items.
use Rattle.std.proofs.Common.{◌≡◌, ◌+◌, ◌<◌, ◌≤◌, ◌↔◌, ℕ, Bool, true, false, List, [], ◌∷◌, ◌++◌, All, Option, None, Some, bytes_eq, if◌then◌else◌, length, take, get_or, refl, sym, ap, subst, ◌∙◌, arith}
use Rattle.std.proofs.lemmas.List.{append-nil, append_assoc, take_more, take_all}
use Rattle.std.proofs.lemmas.List.Elements.{All-head, All-tail}
use Rattle.std.proofs.lemmas.Option.{none-some, same_Some}
use Rattle.toy_imp.specs.declared.rule.Rule.{Rule}
use Rattle.toy_imp.specs.Faults.{well_formed, is_simulate}
use Rattle.toy_imp.proofs.Faultless.{well_formed_is}
use Rattle.std.specs.Option.{is_none}
use Rattle.cert_checker.specs.Certificates.{IsCertificate}
use Rattle.pec_top.specs.declared.check.Check.{Check}
use Rattle.pec_top.specs.declared.content.Item.{Item}
use Rattle.pec_top.specs.declared.content.Item.TheVariants as item
use Rattle.pec_top.specs.declared.content.TitledCertificate.{TitledCertificate}
use Rattle.pec_top.specs.Checks.{or_own, titled_rule, IsValidBehind, IsCheckOf, ItemChecks, AreChecks}
use Rattle.pec_top.specs.FaultlessItems.{IsFaultlessRule, IsFaultless}

-- ---- the rule of a title
abbrev or_else : Option Rule → Option Rule → Option Rule
or_else (Some rule) o = Some rule
or_else None o = o

else_none : (o : Option Rule) → o ≡ or_else o None
else_none None = refl
else_none (Some rule) = refl

own_else : (t : List ℕ) (rule : Rule) (a o : Option Rule) → or_own t rule (or_else a o) ≡ or_else a (or_own t rule o)
own_else t rule None o = refl
own_else t rule (Some later) o = refl

titled_last : (t : List ℕ) (xs : List Item) (a : Item) → titled_rule t (xs ++ a ∷ []) ≡ or_else (titled_rule t (a ∷ [])) (titled_rule t xs)
titled_last t [] a = else_none (titled_rule t (a ∷ []))
titled_last t (item.Rule rule ∷ xs) a = ap (or_own t rule) (titled_last t xs a) ∙ own_else t rule (titled_rule t (a ∷ [])) (titled_rule t xs)
titled_last t (item.Program program ∷ xs) a = titled_last t xs a
titled_last t (item.Certificate c ∷ xs) a = titled_last t xs a

-- the items before place m are looked at from the last
pub all_behind : (t : List ℕ) (items : List Item) → titled_rule t items ≡ titled_rule t (take (length items) items)
all_behind t items = ap (titled_rule t) (sym (take_all (length items) items (omega arith)))

one_before : (t : List ℕ) (items : List Item) (k : ℕ) (a : Item) → k < length items → a ≡ get_or items k a
    → titled_rule t (take (k + 1) items) ≡ or_else (titled_rule t (a ∷ [])) (titled_rule t (take k items))
one_before t items k a within is =
    ap (titled_rule t) (take_more items k a within ∙ ap (λ z. take k items ++ z ∷ []) (sym is)) ∙ titled_last t (take k items) a

pub found_at : (t : List ℕ) (items : List Item) (m k : ℕ) (a : Item) (rule : Rule) → k + 1 ≡ m → m ≤ length items → a ≡ get_or items k a
    → titled_rule t items ≡ titled_rule t (take m items) → titled_rule t (a ∷ []) ≡ Some rule → titled_rule t items ≡ Some rule
found_at t items m k a rule next within is so own =
    so ∙ ap (λ n. titled_rule t (take n items)) (sym next) ∙ one_before t items k a (omega (arith, next, within)) is ∙ ap (λ o. or_else o (titled_rule t (take k items))) own

pub not_at : (t : List ℕ) (items : List Item) (m k : ℕ) (a : Item) → k + 1 ≡ m → m ≤ length items → a ≡ get_or items k a
    → titled_rule t items ≡ titled_rule t (take m items) → titled_rule t (a ∷ []) ≡ None → titled_rule t items ≡ titled_rule t (take k items)
not_at t items m k a next within is so own =
    so ∙ ap (λ n. titled_rule t (take n items)) (sym next) ∙ one_before t items k a (omega (arith, next, within)) is ∙ ap (λ o. or_else o (titled_rule t (take k items))) own

own_faultless : (b : Bool) (rule found : Rule) → IsFaultlessRule rule → (if b then Some rule else None) ≡ Some found → IsFaultlessRule found
own_faultless true rule found h is = subst IsFaultlessRule (same_Some rule found is) h
own_faultless false rule found h is = absurd (none-some found is)

behind_faultless : (t : List ℕ) (rule : Rule) (o : Option Rule) (found : Rule) → IsFaultlessRule rule → ((later : Rule) → o ≡ Some later → IsFaultlessRule later)
    → or_own t rule o ≡ Some found → IsFaultlessRule found
behind_faultless t rule None found h rest is = own_faultless (bytes_eq rule.title t) rule found h is
behind_faultless t rule (Some later) found h rest is = subst IsFaultlessRule (same_Some later found is) (rest later refl)

pub titled_faultless : (t : List ℕ) (items : List Item) (rule : Rule) → All IsFaultless items → titled_rule t items ≡ Some rule → IsFaultlessRule rule
titled_faultless t [] rule all is = absurd (none-some rule is)
titled_faultless t (item.Rule own ∷ more) rule all is =
    behind_faultless t own (titled_rule t more) rule (All-head IsFaultless (item.Rule own) more all)
    (λ later e. titled_faultless t more later (All-tail IsFaultless (item.Rule own) more all) e) is
titled_faultless t (item.Program program ∷ more) rule all is = titled_faultless t more rule (All-tail IsFaultless (item.Program program) more all) is
titled_faultless t (item.Certificate c ∷ more) rule all is = titled_faultless t more rule (All-tail IsFaultless (item.Certificate c) more all) is

pub faultless_is : (rule : Rule) → IsFaultlessRule rule → well_formed rule ≡ true
faultless_is rule h = sym (well_formed_is rule) ∙ ap is_none h

-- ---- one certificate
pub valid_found : (before : List Item) (c : TitledCertificate) (rule : Rule) (answer : Bool) → titled_rule c.title before ≡ Some rule
    → (answer ≡ true) ↔ ((is_simulate rule.method ≡ true) × IsCertificate rule c.certificate) → (answer ≡ true) ↔ IsValidBehind before c
valid_found before c rule answer found is = (
  λ t. let both = is.0 t in record { rule = rule; found = found; simulates = both.0; certified = both.1 },
  λ v. let same : v.rule ≡ rule = same_Some v.rule rule (sym v.found ∙ found) in
      is.1 (subst (λ z. is_simulate z.method ≡ true) same v.simulates, subst (λ z. IsCertificate z c.certificate) same v.certified),
)

pub valid_none : (before : List Item) (c : TitledCertificate) → titled_rule c.title before ≡ None → IsValidBehind before c → ⊥
valid_none before c none v = none-some v.rule (sym none ∙ v.found)

-- ---- the checks of one item more
checks_more : (before xs : List Item) (lines : List Check) (a : Item) (own : List Check) → AreChecks before xs lines → ItemChecks (before ++ xs) a own
    → AreChecks before (xs ++ a ∷ []) (lines ++ own)
checks_more before [] lines a own all here =
    (own, [], ap (λ z. z ++ own) all ∙ sym (append-nil own), subst (λ z. ItemChecks z a own) (append-nil before) here, refl)
checks_more before (x ∷ xs) lines a own all here = (
  all.0,
  all.1 ++ own,
  ap (λ z. z ++ own) all.2 ∙ append_assoc all.0 all.1 own,
  all.3,
  checks_more (before ++ x ∷ []) xs all.1 a own all.4 (subst (λ z. ItemChecks z a own) (sym (append_assoc before (x ∷ []) xs)) here),
)

pub turn_checks : (items : List Item) (i : ℕ) (all own all' : List Check) (a : Item) → i < length items → a ≡ get_or items i a
    → AreChecks [] (take i items) all → ItemChecks (take i items) a own → all' ≡ all ++ own → AreChecks [] (take (i + 1) items) all'
turn_checks items i all own all' a within is so here are =
    let longer : take i items ++ a ∷ [] ≡ take (i + 1) items = ap (λ z. take i items ++ z ∷ []) is ∙ sym (take_more items i a within) in
    subst (λ z. AreChecks [] z all') longer (subst (λ z. AreChecks [] (take i items ++ a ∷ []) z) (sym are) (checks_more [] (take i items) all a own so here))

-- ---- checks are determined
same_bool : (a b : Bool) → (a ≡ true → b ≡ true) → (b ≡ true → a ≡ true) → a ≡ b
same_bool true b f g = sym (f refl)
same_bool false true f g = g refl
same_bool false false f g = refl

one_check : (before : List Item) (c : TitledCertificate) (p q : Check) → IsCheckOf before c p → IsCheckOf before c q → p ≡ q
one_check before c p q x y =
    let titles : p.title ≡ q.title = x.title ∙ sym y.title in
    let valid : p.is_valid ≡ q.is_valid = same_bool p.is_valid q.is_valid (λ t. y.exact.1 (x.exact.0 t)) (λ t. x.exact.1 (y.exact.0 t)) in
    λ j. record { title = titles j; is_valid = valid j }

one_item_checks : (before : List Item) (a : Item) (xs ys : List Check) → ItemChecks before a xs → ItemChecks before a ys → xs ≡ ys
one_item_checks before (item.Rule rule) xs ys x y = x ∙ sym y
one_item_checks before (item.Program program) xs ys x y = x ∙ sym y
one_item_checks before (item.Certificate c) xs ys x y = x.1 ∙ ap (λ z. z ∷ []) (one_check before c x.0 y.0 x.2 y.2) ∙ sym y.1

pub one_checks : (before items : List Item) (a b : List Check) → AreChecks before items a → AreChecks before items b → a ≡ b
one_checks before [] a b x y = x ∙ sym y
one_checks before (i ∷ more) a b x y =
    let own : x.0 ≡ y.0 = one_item_checks before i x.0 y.0 x.3 y.3 in
    let others : x.1 ≡ y.1 = one_checks (before ++ i ∷ []) more x.1 y.1 x.4 y.4 in
    x.2 ∙ (λ j. own j ++ others j) ∙ sym y.2
