-- A chair's own facts after each kind of step.
use Rattle.std.proofs.Common.{◌≡◌, ℕ, ◌<◌, ◌≤◌, ◌==◌, Bool, true, false, MatchBool, List, refl, sym, ◌∙◌, subst, ⊎_elim, arith}
use Rattle.atomic_table.specs.Seated.{TableId}
use Rattle.claim_table.specs.declared.view.View.{View}
use Rattle.claim_table.specs.Occurrences.{times, without}
use Rattle.claim_table.specs.Views.{after_look, after_claim}
use Rattle.claim_table.specs.Chairs.{HeldBelow, IsSeated}
use Rattle.claim_table.specs.Steps.{Place}
use Rattle.claim_table.proofs.Occurrences.{times-without_le, pushed}

pub below_pushed : (v : View) (slot : ℕ) → slot < v.seen → HeldBelow v → HeldBelow (after_claim slot v)
below_pushed v slot lt below i some = ⊎_elim (λ e. subst (λ (z : ℕ). z < v.seen) (sym e) lt) (λ before. below i before) (pushed slot i v.held some)

pub below_without : (v w : View) (slot : ℕ) → HeldBelow v → w.held ≡ without slot v.held → w.seen ≡ v.seen → HeldBelow w
below_without v w slot below held seen i some =
    let less = times-without_le slot i v.held in
    let some_left : 0 < times i (without slot v.held) = subst (λ (xs : List ℕ). 0 < times i xs) held some in
    let lt = below i (omega arith) in omega arith

-- the chair now knows w, which has its number and its slots
pub seated_after : (number : ℕ) (table now : TableId) (me after : Place) (w : View) → IsSeated number table me → now ≡ table → after ≡ (w, me.1)
    → w.number ≡ me.0.number → w.slots ≡ me.0.slots → w.seen ≤ w.slots → HeldBelow w → IsSeated number now after
seated_after number table now me after w s same is number_is slots_are seen below =
    let was = s.slots_are.0 in
    let within = s.slots_are.1 in
    subst (λ (p : TableId × Place). IsSeated number p.0 p.1) (λ i. (sym same i, sym is i)) (record {
      carries_none = s.carries_none;
      number_is = number_is ∙ s.number_is;
      few = s.few;
      slots_are = (omega arith, omega arith);
      seen_within = seen;
      held_below = below;
    })

claims_case : (number : ℕ) (table now : TableId) (me after : Place) (slot : ℕ) (b : Bool) → IsSeated number table me → now ≡ table → slot < me.0.seen
    → MatchBool b ((◌≡◌ {A = Place} after (after_claim slot me.0, me.1)) × (times slot me.0.held ≡ 0)) (◌≡◌ {A = Place} after (after_look slot me.0, me.1))
    → IsSeated number now after
claims_case number table now me after slot true s same lt told = seated_after number table now me after (after_claim slot me.0) s same told.0 refl refl s.seen_within (below_pushed me.0 slot lt s.held_below)
claims_case number table now me after slot false s same lt told = seated_after number table now me after (after_look slot me.0) s same told refl refl s.seen_within s.held_below

-- after a claim, whether it took the slot or not
pub seated_claims : (number : ℕ) (table now : TableId) (me after : Place) (slot p n : ℕ) → IsSeated number table me → now ≡ table → slot < me.0.seen → slot ≡ p
    → MatchBool (n == 0) ((◌≡◌ {A = Place} after (after_claim p me.0, me.1)) × (times p me.0.held ≡ 0)) (◌≡◌ {A = Place} after (after_look p me.0, me.1))
    → IsSeated number now after
seated_claims number table now me after slot p n s same lt e told =
    claims_case number table now me after p (n == 0) s same (subst (λ (z : ℕ). z < me.0.seen) e lt) told
