-- Work that comes out alike, blocks that are the same, and where one may stand for the other.
use Rattle.std.specs.Prelude.{◌≡◌, List, [], ◌∷◌, ◌++◌, refl}
use Rattle.std.proofs.Common.{sym, ◌∙◌, ap, subst, inl, inr}
use Rattle.toy_imp.specs.Store.{Store}
use Rattle.toy_imp.specs.Block.{skip, Block, empty, stmt, append}
use Rattle.toy_imp.specs.Run.{Item, act, before, step, Outcome, ended, halted}
use Rattle.toy_imp.specs.Ends.{Reaches, ComesOut, Halts, Alike, Same, EndAlike, IsQuiet}
use Rattle.toy_imp.proofs.Runs.{before-append, before-split, passes, reaches_through, stops_in_front, reaches_next, next_reaches}

-- ---- alike is an equivalence
pub alike_self : (w : List Item) → Alike w w
alike_self w = record { to = λ s o r. r; back = λ s o r. r }

pub alike_turned : (v w : List Item) → Alike v w → Alike w v
alike_turned v w a = record { to = a.back; back = a.to }

pub alike_chain : (u v w : List Item) → Alike u v → Alike v w → Alike u w
alike_chain u v w a b = record { to = λ s o r. b.to s o (a.to s o r); back = λ s o r. a.back s o (b.back s o r) }

pub alike_equal : (v w : List Item) → v ≡ w → Alike v w
alike_equal v w e = subst (λ x. Alike v x) e (alike_self v)

-- ---- and is kept by work in front and behind
after_to : (u v w : List Item) → ((s : Store) (o : Outcome) → Reaches v s o → Reaches w s o) → (s : Store) (o : Outcome) → Reaches (u ++ v) s o → Reaches (u ++ w) s o
after_to u v w to s o r =
    elim (passes u v s o r) [
      | inl way ↦ reaches_through u w s way.between o way.front (to way.between o way.rear)
      | inr stops ↦ stops_in_front u w s o stops
    ]

pub later_replaced : (u v w : List Item) → Alike v w → Alike (u ++ v) (u ++ w)
later_replaced u v w a = record { to = after_to u v w a.to; back = after_to u w v a.back }

front_to : (u v w : List Item) → ((s : Store) (o : Outcome) → Reaches u s o → Reaches v s o) → (s : Store) (o : Outcome) → Reaches (u ++ w) s o → Reaches (v ++ w) s o
front_to u v w to s o r =
    elim (passes u w s o r) [
      | inl way ↦ reaches_through v w s way.between o (to s (ended way.between) way.front) way.rear
      | inr stops ↦ stops_in_front v w s o (record { store = stops.store; is = stops.is; front = to s (halted stops.store) stops.front })
    ]

pub earlier_replaced : (u v w : List Item) → Alike u v → Alike (u ++ w) (v ++ w)
earlier_replaced u v w a = record { to = front_to u v w a.to; back = front_to v u w a.back }

-- ---- blocks
pub alike_of_same : (p q : Block) → Same p q → Alike (before p []) (before q [])
alike_of_same p q a = record { to = a.to; back = a.back }

pub same_of_alike : (p q : Block) → Alike (before p []) (before q []) → Same p q
same_of_alike p q a = record { to = a.to; back = a.back }

pub same_self : (p : Block) → Same p p
same_self p = record { to = λ s o r. r; back = λ s o r. r }

pub same_turned : (p q : Block) → Same p q → Same q p
same_turned p q a = record { to = a.back; back = a.to }

pub same_chain : (p q c : Block) → Same p q → Same q c → Same p c
same_chain p q c a b = record { to = λ s o r. b.to s o (a.to s o r); back = λ s o r. a.back s o (b.back s o r) }

-- a block in front of work, replaced by one that is the same
pub front_replaced : (p q : Block) (work : List Item) → Same p q → Alike (before p work) (before q work)
front_replaced p q work a =
    alike_chain _ _ _ (alike_equal _ _ (before-split p work))
    (alike_chain _ _ _ (earlier_replaced _ _ work (alike_of_same p q a)) (alike_equal _ _ (sym (before-split q work))))

-- work after a block, replaced by work that comes out alike
pub rear_replaced : (p : Block) (v w : List Item) → Alike v w → Alike (before p v) (before p w)
rear_replaced p v w a =
    alike_chain _ _ _ (alike_equal _ _ (before-split p v))
    (alike_chain _ _ _ (later_replaced (before p []) v w a) (alike_equal _ _ (sym (before-split p w))))

-- the work of a block that is put together is that of its parts
pub alike_append : (p q : Block) (work : List Item) → Alike (before (append p q) work) (before p (before q work))
alike_append p q work = alike_equal _ _ (before-append p q work)

pub parts_replaced : (p q c d : Block) → Same p q → Same c d → Same (append p c) (append q d)
parts_replaced p q c d a b = same_of_alike _ _
    (alike_chain _ _ _ (alike_append p c [])
    (alike_chain _ _ _ (front_replaced p q (before c []) a)
    (alike_chain _ _ _ (rear_replaced q _ _ (alike_of_same c d b)) (alike_turned _ _ (alike_append q d [])))))

-- ---- what changes nothing
pub skip_is_nothing : (work : List Item) → Alike (act skip ∷ work) work
unfolding step
skip_is_nothing work = record { to = λ s o r. next_reaches (act skip) work s o r; back = λ s o r. reaches_next (act skip) work s o r }

pub append-empty : (p : Block) → append p empty ≡ p
append-empty empty = refl
append-empty (stmt s p) = ap (stmt s) (append-empty p)

pub append-assoc : (p q c : Block) → append (append p q) c ≡ append p (append q c)
append-assoc empty q c = refl
append-assoc (stmt s p) q c = ap (stmt s) (append-assoc p q c)

pub skip_drops : (p q : Block) → Same (append p (stmt skip q)) (append p q)
skip_drops p q = parts_replaced p p (stmt skip q) q (same_self p) (same_of_alike _ _ (skip_is_nothing (before q [])))

pub empty_is_nothing : ((work : List Item) → before empty work ≡ work) × ((p : Block) → append p empty ≡ p)
empty_is_nothing = (λ work. refl, append-empty)

-- ---- quiet blocks
same_to : (p q : Block) → IsQuiet p → EndAlike p q → (s : Store) (o : Outcome) → ComesOut p s o → ComesOut q s o
same_to p q quiet a s (ended t) r = a.to s t r
same_to p q quiet a s (halted t) r = absurd (quiet.never s t r)

end_alike_turned : (p q : Block) → EndAlike p q → EndAlike q p
end_alike_turned p q a = record { to = a.back; back = a.to }

pub quiet_is_same : (p q : Block) → IsQuiet p → IsQuiet q → EndAlike p q → Same p q
quiet_is_same p q first second a = record { to = same_to p q first a; back = same_to q p second (end_alike_turned p q a) }

-- what is the same ends alike
pub same_ends : (p q : Block) → Same p q → EndAlike p q
same_ends p q a = record { to = λ s t r. a.to s (ended t) r; back = λ s t r. a.back s (ended t) r }

pub append_work : (p q : Block) → before (append p q) [] ≡ before p [] ++ before q []
append_work p q = before-append p q [] ∙ before-split p (before q [])

quiet_parts : (p q : Block) → IsQuiet p → IsQuiet q → (s t : Store) → Halts (append p q) s t → ⊥
quiet_parts p q first second s t r =
    elim (passes (before p []) (before q []) s (halted t) (subst (λ w. Reaches w s (halted t)) (append_work p q) r)) [
      | inl way ↦ second.never way.between t way.rear
      | inr stops ↦ first.never s stops.store stops.front
    ]

pub quiet_together : (p q : Block) → IsQuiet p → IsQuiet q → IsQuiet (append p q)
quiet_together p q first second = record { never = quiet_parts p q first second }

pub quiet_kept : (p q : Block) → Same p q → IsQuiet p → IsQuiet q
quiet_kept p q a quiet = record { never = λ s t r. quiet.never s t (a.back s (halted t) r) }
