-- A pool that grows: a node that was missing, a node that was there, and one growth after another.
use Rattle.std.specs.Prelude.{◌≡◌, ℕ, Bool, true, false, cond, List, [], ◌∷◌, ◌++◌, length, Some, slice_get, refl}
use Rattle.std.specs.List.{list_any}
use Rattle.std.proofs.Common.{sym, ◌∙◌, ap, subst, arith}
use Rattle.std.proofs.lemmas.List.{append_assoc, append-nil}
use Rattle.rule_terms.specs.Added.{added_all}
use Rattle.term_universe.proofs.Listings.{added_append}
use Rattle.term_pool.specs.declared.node.Node.{Node}
use Rattle.term_pool.specs.Numbered.{Term, built, terms_of_nodes, names_earlier, IsPool, Within}
use Rattle.term_pool.specs.Growth.{term_same, Adds, Extends}
use Rattle.term_pool.specs.Kept.{IsMissing}
use Rattle.term_pool.proofs.Places.{last_place, any_there, none_there}
use Rattle.term_pool.proofs.SameTerms.{term_decides, term_itself}
use Rattle.term_pool.proofs.Grown.{grown_append, length_grown, within_grown, stands_built}
use Rattle.term_pool.proofs.Different.{node_stands, term_missing, terms_push}

pub adds_missing : (ns : List Node) (m : Node) → IsPool ns → names_earlier (terms_of_nodes ns) m ≡ true → IsMissing ns m → Adds ns (ns ++ m ∷ []) (built (terms_of_nodes ns) m ∷ [])
unfolding added_all
adds_missing ns m p h missing =
    let ts = terms_of_nodes ns in
    let t = built ts m in
    let none : list_any (term_same t) ts ≡ false = none_there (term_same t) ts (λ i x k. by i x k (term_same t x) refl) in
    record { more = m ∷ []; kept = refl; terms = terms_push ns m ∙ sym (ap (λ b. cond b ts (ts ++ t ∷ [])) none) }
  where
    by : (i : ℕ) (x : Term) → slice_get (terms_of_nodes ns) i ≡ Some x → (b : Bool) → term_same (built (terms_of_nodes ns) m) x ≡ b → term_same (built (terms_of_nodes ns) m) x ≡ false
    by i x k true e = absurd (term_missing ns m p h missing i (k ∙ ap Some (sym (term_decides (built (terms_of_nodes ns) m) x e))))
    by i x k false e = e

pub adds_nothing : (ns : List Node) → Adds ns ns []
unfolding added_all
adds_nothing ns = record { more = []; kept = sym (append-nil ns); terms = refl }

pub adds_known : (ns : List Node) (t : Term) (i : ℕ) → slice_get (terms_of_nodes ns) i ≡ Some t → Adds ns ns (t ∷ [])
unfolding added_all
adds_known ns t i h =
    let ts = terms_of_nodes ns in
    let there = any_there (term_same t) ts i t h (term_itself t) in
    record { more = []; kept = sym (append-nil ns); terms = sym (ap (λ b. cond b ts (ts ++ t ∷ [])) there) }

pub adds_both : {old mid new : List Node} {xs ys : List Term} → Adds old mid xs → Adds mid new ys → Adds old new (xs ++ ys)
adds_both {old} {mid} {new} {xs} {ys} a b = record {
  more = a.more ++ b.more;
  kept = b.kept ∙ ap (λ l. l ++ b.more) a.kept ∙ append_assoc old a.more b.more;
  terms = b.terms ∙ ap (λ ts. added_all term_same ts ys) a.terms ∙ sym (added_append term_same (terms_of_nodes old) xs ys);
}

pub adds_extends : {old new : List Node} {xs : List Term} → Adds old new xs → Extends old new
adds_extends a = (a.more, a.kept)

pub extends_none : (ns : List Node) → Extends ns ns
extends_none ns = ([], sym (append-nil ns))

pub extends_both : (old mid new : List Node) → Extends old mid → Extends mid new → Extends old new
extends_both old mid new a b = (a.0 ++ b.0, b.1 ∙ ap (λ l. l ++ b.0) a.1 ∙ append_assoc old a.0 b.0)

pub adds_within : {old new : List Node} {xs : List Term} → Adds old new xs → Within (terms_of_nodes old) (terms_of_nodes new)
adds_within {old} {new} {xs} a i t h = ap (λ l. slice_get (terms_of_nodes l) i) a.kept ∙ ap (λ l. slice_get l i) (grown_append [] old a.more) ∙ within_grown (terms_of_nodes old) a.more i t h

-- the number of a node that was there, and of a node that was put at the end
pub number_known : (ns : List Node) (m : Node) (i : ℕ) → IsPool ns → slice_get ns i ≡ Some m → slice_get (terms_of_nodes ns) i ≡ Some (built (terms_of_nodes ns) m)
number_known ns m i p h = stands_built (node_stands ns i m p h)

pub known_node : (ns : List Node) (m : Node) (i : ℕ) → IsPool ns → slice_get ns i ≡ Some m → Adds ns ns (built (terms_of_nodes ns) m ∷ [])
known_node ns m i p h = adds_known ns (built (terms_of_nodes ns) m) i (number_known ns m i p h)

pub number_new : (old new : List Node) (m : Node) (i : ℕ) → new ≡ old ++ m ∷ [] → i ≡ length old → slice_get (terms_of_nodes new) i ≡ Some (built (terms_of_nodes old) m)
number_new old new m i e k =
    let ts = terms_of_nodes old in
    let here : i ≡ length ts = omega (arith, k, length_grown [] old) in
    ap (λ l. slice_get (terms_of_nodes l) i) e ∙ ap (λ l. slice_get l i) (terms_push old m) ∙ ap (slice_get (ts ++ built ts m ∷ [])) here ∙ last_place ts (built ts m)

pub new_node : (old new : List Node) (m : Node) → IsPool old → names_earlier (terms_of_nodes old) m ≡ true → IsMissing old m → new ≡ old ++ m ∷ [] → Adds old new (built (terms_of_nodes old) m ∷ [])
new_node old new m p h missing e = subst (λ l. Adds old l (built (terms_of_nodes old) m ∷ [])) (sym e) (adds_missing old m p h missing)
