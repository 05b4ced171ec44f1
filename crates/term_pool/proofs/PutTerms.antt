-- A term that is put into a pool part by part: the numbers of its parts stay, and its node stands for it.
use Rattle.std.specs.Prelude.{◌≡◌, ℕ, ◌+◌, ◌<◌, true, ℤ, List, [], ◌∷◌, ◌++◌, length, take, Result, Ok, Err, IfOk, OnOk, refl}
use Rattle.std.proofs.Common.{sym, ◌∙◌, ap, subst, get_or}
use Rattle.std.proofs.lemmas.List.{append_assoc, append-nil, take_more}
use Rattle.rule_terms.specs.Term.{StoreTerm, left_store, right_store, put, run, ValueTerm, num, get, ev, add, sub, mul, ValueTerms, no_terms, term}
use Rattle.rule_terms.specs.TermView.{terms_of}
use Rattle.term_pool.specs.declared.node.Node.{Node}
use Rattle.term_pool.specs.declared.node.Node.TheVariants.{L, R, Put, Run, Num, Get, Ev, Add, Sub, Mul}
use Rattle.term_pool.specs.Numbered.{Term, a_store, a_value, as_store, as_value, is_store_there, is_value_there, value_numbered, values_numbered, built, terms_of_nodes, has_value, has_values, names_earlier, IsNumber, AreNumbers}
use Rattle.term_pool.specs.Growth.{Adds, store_terms, value_terms, indices_terms}
use Rattle.term_pool.proofs.Places.{both, and_true}
use Rattle.term_pool.proofs.Grown.{values_stay, has_values_stay}
use Rattle.term_pool.proofs.Growing.{adds_both, adds_nothing, adds_within}

pub stays : {a b : List Node} {xs : List Term} (n : ℕ) (t : Term) → Adds a b xs → IsNumber a n t → IsNumber b n t
stays n t g h = adds_within g n t h

pub all_stay : {a b : List Node} {xs : List Term} (js : List ℕ) (vs : ValueTerms) → Adds a b xs → AreNumbers a js vs → AreNumbers b js vs
all_stay {a} {b} js vs g h =
    let w = adds_within g in
    (has_values_stay (terms_of_nodes a) (terms_of_nodes b) w js h.0, values_stay (terms_of_nodes a) (terms_of_nodes b) w js h.0 ∙ h.1)

-- a node whose parts have numbers, and what stands for its term once the node is there
pub record Ready (old mid : List Node) (node : Node) (t : Term) (all : List Term) : Type 0 where
  pub named : names_earlier (terms_of_nodes mid) node ≡ true
  pub is : built (terms_of_nodes mid) node ≡ t
  pub parts : List Term
  pub added : Adds old mid parts
  pub whole : parts ++ t ∷ [] ≡ all

pub ready_number : {E : Type 0} {old mid : List Node} {node : Node} {t : Term} {all : List Term} (r : Result ℕ E) (new : List Node)
    → Ready old mid node t all → IfOk r (λ n. IsNumber new n (built (terms_of_nodes mid) node)) → IfOk r (λ n. IsNumber new n t)
ready_number r new ready h = subst (λ u. IfOk r (λ n. IsNumber new n u)) ready.is h

pub ready_added : {E : Type 0} {old mid : List Node} {node : Node} {t : Term} {all : List Term} (r : Result ℕ E) (new : List Node)
    → Ready old mid node t all → OnOk r (Adds mid new (built (terms_of_nodes mid) node ∷ [])) → OnOk r (Adds old new all)
ready_added {old = old} {mid = mid} {t = t} (Ok n) new ready h =
    subst (Adds old new) ready.whole (adds_both ready.added (subst (λ u. Adds mid new (u ∷ [])) ready.is h))
ready_added (Err e) new ready h = tt

pub left_ready : (old : List Node) (top : StoreTerm) → top ≡ left_store → Ready old old L (a_store top) (store_terms top)
unfolding built names_earlier store_terms
left_ready old top e = subst (λ u. Ready old old L (a_store u) (store_terms u)) (sym e)
    (record { named = refl; is = refl; parts = []; added = adds_nothing old; whole = refl })

pub right_ready : (old : List Node) (top : StoreTerm) → top ≡ right_store → Ready old old R (a_store top) (store_terms top)
unfolding built names_earlier store_terms
right_ready old top e = subst (λ u. Ready old old R (a_store u) (store_terms u)) (sym e)
    (record { named = refl; is = refl; parts = []; added = adds_nothing old; whole = refl })

pub put_ready : {old a b c : List Node} (i x k : ℕ) (js : List ℕ) (s : StoreTerm) (is : ValueTerms) (v : ValueTerm) (top : StoreTerm)
    → Adds old a (store_terms s) → IsNumber a i (a_store s) → Adds a b (indices_terms is) → AreNumbers b js is → Adds b c (value_terms v) → IsNumber c k (a_value v)
    → top ≡ put s x is v → Ready old c (Put i (record { name = x; indices = js }) k) (a_store top) (store_terms top)
unfolding built names_earlier store_terms
put_ready {old} {a} {b} {c} i x k js s is v top g h m l n o e =
    let first = stays i (a_store s) n (stays i (a_store s) m h) in
    let middle = all_stay js is n l in
    subst (λ u. Ready old c (Put i (record { name = x; indices = js }) k) (a_store u) (store_terms u)) (sym e)
    (record {
      named = and_true (ap is_store_there first) (and_true middle.0 (ap is_value_there o));
      is = λ j. a_store (put (as_store (first j)) x (middle.1 j) (as_value (o j)));
      parts = store_terms s ++ (indices_terms is ++ value_terms v);
      added = adds_both g (adds_both m n);
      whole = refl;
    })

pub run_ready : {old a : List Node} (k i : ℕ) (s top : StoreTerm) → Adds old a (store_terms s) → IsNumber a i (a_store s) → top ≡ run k s → Ready old a (Run k i) (a_store top) (store_terms top)
unfolding built names_earlier store_terms
run_ready {old} {a} k i s top g h e = subst (λ u. Ready old a (Run k i) (a_store u) (store_terms u)) (sym e)
    (record { named = ap is_store_there h; is = λ j. a_store (run k (as_store (h j))); parts = store_terms s; added = g; whole = refl })

num_ready : (old : List Node) (y z : ℤ) → y ≡ z → Ready old old (Num y) (a_value (num z)) (value_terms (num z))
unfolding built names_earlier store_terms
num_ready old y z e = subst (λ u. Ready old old (Num y) (a_value (num u)) (value_terms (num u))) e
    (record { named = refl; is = refl; parts = []; added = adds_nothing old; whole = refl })

pub num_number : {E : Type 0} (r : Result ℕ E) (old new : List Node) (y z : ℤ) → y ≡ z → IfOk r (λ n. IsNumber new n (built (terms_of_nodes old) (Num y))) → IfOk r (λ n. IsNumber new n (a_value (num z)))
num_number r old new y z e h = ready_number r new (num_ready old y z e) h

pub num_added : {E : Type 0} (r : Result ℕ E) (old new : List Node) (y z : ℤ) → y ≡ z → OnOk r (Adds old new (built (terms_of_nodes old) (Num y) ∷ [])) → OnOk r (Adds old new (value_terms (num z)))
num_added r old new y z e h = ready_added r new (num_ready old y z e) h

pub get_ready : {old a b : List Node} (x i : ℕ) (js : List ℕ) (is : ValueTerms) (s : StoreTerm) (top : ValueTerm)
    → Adds old a (indices_terms is) → AreNumbers a js is → Adds a b (store_terms s) → IsNumber b i (a_store s)
    → top ≡ get x is s → Ready old b (Get (record { name = x; indices = js }) i) (a_value top) (value_terms top)
unfolding built names_earlier store_terms
get_ready {old} {a} {b} x i js is s top g h m o e =
    let first = all_stay js is m h in
    subst (λ u. Ready old b (Get (record { name = x; indices = js }) i) (a_value u) (value_terms u)) (sym e)
    (record {
      named = and_true first.0 (ap is_store_there o);
      is = λ j. a_value (get x (first.1 j) (as_store (o j)));
      parts = indices_terms is ++ store_terms s;
      added = adds_both g m;
      whole = refl;
    })

pub ev_ready : {old a : List Node} (k i : ℕ) (s : StoreTerm) (top : ValueTerm) → Adds old a (store_terms s) → IsNumber a i (a_store s) → top ≡ ev k s → Ready old a (Ev k i) (a_value top) (value_terms top)
unfolding built names_earlier store_terms
ev_ready {old} {a} k i s top g h e = subst (λ u. Ready old a (Ev k i) (a_value u) (value_terms u)) (sym e)
    (record { named = ap is_store_there h; is = λ j. a_value (ev k (as_store (h j))); parts = store_terms s; added = g; whole = refl })

pub add_ready : {old a b : List Node} (i k : ℕ) (v w : ValueTerm) (top : ValueTerm) → Adds old a (value_terms v) → IsNumber a i (a_value v) → Adds a b (value_terms w) → IsNumber b k (a_value w)
    → top ≡ add v w → Ready old b (Add i k) (a_value top) (value_terms top)
unfolding built names_earlier store_terms
add_ready {old} {a} {b} i k v w top g h m o e =
    let first = stays i (a_value v) m h in
    subst (λ u. Ready old b (Add i k) (a_value u) (value_terms u)) (sym e)
    (record {
      named = and_true (ap is_value_there first) (ap is_value_there o);
      is = λ j. a_value (add (as_value (first j)) (as_value (o j)));
      parts = value_terms v ++ value_terms w;
      added = adds_both g m;
      whole = refl;
    })

pub sub_ready : {old a b : List Node} (i k : ℕ) (v w : ValueTerm) (top : ValueTerm) → Adds old a (value_terms v) → IsNumber a i (a_value v) → Adds a b (value_terms w) → IsNumber b k (a_value w)
    → top ≡ sub v w → Ready old b (Sub i k) (a_value top) (value_terms top)
unfolding built names_earlier store_terms
sub_ready {old} {a} {b} i k v w top g h m o e =
    let first = stays i (a_value v) m h in
    subst (λ u. Ready old b (Sub i k) (a_value u) (value_terms u)) (sym e)
    (record {
      named = and_true (ap is_value_there first) (ap is_value_there o);
      is = λ j. a_value (sub (as_value (first j)) (as_value (o j)));
      parts = value_terms v ++ value_terms w;
      added = adds_both g m;
      whole = refl;
    })

pub mul_ready : {old a b : List Node} (i k : ℕ) (v w : ValueTerm) (top : ValueTerm) → Adds old a (value_terms v) → IsNumber a i (a_value v) → Adds a b (value_terms w) → IsNumber b k (a_value w)
    → top ≡ mul v w → Ready old b (Mul i k) (a_value top) (value_terms top)
unfolding built names_earlier store_terms
mul_ready {old} {a} {b} i k v w top g h m o e =
    let first = stays i (a_value v) m h in
    subst (λ u. Ready old b (Mul i k) (a_value u) (value_terms u)) (sym e)
    (record {
      named = and_true (ap is_value_there first) (ap is_value_there o);
      is = λ j. a_value (mul (as_value (first j)) (as_value (o j)));
      parts = value_terms v ++ value_terms w;
      added = adds_both g m;
      whole = refl;
    })

-- indices, one after another
pub pushed : ValueTerms → ValueTerm → ValueTerms
pushed no_terms w = term w no_terms
pushed (term u us) w = term u (pushed us w)

pub values_pushed : (ts : List Term) (js : List ℕ) (n : ℕ) → values_numbered ts (js ++ n ∷ []) ≡ pushed (values_numbered ts js) (value_numbered ts n)
unfolding values_numbered pushed
values_pushed ts [] n = refl
values_pushed ts (i ∷ js) n = ap (term (value_numbered ts i)) (values_pushed ts js n)

pub terms_pushed : (vs : List ValueTerm) (v : ValueTerm) → terms_of (vs ++ v ∷ []) ≡ pushed (terms_of vs) v
unfolding pushed
terms_pushed [] v = refl
terms_pushed (u ∷ us) v = ap (term u) (terms_pushed us v)

values_more : (ts : List Term) (js : List ℕ) (n : ℕ) (vs : List ValueTerm) (v : ValueTerm) → values_numbered ts js ≡ terms_of vs → value_numbered ts n ≡ v → values_numbered ts (js ++ n ∷ []) ≡ terms_of (vs ++ v ∷ [])
values_more ts js n vs v h e = values_pushed ts js n ∙ (λ j. pushed (h j) (e j)) ∙ sym (terms_pushed vs v)

has_more : (ts : List Term) (js : List ℕ) (n : ℕ) → has_values ts js ≡ true → has_value ts n ≡ true → has_values ts (js ++ n ∷ []) ≡ true
unfolding has_values
has_more ts [] n h k = and_true k refl
has_more ts (i ∷ js) n h k = let b = both (has_value ts i) (has_values ts js) h in and_true b.0 (has_more ts js n b.1 k)

indices_more : (vs : List ValueTerm) (v : ValueTerm) → indices_terms (terms_of (vs ++ v ∷ [])) ≡ indices_terms (terms_of vs) ++ value_terms v
unfolding store_terms
indices_more [] v = append-nil (value_terms v)
indices_more (u ∷ us) v = ap (λ l. value_terms u ++ l) (indices_more us v) ∙ sym (append_assoc (value_terms u) (indices_terms (terms_of us)) (value_terms v))

taken_more : (items : List ValueTerm) (i : ℕ) (v : ValueTerm) → i < length items → v ≡ get_or items i v → take (i + 1) items ≡ take i items ++ v ∷ []
taken_more items i v h is = take_more items i v h ∙ ap (λ y. take i items ++ y ∷ []) (sym is)

pub next_adds : {old mid new : List Node} (items : List ValueTerm) (i : ℕ) (v : ValueTerm) → Adds old mid (indices_terms (terms_of (take i items))) → Adds mid new (value_terms v)
    → i < length items → v ≡ get_or items i v → Adds old new (indices_terms (terms_of (take (i + 1) items)))
next_adds {old} {mid} {new} items i v a b h is =
    subst (Adds old new) (sym (ap (λ l. indices_terms (terms_of l)) (taken_more items i v h is) ∙ indices_more (take i items) v)) (adds_both a b)

pub next_numbers : {mid new : List Node} (items : List ValueTerm) (i : ℕ) (v : ValueTerm) (js : List ℕ) (n : ℕ) → AreNumbers mid js (terms_of (take i items)) → Adds mid new (value_terms v) → IsNumber new n (a_value v)
    → i < length items → v ≡ get_or items i v → AreNumbers new (js ++ n ∷ []) (terms_of (take (i + 1) items))
next_numbers {mid} {new} items i v js n a b m h is =
    let k = all_stay js (terms_of (take i items)) b a in
    let ts = terms_of_nodes new in (
      has_more ts js n k.0 (ap is_value_there m),
      values_more ts js n (take i items) v k.1 (ap as_value m) ∙ ap terms_of (sym (taken_more items i v h is)),
    )

pub no_indices : (ns : List Node) (items : List ValueTerm) → AreNumbers ns [] (terms_of (take 0 items))
unfolding has_values values_numbered
no_indices ns items = (refl, refl)

pub no_growth : (ns : List Node) (items : List ValueTerm) → Adds ns ns (indices_terms (terms_of (take 0 items)))
unfolding store_terms
no_growth ns items = adds_nothing ns
