-- The words of a certificate are whole lines, each of which begins with a word of the grammar.
use Rattle.std.specs.Prelude.{◌≡◌, ℕ, suc, ℤ, pos, negsuc, Bool, true, false, List, [], ◌∷◌, ◌++◌, length, Option, Some, None, refl}
use Rattle.std.specs.List.{flat_map}
use Rattle.std.proofs.Common.{sym, ap, ◌∙◌, append_assoc, append-nil}
use Rattle.rule_terms.specs.Term.{StoreTerm, left_store, right_store, put, run, ValueTerm, num, get, ev, add, sub, mul, ValueTerms, no_terms, term}
use Rattle.rule_terms.specs.declared.obligation.Atom.{Atom}
use Rattle.rule_terms.specs.declared.obligation.Atom.TheVariants as atom
use Rattle.rule_terms.specs.declared.obligation.Conjunct.{Conjunct}
use Rattle.rule_terms.specs.declared.obligation.Literal.{Literal}
use Rattle.refutations.specs.Refutation.{parts}
use Rattle.refutations.specs.declared.refutation.By.{By}
use Rattle.refutations.specs.declared.refutation.By.TheVariants as by
use Rattle.refutations.specs.declared.refutation.Part.{Part}
use Rattle.refutations.specs.declared.refutation.Part.TheVariants as part
use Rattle.refutations.specs.declared.refutation.Step.{Step}
use Rattle.refutations.specs.declared.refutation.SumRow.{SumRow}
use Rattle.refutations.specs.declared.refutation.SumRow.TheVariants as row
use Rattle.spot_obligations.specs.declared.entry.Entry.{Entry}
use Rattle.cert_checker.specs.declared.certificate.Certificate.{Certificate}
use Rattle.cert_checker.specs.declared.certificate.Proved.{Proved}
use Rattle.word_text.specs.declared.token.Key.{Key as Word}
use Rattle.word_text.specs.declared.token.Key.TheVariants as key
use Rattle.word_text.specs.declared.token.Token.{Token}
use Rattle.word_text.specs.declared.token.Token.TheVariants.{Key, Number, Par, End}
use Rattle.word_text.specs.Words.{are_lines}
use Rattle.term_text.specs.TermText.{number_word, term_count, store_words, value_words, terms_words}
use Rattle.refutation_text.specs.NumberText.{count_word, counted_words, index_words}
use Rattle.refutation_text.specs.LiteralText.{sign_word, atom_words, literal_words}
use Rattle.refutation_text.specs.StepText.{row_words, reason_words, step_words, part_words, refutation_words}
use Rattle.cert_format.specs.CertificateText.{lines_words, conjunct_number, gives_words, conjunct_words, entry_words, proved_words, certificate_words, first_format}

-- words within a line, words up to the end of a line with whole lines behind it, whole lines
abbrev InLine : List Token → Type 0
InLine ws = (ts : List Token) → are_lines true (ws ++ ts) ≡ are_lines true ts

abbrev EndsLine : List Token → Type 0
EndsLine ws = (ts : List Token) → are_lines true (ws ++ ts) ≡ are_lines false ts

abbrev Lines : List Token → Type 0
Lines ws = (ts : List Token) → are_lines false (ws ++ ts) ≡ are_lines false ts

none_in : InLine []
none_in ts = refl

key_in : (k : Word) (ws : List Token) → InLine ws → InLine (Key k ∷ ws)
unfolding are_lines
key_in k ws h ts = h ts

par_in : (k : ℕ) (ws : List Token) → InLine ws → InLine (Par k ∷ ws)
unfolding are_lines
par_in k ws h ts = h ts

number_in : (sign : Bool) (n : ℕ) (ws : List Token) → InLine ws → InLine (Number sign n ∷ ws)
unfolding are_lines
number_in sign n ws h ts = h ts

both_in : (a b : List Token) → InLine a → InLine b → InLine (a ++ b)
both_in a b ha hb ts = ap (are_lines true) (append_assoc a b ts) ∙ ha (b ++ ts) ∙ hb ts

each_in : {X : Type 0} (words : X → List Token) → ((x : X) → InLine (words x)) → (xs : List X) → InLine (flat_map words xs)
each_in words h [] = none_in
each_in words h (x ∷ xs) = both_in (words x) (flat_map words xs) (h x) (each_in words h xs)

in_ends : (a b : List Token) → InLine a → EndsLine b → EndsLine (a ++ b)
in_ends a b ha hb ts = ap (are_lines true) (append_assoc a b ts) ∙ ha (b ++ ts) ∙ hb ts

ends_lines : (a b : List Token) → EndsLine a → Lines b → EndsLine (a ++ b)
ends_lines a b ha hb ts = ap (are_lines true) (append_assoc a b ts) ∙ ha (b ++ ts) ∙ hb ts

end_then : (ws : List Token) → Lines ws → EndsLine (End ∷ ws)
unfolding are_lines
end_then ws h ts = h ts

number_ends : (n : ℕ) (ws : List Token) → EndsLine ws → EndsLine (count_word n ∷ ws)
unfolding are_lines
number_ends n ws h ts = h ts

key_ends : (k : Word) (ws : List Token) → EndsLine ws → EndsLine (Key k ∷ ws)
unfolding are_lines
key_ends k ws h ts = h ts

key_lines : (k : Word) (ws : List Token) → EndsLine ws → Lines (Key k ∷ ws)
unfolding are_lines
key_lines k ws h ts = h ts

none_lines : Lines []
none_lines ts = refl

end_only : EndsLine (End ∷ [])
end_only = end_then [] none_lines

both_lines : (a b : List Token) → Lines a → Lines b → Lines (a ++ b)
both_lines a b ha hb ts = ap (are_lines false) (append_assoc a b ts) ∙ ha (b ++ ts) ∙ hb ts

each_lines : {X : Type 0} (words : X → List Token) → ((x : X) → Lines (words x)) → (xs : List X) → Lines (flat_map words xs)
each_lines words h [] = none_lines
each_lines words h (x ∷ xs) = both_lines (words x) (flat_map words xs) (h x) (each_lines words h xs)

counted_lines : {X : Type 0} (words : X → List Token) → ((x : X) → Lines (words x)) → (xs : List X) → EndsLine (lines_words words xs)
counted_lines words h xs = number_ends (length xs) (End ∷ flat_map words xs) (end_then (flat_map words xs) (each_lines words h xs))

constant_in : (z : ℤ) → InLine (number_word z ∷ [])
constant_in (pos n) = number_in false n [] none_in
constant_in (negsuc n) = number_in true (suc n) [] none_in

-- ---- terms
mutual
  store_in : (s : StoreTerm) → InLine (store_words s)
  store_in left_store = key_in key.L [] none_in
  store_in right_store = key_in key.R [] none_in
  store_in (put s x is v) =
      let back = Par x ∷ Number false (term_count is) ∷ (terms_words is ++ value_words v) in
      key_in key.Put (store_words s ++ back) (both_in (store_words s) back (store_in s) (par_in x (Number false (term_count is) ∷ (terms_words is ++ value_words v))
      (number_in false (term_count is) (terms_words is ++ value_words v) (both_in (terms_words is) (value_words v) (terms_in is) (value_in v)))))
  store_in (run k s) = key_in key.Run (Par k ∷ store_words s) (par_in k (store_words s) (store_in s))

  value_in : (v : ValueTerm) → InLine (value_words v)
  value_in (num z) = key_in key.Num (number_word z ∷ []) (constant_in z)
  value_in (get x is s) =
      key_in key.Get (Par x ∷ Number false (term_count is) ∷ (terms_words is ++ store_words s)) (par_in x (Number false (term_count is) ∷ (terms_words is ++ store_words s))
      (number_in false (term_count is) (terms_words is ++ store_words s) (both_in (terms_words is) (store_words s) (terms_in is) (store_in s))))
  value_in (ev k s) = key_in key.Ev (Par k ∷ store_words s) (par_in k (store_words s) (store_in s))
  value_in (add a b) = key_in key.Add (value_words a ++ value_words b) (both_in (value_words a) (value_words b) (value_in a) (value_in b))
  value_in (sub a b) = key_in key.Sub (value_words a ++ value_words b) (both_in (value_words a) (value_words b) (value_in a) (value_in b))
  value_in (mul a b) = key_in key.Mul (value_words a ++ value_words b) (both_in (value_words a) (value_words b) (value_in a) (value_in b))

  terms_in : (vs : ValueTerms) → InLine (terms_words vs)
  terms_in no_terms = none_in
  terms_in (term v vs) = both_in (value_words v) (terms_words vs) (value_in v) (terms_in vs)

-- ---- literals and steps
abbrev sw : StoreTerm → List Token
sw = store_words

abbrev vw : ValueTerm → List Token
vw = value_words

atom_in : (a : Atom) → InLine (atom_words sw vw a)
atom_in (atom.SameName x y) = key_in key.Name (Par x ∷ Par y ∷ []) (par_in x (Par y ∷ []) (par_in y [] none_in))
atom_in (atom.SameStore a b) = key_in key.Store (sw a ++ sw b) (both_in (sw a) (sw b) (store_in a) (store_in b))
atom_in (atom.SameValue a b) = key_in key.Value (vw a ++ vw b) (both_in (vw a) (vw b) (value_in a) (value_in b))
atom_in (atom.AtMost a b c) =
    key_in key.Most (vw a ++ (vw b ++ number_word c ∷ [])) (both_in (vw a) (vw b ++ number_word c ∷ []) (value_in a) (both_in (vw b) (number_word c ∷ []) (value_in b) (constant_in c)))
atom_in (atom.Ends s) = key_in key.Ends (sw s) (store_in s)
atom_in (atom.Holds k s) = key_in key.Holds (Par k ∷ sw s) (par_in k (sw s) (store_in s))

signed_in : (sign : Bool) (a : Atom) → InLine (sign_word sign ∷ atom_words sw vw a)
signed_in true a = key_in key.Plus (atom_words sw vw a) (atom_in a)
signed_in false a = key_in key.Minus (atom_words sw vw a) (atom_in a)

literal_in : (x : Literal) → InLine (literal_words sw vw x)
literal_in x = signed_in x.sign x.atom

counted_in : {X : Type 0} (words : X → List Token) → ((x : X) → InLine (words x)) → (xs : List X) → InLine (counted_words words xs)
counted_in words h xs = number_in false (length xs) (flat_map words xs) (each_in words h xs)

index_in : (k : ℕ) (ws : List Token) → InLine ws → InLine (count_word k ∷ ws)
index_in k ws h = number_in false k ws h

indices_in : (ks : List ℕ) → InLine (counted_words index_words ks)
indices_in ks = counted_in index_words (λ k. index_in k [] none_in) ks

row_in : (r : SumRow) → InLine (row_words vw r)
row_in (row.Of k) = key_in key.Of (count_word k ∷ []) (index_in k [] none_in)
row_in (row.Back k) = key_in key.Back (count_word k ∷ []) (index_in k [] none_in)
row_in (row.Num a b) = key_in key.Num (number_word a ∷ number_word b ∷ []) (both_in (number_word a ∷ []) (number_word b ∷ []) (constant_in a) (constant_in b))
row_in (row.Off v) = key_in key.Off (vw v) (value_in v)
row_in (row.OffBack v) = key_in key.OffBack (vw v) (value_in v)

reason_in : (b : By) → InLine (reason_words sw vw b)
reason_in by.Given = key_in key.Given [] none_in
reason_in (by.Known k from) = key_in key.Known (count_word k ∷ counted_words index_words from) (index_in k (counted_words index_words from) (indices_in from))
reason_in by.Refl = key_in key.Refl [] none_in
reason_in (by.Flip k) = key_in key.Flip (count_word k ∷ []) (index_in k [] none_in)
reason_in (by.Chain j k) = key_in key.Chain (count_word j ∷ count_word k ∷ []) (index_in j (count_word k ∷ []) (index_in k [] none_in))
reason_in (by.Alike from) = key_in key.Alike (counted_words index_words from) (indices_in from)
reason_in (by.Carry k from) = key_in key.Carry (count_word k ∷ counted_words index_words from) (index_in k (counted_words index_words from) (indices_in from))
reason_in (by.Law k clause p from) =
    let lits = counted_words (literal_words sw vw) clause in
    let back = count_word p ∷ counted_words index_words from in
    key_in key.Law (count_word k ∷ (lits ++ back)) (index_in k (lits ++ back) (both_in lits back (counted_in (literal_words sw vw) literal_in clause)
    (index_in p (counted_words index_words from) (indices_in from))))
reason_in (by.Meet j k) = key_in key.Meet (count_word j ∷ count_word k ∷ []) (index_in j (count_word k ∷ []) (index_in k [] none_in))
reason_in (by.Sum rows) = key_in key.Sum (counted_words (row_words vw) rows) (counted_in (row_words vw) row_in rows)

step_lines : (s : Step) → Lines (step_words sw vw s)
step_lines s =
    let why = reason_words sw vw s.by ++ End ∷ [] in
    key_lines key.Step (literal_words sw vw s.gives ++ why) (in_ends (literal_words sw vw s.gives) why (literal_in s.gives)
    (in_ends (reason_words sw vw s.by) (End ∷ []) (reason_in s.by) end_only))

part_lines : (p : Part) → Lines (part_words sw vw p)
part_lines (part.Split x) = key_lines key.Split (literal_words sw vw x ++ End ∷ []) (in_ends (literal_words sw vw x) (End ∷ []) (literal_in x) end_only)
part_lines (part.Leaf steps) = key_lines key.Leaf (lines_words (step_words sw vw) steps) (counted_lines (step_words sw vw) step_lines steps)

-- ---- certificates
gives_in : (o : Option Literal) → InLine (gives_words sw vw o)
gives_in None = key_in key.False [] none_in
gives_in (Some x) = literal_in x

conjunct_lines : (c : Conjunct) → Lines (conjunct_words sw vw c)
conjunct_lines c =
    let lits = counted_words (literal_words sw vw) c.when in
    let back = gives_words sw vw c.gives ++ End ∷ [] in
    key_lines key.Conj (lits ++ (Key key.Then ∷ back)) (in_ends lits (Key key.Then ∷ back) (counted_in (literal_words sw vw) literal_in c.when)
    (key_ends key.Then back (in_ends (gives_words sw vw c.gives) (End ∷ []) (gives_in c.gives) end_only)))

entry_lines : (e : Entry) → Lines (entry_words sw vw e)
entry_lines e =
    let lines = lines_words (conjunct_words sw vw) e.conjuncts in
    key_lines key.Entry (count_word e.left ∷ count_word e.right ∷ lines) (number_ends e.left (count_word e.right ∷ lines) (number_ends e.right lines
    (counted_lines (conjunct_words sw vw) conjunct_lines e.conjuncts)))

number_word_ends : (o : Option ℕ) (ws : List Token) → EndsLine ws → EndsLine (conjunct_number o ∷ ws)
number_word_ends None ws h = key_ends key.Minus ws h
number_word_ends (Some c) ws h = number_ends c ws h

proved_lines : (p : Proved) → Lines (proved_words sw vw p)
proved_lines p =
    let words = refutation_words sw vw p.proof in
    let behind = count_word p.used ∷ End ∷ words in
    let third = conjunct_number p.spot.conjunct ∷ behind in
    key_lines key.Proof (count_word p.spot.entry ∷ count_word p.spot.left ∷ count_word p.spot.right ∷ third)
    (number_ends p.spot.entry (count_word p.spot.left ∷ count_word p.spot.right ∷ third) (number_ends p.spot.left (count_word p.spot.right ∷ third) (number_ends p.spot.right third
    (number_word_ends p.spot.conjunct behind (number_ends p.used (End ∷ words) (end_then words (each_lines (part_words sw vw) part_lines (parts p.proof))))))))

certificate_lines : (c : Certificate) → Lines (certificate_words sw vw c)
certificate_lines c =
    let proofs = lines_words (proved_words sw vw) c.proofs in
    let entries = lines_words (entry_words sw vw) c.entries in
    key_lines key.Entries (entries ++ (Key key.Proofs ∷ proofs)) (ends_lines entries (Key key.Proofs ∷ proofs) (counted_lines (entry_words sw vw) entry_lines c.entries)
    (key_lines key.Proofs proofs (counted_lines (proved_words sw vw) proved_lines c.proofs)))

first_line : (ws : List Token) → Lines ws → Lines (Key key.Format ∷ count_word 1 ∷ Key key.Simulate ∷ End ∷ ws)
first_line ws h =
    key_lines key.Format (count_word 1 ∷ Key key.Simulate ∷ End ∷ ws) (number_ends 1 (Key key.Simulate ∷ End ∷ ws) (key_ends key.Simulate (End ∷ ws) (end_then ws h)))

pub format_lines : (c : Certificate) → are_lines false (first_format c) ≡ true
unfolding are_lines
format_lines c =
    ap (are_lines false) (sym (append-nil (first_format c))) ∙ first_line (certificate_words sw vw c) (certificate_lines c) []
