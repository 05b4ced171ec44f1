-- The words of literals, steps and refutations are read as they are, whatever follows, where those of terms are.
use Rattle.std.specs.Prelude.{◌≡◌, ◌≤◌, ◌+◌, ℕ, zero, suc, ℤ, pos, negsuc, Bool, true, false, cond, ◌&&◌, List, [], ◌∷◌, ◌++◌, length, Option, Some, None, refl}
use Rattle.std.specs.List.{list_all, flat_map}
use Rattle.std.proofs.Common.{sym, ap, ◌∙◌, arith, append_assoc, append-nil}
use Rattle.std.proofs.lemmas.Bool.{and_parts}
use Rattle.std.proofs.lemmas.Grind.{flat_map-append}
use Rattle.std.proofs.lemmas.List.{length-append}
use Rattle.std.proofs.lemmas.List.Folds.{list_all-append}
use Rattle.rule_terms.specs.Term.{StoreTerm, ValueTerm}
use Rattle.rule_terms.specs.declared.obligation.Atom.{Atom}
use Rattle.rule_terms.specs.declared.obligation.Atom.TheVariants as atom
use Rattle.rule_terms.specs.declared.obligation.Literal.{Literal}
use Rattle.refutations.specs.Refutation.{Refutation, split, leaf, parts, tree_of}
use Rattle.refutations.specs.RefutationCode.{tree_of_parts}
use Rattle.refutations.specs.declared.refutation.By.{By}
use Rattle.refutations.specs.declared.refutation.By.TheVariants as by
use Rattle.refutations.specs.declared.refutation.Part.{Part}
use Rattle.refutations.specs.declared.refutation.Part.TheVariants as part
use Rattle.refutations.specs.declared.refutation.Step.{Step}
use Rattle.refutations.specs.declared.refutation.SumRow.{SumRow}
use Rattle.refutations.specs.declared.refutation.SumRow.TheVariants as row
use Rattle.word_text.specs.declared.token.Token.{Token}
use Rattle.word_text.specs.declared.token.Token.TheVariants.{End}
use Rattle.term_text.specs.TermText.{number_word, is_word_64}
use Rattle.term_text.specs.TermReading.{Read, then_read}
use Rattle.term_text.proofs.ReadTerms.{read_after}
use Rattle.refutation_text.specs.NumberText.{after, end_read, index_read, int_read, wide_read, with_rest, is_word_128, many_read, counted_read, count_word, counted_words, index_words}
use Rattle.refutation_text.specs.LiteralText.{sign_word, atom_words, literal_words, small_store, small_value, atom_fits, literal_fits, literals_fit}
use Rattle.refutation_text.specs.LiteralReading.{sign_read, one_read, two_read, atom_behind, atom_read, literal_read}
use Rattle.refutation_text.specs.StepText.{row_words, reason_words, step_words, part_words, refutation_words, index_fits, row_fits, reason_fits, step_fits, part_fits, refutation_fits}
use Rattle.refutation_text.specs.StepReading.{indices_read, row_behind, row_read, law_read, reason_behind, reason_read, step_read, part_behind, part_read, parts_read, refutation_read, wanted_behind}

-- what is read of some words, and what comes of it
pub step : {X Y : Type 0} (o : Option (X × List Token)) (f : X → List Token → Option Y) (x : X) (rest : List Token) → o ≡ Some (x, rest) → then_read o f ≡ f x rest
step o f x rest h = ap (λ r. then_read r f) h

pub one_reads : {X Y : Type 0} (read : Read X) (make : X → Y) (ts rest : List Token) (x : X) → read ts ≡ Some (x, rest) → one_read read make ts ≡ Some (make x, rest)
one_reads read make ts rest x h = step (read ts) (λ y rest. Some (make y, rest)) x rest h

pub two_reads : {X Y Z : Type 0} (first : Read X) (second : Read Y) (make : X → Y → Z) (front back rest : List Token) (x : X) (y : Y)
    → first (front ++ (back ++ rest)) ≡ Some (x, back ++ rest) → second (back ++ rest) ≡ Some (y, rest) → two_read first second make ((front ++ back) ++ rest) ≡ Some (make x y, rest)
two_reads first second make front back rest x y hx hy =
    read_after first (λ z more. one_read second (make z) more) front back rest x hx ∙ one_reads second (make x) (back ++ rest) rest y hy

pub index_reads : (k : ℕ) (rest : List Token) → index_fits k ≡ true → index_read (index_words k ++ rest) ≡ Some (k, rest)
index_reads k rest h = ap (λ b. cond b (Some (k, rest)) None) h

int_reads : (z : ℤ) (rest : List Token) → is_word_64 z ≡ true → int_read (number_word z ∷ rest) ≡ Some (z, rest)
int_reads (pos n) rest h = ap (λ b. with_rest rest (cond b (Some (pos n)) None)) h
int_reads (negsuc n) rest h = ap (λ b. with_rest rest (cond b (Some (negsuc n)) None)) h

wide_reads : (z : ℤ) (rest : List Token) → is_word_128 z ≡ true → wide_read (number_word z ∷ rest) ≡ Some (z, rest)
wide_reads (pos n) rest h = ap (λ b. with_rest rest (cond b (Some (pos n)) None)) h
wide_reads (negsuc n) rest h = ap (λ b. with_rest rest (cond b (Some (negsuc n)) None)) h

-- ---- lists of things whose words are read as they are
module _ {X : Type 0} (read : Read X) (words : X → List Token) (fits : X → Bool) (each : (x : X) (rest : List Token) → fits x ≡ true → read (words x ++ rest) ≡ Some (x, rest)) where
  pub many_reads : (xs : List X) (rest : List Token) → list_all fits xs ≡ true → many_read read (length xs) (flat_map words xs ++ rest) ≡ Some (xs, rest)
  unfolding many_read
  many_reads [] rest h = refl
  many_reads (x ∷ xs) rest h =
      let p = and_parts (fits x) (list_all fits xs) h in
      read_after read (λ y more. then_read (many_read read (length xs) more) (λ ys rest. Some (y ∷ ys, rest))) (words x) (flat_map words xs) rest x (each x (flat_map words xs ++ rest) p.0)
      ∙ step (many_read read (length xs) (flat_map words xs ++ rest)) (λ ys rest. Some (x ∷ ys, rest)) xs rest (many_reads xs rest p.1)

  pub counted_reads : (xs : List X) (rest : List Token) → list_all fits xs ≡ true → counted_read read (counted_words words xs ++ rest) ≡ Some (xs, rest)
  counted_reads xs rest h = many_reads xs rest h

indices_reads : (ks : List ℕ) (rest : List Token) → list_all index_fits ks ≡ true → indices_read (counted_words index_words ks ++ rest) ≡ Some (ks, rest)
indices_reads ks rest h = counted_reads index_read index_words index_fits index_reads ks rest h

module _ (sr : Read StoreTerm) (vr : Read ValueTerm) (sw : StoreTerm → List Token) (vw : ValueTerm → List Token)
    (hs : (s : StoreTerm) (rest : List Token) → small_store s ≡ true → sr (sw s ++ rest) ≡ Some (s, rest))
    (hv : (v : ValueTerm) (rest : List Token) → small_value v ≡ true → vr (vw v ++ rest) ≡ Some (v, rest)) where
  most_reads : (a b : ValueTerm) (c : ℤ) (rest : List Token) → small_value a ≡ true → small_value b ≡ true → is_word_128 c ≡ true
      → then_read (vr ((vw a ++ (vw b ++ number_word c ∷ [])) ++ rest)) (λ x more. two_read vr wide_read (atom.AtMost x) more) ≡ Some (atom.AtMost a b c, rest)
  most_reads a b c rest ha hb hc =
      read_after vr (λ x more. two_read vr wide_read (atom.AtMost x) more) (vw a) (vw b ++ number_word c ∷ []) rest a (hv a ((vw b ++ number_word c ∷ []) ++ rest) ha)
      ∙ two_reads vr wide_read (atom.AtMost a) (vw b) (number_word c ∷ []) rest b c (hv b (number_word c ∷ rest) hb) (wide_reads c rest hc)

  atom_reads : (a : Atom) (rest : List Token) → atom_fits a ≡ true → atom_read sr vr (atom_words sw vw a ++ rest) ≡ Some (a, rest)
  unfolding atom_behind
  atom_reads (atom.SameName x y) rest h = refl
  atom_reads (atom.SameStore a b) rest h =
      let p = and_parts (small_store a) (small_store b) h in
      two_reads sr sr atom.SameStore (sw a) (sw b) rest a b (hs a (sw b ++ rest) p.0) (hs b rest p.1)
  atom_reads (atom.SameValue a b) rest h =
      let p = and_parts (small_value a) (small_value b) h in
      two_reads vr vr atom.SameValue (vw a) (vw b) rest a b (hv a (vw b ++ rest) p.0) (hv b rest p.1)
  atom_reads (atom.AtMost a b c) rest h =
      let p = and_parts (small_value a) (small_value b && is_word_128 c) h in
      let q = and_parts (small_value b) (is_word_128 c) p.1 in
      most_reads a b c rest p.0 q.0 q.1
  atom_reads (atom.Ends s) rest h = one_reads sr atom.Ends (sw s ++ rest) rest s (hs s rest h)
  atom_reads (atom.Holds k s) rest h = one_reads sr (atom.Holds k) (sw s ++ rest) rest s (hs s rest h)

  sign_reads : (b : Bool) (ts : List Token) → sign_read (sign_word b ∷ ts) ≡ Some (b, ts)
  sign_reads true ts = refl
  sign_reads false ts = refl

  pub literal_reads : (x : Literal) (rest : List Token) → literal_fits x ≡ true → literal_read sr vr (literal_words sw vw x ++ rest) ≡ Some (x, rest)
  literal_reads x rest h =
      step (sign_read (literal_words sw vw x ++ rest)) (λ sign more. one_read (atom_read sr vr) (λ a. record { sign = sign; atom = a }) more) x.sign (atom_words sw vw x.atom ++ rest)
      (sign_reads x.sign (atom_words sw vw x.atom ++ rest))
      ∙ one_reads (atom_read sr vr) (λ a. record { sign = x.sign; atom = a }) (atom_words sw vw x.atom ++ rest) rest x.atom (atom_reads x.atom rest h)

  literals_read : (xs : List Literal) (rest : List Token) → literals_fit xs ≡ true → counted_read (literal_read sr vr) (counted_words (literal_words sw vw) xs ++ rest) ≡ Some (xs, rest)
  literals_read xs rest h = counted_reads (literal_read sr vr) (literal_words sw vw) literal_fits literal_reads xs rest h

  row_reads : (r : SumRow) (rest : List Token) → row_fits r ≡ true → row_read vr (row_words vw r ++ rest) ≡ Some (r, rest)
  unfolding row_behind
  row_reads (row.Of k) rest h = one_reads index_read row.Of (index_words k ++ rest) rest k (index_reads k rest h)
  row_reads (row.Back k) rest h = one_reads index_read row.Back (index_words k ++ rest) rest k (index_reads k rest h)
  row_reads (row.Num a b) rest h =
      let p = and_parts (is_word_64 a) (is_word_64 b) h in
      two_reads int_read int_read row.Num (number_word a ∷ []) (number_word b ∷ []) rest a b (int_reads a (number_word b ∷ rest) p.0) (int_reads b rest p.1)
  row_reads (row.Off v) rest h = one_reads vr row.Off (vw v ++ rest) rest v (hv v rest h)
  row_reads (row.OffBack v) rest h = one_reads vr row.OffBack (vw v ++ rest) rest v (hv v rest h)

  cited_reads : {Y : Type 0} (make : ℕ → List ℕ → Y) (k : ℕ) (from : List ℕ) (rest : List Token) → index_fits k ≡ true → list_all index_fits from ≡ true
      → two_read index_read indices_read make (count_word k ∷ (counted_words index_words from ++ rest)) ≡ Some (make k from, rest)
  cited_reads make k from rest hk hf =
      two_reads index_read indices_read make (index_words k) (counted_words index_words from) rest k from (index_reads k (counted_words index_words from ++ rest) hk) (indices_reads from rest hf)

  pair_reads : {Y : Type 0} (make : ℕ → ℕ → Y) (j k : ℕ) (rest : List Token) → index_fits j ≡ true → index_fits k ≡ true
      → two_read index_read index_read make (count_word j ∷ count_word k ∷ rest) ≡ Some (make j k, rest)
  pair_reads make j k rest hj hk =
      two_reads index_read index_read make (index_words j) (index_words k) rest j k (index_reads j (index_words k ++ rest) hj) (index_reads k rest hk)

  law_reads : (k : ℕ) (clause : List Literal) (p : ℕ) (from : List ℕ) (rest : List Token) → literals_fit clause ≡ true → index_fits p ≡ true → list_all index_fits from ≡ true
      → law_read sr vr k ((counted_words (literal_words sw vw) clause ++ (count_word p ∷ counted_words index_words from)) ++ rest) ≡ Some (by.Law k clause p from, rest)
  law_reads k clause p from rest hc hp hf =
      read_after (counted_read (literal_read sr vr)) (λ c more. two_read index_read indices_read (by.Law k c) more) (counted_words (literal_words sw vw) clause)
      (count_word p ∷ counted_words index_words from) rest clause (literals_read clause ((count_word p ∷ counted_words index_words from) ++ rest) hc)
      ∙ cited_reads (by.Law k clause) p from rest hp hf

  reason_reads : (b : By) (rest : List Token) → reason_fits b ≡ true → reason_read sr vr (reason_words sw vw b ++ rest) ≡ Some (b, rest)
  unfolding reason_behind
  reason_reads by.Given rest h = refl
  reason_reads (by.Known k from) rest h =
      let p = and_parts (index_fits k) (list_all index_fits from) h in cited_reads by.Known k from rest p.0 p.1
  reason_reads by.Refl rest h = refl
  reason_reads (by.Flip k) rest h = one_reads index_read by.Flip (index_words k ++ rest) rest k (index_reads k rest h)
  reason_reads (by.Chain j k) rest h =
      let p = and_parts (index_fits j) (index_fits k) h in pair_reads by.Chain j k rest p.0 p.1
  reason_reads (by.Alike from) rest h = one_reads indices_read by.Alike (counted_words index_words from ++ rest) rest from (indices_reads from rest h)
  reason_reads (by.Carry k from) rest h =
      let p = and_parts (index_fits k) (list_all index_fits from) h in cited_reads by.Carry k from rest p.0 p.1
  reason_reads (by.Law k clause p from) rest h =
      let a = and_parts (index_fits k) (literals_fit clause && (index_fits p && list_all index_fits from)) h in
      let b = and_parts (literals_fit clause) (index_fits p && list_all index_fits from) a.1 in
      let c = and_parts (index_fits p) (list_all index_fits from) b.1 in
      let more = (counted_words (literal_words sw vw) clause ++ (count_word p ∷ counted_words index_words from)) ++ rest in
      step (index_read (index_words k ++ more)) (law_read sr vr) k more (index_reads k more a.0)
      ∙ law_reads k clause p from rest b.0 c.0 c.1
  reason_reads (by.Meet j k) rest h =
      let p = and_parts (index_fits j) (index_fits k) h in pair_reads by.Meet j k rest p.0 p.1
  reason_reads (by.Sum rows) rest h =
      one_reads (counted_read (row_read vr)) by.Sum (counted_words (row_words vw) rows ++ rest) rest rows (counted_reads (row_read vr) (row_words vw) row_fits row_reads rows rest h)

  step_reads : (s : Step) (rest : List Token) → step_fits s ≡ true → step_read sr vr (step_words sw vw s ++ rest) ≡ Some (s, rest)
  step_reads s rest h =
      let p = and_parts (literal_fits s.gives) (reason_fits s.by) h in
      let back = reason_words sw vw s.by ++ End ∷ [] in
      read_after (literal_read sr vr) (λ x more. then_read (reason_read sr vr more) (λ why rest. after (end_read rest) (λ rest. Some (record { gives = x; by = why }, rest))))
      (literal_words sw vw s.gives) back rest s.gives (literal_reads s.gives (back ++ rest) p.0)
      ∙ read_after (reason_read sr vr) (λ why rest. after (end_read rest) (λ rest. Some (record { gives = s.gives; by = why }, rest)))
      (reason_words sw vw s.by) (End ∷ []) rest s.by (reason_reads s.by (End ∷ rest) p.1)

  part_reads : (p : Part) (rest : List Token) → part_fits p ≡ true → part_read sr vr (part_words sw vw p ++ rest) ≡ Some (p, rest)
  unfolding part_behind
  part_reads (part.Split x) rest h =
      read_after (literal_read sr vr) (λ y more. after (end_read more) (λ rest. Some (part.Split y, rest))) (literal_words sw vw x) (End ∷ []) rest x (literal_reads x (End ∷ rest) h)
  part_reads (part.Leaf steps) rest h =
      one_reads (many_read (step_read sr vr) (length steps)) part.Leaf (flat_map (step_words sw vw) steps ++ rest) rest steps
      (many_reads (step_read sr vr) (step_words sw vw) step_fits step_reads steps rest h)

  -- ---- refutations: parts until none is wanted
  abbrev pw : Part → List Token
  pw p = part_words sw vw p

  abbrev Reads : ℕ → ℕ → List Token → List Part → List Token → Type 0
  Reads most n ts ps rest = (m : ℕ) → most ≤ m → parts_read sr vr m n ts ≡ Some (ps, rest)

  part_then : (p : Part) (n most : ℕ) (ts : List Token) (ps : List Part) (rest : List Token) → part_fits p ≡ true → Reads most (wanted_behind (suc n) p) ts ps rest
      → Reads (suc most) (suc n) (pw p ++ ts) (p ∷ ps) rest
  unfolding parts_read
  part_then p n most ts ps rest f h zero le = absurd (omega (arith, le))
  part_then p n most ts ps rest f h (suc m) le =
      step (part_read sr vr (pw p ++ ts)) (λ q more. then_read (parts_read sr vr m (wanted_behind (suc n) q) more) (λ qs rest. Some (q ∷ qs, rest))) p ts (part_reads p ts f)
      ∙ step (parts_read sr vr m (wanted_behind (suc n) p) ts) (λ qs rest. Some (p ∷ qs, rest)) ps rest (h m (omega (arith, le)))

  split_length : (xs ys : List Part) (most m : ℕ) → suc (length (xs ++ ys)) + most ≤ m → suc (length xs + (length ys + most)) ≤ m
  split_length xs ys most m le = omega (arith, length-append xs ys, le)

  tree_then : (r : Refutation) (n most : ℕ) (ts : List Token) (ps : List Part) (rest : List Token) → list_all part_fits (parts r) ≡ true → Reads most n ts ps rest
      → Reads (length (parts r) + most) (suc n) (flat_map pw (parts r) ++ ts) (parts r ++ ps) rest
  tree_then (leaf steps) n most ts ps rest f h m le =
      ap (λ us. parts_read sr vr m (suc n) (us ++ ts)) (append-nil (pw (part.Leaf steps)))
      ∙ part_then (part.Leaf steps) n most ts ps rest (and_parts (part_fits (part.Leaf steps)) true f).0 h m (omega (arith, le))
  tree_then (split x a b) n most ts ps rest f h m le =
      let p = and_parts (part_fits (part.Split x)) (list_all part_fits (parts a ++ parts b)) f in
      let q = and_parts (list_all part_fits (parts a)) (list_all part_fits (parts b)) (sym (list_all-append part_fits (parts a) (parts b)) ∙ p.1) in
      let second : Reads (length (parts b) + most) (suc n) (flat_map pw (parts b) ++ ts) (parts b ++ ps) rest = tree_then b n most ts ps rest q.1 h in
      let first : Reads (length (parts a) + (length (parts b) + most)) (suc (suc n)) (flat_map pw (parts a) ++ (flat_map pw (parts b) ++ ts)) (parts a ++ (parts b ++ ps)) rest =
      tree_then a (suc n) (length (parts b) + most) (flat_map pw (parts b) ++ ts) (parts b ++ ps) rest q.0 second in
      ap (λ us. parts_read sr vr m (suc n) us)
      (append_assoc (pw (part.Split x)) (flat_map pw (parts a ++ parts b)) ts
      ∙ ap (λ us. pw (part.Split x) ++ us) (ap (λ us. us ++ ts) (flat_map-append pw (parts a) (parts b)) ∙ append_assoc (flat_map pw (parts a)) (flat_map pw (parts b)) ts))
      ∙ part_then (part.Split x) n (length (parts a) + (length (parts b) + most)) (flat_map pw (parts a) ++ (flat_map pw (parts b) ++ ts)) (parts a ++ (parts b ++ ps)) rest p.0 first m
      (split_length (parts a) (parts b) most m le)
      ∙ ap (λ qs. Some (part.Split x ∷ qs, rest)) (sym (append_assoc (parts a) (parts b) ps))

  none_read : (ts : List Token) → Reads 0 0 ts [] ts
  unfolding parts_read
  none_read ts zero le = refl
  none_read ts (suc m) le = refl

  -- each part has a word
  part_has_words : (p : Part) (n : ℕ) → suc n ≤ length (pw p) + n
  part_has_words (part.Split x) n = omega arith
  part_has_words (part.Leaf steps) n = omega arith

  parts_have_words : (ps : List Part) (rest : List Token) → length ps ≤ length (flat_map pw ps ++ rest)
  parts_have_words [] rest = omega arith
  parts_have_words (p ∷ ps) rest =
      omega (arith, part_has_words p (length (flat_map pw ps ++ rest)), parts_have_words ps rest, ap length (append_assoc (pw p) (flat_map pw ps) rest), length-append (pw p) (flat_map pw ps ++ rest))

  pub refutation_reads : (r : Refutation) (rest : List Token) → refutation_fits r ≡ true → refutation_read sr vr (refutation_words sw vw r ++ rest) ≡ Some (r, rest)
  refutation_reads r rest f =
      let ts = flat_map pw (parts r) ++ rest in
      one_reads (parts_read sr vr (length ts) 1) tree_of ts rest (parts r ++ [])
      (tree_then r 0 0 rest [] rest f (none_read rest) (length ts) (omega (arith, parts_have_words (parts r) rest)))
      ∙ ap (λ ps. Some (tree_of ps, rest)) (append-nil (parts r))
      ∙ ap (λ q. Some (q, rest)) (tree_of_parts r)
