-- A name as a tree of numbers, from which it can be read back.
-- The parts of such a tree, and numbers and bytes as such trees, serve the codes of the other types too.
use Rattle.std.specs.Prelude.{◌≡◌, ℕ, zero, suc, List, [], ◌∷◌, refl, ℤ, pos, negsuc}
use base.Stored.{Gv, gnil, gnum, gcons}
use Rattle.toy_imp.specs.declared.name.Name.{Name}
use Rattle.toy_imp.specs.declared.name.Name.TheVariants.{Own, Par}

abbrev pub head : Gv → Gv
head gnil = gnil
head (gnum n) = gnil
head (gcons a b) = a

abbrev pub tail : Gv → Gv
tail gnil = gnil
tail (gnum n) = gnil
tail (gcons a b) = b

abbrev pub number : Gv → ℕ
number gnil = 0
number (gnum n) = n
number (gcons a b) = 0

abbrev pub bytes_code : List ℕ → Gv
bytes_code [] = gnil
bytes_code (x ∷ xs) = gcons (gnum x) (bytes_code xs)

abbrev pub bytes_read : Gv → List ℕ
bytes_read gnil = []
bytes_read (gnum n) = []
bytes_read (gcons a b) = number a ∷ bytes_read b

pub bytes_read-code : (xs : List ℕ) → bytes_read (bytes_code xs) ≡ xs
bytes_read-code [] = refl
bytes_read-code (x ∷ xs) = λ i. x ∷ bytes_read-code xs i

abbrev pub int_code : ℤ → Gv
int_code (pos n) = gcons (gnum 0) (gnum n)
int_code (negsuc n) = gcons (gnum 1) (gnum n)

abbrev int_by : ℕ → ℕ → ℤ
int_by zero n = pos n
int_by (suc m) n = negsuc n

abbrev pub int_read : Gv → ℤ
int_read g = int_by (number (head g)) (number (tail g))

pub int_read-code : (z : ℤ) → int_read (int_code z) ≡ z
int_read-code (pos n) = refl
int_read-code (negsuc n) = refl

abbrev pub name_code : Name → Gv
name_code (Own xs) = gcons (gnum 0) (bytes_code xs)
name_code (Par k) = gcons (gnum 1) (gnum k)

abbrev name_by : ℕ → Gv → Name
name_by zero g = Own (bytes_read g)
name_by (suc m) g = Par (number g)

abbrev pub name_read : Gv → Name
name_read g = name_by (number (head g)) (tail g)

pub name_read-code : (x : Name) → name_read (name_code x) ≡ x
name_read-code (Own xs) = λ i. Own (bytes_read-code xs i)
name_read-code (Par k) = refl
