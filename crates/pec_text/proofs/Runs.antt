-- Runs of bytes that pass a test: what the longest one at the front of a list is.
use Rattle.std.proofs.Common.{◌≡◌, ◌⊎◌, inl, inr, ◌&&◌, one-add, ℕ, ◌+◌, Bool, true, false, cond, List, [], ◌∷◌, ◌++◌, length, take, drop, refl}
use Rattle.std.specs.List.{list_all, prefix_len}
use Rattle.std.proofs.lemmas.Bool.{false≢true}
use Rattle.pec_text.specs.Spelling.{StopsBefore}

-- Which way a choice went.
pub chosen : {A : Type 0} (b : Bool) (x y z : A) → cond b x y ≡ z → ((b ≡ true) × (x ≡ z)) ⊎ ((b ≡ false) × (y ≡ z))
chosen true x y z h = inl (refl, h)
chosen false x y z h = inr (refl, h)

-- A conjunction that is true has two true parts.
pub both_true : (a b : Bool) → (a && b) ≡ true → (a ≡ true) × (b ≡ true)
both_true true b h = (refl, h)
both_true false b h = absurd (false≢true h)

-- The longest run passes.
pub run_passes : (p : ℕ → Bool) (text : List ℕ) → list_all p (take (prefix_len p text) text) ≡ true
run_passes p [] = refl
run_passes p (byte ∷ text) =
    elim (p byte) as (λ b. (p byte ≡ b) → list_all p (take (cond b (1 + prefix_len p text) 0) (byte ∷ text)) ≡ true) [
      | true ↦ λ e. rw (one-add, e) (run_passes p text)
      | false ↦ λ e. refl
    ] refl

-- What stands behind the longest run does not go on with it.
pub run_stops : (p : ℕ → Bool) (text : List ℕ) → StopsBefore p (drop (prefix_len p text) text)
run_stops p [] = tt
run_stops p (byte ∷ text) =
    elim (p byte) as (λ b. (p byte ≡ b) → StopsBefore p (drop (cond b (1 + prefix_len p text) 0) (byte ∷ text))) [
      | true ↦ λ e. rw one-add (run_stops p text)
      | false ↦ λ e. e
    ] refl

-- A run before what does not go on with it is the longest one.
pub prefix_len-run : (p : ℕ → Bool) (lexeme rest : List ℕ) → list_all p lexeme ≡ true → StopsBefore p rest → prefix_len p (lexeme ++ rest) ≡ length lexeme
prefix_len-run p [] [] all stops = refl
prefix_len-run p [] (byte ∷ rest) all stops = rw stops
prefix_len-run p (byte ∷ lexeme) rest all stops =
    let parts = both_true (p byte) (list_all p lexeme) all in
    rw (parts.0, prefix_len-run p lexeme rest parts.1 stops) (one-add (length lexeme))

-- Nothing goes on with what never does.
pub stops_never : (rest : List ℕ) → StopsBefore (λ _. false) rest
stops_never [] = tt
stops_never (byte ∷ rest) = refl
