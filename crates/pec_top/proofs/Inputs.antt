-- From the sections of a text to all that is said of an input, and from what was read of a source to all that it had left.
use Rattle.std.proofs.Common.{◌≡◌, ◌≢◌, ◌↔◌, ℕ, List, [], ◌++◌, true, All, Option, None, Some, Result, Ok, Err, IfOk, IfSome, sym, ap, subst, ◌∙◌}
use Rattle.std.proofs.lemmas.List.{append-nil}
use Rattle.std.specs.Io.KnownBytes.{Consumes, IsAtEnd}
use Rattle.pec_text.specs.Id.{is_id}
use Rattle.pec_text.specs.SectionsOf.{sections_of}
use Rattle.pec_text.specs.declared.section_data.Section.{Section}
use Rattle.pec_text.specs.declared.section_data.SectionList.{SectionList}
use Rattle.pec_top.specs.declared.command.Command.{Command}
use Rattle.pec_top.specs.declared.command.Command.TheVariants.{Prove, Check, Print, Run}
use Rattle.pec_top.specs.declared.input.Input.{Input}
use Rattle.pec_top.specs.declared.input.Input.TheVariants as input
use Rattle.pec_top.specs.Input.{InputIs}
use Rattle.pec_top.specs.FaultlessItems.{HasNoFault}
use Rattle.pec_top.specs.PrintedItems.{IsPrintable}
use Rattle.pec_top.specs.declared.output.Output.{Output}
use Rattle.pec_top.specs.Output.{OutputIs}
use Rattle.pec_top.specs.Serving.{Proves, IsInput, ReadsAll, Delivers, Writes}
use Rattle.pec_top.proofs.Accepted.{accepted_spellable, accepted_faultless}
use Rattle.pec_top.proofs.Validity.{proved_are_valid, checked_are_valid}

proves : (command : Command) (bytes : List ℕ) (found : Input) → InputIs command (sections_of bytes) found → Proves command bytes found
proves Prove bytes (input.Accepted items) h = proved_are_valid (sections_of bytes).whole items h.0
proves Prove bytes (input.Refused refusal) h = tt
proves Prove bytes input.Larger h = tt
proves Check bytes (input.Accepted items) h = checked_are_valid (sections_of bytes).whole items h.0
proves Check bytes (input.Refused refusal) h = tt
proves Check bytes input.Larger h = tt
proves Print bytes found h = tt
proves (Run steps) bytes found h = tt

is_input : (command : Command) (bytes : List ℕ) (text : SectionList) (found : Input) → text ≡ sections_of bytes → InputIs command text found → IsInput command bytes found
is_input command bytes text found same h =
    let is : InputIs command (sections_of bytes) found = subst (λ z. InputIs command z found) same h in
    record { is = is; proves = proves command bytes found is }

pub read_is : {E : Type 0} (command : Command) (bytes : List ℕ) (text : SectionList) (r : Result Input E) → text ≡ sections_of bytes
    → IfOk r (InputIs command text) → IfOk r (IsInput command bytes)
read_is command bytes text (Ok found) same h = is_input command bytes text found same h
read_is command bytes text (Err e) same h = tt

printable : (command : Command) (text : SectionList) (found : Input) → All (λ (section : Section). is_id section.title ≡ true) text.whole
    → InputIs command text found → IsPrintable found
printable command text (input.Accepted items) ids h = accepted_spellable command [] [] text.whole items ids h.0
printable command text (input.Refused refusal) ids h = tt
printable command text input.Larger ids h = tt

pub read_printable : {E : Type 0} (command : Command) (text : SectionList) (r : Result Input E) → All (λ (section : Section). is_id section.title ≡ true) text.whole
    → IfOk r (InputIs command text) → IfOk r IsPrintable
read_printable command text (Ok found) ids h = printable command text found ids h
read_printable command text (Err e) ids h = tt

faultless : (command : Command) (text : SectionList) (found : Input) → InputIs command text found → HasNoFault found
faultless command text (input.Accepted items) h = accepted_faultless command [] [] text.whole items h.0
faultless command text (input.Refused refusal) h = tt
faultless command text input.Larger h = tt

pub read_faultless : {E : Type 0} (command : Command) (text : SectionList) (r : Result Input E) → IfOk r (InputIs command text) → IfOk r HasNoFault
read_faultless command text (Ok found) h = faultless command text found h
read_faultless command text (Err e) h = tt

-- ---- what is read to the end is all that was left
pub reads_all : (command : Command) (left left' : Option (List ℕ)) (bytes : List ℕ) (found : Input) → Consumes left left' bytes → IsAtEnd left' → IsInput command bytes found
    → ReadsAll command left left' found
reads_all command None left' bytes found taken at_end is = tt
reads_all command (Some all) None bytes found taken at_end is = absurd taken
reads_all command (Some all) (Some rest) bytes found taken at_end is =
    let whole : all ≡ bytes = taken ∙ ap (λ z. bytes ++ z) at_end ∙ append-nil bytes in
    (ap Some at_end, subst (λ z. IsInput command z found) (sym whole) is)

pub not_larger : (command : Command) (bytes : List ℕ) (found : Input) → IsInput command bytes found → found ≢ input.Larger
not_larger command bytes found h same = subst (InputIs command (sections_of bytes)) same h.is

-- two facts that both fail, one of which holds exactly at a number
pub neither : (P Q : Type 0) (o : Option ℕ) (most : ℕ) → (P → ⊥) → (Q → ⊥) → IfSome o (λ count. P ↔ (count ≡ most)) → IfSome o (λ count. (count ≡ most) ↔ Q)
neither P Q None most p q h = tt
neither P Q (Some count) most p q h = (λ e. absurd (p (h.1 e)), λ holds. absurd (q holds))

-- ---- an output that was written
pub written : (command : Command) (found : Input) (old new : Option (List ℕ)) (status : ℕ) (output : Output) → OutputIs command found output
    → Delivers old new output status → Writes command found old new status
written command found old new status output is delivered = record { output = output; is = is; delivered = delivered }
