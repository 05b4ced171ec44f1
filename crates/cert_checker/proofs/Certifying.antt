-- What is answered of a certificate, from what is answered of its parts.
use Rattle.std.specs.Prelude.{◌≡◌, ◌↔◌, Bool, true, Result, Ok, Err, IsTrue, IfOk}
use Rattle.std.proofs.Common.{sym, ◌∙◌}
use Rattle.toy_imp.specs.declared.no_memory.NoMemory.{NoMemory}
use Rattle.toy_imp.specs.declared.rule.Rule.{Rule}
use Rattle.toy_imp.specs.Faults.{well_formed, is_simulate}
use Rattle.toy_imp.specs.Valid.{Valid}
use Rattle.path_pairs.specs.declared.cut_points.CutPoints.{CutPoints}
use Rattle.cert_checker.specs.declared.certificate.Certificate.{Certificate}
use Rattle.cert_checker.specs.Certificates.{IsRelation, Certifies, IsCertificate}
use Rattle.cert_checker.specs.Taking.{takes_all}
use Rattle.cert_checker.proofs.Certified.{certified_is_valid}
use Rattle.cert_checker.proofs.TakenAll.{AllTaken, taken_all_is}

-- all proofs of a relation are taken, or some are not
pub certifies_by : (rule : Rule) (points : CutPoints) (cert : Certificate) → IsRelation rule points cert.entries → (r : Result Bool NoMemory)
    → IfOk r (λ yes. yes ≡ takes_all rule points cert.entries cert.proofs) → IfOk r (λ yes. IsTrue yes ↔ Certifies rule points cert)
certifies_by rule points cert relation (Err e) h = tt
certifies_by rule points cert relation (Ok answer) h = (
  λ is.
      let all : AllTaken rule points cert.entries cert.proofs = (taken_all_is rule points cert.entries cert.proofs).0 (sym h ∙ is) in
      record { relation = relation; walked = all.walked; in_order = all.are.in_order; proved = all.are.proved },
  λ c.
      h ∙ (taken_all_is rule points cert.entries cert.proofs).1
      (record { walked = c.walked; are = record { in_order = c.in_order; proved = c.proved } }),
)

-- a certificate makes its rule valid
pub valid_by : (rule : Rule) (cert : Certificate) → well_formed rule ≡ true → is_simulate rule.method ≡ true → (r : Result Bool NoMemory)
    → IfOk r (λ yes. IsTrue yes ↔ IsCertificate rule cert) → IfOk r (λ yes. IsTrue yes → Valid rule)
valid_by rule cert well simulates (Err e) h = tt
valid_by rule cert well simulates (Ok answer) h = λ is. certified_is_valid rule cert well simulates (h.0 is)
