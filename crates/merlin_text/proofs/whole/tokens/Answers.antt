use Rattle.std.proofs.Common.{◌≡◌, inl, inr, ℕ, List, Ok, Err, Result, Vec, Global, ap, sym, ◌∙◌, subst}
use Rattle.std.specs.Prelude.{IfOk, IfErr, MatchResult}
use Rattle.merlin_text.specs.declared.token.Token.{Token}
use Rattle.merlin_text.specs.declared.token.TokenFault.{TokenFault}
use Rattle.merlin_text.specs.declared.token.TokenFault.TheVariants as faults
use Rattle.merlin_text.specs.Tokens.{AreTokens, AreSlices}
use Rattle.merlin_text.proofs.Cuts.{slices, tokens_once, tokens_or_fault, one_fault}
use Rattle.merlin_text.proofs.whole.tokens.Goals as goal

kept_slices : (text : List ℕ) (ts : List Token) (r : Result (Vec Token Global) TokenFault) → AreTokens text ts → IfOk r (λ kept. kept.items ≡ ts) → IfOk r (λ kept. AreSlices text 0 kept.items)
kept_slices text ts (Ok kept) are ok = subst (AreSlices text 0) (sym ok) (slices text _ ts are)
kept_slices text ts (Err fault) are ok = tt

kept_only : (text : List ℕ) (ts us : List Token) (r : Result (Vec Token Global) TokenFault) → AreTokens text ts → IfOk r (λ kept. kept.items ≡ ts) → IfErr r (λ fault. fault ≡ faults.OutOfMemory) → AreTokens text us
    → MatchResult r (λ kept. kept.items ≡ us) (λ fault. fault ≡ faults.OutOfMemory)
kept_only text ts us (Ok kept) are ok err others = ok ∙ tokens_once text ts us are others
kept_only text ts us (Err fault) are ok err others = err

pub returns-in-Ok-clause-slices : goal.returns-in-Ok-clause-slices
returns-in-Ok-clause-slices c = kept_slices _ _ _ c.in-Ok.ensures.tokens c.kept.ensures.ok

pub returns-in-Ok-clause-only : goal.returns-in-Ok-clause-only
returns-in-Ok-clause-only c = λ tokens are. kept_only _ _ tokens _ c.in-Ok.ensures.tokens c.kept.ensures.ok c.kept.ensures.err are

pub returns-in-Ok-clause-only_fault : goal.returns-in-Ok-clause-only_fault
returns-in-Ok-clause-only_fault c = λ fault is. inl (tokens_or_fault _ _ _ c.in-Ok.ensures.tokens is)

pub returns-in-Err-clause-only : goal.returns-in-Err-clause-only
returns-in-Err-clause-only c = λ tokens are. tokens_or_fault _ _ _ are c.in-Err.ensures.fault

pub returns-in-Err-clause-only_fault : goal.returns-in-Err-clause-only_fault
returns-in-Err-clause-only_fault c = λ fault is. elim (one_fault _ fault _ is c.in-Err.ensures.fault) [
  | inl memory ↦ inl memory
  | inr (inl memory) ↦ absurd (c.in-Err.ensures.given memory)
  | inr (inr same) ↦ inr (inl (ap Err (sym same)))
]
