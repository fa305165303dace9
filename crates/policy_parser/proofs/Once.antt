-- A text is read in one way.
use Rattle.std.proofs.Common.{ℕ, ◌≡◌, ◌⊎◌, inl, inr, List, Result, Ok, Err, refl, sym, ◌∙◌, ap, subst}
use Rattle.merlin_text.specs.declared.token.Token.{Token}
use Rattle.merlin_text.specs.declared.token.TokenFault.{TokenFault}
use Rattle.merlin_text.specs.declared.token.TokenFault.TheVariants as tokens
use Rattle.merlin_text.specs.Tokens.{AreTokens, IsTokenFault}
use Rattle.merlin_text.proofs.Cuts.{tokens_once, tokens_or_fault, one_fault}
use Rattle.policy_grammar.specs.declared.written.WrittenPolicy.{WrittenPolicy}
use Rattle.policy_grammar.specs.Lexemes.{lexemes}
use Rattle.policy_grammar.specs.Grammar.{StandsFor, IsFaultAt}
use Rattle.policy_grammar.proofs.Faults.{one_fault as one_place, one_policy, fault-no_policy}
use Rattle.policy_parser.proofs.Spelled.{all_spelled}
use Rattle.policy_expansion.specs.declared.policy.Policy.{Policy}
use Rattle.policy_expansion.specs.declared.policy.ExpansionFault.{ExpansionFault}
use Rattle.policy_expansion.specs.declared.policy.ExpansionFault.TheVariants as written
use Rattle.policy_expansion.specs.Expansion.{expansion}
use Rattle.policy_parser.specs.declared.fault.PolicyFault.{PolicyFault}
use Rattle.policy_parser.specs.declared.fault.PolicyFault.TheVariants.{BadByte, BadNumber, Syntax, DuplicateSet, MixedSet, UnknownSet, TooManyStatements, DuplicateId, OutOfMemory}
use Rattle.policy_parser.specs.Policies.{IsWritten, IsSyntaxFault, IsNotExpanded, IsReading, AreOneReading, of_tokens, of_expansion, place_of}

abbrev answer : Result Policy ExpansionFault → Result Policy PolicyFault
answer (Ok policy) = Ok policy
answer (Err fault) = Err (of_expansion fault)

-- A reading ends at the tokens, at the grammar, or with what is written out; or memory runs out.
data Stage (text : List ℕ) (r : Result Policy PolicyFault) : Type 0 where
  at_tokens : (fault : TokenFault) → IsTokenFault text fault → r ≡ Err (of_tokens fault) → Stage text r
  at_syntax : (at : ℕ) → IsSyntaxFault text at → r ≡ Err (Syntax at) → Stage text r
  at_end : (w : WrittenPolicy) → IsWritten text w → r ≡ answer (expansion w) → Stage text r
  nowhere : r ≡ Err OutOfMemory → Stage text r

not_expanded : (text : List ℕ) (fault : ExpansionFault) → IsNotExpanded text fault → Stage text (Err (of_expansion fault))
not_expanded text fault n = at_end n.written n.text_of (sym (ap answer n.refused))

stage : (text : List ℕ) (r : Result Policy PolicyFault) → IsReading text r → Stage text r
stage text (Ok policy) p = at_end p.written p.text_of (sym (ap answer p.expanded))
stage text (Err (BadByte at)) p = at_tokens (tokens.BadByte at) p refl
stage text (Err (BadNumber at)) p = at_tokens (tokens.BadNumber at) p refl
stage text (Err (Syntax at)) p = at_syntax at p refl
stage text (Err (DuplicateSet name)) p = not_expanded text (written.DuplicateSet name) p
stage text (Err (MixedSet name)) p = not_expanded text (written.MixedSet name) p
stage text (Err (UnknownSet name)) p = not_expanded text (written.UnknownSet name) p
stage text (Err (TooManyStatements count)) p = not_expanded text (written.TooManyStatements count) p
stage text (Err (DuplicateId id)) p = not_expanded text (written.DuplicateId id) p
stage text (Err OutOfMemory) p = nowhere refl

faulty : (text : List ℕ) (r : Result Policy PolicyFault) (f : TokenFault) (ts : List Token) → IsTokenFault text f → r ≡ Err (of_tokens f) → AreTokens text ts → r ≡ Err OutOfMemory
faulty text r f ts p e c = e ∙ ap (λ g. (let x : Result Policy PolicyFault = Err (of_tokens g) in x)) (tokens_or_fault text ts f c p)

one_token_fault : (text : List ℕ) (r s : Result Policy PolicyFault) (f g : TokenFault) → r ≡ Err (of_tokens f) → s ≡ Err (of_tokens g) → (f ≡ tokens.OutOfMemory) ⊎ ((g ≡ tokens.OutOfMemory) ⊎ (f ≡ g)) → AreOneReading r s
one_token_fault text r s f g e d (inl h) = inl (e ∙ ap (λ x. (let y : Result Policy PolicyFault = Err (of_tokens x) in y)) h)
one_token_fault text r s f g e d (inr (inl h)) = inr (inl (d ∙ ap (λ x. (let y : Result Policy PolicyFault = Err (of_tokens x) in y)) h))
one_token_fault text r s f g e d (inr (inr h)) = inr (inr (e ∙ ap (λ x. (let y : Result Policy PolicyFault = Err (of_tokens x) in y)) h ∙ sym d))

one_syntax : (text : List ℕ) (a b : ℕ) → IsSyntaxFault text a → IsSyntaxFault text b → a ≡ b
one_syntax text a b p q =
    let same : p.tokens ≡ q.tokens = tokens_once text p.tokens q.tokens p.cut q.cut in
    let here : IsFaultAt (lexemes text p.tokens) q.number = subst (λ ts. IsFaultAt (lexemes text ts) q.number) (sym same) q.fault in
    let number : p.number ≡ q.number = one_place (lexemes text p.tokens) p.number q.number (all_spelled text p.tokens p.cut) p.fault here in
    p.place ∙ ap (place_of text p.tokens) number ∙ ap (λ ts. place_of text ts q.number) same ∙ sym q.place

no_syntax : (text : List ℕ) (a : ℕ) (w : WrittenPolicy) → IsSyntaxFault text a → IsWritten text w → ⊥
no_syntax text a w p q =
    let same : q.tokens ≡ p.tokens = tokens_once text q.tokens p.tokens q.cut p.cut in
    fault-no_policy (lexemes text p.tokens) p.number w (all_spelled text p.tokens p.cut) p.fault (subst (λ ts. StandsFor (lexemes text ts) w) same q.stands)

one_written : (text : List ℕ) (v w : WrittenPolicy) → IsWritten text v → IsWritten text w → v ≡ w
one_written text v w p q =
    let same : q.tokens ≡ p.tokens = tokens_once text q.tokens p.tokens q.cut p.cut in
    one_policy (lexemes text p.tokens) v w p.stands (subst (λ ts. StandsFor (lexemes text ts) w) same q.stands)

one_stage : (text : List ℕ) (r s : Result Policy PolicyFault) → Stage text r → Stage text s → AreOneReading r s
one_stage text r s (nowhere e) q = inl e
one_stage text r s p (nowhere d) = inr (inl d)
one_stage text r s (at_tokens f p e) (at_tokens g q d) = one_token_fault text r s f g e d (one_fault text f g p q)
one_stage text r s (at_tokens f p e) (at_syntax at q d) = inl (faulty text r f q.tokens p e q.cut)
one_stage text r s (at_tokens f p e) (at_end w q d) = inl (faulty text r f q.tokens p e q.cut)
one_stage text r s (at_syntax at p e) (at_tokens g q d) = inr (inl (faulty text s g p.tokens q d p.cut))
one_stage text r s (at_end w p e) (at_tokens g q d) = inr (inl (faulty text s g p.tokens q d p.cut))
one_stage text r s (at_syntax at p e) (at_syntax a q d) = inr (inr (e ∙ ap (λ n. (let x : Result Policy PolicyFault = Err (Syntax n) in x)) (one_syntax text at a p q) ∙ sym d))
one_stage text r s (at_syntax at p e) (at_end w q d) = absurd (no_syntax text at w p q)
one_stage text r s (at_end w p e) (at_syntax at q d) = absurd (no_syntax text at w q p)
one_stage text r s (at_end v p e) (at_end w q d) = inr (inr (e ∙ ap (λ x. answer (expansion x)) (one_written text v w p q) ∙ sym d))

pub one_reading : (text : List ℕ) (r s : Result Policy PolicyFault) → IsReading text r → IsReading text s → AreOneReading r s
one_reading text r s p q = one_stage text r s (stage text r p) (stage text s q)
