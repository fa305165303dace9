-- What is read from the tokens of a text is the predicate that it stands for, and a text is read in one way.
use Rattle.std.proofs.Common.{ℕ, ◌≡◌, ◌-◌, ◌<◌, ◌≤◌, ◌++◌, zero, suc, ◌⊎◌, inl, inr, ⊎_elim, List, [], ◌∷◌, length, take, drop, Result, Ok, Err, refl, sym, ◌∙◌, ap, subst, append-nil, append_assoc, length-take, arith}
use Rattle.std.specs.Prelude.{IfOk, IfErr}
use Rattle.std.specs.List.{AllByRecursion}
use Rattle.std.proofs.lemmas.Bool.{cases_lt}
use Rattle.std.proofs.lemmas.List.{length-map, take-append-drop, take-append-le}
use Rattle.merlin_model.specs.declared.policy.Pred.{Pred}
use Rattle.merlin_model.specs.Predicates.{IsPred}
use Rattle.merlin_text.specs.declared.token.Token.{Token}
use Rattle.merlin_text.specs.declared.token.TokenFault.{TokenFault}
use Rattle.merlin_text.specs.declared.token.TokenFault.TheVariants as tokens
use Rattle.merlin_text.specs.Tokens.{AreTokens, IsTokenFault}
use Rattle.merlin_text.proofs.Cuts.{tokens_once, tokens_or_fault, one_fault}
use Rattle.policy_grammar.specs.Lexemes.{Lexeme, IsSpelled, lexeme, lexemes}
use Rattle.policy_parser.specs.declared.fault.PolicyFault.{PolicyFault}
use Rattle.policy_parser.specs.declared.fault.PolicyFault.TheVariants.{BadByte, BadNumber, Syntax, DuplicateSet, MixedSet, UnknownSet, TooManyStatements, DuplicateId, OutOfMemory}
use Rattle.policy_parser.specs.Policies.{AreOneReading, of_tokens, place_of}
use Rattle.policy_parser.specs.PredicateTexts.{StandForPredicate, BeginPredicate, IsPredicateFaultAt, IsPredicateText, IsPredicateSyntaxFault, IsPredicateRead, IsPredicateReading, IsRefusedPredicate}
use Rattle.policy_parser.specs.Readers.{WholeText, whole_predicate, run_text, first_pred}
use Rattle.policy_parser.proofs.PredicateTexts.{complete, fault}
use Rattle.policy_parser.proofs.Spelled.{all_spelled}
use Rattle.policy_parser.proofs.Formed.{pred_formed}

-- no more tokens are left than there are
pub few_left : (text : List ℕ) (ts : List Token) (m : ℕ) → run_text (lexemes text ts) first_pred ≡ Err m → m ≤ length ts
few_left text ts m e = let within = (fault (lexemes text ts) m e).0 in omega (arith, within, length-map ts (lexeme text))

pub stops : (text : List ℕ) (ts : List Token) (m at : ℕ) → run_text (lexemes text ts) first_pred ≡ Err m → at ≡ place_of text ts (length ts - m) → IsPredicateRead text ts (Err (Syntax at))
stops text ts m at e place = (length ts - m, subst (λ n. IsPredicateFaultAt (lexemes text ts) (n - m)) (length-map ts (lexeme text)) (fault (lexemes text ts) m e).1, place)

-- with the tokens of the text, what is read from them is what it stands for
pub told : (text : List ℕ) (ts : List Token) (r : Result Pred PolicyFault) → AreTokens text ts → IsPredicateRead text ts r → IsPredicateReading text r
told text ts (Ok p) cut read = record { tokens = ts; cut = cut; stands = read }
told text ts (Err (Syntax at)) cut (number, stop, place) = record { tokens = ts; cut = cut; number = number; fault = stop; place = place }
told text ts (Err OutOfMemory) cut read = tt
told text ts (Err (BadByte at)) cut read = absurd read
told text ts (Err (BadNumber at)) cut read = absurd read
told text ts (Err (DuplicateSet name)) cut read = absurd read
told text ts (Err (MixedSet name)) cut read = absurd read
told text ts (Err (UnknownSet name)) cut read = absurd read
told text ts (Err (TooManyStatements count)) cut read = absurd read
told text ts (Err (DuplicateId id)) cut read = absurd read

-- a faulty token is a fault of the text
pub token_fault : (text : List ℕ) (f : TokenFault) → IsTokenFault text f → IsRefusedPredicate (of_tokens f) text
token_fault text (tokens.BadByte at) p = p
token_fault text (tokens.BadNumber at) p = p
token_fault text tokens.OutOfMemory p = tt

pub both_sides : (text : List ℕ) (r : Result Pred PolicyFault) → IsPredicateReading text r → IfOk r (IsPredicateText text) × IfErr r (λ fault. IsRefusedPredicate fault text)
both_sides text (Ok p) h = (h, tt)
both_sides text (Err f) h = (tt, h)

-- what a text stands for has values in their ranges
pub formed : (text : List ℕ) (r : Result Pred PolicyFault) → IsPredicateReading text r → IfOk r IsPred
formed text (Ok p) h =
    let real = subst (λ ls. AllByRecursion IsSpelled ls) (sym h.stands.spelled) (all_spelled text h.tokens h.cut) in
    subst IsPred h.stands.is (pred_formed h.stands.phrase real)
formed text (Err f) h = tt

-- Of the grammar alone: lexemes stop being a predicate at one place, and not where they are one.

both_spelled : (ts us : List Lexeme) → AllByRecursion IsSpelled ts → AllByRecursion IsSpelled us → AllByRecursion IsSpelled (ts ++ us)
both_spelled [] us p q = q
both_spelled (t ∷ ts) us p q = (p.0, both_spelled ts us p.1 q)

drop_spelled : (n : ℕ) (ts : List Lexeme) → AllByRecursion IsSpelled ts → AllByRecursion IsSpelled (drop n ts)
drop_spelled zero ts p = p
drop_spelled (suc n) [] p = p
drop_spelled (suc n) (t ∷ ts) p = drop_spelled n ts p.1

take_spelled : (n : ℕ) (ts : List Lexeme) → AllByRecursion IsSpelled ts → AllByRecursion IsSpelled (take n ts)
take_spelled zero ts p = tt
take_spelled (suc n) [] p = p
take_spelled (suc n) (t ∷ ts) p = (p.0, take_spelled n ts p.1)

begins_front : (ts : List Lexeme) (n : ℕ) → AllByRecursion IsSpelled ts → BeginPredicate ts → BeginPredicate (take n ts)
begins_front ts n real b = record {
  more = drop n ts ++ b.more;
  spelled = both_spelled (drop n ts) b.more (drop_spelled n ts real) b.spelled;
  pred = b.pred;
  stands = subst (λ xs. StandForPredicate xs b.pred) (ap (λ xs. xs ++ b.more) (sym (take-append-drop n ts)) ∙ append_assoc (take n ts) (drop n ts) b.more) b.stands;
}

no_earlier : (ts : List Lexeme) (m n : ℕ) → AllByRecursion IsSpelled ts → m < n → IsPredicateFaultAt ts m → IsPredicateFaultAt ts n → ⊥
no_earlier ts m n real h f g =
    let inside : suc m ≤ length (take n ts) = omega (arith, g.within, length-take n ts) in
    let front : take (suc m) (take n ts) ≡ take (suc m) ts = sym (take-append-le (suc m) (take n ts) (drop n ts) inside) ∙ ap (λ xs. take (suc m) xs) (take-append-drop n ts) in
    f.token (omega (arith, g.within)) (subst BeginPredicate front (begins_front (take n ts) (suc m) (take_spelled n ts real) g.before))

one_place : (ts : List Lexeme) (m n : ℕ) → AllByRecursion IsSpelled ts → IsPredicateFaultAt ts m → IsPredicateFaultAt ts n → m ≡ n
one_place ts m n real f g = ⊎_elim
    (λ h. absurd (no_earlier ts m n real h f g))
    (λ h. ⊎_elim (λ less. absurd (no_earlier ts n m real less g f)) (λ more. omega (arith, h, more)) (cases_lt n m))
    (cases_lt m n)

no_predicate : (ts : List Lexeme) (n : ℕ) (p : Pred) → AllByRecursion IsSpelled ts → IsPredicateFaultAt ts n → StandForPredicate ts p → ⊥
no_predicate ts n p real f s = ⊎_elim
    (λ h. f.token h (begins_front ts (suc n) real (record { more = []; spelled = tt; pred = p; stands = subst (λ xs. StandForPredicate xs p) (sym (append-nil ts)) s })))
    (λ h. f.end (omega (arith, f.within)) p s)
    (cases_lt n (length ts))

-- A text is read in one way.

data Stage (text : List ℕ) (r : Result Pred PolicyFault) : Type 0 where
  at_tokens : (fault : TokenFault) → IsTokenFault text fault → r ≡ Err (of_tokens fault) → Stage text r
  at_syntax : (at : ℕ) → IsPredicateSyntaxFault text at → r ≡ Err (Syntax at) → Stage text r
  at_end : (p : Pred) → IsPredicateText text p → r ≡ Ok p → Stage text r
  nowhere : r ≡ Err OutOfMemory → Stage text r

stage : (text : List ℕ) (r : Result Pred PolicyFault) → IsPredicateReading text r → Stage text r
stage text (Ok p) h = at_end p h refl
stage text (Err (BadByte at)) h = at_tokens (tokens.BadByte at) h refl
stage text (Err (BadNumber at)) h = at_tokens (tokens.BadNumber at) h refl
stage text (Err (Syntax at)) h = at_syntax at h refl
stage text (Err (DuplicateSet name)) h = absurd h
stage text (Err (MixedSet name)) h = absurd h
stage text (Err (UnknownSet name)) h = absurd h
stage text (Err (TooManyStatements count)) h = absurd h
stage text (Err (DuplicateId id)) h = absurd h
stage text (Err OutOfMemory) h = nowhere refl

abbrev failed : TokenFault → Result Pred PolicyFault
failed f = Err (of_tokens f)

faulty : (text : List ℕ) (r : Result Pred PolicyFault) (f : TokenFault) (ts : List Token) → IsTokenFault text f → r ≡ Err (of_tokens f) → AreTokens text ts → r ≡ Err OutOfMemory
faulty text r f ts p e c = e ∙ ap failed (tokens_or_fault text ts f c p)

one_token_fault : (r s : Result Pred PolicyFault) (f g : TokenFault) → r ≡ Err (of_tokens f) → s ≡ Err (of_tokens g) → (f ≡ tokens.OutOfMemory) ⊎ ((g ≡ tokens.OutOfMemory) ⊎ (f ≡ g)) → AreOneReading r s
one_token_fault r s f g e d (inl h) = inl (e ∙ ap failed h)
one_token_fault r s f g e d (inr (inl h)) = inr (inl (d ∙ ap failed h))
one_token_fault r s f g e d (inr (inr h)) = inr (inr (e ∙ ap failed h ∙ sym d))

one_syntax : (text : List ℕ) (a b : ℕ) → IsPredicateSyntaxFault text a → IsPredicateSyntaxFault text b → a ≡ b
one_syntax text a b p q =
    let same : p.tokens ≡ q.tokens = tokens_once text p.tokens q.tokens p.cut q.cut in
    let here : IsPredicateFaultAt (lexemes text p.tokens) q.number = subst (λ ts. IsPredicateFaultAt (lexemes text ts) q.number) (sym same) q.fault in
    let number : p.number ≡ q.number = one_place (lexemes text p.tokens) p.number q.number (all_spelled text p.tokens p.cut) p.fault here in
    p.place ∙ ap (place_of text p.tokens) number ∙ ap (λ ts. place_of text ts q.number) same ∙ sym q.place

no_syntax : (text : List ℕ) (a : ℕ) (w : Pred) → IsPredicateSyntaxFault text a → IsPredicateText text w → ⊥
no_syntax text a w p q =
    let same : q.tokens ≡ p.tokens = tokens_once text q.tokens p.tokens q.cut p.cut in
    no_predicate (lexemes text p.tokens) p.number w (all_spelled text p.tokens p.cut) p.fault (subst (λ ts. StandForPredicate (lexemes text ts) w) same q.stands)

ok_inj : {B : Type 0} {x y : WholeText} → (let r : Result WholeText B = Ok x in r) ≡ Ok y → x ≡ y
ok_inj e = cc

whole_inj : {p q : Pred} → whole_predicate p ≡ whole_predicate q → p ≡ q
whole_inj e = cc

one_predicate : (text : List ℕ) (v w : Pred) → IsPredicateText text v → IsPredicateText text w → v ≡ w
one_predicate text v w p q =
    let same : q.tokens ≡ p.tokens = tokens_once text q.tokens p.tokens q.cut p.cut in
    whole_inj (ok_inj (sym (complete _ v p.stands) ∙ complete _ w (subst (λ ts. StandForPredicate (lexemes text ts) w) same q.stands)))

one_stage : (text : List ℕ) (r s : Result Pred PolicyFault) → Stage text r → Stage text s → AreOneReading r s
one_stage text r s (nowhere e) q = inl e
one_stage text r s p (nowhere d) = inr (inl d)
one_stage text r s (at_tokens f p e) (at_tokens g q d) = one_token_fault r s f g e d (one_fault text f g p q)
one_stage text r s (at_tokens f p e) (at_syntax at q d) = inl (faulty text r f q.tokens p e q.cut)
one_stage text r s (at_tokens f p e) (at_end w q d) = inl (faulty text r f q.tokens p e q.cut)
one_stage text r s (at_syntax at p e) (at_tokens g q d) = inr (inl (faulty text s g p.tokens q d p.cut))
one_stage text r s (at_end w p e) (at_tokens g q d) = inr (inl (faulty text s g p.tokens q d p.cut))
one_stage text r s (at_syntax at p e) (at_syntax a q d) = inr (inr (e ∙ ap (λ n. (let x : Result Pred PolicyFault = Err (Syntax n) in x)) (one_syntax text at a p q) ∙ sym d))
one_stage text r s (at_syntax at p e) (at_end w q d) = absurd (no_syntax text at w p q)
one_stage text r s (at_end w p e) (at_syntax at q d) = absurd (no_syntax text at w q p)
one_stage text r s (at_end v p e) (at_end w q d) = inr (inr (e ∙ ap (λ x. (let y : Result Pred PolicyFault = Ok x in y)) (one_predicate text v w p q) ∙ sym d))

pub one_reading : (text : List ℕ) (r s : Result Pred PolicyFault) → IsPredicateReading text r → IsPredicateReading text s → AreOneReading r s
one_reading text r s p q = one_stage text r s (stage text r p) (stage text s q)
