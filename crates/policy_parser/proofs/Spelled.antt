-- The lexemes of a text are spelled in it.
use Rattle.std.proofs.Common.{ℕ, ◌≡◌, ◌<◌, ◌≤◌, List, [], ◌∷◌, length, true, cond, sym, ap, ◌∙◌, subst, arith}
use Rattle.std.specs.Prelude.{nat_le, ◌&&◌, Bool, Some, slice_range}
use Rattle.std.specs.List.{AllByRecursion}
use Rattle.std.proofs.lemmas.Bool.{le-leb}
use Rattle.merlin_base.specs.Lexemes.{IsName}
use Rattle.merlin_text.specs.declared.token.Kind.{Kind}
use Rattle.merlin_text.specs.declared.token.Kind.TheVariants as kinds
use Rattle.merlin_text.specs.declared.token.Span.{Span}
use Rattle.merlin_text.specs.declared.token.Token.{Token}
use Rattle.merlin_text.specs.Tokens.{AreTokens, AreSlices, IsLexeme}
use Rattle.merlin_text.proofs.Cuts.{slices}
use Rattle.policy_grammar.specs.Lexemes.{IsSpelled, lexeme, lexemes}

both_true : (a b : Bool) → a ≡ true → b ≡ true → (a && b) ≡ true
both_true a b p q = ap (λ x. x && b) p ∙ q

spelled : (text : List ℕ) (k : Kind) (s : Span) → s.start < s.end → s.end ≤ length text → IsLexeme (Some k) (slice_range text s.start s.end) → IsSpelled (lexeme text (record { kind = k; span = s }))
spelled text kinds.Name s some within p =
    let inside : (nat_le s.start s.end && nat_le s.end (length text)) ≡ true = both_true _ _ (le-leb s.start s.end (omega arith)) (le-leb s.end (length text) within) in
    subst (λ b. IsName (cond b (slice_range text s.start s.end) [])) (sym inside) p
spelled text (kinds.Word w) s some within p = tt
spelled text (kinds.Number n) s some within p = (slice_range text s.start s.end, p.0, p.1)
spelled text (kinds.Rate n) s some within p = (slice_range text s.start s.end, p)
spelled text (kinds.Mac n) s some within p = (slice_range text s.start s.end, p)
spelled text (kinds.Ip n) s some within p = (slice_range text s.start s.end, p)
spelled text (kinds.Prefix v n) s some within p = (slice_range text s.start s.end, p)
spelled text (kinds.Sign g) s some within p = tt

each_spelled : (text : List ℕ) (from : ℕ) (ts : List Token) → AreSlices text from ts → AllByRecursion IsSpelled (lexemes text ts)
each_spelled text from [] p = tt
each_spelled text from (t ∷ ts) p = (spelled text t.kind t.span p.1 p.2 p.3, each_spelled text t.span.end ts p.4)

pub all_spelled : (text : List ℕ) (ts : List Token) → AreTokens text ts → AllByRecursion IsSpelled (lexemes text ts)
all_spelled text ts cut = each_spelled text 0 ts (slices text [] ts cut)
