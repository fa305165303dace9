use Rattle.std.proofs.Common.{◌≡◌, ◌≤◌, ℕ, List, Some}
use Rattle.merlin_base.specs.Lexemes.{IsDecimal, IsRate, IsIp}
use Rattle.merlin_text.specs.declared.token.Kind.{Kind}
use Rattle.merlin_text.specs.declared.token.Kind.TheVariants as kinds
use Rattle.merlin_text.specs.Tokens.{IsLexeme, IsPrefix, sort_of, numeral}
use Rattle.merlin_text.proofs.pieces.numeral_kind.Goals as goal

no_numeral : (text : List ℕ) → ((n : ℕ) → IsDecimal text n → n ≤ 65535 → ⊥) → ((n : ℕ) → IsRate text n → ⊥) → ((n : ℕ) → IsIp text n → ⊥) → ((v n : ℕ) → IsPrefix text v n → ⊥) → (kind : Kind) → sort_of (Some kind) ≡ numeral → IsLexeme (Some kind) text → ⊥
no_numeral text number rate ip prefix (kinds.Number n) same is = number n is.0 is.1
no_numeral text number rate ip prefix (kinds.Rate n) same is = rate n is
no_numeral text number rate ip prefix (kinds.Ip n) same is = ip n is
no_numeral text number rate ip prefix (kinds.Prefix v n) same is = prefix v n is
no_numeral text number rate ip prefix kind same is = cc

pub returns-in_default-prefix_value-clause-none : goal.returns-in_default-prefix_value-clause-none
returns-in_default-prefix_value-clause-none c =
    no_numeral c.args.text.now c.in_default.ensures.none c.in_default-rate_value.ensures.none c.in_default-ip_value.ensures.none c.in_default-prefix_value.ensures.none
