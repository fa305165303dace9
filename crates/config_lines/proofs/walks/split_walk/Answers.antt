use Rattle.std.proofs.Common.{◌∷◌, ◌++◌, sym, subst, arith}
use Rattle.std.specs.Prelude.{codes}
use Rattle.merlin_base.specs.Lexemes.{IsIdentifier}
use Rattle.config_lines.proofs.Then.{behind_word, no_byte, same_part, identifier_free}
use Rattle.config_lines.proofs.walks.split_walk.Goals as goal

pub returns-in_err-id-clause-none : goal.returns-in_err-id-clause-none
returns-in_err-id-clause-none c =
    rw c.from_residual-in_err-id.ensures (λ id symbols rest is e.
    no_byte 32 c.in_ok-rest.rest.now id (symbols ++ 10 ∷ rest) c.in_err-id.ensures.none (behind_word (codes "walk ") c.args.text.now c.in_ok-rest.rest.now _ c.in_ok-rest.ensures.some e))

pub returns-then-not-is_identifier-clause-none : goal.returns-then-not-is_identifier-clause-none
returns-then-not-is_identifier-clause-none c = λ id symbols rest is e.
    let same = same_part 32 c.in_ok-rest.rest.now c.in_ok-id.id.now c.in_ok-id.rest.now id (symbols ++ 10 ∷ rest) c.in_ok-id.ensures.some.0 c.in_ok-id.ensures.some.1 (identifier_free 32 id (omega arith) is)
    (behind_word (codes "walk ") c.args.text.now c.in_ok-rest.rest.now _ c.in_ok-rest.ensures.some e) in
    let is_id : IsIdentifier c.in_ok-id.id.now = subst IsIdentifier (sym same.front) is in
    grind (arith, c.is_identifier.ensures.1 is_id, c.if-not-is_identifier.true)

pub returns-in_err-symbols-clause-none : goal.returns-in_err-symbols-clause-none
returns-in_err-symbols-clause-none c =
    rw c.from_residual-in_err-symbols.ensures (λ id symbols rest is e.
    let same = same_part 32 c.in_ok-rest.rest.now c.in_ok-id.id.now c.in_ok-id.rest.now id (symbols ++ 10 ∷ rest) c.in_ok-id.ensures.some.0 c.in_ok-id.ensures.some.1 (identifier_free 32 id (omega arith) is)
    (behind_word (codes "walk ") c.args.text.now c.in_ok-rest.rest.now _ c.in_ok-rest.ensures.some e) in
    no_byte 10 c.in_ok-id.rest.now symbols rest c.in_err-symbols.ensures.none same.rest)
