use Rattle.std.proofs.Common.{arith, refl, sym, ◌∙◌}
use Rattle.std.proofs.lemmas.Slice.Eq.{bytes_eq-Decides}
use Rattle.merlin_text.specs.declared.token.Sign.TheVariants as signs
use Rattle.merlin_text.proofs.Fronts.{long_front}
use Rattle.merlin_text.proofs.pieces.long_sign.Goals as goal

pub returns-then-eq-clause-some : goal.returns-then-eq-clause-some
returns-then-eq-clause-some c = long_front c.args.text.now signs.Becomes 58 61 refl c.requires (omega arith) ((bytes_eq-Decides _ _).0 (sym c.if-eq.ensures) ∙ c.as_slice.ensures)

pub returns-then-eq-2-clause-some : goal.returns-then-eq-2-clause-some
returns-then-eq-2-clause-some c = long_front c.args.text.now signs.Arrow 45 62 refl c.requires (omega arith) ((bytes_eq-Decides _ _).0 (sym c.if-eq-2.ensures) ∙ c.as_slice-else-eq.ensures)
