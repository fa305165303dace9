use Rattle.std.proofs.Common.{subst}
use Rattle.std.proofs.lemmas.List.{take_rest, take_all}
use Rattle.merlin_base.specs.Lexemes.{Lacks}
use Rattle.packet_model.proofs.Parts.{first_part-cut, first_part-whole}
use Rattle.packet_model.proofs.reading.first_part.Goals as goal

pub returns-then-byte-eq44-clause-parts : goal.returns-then-byte-eq44-clause-parts
returns-then-byte-eq44-clause-parts c = rw take_rest (first_part-cut c.args.text.now c.loop-place.place c.loop-place-test.true c.loop-place.invariant c.if-byte-eq44.true)

pub returns-clause-parts : goal.returns-clause-parts
returns-clause-parts c = first_part-whole c.args.text.now (subst (λ xs. Lacks 44 xs) (take_all c.loop-place.place c.args.text.now c.loop-place-test.false) c.loop-place.invariant)
