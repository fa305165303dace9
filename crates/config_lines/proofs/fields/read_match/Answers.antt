use Rattle.std.proofs.Common.{◌∙◌, ◌+◌, subst, sym}
use Rattle.config_lines.specs.Fields.{match_with}
use Rattle.config_lines.proofs.Then.{unlike}
use Rattle.config_lines.proofs.MatchReads.{IsReadTo, nothing_read, wrong_field, wrong_rank, field_read, match_read}
use Rattle.config_lines.proofs.fields.read_match.Goals as goal

pub fields-init : goal.fields-init
fields-init c = nothing_read c.args.word.now

pub returns-in_err-key-clause-none : goal.returns-in_err-key-clause-none
returns-in_err-key-clause-none c =
    rw c.from_residual.ensures
    (wrong_field c.args.word.now c.fields.rest.now c.cut_before.result.0.now c.cut_before.result.1.now c.fields.fits c.fields.least (λ e. unlike c.args.word.now c.as_slice.result.now c.eq.result c.eq.ensures c.if-eq.false (e ∙ sym c.as_slice.ensures))
    c.fields.invariant c.cut_before.ensures.whole c.cut_before.ensures.lacks c.cut_before.ensures.begins c.in_err-key.ensures.none)

pub returns-then-rank-least-clause-none : goal.returns-then-rank-least-clause-none
returns-then-rank-least-clause-none c =
    wrong_rank c.args.word.now c.fields.rest.now c.cut_before.result.0.now c.cut_before.result.1.now c.fields.fits c.fields.least c.in_ok-key.key c.in_ok-key.number (λ e. unlike c.args.word.now c.as_slice.result.now c.eq.result c.eq.ensures c.if-eq.false (e ∙ sym c.as_slice.ensures))
    c.fields.invariant c.cut_before.ensures.whole c.cut_before.ensures.lacks c.cut_before.ensures.begins c.in_ok-key.ensures.some.0 (rw (sym c.rank.ensures) c.if-rank-least.true)

pub returns-in_default-clause-some : goal.returns-in_default-clause-some
returns-in_default-clause-some c =
    rw c.with-fits.ensures
    (match_read c.args.word.now c.fields.rest.now c.cut_before.result.0.now c.cut_before.result.1.now c.fields.fits c.fields.least c.in_ok-key.key c.in_ok-key.number c.fields.invariant c.cut_before.ensures.whole c.in_ok-key.ensures.some.0 c.in_ok-key.ensures.some.1
    (rw (sym c.rank.ensures) c.if-rank-least.false) c.cut_before.ensures.begins c.in_default.ensures.none)

pub fields-preserved : goal.fields-preserved
fields-preserved c =
    subst (λ m. IsReadTo c.args.word.now m (c.rank-least.result + 1) c.in-Some.more.now) (sym c.with-fits.ensures)
    (subst (λ k. IsReadTo c.args.word.now (match_with c.fields.fits c.in_ok-key.key c.in_ok-key.number) (k + 1) c.in-Some.more.now) (sym c.rank-least.ensures)
    (field_read c.args.word.now c.fields.rest.now c.cut_before.result.0.now c.cut_before.result.1.now c.in-Some.more.now c.fields.fits c.fields.least c.in_ok-key.key c.in_ok-key.number c.fields.invariant c.cut_before.ensures.whole c.in_ok-key.ensures.some.0 c.in_ok-key.ensures.some.1
    (rw (sym c.rank.ensures) c.if-rank-least.false) c.in-Some.ensures.some))
