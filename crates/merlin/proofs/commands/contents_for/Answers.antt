use Rattle.std.proofs.Common.{sym, subst, inl}
use Rattle.merlin_base.proofs.Passing.{err_to}
use Rattle.merlin.specs.Reading.{AreContents, texts_read}
use Rattle.merlin.specs.Commands.{form_of, files_of}
use Rattle.merlin.specs.Contents.{AreContentsOf, IsUnreadOf}
use Rattle.merlin.proofs.Contents.{IsUnreadOf-earlier}
use Rattle.merlin.proofs.commands.contents_for.Goals as goal

pub add_further-requires : goal.add_further-requires
add_further-requires g c =
    subst (λ k. AreContents k (files_of (form_of c.args.command)) (texts_read c.in_ok-contents.contents.items)) (sym c.read_first.ensures.contents) c.in_ok-contents.ensures.ok

pub returns-in_err-contents-clause-err : goal.returns-in_err-contents-clause-err
returns-in_err-contents-clause-err g c =
    let known = g.F.Files.contents c.args.files.now in
    err_to (IsUnreadOf known (form_of c.args.command) (g.F.Files.faults c.args.files.now) (g.F.Files.faults c.read_first.new.files)) c.from_residual.result c.in_err-contents.field-0.0 c.from_residual.ensures.1
    (inl c.in_err-contents.ensures.err)

pub returns-in_err-add_further-clause-err : goal.returns-in_err-add_further-clause-err
returns-in_err-add_further-clause-err g c =
    let known = g.F.Files.contents c.args.files.now in
    let between = g.F.Files.faults c.read_first.new.files in
    let now = g.F.Files.faults c.add_further.new.files in
    err_to (IsUnreadOf known (form_of c.args.command) (g.F.Files.faults c.args.files.now) now) c.from_residual-in_err-add_further.result c.in_err-add_further.field-0.0 c.from_residual-in_err-add_further.ensures.1
    (IsUnreadOf-earlier known (form_of c.args.command) _ between now c.in_err-add_further.field-0.0 c.read_first.ensures.later
    (subst (λ k. IsUnreadOf k (form_of c.args.command) between now c.in_err-add_further.field-0.0) c.read_first.ensures.contents c.in_err-add_further.ensures.err))

pub returns-clause-ok : goal.returns-clause-ok
returns-clause-ok g c =
    subst (λ k. AreContentsOf k (form_of c.args.command) (texts_read c.add_further.new.contents.items)) c.read_first.ensures.contents c.in_ok-add_further.ensures.ok
