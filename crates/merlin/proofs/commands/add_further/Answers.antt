use Rattle.std.proofs.Common.{subst}
use Rattle.std.proofs.lemmas.Result.{on_ok_weaker, IfErr-weaker}
use Rattle.merlin.specs.declared.commands.Command.{Command}
use Rattle.merlin.specs.Reading.{AreContents, texts_read}
use Rattle.merlin.specs.Commands.{form_of, files_of}
use Rattle.merlin.specs.Delegate.{delegate_form}
use Rattle.merlin.proofs.Contents.{AreContentsOf-added, AreContentsOf-no_tree, IsUnreadOf-named, two_files}
use Rattle.merlin.proofs.commands.add_further.Goals as goal

pub add_policies-requires : goal.add_policies-requires
add_policies-requires g c =
    let known = g.F.Files.contents c.args.files.now in
    two_files known _ c.args.contents.now.items
    (subst (λ (x : Command). AreContents known (files_of (form_of x)) (texts_read c.args.contents.now.items)) c.in-Delegate.is c.requires)

pub returns-in-Delegate-clause-ok : goal.returns-in-Delegate-clause-ok
returns-in-Delegate-clause-ok g c =
    let known = g.F.Files.contents c.args.files.now in
    let are = subst (λ (x : Command). AreContents known (files_of (form_of x)) (texts_read c.args.contents.now.items)) c.in-Delegate.is c.requires in
    rw c.in-Delegate.is (on_ok_weaker c.add_policies.result (AreContentsOf-added known _ (texts_read c.args.contents.now.items) _ are) c.add_policies.ensures.ok)

pub returns-in-Delegate-clause-err : goal.returns-in-Delegate-clause-err
returns-in-Delegate-clause-err g c =
    let known = g.F.Files.contents c.args.files.now in
    let are = subst (λ (x : Command). AreContents known (files_of (form_of x)) (texts_read c.args.contents.now.items)) c.in-Delegate.is c.requires in
    rw c.in-Delegate.is
    (IfErr-weaker c.add_policies.result _ _ (λ reason unread. IsUnreadOf-named known _ (texts_read c.args.contents.now.items) _ _ reason are unread) c.add_policies.ensures.err)

pub returns-in_default-clause-ok : goal.returns-in_default-clause-ok
returns-in_default-clause-ok g c = AreContentsOf-no_tree _ c.args.command c.in_default.not-Delegate _ c.requires
