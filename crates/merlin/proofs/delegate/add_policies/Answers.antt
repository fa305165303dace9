use Rattle.merlin_base.proofs.Passing.{err_to}
use Rattle.merlin.specs.Reading.{IsUnreadNamed, texts_read}
use Rattle.merlin.specs.Delegate.{NamesPolicies}
use Rattle.merlin.proofs.Contents.{HasAdded-policies, IsUnreadNamed-after}
use Rattle.merlin.proofs.delegate.add_policies.Goals as goal

pub returns-clause-ok : goal.returns-clause-ok
returns-clause-ok g c =
    HasAdded-policies (g.F.Files.contents c.args.files.now) c.deref.result.now c.args.contents.now.items c.in_ok-policies.policies.items c.append.new.self.items c.index.result.now
    c.requires c.index.ensures c.deref.ensures.value c.in_ok-policies.ensures.ok c.in_ok-append.ensures.items

pub returns-in_err-policies-clause-err : goal.returns-in_err-policies-clause-err
returns-in_err-policies-clause-err g c =
    let known = g.F.Files.contents c.args.files.now in
    let before = g.F.Files.faults c.args.files.now in
    let now = g.F.Files.faults c.read_tree.new.files in
    err_to (IsUnreadNamed known (NamesPolicies (texts_read c.args.contents.now.items)) before now) c.from_residual.result c.in_err-policies.field-0.0 c.from_residual.ensures.1
    (IsUnreadNamed-after known c.deref.result.now c.args.contents.now.items c.index.result.now c.requires c.index.ensures c.deref.ensures.value before now c.in_err-policies.field-0.0 c.in_err-policies.ensures.err)
