use Rattle.path_regex.proofs.Joined.{joining-more}
use Rattle.path_regex.proofs.forms.Forms.alt_of.Goals as goal

pub loop-form-preserved : goal.loop-form-preserved
loop-form-preserved c =
    joining-more c.args.self.now c.loop-form.self c.all_added.new.self c.args.forms c.loop-form.forms c.pop.new.self c.in-Some.form c.loop-form.all c.in_ok-all-2.all
    c.loop-form.invariant c.in-Some.ensures c.in_ok-all-2.ensures.grows c.in_ok-all-2.ensures.value
