use Rattle.path_regex.proofs.Joined.{chain-more}
use Rattle.path_regex.proofs.forms.Forms.choice_of.Goals as goal

pub loop-form-preserved : goal.loop-form-preserved
loop-form-preserved c =
    chain-more c.args.self.now c.loop-form.self c.put-in-Some.new.self c.args.forms c.loop-form.forms c.pop.new.self c.in-Some.form c.loop-form.all c.in_ok-all-2.all
    c.loop-form.invariant c.in-Some.ensures c.in_ok-all-2.ensures.grows c.in_ok-all-2.ensures.value
