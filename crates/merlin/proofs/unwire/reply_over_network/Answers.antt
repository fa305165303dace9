use Rattle.std.proofs.Common.{sym, ◌∙◌, subst}
use Rattle.merlin.specs.Wire.{IsSwitchNamed}
use Rattle.merlin.proofs.Unwiring.{IfOk-over}
use Rattle.merlin.proofs.unwire.reply_over_network.Goals as goal

pub returns-in-Some : goal.returns-in-Some
returns-in-Some c = λ form topology named is.
    IfOk-over form topology c.args.messages.now c.args.net c.in-Some.switch c.reply_to_messages.result is
    (subst (λ n. IsSwitchNamed c.args.net n c.in-Some.switch) (c.as_bytes.ensures.value ∙ sym named) c.in-Some.ensures.some) c.reply_to_messages.ensures
