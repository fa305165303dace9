use Rattle.merlin.proofs.wire.reply_over_network.Goals as goal

pub returns-in-Ok : goal.returns-in-Ok
returns-in-Ok c = λ form topology named is. c.reply_over_result.ensures form topology c.args.bytes.now named (record { is_network = is; is_result = c.in-Ok.ensures.ok })
