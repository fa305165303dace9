use Rattle.refusal_text.proofs.wider.wider_text.Goals as goal

pub returns-in-CapWider : goal.returns-in-CapWider
returns-in-CapWider c = rw c.in-CapWider.is (c.cap_text.ensures c.args.net.now)

pub returns-in-ReserveWider : goal.returns-in-ReserveWider
returns-in-ReserveWider c = rw c.in-ReserveWider.is (c.reserve_text.ensures c.args.net.now)
