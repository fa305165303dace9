use Rattle.std.proofs.Common.{sym, ◌∙◌}
use Rattle.rule_tables.proofs.Entering.{is-attached, host-there, entry-made}
use Rattle.rule_tables.proofs.entries.entry_at.Goals as goal

pub returns-in_default : goal.returns-in_default
returns-in_default c = λ of ready are between.
    is-attached c.args.net.now c.locations-lawful.ensures.lawful.lawful c.args.owned.now.source between.source
    (sym (host-there c.args.net.now c.args.hosts.now c.requires.hosts c.args.owned.now.source between.source) ∙ sym c.host_at.ensures ∙ c.in_default.is)

pub returns-in_default-host_at : goal.returns-in_default-host_at
returns-in_default-host_at c = λ of ready are between.
    is-attached c.args.net.now c.locations-lawful.ensures.lawful.lawful c.args.owned.now.dest between.dest
    (sym (host-there c.args.net.now c.args.hosts.now c.requires.hosts c.args.owned.now.dest between.dest) ∙ sym c.host_at-2.ensures ∙ c.in_default-host_at.is)

pub returns : goal.returns
returns c = λ of ready are between.
    let net = c.args.net.now in
    let cell = c.args.owned.now in
    entry-made net of c.args.tags.now cell between c.in-Some.source c.in-Some-host_at.dest
    (sym (host-there net c.args.hosts.now c.requires.hosts cell.source between.source) ∙ sym c.host_at.ensures ∙ c.in-Some.is)
    (sym (host-there net c.args.hosts.now c.requires.hosts cell.dest between.dest) ∙ sym c.host_at-2.ensures ∙ c.in-Some-host_at.is)
    c.queue_of.result (c.queue_of.ensures of net are) c.in_ok-hop.hop (c.in_ok-hop.ensures of ready are between)
