use Rattle.std.proofs.Common.{List, ◌++◌, ◌∙◌, ap}
use Rattle.std.specs.List.{flat_map}
use Rattle.merlin_model.specs.declared.config.HostLine.{HostLine}
use Rattle.queue_and_tc.specs.declared.reaches.Host.{Host}
use Rattle.queue_and_tc.specs.HostTexts.{host_lines_at}
use Rattle.queue_and_tc.proofs.HostLaws.{all-same}
use Rattle.queue_and_tc.proofs.hosts.host_lines.Goals as goal

pub returns : goal.returns
returns c =
    let net = c.args.net.now in
    let policy = c.args.checked.now.policy in
    let sources = c.args.sources.now in
    c.in_ok-add_all_lines.ensures
    ∙ ap (λ (ls : List HostLine). ls ++ flat_map (host_lines_at net policy sources c.deref.result.now) c.deref.result.now) c.new-lines.ensures.items
    ∙ ap (λ (hs : List Host). flat_map (host_lines_at net policy sources hs) hs) (c.deref.ensures.value ∙ c.in_ok-hosts.ensures)
    ∙ all-same net policy sources c.requires.sources
