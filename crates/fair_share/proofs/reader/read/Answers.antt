use Rattle.std.proofs.Common.{codes}
use Rattle.std.proofs.lemmas.Result.{IfOk-weaker, IfErr-weaker}
use Rattle.serde_json.specs.View.{view}
use Rattle.fair_share.proofs.NamedRates.{lawful, refuses}
use Rattle.fair_share.proofs.reader.read.Goals as goal

pub numbered-requires : goal.numbered-requires
numbered-requires c = (
  lawful (codes "caps") (codes "rate") (view c.in_ok-value.value) c.in_ok-entries.entries.caps.items c.in_ok-entries.ensures.ok.caps,
  lawful (codes "tenants") (codes "demand") (view c.in_ok-value.value) c.in_ok-entries.entries.tenants.items c.in_ok-entries.ensures.ok.tenants,
)

pub returns-clause-ok : goal.returns-clause-ok
returns-clause-ok c = IfOk-weaker c.numbered.result _ _ (λ d are. (c.in_ok-entries.entries, (view c.in_ok-value.value, c.in_ok-value.ensures.ok, c.in_ok-entries.ensures.ok), are)) c.numbered.ensures.ok

pub returns-clause-err : goal.returns-clause-err
returns-clause-err c = IfErr-weaker c.numbered.result _ _ (λ fault h. refuses c.args.bytes.now c.in_ok-entries.entries (view c.in_ok-value.value, c.in_ok-value.ensures.ok, c.in_ok-entries.ensures.ok) fault h) c.numbered.ensures.err
