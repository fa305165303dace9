use Rattle.std.proofs.Common.{◌<◌, length, subst}
use Rattle.std.proofs.lemmas.Result.{err_from_is_err_and}
use Rattle.delegation.specs.ScopesUnder.{IsLeastSharing}
use Rattle.delegation.proofs.Apart.{apart-all, least-all}
use Rattle.delegation.proofs.scopes.ask_scopes.Goals as goal

pub returns-in_err-pair-clause-err : goal.returns-in_err-pair-clause-err
returns-in_err-pair-clause-err c net symbols own =
    let p = err_from_is_err_and c.from_residual.result c.from_residual.ensures.1 in
    rw (p.1, p.2) (c.in_err-pair.ensures.err net symbols own)

pub returns-in-Some-clause-err : goal.returns-in-Some-clause-err
returns-in-Some-clause-err c net symbols own = (
  record { own = own; classes = c.in_ok-pair.ensures.few },
  least-all c.args.nodes.now c.requires c.in-Some.pair
      (subst (IsLeastSharing c.args.nodes.now (λ parent. parent < length c.args.nodes.now)) c.in-Some.is c.in_ok-pair.ensures.found),
)

pub returns-in-None-clause-apart : goal.returns-in-None-clause-apart
returns-in-None-clause-apart c =
    apart-all c.args.nodes.now c.requires (subst (IsLeastSharing c.args.nodes.now (λ parent. parent < length c.args.nodes.now)) c.in-None.is c.in_ok-pair.ensures.found)
