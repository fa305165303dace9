use Rattle.std.proofs.Common.{◌∷◌, ◌++◌, ◌∙◌, ap, sym}
use Rattle.std.specs.Prelude.{codes}
use Rattle.std.specs.Fmt.{decimal}
use Rattle.config_text.specs.Lines.{name_at}
use Rattle.config_lines.proofs.LoadParts.{parts, start, after_loc, after_port, after_load, from_loc, from_port, from_load, from_capacity}
use Rattle.config_lines.proofs.loads.read_load.Goals as goal

pub returns-in_err-rest-clause-none : goal.returns-in_err-rest-clause-none
returns-in_err-rest-clause-none c = rw c.from_residual.ensures (λ l more is e. c.in_err-rest.ensures.none (from_loc c.args.net.now l more) (e ∙ parts c.args.net.now l more))

pub returns-in_err-loc-clause-none : goal.returns-in_err-loc-clause-none
returns-in_err-loc-clause-none c = rw c.from_residual-in_err-loc.ensures (λ l more is e. c.in_err-loc.ensures.none l.loc (from_port c.args.net.now l more) is.loc (start c.args.net.now c.args.text.now c.in_ok-rest.rest.now l more c.in_ok-rest.ensures.some e))

pub returns-in_err-port-clause-none : goal.returns-in_err-port-clause-none
returns-in_err-port-clause-none c = rw c.from_residual-in_err-port.ensures (λ l more is e. c.in_err-port.ensures.none l.port (from_load c.args.net.now l more) is.port (after_loc c.args.net.now c.in_ok-rest.rest.now c.in_ok-loc.rest.now c.in_ok-loc.loc l more c.in_ok-loc.ensures.some.0 c.in_ok-loc.ensures.some.1 is (start c.args.net.now c.args.text.now c.in_ok-rest.rest.now l more c.in_ok-rest.ensures.some e)))

pub returns-in_err-load-clause-none : goal.returns-in_err-load-clause-none
returns-in_err-load-clause-none c = rw c.from_residual-in_err-load.ensures (λ l more is e. c.in_err-load.ensures.none l.load (from_capacity c.args.net.now l more) is.load (after_port c.args.net.now c.in_ok-loc.rest.now c.in_ok-port.rest.now c.in_ok-port.port l more c.in_ok-port.ensures.some.0 c.in_ok-port.ensures.some.1 is (after_loc c.args.net.now c.in_ok-rest.rest.now c.in_ok-loc.rest.now c.in_ok-loc.loc l more c.in_ok-loc.ensures.some.0 c.in_ok-loc.ensures.some.1 is (start c.args.net.now c.args.text.now c.in_ok-rest.rest.now l more c.in_ok-rest.ensures.some e))))

pub returns-in_err-capacity-clause-none : goal.returns-in_err-capacity-clause-none
returns-in_err-capacity-clause-none c = rw c.from_residual-in_err-capacity.ensures (λ l more is e. c.in_err-capacity.ensures.none l.capacity more is.capacity (after_load c.args.net.now c.in_ok-port.rest.now c.in_ok-load.rest.now c.in_ok-load.load l more c.in_ok-load.ensures.some.0 c.in_ok-load.ensures.some.1 is (after_port c.args.net.now c.in_ok-loc.rest.now c.in_ok-port.rest.now c.in_ok-port.port l more c.in_ok-port.ensures.some.0 c.in_ok-port.ensures.some.1 is (after_loc c.args.net.now c.in_ok-rest.rest.now c.in_ok-loc.rest.now c.in_ok-loc.loc l more c.in_ok-loc.ensures.some.0 c.in_ok-loc.ensures.some.1 is (start c.args.net.now c.args.text.now c.in_ok-rest.rest.now l more c.in_ok-rest.ensures.some e)))))

pub returns-clause-some : goal.returns-clause-some
returns-clause-some c = (
  c.in_ok-rest.ensures.some ∙ ap (λ z. codes "load " ++ z) (c.in_ok-loc.ensures.some.0 ∙ ap (λ z. name_at c.args.net.now c.in_ok-loc.loc ++ 32 ∷ z) (c.in_ok-port.ensures.some.0 ∙ ap (λ z. decimal c.in_ok-port.port ++ 32 ∷ z) (c.in_ok-load.ensures.some.0 ∙ ap (λ z. decimal c.in_ok-load.load ++ 47 ∷ z) (c.in_ok-capacity.ensures.some.0)))) ∙ sym (parts c.args.net.now (record { loc = c.in_ok-loc.loc; port = c.in_ok-port.port; load = c.in_ok-load.load; capacity = c.in_ok-capacity.capacity }) c.in_ok-capacity.rest.now),
  record { loc = c.in_ok-loc.ensures.some.1; port = c.in_ok-port.ensures.some.1; load = c.in_ok-load.ensures.some.1; capacity = c.in_ok-capacity.ensures.some.1 },
)
