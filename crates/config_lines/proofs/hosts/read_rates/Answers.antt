use Rattle.std.proofs.Common.{◌++◌}
use Rattle.std.specs.Prelude.{codes}
use Rattle.config_text.specs.Lines.{rate_with_unit}
use Rattle.config_lines.proofs.HostTexts.{after_class, after_htb, after_rate}
use Rattle.config_lines.proofs.hosts.read_rates.Goals as goal

pub returns-in_err-rest-clause-none : goal.returns-in_err-rest-clause-none
returns-in_err-rest-clause-none c =
    rw c.from_residual-in_err-rest.ensures (λ class rate ceil more are e.
    c.in_err-rest.ensures.none (rate_with_unit rate ++ (codes " ceil " ++ (rate_with_unit ceil ++ (codes "\n" ++ more))))
    (after_class c.args.text.now c.in_ok-class.rest.now more c.in_ok-class.class class rate ceil c.in_ok-class.ensures.some.0 c.in_ok-class.ensures.some.1 are e))

pub returns-in_err-rate-clause-none : goal.returns-in_err-rate-clause-none
returns-in_err-rate-clause-none c =
    rw c.from_residual-in_err-rate.ensures (λ class rate ceil more are e.
    let a = after_class c.args.text.now c.in_ok-class.rest.now more c.in_ok-class.class class rate ceil c.in_ok-class.ensures.some.0 c.in_ok-class.ensures.some.1 are e in
    c.in_err-rate.ensures.none rate (rate_with_unit ceil ++ (codes "\n" ++ more)) are.1 (after_htb c.in_ok-class.rest.now c.in_ok-rest.rest.now more rate ceil c.in_ok-rest.ensures.some a))

pub returns-in_err-ceil-clause-none : goal.returns-in_err-ceil-clause-none
returns-in_err-ceil-clause-none c =
    rw c.from_residual-in_err-ceil.ensures (λ class rate ceil more are e.
    let a = after_class c.args.text.now c.in_ok-class.rest.now more c.in_ok-class.class class rate ceil c.in_ok-class.ensures.some.0 c.in_ok-class.ensures.some.1 are e in
    let b = after_htb c.in_ok-class.rest.now c.in_ok-rest.rest.now more rate ceil c.in_ok-rest.ensures.some a in
    c.in_err-ceil.ensures.none ceil more are.2 (after_rate c.in_ok-rest.rest.now c.in_ok-rate.rest.now more c.in_ok-rate.rate rate ceil c.in_ok-rate.ensures.some.0 c.in_ok-rate.ensures.some.1 are.1 b))
