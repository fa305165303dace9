use Rattle.std.proofs.Common.{◌∷◌, ◌++◌}
use Rattle.merlin_base.specs.Addresses.{ip_text}
use Rattle.config_lines.specs.Hosts.{ports_then, ports_of}
use Rattle.config_lines.proofs.HostTexts.{ports_lawful, start_match, after_src, after_option, after_dst}
use Rattle.config_lines.proofs.hosts.read_host_match.Goals as goal

pub returns-in_err-rest-2-clause-none : goal.returns-in_err-rest-2-clause-none
returns-in_err-rest-2-clause-none c =
    rw c.from_residual-in_err-rest-2.ensures (λ m more is e.
    let a = start_match c.args.text.now c.in_ok-rest.rest.now more m c.in_ok-rest.ensures.some e in
    c.in_err-rest-2.ensures.none (ip_text m.dst ++ 32 ∷ ports_then (ports_of m) more) (after_src c.in_ok-rest.rest.now c.in_ok-src.rest.now more c.in_ok-src.src m c.in_ok-src.ensures.some.0 a))

pub returns-in_err-dst-clause-none : goal.returns-in_err-dst-clause-none
returns-in_err-dst-clause-none c =
    rw c.from_residual-in_err-dst.ensures (λ m more is e.
    let a = start_match c.args.text.now c.in_ok-rest.rest.now more m c.in_ok-rest.ensures.some e in
    let b = after_src c.in_ok-rest.rest.now c.in_ok-src.rest.now more c.in_ok-src.src m c.in_ok-src.ensures.some.0 a in
    c.in_err-dst.ensures.none m.dst (ports_then (ports_of m) more) is.dst (after_option c.in_ok-src.rest.now c.in_ok-rest-2.rest.now more m c.in_ok-rest-2.ensures.some b))

pub returns-in_err-ports-clause-none : goal.returns-in_err-ports-clause-none
returns-in_err-ports-clause-none c =
    rw c.from_residual-in_err-ports.ensures (λ m more is e.
    let a = start_match c.args.text.now c.in_ok-rest.rest.now more m c.in_ok-rest.ensures.some e in
    let b = after_src c.in_ok-rest.rest.now c.in_ok-src.rest.now more c.in_ok-src.src m c.in_ok-src.ensures.some.0 a in
    let d = after_option c.in_ok-src.rest.now c.in_ok-rest-2.rest.now more m c.in_ok-rest-2.ensures.some b in
    c.in_err-ports.ensures.none (ports_of m) more (ports_lawful m is) (after_dst c.in_ok-rest-2.rest.now c.in_ok-dst.rest.now more c.in_ok-dst.dst m c.in_ok-dst.ensures.some.0 d))
