use Rattle.std.proofs.Common.{◌∙◌}
use Rattle.config_lines.proofs.PortTexts.{from_sport, has_proto, behind_proto, no_ports, behind_sport, behind_dport, wrong_sport, wrong_dport}
use Rattle.config_lines.proofs.hosts.read_ports.Goals as goal

pub returns-in_err-proto-clause-none : goal.returns-in_err-proto-clause-none
returns-in_err-proto-clause-none c =
    rw c.from_residual-in_err-proto.ensures (λ p more are e.
    let has = has_proto p c.args.text.now c.in-Some.rest.now more are e c.in-Some.ensures.some in c.in_err-proto.ensures.none has.proto (from_sport p more) has.small has.rest_is)

pub returns-in_err-sport-clause-none : goal.returns-in_err-sport-clause-none
returns-in_err-sport-clause-none c =
    rw c.from_residual-in_err-sport.ensures (λ p more are e.
    let read = behind_proto p c.args.text.now c.in-Some.rest.now more c.in_ok-proto.rest.now c.in_ok-proto.proto are e c.in-Some.ensures.some c.in_ok-proto.ensures.some.0 c.in_ok-proto.ensures.some.1 in
    let begins = c.in_err-sport.ensures.begins in
    wrong_sport p c.in_ok-proto.rest.now begins.0 more are read.1 begins.1 c.in_err-sport.ensures.none)

pub returns-in_err-dport-clause-none : goal.returns-in_err-dport-clause-none
returns-in_err-dport-clause-none c =
    rw c.from_residual-in_err-dport.ensures (λ p more are e.
    let read = behind_proto p c.args.text.now c.in-Some.rest.now more c.in_ok-proto.rest.now c.in_ok-proto.proto are e c.in-Some.ensures.some c.in_ok-proto.ensures.some.0 c.in_ok-proto.ensures.some.1 in
    let sports = behind_sport p c.in_ok-proto.rest.now c.in_ok-sport.rest.now more c.in_ok-sport.sport are read.1 c.in_ok-sport.ensures.some.0 c.in_ok-sport.ensures.some.1 c.in_ok-sport.ensures.plain in
    let begins = c.in_err-dport.ensures.begins in
    wrong_dport p c.in_ok-sport.rest.now begins.0 more are sports begins.1 c.in_err-dport.ensures.none)

pub returns-in_err-rest-3-clause-none : goal.returns-in_err-rest-3-clause-none
returns-in_err-rest-3-clause-none c =
    rw c.from_residual-in_err-rest-3.ensures (λ p more are e.
    let read = behind_proto p c.args.text.now c.in-Some.rest.now more c.in_ok-proto.rest.now c.in_ok-proto.proto are e c.in-Some.ensures.some c.in_ok-proto.ensures.some.0 c.in_ok-proto.ensures.some.1 in
    let sports = behind_sport p c.in_ok-proto.rest.now c.in_ok-sport.rest.now more c.in_ok-sport.sport are read.1 c.in_ok-sport.ensures.some.0 c.in_ok-sport.ensures.some.1 c.in_ok-sport.ensures.plain in
    let dports = behind_dport p c.in_ok-sport.rest.now c.in_ok-dport.rest.now more c.in_ok-dport.dport are sports c.in_ok-dport.ensures.some.0 c.in_ok-dport.ensures.some.1 c.in_ok-dport.ensures.plain in
    c.in_err-rest-3.ensures.none more dports)

pub returns-in_err-rest-2-clause-none : goal.returns-in_err-rest-2-clause-none
returns-in_err-rest-2-clause-none c =
    rw c.from_residual-in_err-rest-2.ensures (λ p more are e.
    let read = behind_proto p c.args.text.now c.in-Some.rest.now more c.in_ok-proto.rest.now c.in_ok-proto.proto are e c.in-Some.ensures.some c.in_ok-proto.ensures.some.0 c.in_ok-proto.ensures.some.1 in
    let no = c.has_ports.ensures.no c.if-not-has_ports.true in
    c.in_err-rest-2.ensures.none more (read.1 ∙ no_ports p c.in_ok-proto.proto more are read.0 no.0 no.1))
