use Rattle.std.proofs.Common.{◌≡◌, sym, subst}
use Rattle.config_text.specs.Lines.{host_of}
use Rattle.config_lines.specs.Lines.{AreHostNumbers}
use Rattle.config_lines.specs.Hosts.{target_then, verdict_then, host_then}
use Rattle.config_lines.proofs.HostTexts.{match_once, no_postrouting, no_output, no_line}
use Rattle.config_lines.proofs.HostParts.{is-postrouting}
use Rattle.config_lines.proofs.hosts.read_host_words.Goals as goal

pub returns-in_err-class-2-clause-none : goal.returns-in_err-class-2-clause-none
returns-in_err-class-2-clause-none c =
    rw c.from_residual-in_err-class-2.ensures
    (no_postrouting c.args.text.now c.in-Some-strip_front-2.rest.now c.in-Some-strip_front-2.ensures.some (λ m class rest is has e.
    c.in_err-class-2.ensures.none class rest has
    (match_once c.in_ok-fits.fits m c.in-Some-strip_front-2.rest.now c.in_ok-fits.rest.now (target_then class rest) c.in_ok-fits.ensures.some.1 is c.in_ok-fits.ensures.some.0 e)))

pub returns-in-Some-strip_front-2-clause-some : goal.returns-in-Some-strip_front-2-clause-some
returns-in-Some-strip_front-2-clause-some c =
    let post = is-postrouting c.args.text.now c.in-Some-strip_front-2.rest.now c.in_ok-fits.rest.now c.in_ok-class-2.rest.now c.args.host c.in_ok-fits.fits c.in_ok-class-2.class c.in-Some-strip_front-2.ensures.some c.in_ok-fits.ensures.some.0
    c.in_ok-class-2.ensures.some.0 c.in_ok-fits.ensures.some.1 c.in_ok-class-2.ensures.some.1 in
    subst (λ h. (c.args.text.now ≡ host_then h c.in_ok-class-2.rest.now) × AreHostNumbers h × (host_of h ≡ c.args.host)) (sym c.postrouting.ensures) (post.is, post.numbers, post.host_is)

pub returns-in_err-rest-clause-none : goal.returns-in_err-rest-clause-none
returns-in_err-rest-clause-none c =
    rw c.from_residual-in_err-rest.ensures (no_line c.args.text.now c.in_default.ensures.none c.in_default-strip_front.ensures.none c.in_default-strip_front-2.ensures.none c.in_err-rest.ensures.none)

pub returns-in_err-drop-clause-none : goal.returns-in_err-drop-clause-none
returns-in_err-drop-clause-none c =
    rw c.from_residual-in_err-drop.ensures
    (no_output c.args.text.now c.in_ok-rest.rest.now c.in_ok-rest.ensures.some (λ m drop rest is e.
    c.in_err-drop.ensures.none drop rest
    (match_once c.in_ok-fits-2.fits m c.in_ok-rest.rest.now c.in_ok-fits-2.rest.now (verdict_then drop rest) c.in_ok-fits-2.ensures.some.1 is c.in_ok-fits-2.ensures.some.0 e)))
