use Rattle.std.proofs.Common.{◌∷◌, ◌++◌, ◌∙◌, [], ap, sym, codes}
use Rattle.std.proofs.lemmas.Result.{on_ok_weaker}
use Rattle.config_text.specs.Lines.{host_words}
use Rattle.config_text.proofs.Joining.{joined_after_first}
use Rattle.config_text.proofs.hosts.host_line.Goals as goal

pub returns : goal.returns
returns c =
    let so_far = rw (c.in_ok-word.ensures, c.bytes.ensures, c.in_ok-begin.ensures) at c.in_ok-host_words.ensures in
    let whole = so_far ∙ ap (λ t. codes "host " ++ t) (sym (joined_after_first 32 c.args.location.now (host_words c.args.host.now))) in
    on_ok_weaker c.byte.result (λ e. e ∙ ap (λ t. t ++ 10 ∷ []) whole) c.byte.ensures
