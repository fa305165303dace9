use Rattle.std.proofs.Common.{◌++◌, ◌∷◌, [], ap, codes, ◌∙◌}
use Rattle.std.specs.Fmt.{decimal}
use Rattle.std.proofs.lemmas.Result.{on_ok_weaker}
use Rattle.merlin_base.specs.Addresses.{mac_text}
use Rattle.config_text.specs.Lines.{functions_text}
use Rattle.config_text.proofs.Spaced.{eight_words}
use Rattle.config_text.proofs.rules.process_line.Goals as goal

pub returns : goal.returns
returns c =
    let p = c.args.process.now in
    on_ok_weaker c.byte-2.result (λ e. e ∙ rw (c.in_ok-number_word-4.ensures, c.in_ok-number_word-3.ensures, c.in_ok-number_word-2.ensures, c.in_ok-functions_word.ensures, c.in_ok-mac.ensures, c.in_ok-byte.ensures, c.in_ok-number_word.ensures, c.in_ok-word.ensures, c.in_ok-begin.ensures, c.as_slice.ensures, c.bytes.ensures, c.from.ensures, c.from-2.ensures, c.from-3.ensures, c.from-4.ensures)
    (ap (λ t. t ++ 10 ∷ []) (eight_words (codes "process") c.args.location.now (decimal p.tag) (mac_text p.eth_dst) (functions_text c.args.declared.now p.functions) (decimal p.next_tag) (decimal p.port) (decimal p.queue)))) c.byte-2.ensures
