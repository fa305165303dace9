use Rattle.std.proofs.Common.{◌∷◌, ◌++◌, ◌∙◌, ap}
use Rattle.std.specs.Prelude.{codes}
use Rattle.std.specs.Fmt.{decimal}
use Rattle.merlin_base.specs.Addresses.{mac_text}
use Rattle.merlin_base.proofs.Cutting.{free}
use Rattle.config_text.specs.Lines.{name_at, functions_text}
use Rattle.config_lines.proofs.Then.{no_byte}
use Rattle.config_lines.proofs.ProcessParts.{parts, start, after_loc, after_tag, after_eth_dst, after_functions, after_next_tag, after_port, from_loc, from_tag, from_eth_dst, from_functions, from_next_tag, from_port, from_queue}
use Rattle.config_lines.proofs.processes.read_frame.Goals as goal

pub returns-in_err-rest-clause-none : goal.returns-in_err-rest-clause-none
returns-in_err-rest-clause-none c = rw c.from_residual.ensures (λ p more is e. c.in_err-rest.ensures.none (from_loc c.args.net.now p more) (e ∙ parts c.args.net.now p more))

pub returns-in_err-loc-clause-none : goal.returns-in_err-loc-clause-none
returns-in_err-loc-clause-none c = rw c.from_residual-in_err-loc.ensures (λ p more is e. c.in_err-loc.ensures.none p.loc (from_tag c.args.net.now p more) is.loc (start c.args.net.now c.args.text.now c.in_ok-rest.rest.now p more c.in_ok-rest.ensures.some e))

pub returns-in_err-tag-clause-none : goal.returns-in_err-tag-clause-none
returns-in_err-tag-clause-none c = rw c.from_residual-in_err-tag.ensures (λ p more is e. c.in_err-tag.ensures.none p.tag (from_eth_dst c.args.net.now p more) is.tag (after_loc c.args.net.now c.in_ok-rest.rest.now c.in_ok-loc.rest.now c.in_ok-loc.loc p more c.in_ok-loc.ensures.some.0 c.in_ok-loc.ensures.some.1 is (start c.args.net.now c.args.text.now c.in_ok-rest.rest.now p more c.in_ok-rest.ensures.some e)))

pub returns-in_err-eth_dst-clause-none : goal.returns-in_err-eth_dst-clause-none
returns-in_err-eth_dst-clause-none c = rw c.from_residual-in_err-eth_dst.ensures (λ p more is e. c.in_err-eth_dst.ensures.none p.eth_dst (from_functions c.args.net.now p more) is.eth_dst (after_tag c.args.net.now c.in_ok-loc.rest.now c.in_ok-tag.rest.now c.in_ok-tag.tag p more c.in_ok-tag.ensures.some.0 c.in_ok-tag.ensures.some.1 is (after_loc c.args.net.now c.in_ok-rest.rest.now c.in_ok-loc.rest.now c.in_ok-loc.loc p more c.in_ok-loc.ensures.some.0 c.in_ok-loc.ensures.some.1 is (start c.args.net.now c.args.text.now c.in_ok-rest.rest.now p more c.in_ok-rest.ensures.some e))))

pub returns-in_err-names-clause-none : goal.returns-in_err-names-clause-none
returns-in_err-names-clause-none c = rw c.from_residual-in_err-names.ensures (λ p more is e. no_byte 32 c.in_ok-eth_dst.rest.now (functions_text c.args.net.now.functions p.functions) (from_next_tag c.args.net.now p more) c.in_err-names.ensures.none (after_eth_dst c.args.net.now c.in_ok-tag.rest.now c.in_ok-eth_dst.rest.now c.in_ok-eth_dst.eth_dst p more c.in_ok-eth_dst.ensures.some.0 c.in_ok-eth_dst.ensures.some.1 is (after_tag c.args.net.now c.in_ok-loc.rest.now c.in_ok-tag.rest.now c.in_ok-tag.tag p more c.in_ok-tag.ensures.some.0 c.in_ok-tag.ensures.some.1 is (after_loc c.args.net.now c.in_ok-rest.rest.now c.in_ok-loc.rest.now c.in_ok-loc.loc p more c.in_ok-loc.ensures.some.0 c.in_ok-loc.ensures.some.1 is (start c.args.net.now c.args.text.now c.in_ok-rest.rest.now p more c.in_ok-rest.ensures.some e)))))

pub returns-in_err-next_tag-clause-none : goal.returns-in_err-next_tag-clause-none
returns-in_err-next_tag-clause-none c = rw c.from_residual-in_err-next_tag.ensures (λ p more is e. c.in_err-next_tag.ensures.none p.next_tag (from_port c.args.net.now p more) is.next_tag (after_functions c.args.net.now c.in_ok-eth_dst.rest.now c.in_ok-names.rest.now c.in_ok-names.names.now p more c.in_ok-names.ensures.some.0 (free 32 c.in_ok-names.names.now c.in_ok-names.ensures.some.1) is (after_eth_dst c.args.net.now c.in_ok-tag.rest.now c.in_ok-eth_dst.rest.now c.in_ok-eth_dst.eth_dst p more c.in_ok-eth_dst.ensures.some.0 c.in_ok-eth_dst.ensures.some.1 is (after_tag c.args.net.now c.in_ok-loc.rest.now c.in_ok-tag.rest.now c.in_ok-tag.tag p more c.in_ok-tag.ensures.some.0 c.in_ok-tag.ensures.some.1 is (after_loc c.args.net.now c.in_ok-rest.rest.now c.in_ok-loc.rest.now c.in_ok-loc.loc p more c.in_ok-loc.ensures.some.0 c.in_ok-loc.ensures.some.1 is (start c.args.net.now c.args.text.now c.in_ok-rest.rest.now p more c.in_ok-rest.ensures.some e))))))

pub returns-in_err-port-clause-none : goal.returns-in_err-port-clause-none
returns-in_err-port-clause-none c = rw c.from_residual-in_err-port.ensures (λ p more is e. c.in_err-port.ensures.none p.port (from_queue c.args.net.now p more) is.port (after_next_tag c.args.net.now c.in_ok-names.rest.now c.in_ok-next_tag.rest.now c.in_ok-next_tag.next_tag p more c.in_ok-next_tag.ensures.some.0 c.in_ok-next_tag.ensures.some.1 is (after_functions c.args.net.now c.in_ok-eth_dst.rest.now c.in_ok-names.rest.now c.in_ok-names.names.now p more c.in_ok-names.ensures.some.0 (free 32 c.in_ok-names.names.now c.in_ok-names.ensures.some.1) is (after_eth_dst c.args.net.now c.in_ok-tag.rest.now c.in_ok-eth_dst.rest.now c.in_ok-eth_dst.eth_dst p more c.in_ok-eth_dst.ensures.some.0 c.in_ok-eth_dst.ensures.some.1 is (after_tag c.args.net.now c.in_ok-loc.rest.now c.in_ok-tag.rest.now c.in_ok-tag.tag p more c.in_ok-tag.ensures.some.0 c.in_ok-tag.ensures.some.1 is (after_loc c.args.net.now c.in_ok-rest.rest.now c.in_ok-loc.rest.now c.in_ok-loc.loc p more c.in_ok-loc.ensures.some.0 c.in_ok-loc.ensures.some.1 is (start c.args.net.now c.args.text.now c.in_ok-rest.rest.now p more c.in_ok-rest.ensures.some e)))))))

pub returns-in_err-queue-clause-none : goal.returns-in_err-queue-clause-none
returns-in_err-queue-clause-none c = rw c.from_residual-in_err-queue.ensures (λ p more is e. c.in_err-queue.ensures.none p.queue more is.queue (after_port c.args.net.now c.in_ok-next_tag.rest.now c.in_ok-port.rest.now c.in_ok-port.port p more c.in_ok-port.ensures.some.0 c.in_ok-port.ensures.some.1 is (after_next_tag c.args.net.now c.in_ok-names.rest.now c.in_ok-next_tag.rest.now c.in_ok-next_tag.next_tag p more c.in_ok-next_tag.ensures.some.0 c.in_ok-next_tag.ensures.some.1 is (after_functions c.args.net.now c.in_ok-eth_dst.rest.now c.in_ok-names.rest.now c.in_ok-names.names.now p more c.in_ok-names.ensures.some.0 (free 32 c.in_ok-names.names.now c.in_ok-names.ensures.some.1) is (after_eth_dst c.args.net.now c.in_ok-tag.rest.now c.in_ok-eth_dst.rest.now c.in_ok-eth_dst.eth_dst p more c.in_ok-eth_dst.ensures.some.0 c.in_ok-eth_dst.ensures.some.1 is (after_tag c.args.net.now c.in_ok-loc.rest.now c.in_ok-tag.rest.now c.in_ok-tag.tag p more c.in_ok-tag.ensures.some.0 c.in_ok-tag.ensures.some.1 is (after_loc c.args.net.now c.in_ok-rest.rest.now c.in_ok-loc.rest.now c.in_ok-loc.loc p more c.in_ok-loc.ensures.some.0 c.in_ok-loc.ensures.some.1 is (start c.args.net.now c.args.text.now c.in_ok-rest.rest.now p more c.in_ok-rest.ensures.some e))))))))

pub returns-clause-some : goal.returns-clause-some
returns-clause-some c = (
  c.in_ok-rest.ensures.some ∙ ap (λ z. codes "process " ++ z) (c.in_ok-loc.ensures.some.0 ∙ ap (λ z. name_at c.args.net.now c.in_ok-loc.loc ++ 32 ∷ z) (c.in_ok-tag.ensures.some.0 ∙ ap (λ z. decimal c.in_ok-tag.tag ++ 32 ∷ z) (c.in_ok-eth_dst.ensures.some.0 ∙ ap (λ z. mac_text c.in_ok-eth_dst.eth_dst ++ 32 ∷ z) (c.in_ok-names.ensures.some.0 ∙ ap (λ z. c.in_ok-names.names.now ++ 32 ∷ z) (c.in_ok-next_tag.ensures.some.0 ∙ ap (λ z. decimal c.in_ok-next_tag.next_tag ++ 32 ∷ z) (c.in_ok-port.ensures.some.0 ∙ ap (λ z. decimal c.in_ok-port.port ++ 32 ∷ z) (c.in_ok-queue.ensures.some.0))))))),
  record { loc = c.in_ok-loc.ensures.some.1; tag = c.in_ok-tag.ensures.some.1; eth_dst = c.in_ok-eth_dst.ensures.some.1; names = c.in_ok-names.ensures.some.1; next_tag = c.in_ok-next_tag.ensures.some.1; port = c.in_ok-port.ensures.some.1; queue = c.in_ok-queue.ensures.some.1 },
)
