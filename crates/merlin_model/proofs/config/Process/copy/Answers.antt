use Rattle.std.proofs.Common.{◌∙◌, ap}
use Rattle.merlin_model.proofs.config.Process.copy.Goals as goal

pub returns : goal.returns
returns c =
    ap
    (λ functions. record {
      loc = c.args.self.now.loc;
      tag = c.args.self.now.tag;
      eth_dst = c.args.self.now.eth_dst;
      functions = functions;
      next_tag = c.args.self.now.next_tag;
      port = c.args.self.now.port;
      queue = c.args.self.now.queue;
    })
    (c.in_ok-from_slice.ensures ∙ c.as_slice.ensures)
