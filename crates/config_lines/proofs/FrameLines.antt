-- The line of a middlebox, once its functions are read.
use Rattle.std.proofs.Common.{◌≡◌, ℕ, List, ◌∷◌, ◌++◌, refl, sym, ◌∙◌, ap, arith}
use Rattle.std.specs.Prelude.{codes}
use Rattle.std.specs.List.{AllByRecursion}
use Rattle.std.specs.Fmt.{decimal}
use Rattle.merlin_model.specs.declared.config.Process.{Process}
use Rattle.merlin_model.specs.Networks.{Network}
use Rattle.merlin_base.specs.Addresses.{mac_text}
use Rattle.merlin_base.proofs.Cutting.{free, cut_once}
use Rattle.config_text.specs.Lines.{name_at, functions_text}
use Rattle.config_lines.specs.declared.processes.Frame.{Frame}
use Rattle.config_lines.specs.Words.{IsLineFunction}
use Rattle.config_lines.specs.Lines.{process_line, IsProcessLine}
use Rattle.config_lines.specs.Frames.{frame_text, IsFrame, process_of_frame}
use Rattle.config_lines.proofs.FunctionTexts.{functions_free}
use Rattle.config_lines.proofs.ProcessParts.{parts, start, after_loc, after_tag, after_eth_dst}

pub line_is : (net : Network) (f : Frame) (fs text rest : List ℕ) → text ≡ frame_text net f rest → f.names.now ≡ functions_text net.functions fs → text ≡ process_line net (process_of_frame f fs) ++ rest
line_is net f fs text rest e names =
    e ∙ ap (λ t. codes "process " ++ (name_at net f.loc ++ 32 ∷ (decimal f.tag ++ 32 ∷ (mac_text f.eth_dst ++ 32 ∷ (t ++ 32 ∷ (decimal f.next_tag ++ 32 ∷ (decimal f.port ++ 32 ∷ (decimal f.queue ++ 10 ∷ rest)))))))) names ∙ sym (parts net (process_of_frame f fs) rest)

pub is_line : (net : Network) (f : Frame) (fs : List ℕ) → IsFrame net f → AllByRecursion (IsLineFunction net) fs → IsProcessLine net (process_of_frame f fs)
is_line net f fs is all = record {
  loc = is.loc;
  tag = is.tag;
  eth_dst = is.eth_dst;
  functions = all;
  next_tag = is.next_tag;
  port = is.port;
  queue = is.queue;
}

pub no_functions : (net : Network) (f : Frame) (text rest : List ℕ) → text ≡ frame_text net f rest → IsFrame net f → ((fs : List ℕ) → AllByRecursion (IsLineFunction net) fs → f.names.now ≡ functions_text net.functions fs → ⊥) →
    (p : Process) (more : List ℕ) → IsProcessLine net p → text ≡ process_line net p ++ more → ⊥
no_functions net f text rest e is none p more lawful h =
    let a = start net text _ p more e h in
    let b = after_loc net _ _ f.loc p more refl is.loc lawful a in
    let c = after_tag net _ _ f.tag p more refl is.tag lawful b in
    let d = after_eth_dst net _ _ f.eth_dst p more refl is.eth_dst lawful c in
    none p.functions lawful.functions (cut_once 32 f.names.now (functions_text net.functions p.functions) _ _ (free 32 f.names.now is.names) (functions_free 32 net p.functions (omega arith) lawful.functions) d).front
