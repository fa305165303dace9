-- The line of a middlebox whose functions are still a word.
use Rattle.std.specs.Prelude.{ℕ, ◌++◌, ◌∷◌, List, codes}
use Rattle.std.specs.Fmt.{decimal}
use Rattle.merlin_model.specs.declared.config.Process.{Process}
use Rattle.merlin_model.specs.Networks.{Network}
use Rattle.merlin_base.specs.Lexemes.{Lacks}
use Rattle.merlin_base.specs.Addresses.{mac_text}
use Rattle.config_text.specs.Lines.{name_at}
use Rattle.config_lines.specs.declared.processes.Frame.{Frame}
use Rattle.config_lines.specs.Words.{IsLimited, IsPortNumber, IsTag, IsLocation}
use Rattle.config_lines.specs.Parts.{IsMacNumber}
use Rattle.config_lines.specs.declared.limits.TheConstants.{MAX_QUEUE}

-- the line, and what stands behind it
abbrev pub frame_text : Network → Frame → List ℕ → List ℕ
frame_text net f more =
    codes "process " ++ (name_at net f.loc ++ 32 ∷ (decimal f.tag ++ 32 ∷ (mac_text f.eth_dst ++ 32
    ∷ (f.names.now ++ 32 ∷ (decimal f.next_tag ++ 32 ∷ (decimal f.port ++ 32 ∷ (decimal f.queue ++ 10 ∷ more)))))))

pub record IsFrame (net : Network) (f : Frame) : Type 0 where
  pub loc : IsLocation net f.loc
  pub tag : IsTag f.tag
  pub eth_dst : IsMacNumber f.eth_dst
  pub names : Lacks 32 f.names.now
  pub next_tag : IsTag f.next_tag
  pub port : IsPortNumber f.port
  pub queue : IsLimited 0 MAX_QUEUE f.queue

-- the line with functions in place of the word
abbrev pub process_of_frame : Frame → List ℕ → Process
process_of_frame f functions = record {
  loc = f.loc;
  tag = f.tag;
  eth_dst = f.eth_dst;
  functions = functions;
  next_tag = f.next_tag;
  port = f.port;
  queue = f.queue;
}
