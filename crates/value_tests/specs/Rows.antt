-- A small result in all its parts, and its text.
use Rattle.std.specs.Prelude.{ℕ, List, [], ◌∷◌, map, Some, pos, negsuc, codes}
use Rattle.merlin_model.specs.declared.network.LocationKind.TheVariants.{Host, Switch, Middlebox}
use Rattle.merlin_model.specs.declared.network.FnDecl.{FnDecl}
use Rattle.merlin_model.specs.declared.policy.Objective.TheVariants as objective
use Rattle.merlin_model.specs.declared.policy.Value.TheVariants as value
use Rattle.merlin_model.specs.declared.config.Config.{Config}
use Rattle.merlin_model.specs.declared.config.HostLine.TheVariants as host_line
use Rattle.merlin_model.specs.declared.certificate.Tree.{Tree, Leaf, Split}
use Rattle.merlin_model.specs.Networks.{Network}
use Rattle.merlin_model.specs.Words.{at}
use Rattle.config_text.specs.Words.{line}
use Rattle.config_text.specs.Result.{result_lines}
use Rattle.value_tests.specs.Networks.{location, any}

abbrev pub function : List ℕ → FnDecl
function name = record { name = name; places = 2 ∷ []; set = [] }

-- two hosts, a middlebox with two functions, and a switch
abbrev pub net : Network
net = record {
  locations = location (codes "h1") (Host (record { eth = 1; ip = 1 })) ∷ location (codes "h2") (Host (record { eth = 2; ip = 2 }))
      ∷ location (codes "m1") Middlebox ∷ location (codes "s1") Switch ∷ [];
  links = [];
  functions = function (codes "dpi") ∷ function (codes "nat") ∷ [];
}

abbrev pub config : Config
config = record {
  rules = record { loc = 3; priority = 0; fits = any; actions = [] } ∷ [];
  processes = record { loc = 2; tag = 3; eth_dst = 2; functions = 0 ∷ 1 ∷ []; next_tag = 4; port = 1; queue = 0 } ∷ [];
  queues = record { loc = 0; port = 1; queue = 1; rate = 60 } ∷ [];
  hosts = host_line.Root 0 ∷ [];
}

abbrev pub tree : Tree
tree = Split 1 (Leaf (record { row = 0; weight = negsuc 0 } ∷ [])) (Leaf (record { row = 4; weight = pos 1 } ∷ record { row = 5; weight = pos 12 } ∷ []))

-- the lines of the result
abbrev pub lines : List (List ℕ)
lines = result_lines net objective.Ratio (value.Ratio 60 100) ((codes "x", at 0 ∷ record { loc = 2; fun = Some 0 } ∷ at 1 ∷ []) ∷ []) (record { loc = 0; port = 1; load = 60; capacity = 100 } ∷ []) config tree

abbrev pub wanted : List (List ℕ)
wanted = map line (
    codes "merlin 2 ok"
    ∷ codes "objective ratio 60/100"
    ∷ codes "walk x h1 m1:dpi h2"
    ∷ codes "load h1 1 60/100"
    ∷ codes "rule s1 0 any drop"
    ∷ codes "process m1 3 00:00:00:00:00:02 dpi,nat 4 1 0"
    ∷ codes "queue h1 1 1 60kbit"
    ∷ codes "host h1 tc qdisc add dev eth0 root handle 1: htb"
    ∷ codes "tree"
    ∷ codes "split 1"
    ∷ codes "leaf 0:-1"
    ∷ codes "leaf 4:1 5:12"
    ∷ codes "end" ∷ [])
