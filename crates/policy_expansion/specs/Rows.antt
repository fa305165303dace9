-- Worked examples of policies as they are written.
use Rattle.std.specs.Prelude.{ℕ, List, [], ◌∷◌, None, Some, Result, Ok, Err, codes}
use Rattle.merlin_model.specs.declared.policy.Bound.TheVariants.{Max, Min}
use Rattle.merlin_model.specs.declared.policy.Field.TheVariants.{IpSrc, IpDst}
use Rattle.merlin_model.specs.declared.policy.Test.TheVariants.{Is}
use Rattle.merlin_model.specs.declared.policy.Part.TheVariants.{Id, Constant}
use Rattle.merlin_model.specs.declared.policy.Pred.{Yes, Test as Tests, All}
use Rattle.policy_grammar.specs.declared.written.RawPath.{RawPath, Dot, Star}
use Rattle.policy_grammar.specs.declared.written.Literal.TheVariants.{Mac, Ip}
use Rattle.policy_grammar.specs.declared.written.WrittenStatement.{WrittenStatement}
use Rattle.policy_grammar.specs.declared.written.Item.TheVariants.{One, ForEach}
use Rattle.policy_grammar.specs.declared.written.WrittenPolicy.{WrittenPolicy}
use Rattle.policy_expansion.specs.declared.policy.Statement.{Statement}
use Rattle.policy_expansion.specs.declared.policy.Policy.{Policy}
use Rattle.policy_expansion.specs.declared.policy.ExpansionFault.{ExpansionFault}
use Rattle.policy_expansion.specs.declared.policy.ExpansionFault.TheVariants.{DuplicateSet, MixedSet, UnknownSet, DuplicateId}

-- `.*`
abbrev pub anywhere : RawPath
anywhere = Star Dot

-- `id : true -> .*`
abbrev pub each_packet : List ℕ → WrittenStatement
each_packet id = record { id = id; pred = Yes; path = anywhere; limits = [] }

abbrev pub answer : Policy → Result Policy ExpansionFault
answer policy = Ok policy

abbrev pub refusal : ExpansionFault → Result Policy ExpansionFault
refusal fault = Err fault

-- `A := {10.0.0.1, 10.0.0.2, 10.0.0.1} [ foreach (s, d) in cross(A, A) : w : true -> .* ; default -> .* ]`
abbrev pub two_hosts : WrittenPolicy
two_hosts = record {
  sets = record { name = codes "A"; literals = Ip 167772161 ∷ Ip 167772162 ∷ Ip 167772161 ∷ [] } ∷ [];
  items = ForEach (codes "A") (codes "A") (each_packet (codes "w")) ∷ [];
  default_path = Some anywhere;
  terms = [];
}

abbrev pub from_to : List ℕ → ℕ → ℕ → Statement
from_to id a b = record { id = id; pred = All (Tests (Is IpSrc a) ∷ Tests (Is IpDst b) ∷ Yes ∷ []); path = anywhere }

abbrev pub two_statements : Result Policy ExpansionFault
two_statements = answer (record {
  statements = from_to (codes "w_1") 167772161 167772162 ∷ from_to (codes "w_2") 167772162 167772161 ∷ [];
  default_path = Some anywhere;
  formula = record { terms = [] };
})

-- `A := {10.0.0.1} A := {} [ ]`
abbrev pub set_twice : WrittenPolicy
set_twice = record {
  sets = record { name = codes "A"; literals = Ip 167772161 ∷ [] } ∷ record { name = codes "A"; literals = [] } ∷ [];
  items = [];
  default_path = None;
  terms = [];
}

abbrev pub refused_set_twice : Result Policy ExpansionFault
refused_set_twice = refusal (DuplicateSet (codes "A"))

-- `A := {10.0.0.1, 00:00:00:00:00:01} [ ]`
abbrev pub mixed : WrittenPolicy
mixed = record {
  sets = record { name = codes "A"; literals = Ip 167772161 ∷ Mac 1 ∷ [] } ∷ [];
  items = [];
  default_path = None;
  terms = [];
}

abbrev pub refused_mixed : Result Policy ExpansionFault
refused_mixed = refusal (MixedSet (codes "A"))

-- `[ foreach (s, d) in cross(A, A) : w : true -> .* ]`
abbrev pub unknown : WrittenPolicy
unknown = record {
  sets = [];
  items = ForEach (codes "A") (codes "A") (each_packet (codes "w")) ∷ [];
  default_path = None;
  terms = [];
}

abbrev pub refused_unknown : Result Policy ExpansionFault
refused_unknown = refusal (UnknownSet (codes "A"))

-- `[ x : true -> .* ; x : true -> .* ]`
abbrev pub id_twice : WrittenPolicy
id_twice = record {
  sets = [];
  items = One (each_packet (codes "x")) ∷ One (each_packet (codes "x")) ∷ [];
  default_path = None;
  terms = [];
}

abbrev pub refused_id_twice : Result Policy ExpansionFault
refused_id_twice = refusal (DuplicateId (codes "x"))

-- `[ x : true -> .* at max(5kbps) and min(2kbps) ], max(x + 1kbps, 9kbps)`
abbrev pub limited : WrittenPolicy
limited = record {
  sets = [];
  items = One (record (each_packet (codes "x")) { limits = record { bound = Max; rate = 5 } ∷ record { bound = Min; rate = 2 } ∷ [] }) ∷ [];
  default_path = None;
  terms = record { bound = Max; parts = Id (codes "x") ∷ Constant 1 ∷ []; rate = 9 } ∷ [];
}

abbrev pub limits_first : Result Policy ExpansionFault
limits_first = answer (record {
  statements = record { id = codes "x"; pred = Yes; path = anywhere } ∷ [];
  default_path = None;
  formula = record {
    terms = record { bound = Max; parts = Id (codes "x") ∷ []; rate = 5 }
        ∷ record { bound = Min; parts = Id (codes "x") ∷ []; rate = 2 }
        ∷ record { bound = Max; parts = Id (codes "x") ∷ Constant 1 ∷ []; rate = 9 }
        ∷ [];
  };
})
