-- Which lexemes are a predicate, and which predicate that is.
use Rattle.std.specs.Prelude.{if◌then◌else◌, ℕ, ◌≡◌, ◌+◌, ◌-◌, ◌*◌, ◌^◌, ◌≤◌, max, codes, ◌&&◌, List, [], ◌∷◌, ◌++◌, Option, Some, None, nat_le, nat_lt}
use Rattle.merlin_model.specs.declared.policy.Field.{Field}
use Rattle.merlin_model.specs.declared.policy.Field.TheVariants.{EthSrc, EthDst, IpSrc, IpDst, Proto, Sport, Dport}
use Rattle.merlin_model.specs.declared.policy.Test.{Test}
use Rattle.merlin_model.specs.declared.policy.Test.TheVariants.{Is, Port, Within}
use Rattle.merlin_model.specs.declared.policy.Pred.{Pred, Yes, No, Test as Tests, All, AnyOf, Not}
use Rattle.merlin_model.specs.Predicates.{first_bits}
use Rattle.merlin_text.specs.declared.token.Word.TheVariants as words
use Rattle.merlin_text.specs.declared.token.Sign.TheVariants as signs
use Rattle.policy_grammar.specs.declared.limits.TheConstants.{MAX_NESTING, MAX_TESTS}
use Rattle.policy_grammar.specs.declared.written.Tested.{Tested}
use Rattle.policy_grammar.specs.declared.written.Tested.TheVariants as tested
use Rattle.policy_grammar.specs.Lexemes.{Lexeme, name, word, sign, number, mac, ip, prefix}

-- the two names of a field
abbrev pub first_name : Tested → List ℕ
first_name tested.EthSrc = codes "eth"
first_name tested.EthDst = codes "eth"
first_name tested.IpSrc = codes "ip"
first_name tested.IpDst = codes "ip"
first_name tested.IpProto = codes "ip"
first_name tested.TcpSrc = codes "tcp"
first_name tested.TcpDst = codes "tcp"
first_name tested.UdpSrc = codes "udp"
first_name tested.UdpDst = codes "udp"

abbrev pub second_name : Tested → List ℕ
second_name tested.EthSrc = codes "src"
second_name tested.EthDst = codes "dst"
second_name tested.IpSrc = codes "src"
second_name tested.IpDst = codes "dst"
second_name tested.IpProto = codes "proto"
second_name tested.TcpSrc = codes "src"
second_name tested.TcpDst = codes "dst"
second_name tested.UdpSrc = codes "src"
second_name tested.UdpDst = codes "dst"

-- The test of a block of addresses: its bits past the length are taken as 0, and a block of one address is that address.
abbrev pub block_test : Field → ℕ → ℕ → Test
block_test field value bits = if nat_lt bits 32 then Within field (first_bits bits value * 2 ^ (32 - bits)) bits else Is field value

-- the test of a field with a value, where the field takes that lexeme
abbrev pub test_of : Tested → Lexeme → Option Test
test_of tested.EthSrc (mac n) = Some (Is EthSrc n)
test_of tested.EthDst (mac n) = Some (Is EthDst n)
test_of tested.IpSrc (ip n) = Some (Is IpSrc n)
test_of tested.IpDst (ip n) = Some (Is IpDst n)
test_of tested.IpSrc (prefix value bits) = Some (block_test IpSrc value bits)
test_of tested.IpDst (prefix value bits) = Some (block_test IpDst value bits)
test_of tested.IpProto (number n) = if nat_le 1 n && nat_le n 255 then Some (Is Proto n) else None
test_of tested.TcpSrc (number n) = if nat_le n 65535 then Some (Port 6 Sport n) else None
test_of tested.TcpDst (number n) = if nat_le n 65535 then Some (Port 6 Dport n) else None
test_of tested.UdpSrc (number n) = if nat_le n 65535 then Some (Port 17 Sport n) else None
test_of tested.UdpDst (number n) = if nat_le n 65535 then Some (Port 17 Dport n) else None
test_of _ _ = None

mutual
  -- lit := '!' lit | '(' pred ')' | 'true' | 'false' | test
  pub data Lit : Type 0 where
    bang : Lit → Lit
    group : Disj → Lit
    yes : Lit
    no : Lit
    -- test := Name '.' Name '=' value, with the places of the two names
    test : (field : Tested) (first second : ℕ) (value : Lexeme) (p : Test) → test_of field value ≡ Some p → Lit

  -- conj := lit ( 'and' lit )*
  pub data Conj : Type 0 where
    lit : Lit → Conj
    and : Lit → Conj → Conj

  -- pred := conj ( 'or' conj )*
  pub data Disj : Type 0 where
    conj : Conj → Disj
    or : Conj → Disj → Disj

-- how it is written
abbrev mutual
  pub spell_lit : Lit → List Lexeme
  spell_lit (bang l) = sign signs.Bang ∷ spell_lit l
  spell_lit (group d) = sign signs.OpenGroup ∷ spell_pred d ++ sign signs.CloseGroup ∷ []
  spell_lit yes = word words.True ∷ []
  spell_lit no = word words.False ∷ []
  spell_lit (test field first second value _ _) = name (first_name field) first ∷ sign signs.Dot ∷ name (second_name field) second ∷ sign signs.Equals ∷ value ∷ []

  pub spell_conj : Conj → List Lexeme
  spell_conj (lit l) = spell_lit l
  spell_conj (and l c) = spell_lit l ++ word words.And ∷ spell_conj c

  pub spell_pred : Disj → List Lexeme
  spell_pred (conj c) = spell_conj c
  spell_pred (or c d) = spell_conj c ++ word words.Or ∷ spell_pred d

-- one predicate is itself, several are an All or an AnyOf
abbrev pub all_of : List Pred → Pred
all_of [] = All []
all_of (p ∷ []) = p
all_of (p ∷ q ∷ ps) = All (p ∷ q ∷ ps)

abbrev pub any_of : List Pred → Pred
any_of [] = AnyOf []
any_of (p ∷ []) = p
any_of (p ∷ q ∷ ps) = AnyOf (p ∷ q ∷ ps)

-- what it stands for
abbrev mutual
  pub lit_value : Lit → Pred
  lit_value (bang l) = Not (lit_value l)
  lit_value (group d) = any_of (conj_values d)
  lit_value yes = Yes
  lit_value no = No
  lit_value (test _ _ _ _ p _) = Tests p

  pub lit_values : Conj → List Pred
  lit_values (lit l) = lit_value l ∷ []
  lit_values (and l c) = lit_value l ∷ lit_values c

  pub conj_values : Disj → List Pred
  conj_values (conj c) = all_of (lit_values c) ∷ []
  conj_values (or c d) = all_of (lit_values c) ∷ conj_values d

abbrev pub pred_value : Disj → Pred
pred_value d = any_of (conj_values d)

-- how many brackets and bangs are open at once
abbrev mutual
  pub lit_depth : Lit → ℕ
  lit_depth (bang l) = 1 + lit_depth l
  lit_depth (group d) = 1 + pred_depth d
  lit_depth yes = 0
  lit_depth no = 0
  lit_depth (test _ _ _ _ _ _) = 0

  pub conj_depth : Conj → ℕ
  conj_depth (lit l) = lit_depth l
  conj_depth (and l c) = max (lit_depth l) (conj_depth c)

  pub pred_depth : Disj → ℕ
  pred_depth (conj c) = conj_depth c
  pred_depth (or c d) = max (conj_depth c) (pred_depth d)

-- how many tests there are
abbrev mutual
  pub lit_tests : Lit → ℕ
  lit_tests (bang l) = lit_tests l
  lit_tests (group d) = pred_tests d
  lit_tests yes = 0
  lit_tests no = 0
  lit_tests (test _ _ _ _ _ _) = 1

  pub conj_tests : Conj → ℕ
  conj_tests (lit l) = lit_tests l
  conj_tests (and l c) = lit_tests l + conj_tests c

  pub pred_tests : Disj → ℕ
  pred_tests (conj c) = conj_tests c
  pred_tests (or c d) = conj_tests c + pred_tests d

pub record IsPredWithin (d : Disj) : Type 0 where
  pub depth : pred_depth d ≤ MAX_NESTING
  pub tests : pred_tests d ≤ MAX_TESTS
