-- Which lexemes are a path expression, and which one that is.
use Rattle.std.specs.Prelude.{ℕ, ◌+◌, ◌≤◌, zero, suc, max, List, [], ◌∷◌, ◌++◌}
use Rattle.merlin_text.specs.declared.token.Sign.TheVariants as signs
use Rattle.policy_grammar.specs.declared.limits.TheConstants.{MAX_NESTING, MAX_PATH_NAMES}
use Rattle.policy_grammar.specs.declared.written.RawPath.{RawPath, Dot, Named, Cat, Alt, Star, Not}
use Rattle.policy_grammar.specs.Lexemes.{Lexeme, name, sign}

mutual
  -- rep := '!' rep | prim '*'*; prim := '.' | Name | '(' path ')': each prim with its number of stars
  pub data Rep : Type 0 where
    bang : Rep → Rep
    dot : ℕ → Rep
    named : (text : List ℕ) (place : ℕ) → ℕ → Rep
    group : Alts → ℕ → Rep

  -- seq := rep rep*
  pub data Seq : Type 0 where
    rep : Rep → Seq
    then : Rep → Seq → Seq

  -- path := seq ( '|' seq )*
  pub data Alts : Type 0 where
    seq : Seq → Alts
    or : Seq → Alts → Alts

abbrev pub stars : ℕ → List Lexeme
stars zero = []
stars (suc n) = sign signs.Star ∷ stars n

-- how it is written
abbrev mutual
  pub spell_rep : Rep → List Lexeme
  spell_rep (bang r) = sign signs.Bang ∷ spell_rep r
  spell_rep (dot n) = sign signs.Dot ∷ stars n
  spell_rep (named text place n) = name text place ∷ stars n
  spell_rep (group a n) = sign signs.OpenGroup ∷ spell_path a ++ sign signs.CloseGroup ∷ stars n

  pub spell_seq : Seq → List Lexeme
  spell_seq (rep r) = spell_rep r
  spell_seq (then r s) = spell_rep r ++ spell_seq s

  pub spell_path : Alts → List Lexeme
  spell_path (seq s) = spell_seq s
  spell_path (or s a) = spell_seq s ++ sign signs.Bar ∷ spell_path a

-- one path is itself, several are a Cat or an Alt; one or more stars are one Star
abbrev pub one_or_cat : List RawPath → RawPath
one_or_cat [] = Cat []
one_or_cat (p ∷ []) = p
one_or_cat (p ∷ q ∷ ps) = Cat (p ∷ q ∷ ps)

abbrev pub one_or_alt : List RawPath → RawPath
one_or_alt [] = Alt []
one_or_alt (p ∷ []) = p
one_or_alt (p ∷ q ∷ ps) = Alt (p ∷ q ∷ ps)

abbrev pub starred : ℕ → RawPath → RawPath
starred zero p = p
starred (suc n) p = Star p

-- what it stands for
abbrev mutual
  pub rep_value : Rep → RawPath
  rep_value (bang r) = Not (rep_value r)
  rep_value (dot n) = starred n Dot
  rep_value (named text place n) = starred n (Named text place)
  rep_value (group a n) = starred n (one_or_alt (seq_values a))

  pub rep_values : Seq → List RawPath
  rep_values (rep r) = rep_value r ∷ []
  rep_values (then r s) = rep_value r ∷ rep_values s

  pub seq_values : Alts → List RawPath
  seq_values (seq s) = one_or_cat (rep_values s) ∷ []
  seq_values (or s a) = one_or_cat (rep_values s) ∷ seq_values a

abbrev pub path_value : Alts → RawPath
path_value a = one_or_alt (seq_values a)

-- how many brackets and bangs are open at once
abbrev mutual
  pub rep_depth : Rep → ℕ
  rep_depth (bang r) = 1 + rep_depth r
  rep_depth (dot _) = 0
  rep_depth (named _ _ _) = 0
  rep_depth (group a _) = 1 + path_depth a

  pub seq_depth : Seq → ℕ
  seq_depth (rep r) = rep_depth r
  seq_depth (then r s) = max (rep_depth r) (seq_depth s)

  pub path_depth : Alts → ℕ
  path_depth (seq s) = seq_depth s
  path_depth (or s a) = max (seq_depth s) (path_depth a)

-- how many names and dots there are
abbrev mutual
  pub rep_names : Rep → ℕ
  rep_names (bang r) = rep_names r
  rep_names (dot _) = 1
  rep_names (named _ _ _) = 1
  rep_names (group a _) = path_names a

  pub seq_names : Seq → ℕ
  seq_names (rep r) = rep_names r
  seq_names (then r s) = rep_names r + seq_names s

  pub path_names : Alts → ℕ
  path_names (seq s) = seq_names s
  path_names (or s a) = seq_names s + path_names a

pub record IsPathWithin (a : Alts) : Type 0 where
  pub depth : path_depth a ≤ MAX_NESTING
  pub names : path_names a ≤ MAX_PATH_NAMES
