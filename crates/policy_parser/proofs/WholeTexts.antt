-- A run over a policy or a predicate is, for policies, the machine's run.
use Rattle.std.proofs.Common.{ℕ, ◌≡◌, List, [], ◌∷◌, ◌∙◌, ap, sym, refl, length, suc, Option, Some, None, Result, Ok, Err, ok_or}
use Rattle.policy_grammar.specs.declared.written.WrittenPolicy.{WrittenPolicy}
use Rattle.policy_grammar.specs.Lexemes.{Lexeme}
use Rattle.policy_grammar.specs.Machine.{Awaited, lits, conjs, whole_pred, formula, terms_rest, State, feed, finish_all, next_step, run, first_state}
use Rattle.policy_parser.specs.Readers.{WholeText, whole_policy, whole_predicate, finish_text, next_text, run_text}

-- the policy, if it is one; a predicate alone is a policy that is cut short
abbrev pub policy_alone : Result WholeText ℕ → Result WrittenPolicy ℕ
policy_alone (Ok (whole_policy w)) = Ok w
policy_alone (Ok (whole_predicate p)) = Err 0
policy_alone (Err n) = Err n

at_end : (a : List Awaited) → (let r : Result WrittenPolicy ℕ = ok_or (finish_all a) 0 in r) ≡ policy_alone (ok_or (finish_text a) 0)
at_end [] = refl
at_end (formula w ∷ []) = refl
at_end (formula w ∷ _ ∷ _) = refl
at_end (terms_rest w ∷ []) = refl
at_end (terms_rest w ∷ _ ∷ _) = refl
at_end (whole_pred p ∷ []) = refl
at_end (whole_pred p ∷ _ ∷ _) = refl
at_end (conjs ps ∷ []) = refl
at_end (conjs ps ∷ _ ∷ _) = refl
at_end (lits ls ∷ []) = refl
at_end (lits ls ∷ conjs ps ∷ []) = refl
at_end (lits ls ∷ conjs ps ∷ _ ∷ _) = refl
at_end (lits ls ∷ _ ∷ _) = refl
at_end (_ ∷ _) = refl

pub policy_run : (ts : List Lexeme) (s : State) → run ts s ≡ policy_alone (run_text ts s)
policy_run [] s = at_end s.awaited
policy_run (t ∷ ts) s = by (feed s t) (λ u. policy_run ts u)
  where
    by : (o : Option State) → ((u : State) → run ts u ≡ policy_alone (run_text ts u)) → next_step o (suc (length ts)) (λ u. run ts u) ≡ policy_alone (next_text o (suc (length ts)) (λ u. run_text ts u))
    by None ih = refl
    by (Some u) ih = ih u

pub policy_ok : (ts : List Lexeme) (w : WrittenPolicy) → run_text ts first_state ≡ Ok (whole_policy w) → run ts first_state ≡ Ok w
policy_ok ts w e = policy_run ts first_state ∙ ap policy_alone e

pub policy_err : (ts : List Lexeme) (n : ℕ) → run_text ts first_state ≡ Err n → run ts first_state ≡ Err n
policy_err ts n e = policy_run ts first_state ∙ ap policy_alone e
