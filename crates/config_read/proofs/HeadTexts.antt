-- The first two lines of a result are told apart.
use Rattle.std.proofs.Common.{◌≡◌, ℕ, ◌<◌, inl, inr, Bool, true, false, List, ◌∷◌, ◌++◌, sym, ◌∙◌, ap, subst, arith}
use Rattle.std.specs.Prelude.{codes}
use Rattle.std.specs.Fmt.{decimal}
use Rattle.merlin_model.specs.declared.policy.Objective.{Objective}
use Rattle.merlin_model.specs.declared.policy.Objective.TheVariants.{Shortest, Ratio, Reserved}
use Rattle.merlin_base.specs.Lexemes.{Lacks}
use Rattle.merlin_base.proofs.Cutting.{Free, free, free_append, free_middle, cut_once}
use Rattle.config_text.specs.Result.{objective_word}
use Rattle.config_lines.specs.Words.{HasFewDigits}
use Rattle.config_lines.proofs.Then.{number_free}
use Rattle.config_read.specs.Heads.{IsVersion, first_line, IsWrittenValue}

pub no_first_line : (text : List ℕ) → ((rest : List ℕ) → text ≡ codes "merlin 2 ok\n" ++ rest → ⊥) → ((rest : List ℕ) → text ≡ codes "merlin 1 ok\n" ++ rest → ⊥) → ((rest : List ℕ) → text ≡ codes "merlin 2 infeasible\n" ++ rest → ⊥) →
    ((rest : List ℕ) → text ≡ codes "merlin 1 infeasible\n" ++ rest → ⊥) → (version : ℕ) (feasible : Bool) (rest : List ℕ) → IsVersion version → text ≡ first_line version feasible ++ rest → ⊥
no_first_line text two_ok one_ok two_none one_none version true rest (inl e) h = one_ok rest (h ∙ ap (λ v. first_line v true ++ rest) e)
no_first_line text two_ok one_ok two_none one_none version true rest (inr e) h = two_ok rest (h ∙ ap (λ v. first_line v true ++ rest) e)
no_first_line text two_ok one_ok two_none one_none version false rest (inl e) h = one_none rest (h ∙ ap (λ v. first_line v false ++ rest) e)
no_first_line text two_ok one_ok two_none one_none version false rest (inr e) h = two_none rest (h ∙ ap (λ v. first_line v false ++ rest) e)

pub objective_free : (byte : ℕ) (o : Objective) → byte < 48 → Free byte (objective_word o)
objective_free byte Shortest low = ((λ e. omega arith), ((λ e. omega arith), ((λ e. omega arith), ((λ e. omega arith), ((λ e. omega arith), ((λ e. omega arith), ((λ e. omega arith), ((λ e. omega arith), tt))))))))
objective_free byte Ratio low = ((λ e. omega arith), ((λ e. omega arith), ((λ e. omega arith), ((λ e. omega arith), ((λ e. omega arith), tt)))))
objective_free byte Reserved low = ((λ e. omega arith), ((λ e. omega arith), ((λ e. omega arith), ((λ e. omega arith), ((λ e. omega arith), ((λ e. omega arith), ((λ e. omega arith), ((λ e. omega arith), tt))))))))

-- a value with a slash is a load of a capacity
pub with_slash : (word load capacity : List ℕ) → word ≡ load ++ 47 ∷ capacity → Lacks 47 load → IsWrittenValue word → ((n : ℕ) × HasFewDigits n × (load ≡ decimal n)) × ((n : ℕ) × HasFewDigits n × (capacity ≡ decimal n))
with_slash word load capacity e l (inl (n, is, h)) = absurd (free_middle 47 load capacity (subst (Free 47) (sym h ∙ e) (number_free 47 n (omega arith) is)))
with_slash word load capacity e l (inr (m, n, f, g, h)) =
    let cut = cut_once 47 load (decimal m) capacity (decimal n) (free 47 load l) (number_free 47 m (omega arith) f) (sym e ∙ h) in ((m, f, cut.front), (n, g, cut.rest))

-- and one without is a number
pub without_slash : (word : List ℕ) → Lacks 47 word → IsWrittenValue word → (n : ℕ) × HasFewDigits n × (word ≡ decimal n)
without_slash word l (inl h) = h
without_slash word l (inr (m, n, f, g, h)) = absurd (free_middle 47 (decimal m) (decimal n) (subst (Free 47) h (free 47 word l)))

pub value_free : (value : List ℕ) → IsWrittenValue value → Free 10 value
value_free value (inl (n, is, e)) = subst (Free 10) (sym e) (number_free 10 n (omega arith) is)
value_free value (inr (m, n, f, g, e)) = subst (Free 10) (sym e) (free_append 10 (decimal m) (47 ∷ decimal n) (number_free 10 m (omega arith) f) ((λ e. omega arith), number_free 10 n (omega arith) g))
