-- So many steps, one after the other.
use Rattle.std.specs.Prelude.{◌≡◌, ℕ, zero, suc, ◌-◌, Bool, true, false, List, [], ◌∷◌, ◌++◌, refl}
use Rattle.std.proofs.Common.{ap, sym, subst, ◌∙◌, arith}
use Rattle.std.proofs.lemmas.List.{append_assoc, append-nil}
use Rattle.mh_trace.specs.declared.form.Telling.{Telling}
use Rattle.mh_trace.specs.Trace.{Tracing, can_step, goes_on, step_line, steps, steps_text, traced_step}

one_less : (n : ℕ) → suc n - 1 ≡ n
one_less n = omega arith

-- with the line of one step behind
pub line_made : (t : Telling) (n : ℕ) (p q : Tracing) (old new all : List ℕ) → goes_on n p.state ≡ true → new ≡ old ++ step_line t p → q ≡ traced_step p
    → old ++ steps_text t n p ≡ all → new ++ steps_text t (n - 1) q ≡ all
line_made t zero p q old new all goes put made so_far = absurd cc
line_made t (suc n) p q old new all goes put made so_far =
    let opened : steps_text t (suc n) p ≡ step_line t p ++ steps_text t n (traced_step p) = rw goes refl in
    (λ i. put i ++ steps_text t (one_less n i) (made i))
    ∙ append_assoc old (step_line t p) (steps_text t n (traced_step p))
    ∙ ap (λ (ls : List ℕ). old ++ ls) (sym opened) ∙ so_far

pub step_made : (n : ℕ) (p q last : Tracing) → goes_on n p.state ≡ true → q ≡ traced_step p → steps n p ≡ last → steps (n - 1) q ≡ last
step_made zero p q last goes made so_far = absurd cc
step_made (suc n) p q last goes made so_far =
    let opened : steps (suc n) p ≡ steps n (traced_step p) = rw goes refl in
    (λ i. steps (one_less n i) (made i)) ∙ sym opened ∙ so_far

-- where no more is made
pub lines_ended : (t : Telling) (n : ℕ) (p : Tracing) (old all : List ℕ) → goes_on n p.state ≡ false → old ++ steps_text t n p ≡ all → old ≡ all
lines_ended t zero p old all over so_far = sym (append-nil old) ∙ so_far
lines_ended t (suc n) p old all over so_far =
    let opened : steps_text t (suc n) p ≡ [] = rw over refl in
    sym (append-nil old) ∙ ap (λ (ls : List ℕ). old ++ ls) (sym opened) ∙ so_far

pub steps_ended : (n : ℕ) (p last : Tracing) → goes_on n p.state ≡ false → steps n p ≡ last → p ≡ last
steps_ended zero p last over so_far = so_far
steps_ended (suc n) p last over so_far =
    let opened : steps (suc n) p ≡ p = rw over refl in
    sym opened ∙ so_far
