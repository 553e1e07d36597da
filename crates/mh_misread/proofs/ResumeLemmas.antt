-- Where reading goes on, one token or one mistake further.
use Rattle.std.proofs.Common.{◌≡◌, ℕ, suc, List, Option, ap, ◌∙◌}
use Rattle.mh_base.specs.Reading.{whole}
use Rattle.mh_text.specs.Left.{lexed}
use Rattle.mh_misread.specs.declared.mistake.Mistake.{Mistake}
use Rattle.mh_misread.specs.Resuming.{brace_in, from_brace_by, mistakes_by, next_mistake, with_mistake}

pub brace_more : (n m : ℕ) (bs rest : List ℕ) → n ≡ suc m
    → ((further : List ℕ → List ℕ) → brace_in further bs (lexed (whole bs)) ≡ further rest)
    → from_brace_by n bs ≡ from_brace_by m rest
brace_more n m bs rest h e = ap (λ (k : ℕ). from_brace_by k bs) h ∙ e (from_brace_by m)

pub mistakes_more : (n m : ℕ) (file : List ℕ) (next : Option ℕ) (o : Option Mistake) → n ≡ suc m → next_mistake file next ≡ o
    → mistakes_by n file next ≡ with_mistake (mistakes_by m file) o
mistakes_more n m file next o h e = ap (λ (k : ℕ). mistakes_by k file next) h ∙ ap (with_mistake (mistakes_by m file)) e
