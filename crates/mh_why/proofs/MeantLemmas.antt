-- The tokens of an action, one further.
use Rattle.std.proofs.Common.{◌≡◌, ℕ, suc, List, ap, ◌∙◌}
use Rattle.mh_base.specs.Reading.{whole}
use Rattle.mh_text.specs.Left.{lexed}
use Rattle.mh_why.specs.Meant.{mention_by, mention_in}

pub mention_more : (number : List ℕ) (n m depth behind : ℕ) (bs rest : List ℕ) → n ≡ suc m
    → ((further : ℕ → List ℕ → List ℕ) → mention_in further number depth bs (lexed (whole bs)) ≡ further behind rest)
    → mention_by number n depth bs ≡ mention_by number m behind rest
mention_more number n m depth behind bs rest h e =
    ap (λ (k : ℕ). mention_by number k depth bs) h ∙ e (mention_by number m)
