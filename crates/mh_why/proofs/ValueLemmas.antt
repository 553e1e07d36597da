-- The tokens of a list of values, one further.
use Rattle.std.proofs.Common.{◌≡◌, ℕ, suc, List, ap, ◌∙◌}
use Rattle.mh_base.specs.Reading.{whole}
use Rattle.mh_text.specs.Left.{lexed}
use Rattle.mh_why.specs.declared.explanation.place.values.Walk.{Walk}
use Rattle.mh_why.specs.Values.{behind_by, behind_in, value_by, value_in}

pub value_more : (n m : ℕ) (w behind : Walk) (bs rest : List ℕ) → n ≡ suc m
    → ((further : Walk → List ℕ → List ℕ) → value_in further w bs (lexed (whole bs)) ≡ further behind rest)
    → value_by n w bs ≡ value_by m behind rest
value_more n m w behind bs rest h e = ap (λ (k : ℕ). value_by k w bs) h ∙ e (value_by m)

pub behind_more : (n m depth behind : ℕ) (bs rest : List ℕ) → n ≡ suc m
    → ((further : ℕ → List ℕ → List ℕ) → behind_in further depth bs (lexed (whole bs)) ≡ further behind rest)
    → behind_by n depth bs ≡ behind_by m behind rest
behind_more n m depth behind bs rest h e = ap (λ (k : ℕ). behind_by k depth bs) h ∙ e (behind_by m)
