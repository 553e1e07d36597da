use Rattle.mh_seal.specs.Text.{bounds_text}
use Rattle.mh_seal.proofs.PartLemmas.{six_put}
use Rattle.mh_seal.proofs.printing.put_bounds.Goals as goal

pub returns-clause-text : goal.returns-clause-text
unfolding bounds_text
returns-clause-text c =
    six_put _ _ _ _ _ _ _ _ _ _ _ _ _ c.in_ok-put_bound.ensures.text c.in_ok-put_bound-2.ensures.text c.in_ok-put_bound-3.ensures.text
    c.in_ok-put_bound-4.ensures.text c.in_ok-put_bound-5.ensures.text c.in_ok-put_bound-6.ensures.text
