use Rattle.std.specs.Prelude.{ℕ, List, Vec, map}
use Rattle.std.specs.declared.alloc.Global.{Global}
use Rattle.std.proofs.Common.{ap, ◌∙◌}
use Rattle.redplay_page.proofs.TriedLemmas.{covered_so}
use Rattle.redplay_page.proofs.trying.covered_of.Goals as goal

pub returns : goal.returns
returns c =
    let texts : List (Vec ℕ Global) → List (List ℕ) = map (λ s. s.items) in
    covered_so c.args.start.now c.args.late.now c.args.script.now c.args.day c.args.files.now c.in_ok-chosen.chosen (texts c.as_slice.result.now) c.given.result
    c.in_ok-chosen.ensures (ap texts c.as_slice.ensures.value ∙ c.in_ok-scripts.ensures) (c.given.ensures _ c.cover_of-made.ensures)
