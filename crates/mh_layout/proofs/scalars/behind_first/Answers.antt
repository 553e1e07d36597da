use Rattle.std.proofs.Common.{drop, sym, ◌∙◌, ap}
use Rattle.mh_model.specs.Scalars.{scalars_of}
use Rattle.mh_layout.proofs.TextLemmas.{drop_one}
use Rattle.mh_layout.proofs.scalars.behind_first.Goals as goal

pub loop-preserved : goal.loop-preserved
loop-preserved c = ap (drop 1) (sym c.in-Some.ensures ∙ c.loop.invariant) ∙ drop_one c.loop.counter (scalars_of c.args.text.now)
