use Rattle.std.proofs.Common.{◌≡◌, ◌++◌}
use Rattle.std.specs.Prelude.{drop}
use Rattle.std.specs.List.{flat_map}
use Rattle.mh_why.specs.declared.explanation.way.TheConstants.{PUTS_NEXT}
use Rattle.mh_why.specs.WayWords.{stage_text}
use Rattle.mh_why.proofs.explanation.way.put_more.Given as goal

abbrev pub invariant-loop-stage : goal.invariant-loop-stage
invariant-loop-stage l =
    l.text ++ flat_map (stage_text l.sources PUTS_NEXT.now) (drop l.stage-index l.stages) ≡ l.initial.text ++ flat_map (stage_text l.sources PUTS_NEXT.now) l.stages
