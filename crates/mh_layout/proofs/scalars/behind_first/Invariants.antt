use Rattle.std.proofs.Common.{◌≡◌, drop}
use Rattle.mh_model.specs.Scalars.{scalars_of}
use Rattle.mh_layout.proofs.scalars.behind_first.Given as goal

abbrev pub invariant-loop : goal.invariant-loop
invariant-loop l = scalars_of l.rest ≡ drop l.counter (scalars_of l.text)
