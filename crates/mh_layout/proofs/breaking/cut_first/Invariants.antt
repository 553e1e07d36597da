use Rattle.mh_model.specs.Scalars.{scalars_of}
use Rattle.mh_layout.proofs.TextLemmas.{IsRead}
use Rattle.mh_layout.proofs.breaking.cut_first.Given as goal

abbrev pub invariant-loop-read : goal.invariant-loop-read
invariant-loop-read l = IsRead (scalars_of l.text) l.read (scalars_of l.rest)
