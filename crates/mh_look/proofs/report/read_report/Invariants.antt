use Rattle.std.proofs.Common.{◌-◌, length}
use Rattle.mh_look.proofs.ReportLemmas.{PartsSoFar}
use Rattle.mh_look.proofs.report.read_report.Given as goal

-- the parts so far and what is left are the report
abbrev pub invariant-loop-last : goal.invariant-loop-last
invariant-loop-last l = PartsSoFar l.bytes l.parts.items l.at l.last.frames l.last.picture

abbrev pub decreases-loop-last : goal.decreases-loop-last
decreases-loop-last l = length l.bytes - l.at
