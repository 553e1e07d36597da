-- The numbers of refusals.
use Rattle.std.specs.Prelude.{ℕ, ◌<◌}
use Rattle.std.proofs.Common.{lit<}
use Rattle.mh_machine.specs.declared.refusal.RefusedWhy.{RefusedWhy}
use Rattle.mh_machine.specs.declared.refusal.RefusedWhy.TheVariants as refused
use Rattle.redplay_c.specs.Answers.{why_number}

-- none is 0
pub why_some : (w : RefusedWhy) → 0 < why_number w
why_some refused.NoMemory = lit< tt
why_some refused.Ended = lit< tt
why_some refused.TickRange = lit< tt
why_some refused.Begun = lit< tt
why_some refused.NotLate = lit< tt
why_some refused.Differs = lit< tt
why_some refused.TooLarge = lit< tt
why_some refused.TooMany = lit< tt
why_some refused.ClockFull = lit< tt
why_some refused.QueueFull = lit< tt
