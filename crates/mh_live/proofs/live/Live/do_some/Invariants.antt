use Rattle.std.proofs.Common.{drop, take}
use Rattle.mh_live.specs.Playing.{done_all}
use Rattle.mh_live.proofs.DoneLemmas.{IsDoneTo}
use Rattle.mh_live.proofs.live.Live.do_some.Given as goal

abbrev pub invariant-loop-index : goal.invariant-loop-index
invariant-loop-index l =
    IsDoneTo l.fn.place l.index l.initial.self.asked l.self (done_all (drop l.fn.from (take l.fn.place l.initial.self.asked)) l.initial.self)
