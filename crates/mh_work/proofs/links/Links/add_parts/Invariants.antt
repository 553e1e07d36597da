use Rattle.std.proofs.Common.{◌≡◌, ◌++◌, ◌+◌, ℕ, drop}
use Rattle.mh_work.specs.Listening.{waiting}
use Rattle.mh_work.specs.Links.{places}
use Rattle.mh_work.proofs.links.Links.add_parts.Given as goal

abbrev pub invariant-loop-index : goal.invariant-loop-index
invariant-loop-index l =
    (n t : ℕ) → waiting n t l.self ++ places (l.first + l.index) n t (drop l.index l.parts) ≡ waiting n t l.initial.self ++ places l.first n t l.parts
