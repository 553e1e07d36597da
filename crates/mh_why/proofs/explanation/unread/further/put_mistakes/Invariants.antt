use Rattle.std.proofs.Common.{◌≡◌, ◌++◌, drop}
use Rattle.std.specs.List.{flat_map}
use Rattle.mh_why.specs.Further.{mistake_text}
use Rattle.mh_why.proofs.explanation.unread.further.put_mistakes.Given as goal

abbrev pub invariant-loop-mistake : goal.invariant-loop-mistake
invariant-loop-mistake l =
    l.text ++ flat_map (mistake_text l.source) (drop l.mistake-index l.found) ≡ l.initial.text ++ flat_map (mistake_text l.source) l.found
