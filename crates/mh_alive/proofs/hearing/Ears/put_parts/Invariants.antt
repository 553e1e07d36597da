use Rattle.std.proofs.Common.{◌≡◌, drop}
use Rattle.indexmap.specs.IndexSet.{insert_all}
use Rattle.mh_model.specs.Reference.{same_key}
use Rattle.mh_alive.specs.Hearing.{hearing_of}
use Rattle.mh_alive.proofs.hearing.Ears.put_parts.Given as goal

abbrev pub invariant-loop-part : goal.invariant-loop-part
invariant-loop-part l =
    insert_all same_key l.hearers.keys (hearing_of l.self (drop l.part-index l.parts)) ≡ insert_all same_key l.initial.hearers.keys (hearing_of l.self l.parts)
