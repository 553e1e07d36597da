use Rattle.std.proofs.Common.{◌≡◌, string_bytes}
use Rattle.mh_edit.specs.Layout.{spaces}
use Rattle.mh_answers.proofs.layout.spaces_of.Given as goal

abbrev pub invariant-loop : goal.invariant-loop
invariant-loop l = string_bytes l.text ≡ spaces l.counter
