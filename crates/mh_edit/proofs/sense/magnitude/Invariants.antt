use Rattle.std.proofs.Common.{◌≡◌, ◌≤◌, drop}
use Rattle.mh_text.specs.Bytes.{number_behind}
use Rattle.mh_edit.proofs.sense.magnitude.Given as goal

abbrev pub invariant-loop-digit : goal.invariant-loop-digit
invariant-loop-digit l = record {
  small : l.value ≤ 2147483647;
  rest : number_behind l.value (drop l.digit-index l.digits) ≡ number_behind 0 l.digits;
}
