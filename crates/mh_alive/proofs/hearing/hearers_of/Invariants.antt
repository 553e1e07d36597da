use Rattle.std.proofs.Common.{◌≡◌, ◌-◌}
use Rattle.mh_alive.specs.Hearing.{settle, settled}
use Rattle.mh_alive.proofs.hearing.hearers_of.Given as goal

abbrev pub invariant-loop : goal.invariant-loop
invariant-loop l = record {
  same : settle (l.rounds - l.counter) l.service l.ears l.links.items ≡ settled l.service (l.sent).keys (l.registers).keys (l.fn.settings).items;
  sent : (l.ears).sent ≡ (l.sent).keys;
  registers : (l.ears).registers ≡ (l.registers).keys;
}
