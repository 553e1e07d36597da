use Rattle.std.proofs.Common.{arith, rules}
use Rattle.mh_why.proofs.StopLemmas.{one_seen}
use Rattle.mh_why.proofs.place.line.spaced_characters.Goals as goal

pub loop-character-preserved : goal.loop-character-preserved
loop-character-preserved c =
    one_seen c.loop-character.before c.loop-character.left c.in-Some.character c.loop-character.characters.items c.push.new.self.items c.loop-character.character-iterator c.next.new.self _
    c.in-Some.ensures.steps (search rules) (omega (arith, c.if-before-gt0.false)) (omega (arith, c.if-left-eq0.false)) c.loop-character.invariant
