use Rattle.std.proofs.Common.{Option, refl, subst, sym}
use Rattle.std.specs.Option.{IsSome}
use Rattle.mh_lint.specs.Uses.{Numbers}
use Rattle.mh_lint.proofs.UseLemmas.{had_more}
use Rattle.mh_lint.proofs.timers.put.Goals as goal

pub returns-in_ok-put-in-Some : goal.returns-in_ok-put-in-Some
returns-in_ok-put-in-Some c =
    let there = c.in-Some.ensures.value in
    let written = (c.get_mut.follows.holds c.put.new.self).3 (subst (λ (o : Option Numbers). IsSome o) there refl) in
    had_more c.args.table.now.entries (c.get_mut.follows.lender c.put.new.self).entries c.args.timers.now c.in-Some.numbers.now c.put.new.self
    written.0 (sym there) c.in_ok-put-in-Some.ensures
