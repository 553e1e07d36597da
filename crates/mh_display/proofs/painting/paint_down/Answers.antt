use Rattle.std.proofs.Common.{sym, subst}
use Rattle.mh_model.specs.State.{all}
use Rattle.mh_display.specs.Painting.{IsDown}
use Rattle.mh_display.specs.Surface.{Surface}
use Rattle.mh_display.proofs.DownLemmas.{all_left, next_down, nothing_left}
use Rattle.mh_display.proofs.painting.paint_down.Goals as goal

pub loop-at-init : goal.loop-at-init
loop-at-init c = all_left (all c.args.objects.now) c.args.stack c.args.screen.now

pub returns-then-is_done_at : goal.returns-then-is_done_at
returns-then-is_done_at c =
    nothing_left (all c.args.objects.now) c.args.stack c.next.new.self c.args.screen.now c.is_done_at.new.screen (c.is_done_at.ensures.clean c.if-is_done_at.true)
    (subst (λ (s : Surface). IsDown (all c.args.objects.now) c.args.stack c.next.new.self c.args.screen.now s) (sym c.is_done_at.ensures.same)
    (next_down (all c.args.objects.now) c.args.stack c.loop-at.left c.next.new.self c.in-Some.at.now _ _ _ _ c.in-Some.ensures c.boxed.ensures c.loop-at.invariant c.paint_found.ensures))

pub loop-at-preserved : goal.loop-at-preserved
loop-at-preserved c =
    subst (λ (s : Surface). IsDown (all c.args.objects.now) c.args.stack c.next.new.self c.args.screen.now s) (sym c.is_done_at.ensures.same)
    (next_down (all c.args.objects.now) c.args.stack c.loop-at.left c.next.new.self c.in-Some.at.now _ _ _ _ c.in-Some.ensures c.boxed.ensures c.loop-at.invariant c.paint_found.ensures)
