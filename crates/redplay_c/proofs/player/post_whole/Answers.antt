-- What a post does, by whether the engine takes it.
use Rattle.std.specs.Prelude.{refl}
use Rattle.redplay_c.proofs.PostLemmas.{post_taken, post_refused}
use Rattle.redplay_c.proofs.player.post_whole.Goals as goal

pub returns-in-Ok : goal.returns-in-Ok
returns-in-Ok c = post_taken c.args.input c.args.engine.now c.post.new.self c.post.result _ _ c.in-Ok.is c.post.ensures.refused c.post.ensures.posted refl

pub returns-in-Err : goal.returns-in-Err
returns-in-Err c =
    post_refused c.args.input c.args.engine.now c.post.new.self c.post.result _ c.why_refused.result _ c.in-Err.is c.post.ensures.refused c.post.ensures.kept
    c.why_refused.ensures c.number_of.ensures.number
