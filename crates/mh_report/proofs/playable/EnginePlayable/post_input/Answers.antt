use Rattle.std.specs.Prelude.{refl}
use Rattle.mh_report.proofs.PostLemmas.{engine_posted}
use Rattle.mh_report.proofs.playable.EnginePlayable.post_input.Goals as goal

pub returns : goal.returns
returns c =
    let both = engine_posted c.args.input c.args.self.now c.post.new.self c.post.result c.told_of.result c.told_of.ensures c.post.ensures.refused c.post.ensures.posted c.post.ensures.kept in
    record { done = both.0; told = both.1; same = refl }
