use Rattle.std.proofs.Common.{ap}
use Rattle.std.specs.Prelude.{Some}
use Rattle.mh_report.proofs.PostLemmas.{seal_stays, sealed_posted_so}
use Rattle.mh_report.proofs.playable.SealedEnginePlayable.post_input.Goals as goal

pub returns : goal.returns
returns c =
    let both = sealed_posted_so c.args.input c.args.self.now c.post.new.self c.post.result c.told_of.result c.told_of.ensures c.post.ensures.posted c.post.ensures.accepted c.post.ensures.barred c.post.ensures.kept in
    record {
      done = both.0;
      told = both.1;
      same = ap Some (seal_stays c.args.input c.args.self.now c.post.new.self c.post.result c.post.ensures.posted c.post.ensures.kept);
    }
