use Rattle.std.specs.Prelude.{None, Some}
use Rattle.std.specs.Option.{option_copied}
use Rattle.std.proofs.Common.{ap}
use Rattle.mh_engine.proofs.SealedLemmas.{digest_so}
use Rattle.mh_engine.proofs.sealed.starting.digest_in.Goals as goal

pub returns-in-Some : goal.returns-in-Some
returns-in-Some c =
    digest_so c.args.name.now c.args.seal.now.groups c.as_slice.result.now (option_copied c.group_in.result) (Some c.in-Some.group.now) c.as_slice.ensures c.group_in.ensures
    (ap option_copied c.in-Some.is)

pub returns-in-None : goal.returns-in-None
returns-in-None c =
    digest_so c.args.name.now c.args.seal.now.groups c.as_slice.result.now (option_copied c.group_in.result) None c.as_slice.ensures c.group_in.ensures (ap option_copied c.in-None.is)
