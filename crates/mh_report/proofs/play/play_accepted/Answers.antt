use Rattle.mh_report.specs.Presets.{opened}
use Rattle.mh_report.proofs.play.play_accepted.Goals as goal

pub returns-clause-report : goal.returns-clause-report
returns-clause-report g c = c.play_on.ensures.report (opened c.args.accepted.service c.args.mjd c.args.files.now) c.of_accepted.ensures.opened

pub returns-clause-status : goal.returns-clause-status
returns-clause-status g c = c.play_on.ensures.status (opened c.args.accepted.service c.args.mjd c.args.files.now) c.of_accepted.ensures.opened

pub returns-clause-cut : goal.returns-clause-cut
returns-clause-cut g c = c.play_on.ensures.cut (opened c.args.accepted.service c.args.mjd c.args.files.now) c.of_accepted.ensures.opened
