use Rattle.mh_report.specs.Presets.{opened}
use Rattle.mh_report.specs.Played.{play_lines, play_status, play_done}
use Rattle.mh_report.proofs.WrittenLemmas.{whole, cut, lenient_is}
use Rattle.mh_report.proofs.play.play_ready.Goals as goal

pub returns-then-lenient-clause-written : goal.returns-then-lenient-clause-written
returns-then-lenient-clause-written g c =
    let m = c.args.material in
    let start = opened m.service c.args.options.now.mjd m.files in
    whole _ _ _ c.play_service.result (play_lines m.commands start) (play_status m.commands start)
    (play_done m (lenient_is _ _ c.if-lenient.true))
    (rw (c.as_slice.ensures, c.as_slice-then-lenient.ensures) at c.play_service.ensures.report)
    (rw (c.as_slice.ensures, c.as_slice-then-lenient.ensures) at c.play_service.ensures.status)

pub returns-then-lenient-clause-begun : goal.returns-then-lenient-clause-begun
returns-then-lenient-clause-begun g c =
    let m = c.args.material in
    let start = opened m.service c.args.options.now.mjd m.files in
    cut _ _ _ c.play_service.result (play_lines m.commands start) (play_status m.commands start)
    (play_done m (lenient_is _ _ c.if-lenient.true))
    (rw (c.as_slice.ensures, c.as_slice-then-lenient.ensures) at c.play_service.ensures.cut)
