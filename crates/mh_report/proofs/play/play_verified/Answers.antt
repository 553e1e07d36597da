use Rattle.std.specs.Prelude.{◌≡◌, IfOk, OnOk, OnErr}
use Rattle.std.proofs.Common.{subst, refl}
use Rattle.mh_model.specs.Service.{Service}
use Rattle.mh_report.specs.declared.status.Status.{Status}
use Rattle.mh_report.specs.declared.status.Status.TheVariants as status
use Rattle.std.specs.Io.KnownBytes.{Appends}
use Rattle.mh_report.specs.Sink.{IsBeginning}
use Rattle.mh_verdict.specs.Lines.{refusal_lines}
use Rattle.mh_report.specs.Presets.{opened}
use Rattle.mh_report.specs.Played.{play_lines, play_status, play_done, play_refused}
use Rattle.mh_report.proofs.WrittenLemmas.{whole, cut, named}
use Rattle.mh_report.proofs.play.play_verified.Goals as goal

pub returns-in-Ok-clause-written : goal.returns-in-Ok-clause-written
returns-in-Ok-clause-written g c =
    let cs = c.args.commands.now in
    let start = λ (s : Service). opened s c.args.mjd c.args.files.now in
    whole _ _ _ c.play_accepted.result (play_lines cs (start c.args.service)) (play_status cs (start c.args.service))
    (play_done _ (λ strict. c.in-Ok.ensures.accepted))
    (subst (λ (s : Service). OnOk c.play_accepted.result (Appends (g.S.Sink.written c.args.sink.now) (g.S.Sink.written c.play_accepted.new.sink) (play_lines cs (start s)))) c.in-Ok.ensures.same c.play_accepted.ensures.report)
    (subst (λ (s : Service). IfOk c.play_accepted.result (λ (how : Status). how ≡ play_status cs (start s))) c.in-Ok.ensures.same c.play_accepted.ensures.status)

pub returns-in-Ok-clause-begun : goal.returns-in-Ok-clause-begun
returns-in-Ok-clause-begun g c =
    let cs = c.args.commands.now in
    let start = λ (s : Service). opened s c.args.mjd c.args.files.now in
    cut _ _ _ c.play_accepted.result (play_lines cs (start c.args.service)) (play_status cs (start c.args.service))
    (play_done _ (λ strict. c.in-Ok.ensures.accepted))
    (subst (λ (s : Service). OnErr c.play_accepted.result (IsBeginning (g.S.Sink.written c.args.sink.now) (g.S.Sink.written c.play_accepted.new.sink) (play_lines cs (start s)))) c.in-Ok.ensures.same c.play_accepted.ensures.cut)

pub returns : goal.returns
returns g c = record {
  written = whole _ _ _ c.refuse.result (refusal_lines c.in-Err.refusal) status.Refused (play_refused _ _ refl (named _ _ c.in-Err.ensures.told c.in_default.not-NoMemory)) c.refuse.ensures.report c.refuse.ensures.status;
  begun = cut _ _ _ c.refuse.result (refusal_lines c.in-Err.refusal) status.Refused (play_refused _ _ refl (named _ _ c.in-Err.ensures.told c.in_default.not-NoMemory)) c.refuse.ensures.cut;
  write = c.refuse.ensures.write;
}
