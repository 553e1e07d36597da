use Rattle.std.specs.Prelude.{IfOk, OnErr, refl}
use Rattle.std.proofs.Common.{ap, ◌∙◌}
use Rattle.mh_model.specs.State.{State}
use Rattle.mh_report.specs.BySeal.{Is, scripted}
use Rattle.mh_report.specs.Played.{HasBegun, HasWritten}
use Rattle.mh_report.proofs.SealedPlayLemmas.{started_as, unread_cut, unread_whole}
use Rattle.mh_report.proofs.sealed_play.play_started.Goals as goal

pub returns-in-Ok-clause-written : goal.returns-in-Ok-clause-written
returns-in-Ok-clause-written g c =
    λ k r posts gives. started_as (λ told. IfOk c.play_commands.result (HasWritten (Is told) (g.S.Sink.written c.args.sink.now) (g.S.Sink.written c.play_commands.new.sink)))
    g.E.Playable.state g.E.Playable.seal c.args.started c.in-Ok.engine k r c.args.tags.now c.args.contents.now c.args.script.now c.service-service.result.now c.read_commands-commands.result
    c.in-Ok.is posts gives c.play_commands.ensures.written c.read_commands-commands.ensures (c.service-service.ensures ∙ ap (λ (s : State). s.service) c.looked_at.ensures)

pub returns-in-Ok-clause-begun : goal.returns-in-Ok-clause-begun
returns-in-Ok-clause-begun g c =
    λ k r posts gives. started_as (λ told. OnErr c.play_commands.result (HasBegun (Is told) (g.S.Sink.written c.args.sink.now) (g.S.Sink.written c.play_commands.new.sink)))
    g.E.Playable.state g.E.Playable.seal c.args.started c.in-Ok.engine k r c.args.tags.now c.args.contents.now c.args.script.now c.service-service.result.now c.read_commands-commands.result
    c.in-Ok.is posts gives c.play_commands.ensures.begun c.read_commands-commands.ensures (c.service-service.ensures ∙ ap (λ (s : State). s.service) c.looked_at.ensures)

pub returns : goal.returns
returns g c = record {
  written = λ k r posts gives. unread_whole g.E.Playable.state (scripted k c.args.tags.now c.args.contents.now c.args.script.now) c.args.started r c.in-Err.why _ _ c.complain.result
      refl c.in-Err.is c.in_default.not-NoMemory gives c.complain.ensures.report c.complain.ensures.status;
  begun = λ k r posts gives. unread_cut g.E.Playable.state (scripted k c.args.tags.now c.args.contents.now c.args.script.now) c.args.started r c.in-Err.why _ _ c.complain.result
      refl c.in-Err.is c.in_default.not-NoMemory gives c.complain.ensures.cut;
  write = c.complain.ensures.write;
}
