use Rattle.std.specs.Prelude.{IfOk, OnErr, List, ℕ}
use Rattle.std.proofs.Common.{subst, sym}
use Rattle.mh_model.specs.Service.{Service}
use Rattle.mh_seal_laws.specs.Bringing.{AreScenes}
use Rattle.mh_seal_laws.specs.Joined.{IsOfFiles}
use Rattle.mh_sealing.proofs.OrderLemmas.{are_scenes, of_files}
use Rattle.mh_report.specs.Played.{HasBegun, HasWritten}
use Rattle.mh_report.specs.Sealed.{SealsOrdered, tag_octets}
use Rattle.mh_report.proofs.sealing.seal_service.Goals as goal

pub in_order-requires : goal.in_order-requires
in_order-requires g c = c.requires.whole.scenes

pub seal_ordered-requires-clause-files : goal.seal_ordered-requires-clause-files
seal_ordered-requires-clause-files g c = subst IsOfFiles (sym c.in-Ok.ensures) (of_files c.args.service c.requires.whole)

pub seal_ordered-requires-clause-scenes : goal.seal_ordered-requires-clause-scenes
seal_ordered-requires-clause-scenes g c = subst (λ (v : Service). AreScenes v v.late) (sym c.in-Ok.ensures) (are_scenes c.args.service c.requires.whole)

pub returns-in-Ok-clause-written : goal.returns-in-Ok-clause-written
returns-in-Ok-clause-written g c =
    subst (λ (v : Service). IfOk c.seal_ordered.result (HasWritten (SealsOrdered (tag_octets c.args.options.now) v) (g.S.Sink.written c.args.sink.now) (g.S.Sink.written c.seal_ordered.new.sink))) c.in-Ok.ensures
    (subst (λ (t : List ℕ). IfOk c.seal_ordered.result (HasWritten (SealsOrdered t c.in-Ok.ordered) (g.S.Sink.written c.args.sink.now) (g.S.Sink.written c.seal_ordered.new.sink))) c.tag_octets.ensures c.seal_ordered.ensures.written)

pub returns-in-Ok-clause-begun : goal.returns-in-Ok-clause-begun
returns-in-Ok-clause-begun g c =
    subst (λ (v : Service). OnErr c.seal_ordered.result (HasBegun (SealsOrdered (tag_octets c.args.options.now) v) (g.S.Sink.written c.args.sink.now) (g.S.Sink.written c.seal_ordered.new.sink))) c.in-Ok.ensures
    (subst (λ (t : List ℕ). OnErr c.seal_ordered.result (HasBegun (SealsOrdered t c.in-Ok.ordered) (g.S.Sink.written c.args.sink.now) (g.S.Sink.written c.seal_ordered.new.sink))) c.tag_octets.ensures c.seal_ordered.ensures.begun)
