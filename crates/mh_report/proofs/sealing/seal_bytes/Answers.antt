use Rattle.std.specs.Prelude.{IfOk, OnErr, Result, refl}
use Rattle.std.proofs.Common.{subst, sym}
use Rattle.mh_model.specs.Service.{Service}
use Rattle.mh_told.specs.declared.unplayable.Unplayable.{Unplayable}
use Rattle.mh_sealing.proofs.WholeLemmas.{whole_service}
use Rattle.mh_report.specs.Played.{HasBegun, HasWritten}
use Rattle.mh_report.specs.Reading.{late_of, tags_of}
use Rattle.mh_report.specs.Sealed.{Seals, tag_octets}
use Rattle.mh_report.proofs.WrittenLemmas.{unreadable_whole, unreadable_cut, failed}
use Rattle.mh_report.proofs.sealing.seal_bytes.Goals as goal

pub seal_service-requires-clause-whole : goal.seal_service-requires-clause-whole
seal_service-requires-clause-whole g c =
    whole_service (tags_of c.args.options.now) c.args.options.now.start.items (late_of c.args.options.now) c.args.files.now c.in-Ok.service c.in-Ok.ensures

pub returns-in-Ok-clause-written : goal.returns-in-Ok-clause-written
returns-in-Ok-clause-written g c =
    subst (λ (r : Result Service Unplayable). IfOk c.seal_service.result (HasWritten (Seals (tag_octets c.args.options.now) r) (g.S.Sink.written c.args.sink.now) (g.S.Sink.written c.seal_service.new.sink)))
    (sym c.in-Ok.ensures) c.seal_service.ensures.written

pub returns-in-Ok-clause-begun : goal.returns-in-Ok-clause-begun
returns-in-Ok-clause-begun g c =
    subst (λ (r : Result Service Unplayable). OnErr c.seal_service.result (HasBegun (Seals (tag_octets c.args.options.now) r) (g.S.Sink.written c.args.sink.now) (g.S.Sink.written c.seal_service.new.sink)))
    (sym c.in-Ok.ensures) c.seal_service.ensures.begun

pub returns : goal.returns
returns g c = record {
  written = unreadable_whole (Seals (tag_octets c.args.options.now)) _ c.in-Err.why _ _ c.complain.result (failed c.in-Err.why _ c.in-Err.ensures c.in_default.not-NoMemory)
      (refl, refl) c.complain.ensures.report c.complain.ensures.status;
  begun = unreadable_cut (Seals (tag_octets c.args.options.now)) _ c.in-Err.why _ _ c.complain.result (failed c.in-Err.why _ c.in-Err.ensures c.in_default.not-NoMemory)
      (refl, refl) c.complain.ensures.cut;
  write = c.complain.ensures.write;
}
