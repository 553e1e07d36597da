use Rattle.std.specs.Prelude.{Some, Result, IfErr, ℕ, ◌≡◌}
use Rattle.std.proofs.Common.{subst}
use Rattle.mh_codec.specs.Tags.{Tags}
use Rattle.mh_model.specs.Service.{Service}
use Rattle.mh_told.specs.declared.unplayable.Unplayable.{Unplayable}
use Rattle.mh_told.specs.Reading.{Gives, service_read}
use Rattle.redplay_c.proofs.ReadingLemmas.{chosen_plain, chosen_told}
use Rattle.redplay_c.proofs.reading.read_chosen.Goals as goal

pub returns : goal.returns
returns c =
    let start = c.args.start.now in
    let late = Some c.args.late.now in
    let files = c.args.files.now in
    let gives = subst (λ (tags : Tags). Gives (λ (s : Service). s) c.read_service.result (service_read tags start late files)) c.requires c.read_service.ensures in
    record { gives = gives; plain = chosen_plain _ start late files c.read_service.result gives; told = chosen_told _ start late files c.read_service.result gives }
