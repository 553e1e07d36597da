use Rattle.std.specs.Prelude.{drop}
use Rattle.std.proofs.Common.{sym, ◌∙◌}
use Rattle.mh_look.proofs.BeginningLemmas.{line_part_found, frame_part_found, line_keeps_count, line_keeps_last, frame_ahead, no_frame_ahead}
use Rattle.mh_look.proofs.report.last.Last.read_part.Goals as goal

pub returns-then-starts_with-clause-found : goal.returns-then-starts_with-clause-found
returns-then-starts_with-clause-found c =
    frame_part_found c.args.self.now.frames c.args.self.now.picture c.args.bytes.now (drop 6 c.args.bytes.now) c.in_ok-next.next
    (frame_ahead c.args.bytes.now (sym c.starts_with.ensures.value ∙ c.if-starts_with.true)) c.in_ok-next.ensures.found

pub returns-clause-found : goal.returns-clause-found
returns-clause-found c =
    line_part_found c.args.self.now.frames c.args.self.now.picture c.args.bytes.now c.in_ok-line.line
    (no_frame_ahead c.args.bytes.now (sym c.starts_with.ensures.value ∙ c.if-starts_with.false)) c.in_ok-line.ensures

pub returns-clause-frames : goal.returns-clause-frames
returns-clause-frames c = line_keeps_count _ c.args.bytes.now c.in_ok-line.line c.in_ok-line.ensures

pub returns-clause-picture : goal.returns-clause-picture
returns-clause-picture c = line_keeps_last _ c.args.bytes.now c.in_ok-line.line c.in_ok-line.ensures
