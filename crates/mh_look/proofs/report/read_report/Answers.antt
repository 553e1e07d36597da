use Rattle.std.specs.Prelude.{◌≡◌, ◌+◌, ◌-◌, ◌<◌, ◌≤◌, ℕ, length, drop, Option, Some, None, IfSome, MatchOption}
use Rattle.std.proofs.Common.{arith, rules, subst}
use Rattle.mh_look.specs.declared.report.Part.{Part}
use Rattle.mh_look.specs.Parts.{frames_behind, last_behind}
use Rattle.mh_look.proofs.ReportLemmas.{part_more, report_found, report_only, no_report, part_here, part_within, part_moves, total_here, so_far_as}
use Rattle.mh_look.proofs.report.read_report.Goals as goal

pub returns-in-Some-clause-found : goal.returns-in-Some-clause-found
returns-in-Some-clause-found c =
    report_found c.args.bytes.now c.loop-last.parts.items c.loop-last.at c.loop-last.last.frames c.loop-last.last.picture c.in-Some.total c.loop-last.invariant
    (total_here c.args.bytes.now c.loop-last.at c.in_ok-total.field-0 (Some c.in-Some.total) c.in_ok-total.ensures c.in-Some.is)

pub returns-in-Some-clause-only : goal.returns-in-Some-clause-only
returns-in-Some-clause-only c =
    report_only c.args.bytes.now c.loop-last.parts.items c.loop-last.at c.loop-last.last.frames c.loop-last.last.picture c.in-Some.total c.loop-last.invariant
    (total_here c.args.bytes.now c.loop-last.at c.in_ok-total.field-0 (Some c.in-Some.total) c.in_ok-total.ensures c.in-Some.is)

pub returns-in_default-2-clause-none : goal.returns-in_default-2-clause-none
returns-in_default-2-clause-none c =
    no_report c.args.bytes.now c.loop-last.parts.items c.loop-last.at c.loop-last.last.frames c.loop-last.last.picture c.loop-last.invariant
    (total_here c.args.bytes.now c.loop-last.at c.in_ok-total.field-0 None c.in_ok-total.ensures c.in_default.is)
    (part_here c.args.bytes.now c.loop-last.at c.loop-last.last.frames c.loop-last.last.picture c.in_ok-part.field-0 None c.in_ok-part.ensures.found c.in_default-2.is)

pub overflow_add-at-in-loop-last : goal.overflow_add-at-in-loop-last
overflow_add-at-in-loop-last c =
    let found = part_here c.args.bytes.now c.loop-last.at c.loop-last.last.frames c.loop-last.last.picture c.in_ok-part.field-0 (Some (c.in-Some-2.part, c.in-Some-2.length)) c.in_ok-part.ensures.found c.in-Some-2.is in
    let within : c.loop-last.at + c.in-Some-2.length ≤ length c.args.bytes.now = part_within c.args.bytes.now c.loop-last.at c.loop-last.last.frames c.loop-last.last.picture c.in-Some-2.part c.in-Some-2.length c.loop-last.invariant.within found in
    search rules

pub loop-last-smaller : goal.loop-last-smaller
loop-last-smaller c =
    let found = part_here c.args.bytes.now c.loop-last.at c.loop-last.last.frames c.loop-last.last.picture c.in_ok-part.field-0 (Some (c.in-Some-2.part, c.in-Some-2.length)) c.in_ok-part.ensures.found c.in-Some-2.is in
    let within : c.loop-last.at + c.in-Some-2.length ≤ length c.args.bytes.now = part_within c.args.bytes.now c.loop-last.at c.loop-last.last.frames c.loop-last.last.picture c.in-Some-2.part c.in-Some-2.length c.loop-last.invariant.within found in
    let moves : 2 ≤ c.in-Some-2.length = part_moves c.loop-last.last.frames c.loop-last.last.picture (drop c.loop-last.at c.args.bytes.now) c.in-Some-2.part c.in-Some-2.length found in
    let smaller : length c.args.bytes.now - (c.loop-last.at + c.in-Some-2.length) < length c.args.bytes.now - c.loop-last.at = omega arith in
    smaller

pub loop-last-preserved : goal.loop-last-preserved
loop-last-preserved c =
    let found = part_here c.args.bytes.now c.loop-last.at c.loop-last.last.frames c.loop-last.last.picture c.in_ok-part.field-0 (Some (c.in-Some-2.part, c.in-Some-2.length)) c.in_ok-part.ensures.found c.in-Some-2.is in
    let more = part_more c.args.bytes.now c.loop-last.parts.items c.loop-last.at c.loop-last.last.frames c.loop-last.last.picture c.in-Some-2.part c.in-Some-2.length c.loop-last.invariant found in
    let frames : c.read_part.new.self.frames ≡ frames_behind c.loop-last.last.frames c.in-Some-2.part =
    subst (λ (o : Option (Part × ℕ)). MatchOption o (c.read_part.new.self.frames ≡ c.loop-last.last.frames) (λ x. c.read_part.new.self.frames ≡ frames_behind c.loop-last.last.frames x.0)) c.in-Some-2.is c.in_ok-part.ensures.frames in
    let picture : c.read_part.new.self.picture ≡ last_behind c.loop-last.last.picture c.in-Some-2.part =
    subst (λ (o : Option (Part × ℕ)). IfSome o (λ x. c.read_part.new.self.picture ≡ last_behind c.loop-last.last.picture x.0)) c.in-Some-2.is c.in_ok-part.ensures.picture in
    so_far_as c.args.bytes.now _ c.put_behind.new.parts.items (c.loop-last.at + c.in-Some-2.length) _ c.read_part.new.self.frames _ c.read_part.new.self.picture more c.in_ok-put_behind.ensures frames picture
