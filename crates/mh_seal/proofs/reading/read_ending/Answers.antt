use Rattle.std.proofs.Common.{◌+◌, refl}
use Rattle.mh_seal.specs.Breaking.{IsBreak}
use Rattle.mh_seal.specs.Sections.{ending, is_ending}
use Rattle.mh_seal.proofs.EndingLemmas.{ending_read, no_closing, no_fifth_bound, no_fourth_bound, no_second_bound, no_sixth_bound, no_third_bound}
use Rattle.mh_seal.proofs.TruthLemmas.{handed_on}
use Rattle.mh_seal.proofs.reading.read_ending.Goals as goal

pub returns-in_err-key-clause-refused : goal.returns-in_err-key-clause-refused
returns-in_err-key-clause-refused c =
    handed_on (IsBreak is_ending ending c.args.line c.args.bytes.now) c.from_residual-in_err-key.result c.in_err-key.field-0.0 c.from_residual-in_err-key.ensures.1
    (no_second_bound c.args.line (c.args.line + 1) c.in_ok-start.start c.args.bytes.now c.in_ok-start.rest.now c.in_err-key.field-0.0 c.in_ok-start.ensures.found refl c.in_err-key.ensures.refused)

pub returns-in_err-tick-clause-refused : goal.returns-in_err-tick-clause-refused
returns-in_err-tick-clause-refused c =
    handed_on (IsBreak is_ending ending c.args.line c.args.bytes.now) c.from_residual-in_err-tick.result c.in_err-tick.field-0.0 c.from_residual-in_err-tick.ensures.1
    (no_third_bound c.args.line (c.args.line + 1) (c.args.line + 1 + 1) c.in_ok-start.start c.in_ok-key.key c.args.bytes.now c.in_ok-start.rest.now c.in_ok-key.rest.now c.in_err-tick.field-0.0 c.in_ok-start.ensures.found refl c.in_ok-key.ensures.found refl c.in_err-tick.ensures.refused)

pub returns-in_err-stream-clause-refused : goal.returns-in_err-stream-clause-refused
returns-in_err-stream-clause-refused c =
    handed_on (IsBreak is_ending ending c.args.line c.args.bytes.now) c.from_residual-in_err-stream.result c.in_err-stream.field-0.0 c.from_residual-in_err-stream.ensures.1
    (no_fourth_bound c.args.line (c.args.line + 1) (c.args.line + 1 + 1) (c.args.line + 1 + 1 + 1) c.in_ok-start.start c.in_ok-key.key c.in_ok-tick.tick c.args.bytes.now c.in_ok-start.rest.now c.in_ok-key.rest.now c.in_ok-tick.rest.now c.in_err-stream.field-0.0 c.in_ok-start.ensures.found refl c.in_ok-key.ensures.found refl c.in_ok-tick.ensures.found refl c.in_err-stream.ensures.refused)

pub returns-in_err-engine-clause-refused : goal.returns-in_err-engine-clause-refused
returns-in_err-engine-clause-refused c =
    handed_on (IsBreak is_ending ending c.args.line c.args.bytes.now) c.from_residual-in_err-engine.result c.in_err-engine.field-0.0 c.from_residual-in_err-engine.ensures.1
    (no_fifth_bound c.args.line (c.args.line + 1) (c.args.line + 1 + 1) (c.args.line + 1 + 1 + 1) (c.args.line + 1 + 1 + 1 + 1) c.in_ok-start.start c.in_ok-key.key c.in_ok-tick.tick c.in_ok-stream.stream c.args.bytes.now c.in_ok-start.rest.now c.in_ok-key.rest.now c.in_ok-tick.rest.now c.in_ok-stream.rest.now c.in_err-engine.field-0.0 c.in_ok-start.ensures.found refl c.in_ok-key.ensures.found refl c.in_ok-tick.ensures.found refl c.in_ok-stream.ensures.found refl c.in_err-engine.ensures.refused)

pub returns-in_err-arrive-clause-refused : goal.returns-in_err-arrive-clause-refused
returns-in_err-arrive-clause-refused c =
    handed_on (IsBreak is_ending ending c.args.line c.args.bytes.now) c.from_residual-in_err-arrive.result c.in_err-arrive.field-0.0 c.from_residual-in_err-arrive.ensures.1
    (no_sixth_bound c.args.line (c.args.line + 1) (c.args.line + 1 + 1) (c.args.line + 1 + 1 + 1) (c.args.line + 1 + 1 + 1 + 1) (c.args.line + 1 + 1 + 1 + 1 + 1) c.in_ok-start.start c.in_ok-key.key c.in_ok-tick.tick c.in_ok-stream.stream c.in_ok-engine.engine c.args.bytes.now c.in_ok-start.rest.now c.in_ok-key.rest.now c.in_ok-tick.rest.now c.in_ok-stream.rest.now c.in_ok-engine.rest.now c.in_err-arrive.field-0.0 c.in_ok-start.ensures.found refl c.in_ok-key.ensures.found refl c.in_ok-tick.ensures.found refl c.in_ok-stream.ensures.found refl c.in_ok-engine.ensures.found refl c.in_err-arrive.ensures.refused)

pub returns-in_err-tags-clause-refused : goal.returns-in_err-tags-clause-refused
returns-in_err-tags-clause-refused c =
    handed_on (IsBreak is_ending ending c.args.line c.args.bytes.now) c.from_residual-in_err-tags.result c.in_err-tags.field-0.0 c.from_residual-in_err-tags.ensures.1
    (no_closing c.args.line (c.args.line + 1) (c.args.line + 1 + 1) (c.args.line + 1 + 1 + 1) (c.args.line + 1 + 1 + 1 + 1) (c.args.line + 1 + 1 + 1 + 1 + 1) (c.args.line + 1 + 1 + 1 + 1 + 1 + 1) c.in_ok-start.start c.in_ok-key.key c.in_ok-tick.tick c.in_ok-stream.stream c.in_ok-engine.engine c.in_ok-arrive.arrive c.args.bytes.now c.in_ok-start.rest.now c.in_ok-key.rest.now c.in_ok-tick.rest.now c.in_ok-stream.rest.now c.in_ok-engine.rest.now c.in_ok-arrive.rest.now c.in_err-tags.field-0.0 c.in_ok-start.ensures.found refl c.in_ok-key.ensures.found refl c.in_ok-tick.ensures.found refl c.in_ok-stream.ensures.found refl c.in_ok-engine.ensures.found refl c.in_ok-arrive.ensures.found refl c.in_err-tags.ensures.refused)

pub returns-clause-found : goal.returns-clause-found
returns-clause-found c = ending_read c.in_ok-start.start c.in_ok-key.key c.in_ok-tick.tick c.in_ok-stream.stream c.in_ok-engine.engine c.in_ok-arrive.arrive c.in_ok-tags.tags c.args.bytes.now c.in_ok-start.rest.now c.in_ok-key.rest.now c.in_ok-tick.rest.now c.in_ok-stream.rest.now c.in_ok-engine.rest.now c.in_ok-arrive.rest.now c.in_ok-start.ensures.found c.in_ok-key.ensures.found c.in_ok-tick.ensures.found c.in_ok-stream.ensures.found c.in_ok-engine.ensures.found c.in_ok-arrive.ensures.found c.in_ok-tags.ensures.found
