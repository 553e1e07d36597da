use Rattle.std.proofs.Common.{◌<◌, ℕ, sym, subst, List}
use Rattle.std.specs.List.{Contains}
use Rattle.mh_flow.specs.Rows.{row}
use Rattle.mh_flow.specs.Edging.{ends}
use Rattle.mh_flow.specs.Membership.{rows_of}
use Rattle.mh_flow.specs.Gathering.{view}
use Rattle.mh_flow.proofs.StepLemmas.{edge_step, edge_sound, is_pushed, is_there, edges_sound, edges_step}
use Rattle.mh_flow.proofs.fixpoint.gathered.Gathered.add_edge.Goals as goal

pub insert-requires-clause-from : goal.insert-requires-clause-from
insert-requires-clause-from g c = subst (λ (n : ℕ). c.args.from < n) (sym c.requires.sound.edges) c.requires.fits.0

pub carry-requires-clause-members : goal.carry-requires-clause-members
carry-requires-clause-members g c = c.requires.sound.members

pub carry-requires-clause-from : goal.carry-requires-clause-from
carry-requires-clause-from g c = subst (λ (n : ℕ). c.args.from < n) (sym c.requires.sound.height) c.requires.fits.0

pub carry-requires-clause-to : goal.carry-requires-clause-to
carry-requires-clause-to g c = subst (λ (n : ℕ). c.args.to < n) (sym c.requires.sound.height) c.requires.fits.1

pub returns-in_ok-carry-clause-sound : goal.returns-in_ok-carry-clause-sound
returns-in_ok-carry-clause-sound g c =
    edge_sound (g.R.Rules.system c.args.rules.now) (view c.args.self.now) (record { members = rows_of c.carry.new.self; edges = c.insert.new.self }) c.args.from c.args.to c.requires.sound c.requires.derived c.in_ok-is_new.ensures.tabled c.in_ok-carry.ensures.members
    (is_pushed c.args.from c.args.to c.in_ok-is_new.is_new (ends c.args.self.now.edges) (ends c.insert.new.self) c.if-is_new.true c.in_ok-is_new.ensures.put) c.in_ok-carry.ensures.put

pub returns-in_ok-carry-clause-step : goal.returns-in_ok-carry-clause-step
returns-in_ok-carry-clause-step g c =
    edge_step (g.R.Rules.system c.args.rules.now) (view c.args.self.now) (record { members = rows_of c.carry.new.self; edges = c.insert.new.self }) c.args.from c.args.to
    (is_pushed c.args.from c.args.to c.in_ok-is_new.is_new (ends c.args.self.now.edges) (ends c.insert.new.self) c.if-is_new.true c.in_ok-is_new.ensures.put) c.in_ok-carry.ensures.put

pub returns-in_ok-carry-clause-put : goal.returns-in_ok-carry-clause-put
returns-in_ok-carry-clause-put g c =
    (is_pushed c.args.from c.args.to c.in_ok-is_new.is_new (ends c.args.self.now.edges) (ends c.insert.new.self) c.if-is_new.true c.in_ok-is_new.ensures.put).put

pub returns-else-is_new-clause-sound : goal.returns-else-is_new-clause-sound
returns-else-is_new-clause-sound g c =
    edges_sound (g.R.Rules.system c.args.rules.now) (view c.args.self.now) c.insert.new.self c.requires.sound c.in_ok-is_new.ensures.tabled (is_there c.args.from c.args.to c.in_ok-is_new.is_new (ends c.args.self.now.edges) (ends c.insert.new.self) c.if-is_new.false c.in_ok-is_new.ensures.put).0

pub returns-else-is_new-clause-step : goal.returns-else-is_new-clause-step
returns-else-is_new-clause-step g c =
    edges_step (g.R.Rules.system c.args.rules.now) (view c.args.self.now) c.insert.new.self (is_there c.args.from c.args.to c.in_ok-is_new.is_new (ends c.args.self.now.edges) (ends c.insert.new.self) c.if-is_new.false c.in_ok-is_new.ensures.put).0

pub returns-else-is_new-clause-put : goal.returns-else-is_new-clause-put
returns-else-is_new-clause-put g c =
    let found = is_there c.args.from c.args.to c.in_ok-is_new.is_new (ends c.args.self.now.edges) (ends c.insert.new.self) c.if-is_new.false c.in_ok-is_new.ensures.put in
    subst (λ (es : List (List ℕ)). Contains (row es c.args.from) c.args.to) (sym found.0) found.1
