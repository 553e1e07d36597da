use Rattle.std.proofs.Common.{◌<◌, ℕ, sym, subst}
use Rattle.mh_flow.specs.Membership.{rows_of}
use Rattle.mh_flow.specs.Gathering.{view}
use Rattle.mh_flow.proofs.StepLemmas.{members_step, members_sound, one_comes, one_there, room_for}
use Rattle.mh_flow.proofs.fixpoint.gathered.Gathered.add.Goals as goal

pub add-requires-clause-node : goal.add-requires-clause-node
add-requires-clause-node g c = subst (λ (n : ℕ). c.args.fact.node < n) (sym c.requires.sound.height) c.requires.fits.0

pub add-requires-clause-member : goal.add-requires-clause-member
add-requires-clause-member g c = room_for c.args.fact.member (g.R.Rules.system c.args.rules.now).width c.args.self.now.members.words c.requires.fits.1 c.requires.sound.words

pub returns-clause-sound : goal.returns-clause-sound
returns-clause-sound g c =
    members_sound (g.R.Rules.system c.args.rules.now) (rows_of c.add.new.self) (view c.args.self.now) _ c.requires.sound c.in_ok-add.ensures.members c.in_ok-add.ensures.put (one_comes (g.R.Rules.system c.args.rules.now) c.args.fact c.requires.derived)

pub returns-clause-step : goal.returns-clause-step
returns-clause-step g c = members_step (g.R.Rules.system c.args.rules.now) (view c.args.self.now) (record (view c.args.self.now) { members = rows_of c.add.new.self }) _ c.in_ok-add.ensures.put Rattle.std.specs.Prelude.refl

pub returns-clause-put : goal.returns-clause-put
returns-clause-put g c = one_there (rows_of c.args.self.now.members) (rows_of c.add.new.self) c.args.fact c.in_ok-add.ensures.put
