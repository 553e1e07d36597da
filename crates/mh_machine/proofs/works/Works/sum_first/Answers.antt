use Rattle.std.proofs.Common.{rules, sym, subst, ℤ, to_z, of_z, w32}
use Rattle.std.proofs.Math.Facts.{to_z-of_z}
use Rattle.std.specs.Option.{option_copied}
use Rattle.mh_model.specs.State.{State}
use Rattle.mh_machine.specs.declared.stepping.summing.Sum.{Sum}
use Rattle.mh_machine.specs.Rest.{Does}
use Rattle.mh_machine.specs.Sums.{IsSum}
use Rattle.mh_machine.proofs.SumLemmas.{stays, comes}
use Rattle.mh_machine.proofs.TestLemmas.{made}
use Rattle.mh_machine.proofs.works.Works.sum_first.Goals as goal

pub returns-in-Stays-clause-made : goal.returns-in-Stays-clause-made
returns-in-Stays-clause-made c =
    let m : ℤ = to_z w32 (of_z w32 c.in-Some-sum_in.term.now) in
    let does = stays c.args.self.now.state c.in-Some.act.now c.in-Some-sum_in.name c.in-Some-sum_in.at.now m (option_copied c.get.result) (search rules) (search (rules, to_z-of_z)) (search rules)
    (subst (λ (z : Sum). IsSum c.in-Some-sum_in.name m (option_copied c.get.result) z) c.in-Stays.is c.sum_of.ensures) in
    λ e. made c.args.self.now.state c.pass.new.self.state c.requires.runs (subst (λ (t : State). Does c.args.self.now.state t) (sym c.pass.ensures) does)

pub returns-in-Comes-clause-made : goal.returns-in-Comes-clause-made
returns-in-Comes-clause-made c =
    let m : ℤ = to_z w32 (of_z w32 c.in-Some-sum_in.term.now) in
    let does = comes c.args.self.now.state c.in-Some.act.now c.in-Some-sum_in.name c.in-Some-sum_in.at.now m c.in-Comes.value (option_copied c.get.result) (search rules) (search (rules, to_z-of_z)) (search rules)
    (subst (λ (z : Sum). IsSum c.in-Some-sum_in.name m (option_copied c.get.result) z) c.in-Comes.is c.sum_of.ensures) in
    λ e. made c.args.self.now.state c.pass-in-Comes.new.self.state c.requires.runs (subst (λ (t : State). Does c.args.self.now.state t) (search rules) does)
