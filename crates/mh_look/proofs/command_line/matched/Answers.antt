use Rattle.std.specs.Prelude.{◌≡◌, true, map, IfOk, IfErr, refl}
use Rattle.std.proofs.Common.{sym, subst}
use Rattle.clap.specs.Words.{App, fault_of, is_simple_and_free, subcommand_of, subcommand_rows_of, takes}
use Rattle.mh_command.specs.Refused.{IsRefusedBy}
use Rattle.mh_command.specs.declared.no_task.NoTask.TheVariants.{NoMemory}
use Rattle.mh_look.proofs.command_line.matched.Goals as goal

pub returns-clause-found : goal.returns-clause-found
returns-clause-found g c =
    subst (λ (a : App). IfOk c.matches_of.result (λ m. subcommand_rows_of m ≡ subcommand_of a (map g.S.AsStr.text c.args.words.now))) c.in_ok-program.ensures
    (c.matches_of.ensures.found (subst (λ (a : App). is_simple_and_free a ≡ true) (sym c.in_ok-program.ensures) refl))

pub returns-clause-refused : goal.returns-clause-refused
returns-clause-refused g c =
    subst (λ (a : App). IsRefusedBy (fault_of a (map g.S.AsStr.text c.args.words.now)) c.matches_of.result) c.in_ok-program.ensures
    (c.matches_of.ensures.refused (subst (λ (a : App). is_simple_and_free a ≡ true) (sym c.in_ok-program.ensures) refl))

pub returns-clause-passes : goal.returns-clause-passes
returns-clause-passes g c =
    subst (λ (a : App). IfErr c.matches_of.result (λ why. takes a (map g.S.AsStr.text c.args.words.now) ≡ true → why ≡ NoMemory)) c.in_ok-program.ensures
    c.matches_of.ensures.passes
