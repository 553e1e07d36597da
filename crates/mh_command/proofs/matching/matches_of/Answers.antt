use Rattle.std.specs.Prelude.{◌≡◌, true, map}
use Rattle.clap.specs.Words.{app_of, takes}
use Rattle.mh_command.proofs.MatchLemmas.{memory_told, subcommand_found}
use Rattle.mh_command.proofs.matching.matches_of.Goals as goal

pub returns-in_err-try_get_matches_from-clause-passes : goal.returns-in_err-try_get_matches_from-clause-passes
returns-in_err-try_get_matches_from-clause-passes g c =
    memory_told c.in_err-try_get_matches_from.field-0.0 (takes (app_of c.args.program) (map g.S.AsStr.text c.args.words.now) ≡ true) c.from_residual.result
    c.from_residual.ensures.1 c.in_err-try_get_matches_from.ensures.passes

pub returns-clause-found : goal.returns-clause-found
returns-clause-found g c = λ simple.
    subcommand_found (app_of c.args.program) (map g.S.AsStr.text c.args.words.now) c.in_ok-try_get_matches_from.field-0 simple
    c.in_ok-try_get_matches_from.ensures.matches
