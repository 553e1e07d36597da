-- What clap found in words, or why it did not.
use Rattle.std.specs.Prelude.{◌≡◌, Bool, true, false, ◌&&◌, List, Result, Ok, Err, IfErr, IfOk, IsErrAnd, MatchResult, refl}
use Rattle.std.proofs.Common.{◌∙◌}
use Rattle.clap.specs.Words.{App, HasMatchesOf, Kinds, Text, fault_of, is_simple, is_simple_and_free, kind_of, subcommand_of, subcommand_rows_of, takes}
use Rattle.clap.specs.declared.error.Error.{Error}
use Rattle.clap.specs.declared.error.kind.ErrorKind.TheVariants.{OutOfMemory}
use Rattle.clap.specs.declared.parser.matches.ArgMatches.{ArgMatches}
use Rattle.mh_command.specs.Refused.{IsToldAs}
use Rattle.mh_command.specs.declared.no_task.NoTask.{NoTask}
use Rattle.mh_command.specs.declared.no_task.NoTask.TheVariants as no_task

first_of_both : (a b : Bool) → a && b ≡ true → a ≡ true
first_of_both true b e = refl
first_of_both false b e = absurd cc

-- the subcommand that a simple command's matches name
pub subcommand_found : (a : App) (words : List Text) (m : ArgMatches) → is_simple_and_free a ≡ true → HasMatchesOf a words m → subcommand_rows_of m ≡ subcommand_of a words
subcommand_found a words m simple has = (has (first_of_both (is_simple a) _ simple)).1

-- what becomes of clap's want of memory, where nothing else can go wrong
pub memory_told : {T : Type 0} (error : Error) (Fit : Type 0) (r : Result T NoTask) → IsErrAnd r (IsToldAs error) → (Fit → kind_of error ≡ OutOfMemory) → IfErr r (λ why. Fit → why ≡ no_task.NoMemory)
memory_told error Fit (Ok x) told memory = absurd told
memory_told error Fit (Err (no_task.Said said)) told memory = λ fit. absurd (told.1 (memory fit))
memory_told error Fit (Err no_task.NoMemory) told memory = λ fit. refl
