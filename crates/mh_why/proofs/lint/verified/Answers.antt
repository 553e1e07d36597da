use Rattle.std.proofs.Common.{sym, ◌∙◌}
use Rattle.std.proofs.lemmas.Bool.{false≢true}
use Rattle.mh_why.proofs.LintLemmas.{refused_none}
use Rattle.mh_why.proofs.lint.verified.Goals as goal
use Rattle.mh_why.proofs.lint.verified.Goals.{in-NoMemory, in_default}

pub returns-else-wants_memory : goal.returns-else-wants_memory
returns-else-wants_memory c =
    elim c.match-matches.branch [
      | in-NoMemory w ↦ absurd (false≢true (sym c.if-wants_memory.false ∙ w.matches-is))
      | in_default w ↦ refused_none c.args.asked c.args.files.now c.args.service c.in-Err.refusal c.in-Err.ensures.told w.in_default.not-NoMemory
    ]
