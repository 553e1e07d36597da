use Rattle.std.proofs.Common.{ap, ◌∙◌}
use Rattle.mh_lint.specs.Sources.{allow_words, behind_words, is_no_rule}
use Rattle.mh_lint.proofs.sources.names_no_rule.Goals as goal

pub returns : goal.returns
returns c = c.is_no_rule.ensures ∙ ap is_no_rule (c.behind_words.ensures ∙ ap (behind_words allow_words) c.without_terminator.ensures)
