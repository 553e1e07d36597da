use Rattle.mh_lint.proofs.sources.+first_text.Given as goal

abbrev pub decreases-first_text : goal.decreases-first_text
decreases-first_text l = l.count
