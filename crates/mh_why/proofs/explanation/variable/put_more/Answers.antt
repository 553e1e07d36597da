use Rattle.std.specs.Prelude.{◌++◌, codes}
use Rattle.mh_text.specs.Landmarks.{Through}
use Rattle.mh_why.specs.Sources.{variable_words}
use Rattle.mh_why.proofs.VariableLemmas.{one_put, two_put}
use Rattle.mh_why.proofs.explanation.variable.put_more.Goals as goal

pub loop-variable-preserved : goal.loop-variable-preserved
loop-variable-preserved c =
    one_put (λ (t : Through). codes ", " ++ variable_words c.args.from.now t) c.args.variables.now c.loop-variable.variable-index c.variable-item.result _ c.loop-variable.words c.put_variable.new.words
    c.loop-variable-test.true c.variable-item.is
    (two_put c.loop-variable.words (codes ", ") (variable_words c.args.from.now c.variable-item.result) c.put.new.self c.put_variable.new.words c.in_ok-put.ensures c.in_ok-put_variable.ensures)
    c.loop-variable.invariant
