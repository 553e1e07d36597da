use Rattle.std.proofs.Common.{◌≡◌, ◌++◌, drop}
use Rattle.mh_verdict.specs.Lines.{chain_lines}
use Rattle.mh_verdict.proofs.lines.put_chain.Given as goal

abbrev pub invariant-loop-link : goal.invariant-loop-link
invariant-loop-link l = l.text ++ chain_lines (drop l.link-index l.chain) ≡ l.initial.text ++ chain_lines l.chain
