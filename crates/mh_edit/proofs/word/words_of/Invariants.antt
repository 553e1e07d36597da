use Rattle.std.proofs.Common.{◌≡◌, ◌++◌, ◌-◌, length}
use Rattle.mh_base.specs.Reading.{whole}
use Rattle.mh_edit.specs.Words.{words_from}
use Rattle.mh_edit.proofs.word.words_of.Given as goal

abbrev pub invariant-loop : goal.invariant-loop
invariant-loop l = l.found.items ++ words_from (length l.bytes - l.counter) l.tokens ≡ words_from (length l.bytes) (whole l.bytes)
