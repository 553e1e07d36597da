-- The numbers that stand for what is wrong with a text.
use Rattle.std.specs.Prelude.{ℕ}
use Rattle.mh_text.specs.declared.text_error.Why.{Why}
use Rattle.mh_text.specs.declared.text_error.Why.TheVariants.{Lexical, Syntax, UnknownName, Range, Limit}

abbrev pub number_of : Why → ℕ
number_of Lexical = 20
number_of Syntax = 21
number_of UnknownName = 22
number_of Range = 23
number_of Limit = 24
