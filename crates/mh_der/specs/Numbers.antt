-- The numbers that stand for what is wrong with an element.
use Rattle.std.specs.Prelude.{ℕ}
use Rattle.mh_der.specs.declared.der_error.Why.{Why}
use Rattle.mh_der.specs.declared.der_error.Why.TheVariants.{Truncated, BadTag, LongLength, Indefinite, BadInteger, BadBoolean, Trailing}

abbrev pub number_of : Why → ℕ
number_of Truncated = 1
number_of BadTag = 2
number_of LongLength = 3
number_of Indefinite = 4
number_of BadInteger = 5
number_of BadBoolean = 6
number_of Trailing = 7
