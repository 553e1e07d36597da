-- The numbers of refusals.
use Rattle.std.specs.Prelude.{ℕ}
use Rattle.mh_service.specs.declared.service_error.Why.{Why}
use Rattle.mh_service.specs.declared.service_error.Why.TheVariants as why

abbrev pub why_number : Why → ℕ
why_number why.DoubleName = 30
why_number why.NoStart = 31
why_number why.DoubleNumber = 32
why_number why.NotAnApplication = 33
why_number why.Limit = 34
why_number why.BadReference = 35
