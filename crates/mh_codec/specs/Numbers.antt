-- The numbers that stand for what is wrong with octets, and with lines that name tags.
use Rattle.std.specs.Prelude.{ℕ, Option, Some, None}
use Rattle.mh_der.specs.Numbers.{number_of as der_number_of}
use Rattle.mh_codec.specs.declared.codec_error.Why.{Why}
use Rattle.mh_codec.specs.declared.codec_error.Why.TheVariants.{Der, UnknownTag, MissingField, WrongOrder, Limit, BadValue}
use Rattle.mh_codec.specs.declared.tag_error.TagError.{TagError}
use Rattle.mh_codec.specs.declared.tag_error.TagError.TheVariants as tag_error

abbrev pub number_of : Why → ℕ
number_of (Der why) = der_number_of why
number_of UnknownTag = 10
number_of MissingField = 11
number_of WrongOrder = 12
number_of Limit = 13
number_of BadValue = 14

-- want of memory has no number
abbrev pub tag_error_number : TagError → Option ℕ
tag_error_number (tag_error.Line line) = Some 60
tag_error_number (tag_error.Double context) = Some 61
tag_error_number tag_error.NoMemory = None
