-- The universal tags that are used (ITU-T X.690, 8.2, 8.3, 8.7 and 8.9).
use Rattle.std.specs.Prelude.{true, false}
use Rattle.mh_der.specs.declared.tag.Tag.{Tag}
use Rattle.mh_der.specs.declared.tag.TagClass.TheVariants.{Universal}

abbrev pub boolean_tag : Tag
boolean_tag = record { class = Universal; is_constructed = false; number = 1 }

abbrev pub integer_tag : Tag
integer_tag = record { class = Universal; is_constructed = false; number = 2 }

abbrev pub octet_string_tag : Tag
octet_string_tag = record { class = Universal; is_constructed = false; number = 4 }

abbrev pub sequence_tag : Tag
sequence_tag = record { class = Universal; is_constructed = true; number = 16 }
