-- The digest of a group: that of the octets that spell it by the tags of the profile.
use Rattle.std.specs.Prelude.{ℕ, List}
use Rattle.sha2.specs.Sha256.{sha256}
use Rattle.mh_group.specs.declared.written.Written.{Written}
use Rattle.mh_codec.specs.Spelling.{group}
use Rattle.mh_codec.specs.Tags.{profile}
use Rattle.mh_codec.specs.Writable.{Spells}

abbrev pub digest_of : Written → List ℕ
digest_of x = sha256 (group profile x)

-- the notation can hold the group
abbrev pub HasSpelling : Written → Type 0
HasSpelling x = (octets : List ℕ) × Spells profile octets x
