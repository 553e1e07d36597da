-- What a writer's refusal says: the notation cannot hold what was to be written.
use Rattle.std.specs.Prelude.{◌≡◌, ◌≢◌, ℕ, Bool, false, List}
use Rattle.mh_group.specs.declared.written.Written.{Written}
use Rattle.mh_codec.specs.declared.codec_error.CodecError.{CodecError}
use Rattle.mh_codec.specs.declared.codec_error.CodecError.TheVariants.{At, NoMemory}
use Rattle.mh_codec.specs.declared.codec_error.Why.TheVariants.{Limit}
use Rattle.mh_codec.specs.Tags.{Tags}
use Rattle.mh_codec.specs.Writable.{Spells}

-- unless memory ran out, the error is that of a limit and the test of what was to be written fails
abbrev pub Refuses : Bool → CodecError → Type 0
Refuses fits e = e ≢ NoMemory → (e ≡ At Limit 0) × (fits ≡ false)

-- no octets spell the group
abbrev pub HasNoSpelling : Tags → Written → Type 0
HasNoSpelling tags g = (octets : List ℕ) → Spells tags octets g → ⊥
