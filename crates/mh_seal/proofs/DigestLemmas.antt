-- The digest of what was written is that of the group's one spelling.
use Rattle.std.specs.Prelude.{◌≡◌, ℕ, List}
use Rattle.std.proofs.Common.{ap, subst, ◌∙◌}
use Rattle.sha2.specs.Sha256.{sha256}
use Rattle.mh_group.specs.declared.written.Written.{Written}
use Rattle.mh_codec.specs.Spelling.{group}
use Rattle.mh_codec.specs.Tags.{Tags, profile}
use Rattle.mh_codec.specs.Writable.{Spells}
use Rattle.mh_seal.specs.Digests.{HasSpelling, digest_of}

pub digest_is : (tags : Tags) (octets digest : List ℕ) (x : Written) → tags ≡ profile → Spells tags octets x → digest ≡ sha256 octets → digest ≡ digest_of x
unfolding Spells
digest_is tags octets digest x same spells is = is ∙ ap sha256 (spells.0 ∙ ap (λ (t : Tags). group t x) same)

pub has_spelling : (tags : Tags) (octets : List ℕ) (x : Written) → tags ≡ profile → Spells tags octets x → HasSpelling x
has_spelling tags octets x same spells = (octets, subst (λ (t : Tags). Spells t octets x) same spells)
