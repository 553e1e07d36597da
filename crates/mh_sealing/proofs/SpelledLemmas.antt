-- What has a spelling is spelled as the laws want it, and what has none is told so.
use Rattle.std.specs.Prelude.{◌≡◌, ◌≤◌, ℕ, true, List, length}
use Rattle.std.specs.Cmp.Derive.{both_true}
use Rattle.std.proofs.Common.{subst}
use Rattle.std.proofs.lemmas.Bool.{le-leb}
use Rattle.sha2.specs.Sha256.{sha256}
use Rattle.mh_base.specs.Limits.{largest_file}
use Rattle.mh_group.specs.declared.written.Written.{Written}
use Rattle.mh_codec.specs.Spelling.{group}
use Rattle.mh_codec.specs.Tags.{profile}
use Rattle.mh_codec.specs.Writable.{Spells}
use Rattle.mh_seal.specs.Digests.{HasSpelling}
use Rattle.mh_seal_laws.specs.Digests.{is_spelled}

pub spelled_so : (x : Written) → HasSpelling x → is_spelled profile sha256 x ≡ true
unfolding Spells is_spelled
spelled_so x has =
    both_true (le-leb (length (group profile x)) largest_file (subst (λ (o : List ℕ). length o ≤ largest_file) has.1.0 has.1.1)) has.1.2
