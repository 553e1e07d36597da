use Rattle.std.proofs.Common.{◌∙◌, ap}
use Rattle.sha2.specs.Sha256.{sha256}
use Rattle.mh_seal.proofs.DigestLemmas.{digest_is}
use Rattle.mh_seal.proofs.digest.Digest.of_group.Goals as goal

pub returns-clause-found : goal.returns-clause-found
returns-clause-found c =
    digest_is c.in_ok-tags.tags c.in_ok-octets.octets.items c.of.result c.args.group.now c.in_ok-tags.ensures c.in_ok-octets.ensures.written (c.of.ensures ∙ ap sha256 c.as_slice.ensures.value)
