use Rattle.std.proofs.Common.{◌≡◌, ◌++◌, drop, map}
use Rattle.std.specs.List.{list_all}
use Rattle.sha2.specs.Sha256.{sha256}
use Rattle.mh_codec.specs.Tags.{profile}
use Rattle.mh_group.specs.Fit.{is_group}
use Rattle.mh_seal_laws.specs.Digests.{is_spelled}
use Rattle.mh_seal_laws.specs.Told.{told_group}
use Rattle.mh_sealing.proofs.telling.told_among.Given as goal

abbrev pub invariant-loop-file : goal.invariant-loop-file
invariant-loop-file l = record {
  told : l.groups ++ map (told_group l.late.keys) (drop l.file-index l.files) ≡ map (told_group l.late.keys) l.files;
  fit : list_all (λ f. is_group f.1) (drop l.file-index l.files) ≡ list_all (λ f. is_group f.1) l.files;
  spelled : list_all (λ f. is_spelled profile sha256 f.1) (drop l.file-index l.files) ≡ list_all (λ f. is_spelled profile sha256 f.1) l.files;
}
