use Rattle.std.proofs.Common.{◌≡◌, ◌++◌, drop, map, None}
use Rattle.std.specs.List.{list_all}
use Rattle.mh_group.specs.Fit.{is_group}
use Rattle.mh_service.specs.Resolved.{resolved}
use Rattle.mh_service.specs.Refusals.{double_name, bad_reference}
use Rattle.mh_service.proofs.service.groups.Given as goal

abbrev pub invariant-loop-file : goal.invariant-loop-file
invariant-loop-file l = record {
  found : l.groups.entries ++ map resolved (drop l.file-index l.files) ≡ map resolved l.files;
  apart : double_name (map (λ e. e.0) l.groups.entries) (drop l.file-index l.files) ≡ None;
  allowed : list_all (λ f. is_group f.1) (drop l.file-index l.files) ≡ list_all (λ f. is_group f.1) l.files;
  good : bad_reference (drop l.file-index l.files) ≡ bad_reference l.files;
}
