use Rattle.mh_service.proofs.ServiceLemmas.{is_service_of, has_keys_of}
use Rattle.mh_service.proofs.service.Service.of_files.Goals as goal

-- the groups are allowed, and what is no service was refused
pub invariant_of-result : goal.invariant_of-result
invariant_of-result c =
    let allowed = rw c.as_slice-2.ensures.value at c.in_ok-groups.ensures.allowed in
    let good = rw c.as_slice.ensures.value at c.in_ok-refuse_before.ensures.good in
    rw (c.in_ok-groups.ensures.groups, c.as_slice-2.ensures.value) (is_service_of c.args.start c.args.files.items c.new.result.items c.in_ok-kept.kept.items c.new-2.result.items allowed good, has_keys_of c.args.start c.args.files.items c.new.result.items c.in_ok-kept.kept.items c.new-2.result.items allowed good)
