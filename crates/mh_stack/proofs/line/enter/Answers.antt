use Rattle.std.proofs.Common.{◌∙◌, ap, List}
use Rattle.mh_base.specs.declared.obj_ref.ObjRef.{ObjRef}
use Rattle.mh_stack.specs.References.{refs_at}
use Rattle.mh_stack.specs.Rings.{order}
use Rattle.mh_stack.proofs.RefLemmas.{entered, fitted, grown_inside, inside_told, own_ref}
use Rattle.mh_stack.proofs.line.enter.Goals as goal

pub returns-clause-within : goal.returns-clause-within
returns-clause-within c = grown_inside _ _ _ c.in-Ok.entry.1 _ c.requires.fit c.in-Ok.ensures.len c.len.ensures.within

pub returns-clause-fit : goal.returns-clause-fit
returns-clause-fit c = fitted c.in-Ok.entry.1 _ _ _ _ c.requires.fit c.in-Ok.ensures.len c.grow_if.ensures.long

pub returns-clause-own : goal.returns-clause-own
returns-clause-own c = own_ref _ c.args.at c.in-Ok.entry.0 c.in-Ok.ensures.stored

pub returns-clause-kept : goal.returns-clause-kept
returns-clause-kept c =
    ap (λ (rs : List ObjRef). refs_at rs (order c.args.ring.now)) c.in-Ok.ensures.keys ∙ entered c.args.refs.now.keys c.args.at _ (inside_told _ _ _ c.requires.fit c.len.ensures.within)
