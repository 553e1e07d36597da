use Rattle.std.proofs.Common.{◌∙◌, [], sym, ap}
use Rattle.std.specs.Str.{bytes_eq}
use Rattle.std.proofs.lemmas.List.{get_or_read}
use Rattle.mh_base.specs.declared.obj_ref.ObjRef.{ObjRef}
use Rattle.mh_model.specs.Reference.{group_ref}
use Rattle.mh_stack.proofs.line.is_of.Goals as goal

pub returns : goal.returns
returns c =
    let read = get_or_read c.args.refs.now c.args.index c.index-refs-index.result c.requires c.index-refs-index.is in
    c.eq.ensures ∙ ap (λ (r : ObjRef). bytes_eq r.group c.args.application.now) (sym (read c.index-refs-index.result) ∙ read (group_ref []))
