use Rattle.std.proofs.Common.{◌≡◌, ◌<◌, sym, ap, ◌∙◌, subst, ℕ, List, Option, Vec, IfNone, IfSome, length}
use Rattle.std.specs.declared.alloc.Global.{Global}
use Rattle.std.specs.List.{list_any}
use Rattle.mh_paths.specs.declared.graph.Arrow.{Arrow}
use Rattle.mh_paths.specs.Chains.{IsFirstShortest, NoChain}
use Rattle.mh_flow.specs.declared.chain.moves.Holder.{Holder}
use Rattle.mh_flow.specs.Routes.{same_holder}
use Rattle.mh_flow.proofs.ChainGraphLemmas.{none_lead, number_within, told_first, told_none}
use Rattle.mh_flow.proofs.chain.search.links_between.Goals as goal

pub returns-in_default-clause-none : goal.returns-in_default-clause-none
returns-in_default-clause-none c =
    none_lead c.args.moves.now c.args.goal.now (ap (λ (ps : List Holder). list_any (same_holder c.args.goal.now) ps) (sym c.requires.holders) ∙ sym c.in_default.ensures.found)

pub first_chain-requires : goal.first_chain-requires
first_chain-requires c =
    number_within c.args.moves.now c.args.goal.now c.args.holders.now.keys c.args.action_sites.now.keys c.in_ok-graph.graph c.in_ok-starts.starts.items c.in-Some.number c.requires.action_sites c.requires.holders c.in_ok-graph.ensures c.in_ok-starts.ensures c.in-Some.ensures.index c.in-Some.ensures.within

pub returns-in-None-clause-none : goal.returns-in-None-clause-none
returns-in-None-clause-none c =
    let none : IfNone c.in_ok-chain.chain (NoChain c.in_ok-graph.graph c.in_ok-starts.starts.items c.in-Some.number) = rw c.as_slice.ensures.value at c.in_ok-chain.ensures.none in
    let none = subst (λ (o : Option (Vec Arrow Global)). IfNone o (NoChain c.in_ok-graph.graph c.in_ok-starts.starts.items c.in-Some.number)) c.in-None.is none in
    told_none c.args.moves.now c.args.goal.now c.args.holders.now.keys c.args.action_sites.now.keys c.in_ok-graph.graph c.in_ok-starts.starts.items c.in-Some.number c.requires.action_sites c.requires.holders c.in_ok-graph.ensures c.in_ok-starts.ensures c.in-Some.ensures.index none

pub returns-clause-some : goal.returns-clause-some
returns-clause-some c =
    let first = subst (λ (xs : List Arrow). IsFirstShortest c.in_ok-graph.graph xs c.in-Some.number c.in-Some-chain.trail.items) c.as_slice.ensures.value
    (subst (λ (o : Option (Vec Arrow Global)). IfSome o (λ trail. IsFirstShortest c.in_ok-graph.graph c.as_slice.result.now c.in-Some.number trail.items)) c.in-Some-chain.is c.in_ok-chain.ensures.some) in
    told_first c.args.moves.now c.args.goal.now c.args.holders.now.keys c.args.action_sites.now.keys c.in_ok-graph.graph c.in_ok-starts.starts.items c.in-Some.number c.requires.action_sites c.requires.holders c.in_ok-graph.ensures c.in_ok-starts.ensures c.in-Some.ensures.index
    (sym c.in-Some.ensures.found) c.in-Some-chain.trail.items first
    c.in_ok-links_of-in-Some-chain.field-0.items (rw c.as_slice-in-Some-chain.ensures.value at c.in_ok-links_of-in-Some-chain.ensures)
