-- Nodes by numbers: what is equal is one node, and so equality is as it should be. The laws of equality and hash cite these.
use Rattle.std.specs.Prelude.{◌≡◌, ℕ, zero, suc, ◌&&◌, ◌==◌, Bool, true, false, Option, Some, unwrap_or, refl}
use Rattle.std.specs.Cmp.{IsEquivalence, both_ways, first_so, second_so}
use Rattle.std.proofs.Common.{ap, ◌∙◌, sym, subst, true≢false}
use Rattle.std.proofs.lemmas.Bool.Decides.{Decides-eqb}
use Rattle.mh_base.specs.declared.event.EventType.{EventType}
use Rattle.mh_base.specs.declared.event.EventType.TheVariants.{IsAvailable}
use Rattle.mh_base.specs.Event.{event_of, number_of}
use Rattle.mh_layers.specs.declared.numbered_node.Hears.{Hears}
use Rattle.mh_layers.specs.declared.numbered_node.Hears.TheVariants as hears
use Rattle.mh_layers.specs.declared.numbered_node.NumberedNode.{NumberedNode}
use Rattle.mh_layers.specs.declared.numbered_node.NumberedNode.TheVariants as node
use Rattle.mh_layers.specs.declared.bounds.InputKind.{InputKind}
use Rattle.mh_layers.specs.declared.bounds.InputKind.TheVariants as input
use Rattle.mh_layers.specs.NumberedNodes.{hears_fed, node_fed, kind_number, same_flag, same_hears, same_node}

number : (m n : ℕ) → (m == n) ≡ true → m ≡ n
number m n e = (Decides-eqb m n).0 e

itself : (n : ℕ) → (n == n) ≡ true
itself n = (Decides-eqb n n).1 refl

flag : (a b : Bool) → same_flag a b ≡ true → a ≡ b
flag true true e = refl
flag false false e = refl
flag true false e = absurd (true≢false (sym e))
flag false true e = absurd (true≢false (sym e))

flag_itself : (a : Bool) → same_flag a a ≡ true
flag_itself true = refl
flag_itself false = refl

event_back : (t : EventType) → event_of (number_of t) ≡ Some t
event_back IsAvailable = refl
event_back t = refl

one : (t u : EventType) → Some t ≡ Some u → t ≡ u
one t u e = ap (λ (o : Option EventType). unwrap_or o t) e

kind : (t u : EventType) → (number_of t == number_of u) ≡ true → t ≡ u
kind t u e = one t u (sym (event_back t) ∙ ap event_of (number (number_of t) (number_of u) e) ∙ event_back u)

-- the kind of input with a number
abbrev kind_of : ℕ → InputKind
kind_of zero = input.Start
kind_of (suc zero) = input.Key
kind_of (suc (suc zero)) = input.Tick
kind_of (suc (suc (suc zero))) = input.Stream
kind_of (suc (suc (suc (suc zero)))) = input.Engine
kind_of n = input.Arrive

kind_back : (k : InputKind) → kind_of (kind_number k) ≡ k
kind_back input.Start = refl
kind_back k = refl

input_kind : (j k : InputKind) → (kind_number j == kind_number k) ≡ true → j ≡ k
input_kind j k e = sym (kind_back j) ∙ ap kind_of (number (kind_number j) (kind_number k) e) ∙ kind_back k

two : (a b : Bool) → (a && b) ≡ true → (a ≡ true) × (b ≡ true)
two a b e = (first_so a b e, second_so a b e)

pub hears_are_apart : (g h : Hears) → same_hears g h ≡ true → g ≡ h
hears_are_apart hears.Plain hears.Plain e = refl
hears_are_apart (hears.With x) (hears.With y) e = ap hears.With (number x y e)
hears_are_apart hears.Any hears.Any e = refl
hears_are_apart _ _ e = absurd (true≢false (sym e))

hears_itself : (g : Hears) → same_hears g g ≡ true
hears_itself hears.Plain = refl
hears_itself (hears.With x) = itself x
hears_itself hears.Any = refl

pub nodes_are_apart : (j k : NumberedNode) → same_node j k ≡ true → j ≡ k
nodes_are_apart (node.Effect c r n) (node.Effect d q m) e =
    let last = two (c == d && r == q) (n == m) e in
    let first = two (c == d) (r == q) last.0 in
    let a = number c d first.0 in let x = number r q first.1 in let y = number n m last.1 in
    λ i. node.Effect (a i) (x i) (y i)
nodes_are_apart (node.Fired c r t g) (node.Fired d q u h) e =
    let last = two (c == d && r == q && number_of t == number_of u) (same_hears g h) e in
    let third = two (c == d && r == q) (number_of t == number_of u) last.0 in
    let first = two (c == d) (r == q) third.0 in
    let a = number c d first.0 in let x = number r q first.1 in let y = kind t u third.1 in let z = hears_are_apart g h last.1 in
    λ i. node.Fired (a i) (x i) (y i) (z i)
nodes_are_apart (node.Entry r t g) (node.Entry q u h) e =
    let last = two (r == q && number_of t == number_of u) (same_hears g h) e in
    let first = two (r == q) (number_of t == number_of u) last.0 in
    let x = number r q first.0 in let y = kind t u first.1 in let z = hears_are_apart g h last.1 in
    λ i. node.Entry (x i) (y i) (z i)
nodes_are_apart (node.Change c r) (node.Change d q) e =
    let both = two (c == d) (r == q) e in
    let a = number c d both.0 in let x = number r q both.1 in
    λ i. node.Change (a i) (x i)
nodes_are_apart (node.Leave c a) (node.Leave d b) e =
    let both = two (c == d) (same_flag a b) e in
    let x = number c d both.0 in let y = flag a b both.1 in
    λ i. node.Leave (x i) (y i)
nodes_are_apart (node.Enter c) (node.Enter d) e = ap node.Enter (number c d e)
nodes_are_apart (node.Taken c k) (node.Taken d j) e =
    let both = two (c == d) (kind_number k == kind_number j) e in
    let x = number c d both.0 in let y = input_kind k j both.1 in
    λ i. node.Taken (x i) (y i)
nodes_are_apart _ _ e = absurd (true≢false (sym e))

pub node_itself : (k : NumberedNode) → same_node k k ≡ true
node_itself (node.Effect c r n) = λ i. itself c i && itself r i && itself n i
node_itself (node.Fired c r t g) = λ i. itself c i && itself r i && itself (number_of t) i && hears_itself g i
node_itself (node.Entry r t g) = λ i. itself r i && itself (number_of t) i && hears_itself g i
node_itself (node.Change c r) = λ i. itself c i && itself r i
node_itself (node.Leave c a) = λ i. itself c i && flag_itself a i
node_itself (node.Enter c) = itself c
node_itself (node.Taken c k) = λ i. itself c i && itself (kind_number k) i

-- a test that holds of what is one alone
equivalence : {X : Type 0} (same : X → X → Bool) → ((x : X) → same x x ≡ true) → ((x y : X) → same x y ≡ true → x ≡ y) → IsEquivalence same
equivalence {X} same own apart = record {
  refl = own;
  symm = λ x y. both_ways (same x y) (same y x) (turned x y) (turned y x);
  congr = λ x y z e. ap (λ (a : X). same a z) (apart x y e);
}
  where
    turned : (x y : X) → same x y ≡ true → same y x ≡ true
    turned x y e = subst (λ (a : X). same a x ≡ true) (apart x y e) (own x)

pub hears_laws : IsEquivalence same_hears
hears_laws = equivalence same_hears hears_itself hears_are_apart

pub node_laws : IsEquivalence same_node
node_laws = equivalence same_node node_itself nodes_are_apart

pub hears_alike : (g h : Hears) → same_hears g h ≡ true → hears_fed g ≡ hears_fed h
hears_alike g h e = ap hears_fed (hears_are_apart g h e)

pub node_alike : (j k : NumberedNode) → same_node j k ≡ true → node_fed j ≡ node_fed k
node_alike j k e = ap node_fed (nodes_are_apart j k e)
