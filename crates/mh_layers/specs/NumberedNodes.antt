-- Nodes by numbers: when two are one, and what a hash is fed of them.
use Rattle.std.specs.Prelude.{◌≡◌, ℕ, Bool, true, false, ◌&&◌, ◌==◌, ◌++◌}
use Rattle.std.specs.Hash as fed
use Rattle.std.specs.Hash.{HashWrites}
use Rattle.mh_base.specs.Event.{number_of}
use Rattle.mh_layers.specs.declared.bounds.InputKind.{InputKind}
use Rattle.mh_layers.specs.declared.bounds.InputKind.TheVariants as kind
use Rattle.mh_layers.specs.declared.numbered_node.Hears.{Hears}
use Rattle.mh_layers.specs.declared.numbered_node.Hears.TheVariants as hears
use Rattle.mh_layers.specs.declared.numbered_node.NumberedNode.{NumberedNode}
use Rattle.mh_layers.specs.declared.numbered_node.NumberedNode.TheVariants as node

abbrev pub same_flag : Bool → Bool → Bool
same_flag true b = b
same_flag false true = false
same_flag false false = true

abbrev pub same_hears : Hears → Hears → Bool
same_hears hears.Plain hears.Plain = true
same_hears (hears.With x) (hears.With y) = x == y
same_hears hears.Any hears.Any = true
same_hears _ _ = false

abbrev pub kind_number : InputKind → ℕ
kind_number kind.Start = 0
kind_number kind.Key = 1
kind_number kind.Tick = 2
kind_number kind.Stream = 3
kind_number kind.Engine = 4
kind_number kind.Arrive = 5

abbrev pub same_node : NumberedNode → NumberedNode → Bool
same_node (node.Effect c r n) (node.Effect d q m) = c == d && r == q && n == m
same_node (node.Fired c r t g) (node.Fired d q u h) = c == d && r == q && number_of t == number_of u && same_hears g h
same_node (node.Entry r t g) (node.Entry q u h) = r == q && number_of t == number_of u && same_hears g h
same_node (node.Change c r) (node.Change d q) = c == d && r == q
same_node (node.Leave c a) (node.Leave d b) = c == d && same_flag a b
same_node (node.Enter c) (node.Enter d) = c == d
same_node (node.Taken c k) (node.Taken d j) = c == d && kind_number k == kind_number j
same_node _ _ = false

-- what is equal is one node
abbrev pub NodesAreApart : Type 0
NodesAreApart = (j k : NumberedNode) → same_node j k ≡ true → j ≡ k

-- what a hash is fed

abbrev pub hears_fed : Hears → HashWrites
hears_fed hears.Plain = fed.u8 0
hears_fed (hears.With x) = fed.u8 1 ++ fed.usize x
hears_fed hears.Any = fed.u8 2

abbrev pub node_fed : NumberedNode → HashWrites
node_fed (node.Effect c r n) = fed.u8 0 ++ fed.usize c ++ fed.usize r ++ fed.usize n
node_fed (node.Fired c r t g) = fed.u8 1 ++ fed.usize c ++ fed.usize r ++ fed.u32 (number_of t) ++ hears_fed g
node_fed (node.Entry r t g) = fed.u8 2 ++ fed.usize r ++ fed.u32 (number_of t) ++ hears_fed g
node_fed (node.Change c r) = fed.u8 3 ++ fed.usize c ++ fed.usize r
node_fed (node.Leave c a) = fed.u8 4 ++ fed.usize c ++ fed.bool a
node_fed (node.Enter c) = fed.u8 5 ++ fed.usize c
node_fed (node.Taken c k) = fed.u8 6 ++ fed.usize c ++ fed.u8 (kind_number k)
