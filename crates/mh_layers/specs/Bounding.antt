-- Bounds by kinds of input.
use Rattle.std.specs.Prelude.{◌≡◌, ◌<◌, ◌≤◌, ℕ, min, Bool, true, false, List, codes}
use Rattle.mh_laws.specs.Budget.{Bounds}
use Rattle.mh_layers.specs.declared.bounds.InputKind.{InputKind}
use Rattle.mh_layers.specs.declared.bounds.InputKind.TheVariants as kind
use Rattle.mh_layers.specs.Known.{top}

abbrev pub bound_by : Bounds → InputKind → ℕ
bound_by b kind.Start = b.start
bound_by b kind.Key = b.key
bound_by b kind.Tick = b.tick
bound_by b kind.Stream = b.stream
bound_by b kind.Engine = b.engine
bound_by b kind.Arrive = b.arrive

-- the words by which kinds are told
abbrev pub kind_word : InputKind → List ℕ
kind_word kind.Start = codes "start"
kind_word kind.Key = codes "key"
kind_word kind.Tick = codes "tick"
kind_word kind.Stream = codes "stream"
kind_word kind.Engine = codes "engine"
kind_word kind.Arrive = codes "arrive"

-- bounds as 64 bits can tell them
abbrev pub capped : Bounds → Bounds
capped b = record {
  start = min b.start top;
  key = min b.key top;
  tick = min b.tick top;
  stream = min b.stream top;
  engine = min b.engine top;
  arrive = min b.arrive top;
}

-- the kinds before this one
abbrev pub before : InputKind → InputKind → Bool
before kind.Start kind.Start = false
before kind.Start _ = true
before kind.Key kind.Start = false
before kind.Key kind.Key = false
before kind.Key _ = true
before kind.Tick kind.Stream = true
before kind.Tick kind.Engine = true
before kind.Tick kind.Arrive = true
before kind.Tick _ = false
before kind.Stream kind.Engine = true
before kind.Stream kind.Arrive = true
before kind.Stream _ = false
before kind.Engine kind.Arrive = true
before kind.Engine _ = false
before kind.Arrive _ = false

-- the bound of this kind is above the most that is allowed, and no bound of a kind before it is
pub record IsFirstAbove (most : ℕ) (b : Bounds) (k : InputKind) : Type 0 where
  pub above : most < bound_by b k
  pub first : (j : InputKind) → before j k ≡ true → bound_by b j ≤ most
