-- Prices by number come to what they do by name.
use Rattle.std.specs.Prelude.{◌≡◌, ℕ, Result, refl}
use Rattle.mh_laws.specs.Price.{Price, Nothing, One, Node, Plus, Most, Nodes}
use Rattle.mh_layers.specs.Known.{added, larger, known_worth}
use Rattle.mh_layers.specs.Numbered.{numbered}

pub known_numbered : {K L E : Type 0} (g : K → L) (f : L → Result ℕ E) (p : Price K) → known_worth f (numbered g p) ≡ known_worth (λ k. f (g k)) p
known_numbered g f Nothing = refl
known_numbered g f One = refl
known_numbered g f (Node k) = refl
known_numbered g f (Plus p q) = λ i. added (known_numbered g f p i) (known_numbered g f q i)
known_numbered g f (Most p q) = λ i. larger (known_numbered g f p i) (known_numbered g f q i)

pub nodes_numbered : {K L : Type 0} (g : K → L) (P : L → Type 0) (p : Price K) → Nodes P (numbered g p) → Nodes (λ k. P (g k)) p
nodes_numbered g P Nothing h = tt
nodes_numbered g P One h = tt
nodes_numbered g P (Node k) h = h
nodes_numbered g P (Plus p q) h = (nodes_numbered g P p h.0, nodes_numbered g P q h.1)
nodes_numbered g P (Most p q) h = (nodes_numbered g P p h.0, nodes_numbered g P q h.1)

pub numbered_nodes : {K L : Type 0} (g : K → L) (P : L → Type 0) (p : Price K) → Nodes (λ k. P (g k)) p → Nodes P (numbered g p)
numbered_nodes g P Nothing h = tt
numbered_nodes g P One h = tt
numbered_nodes g P (Node k) h = h
numbered_nodes g P (Plus p q) h = (numbered_nodes g P p h.0, numbered_nodes g P q h.1)
numbered_nodes g P (Most p q) h = (numbered_nodes g P p h.0, numbered_nodes g P q h.1)
