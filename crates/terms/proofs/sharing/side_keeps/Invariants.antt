use mathlib.Core.List.{List}
use Prim.Native.Nat.{ℕ, ◌+◌, ◌≤◌, ◌<◌}
use Rattle.terms.specs.declared.atom.Atom.{Atom}
use Rattle.terms.specs.Nonces.{NoncesIn}
use Rattle.terms.specs.Slot.{any_slots}
use Rattle.terms.specs.Graph.{NonceNode}
use Rattle.terms.specs.TermGraph.{node_of}
use Rattle.terms.specs.Names.{name_of}
use Rattle.terms.proofs.sharing.side_keeps.Given as goal

abbrev pub invariant-loop-k : goal.invariant-loop-k
invariant-loop-k l = (atoms : List Atom) → NoncesIn atoms l.nonces → (j : ℕ) → any_slots ≤ j → j < l.k
    → NonceNode atoms (node_of l.g.s.now l.g.t.now (name_of l.c (l.slots + j)))
