-- Where a symbol is found, by the rows and the parents of a table: the words of document 02's S-2.
use Rattle.std.specs.Prelude.{◌≡◌, List, ℕ, ◌<◌}
use mathlib.Core.Logic.{◌≢◌}
use Rattle.ast.specs.Image.{nodes, name_of}
use Rattle.table.specs.Rising.{scope_of, node_at, parent_at}
use Rattle.table.specs.Table.{Table, Found}

module _ (img : List ℕ) (t : Table) where
  -- row j is one of the scope s, of a node with the name x
  pub record Holds (s x j : ℕ) : Type 0 where
    pub row : j < t.symbols
    pub scope : scope_of (nodes img) t.words j ≡ s
    pub name : name_of img (node_at (nodes img) t.words j) ≡ x

  -- the scope u is s or above it: the way up goes on while the parent's number is smaller
  pub data Over (u : ℕ) : ℕ → Type 0 where
    itself : Over u u
    higher : {s : ℕ} → parent_at (nodes img) t.words s < s → Over u (parent_at (nodes img) t.words s) → Over u s

  -- f is where the name x is found from the scope s: its scope is s or above it, and holds a row of the name; no scope between the two
  -- holds one; and its node is that of the earliest such row
  pub record FoundAt (s x : ℕ) (f : Found) : Type 0 where
    pub over : Over f.scope s
    pub row : ℕ
    pub holds : Holds f.scope x row
    pub nearest : (v : ℕ) → Over v s → Over f.scope v → v ≢ f.scope → (j : ℕ) → Holds v x j → ⊥
    pub node : f.node ≡ node_at (nodes img) t.words row
    pub earliest : (j : ℕ) → Holds f.scope x j → j < row → ⊥

  -- it is found nowhere
  abbrev pub FoundNowhere : ℕ → ℕ → Type 0
  FoundNowhere s x = (v : ℕ) → Over v s → (j : ℕ) → Holds v x j → ⊥
