-- What the environment's words say along a walk: by name, what is found at the scope that the walk stands in; by symbol row,
-- what the row's name is above its scope; by node, what the name asked for there is at the node's entry and at its exit.
use Rattle.std.specs.Prelude.{◌≡◌, List, ℕ, zero, suc, ◌-◌, ◌<◌, ◌≤◌, length}
use Rattle.std.proofs.Math.Option.{Option, none, some}
use Rattle.ast.specs.Image.{nodes, name_of}
use Rattle.table.specs.Kept.{Kept}
use Rattle.table.specs.Rising.{scope_of, node_at, parent_at}
use Rattle.table.specs.State.{Walked}
use Rattle.table.specs.Table.{Table, Found, symbol_at, found, entry_at, exit_at}
use Rattle.environment.specs.Layout.{names_most, nodes_most, environment_length, standing, hidden, noted_entry, noted_exit}
use Rattle.environment.specs.Asked.{asked}

module _ (img : List ℕ) where
  -- what a word tells: nothing, or the symbol of a row, which it has by the row's number plus 1
  unfoldable pub told : List ℕ → ℕ → Option Found
  told ws zero = none
  told ws (suc j) = some (symbol_at img ws j)

  -- the word w tells o, by a row that is there
  pub record Tells (t : Table) (w : ℕ) (o : Option Found) : Type 0 where
    pub row : w ≤ t.symbols
    pub is : told t.words w ≡ o

  -- the word w, noted for a node that is recorded with the scope s, tells the name x there; for the module's own scope nothing is noted
  pub record Notes (t : Table) (s w x : ℕ) : Type 0 where
    pub live : 0 < s → s < t.scopes
    pub tells : 0 < s → Tells t w (found img t s x)

  -- what row j hides
  pub record Hides (t : Table) (env : List ℕ) (j : ℕ) : Type 0 where
    pub lower : parent_at (nodes img) t.words (scope_of (nodes img) t.words j) < scope_of (nodes img) t.words j
    pub name : name_of img (node_at (nodes img) t.words j) < names_most
    pub tells : Tells t (hidden env j) (found img t (parent_at (nodes img) t.words (scope_of (nodes img) t.words j)) (name_of img (node_at (nodes img) t.words j)))

  -- what the environment says wherever the walk stands
  pub record Says (t : Table) (env : List ℕ) : Type 0 where
    pub long : length env ≡ environment_length
    pub sized : nodes img ≤ nodes_most
    pub kept : Kept img t
    pub scopes : t.scopes ≤ nodes img
    pub symbols : t.symbols ≤ nodes img
    pub hides : (j : ℕ) → j < t.symbols → 0 < scope_of (nodes img) t.words j → Hides t env j
    pub entries : (n x : ℕ) → n < nodes img → asked img n ≡ some x → Notes t (entry_at img t.words n) (noted_entry env n) x
    pub exits : (n x : ℕ) → n < nodes img → asked img n ≡ some x → Notes t (exit_at img t.words n) (noted_exit env n) x

  -- by name what it stands for at the scope s
  abbrev pub At : Table → ℕ → List ℕ → Type 0
  At t s env = (x : ℕ) → x < names_most → Tells t (standing env x) (found img t s x)

  -- what a walk keeps of its environment: a predicate and no invariant, since it fails between a store in the table and its store here
  pub record Stands (e : Walked) (env : List ℕ) : Type 0 where
    pub says : Says e.table env
    pub live : e.scope < e.table.scopes
    pub here : At e.table e.scope env

  -- the same where the walk stands in the newest scope, and nothing was noted for it: names may be entered
  pub record Opens (e : Walked) (env : List ℕ) : Type 0 where
    pub stands : Stands e env
    pub newest : suc e.scope ≡ e.table.scopes
    pub lower : 0 < e.scope → parent_at (nodes img) e.table.words e.scope < e.scope
    pub entries : (n x : ℕ) → n < nodes img → asked img n ≡ some x → 0 < entry_at img e.table.words n → entry_at img e.table.words n < e.scope
    pub exits : (n x : ℕ) → n < nodes img → asked img n ≡ some x → 0 < exit_at img e.table.words n → exit_at img e.table.words n < e.scope

  -- the walk again in the parent of its scope
  abbrev pub above : Walked → Walked
  above e = record { scope = parent_at (nodes img) e.table.words e.scope; table = e.table }

  -- the rows of the scope s start with row r
  pub record First (t : Table) (s r : ℕ) : Type 0 where
    pub lower : parent_at (nodes img) t.words s < s
    pub before : (j : ℕ) → j < r → j < t.symbols → scope_of (nodes img) t.words j < s
    pub after : (j : ℕ) → r ≤ j → j < t.symbols → s ≤ scope_of (nodes img) t.words j

  -- from the scope s up to the scope `to`: the scopes that a walk made for one symbol each, so that rows and scopes go in step
  pub data Path (t : Table) (to : ℕ) : ℕ → Type 0 where
    here : Path t to to
    up : {s : ℕ} → to < s → s ≤ t.scopes → t.scopes - s ≤ t.symbols → First t s (t.symbols - (t.scopes - s)) → Path t to (parent_at (nodes img) t.words s) → Path t to s

  -- what names stand for at the module's scope, and what was noted, in a table that is done
  pub record Noted (t : Table) (env : List ℕ) : Type 0 where
    pub sized : nodes img ≤ nodes_most
    pub outer : At t 0 env
    pub entries : (n x : ℕ) → n < nodes img → asked img n ≡ some x → 0 < entry_at img t.words n → Tells t (noted_entry env n) (found img t (entry_at img t.words n) x)
    pub exits : (n x : ℕ) → n < nodes img → asked img n ≡ some x → 0 < exit_at img t.words n → Tells t (noted_exit env n) (found img t (exit_at img t.words n) x)

  -- what a name needs to be bound: x is the node's name, and a name of the image
  pub record Named (n x : ℕ) : Type 0 where
    pub is : x ≡ name_of img n
    pub below : x < names_most

  -- what a node is left with: the name x is asked for there, and the word v tells it at the entry
  pub record Asking (n x v entry : ℕ) (e : Walked) (env : List ℕ) : Type 0 where
    pub stands : Stands e env
    pub node : n < nodes img
    pub is : asked img n ≡ some x
    pub below : x < names_most
    pub live : entry < e.table.scopes
    pub tells : Tells e.table v (found img e.table entry x)
