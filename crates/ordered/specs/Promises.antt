-- What the walkers' contracts say: the walk over the tree of a node, over the children of a node that wraps an enum, over
-- what is left of a list; and what a walker asks before it starts.
use Rattle.std.specs.Prelude.{◌≡◌, Bool, List, ℕ, suc, ◌+◌, ◌-◌, ◌<◌, ◌≤◌, ◌^◌}
use Rattle.std.proofs.Math.Bool.{true, false}
use Rattle.std.proofs.Math.Option.{Option}
use Rattle.ast.specs.Image.{nodes}
use Rattle.ast.specs.Kinds.{Kind, kind_of}
use Rattle.ast.specs.Tree.{tree_at}
use Rattle.ast.specs.Items.{items, below}
use Rattle.ast.specs.Is.{Is, Run}
use Rattle.ast.specs.Named.{term_kind}
use Rattle.typed.specs.RowShapes.{Two}
use Rattle.typed.specs.declared.nodes.NodeList.{NodeList}
use Rattle.table.specs.Table.{Table, is_var, is_value}
use Rattle.table.specs.State.{Walked, introduce}
use Rattle.table.specs.declared.ScopeId.{ScopeId}
use Rattle.environment.specs.Stands.{Stands}
use Rattle.environment.specs.Builder.{walked_of}
use Rattle.environment.specs.declared.ScopeBuilder.{ScopeBuilder}
use Rattle.ordered.specs.Walk.{Role, occurs, declares, defines, names, walk, walk_seq}

-- the scope from which a role asks for the name of its ident
abbrev pub from : Role → Walked → ℕ
from occurs e = e.scope
from declares e = e.scope
from (defines b) e = b
from names e = e.scope

module _ (img : List ℕ) where
  -- what the name's symbol must be for the ident to introduce nothing
  abbrev pub asks : Role → Option ℕ → Bool
  asks occurs o = is_value img o
  asks declares o = is_var img o
  asks (defines b) o = is_var img o
  asks names o = true

  -- the walk over the tree of node n
  abbrev pub over : ℕ → Walked → Walked
  over n e = walk img occurs (tree_at img n) e

  -- the walk over the trees below node n
  abbrev pub inside : Role → ℕ → Walked → Walked
  inside r n e = walk_seq img r (below (tree_at img n)) e

  -- the walk over those of the count items from place j of n's row on that are left after i of them
  unfoldable pub rest : Role → (n j count i : ℕ) → Walked → Walked
  unfolding items
  rest r n j count i e = walk_seq img r (items img n (count - i) (j + i)) e

  -- the walk over the nodes of a list
  abbrev pub over_all : Role → NodeList → Walked → Walked
  over_all r l e = rest r l.node.0 l.first l.count 0 e

  -- the ident i introduced, unless it is known
  unfoldable pub unless : Bool → ℕ → Walked → Walked
  unfolding introduce
  unless known i e = elim known [ true ↦ e | false ↦ introduce img i e ]

-- what a walker hands back: where the walk ends, and an environment that says what names stand for there
pub record Ends (img : List ℕ) (end e : Walked) (env : List ℕ) : Type 0 where
  pub same : e ≡ end
  pub stands : Stands img e env

-- the counts are within the arrays
pub record Few (img : List ℕ) (t : Table) : Type 0 where
  pub scopes : t.scopes ≤ nodes img
  pub symbols : t.symbols ≤ nodes img

-- what a walk keeps: the counts fit a word and the arrays. A walk only appends, so this holds before it if it holds after it:
-- walkers ask it of their end
pub record Room (img : List ℕ) (e : Walked) : Type 0 where
  pub scopes : e.table.scopes < 2 ^ 32
  pub symbols : e.table.symbols < 2 ^ 32
  pub few : Few img e.table

-- what a walker asks: the node is of its kind, and there is room for the walk over it
pub record Ready (img : List ℕ) (kd : Kind) (n : ℕ) (e : Walked) : Type 0 where
  pub is : Is img kd n
  pub room : Room img (over img n e)

-- the same of the term of a variable, in its role
pub record Variable (img : List ℕ) (r : Role) (n : ℕ) (e : Walked) : Type 0 where
  pub is : Is img (kind_of term_kind) n
  pub room : Room img (walk img r (tree_at img n) e)

-- the ThenAtom `atom` is a defined-then, the node id; `var` and `term` are its terms, and var's ident is `ident`
pub record Defining (img : List ℕ) (atom id var term ident : ℕ) : Type 0 where
  pub defined : Two img atom 1 id
  pub terms : Two img id (suc var) term
  pub named : Two img var 0 ident

-- the same of a run of children
pub record ReadyRun (img : List ℕ) (k n j count : ℕ) (e : Walked) : Type 0 where
  pub run : Run img k n j count
  pub room : Room img (rest img occurs n j count 0 e)

-- of the nodes of a list
abbrev pub ReadyAll : List ℕ → ℕ → NodeList → Walked → Type 0
ReadyAll img k l e = ReadyRun img k l.node.0 l.first l.count e

-- what a walker asks of the builder, at the scope that the walk stands in: it is ready, and names stand for what lookup gives
-- there. A predicate, since how node, scope and builder fit is a fact of no one value
abbrev pub Starts : Kind → ℕ → ScopeBuilder → ScopeId → Type 0
Starts kd n b s = Ready b.image.now kd n (walked_of b s) × Stands b.image.now (walked_of b s) b.env.now

abbrev pub StartsAll : ℕ → NodeList → ScopeBuilder → ScopeId → Type 0
StartsAll k l b s = ReadyAll b.image.now k l (walked_of b s) × Stands b.image.now (walked_of b s) b.env.now

abbrev pub StartsVariable : Role → ℕ → ScopeBuilder → ScopeId → Type 0
StartsVariable r n b s = Variable b.image.now r n (walked_of b s) × Stands b.image.now (walked_of b s) b.env.now

-- what it hands back: from the scope s of the old builder the walk f ends in the scope s' of the new one
abbrev pub Walks : (Walked → Walked) → ScopeBuilder → ScopeId → ScopeBuilder → ScopeId → Type 0
Walks f old s new s' = Ends old.image.now (f (walked_of old s)) (walked_of new s') new.env.now
