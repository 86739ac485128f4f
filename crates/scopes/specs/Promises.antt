-- What the contracts of the functions over declaration lists say: what is left of a list, how many names it may add, the stamps
-- of the names that a scope has, and what each function asks before it starts.
use Rattle.std.specs.Prelude.{◌≡◌, Bool, true, false, List, ℕ, suc, ◌+◌, ◌<◌, ◌≤◌, length, get_or, set, drop, replicate, Result, Ok, Err}
use Rattle.ast.specs.Declarations.{declared, declared_all}
use Rattle.ast.specs.Image.{nodes, kind_at, name_of}
use Rattle.ast.specs.Is.{Is, Run}
use Rattle.ast.specs.Named.{decl_kind}
use Rattle.ast.specs.Items.{items}
use Rattle.ast.specs.Kinds.{outer, inner, root, decl, signature, rule, enum, model, Kind, kind_of}
use Rattle.ast.specs.Tests.{verdict}
use Rattle.ast.specs.Tree.{Tree, node, block, Trees, none, ◌◂◌, tree_at, size, sizes}
use Rattle.typed.specs.declared.nodes.NodeList.{NodeList}
use Rattle.error.specs.declared.SymbolDeclaredTwice.{SymbolDeclaredTwice}
use Rattle.table.specs.Kept.{Kept}
use Rattle.table.specs.Layout.{table_length}
use Rattle.table.specs.Rising.{scope_of, node_at}
use Rattle.table.specs.State.{Walked}
use Rattle.table.specs.declared.ScopeId.{ScopeId}
use Rattle.environment.specs.Builder as Builder
use Rattle.environment.specs.Builder.{walked_of}
use Rattle.environment.specs.Layout.{environment_length}
use Rattle.environment.specs.Stands.{Stands, Opens, Named, Noted}
use Rattle.environment.specs.declared.ScopeBuilder.{ScopeBuilder}
use Rattle.scopes.specs.Answers.{table_of}
use Rattle.scopes.specs.Walk.{Listed, done, twice, recorded, and_then, enter_names, mark_all, enter_all, visit_all}
use Rattle.scopes.specs.declared.Resolved.{Resolved}

-- what a function over declarations hands back: nothing, or a name that is declared twice
abbrev pub Declared : Type 0
Declared = Result (Unit {0}) SymbolDeclaredTwice

-- that as the definition's, with where the walk stands then; what stands in the table after a clash is not told
abbrev pub listed_of : Declared → Walked → Listed
listed_of (Ok _) e = done e
listed_of (Err t) e = twice t.name t.first.0 t.second.0

-- what was noted, where the module is done
abbrev pub NotedBy : List ℕ → Result Resolved SymbolDeclaredTwice → List ℕ → List ℕ → Type 0
NotedBy img (Ok r) ws env = Noted img (table_of r ws) env
NotedBy img (Err t) ws env = Unit {0}

-- how many symbols entering a declaration, or a list of them, may add
abbrev pub ent : Tree → ℕ
ent u = length (declared u)

abbrev pub ents : Trees → ℕ
ents us = length (declared_all us)

-- how many symbols visiting a declaration may add
unfoldable mutual
  unfolding declared_all sizes

  pub vis : Tree → ℕ
  vis (block ts) = 0
  vis (node n k (inner i) sh ts) = 0
  vis (node n k (outer root) sh ts) = 0
  vis (node n k (outer decl) sh ts) = viss ts
  vis (node n k (outer signature) sh ts) = sizes ts
  vis (node n k (outer rule) sh ts) = sizes ts
  vis (node n k (outer enum) sh ts) = viss ts
  vis (node n k (outer model) sh ts) = ents ts + viss ts

  pub viss : Trees → ℕ
  viss none = 0
  viss (t ◂ ts) = vis t + viss ts

module _ (img : List ℕ) where
  -- what entering one declaration of a list gives
  unfoldable pub enter : Tree → Walked → Listed
  enter u e = enter_names img (declared u) (mark_all img (recorded u) e)

  -- a whole list: its names first, then its declarations
  abbrev pub over_list : Trees → Walked → Listed
  over_list us e = and_then img (enter_all img us e) (visit_all img us)

  -- the same of the nodes of a list
  abbrev pub whole_list : NodeList → Walked → Listed
  whole_list l e = over_list (items img l.node.0 l.count l.first) e

  -- each row of the scope that the walk stands in has its name stamped with the scope's number plus 1
  pub record Seen (seen : List ℕ) (e : Walked) : Type 0 where
    pub stamped : (j : ℕ) → j < e.table.symbols → scope_of (nodes img) e.table.words j ≡ e.scope
        → name_of img (node_at (nodes img) e.table.words j) < length seen
        → get_or seen (name_of img (node_at (nodes img) e.table.words j)) 0 ≡ suc e.scope

  -- names may be entered, m more at most
  pub record Entering (seen env : List ℕ) (m : ℕ) (e : Walked) : Type 0 where
    pub accepted : verdict img ≡ 0
    pub live : e.scope < nodes img
    pub room : e.table.symbols + m ≤ nodes img
    pub long : table_length (nodes img) ≤ length e.table.words
    pub stamps : Seen seen e
    pub opens : Opens img e env

  -- what entering hands back: the definition's, with the stamps of what was entered and what names stand for then, and the words
  -- past the table as they were
  pub record Entered (l : Listed) (ws : List ℕ) (r : Declared) (seen env : List ℕ) (e : Walked) : Type 0 where
    pub same : listed_of r e ≡ l
    pub stamps : (f : Walked) → l ≡ done f → Seen seen f
    pub opens : (f : Walked) → l ≡ done f → Opens img f env
    pub passed : drop (table_length (nodes img)) e.table.words ≡ drop (table_length (nodes img)) ws

  -- what visiting hands back
  pub record Visited (l : Listed) (ws : List ℕ) (r : Declared) (env : List ℕ) (e : Walked) : Type 0 where
    pub same : listed_of r e ≡ l
    pub stands : (f : Walked) → l ≡ done f → Stands img f env
    pub passed : drop (table_length (nodes img)) e.table.words ≡ drop (table_length (nodes img)) ws

  -- a type, pred, func, const or constructor
  pub record Signature (n : ℕ) : Type 0 where
    pub accepted : verdict img ≡ 0
    pub below : n < nodes img
    pub class : (kind_of (kind_at img n)).class ≡ outer signature

  -- a scopes and b symbols more fit
  pub record Fits (a b : ℕ) (e : Walked) : Type 0 where
    pub scopes : e.table.scopes + a ≤ nodes img
    pub symbols : e.table.symbols + b ≤ nodes img
    pub kept : Kept img e.table

  -- what visiting a declaration asks
  pub record Visit (kd : Kind) (n : ℕ) (e : Walked) : Type 0 where
    pub is : Is img kd n
    pub fits : Fits (size (tree_at img n)) (vis (tree_at img n)) e

  -- what the whole list asks: the walk stands in the newest scope, which has no row yet
  pub record ListRun (n j count : ℕ) (e : Walked) : Type 0 where
    pub run : Run img decl_kind n j count
    pub fits : Fits (sizes (items img n count j)) (ents (items img n count j) + viss (items img n count j)) e
    pub newest : suc e.scope ≡ e.table.scopes
    pub fresh : (j : ℕ) → j < e.table.symbols → scope_of (nodes img) e.table.words j < e.scope

-- the name x of node n may be entered in the scope s
pub record Naming (seen : List ℕ) (x n : ℕ) (b : ScopeBuilder) (s : ScopeId) : Type 0 where
  pub name : Named b.image.now n x
  pub entering : Entering b.image.now seen b.env.now 1 (walked_of b s)

-- what entering and visiting hand back, of the builder from before to after: the walk stands in the scope s
abbrev pub Enters : (Walked → Listed) → ScopeBuilder → ScopeId → Declared → List ℕ → ScopeBuilder → Type 0
Enters f old s r seen new = Entered old.image.now (f (walked_of old s)) old.table.now r seen new.env.now (walked_of new s)

abbrev pub Visits : (Walked → Listed) → ScopeBuilder → ScopeId → Declared → ScopeBuilder → Type 0
Visits f old s r new = Visited old.image.now (f (walked_of old s)) old.table.now r new.env.now (walked_of new s)

-- what each function asks of the builder, where the walk stands in the scope s: predicates, since how node and builder fit is a
-- fact of no one value. One that enters a declaration
abbrev pub MayEnter : Kind → ℕ → List ℕ → ScopeBuilder → ScopeId → Type 0
MayEnter kd n seen b s = Is b.image.now kd n × Entering b.image.now seen b.env.now (ent (tree_at b.image.now n)) (walked_of b s)

-- one that visits it
abbrev pub MayVisit : Kind → ℕ → ScopeBuilder → ScopeId → Type 0
MayVisit kd n b s = Visit b.image.now kd n (walked_of b s) × Stands b.image.now (walked_of b s) b.env.now

-- and one that walks a whole list
abbrev pub MayWalkAll : NodeList → ScopeBuilder → ScopeId → Type 0
MayWalkAll l b s = ListRun b.image.now l.node.0 l.first l.count (walked_of b s) × Opens b.image.now (walked_of b s) b.env.now

-- an accepted image, and a builder with no scope and no symbol, of enough words, all 0, and an environment of zeros
pub record Lent (img : List ℕ) (b : ScopeBuilder) : Type 0 where
  pub accepted : verdict img ≡ 0
  pub long : table_length (nodes img) ≤ length b.table.now
  pub zeros : (i : ℕ) → i < table_length (nodes img) → get_or b.table.now i 0 ≡ 0
  pub blank : b.env.now ≡ replicate environment_length 0
  pub starts : Builder.table_of b ≡ record { words = b.table.now; scopes = 0; symbols = 0 }

-- the name x stamped for the list s: whether it was not yet
pub record Stamped (seen : List ℕ) (x s : ℕ) (r : Bool) (vs : List ℕ) : Type 0 where
  pub new : r ≡ true → (get_or seen x 0 ≡ suc s → ⊥) × (x < length seen) × (vs ≡ set seen x (suc s))
  pub old : r ≡ false → (get_or seen x 0 ≡ suc s) × (vs ≡ seen)
