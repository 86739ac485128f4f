-- Resolve: its answer and every word of the table afterwards, for every image and every lent table. Other calls resolve first: the
-- ways that such a call can go, and what it leaves by each, are told here for all of them.
use Rattle.std.specs.Prelude.{List, ℕ, zero, suc, ◌<◌, ◌≤◌, leb, length, set}
use Rattle.ast.specs.Image.{nodes, last}
use Rattle.ast.specs.Tests.{◌▸◌, need, verdict}
use Rattle.ast.specs.Tree.{tree_at}
use Rattle.ast.specs.Answer.{Answer, refused, twice as twice_answer, result}
use Rattle.table.specs.Layout.{nodes_place, scopes_place, symbols_place, parent_place, scope_place, node_place, table_length}
use Rattle.table.specs.Table.{Table}
use Rattle.rows.specs.Rows.{cleared}
use Rattle.scopes.specs.Walk.{Listed, done, twice, resolve_tree}

module _ (img tab : List ℕ) where
  -- the refusals of a call that is lent an image and a table: 1 to 13
  unfoldable pub test_table : ℕ
  test_table = verdict img ▸ need 13 (leb (table_length (nodes img)) (length tab))

  -- the first 3 + 5N words zero, the rest as it is
  unfoldable pub zeroed : List ℕ
  zeroed = cleared (table_length (nodes img)) tab

  -- the walk over the module's tree, from a table with no scope and no symbol
  unfoldable pub walked : Listed
  unfolding zeroed
  walked = resolve_tree img (tree_at img (last img)) (record { words = zeroed; scopes = 0; symbols = 0 })

-- the table with its three counts in front: its words, and the whole
unfoldable pub headed : List ℕ → Table → List ℕ
headed img t = set (set (set t.words nodes_place (nodes img)) scopes_place t.scopes) symbols_place t.symbols

abbrev pub counted : List ℕ → Table → Table
counted img t = record { words = headed img t; scopes = t.scopes; symbols = t.symbols }

-- the ways of a call that resolves: it refuses; it stops at a name that is declared twice; or it fills the table
pub data Way : Type 0 where
  refuses : (number : ℕ) → Way
  stops : (name first second : ℕ) → Way
  fills : Table → Way

unfoldable pub way_of : List ℕ → Listed → Way
way_of img (done e) = fills (counted img e.table)
way_of img (twice x a b) = stops x a b

-- the way of the call whose refusal is this number, 0 for none: all refusals come before "twice"
unfoldable pub way : List ℕ → List ℕ → ℕ → Way
way img tab refusal = elim refusal [ zero ↦ way_of img (walked img tab) | suc r ↦ refuses (suc r) ]

-- the answer, where f is what the call says of a table that it has filled
unfoldable pub answer_by : (Table → Answer) → Way → Answer
answer_by f (refuses number) = refused number
answer_by f (stops x a b) = twice_answer x a b
answer_by f (fills t) = f t

-- the words of the table afterwards: untouched, zeros in front, or filled
unfoldable pub table_by : List ℕ → List ℕ → Way → List ℕ
table_by img tab (refuses number) = tab
table_by img tab (stops x a b) = zeroed img tab
table_by img tab (fills t) = t.words

-- an answer, and the words of the table afterwards
pub record Outcome : Type 0 where
  pub answer : Answer
  pub table : List ℕ

-- a call that is lent a table: by its refusal, 0 for none, and what it says of the table that it has filled
unfoldable pub table_call : List ℕ → List ℕ → ℕ → (Table → Answer) → Outcome
table_call img tab refusal f = let w = way img tab refusal in record { answer = answer_by f w; table = table_by img tab w }

-- document 01's Resolve: K and Y
unfoldable pub resolve : List ℕ → List ℕ → Outcome
resolve img tab = table_call img tab (test_table img tab) (λ t. result t.scopes t.symbols)

-- a place of a table's arrays that it does not use: the parent of a scope, or the scope or the node of a symbol, that is not there
pub data Unused (img : List ℕ) (t : Table) : ℕ → Type 0 where
  parent : (k : ℕ) → t.scopes ≤ k → k < nodes img → Unused img t (parent_place (nodes img) k)
  scope : (j : ℕ) → t.symbols ≤ j → j < nodes img → Unused img t (scope_place (nodes img) j)
  symbol : (j : ℕ) → t.symbols ≤ j → j < nodes img → Unused img t (node_place (nodes img) j)
