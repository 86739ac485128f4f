-- The table's layout: three counts, then arrays of N words each, by their ranks.
use Rattle.std.specs.Prelude.{ℕ, ◌+◌, ◌*◌}

-- the all-ones word: the parent of the first scope, and both places of an AppHeadMember
abbrev pub all_ones : ℕ
all_ones = 4294967295

-- the words N, K (scopes) and Y (symbols), and how many such counts there are
abbrev pub nodes_place : ℕ
nodes_place = 0

abbrev pub scopes_place : ℕ
scopes_place = 1

abbrev pub symbols_place : ℕ
symbols_place = 2

abbrev pub counts : ℕ
counts = 3

-- the arrays by their ranks: a node's entry and exit, a scope's parent, a symbol's scope and node
abbrev pub entries : ℕ
entries = 0

abbrev pub exits : ℕ
exits = 1

abbrev pub parents : ℕ
parents = 2

abbrev pub symbol_scopes : ℕ
symbol_scopes = 3

abbrev pub symbol_nodes : ℕ
symbol_nodes = 4

-- how many arrays there are
abbrev pub arrays : ℕ
arrays = 5

-- the i-th word of an array, in a table for N nodes
abbrev pub place : ℕ → ℕ → ℕ → ℕ
place array N i = counts + array * N + i

-- how many words a table for N nodes needs
abbrev pub table_length : ℕ → ℕ
table_length N = counts + arrays * N

abbrev pub entry_place : ℕ → ℕ → ℕ
entry_place = place entries

abbrev pub exit_place : ℕ → ℕ → ℕ
exit_place = place exits

abbrev pub parent_place : ℕ → ℕ → ℕ
parent_place = place parents

abbrev pub scope_place : ℕ → ℕ → ℕ
scope_place = place symbol_scopes

abbrev pub node_place : ℕ → ℕ → ℕ
node_place = place symbol_nodes
