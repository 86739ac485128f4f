-- The environment's words: by name what it stands for here, by symbol row what the row hides, by node what was noted there.
use Rattle.std.specs.Prelude.{List, Option, Some, None, ℕ, ◌+◌, get_or, set}

-- how many names and how many nodes there may be
abbrev pub names_most : ℕ
names_most = 1024

abbrev pub nodes_most : ℕ
nodes_most = 2048

abbrev pub hidden_place : ℕ → ℕ
hidden_place j = 1024 + j

abbrev pub entry_note : ℕ → ℕ
entry_note n = 3072 + n

abbrev pub exit_note : ℕ → ℕ
exit_note n = 5120 + n

-- how many words an environment has
abbrev pub environment_length : ℕ
environment_length = 7168

-- the word of a symbol row that a name stands for, and of none
abbrev pub standing_of : Option ℕ → ℕ
standing_of (Some j) = j + 1
standing_of None = 0

-- the word of a name
abbrev pub standing : List ℕ → ℕ → ℕ
standing env x = get_or env x 0

-- what row j hides: the word that its name had before
abbrev pub hidden : List ℕ → ℕ → ℕ
hidden env j = get_or env (hidden_place j) 0

-- the words that are noted for a node's entry and for its exit
abbrev pub noted_entry : List ℕ → ℕ → ℕ
noted_entry env n = get_or env (entry_note n) 0

abbrev pub noted_exit : List ℕ → ℕ → ℕ
noted_exit env n = get_or env (exit_note n) 0

-- the name x stands for row j; what it stood for is hidden under the row
unfoldable pub bound : List ℕ → ℕ → ℕ → List ℕ
bound env x j = set (set env (hidden_place j) (standing env x)) x (j + 1)

-- the word v noted for the entry of node n, and w for its exit
unfoldable pub noted : List ℕ → ℕ → ℕ → ℕ → List ℕ
noted env n v w = set (set env (entry_note n) v) (exit_note n) w
