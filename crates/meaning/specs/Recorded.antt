-- The words of the theorems that tie meanings to a table; the only definitions here that know one.
use Rattle.std.specs.Prelude.{◌≡◌, List, ℕ}
use Rattle.table.specs.Table.{Table, lookup, entry_at, exit_at}
use Rattle.meaning.specs.Meaning.{Env}
use Rattle.meaning.specs.Meetings.{Meeting}

module _ (img : List ℕ) (T : Table) where
  -- lookup at the scope s gives what the environment says
  abbrev pub Reads : ℕ → Env → Type 0
  Reads s env = (x : ℕ) → lookup img T s x ≡ env x

  -- at the entry of the node n it gives what env says, at its exit what env' says
  pub record Around (n : ℕ) (env env' : Env) : Type 0 where
    pub entry : Reads (entry_at img T.words n) env
    pub exit : Reads (exit_at img T.words n) env'

  -- the table has of a node what the environments before and after it say
  abbrev pub Recorded : Meeting → Type 0
  Recorded w = Around w.node w.before w.after
