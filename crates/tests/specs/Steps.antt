-- What the tests of rows hand back as the code goes through them: vocabulary of its contracts.
use Rattle.std.specs.Prelude.{◌≡◌, List, ℕ, ◌<◌, ◌≤◌, Result, IfOk}
use Rattle.ast.specs.Image.{nodes, kind_at}
use Rattle.ast.specs.Promises.{claim_all}
use Rattle.ast.specs.Rows.{numbers, row_end, kids, kids_to}
use Rattle.ast.specs.Tests.{run, test_node, end_before}
use Rattle.error.specs.Refusals.{refusal_of}
use Rattle.error.specs.declared.Refusal.{Refusal}

-- the answer to a test: its refusal, or a value of which P holds
pub record Answered {A : Type 0} (test : ℕ) (P : A → Type 0) (r : Result A Refusal) : Type 0 where
  pub refusal : refusal_of r ≡ test
  pub went : IfOk r P

-- rows that passed: where they end, and the children claimed
pub record Ended (next : ℕ) (cs us vs : List ℕ) (end : ℕ) : Type 0 where
  pub place : end ≡ next
  pub claimed : vs ≡ claim_all cs us
  pub low : end ≤ 8192

module _ (img : List ℕ) where
  -- the nodes below n have kinds that there are
  abbrev pub KnownBelow : ℕ → Type 0
  KnownBelow n = (i : ℕ) → i < n → kind_at img i ≤ 40

  -- the answer to the tests of a node, and of each node
  abbrev pub NodeTested : ℕ → List ℕ → List ℕ → Result ℕ Refusal → Type 0
  NodeTested n us vs r = Answered (test_node img n) (Ended (row_end img n) (numbers (kids img n)) us vs) r

  abbrev pub NodesTested : List ℕ → List ℕ → Result ℕ Refusal → Type 0
  NodesTested us vs r = Answered (run (test_node img) (nodes img) 0) (Ended (end_before img (nodes img)) (kids_to img (nodes img)) us vs) r
