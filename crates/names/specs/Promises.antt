-- What the tests of the names (4, 5) ask and hand back as the code goes through them: buckets of names by a hash of their bytes.
-- Vocabulary of its contracts.
use Rattle.std.specs.Prelude.{◌≡◌, Bool, true, false, List, [], ◌∷◌, ℕ, suc, ◌+◌, ◌*◌, ◌%◌, ◌<◌, ◌≤◌, get_or}
use Rattle.ast.specs.Image.{names, name_bytes}
use Rattle.ast.specs.Tests.{run, same, unequal}

-- the bucket of bytes
unfoldable pub hash : ℕ → List ℕ → ℕ
hash h [] = h
hash h (x ∷ xs) = hash ((37 * h + x) % 1024) xs

-- m stands in the chain from a place on; a place is one more than a name, 0 the end
pub data Reach (next : List ℕ) : ℕ → ℕ → Type 0 where
  here : {j : ℕ} → Reach next (suc j) j
  there : {j m : ℕ} → Reach next (get_or next j 0) m → Reach next (suc j) m

-- the chain of a bucket's earlier names, for the name i: next falls
pub record Chain (img : List ℕ) (i first : ℕ) (next : List ℕ) : Type 0 where
  pub name : i < names img
  pub low : first ≤ i
  pub falls : (j : ℕ) → j < i → get_or next j 0 ≤ j

-- whether a name of the chain has the bytes of i
pub record Met (img : List ℕ) (i first : ℕ) (next : List ℕ) (r : Bool) : Type 0 where
  pub found : r ≡ true → run (unequal img i) i 0 ≡ 5
  pub none : r ≡ false → (m : ℕ) → Reach next first m → same (name_bytes img m) (name_bytes img i) ≡ false
