-- Laws of the layout: the arrays are apart, and each stands past the counts and within the table.
use mathlib.Core.Path.{◌≡◌, ap}
use Prim.Native.Nat.{ℕ, ◌*◌, ◌<◌, ◌≤◌}
use native.Mathlib.Decide.{dec_lt}
use native.Mathlib.Omega.{arith}
use native.Mathlib.Nat.{mul-le-mul_right, suc-mul}
use Rattle.table.specs.Layout.{counts, arrays, place, table_length}

-- a word of an array stands before each of the arrays after it
pub before : (N a b i j : ℕ) → i < N → a < b → place a N i < place b N j
before N a b i j h l = let m = mul-le-mul_right N l in let s = suc-mul a N in omega arith

-- two words at one place are one word of one array
pub apart : (N a b i j : ℕ) → i < N → j < N → place a N i ≡ place b N j → (a ≡ b) × (i ≡ j)
apart N a b i j h k e = go (dec_lt a b) (dec_lt b a)
  where
    go : Dec (a < b) → Dec (b < a) → (a ≡ b) × (i ≡ j)
    go (yes l) d = absurd (let m = before N a b i j h l in omega arith)
    go (no l) (yes m) = absurd (let o = before N b a j i k m in omega arith)
    go (no l) (no m) = let q : a ≡ b = omega arith in let o = ap (λ (x : ℕ). x * N) q in (q, omega arith)

-- a word of an array stands past the counts and within the table
pub within : (N a i : ℕ) → a < arrays → i < N → (counts ≤ place a N i) × (place a N i < table_length N)
within N a i h k = let l = before N a arrays i 0 k h in (omega arith, omega arith)
