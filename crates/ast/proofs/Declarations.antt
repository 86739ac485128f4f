-- Laws of "or else", and of the first node with a name.
use mathlib.Core.Path.{◌≡◌, refl}
use mathlib.Core.Bool.{Bool, true, false}
use mathlib.Core.List.{List, [], ◌∷◌, ◌++◌}
use mathlib.Core.Option.{Option, none, some}
use Prim.Native.Nat.{ℕ}
use lib.Dec.{eqb}
use Rattle.ast.specs.Declarations.{or_else, earliest}

pub or_else-none : {A : Type 0} (o : Option A) → or_else o none ≡ o
or_else-none none = refl
or_else-none (some a) = refl

pub or_else-assoc : {A : Type 0} (o p q : Option A) → or_else (or_else o p) q ≡ or_else o (or_else p q)
or_else-assoc none p q = refl
or_else-assoc (some a) p q = refl

-- of two lists of nodes, the first goes first
pub earliest-append : (name : ℕ → ℕ) (ns ms : List ℕ) (x : ℕ) → earliest name (ns ++ ms) x ≡ or_else (earliest name ns x) (earliest name ms x)
unfolding earliest
earliest-append name [] ms x = refl
earliest-append name (n ∷ ns) ms x = go (eqb (name n) x) (earliest-append name ns ms x)
  where
    go : (b : Bool) → earliest name (ns ++ ms) x ≡ or_else (earliest name ns x) (earliest name ms x)
        → ◌≡◌ {A = Option ℕ} (elim b [ true ↦ some n | false ↦ earliest name (ns ++ ms) x ]) (or_else (elim b [ true ↦ some n | false ↦ earliest name ns x ]) (earliest name ms x))
    go true h = refl
    go false h = h
