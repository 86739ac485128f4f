-- Tables that agree on what each scope has, and on its parent, give the same lookups.
use mathlib.Core.Path.{◌≡◌, refl, ap, ap₂, ◌∙◌}
use mathlib.Core.Bool.{Bool, true, false}
use mathlib.Core.List.{List}
use mathlib.Core.Option.{Option, none, some}
use Prim.Native.Nat.{ℕ, zero, suc, ◌<◌}
use native.Mathlib.Omega.{arith}
use lib.Dec.{ltb}
use borrow.Author.Tests.{ltb-true}
use Rattle.ast.specs.Image.{nodes}
use Rattle.table.specs.Rising.{parent_at}
use Rattle.table.specs.Table.{Table, Found, found_node, climb, held, found, lookup}

abbrev pub through : Bool → Option Found → Option Found
through b rest = elim b [ true ↦ rest | false ↦ none ]

-- a scope's own symbols, then its parent's
abbrev pub above : Option Found → ℕ → ℕ → Option Found → Option Found
above o p s rest = elim o [ some f ↦ some f | none ↦ through (ltb p s) rest ]

pub above-cong : (o : Option Found) (p s : ℕ) (u v : Option Found) → (p < s → u ≡ v) → above o p s u ≡ above o p s v
above-cong (some f) p s u v h = refl
above-cong none p s u v h = go (ltb p s) (λ t. h (ltb-true p s t))
  where
    go : (b : Bool) → (b ≡ true → u ≡ v) → through b u ≡ through b v
    go true f = f refl
    go false f = refl

module _ (img : List ℕ) where
  -- what two tables say of the scopes below k
  abbrev pub Agree : ℕ → Table → Table → Type 0
  Agree k t u = (s : ℕ) → s < k → ((x : ℕ) → held img t s x ≡ held img u s x) × (parent_at (nodes img) t.words s ≡ parent_at (nodes img) u.words s)

  climb-agree : (f k : ℕ) (t u : Table) (s x : ℕ) → s < k → Agree k t u → climb img f t.words t.symbols s x ≡ climb img f u.words u.symbols s x
  unfolding climb held
  climb-agree zero k t u s x l h = refl
  climb-agree (suc f) k t u s x l h =
      let p = parent_at (nodes img) t.words s in
      above-cong (held img t s x) p s (climb img f t.words t.symbols p x) (climb img f u.words u.symbols p x) (λ b. climb-agree f k t u p x (omega arith) h)
      ∙ ap₂ (λ o q. above o q s (climb img f u.words u.symbols q x)) ((h s l).0 x) (h s l).1

  pub found-agree : (k : ℕ) (t u : Table) (s x : ℕ) → s < k → Agree k t u → found img t s x ≡ found img u s x
  unfolding found
  found-agree k t u s x l h = climb-agree (suc s) k t u s x l h

  pub lookup-agree : (k : ℕ) (t u : Table) (s x : ℕ) → s < k → Agree k t u → lookup img t s x ≡ lookup img u s x
  unfolding lookup
  lookup-agree k t u s x l h = ap found_node (found-agree k t u s x l h)
