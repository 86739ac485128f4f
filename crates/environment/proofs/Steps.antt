-- The words that the code stores, as the steps of a walk.
use mathlib.Core.Path.{◌≡◌, refl, ap, ◌∙◌}
use mathlib.Core.List.{List}
use Prim.Native.Nat.{ℕ, ◌+◌}
use lib.ListN.{set}
use Rattle.ast.specs.Image.{nodes}
use Rattle.table.specs.Layout.{all_ones, place, entries, exits, parents, symbol_scopes, symbol_nodes}
use Rattle.table.specs.State.{Walked, child_scope, own_symbol, marked, unmarked}
use Rattle.table.specs.Table.{Table, mark_words, mark, new_scope, new_symbol}
use Rattle.table.proofs.Steps.{place_is}
use Rattle.environment.specs.Builder.{Keeps}
use Rattle.environment.specs.declared.ScopeBuilder.{ScopeBuilder}

-- a table, and where a walk stands, by their numbers
abbrev filled : ℕ → ℕ → List ℕ → Table
filled k y ws = record { words = ws; scopes = k; symbols = y }

abbrev standing : ℕ → ℕ → ℕ → List ℕ → Walked
standing k y s ws = record { scope = s; table = filled k y ws }

-- the code's n nodes are those of the image
module _ (img : List ℕ) (n : ℕ) (nodes_are : n ≡ nodes img) where
  stored_is : (ws us : List ℕ) (p array i v : ℕ) → p ≡ place array n i → us ≡ set ws p v → us ≡ set ws (place array (nodes img) i) v
  stored_is ws us p array i v e f = f ∙ ap (λ (q : ℕ). set ws q v) (place_is img n nodes_are p array i e)

  -- two words stored
  module _ (ws vs us : List ℕ) (p q i v w : ℕ) (first : vs ≡ set ws p v) (second : us ≡ set vs q w) where
    both : (a b : ℕ) → p ≡ place a n i → q ≡ place b n i → us ≡ set (set ws (place a (nodes img) i) v) (place b (nodes img) i) w
    both a b e f =
        stored_is vs us q b i w f second ∙ ap (λ (xs : List ℕ). set xs (place b (nodes img) i) w) (stored_is ws vs p a i v e first)

    pub mark-is : (k y : ℕ) → p ≡ place entries n i → q ≡ place exits n i → filled k y us ≡ mark img i v w (filled k y ws)
    unfolding mark mark_words
    mark-is k y e f = ap (filled k y) (both entries exits e f)

    pub symbol-is : (k : ℕ) → p ≡ place symbol_scopes n i → q ≡ place symbol_nodes n i → standing k (i + 1) v us ≡ own_symbol img w (standing k i v ws)
    unfolding own_symbol new_symbol
    symbol-is k e f = ap (standing k (i + 1) v) (both symbol_scopes symbol_nodes e f)

  pub child-is : (ws us : List ℕ) (p k y s : ℕ) → p ≡ place parents n k → us ≡ set ws p s → standing (k + 1) y k us ≡ child_scope img (standing k y s ws)
  unfolding child_scope new_scope
  child-is ws us p k y s e f = ap (standing (k + 1) y k) (stored_is ws us p parents k s e f)

-- a node's mark, with the scope that the walk stands in
module _ (img : List ℕ) (m s : ℕ) (t u : Table) where
  pub marked-is : (c : ℕ) → u ≡ mark img m c s t → record { scope = s; table = u } ≡ marked img m c (record { scope = s; table = t })
  unfolding marked
  marked-is c e = ap (λ (v : Table). record { scope = s; table = v }) e

  pub unmarked-is : u ≡ mark img m all_ones all_ones t → record { scope = s; table = u } ≡ unmarked img m (record { scope = s; table = t })
  unfolding unmarked
  unmarked-is e = ap (λ (v : Table). record { scope = s; table = v }) e

-- the words that a builder was lent stay lent
pub keeps_same : (b : ScopeBuilder) → Keeps b b
keeps_same b = record { image = refl; table = refl; env = refl; long = refl }

pub keeps-then : {a b c : ScopeBuilder} → Keeps a b → Keeps b c → Keeps a c
keeps-then p q = record { image = q.image ∙ p.image; table = q.table ∙ p.table; env = q.env ∙ p.env; long = q.long ∙ p.long }
