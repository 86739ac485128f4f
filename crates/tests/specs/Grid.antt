-- The grid of child kinds (request S-4): an entry for each parent kind and child kind, in row order.
use Rattle.std.specs.Prelude.{◌≡◌, ◌≢◌, List, [], ◌∷◌, ℕ, ◌+◌, ◌*◌, ◌<◌, ◌≤◌, length, get_or, Option, Some}
use Rattle.std.specs.Int.{bit_at}
use Rattle.ast.specs.Kinds.{Field, name, opt_name, child, opt_child, list, lists, cases, no_child, kind_of}
use Rattle.ast.specs.Tests.{is}

-- the kinds of the children by place: in a kind that wraps an enum the place is the case number, else the position among the fields
-- that hold children
unfoldable pub places : List Field → List ℕ
places [] = []
places (name ∷ gs) = places gs
places (opt_name ∷ gs) = places gs
places (child k ∷ gs) = k ∷ places gs
places (opt_child k ∷ gs) = k ∷ places gs
places (list k ∷ gs) = k ∷ places gs
places (lists k ∷ gs) = k ∷ places gs
places (cases ks ∷ gs) = ks

-- those of a parent kind
unfoldable pub places_of : ℕ → List ℕ
unfolding places
places_of k = places (kind_of k).fields

-- the kind that a parent kind admits at a place, or no_child
unfoldable pub admitted : ℕ → ℕ → ℕ
admitted parent place = get_or (places_of parent) place no_child

-- a parent kind that wraps an enum of `count` cases, of which `bare` has no child
pub record Wraps (parent count : ℕ) (bare : Option ℕ) : Type 0 where
  pub long : length (places_of parent) ≡ count
  pub few : count ≤ 8
  pub childless : (case : ℕ) → case < count → bare ≡ Some case → admitted parent case ≡ no_child
  pub others : (case : ℕ) → case < count → bare ≢ Some case → admitted parent case ≢ no_child

-- the rule of the grid: bit p of an entry is set exactly where the parent admits that child at place p
pub record Ruled (grid : List ℕ) : Type 0 where
  pub long : length grid ≡ 1681
  pub entries : (parent child place : ℕ) → parent ≤ 40 → child ≤ 40 → bit_at (get_or grid (41 * parent + child) 0) place ≡ is child (admitted parent place)
