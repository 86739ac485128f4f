-- "Some module or model list declares one name twice", told by the tree alone, without the walk.
use Rattle.std.specs.Prelude.{Bool, false, ◌||◌, List, [], ◌∷◌, map, ℕ, eqb}
use Rattle.ast.specs.Declarations.{module_lists}
use Rattle.ast.specs.Image.{last, name_of}
use Rattle.ast.specs.Tree.{tree_at}

unfoldable pub among : ℕ → List ℕ → Bool
among x [] = false
among x (y ∷ ys) = eqb x y || among x ys

-- some number stands twice
unfoldable pub repeats : List ℕ → Bool
unfolding among
repeats [] = false
repeats (x ∷ xs) = among x xs || repeats xs

-- some of the lists of nodes has one name twice
unfoldable pub some_repeats : (ℕ → ℕ) → List (List ℕ) → Bool
unfolding repeats
some_repeats name [] = false
some_repeats name (ns ∷ nss) = repeats (map name ns) || some_repeats name nss

-- some module or model list declares one name twice
unfoldable pub declared_twice : List ℕ → Bool
unfolding some_repeats module_lists
declared_twice img = some_repeats (name_of img) (module_lists (tree_at img (last img)))
