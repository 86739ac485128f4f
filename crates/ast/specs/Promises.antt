-- What the code knows of an image once its sizes and names are read, and how it counts children: vocabulary of contracts.
use Rattle.std.specs.Prelude.{◌≡◌, List, [], ◌∷◌, ℕ, zero, suc, ◌+◌, ◌*◌, ◌<◌, ◌≤◌, length, get_or, set}
use Rattle.ast.specs.Image.{nodes, operands, names, bytes, name_start, name_end}
use Rattle.ast.specs.declared.Sizes.{Sizes}

-- s holds the sizes N, C, S, B of the image
pub record Head (img : List ℕ) (s : Sizes) : Type 0 where
  pub nodes_are : s.nodes ≡ nodes img
  pub operands_are : s.operands ≡ operands img
  pub names_are : s.names ≡ names img
  pub bytes_are : s.bytes ≡ bytes img

-- the sizes have passed 1 to 3
pub record Within (img : List ℕ) (s : Sizes) : Type 0 where
  pub head : Head img s
  pub some : 0 < s.nodes
  pub few : s.nodes ≤ 2048
  pub short : s.operands ≤ 8192
  pub called : s.names ≤ 1024
  pub long : s.bytes ≤ 8192
  pub exact : length img ≡ 16 + 8 * s.nodes + 4 * s.operands + 4 * s.names + s.bytes

-- name ends rise strictly from above 0, and the last is B
pub record Rises (img : List ℕ) : Type 0 where
  pub rises : (i : ℕ) → i < names img → name_start img i < name_end img i
  pub ends : name_start img (names img) ≡ bytes img

-- how often a node stands as a child: 0, 1, or 2 for several; one time more
unfoldable pub bump : ℕ → ℕ
bump zero = 1
bump (suc x) = 2

-- the counts after the nodes of a list are claimed as children
unfoldable pub claim_all : List ℕ → List ℕ → List ℕ
claim_all [] us = us
claim_all (c ∷ cs) us = claim_all cs (set us c (bump (get_or us c 0)))
