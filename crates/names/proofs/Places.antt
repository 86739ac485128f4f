-- The image test, one place after another: sizes, names, each node, whole tree.
use mathlib.Core.Path.{◌≡◌, ◌∙◌}
use mathlib.Core.List.{List}
use Prim.Native.Nat.{ℕ}
use Rattle.ast.specs.Image.{nodes}
use Rattle.ast.specs.Tests.{◌▸◌, run, test_sizes, test_names, test_node, test_tree, verdict}
use Rattle.ast.proofs.Accepted.{skip, stop-at}

-- the places after the names: each node, whole tree
abbrev pub after_names : List ℕ → ℕ
after_names img = run (test_node img) (nodes img) 0 ▸ test_tree img

module _ (img : List ℕ) where
  pub verdict-sizes : (k : ℕ) → test_sizes img ≡ k → (k ≡ 0 → ⊥) → verdict img ≡ k
  unfolding verdict
  verdict-sizes k e z = stop-at _ _ k e z

  module _ (a : test_sizes img ≡ 0) where
    pub verdict-names : (k : ℕ) → test_names img ≡ k → (k ≡ 0 → ⊥) → verdict img ≡ k
    unfolding verdict
    verdict-names k e z = skip _ _ a ∙ stop-at _ _ k e z

    pub verdict-nodes : test_names img ≡ 0 → verdict img ≡ run (test_node img) (nodes img) 0 ▸ test_tree img
    unfolding verdict
    verdict-nodes b = skip _ _ a ∙ skip _ _ b
