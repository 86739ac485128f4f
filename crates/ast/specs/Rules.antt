-- The rules of a module, each with what names mean outside it.
use mathlib.Core.List.{List, [], ◌∷◌, ◌++◌}
use Rattle.std.proofs.Math.Option.{Option}
use Rattle.std.specs.Prelude.{ℕ}
use Rattle.ast.specs.Image.{last, name_of}
use Rattle.ast.specs.Kinds.{outer, inner, root, decl, signature, rule, enum, model}
use Rattle.ast.specs.Declarations.{declared_all, or_else, earliest}
use Rattle.ast.specs.Tree.{Tree, node, block, Trees, none, ◌◂◌, tree_at}

-- a rule: its statements, and the outer meaning of names there
pub record Rule : Type 0 where
  pub statements : Trees
  pub meaning : ℕ → Option ℕ

module _ (img : List ℕ) where
  -- what a declaration list says a name is: the first node that it declares with that name
  abbrev pub says_all : Trees → ℕ → Option ℕ
  says_all ts = earliest (name_of img) (declared_all ts)

  -- the rules of a list: what the innermost list around a rule that declares a name says is the name's outer meaning
  unfoldable mutual
    pub rules : (ℕ → Option ℕ) → Tree → List Rule
    rules m (block ts) = []
    rules m (node n k (inner i) sh ts) = []
    rules m (node n k (outer root) sh ts) = []
    rules m (node n k (outer decl) sh ts) = rules_all m ts
    rules m (node n k (outer signature) sh ts) = []
    rules m (node n k (outer rule) sh ts) = record { statements = ts; meaning = m } ∷ []
    rules m (node n k (outer enum) sh ts) = rules_all m ts
    rules m (node n k (outer model) sh ts) = rules_all (λ x. or_else (says_all ts x) (m x)) ts

    pub rules_all : (ℕ → Option ℕ) → Trees → List Rule
    rules_all m none = []
    rules_all m (u ◂ us) = rules m u ++ rules_all m us

  unfoldable pub rules_of : Tree → List Rule
  unfolding rules_all
  rules_of (block ts) = []
  rules_of (node n k c sh ts) = rules_all (says_all ts) ts

  -- the rules of the module, in the list's order
  unfoldable pub module_rules : List Rule
  unfolding rules_of
  module_rules = rules_of (tree_at img (last img))
