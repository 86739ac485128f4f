-- What declaration lists declare, told by the tree alone.
use Rattle.std.specs.Prelude.{true, false, List, [], ◌∷◌, ◌++◌, ℕ, zero, suc, eqb}
use Rattle.std.proofs.Math.Option.{Option, none as nothing, some}
use Rattle.ast.specs.Kinds.{outer, inner, root, decl, signature, rule, enum, model}
use Rattle.ast.specs.Tree.{Tree, node, block, Trees, none, ◌◂◌}

-- a rule declares a name, or none
unfoldable pub rule_node : List ℕ → ℕ → List ℕ
rule_node [] n = []
rule_node (zero ∷ sh) n = []
rule_node (suc c ∷ sh) n = n ∷ []

-- the nodes whose names a list enters, in the list's order: constructors after their enum, unnamed rules not at all
unfoldable mutual
  unfolding rule_node

  pub declared : Tree → List ℕ
  declared (block ts) = []
  declared (node n k (inner i) sh ts) = []
  declared (node n k (outer root) sh ts) = []
  declared (node n k (outer decl) sh ts) = declared_all ts
  declared (node n k (outer signature) sh ts) = n ∷ []
  declared (node n k (outer rule) sh ts) = rule_node sh n
  declared (node n k (outer enum) sh ts) = n ∷ declared_all ts
  declared (node n k (outer model) sh ts) = n ∷ []

  pub declared_all : Trees → List ℕ
  declared_all none = []
  declared_all (u ◂ us) = declared u ++ declared_all us

-- what each model list declares, in the walk's order: a list before the lists of its own models
unfoldable mutual
  unfolding declared_all

  pub model_lists : Tree → List (List ℕ)
  model_lists (block ts) = []
  model_lists (node n k (inner i) sh ts) = []
  model_lists (node n k (outer root) sh ts) = []
  model_lists (node n k (outer decl) sh ts) = model_lists_all ts
  model_lists (node n k (outer signature) sh ts) = []
  model_lists (node n k (outer rule) sh ts) = []
  model_lists (node n k (outer enum) sh ts) = model_lists_all ts
  model_lists (node n k (outer model) sh ts) = declared_all ts ∷ model_lists_all ts

  pub model_lists_all : Trees → List (List ℕ)
  model_lists_all none = []
  model_lists_all (u ◂ us) = model_lists u ++ model_lists_all us

-- what each list of a module declares, the module's own first
unfoldable pub module_lists : Tree → List (List ℕ)
unfolding model_lists_all
module_lists (block ts) = []
module_lists (node n k c sh ts) = declared_all ts ∷ model_lists_all ts

-- o, or else u
abbrev pub or_else : {A : Type 0} → Option A → Option A → Option A
or_else nothing u = u
or_else (some a) u = some a

-- the first of the nodes with the name x, by the names of nodes
unfoldable pub earliest : (ℕ → ℕ) → List ℕ → ℕ → Option ℕ
earliest name [] x = nothing
earliest name (n ∷ ns) x = elim (eqb (name n) x) [ true ↦ some n | false ↦ earliest name ns x ]
