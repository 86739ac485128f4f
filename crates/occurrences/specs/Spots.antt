-- The Terms and AppHeads of a rule that have an IdentTerm directly below, in the order of the list of occurrences.
use Rattle.std.specs.Prelude.{List, [], ◌∷◌, ◌++◌, ℕ}
use Rattle.ast.specs.Kinds.{outer, inner, plain, term, ident, head, head_member, member, case, if_var, defined_then, arg}
use Rattle.ast.specs.Tree.{Tree, node, block, Trees, none, ◌◂◌}

-- a Term or AppHead, and the IdentTerm directly below it
pub record Spot : Type 0 where
  pub node : ℕ
  pub ident : ℕ

-- the walk's order, but a defined-then's variable before its term
unfoldable mutual
  pub spots : ℕ → Tree → List Spot
  spots o (block ts) = spots_seq o ts
  spots o (node n k (outer c) sh ts) = []
  spots o (node n k (inner plain) sh ts) = spots_seq n ts
  spots o (node n k (inner term) sh ts) = spots_seq n ts
  spots o (node n k (inner ident) sh ts) = record { node = o; ident = n } ∷ []
  spots o (node n k (inner head) sh ts) = spots_seq n ts
  spots o (node n k (inner head_member) sh ts) = spots_first n ts
  spots o (node n k (inner member) sh ts) = spots_first n ts
  spots o (node n k (inner case) sh ts) = spots_seq n ts
  spots o (node n k (inner if_var) sh ts) = spots_seq n ts
  spots o (node n k (inner defined_then) sh ts) = spots_back n ts
  spots o (node n k (inner arg) sh ts) = []

  pub spots_seq : ℕ → Trees → List Spot
  spots_seq o none = []
  spots_seq o (u ◂ us) = spots o u ++ spots_seq o us

  -- the first after the others
  pub spots_back : ℕ → Trees → List Spot
  spots_back o none = []
  spots_back o (u ◂ us) = spots_seq o us ++ spots o u

  pub spots_first : ℕ → Trees → List Spot
  spots_first o none = []
  spots_first o (u ◂ us) = spots o u

unfoldable pub rule_spots : Trees → List Spot
unfolding spots_seq
rule_spots ts = spots_seq 0 ts
