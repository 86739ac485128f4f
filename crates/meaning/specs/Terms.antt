-- The ordinary ident terms of a rule, by its tree alone: Terms of case Ident, but for an if-var's term and a defined-then's variable.
use Rattle.std.specs.Prelude.{Bool, true, false, List, [], ◌∷◌, ◌++◌, ℕ, zero, suc}
use Rattle.ast.specs.Kinds.{outer, inner, plain, term, ident, head, head_member, member, case, if_var, defined_then, arg}
use Rattle.ast.specs.Rules.{Rule}
use Rattle.ast.specs.Tree.{Tree, node, block, Trees, none, ◌◂◌}
use Rattle.occurrences.specs.Spots.{Spot}

-- whether an IdentTerm directly below an app head of this shape is an ordinary one: it names the head
unfoldable pub below_head : List ℕ → Bool
below_head [] = true
below_head (zero ∷ _) = false
below_head (suc c ∷ _) = true

-- the IdentTerm i of the node o, if it is an ordinary one
unfoldable pub term_if : Bool → ℕ → ℕ → List Spot
term_if true o i = record { node = o; ident = i } ∷ []
term_if false o i = []

-- those of a tree in the walk's order, each with its IdentTerm; whether an IdentTerm met here is an ordinary one, and the node above
unfoldable mutual
  unfolding below_head term_if

  pub terms : Bool → ℕ → Tree → List Spot
  terms b o (block ts) = terms_seq true o ts
  terms b o (node n k (outer c) sh ts) = []
  terms b o (node n k (inner plain) sh ts) = terms_seq true n ts
  terms b o (node n k (inner term) sh ts) = terms_seq b n ts
  terms b o (node n k (inner ident) sh ts) = term_if b o n
  terms b o (node n k (inner head) sh ts) = terms_seq (below_head sh) n ts
  terms b o (node n k (inner head_member) sh ts) = terms_first n ts
  terms b o (node n k (inner member) sh ts) = terms_first n ts
  terms b o (node n k (inner case) sh ts) = terms_seq true n ts
  terms b o (node n k (inner if_var) sh ts) = terms_first n ts
  terms b o (node n k (inner defined_then) sh ts) = terms_first n ts
  terms b o (node n k (inner arg) sh ts) = []

  pub terms_seq : Bool → ℕ → Trees → List Spot
  terms_seq b o none = []
  terms_seq b o (u ◂ us) = terms b o u ++ terms_seq b o us

  -- the first for itself, then the others, whose IdentTerms are no ordinary ones
  pub terms_first : ℕ → Trees → List Spot
  terms_first o none = []
  terms_first o (u ◂ us) = terms true o u ++ terms_seq false o us

unfoldable pub rule_terms : Rule → List Spot
unfolding terms_seq
rule_terms r = terms_seq true 0 r.statements
