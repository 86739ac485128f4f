-- Document 01, "Sight, for the third demand": places, sight, naming, fresh definitions and variable occurrences, by order
-- and nesting alone, without scopes.
use Rattle.std.specs.Prelude.{◌≡◌, ◌⊎◌, Bool, false, List, [], ◌∷◌, ℕ, zero, suc, ◌≤◌, ◌<◌, eqb}
use Rattle.std.proofs.Math.Option.{none as nothing, some}
use Rattle.ast.specs.Image.{kind_at}
use Rattle.ast.specs.Kinds.{outer, inner, plain, term, ident, head, head_member, member, case, if_var, defined_then, arg}
use Rattle.ast.specs.Tree.{Tree, node, block, Trees, none, ◌◂◌}
use Rattle.ast.specs.Rules.{Rule}

-- what an IdentTerm is at its place: an ordinary ident term, an if-var ident, an app head's ident, or a defined-then
-- variable, with the number that was next where its atom starts
pub data Sort : Type 0 where
  ordinary declared applied : Sort
  defined : ℕ → Sort

-- Places, branch blocks and match cases are numbered in one row, as the walk meets them.
pub record Place : Type 0 where
  pub at : ℕ  -- its number
  pub node : ℕ  -- the Term or AppHead
  pub ident : ℕ  -- the IdentTerm, which carries the name
  pub sort : Sort
  pub around : List ℕ  -- the numbers of the branch blocks and match cases around it

-- what was met: the next number, and the places, the last one first
pub record Met : Type 0 where
  pub next : ℕ
  pub places : List Place

unfoldable pub add : Sort → ℕ → List ℕ → ℕ → Met → Met
add σ o b i m =
    record {
      next = suc m.next;
      places = record { at = m.next; node = o; ident = i; sort = σ; around = b } ∷ m.places;
    }

unfoldable pub opened : Met → Met
opened m = record { next = suc m.next; places = m.places }

unfoldable pub head_sort : List ℕ → Sort
head_sort [] = ordinary
head_sort (zero ∷ _) = applied
head_sort (suc c ∷ _) = ordinary

-- The places of a tree, in the walk's order (a tree has its children so). The sort is the one of an IdentTerm directly
-- below, `o` its Term or AppHead, `b` the blocks and cases around. Member names give no place.
unfoldable mutual
  unfolding add opened head_sort

  pub place : Sort → ℕ → List ℕ → Tree → Met → Met
  place σ o b (block ts) m = place_seq ordinary o (m.next ∷ b) ts (opened m)
  place σ o b (node n k (outer c) sh ts) m = m
  place σ o b (node n k (inner plain) sh ts) m = place_seq ordinary n b ts m
  place σ o b (node n k (inner term) sh ts) m = place_seq σ n b ts m
  place σ o b (node n k (inner ident) sh ts) m = add σ o b n m
  place σ o b (node n k (inner head) sh ts) m = place_seq (head_sort sh) n b ts m
  place σ o b (node n k (inner head_member) sh ts) m = place_first n b ts m
  place σ o b (node n k (inner member) sh ts) m = place_first n b ts m
  place σ o b (node n k (inner case) sh ts) m = place_seq ordinary n (m.next ∷ b) ts (opened m)
  place σ o b (node n k (inner if_var) sh ts) m = place_then declared n b ts m
  place σ o b (node n k (inner defined_then) sh ts) m = place_then (defined m.next) n b ts m
  place σ o b (node n k (inner arg) sh ts) m = m

  -- one after another
  pub place_seq : Sort → ℕ → List ℕ → Trees → Met → Met
  place_seq σ o b none m = m
  place_seq σ o b (u ◂ us) m = place_seq σ o b us (place σ o b u m)

  -- the first as an ordinary one, then the others in the given sort
  pub place_then : Sort → ℕ → List ℕ → Trees → Met → Met
  place_then σ o b none m = m
  place_then σ o b (u ◂ us) m = place_seq σ o b us (place ordinary o b u m)

  -- the first alone
  pub place_first : ℕ → List ℕ → Trees → Met → Met
  place_first o b none m = m
  place_first o b (u ◂ us) m = place ordinary o b u m

-- the places of a rule's statements
unfoldable pub rule_places : Trees → List Place
unfolding place_seq
rule_places ts = (place_seq ordinary 0 [] ts (record { next = 0; places = [] })).places

abbrev pub In : {A : Type 0} → A → List A → Type 0
In a [] = ⊥
In a (x ∷ xs) = (a ≡ x) ⊎ In a xs

-- every number of the first list is in the second
abbrev pub Within : List ℕ → List ℕ → Type 0
Within a b = (n : ℕ) → In n a → In n b

-- p is q or stands before it, and every block and case around p is around q
abbrev pub Sees : Place → Place → Type 0
Sees p q = (p.at ≤ q.at) × Within p.around q.around

-- the names of IdentTerms, whether a name's outer meaning is Const, and the places of a rule
module _ (name : ℕ → ℕ) (const : ℕ → Bool) where
  abbrev pub Named : Place → Place → Type 0
  Named p q = name p.ident ≡ name q.ident

  abbrev pub Names : Sort → ℕ → Type 0
  Names ordinary x = const x ≡ false
  Names declared x = Unit {0}
  Names (defined k) x = Unit {0}
  Names applied x = ⊥

  abbrev pub Naming : Place → Type 0
  Naming p = Names p.sort (name p.ident)

  module _ (ps : List Place) where
    -- a naming place of q's name, in sight of q, numbered below k
    abbrev pub NamedBelow : ℕ → Place → Type 0
    NamedBelow k q = (p : Place) × In p ps × Naming p × Named p q × (p.at < k) × Sees p q

    abbrev pub FreshSort : Sort → Place → Type 0
    FreshSort ordinary d = ⊥
    FreshSort declared d = ⊥
    FreshSort applied d = ⊥
    FreshSort (defined k) d = NamedBelow k d → ⊥

    -- a defined-then variable with no naming place of its name, in its sight, before its own atom
    abbrev pub Fresh : Place → Type 0
    Fresh d = FreshSort d.sort d

    -- a naming place, or a place with a naming place of its name earlier in its sight
    abbrev pub Occurrence : Place → Type 0
    Occurrence q = Naming q ⊎ NamedBelow q.at q

    -- no fresh definition of q's name stands after p, at or before q and in sight of q
    abbrev pub NoneFresh : Place → Place → Type 0
    NoneFresh p q = (d : Place) → In d ps → Fresh d → Named d q → p.at < d.at → Sees d q → ⊥

    -- the two carry one name, and some naming place of it stands at or before both, in sight of both, with no fresh
    -- definition of it after that place, at or before one of the two and in sight of that one
    abbrev pub Same : Place → Place → Type 0
    Same q r =
        Named q r ×
        ((p : Place) × In p ps × Naming p × Named p q × Sees p q × Sees p r × NoneFresh p q × NoneFresh p r)

-- a name's outer meaning is Const
unfoldable pub outer_const : List ℕ → Rule → ℕ → Bool
outer_const img r x = elim (r.meaning x) [ nothing ↦ false | some n ↦ eqb (kind_at img n) 5 ]
