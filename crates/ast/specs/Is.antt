-- What a reader of rows asks: the image is accepted, and the node is one of its nodes, of a kind; or some words of a row are such nodes.
use Rattle.std.specs.Prelude.{◌≡◌, List, [], ◌∷◌, ℕ, ◌+◌, ◌<◌, ◌≤◌}
use Rattle.ast.specs.Image.{nodes, kind_at, field}
use Rattle.ast.specs.Kinds.{Class, inner, plain, Field, child, Kind, kind_of}
use Rattle.ast.specs.Tests.{verdict}

pub record Is (img : List ℕ) (kd : Kind) (n : ℕ) : Type 0 where
  pub accepted : verdict img ≡ 0
  pub below : n < nodes img
  pub kind : kind_of (kind_at img n) ≡ kd

-- the count nodes from place j of n's row on are children, of kind k
pub record Run (img : List ℕ) (k n j count : ℕ) : Type 0 where
  pub accepted : verdict img ≡ 0
  pub below : n < nodes img
  pub lower : (i : ℕ) → i < count → field img n (j + i) < n
  pub kinds : (i : ℕ) → i < count → kind_at img (field img n (j + i)) ≡ k
  pub short : j + count ≤ 8192

-- a kind by its class and its fields
abbrev pub kind_by : Class → List Field → Kind
kind_by c fs = record { class = c; fields = fs }

-- one term: DomTerm, CodTerm, IdTerm (18 to 20), DefinedIfAtom (32); two terms: CompTerm (21), EqualAtom (30)
abbrev pub one_term : Kind
one_term = kind_by (inner plain) (child 12 ∷ [])

abbrev pub two_terms : Kind
two_terms = kind_by (inner plain) (child 12 ∷ child 12 ∷ [])
