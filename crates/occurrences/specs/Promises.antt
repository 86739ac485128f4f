-- What the contracts say: the rows of a node's tree, of a run of nodes in a row, of the rules of a declaration; what a
-- collector asks before it starts; how bindings are counted.
use Rattle.std.specs.Prelude.{◌≡◌, true, false, List, [], ◌∷◌, ◌++◌, ℕ, ◌+◌, ◌<◌, ◌≤◌, ◌^◌, leb, length, get_or, set, Result, Ok, Err}
use Rattle.std.proofs.Math.Option.{Option, none as nothing, some}
use Rattle.ast.specs.Image.{nodes}
use Rattle.ast.specs.Kinds.{Kind}
use Rattle.ast.specs.Tree.{tree_at}
use Rattle.ast.specs.Items.{items}
use Rattle.ast.specs.Is.{Is, Run}
use Rattle.ast.specs.Named.{decl_kind}
use Rattle.ast.specs.Tests.{verdict}
use Rattle.typed.specs.declared.nodes.NodeList.{NodeList}
use Rattle.table.specs.Table.{Table}
use Rattle.table.specs.Rising.{node_at}
use Rattle.rows.specs.Rows.{Row, row}
use Rattle.occurrences.specs.Spots.{Spot, spots, spots_seq}
use Rattle.ast.specs.Rules.{rules, rules_all, module_rules}
use Rattle.occurrences.specs.Occurrences.{rows_for, occurrence_rows, rows_by_rule}
use Rattle.occurrences.specs.declared.Lone.{Lone}

abbrev pub spot : ℕ → ℕ → Spot
spot n i = record { node = n; ident = i }

module _ (img : List ℕ) (t : Table) where
  -- the rows of one ident directly under the Term or AppHead n
  abbrev pub ident_rows : ℕ → ℕ → List Row
  ident_rows n i = rows_for img t (spot n i ∷ [])

  -- the rows of the tree of node n, which is no ident itself
  unfoldable pub rows_in : ℕ → List Row
  rows_in n = rows_for img t (spots 0 (tree_at img n))

  -- the rows of the c nodes that stand in the row of n from place j on
  unfoldable pub rows_at : (n c j : ℕ) → List Row
  rows_at n c j = rows_for img t (spots_seq n (items img n c j))

  -- the rows of the nodes of a list
  abbrev pub rows_of : NodeList → List Row
  rows_of l = rows_at l.node.0 l.count l.first

  -- the rows of the rules of declaration n, a list for each rule; a rule's rows do not depend on what names mean outside
  unfoldable pub lists_in : ℕ → List (List Row)
  lists_in n = rows_by_rule img t (rules img (λ x. nothing) (tree_at img n))

  -- of the c declarations that stand in the row of n from place j on
  unfoldable pub lists_at : (n c j : ℕ) → List (List Row)
  lists_at n c j = rows_by_rule img t (rules_all img (λ x. nothing) (items img n c j))

  -- of the declarations of a list
  abbrev pub lists_of : NodeList → List (List Row)
  lists_of l = lists_at l.node.0 l.count l.first

  -- of the whole module
  abbrev pub module_lists : List (List Row)
  module_lists = rows_by_rule img t (module_rules img)

unfoldable pub joined : List (List Row) → List Row
joined [] = []
joined (l ∷ ls) = l ++ joined ls

-- the count of rows fits a word with the rows l appended to the first c
pub record Room (l : List Row) (c : ℕ) : Type 0 where
  pub fits : c + length l < 2 ^ 32

-- what a collector asks: the node is of its kind, and there is room for the rows of its tree. A predicate, since it is of image, node
-- and count together
pub record Ready (img : List ℕ) (t : Table) (kd : Kind) (n c : ℕ) : Type 0 where
  pub is : Is img kd n
  pub room : Room (rows_in img t n) c

-- the same of a run of children
pub record ReadyRun (img : List ℕ) (t : Table) (k n j count c : ℕ) : Type 0 where
  pub run : Run img k n j count
  pub room : Room (rows_at img t n count j) c

-- of the nodes of a list
abbrev pub ReadyAll : List ℕ → Table → ℕ → NodeList → ℕ → Type 0
ReadyAll img t k l c = ReadyRun img t k l.node.0 l.first l.count c

-- what the collector of a declaration asks: room for the rows of its rules in an array of N words, after the first c
pub record Listing (img : List ℕ) (t : Table) (kd : Kind) (n c : ℕ) : Type 0 where
  pub is : Is img kd n
  pub few : c + length (joined (lists_in img t n)) ≤ nodes img

-- the same of a run of declarations
pub record ListingRun (img : List ℕ) (t : Table) (n j count c : ℕ) : Type 0 where
  pub run : Run img decl_kind n j count
  pub few : c + length (joined (lists_at img t n count j)) ≤ nodes img

-- of the declarations of a list
abbrev pub ListingAll : List ℕ → Table → NodeList → ℕ → Type 0
ListingAll img t l c = ListingRun img t l.node.0 l.first l.count c

-- every symbol is a node
abbrev pub Nodes : List ℕ → Table → Type 0
Nodes img t = (j : ℕ) → j < t.symbols → node_at (nodes img) t.words j < nodes img

-- what a checker holds of an image and its table: the image is accepted, symbols are nodes, and there is room for all rows
pub record Whole (img : List ℕ) (t : Table) : Type 0 where
  pub accepted : verdict img ≡ 0
  pub symbols : Nodes img t
  pub few : length (occurrence_rows img t) ≤ nodes img

-- the first row whose binding is counted under two times
unfoldable pub under : List ℕ → List Row → Option Row
under us [] = nothing
under us (w ∷ l) = elim (leb 2 (get_or us w.right 0)) [ true ↦ under us l | false ↦ some w ]

-- the counts of some bindings set back to 0
unfoldable pub uncounted : List ℕ → List ℕ → List ℕ
uncounted [] us = us
uncounted (b ∷ bs) us = uncounted bs (set us b 0)

abbrev pub lone_of : {A : Type 0} → Result A Lone → Option Row
lone_of (Ok _) = nothing
lone_of (Err l) = some (row l.node.0 l.binding.0)
