-- The words of the third demand's theorems: the list's order, which rows list the variable occurrences of a rule and of all rules, and
-- which row is the first lone one.
use Rattle.std.specs.Prelude.{◌≡◌, ◌⊎◌, List, [], ◌∷◌, ◌++◌, ℕ, ◌≤◌, ◌<◌}
use Rattle.std.proofs.Math.Option.{Option, some}
use Rattle.ast.specs.Answer.{Answer, refused, twice, result, located, other}
use Rattle.ast.specs.Named.{term_kind}
use Rattle.ast.specs.Image.{kind_at, name_of}
use Rattle.rows.specs.Rows.{Row, row}
use Rattle.occurrences.specs.Occurrences.{times_bound}
use Rattle.sight.specs.Sight.{Sort, ordinary, declared, applied, defined, Place, In, rule_places, outer_const, Occurrence}
use Rattle.ast.specs.Rules.{Rule}

-- q stands in the term of the defined-then whose variable is d: the term's places are numbered from the atom's start on,
-- and the variable's after them
abbrev pub InTermSort : Sort → Place → Place → Type 0
InTermSort ordinary d q = ⊥
InTermSort declared d q = ⊥
InTermSort applied d q = ⊥
InTermSort (defined k) d q = (k ≤ q.at) × (q.at < d.at)

abbrev pub InTermOf : Place → Place → Type 0
InTermOf d q = InTermSort d.sort d q

-- the list's order: the walk's, but a defined-then's variable before its term
abbrev pub Ahead : Place → Place → Type 0
Ahead p q = InTermOf p q ⊎ ((p.at < q.at) × (InTermOf q p → ⊥))

-- each is ahead of all that come after it
abbrev pub InOrder : List Place → Type 0
InOrder [] = Unit {0}
InOrder (p ∷ ps) = ((q : Place) → In q ps → Ahead p q) × InOrder ps

-- the places of a rule
abbrev pub places_of : Rule → List Place
places_of r = rule_places r.statements

-- p is a variable occurrence of the rule r
abbrev pub Occurs : List ℕ → Rule → Place → Type 0
Occurs img r p = Occurrence (name_of img) (outer_const img r) (places_of r) p

module _ (img : List ℕ) (binding : Place → Option ℕ) where
  module _ (r : Rule) where
    -- the rows that list, one after another, those of some places that are variable occurrences, each by its node and with
    -- its binding, and nothing else
    pub data RowsOf : List Place → List Row → Type 0 where
      end : RowsOf [] []
      put : {p : Place} {b : ℕ} {ps : List Place} {ws : List Row} → Occurs img r p → binding p ≡ some b → RowsOf ps ws → RowsOf (p ∷ ps) (row p.node b ∷ ws)
      pass : {p : Place} {ps : List Place} {ws : List Row} → (Occurs img r p → ⊥) → RowsOf ps ws → RowsOf (p ∷ ps) ws

    -- the rows of a rule: all its places, in the list's order
    pub record RuleRows (ws : List Row) : Type 0 where
      pub places : List Place
      pub all : (p : Place) → In p (places_of r) → In p places
      pub only : (p : Place) → In p places → In p (places_of r)
      pub order : InOrder places
      pub rows : RowsOf places ws

  -- the rows of some rules, rule after rule
  pub data AllRows : List Rule → List Row → Type 0 where
    no_rule : AllRows [] []
    rule : {r : Rule} {rs : List Rule} {ws vs : List Row} → RuleRows r ws → AllRows rs vs → AllRows (r ∷ rs) (ws ++ vs)

-- what Once says, by the rows of each rule
module _ (img : List ℕ) (rows : Rule → List Row) where
  -- each of these rows has a binding that stands twice or more in the rule r
  abbrev pub Shared : Rule → List Row → Type 0
  Shared r ws = (w : Row) → In w ws → 2 ≤ times_bound w.right (rows r)

  -- no binding of these rules stands once
  abbrev pub NoLone : List Rule → Type 0
  NoLone rs = (r : Rule) → In r rs → Shared r (rows r)

  -- w is the first row, rule after rule, whose binding stands once in its own rule
  pub record FirstLone (rs : List Rule) (w : Row) : Type 0 where
    -- its rule, and the rules before and after it
    pub earlier : List Rule
    pub own : Rule
    pub later : List Rule
    pub rules : rs ≡ earlier ++ (own ∷ later)
    -- the rows before and after it in its rule
    pub before : List Row
    pub after : List Row
    pub split : rows own ≡ before ++ (w ∷ after)
    -- all before it have bindings that stand twice or more in their own rule; its own stands once
    pub none_earlier : NoLone earlier
    pub none_before : Shared own before
    pub once : times_bound w.right (rows own) ≡ 1
    -- it is the row of a Term, and its binding is the IdentTerm of that Term
    pub place : Place
    pub here : In place (places_of own)
    pub occurs : Occurs img own place
    pub node : w.left ≡ place.node
    pub ident : w.right ≡ place.ident
    pub term : kind_at img w.left ≡ term_kind

-- no number stands twice
abbrev pub Distinct : List ℕ → Type 0
Distinct [] = Unit {0}
Distinct (n ∷ ns) = (In n ns → ⊥) × Distinct ns

-- the call's answer is no refusal
abbrev pub Unrefused : Answer → Type 0
Unrefused (refused number) = ⊥
Unrefused (twice name first second) = Unit {0}
Unrefused (result a b) = Unit {0}
Unrefused (located scope symbol node) = Unit {0}
Unrefused (other a b) = Unit {0}
