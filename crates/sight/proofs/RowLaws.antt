-- The rows of Occurrences list the variable occurrences of all rules, each node once.
use mathlib.Core.Path.{◌≡◌, refl, sym, ◌∙◌, ap, subst}
use mathlib.Core.Logic.{◌⊎◌, inl, inr}
use mathlib.Core.Bool.{Bool, true, false}
use mathlib.Core.List.{List, [], ◌∷◌, ◌++◌}
use mathlib.Core.Option.{Option, none as nothing, some}
use Prim.Native.Nat.{ℕ, ◌+◌, ◌≤◌}
use native.Mathlib.Omega.{arith}
use lib.Dec.{eqb}
use Rattle.ast.specs.Image.{kind_at}
use Rattle.ast.specs.Tests.{is, times, verdict}
use Rattle.rows.specs.Rows.{Row, row, lefts}
use Rattle.table.specs.Table.{Table, is_kind}
use Rattle.ast.proofs.Count.{times-append}
use Rattle.ordered.proofs.Moves.{numbers_seq}
use Rattle.ast.proofs.Bools.{true-not-false}
use Rattle.occurrences.specs.Occurrences.{found, listed, rows_for, rule_rows, all_rows, occurrence_rows}
use Rattle.sight.specs.Sight.{Place, In}
use Rattle.ast.specs.Rules.{Rule, module_rules}
use Rattle.occurrences.specs.Spots.{Spot, rule_spots}
use Rattle.sight.proofs.Counting.{distinct-times, rule_numbers, rule-nodes-once}
use Rattle.sight.specs.Listing.{places_of, Occurs, RowsOf, end, put, pass, RuleRows, AllRows, no_rule, rule, Distinct}
use Rattle.sight.proofs.Listing.{spot_of, spots_of}
use Rattle.sight.proofs.Members.{in_left, in_right, in_split}
use Rattle.occurrences.proofs.Few.{owners}
use Rattle.sight.proofs.Spots.{ordered, owners-once}
use Rattle.sight.proofs.WholeModule.{WalkOf, var-is-occurrence}

lefts-append : (ws vs : List Row) → lefts (ws ++ vs) ≡ lefts ws ++ lefts vs
unfolding lefts
lefts-append [] vs = refl
lefts-append (w ∷ ws) vs = ap (λ (l : List ℕ). w.left ∷ l) (lefts-append ws vs)

pub in-lefts : (w : Row) (ws : List Row) → In w ws → In w.left (lefts ws)
unfolding lefts
in-lefts w [] i = i
in-lefts w (v ∷ ws) (inl e) = inl (ap (λ (z : Row). z.left) e)
in-lefts w (v ∷ ws) (inr i) = inr (in-lefts w ws i)

-- in rows whose nodes are distinct, a node has one row
pub one-row : (ws : List Row) → Distinct (lefts ws) → (w v : Row) → In w ws → In v ws → w.left ≡ v.left → w ≡ v
unfolding lefts
one-row [] d w v i j e = absurd i
one-row (x ∷ ws) d w v (inl f) (inl g) e = f ∙ sym g
one-row (x ∷ ws) d w v (inl f) (inr j) e =
    absurd (d.0 (subst (λ n. In n (lefts ws)) (sym e ∙ ap (λ (z : Row). z.left) f) (in-lefts v ws j)))
one-row (x ∷ ws) d w v (inr i) (inl g) e =
    absurd (d.0 (subst (λ n. In n (lefts ws)) (e ∙ ap (λ (z : Row). z.left) g) (in-lefts w ws i)))
one-row (x ∷ ws) d w v (inr i) (inr j) e = one-row ws d.1 w v i j e

-- members of rows that list occurrences
module _ (img : List ℕ) (binding : Place → Option ℕ) where
  -- w is the row of the occurrence p of the rule r
  abbrev pub RowAt : Rule → Place → Row → Type 0
  RowAt r p w = Occurs img r p × (w.left ≡ p.node) × (binding p ≡ some w.right)

  pub rows-only : {r : Rule} {ps : List Place} {ws : List Row} → RowsOf img binding r ps ws → (w : Row) → In w ws → (p : Place) × In p ps × RowAt r p w
  rows-only end w i = absurd i
  rows-only {r} (put {p = p} {b = b} o e s) w (inl f) =
      (p, inl refl, (o, ap (λ (z : Row). z.left) f, e ∙ ap (λ (z : Row). some z.right) (sym f)))
  rows-only (put o e s) w (inr i) = let h = rows-only s w i in (h.0, inr h.1, h.2)
  rows-only (pass f s) w i = let h = rows-only s w i in (h.0, inr h.1, h.2)

  pub rows_all : {r : Rule} {ps : List Place} {ws : List Row} → RowsOf img binding r ps ws → (p : Place) → In p ps → Occurs img r p
      → (b : ℕ) × (binding p ≡ some b) × In (row p.node b) ws
  rows_all end p i o = absurd i
  rows_all {r} (put {p = q} {b = b} {ws = ws} o' e s) p (inl f) o =
      subst (λ (z : Place). (c : ℕ) × (binding z ≡ some c) × In (row z.node c) (row q.node b ∷ ws)) (sym f) (b, e, inl refl)
  rows_all (put o' e s) p (inr i) o = let h = rows_all s p i o in (h.0, h.1, inr h.2)
  rows_all {r} (pass f s) p (inl e) o = absurd (f (subst (Occurs img r) e o))
  rows_all (pass f s) p (inr i) o = rows_all s p i o

  pub all-only : {rs : List Rule} {ws : List Row} → AllRows img binding rs ws → (w : Row) → In w ws
      → (r : Rule) × In r rs × ((p : Place) × In p (places_of r) × RowAt r p w)
  all-only no_rule w i = absurd i
  all-only (rule {r = r} {rs = rs} {ws = ws} {vs = vs} h s) w i = go (in_split w ws vs i) (λ j. all-only s w j)
    where
      Found : List Rule → Type 0
      Found qs = (q : Rule) × In q qs × ((p : Place) × In p (places_of q) × RowAt q p w)

      go : In w ws ⊎ In w vs → (In w vs → Found rs) → Found (r ∷ rs)
      go (inl j) f = let g = rows-only h.rows w j in (r, inl refl, (g.0, h.only g.0 g.1, g.2))
      go (inr j) f = let g = f j in (g.0, inr g.1, g.2)

  pub all-all : {rs : List Rule} {ws : List Row} → AllRows img binding rs ws → (r : Rule) → In r rs → (p : Place) → In p (places_of r) → Occurs img r p
      → (b : ℕ) × (binding p ≡ some b) × In (row p.node b) ws
  all-all no_rule r i p j o = absurd i
  all-all (rule {r = q} {rs = rs} {ws = ws} {vs = vs} h s) r (inl e) p j o =
      let f : (z : Rule) → z ≡ q → In p (places_of z) → Occurs img z p → (b : ℕ) × (binding p ≡ some b) × In (row p.node b) ws = λ z g.
      subst (λ (y : Rule). In p (places_of y) → Occurs img y p → (b : ℕ) × (binding p ≡ some b) × In (row p.node b) ws) (sym g)
      (λ k u. rows_all h.rows p (h.all p k) u) in
      let g = f r e j o in
      (g.0, g.1, in_left (row p.node g.0) ws vs g.2)
  all-all (rule {ws = ws} {vs = vs} h s) r (inr i) p j o =
      let g = all-all s r i p j o in
      (g.0, g.1, in_right (row p.node g.0) ws vs g.2)

module _ (img : List ℕ) (t : Table) where
  -- the binding: what lookup of its name gives, in the table, at the exit of its node
  abbrev pub binding_of : Place → Option ℕ
  binding_of p = found img t (spot_of p)

  module _ (r : Rule) (w : WalkOf img r t) where
    abbrev Rows : List Place → List Row → Type 0
    Rows ps ws = RowsOf img binding_of r ps ws

    one-place : (p : Place) (ps : List Place) (ws : List Row) → In p (places_of r) → Rows ps ws
        → (o : Option ℕ) → binding_of p ≡ o → Rows (p ∷ ps) (listed img t p.node o ws)
    unfolding listed is_kind
    one-place p ps ws i s nothing e = pass (λ o. true-not-false ((var-is-occurrence img t r w p i).1 o) (ap (is_kind img 13) e)) s
    one-place p ps ws i s (some b) e = go (eqb (kind_at img b) 13) refl
      where
        go : (c : Bool) → eqb (kind_at img b) 13 ≡ c → Rows (p ∷ ps) (elim c [ true ↦ row p.node b ∷ ws | false ↦ ws ])
        go true q = put ((var-is-occurrence img t r w p i).0 (ap (is_kind img 13) e ∙ q)) e s
        go false q = pass (λ o. true-not-false ((var-is-occurrence img t r w p i).1 o) (ap (is_kind img 13) e ∙ q)) s

    some-places : (ps : List Place) → ((p : Place) → In p ps → In p (places_of r)) → Rows ps (rows_for img t (spots_of ps))
    unfolding rows_for
    some-places [] f = end
    some-places (p ∷ ps) f = one-place p ps (rows_for img t (spots_of ps)) (f p (inl refl)) (some-places ps (λ q i. f q (inr i))) (binding_of p) refl

    pub rule-rows : RuleRows img binding_of r (rule_rows img t r)
    unfolding rule_rows
    rule-rows =
        let o = ordered img r.statements w.1.body in
        record {
          places = o.list;
          all = o.all;
          only = o.only;
          order = o.order;
          rows = subst (λ (l : List Spot). Rows o.list (rows_for img t l)) o.are (some-places o.list o.only);
        }

  all-rows : (rs : List Rule) → ((r : Rule) → In r rs → WalkOf img r t) → AllRows img binding_of rs (all_rows img t rs)
  unfolding all_rows
  all-rows [] f = no_rule
  all-rows (r ∷ rs) f = rule (rule-rows r (f r (inl refl))) (all-rows rs (λ q i. f q (inr i)))

  -- each node once
  listed-once : (v n : ℕ) (o : Option ℕ) (ws : List Row) → times v (lefts (listed img t n o ws)) ≤ is v n + times v (lefts ws)
  unfolding listed lefts times
  listed-once v n nothing ws = omega arith
  listed-once v n (some b) ws = go (eqb (kind_at img b) 13)
    where
      go : (c : Bool) → times v (lefts (elim c [ true ↦ row n b ∷ ws | false ↦ ws ])) ≤ is v n + times v (lefts ws)
      go true = omega arith
      go false = omega arith

  rows-once : (v : ℕ) (l : List Spot) → times v (lefts (rows_for img t l)) ≤ times v (owners l)
  unfolding rows_for lefts times
  rows-once v [] = omega arith
  rows-once v (s ∷ l) = let a = listed-once v s.node (found img t s) (rows_for img t l) in let b = rows-once v l in omega arith

  pub all_once : (v : ℕ) (rs : List Rule) → ((r : Rule) → In r rs → WalkOf img r t) → times v (lefts (all_rows img t rs)) ≤ times v (rule_numbers rs)
  unfolding all_rows rule_rows lefts rule_numbers times
  all_once v [] f = omega arith
  all_once v (r ∷ rs) f =
      let a = rows-once v (rule_spots r.statements) in
      let b = owners-once img r.statements (f r (inl refl)).1.body v in
      let c = all_once v rs (λ q i. f q (inr i)) in
      let d = ap (times v) (lefts-append (rule_rows img t r) (all_rows img t rs)) ∙ times-append v (lefts (rule_rows img t r)) (lefts (all_rows img t rs)) in
      let g = times-append v (numbers_seq r.statements) (rule_numbers rs) in
      omega arith

  module _ (accepted : verdict img ≡ 0) (walks : (r : Rule) → In r (module_rules img) → WalkOf img r t) where
    pub rows-list : AllRows img binding_of (module_rules img) (occurrence_rows img t)
    unfolding occurrence_rows
    rows-list = all-rows (module_rules img) walks

    pub rows-distinct : Distinct (lefts (occurrence_rows img t))
    unfolding occurrence_rows
    rows-distinct =
        distinct-times (lefts (occurrence_rows img t))
        (λ v. let a = all_once v (module_rules img) walks in let b = rule-nodes-once img accepted v in omega arith)
