-- A lone occurrence is a Term whose own IdentTerm is its binding.
use mathlib.Core.Path.{◌≡◌, refl, sym, ◌∙◌, ap, subst}
use mathlib.Core.Logic.{inl, inr}
use mathlib.Core.Bool.{Bool, true, false}
use mathlib.Core.List.{List, [], ◌∷◌}
use mathlib.Core.Option.{Option, none as nothing, some}
use Prim.Native.Nat.{ℕ, suc, ◌≤◌, ◌<◌}
use native.Mathlib.Omega.{arith}
use lib.Dec.{eqb, leb}
use borrow.Author.Tests.{eq-eqb, leb-false}
use Rattle.ast.specs.Image.{kind_at, name_of}
use Rattle.rows.specs.Rows.{Row, row}
use Rattle.table.specs.Table.{Table, is_kind}
use Rattle.occurrences.specs.Occurrences.{rule_rows, times_bound, lone_in, lone, rows_by_rule}
use Rattle.sight.specs.Sight.{Sort, ordinary, declared, applied, defined, Place, In, outer_const, Names, Naming}
use Rattle.ast.specs.Rules.{Rule}
use Rattle.sight.specs.Listing.{places_of, Occurs}
use Rattle.sight.proofs.RowLaws.{binding_of, rows-only, rows_all, rule-rows}
use Rattle.sight.proofs.Spots.{owner_kind, ordered}
use Rattle.sight.proofs.WholeModule.{WalkOf, var-is-occurrence, from-naming}

pub bound-in : (b : ℕ) (w : Row) (ws : List Row) → In w ws → w.right ≡ b → 1 ≤ times_bound b ws
unfolding times_bound
bound-in b w [] i e = absurd i
bound-in b w (v ∷ ws) (inl q) e =
    let h : eqb b v.right ≡ true = eq-eqb b v.right (sym e ∙ ap (λ (z : Row). z.right) q) in
    rw (h, times_bound) (omega arith)
bound-in b w (v ∷ ws) (inr i) e = go (eqb b v.right) (bound-in b w ws i e)
  where
    go : (c : Bool) → 1 ≤ times_bound b ws → 1 ≤ elim c as (λ _. ℕ) [ true ↦ suc (times_bound b ws) | false ↦ times_bound b ws ]
    go true h = omega arith
    go false h = h

-- a binding that stands under two times has one row
one-bound : (b : ℕ) (w v : Row) (ws : List Row) → times_bound b ws < 2 → In w ws → In v ws → w.right ≡ b → v.right ≡ b → w ≡ v
unfolding times_bound
one-bound b w v [] l i j e f = absurd i
one-bound b w v (x ∷ ws) l (inl p) (inl q) e f = p ∙ sym q
one-bound b w v (x ∷ ws) l (inl p) (inr j) e f =
    let h : eqb b x.right ≡ true = eq-eqb b x.right (sym e ∙ ap (λ (z : Row). z.right) p) in
    let k = rw (h, times_bound) at l in
    let m = bound-in b v ws j f in
    absurd (omega arith)
one-bound b w v (x ∷ ws) l (inr i) (inl q) e f =
    let h : eqb b x.right ≡ true = eq-eqb b x.right (sym f ∙ ap (λ (z : Row). z.right) q) in
    let k = rw (h, times_bound) at l in
    let m = bound-in b w ws i e in
    absurd (omega arith)
one-bound b w v (x ∷ ws) l (inr i) (inr j) e f = one-bound b w v ws (go (eqb b x.right) l) i j e f
  where
    go : (c : Bool) → (elim c as (λ _. ℕ) [ true ↦ suc (times_bound b ws) | false ↦ times_bound b ws ]) < 2 → times_bound b ws < 2
    go true h = omega arith
    go false h = h

-- the first lone row is a row, and its binding stands under two times
pub lone_row : (all left : List Row) (w : Row) → lone_in all left ≡ some w → In w left × (times_bound w.right all < 2)
unfolding lone_in
lone_row all [] w e = let z : ◌≡◌ {A = ℕ} 0 1 = cc in absurd (omega arith)
lone_row all (v ∷ left) w e = go (leb 2 (times_bound v.right all)) refl (lone_row all left w) e
  where
    go : (c : Bool) → leb 2 (times_bound v.right all) ≡ c → (lone_in all left ≡ some w → In w left × (times_bound w.right all < 2))
        → elim c [ true ↦ lone_in all left | false ↦ some v ] ≡ some w → In w (v ∷ left) × (times_bound w.right all < 2)
    go true p r q = let h = r q in (inr h.0, h.1)
    go false p r q =
        let z : w ≡ v = cc in
        (inl z, subst (λ (u : Row). times_bound u.right all < 2) (sym z) (leb-false 2 (times_bound v.right all) p))

module _ (img : List ℕ) (t : Table) (r : Rule) (walk : WalkOf img r t) where
  -- a naming place stands at a Term
  naming-term : (σ : Sort) (x : ℕ) → Names (name_of img) (outer_const img r) σ x → owner_kind σ ≡ 12
  naming-term ordinary x n = refl
  naming-term declared x n = refl
  naming-term applied x n = absurd n
  naming-term (defined k) x n = refl

  -- the place of the rule that is the lone occurrence, and its own binding
  pub record Lone (w : Row) : Type 0 where
    pub place : Place
    pub here : In place (places_of r)
    pub occurs : Occurs img r place
    pub node : w.left ≡ place.node
    pub binding : w.right ≡ place.ident
    pub term : kind_at img w.left ≡ 12

  -- the naming place that introduces a listed binding has it itself
  introduced : (b : ℕ) (p : Place) → In p (places_of r) → Occurs img r p → binding_of img t p ≡ some b
      → (q : Place) × In q (places_of r) × Naming (name_of img) (outer_const img r) q × (b ≡ q.ident) × (binding_of img t q ≡ some b) × Occurs img r q
  introduced b p i o e = go (from-naming img t r walk p i o)
    where
      go : ((q : Place) × In q (places_of r) × Naming (name_of img) (outer_const img r) q × (binding_of img t p ≡ some q.ident) × (binding_of img t q ≡ some q.ident))
          → (q : Place) × In q (places_of r) × Naming (name_of img) (outer_const img r) q × (b ≡ q.ident) × (binding_of img t q ≡ some b) × Occurs img r q
      go (q, j, n, f, g) =
          let c : b ≡ q.ident = cc in
          let h : binding_of img t q ≡ some b = cc in
          let v : is_kind img 13 (binding_of img t q) ≡ true = ap (is_kind img 13) (h ∙ sym e) ∙ (var-is-occurrence img t r walk p i).1 o in
          (q, j, n, c, h, (var-is-occurrence img t r walk q j).0 v)

  lone-at : (w : Row) → In w (rule_rows img t r) → times_bound w.right (rule_rows img t r) < 2 → (q : Place) → In q (places_of r)
      → Naming (name_of img) (outer_const img r) q → w.right ≡ q.ident → binding_of img t q ≡ some w.right → Occurs img r q → Lone w
  lone-at w i l q j n c h o =
      let rows = rule-rows img t r walk in
      let k = ordered img r.statements walk.1.body in
      record {
        place = q;
        here = j;
        occurs = o;
        node = left (rows_all img (binding_of img t) rows.rows q (rows.all q j) o);
        binding = c;
        term =
            ap (kind_at img) (left (rows_all img (binding_of img t) rows.rows q (rows.all q j) o))
            ∙ k.kinds q (k.all q j) ∙ naming-term q.sort (name_of img q.ident) n;
      }
    where
      left : (b : ℕ) × (binding_of img t q ≡ some b) × In (row q.node b) (rule_rows img t r) → w.left ≡ q.node
      left (b, e, m) =
          let f : b ≡ w.right = cc in
          ap (λ (u : Row). u.left) (one-bound w.right w (row q.node b) (rule_rows img t r) l i m refl f)

  pub lone_is : (w : Row) → lone_in (rule_rows img t r) (rule_rows img t r) ≡ some w → Lone w
  lone_is w e =
      let l = lone_row (rule_rows img t r) (rule_rows img t r) w e in
      let rows = rule-rows img t r walk in
      let a = rows-only img (binding_of img t) rows.rows w l.0 in
      let f = introduced w.right a.0 (rows.only a.0 a.1) a.2.0 a.2.2 in
      lone-at w l.0 l.1 f.0 f.1 f.2 f.3 f.4 f.5

-- what Once hands back is the lone occurrence of some rule
pub lone-list : (ls : List (List Row)) (w : Row) → lone ls ≡ some w → (l : List Row) × In l ls × (lone_in l l ≡ some w)
unfolding lone
lone-list [] w e = let z : ◌≡◌ {A = ℕ} 0 1 = cc in absurd (omega arith)
lone-list (l ∷ ls) w e = go (lone_in l l) refl (lone-list ls w) e
  where
    go : (o : Option Row) → lone_in l l ≡ o → (lone ls ≡ some w → (k : List Row) × In k ls × (lone_in k k ≡ some w))
        → elim o [ nothing ↦ lone ls | some v ↦ some v ] ≡ some w → (k : List Row) × In k (l ∷ ls) × (lone_in k k ≡ some w)
    go nothing p r q = let h = r q in (h.0, inr h.1, h.2)
    go (some v) p r q = (l, inl refl, p ∙ q)

pub by_rule : (img : List ℕ) (t : Table) (rs : List Rule) (l : List Row) → In l (rows_by_rule img t rs) → (r : Rule) × In r rs × (l ≡ rule_rows img t r)
unfolding rows_by_rule
by_rule img t [] l i = absurd i
by_rule img t (r ∷ rs) l (inl e) = (r, inl refl, e)
by_rule img t (r ∷ rs) l (inr i) = let h = by_rule img t rs l i in (h.0, inr h.1, h.2)

pub once-lone : (img : List ℕ) (t : Table) (rs : List Rule) (walks : (r : Rule) → In r rs → WalkOf img r t) (w : Row)
    → lone (rows_by_rule img t rs) ≡ some w → (r : Rule) × (i : In r rs) × Lone img t r (walks r i) w
once-lone img t rs walks w e =
    let a = lone-list (rows_by_rule img t rs) w e in
    let b = by_rule img t rs a.0 a.1 in
    (b.0, b.1, lone_is img t b.0 (walks b.0 b.1) w (subst (λ (l : List Row). lone_in l l ≡ some w) b.2 a.2))
