-- The third demand for one rule: lookup at the exits that the walk records gives a Var exactly at the variable
-- occurrences, and gives two of them one node exactly where they are `Same`.
use mathlib.Core.Path.{◌≡◌, refl, sym, ◌∙◌, ap, subst}
use mathlib.Core.Logic.{inl, inr, ◌↔◌}
use mathlib.Core.Bool.{Bool, true, false}
use mathlib.Core.List.{List, []}
use mathlib.Core.Option.{Option, none as nothing, some}
use Prim.Native.Nat.{ℕ, suc, ◌≤◌, ◌<◌}
use Rattle.ast.specs.Image.{nodes, name_of}
use Rattle.ast.specs.Tree.{Trees}
use Rattle.ordered.specs.Walk.{occurs, walk_seq}
use Rattle.table.specs.State.{Walked}
use Rattle.table.specs.Table.{Table, lookup, is_kind, exit_at}
use Rattle.table.specs.Kept.{Kept}
use Rattle.ordered.proofs.Moves.{numbers_seq}
use Rattle.sight.specs.Listing.{Distinct}
use Rattle.sight.specs.Sight.{Place, ordinary, place_seq, rule_places, In, Naming, Occurrence, Same}
use Rattle.sight.proofs.Flat.{bind, var→occurrence, occurrence→var, same→equal, equal→same, introduced}
use Rattle.sight.proofs.Good.{Good, good}
use Rattle.sight.proofs.Keep.{bound, kept}
use Rattle.sight.proofs.Steps.{Bodies, State, occur, steps_seq}

-- a walk of the statements ts that starts at e, and a table T that keeps what it wrote
pub record RuleWalk (img : List ℕ) (ts : Trees) (e : Walked) (T : Table) : Type 0 where
  pub body : Bodies img ts
  pub small : (n : ℕ) → In n (numbers_seq ts) → n < nodes img
  pub distinct : Distinct (numbers_seq ts)
  pub sane : Kept img e.table
  pub inside : e.scope < e.table.scopes
  pub outside : (x : ℕ) → is_kind img 13 (lookup img e.table e.scope x) ≡ false
  pub scopes≤ : (walk_seq img occurs ts e).table.scopes ≤ nodes img
  pub symbols≤ : (walk_seq img occurs ts e).table.symbols ≤ nodes img
  pub lookups : (s x : ℕ) → s < (walk_seq img occurs ts e).table.scopes → lookup img T s x ≡ lookup img (walk_seq img occurs ts e).table s x
  pub exits : (p : Place) → In p (rule_places ts) → exit_at img T.words p.node ≡ exit_at img (walk_seq img occurs ts e).table.words p.node

-- a rule's places stand at its nodes
module _ (img : List ℕ) (ts : Trees) (body : Bodies img ts) (e : Walked) where
  abbrev begin : State
  begin = record { now = e; met = record { next = 0; places = [] } }

  pub place-node : (p : Place) → In p (rule_places ts) → In p.node (numbers_seq ts)
  unfolding rule_places
  place-node p i = elim ((kept img (λ x. nothing) (steps_seq img occur 0 [] ts body begin)).new p i) [ inl j ↦ absurd j | inr h ↦ h.2 ]

module _ (img : List ℕ) (ts : Trees) (e : Walked) (T : Table) (w : RuleWalk img ts e T) where
  -- whether a name's outer meaning is Const
  abbrev pub constant : ℕ → Bool
  constant x = is_kind img 5 (lookup img e.table e.scope x)

  -- the binding: what lookup of its name gives, in the table, at the exit of a place's node
  abbrev pub binding : Place → Option ℕ
  binding p = lookup img T (exit_at img T.words p.node) (name_of img p.ident)

  abbrev outer : ℕ → Option ℕ
  outer x = lookup img e.table e.scope x

  abbrev start : State
  start = record { now = e; met = record { next = 0; places = [] } }

  abbrev final : State
  final = record { now = walk_seq img occurs ts e; met = place_seq ordinary 0 [] ts (record { next = 0; places = [] }) }

  end : Good img outer [] final
  unfolding bind
  end =
      (good img outer (steps_seq img occur 0 [] ts w.body start) (w.scopes≤, w.symbols≤) w.small w.distinct (λ p i. absurd i)
      (record {
        sane = w.sane;
        inside = w.inside;
        reads = λ x. refl;
        sorted = tt;
        low = λ p i. absurd i;
        low_around = λ p i. absurd i;
        low_node = λ p i. absurd i;
        low_blocks = λ n i. absurd i;
        chain = λ q r i. absurd i;
        chains = λ o i. absurd i;
        seen = λ p i. absurd i;
        single = λ p q i. absurd i;
      })).0

  abbrev ps : List Place
  ps = rule_places ts

  abbrev bound_at : Place → Option ℕ
  bound_at p = bound img outer (suc p.at) ps p.around (name_of img p.ident)

  -- the exit is a scope of the walk's end
  pub exit_live : (p : Place) → In p ps → exit_at img T.words p.node < final.now.table.scopes
  unfolding rule_places
  exit_live p i = subst (λ (s : ℕ). s < final.now.table.scopes) (sym (w.exits p i)) (end.seen p i).0

  binding-bound : (p : Place) → In p ps → binding p ≡ bound_at p
  unfolding rule_places
  binding-bound p i =
      let h = end.seen p i in
      ap (λ s. lookup img T s (name_of img p.ident)) (w.exits p i)
      ∙ w.lookups (exit_at img final.now.table.words p.node) (name_of img p.ident) h.0
      ∙ h.1 (name_of img p.ident)

  -- (a) the binding is a Var exactly at the variable occurrences
  pub occurrences : (p : Place) → In p (rule_places ts) → (is_kind img 13 (binding p) ≡ true) ↔ Occurrence (name_of img) constant (rule_places ts) p
  unfolding rule_places
  occurrences p i = (
    (λ e. var→occurrence (name_of img) (is_kind img 13) (is_kind img 5) outer w.outside ps end.sorted p i (ap (is_kind img 13) (sym (binding-bound p i)) ∙ e)),
    (λ o. ap (is_kind img 13) (binding-bound p i) ∙ occurrence→var (name_of img) (is_kind img 13) (is_kind img 5) outer w.outside ps end.sorted p i o),
  )

  -- (b) the bindings of two variable occurrences are equal exactly where they are the same by sight
  pub bindings : (p q : Place) → In p (rule_places ts) → In q (rule_places ts) → Occurrence (name_of img) constant (rule_places ts) p
      → (binding p ≡ binding q) ↔ Same (name_of img) constant (rule_places ts) p q
  unfolding rule_places
  bindings p q i j o = (
    (λ e. equal→same (name_of img) (is_kind img 13) (is_kind img 5) outer w.outside ps end.sorted end.chains end.single p q i j
        (occurrence→var (name_of img) (is_kind img 13) (is_kind img 5) outer w.outside ps end.sorted p i o)
        (sym (binding-bound p i) ∙ e ∙ binding-bound q j)),
    (λ s. binding-bound p i
        ∙ same→equal (name_of img) (is_kind img 13) (is_kind img 5) outer w.outside ps end.sorted end.chains end.single p q i j s
        ∙ sym (binding-bound q j)),
  )

  -- the binding of a variable occurrence is the IdentTerm of a naming place, which has itself for its binding
  pub introducing : (p : Place) → In p (rule_places ts) → Occurrence (name_of img) constant (rule_places ts) p
      → (q : Place) × In q (rule_places ts) × Naming (name_of img) constant q × (binding p ≡ some q.ident) × (binding q ≡ some q.ident)
  unfolding rule_places
  introducing p i o =
      let f = introduced (name_of img) (is_kind img 13) (is_kind img 5) outer w.outside ps end.sorted end.chains end.single p i
      (occurrence→var (name_of img) (is_kind img 13) (is_kind img 5) outer w.outside ps end.sorted p i o) in
      (f.0, f.1, f.2, binding-bound p i ∙ f.3, binding-bound f.0 f.1 ∙ f.4)
