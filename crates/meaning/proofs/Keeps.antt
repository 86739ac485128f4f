-- What later steps keep of a table: lookups at the scopes that were there, entries and exits of the nodes already left.
use mathlib.Core.Path.{◌≡◌, ◌∙◌}
use mathlib.Core.List.{List, ◌++◌}
use Prim.Native.Nat.{ℕ, ◌≤◌, ◌<◌}
use native.Mathlib.Omega.{arith}
use Rattle.ast.specs.Image.{nodes}
use Rattle.ast.specs.Tree.{Trees, none, ◌◂◌}
use Rattle.table.specs.State.{Walked}
use Rattle.table.specs.Table.{Table, lookup, entry_at, exit_at}
use Rattle.table.specs.Kept.{Kept}
use Rattle.ordered.specs.Walk.{Role, occurs, walk, walk_first}
use Rattle.ordered.proofs.Moves.{numbers, numbers_seq, stay, next, rises}
use Rattle.sight.specs.Listing.{Distinct}
use Rattle.sight.specs.Sight.{In}
use Rattle.sight.proofs.Frame.{Bounds}
use Rattle.sight.proofs.Members.{in_left, in_right, distinct-left, distinct-right, distinct_apart}
use Rattle.sight.proofs.Moves.{Any, Walks, walks-over, walks-along, framed}

module _ (img : List ℕ) where
  abbrev N : ℕ
  N = nodes img

  abbrev pub Small : List ℕ → Type 0
  Small ns = (n : ℕ) → In n ns → n < N

  -- the steps of a walk over the first, then the others
  pub walks-first : (r : Role) (us : Trees) (e : Walked) → Walks img (numbers_seq us) e (walk_first img r us e)
  unfolding numbers walk
  walks-first r none e = stay
  walks-first r (u ◂ us) e = next (walks-over img occurs u e) (walks-along img r us (walk img occurs u e))

  pub walks-rise : {ns : List ℕ} {e e' : Walked} → Walks img ns e e' → e.table.scopes ≤ e'.table.scopes
  walks-rise v = (rises img Any Any v).0

  -- T keeps what t has: its lookups; and, if Q, the entries and exits of the nodes ns, each of which then stands there once
  module _ (T : Table) (Q : Type 0) where
    pub record Ends (ns : List ℕ) (t : Table) : Type 0 where
      pub few : Bounds img t
      pub small : Small ns
      pub lookups : (s x : ℕ) → s < t.scopes → lookup img T s x ≡ lookup img t s x
      pub distinct : Q → Distinct ns
      pub entries : Q → (m : ℕ) → In m ns → entry_at img T.words m ≡ entry_at img t.words m
      pub exits : Q → (m : ℕ) → In m ns → exit_at img T.words m ≡ exit_at img t.words m

    pub ends-after : (ns ms : List ℕ) (t : Table) → Ends (ns ++ ms) t → Ends ms t
    ends-after ns ms t k =
        record {
          few = k.few;
          small = λ n j. k.small n (in_right n ns ms j);
          lookups = k.lookups;
          distinct = λ q. distinct-right ns ms (k.distinct q);
          entries = λ q m j. k.entries q m (in_right m ns ms j);
          exits = λ q m j. k.exits q m (in_right m ns ms j);
        }

    -- of two walks, one after the other: what it keeps at the end, it keeps where the second starts
    pub ends-between : {ns ms : List ℕ} {e e' e'' : Walked} → Walks img ns e e' → Walks img ms e' e'' → Kept img e.table → e.scope < e.table.scopes
        → Ends (ns ++ ms) e''.table → Ends ns e'.table
    ends-between {ns} {ms} {e} {e'} {e''} v u s i k =
        let q = rises img Any Any u in
        let b = k.few in
        let b₀ = b.0 in
        let b₁ = b.1 in
        let f = framed img v (omega arith, omega arith) (λ n j. k.small n (in_left n ns ms j)) s i in
        let g = framed img u b (λ n j. k.small n (in_right n ns ms j)) f.sane f.inside in
        record {
          few = (omega arith, omega arith);
          small = λ n j. k.small n (in_left n ns ms j);
          lookups = λ s x l. k.lookups s x (omega arith) ∙ g.later.lookups s x l;
          distinct = λ c. distinct-left ns ms (k.distinct c);
          entries = λ c m j. k.entries c m (in_left m ns ms j) ∙ g.entries m (k.small m (in_left m ns ms j)) (distinct_apart ns ms (k.distinct c) m j);
          exits = λ c m j. k.exits c m (in_left m ns ms j) ∙ g.later.exits m (k.small m (in_left m ns ms j)) (distinct_apart ns ms (k.distinct c) m j);
        }
