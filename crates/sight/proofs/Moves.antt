-- What any walk below a declaration keeps of the table: the lookups at the scopes that were there, and the entries and exits of other nodes.
use mathlib.Core.Path.{◌≡◌, refl, ◌∙◌}
use mathlib.Core.Logic.{inl}
use mathlib.Core.List.{List}
use Prim.Native.Nat.{ℕ, ◌<◌}
use native.Mathlib.Omega.{arith}
use Rattle.ast.specs.Image.{nodes}
use Rattle.ast.specs.Tree.{Tree, node, block, Trees, none, ◌◂◌}
use Rattle.ast.proofs.Vars.{Everywhere, EverywhereAll}
use Rattle.table.specs.State.{Walked, introduce}
use Rattle.table.specs.Table.{mark, entry_at}
use Rattle.table.specs.Kept.{Kept}
use Rattle.ordered.specs.Walk.{Role, occurs, walk, walk_seq}
use Rattle.table.proofs.Kept.{mark-kept}
use Rattle.ordered.proofs.Moves.{numbers, numbers_seq, Moves, stay, next, marks, adds, drops, rises, walk-moves, seq-moves}
use Rattle.sight.specs.Sight.{In}
use Rattle.sight.proofs.Members.{in_left, in_right}
use Rattle.sight.proofs.Frame.{Bounds, Later, later-next}
use Rattle.table.proofs.Frame.{mark-lookup, mark-exit, mark-entry, new-lookup-old, new-exit, new-entry, new-kept}

abbrev pub Any : {A : Type 0} → A → Type 0
Any a = Unit {0}

mutual
  unfolding Everywhere

  anywhere : (u : Tree) → Everywhere Any u
  anywhere (node n k c sh ts) = (tt, anywhere_all ts)
  anywhere (block ts) = anywhere_all ts

  anywhere_all : (us : Trees) → EverywhereAll Any us
  anywhere_all none = tt
  anywhere_all (u ◂ us) = (anywhere u, anywhere_all us)

module _ (img : List ℕ) where
  abbrev pub Walks : List ℕ → Walked → Walked → Type 0
  Walks ns e f = Moves img Any Any ns e f

  -- the steps of a walk
  pub walks-over : (r : Role) (u : Tree) (e : Walked) → Walks (numbers u) e (walk img r u e)
  walks-over r u e = walk-moves img Any Any Any (λ n k c sh us h. (tt, λ q. tt)) r u (anywhere u) e

  pub walks-along : (r : Role) (us : Trees) (e : Walked) → Walks (numbers_seq us) e (walk_seq img r us e)
  walks-along r us e = seq-moves img Any Any Any (λ n k c sh us h. (tt, λ q. tt)) r us (anywhere_all us) e

  pub walks_seq : (ts : Trees) (e : Walked) → Walks (numbers_seq ts) e (walk_seq img occurs ts e)
  walks_seq ts e = walks-along occurs ts e

  pub record Framed (ns : List ℕ) (e e' : Walked) : Type 0 where
    pub sane : Kept img e'.table
    pub inside : e'.scope < e'.table.scopes
    pub later : Later img e.table e'.table ns
    pub entries : (m : ℕ) → m < nodes img → (In m ns → ⊥) → entry_at img e'.table.words m ≡ entry_at img e.table.words m

  pub framed : {ns : List ℕ} {e e' : Walked} → Walks ns e e' → Bounds img e'.table → ((n : ℕ) → In n ns → n < nodes img)
      → Kept img e.table → e.scope < e.table.scopes → Framed ns e e'
  unfolding mark introduce
  framed stay b sm s i = record { sane = s; inside = i; later = record { lookups = λ r x l. refl; exits = λ m l f. refl }; entries = λ m l f. refl }
  framed (next {ns = ns} {ms = ms} {e = e} {f = e'} {g = e''} v u) b sm s i =
      let r = rises img Any Any v in
      let q = rises img Any Any u in
      let f : Framed ns e e' = framed v (omega arith, omega arith) (λ n j. sm n (in_left n ns ms j)) s i in
      let g : Framed ms e' e'' = framed u b (λ n j. sm n (in_right n ns ms j)) f.sane f.inside in
      record {
        sane = g.sane;
        inside = g.inside;
        later = later-next img e.table e'.table e''.table ns ms r.0 f.later g.later;
        entries = λ m l k. g.entries m l (λ j. k (in_right m ns ms j)) ∙ f.entries m l (λ j. k (in_left m ns ms j));
      }
  framed (marks {e = e} n c x a) b sm s i =
      let l = sm n (inl refl) in
      record {
        sane = mark-kept img n c x e.table l s;
        inside = i;
        later = record { lookups = λ r y k. mark-lookup img n c x e.table l r y; exits = λ m k f. mark-exit img n c x e.table l m k (λ q. f (inl q)) };
        entries = λ m k f. mark-entry img n c x e.table l m k (λ q. f (inl q));
      }
  framed (adds {e = e} n a) b sm s i =
      let b₀ = b.0 in
      let b₁ = b.1 in
      record {
        sane = new-kept img n e s i (omega arith) (omega arith);
        inside = omega arith;
        later = record { lookups = λ r x h. new-lookup-old img n e s i (omega arith) (omega arith) r x h; exits = λ m h f. new-exit img n e s i (omega arith) (omega arith) m h };
        entries = λ m h f. new-entry img n e s i (omega arith) (omega arith) m h;
      }
  framed (drops v) b sm s i =
      let r = rises img Any Any v in
      let f = framed v b sm s i in
      record { sane = f.sane; inside = omega arith; later = f.later; entries = f.entries }
