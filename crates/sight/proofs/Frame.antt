-- What a later table keeps of an earlier one: lookups, and recorded exits.
use mathlib.Core.Path.{◌≡◌, ◌∙◌}
use mathlib.Core.List.{List, ◌++◌}
use Prim.Native.Nat.{ℕ, ◌≤◌, ◌<◌}
use native.Mathlib.Omega.{arith}
use Rattle.ast.specs.Image.{nodes}
use Rattle.table.specs.Table.{Table, lookup, exit_at}
use Rattle.sight.specs.Sight.{In}
use Rattle.sight.proofs.Members.{in_left, in_right}

module _ (img : List ℕ) where
  abbrev N : ℕ
  N = nodes img

  -- no more scopes and symbols than there are nodes
  abbrev pub Bounds : Table → Type 0
  Bounds t = (t.scopes ≤ N) × (t.symbols ≤ N)

  -- what a later table keeps of an earlier one, where the nodes ns were marked
  pub record Later (t t' : Table) (ns : List ℕ) : Type 0 where
    pub lookups : (s x : ℕ) → s < t.scopes → lookup img t' s x ≡ lookup img t s x
    pub exits : (m : ℕ) → m < N → (In m ns → ⊥) → exit_at img t'.words m ≡ exit_at img t.words m

  pub later-next : (t t' t'' : Table) (ns ms : List ℕ) → t.scopes ≤ t'.scopes → Later t t' ns → Later t' t'' ms → Later t t'' (ns ++ ms)
  later-next t t' t'' ns ms r f h =
      record {
        lookups = λ s x l. h.lookups s x (omega arith) ∙ f.lookups s x l;
        exits = λ m l k. h.exits m l (λ i. k (in_right m ns ms i)) ∙ f.exits m l (λ i. k (in_left m ns ms i));
      }
