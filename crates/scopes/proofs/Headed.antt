-- The table with its three counts in front: lookups, entries and exits are as before, and what was noted tells the same; and what a
-- call finds in it.
use mathlib.Core.Path.{◌≡◌, refl, sym, ap, ap₂, subst, ◌∙◌}
use mathlib.Core.List.{List}
use mathlib.Core.Option.{some}
use Prim.Native.Nat.{ℕ, zero, suc, ◌<◌}
use native.Mathlib.Omega.{arith}
use Rattle.std.specs.Prelude.{Result, Ok}
use Rattle.error.specs.declared.SymbolDeclaredTwice.{SymbolDeclaredTwice}
use Rattle.ast.specs.Image.{nodes}
use Rattle.ast.specs.Tests.{verdict}
use Rattle.table.specs.Layout.{entry_place, exit_place, parent_place, scope_place, node_place}
use Rattle.table.specs.Rising.{node_at}
use Rattle.table.specs.State.{Walked}
use Rattle.table.specs.Table.{Table, found_node, held, found, lookup, entry_at, exit_at}
use Rattle.table.proofs.Frames.{from-same}
use Rattle.environment.specs.Layout.{noted_entry, noted_exit}
use Rattle.environment.specs.Stands.{told, Tells, Noted}
use Rattle.scopes.specs.Walk.{done}
use Rattle.scopes.specs.Resolve.{test_table, walked, headed, counted, Way, refuses, stops, fills, way}
use Rattle.scopes.specs.Answers.{table_of, resolved_way, Resolves}
use Rattle.scopes.specs.declared.Resolved.{Resolved}
use Rattle.scopes.proofs.Calls.{Went, went}
use Rattle.scopes.proofs.Namings.{symbol-below}
use Rattle.scopes.proofs.Resolving.{table-accepted, walked-ended, headed-word}
use Rattle.table.proofs.Agreed.{found-agree}

module _ (img : List ℕ) (t : Table) where
  headed-found : (s x : ℕ) → found img t s x ≡ found img (counted img t) s x
  unfolding held
  headed-found s x =
      found-agree img (suc s) t (counted img t) s x (omega arith)
      (λ r h. (
        (λ y. from-same img t.symbols t.words (headed img t) 0 r y
            (record { scopes = λ i l. sym (headed-word img t (scope_place (nodes img) i) (omega arith)); nodes = λ i l. sym (headed-word img t (node_place (nodes img) i) (omega arith)) })),
        sym (headed-word img t (parent_place (nodes img) r) (omega arith)),
      ))

  pub headed-lookup : (s x : ℕ) → lookup img t s x ≡ lookup img (counted img t) s x
  unfolding lookup
  headed-lookup s x = ap found_node (headed-found s x)

  pub headed-entry : (n : ℕ) → entry_at img t.words n ≡ entry_at img (headed img t) n
  headed-entry n = sym (headed-word img t (entry_place (nodes img) n) (omega arith))

  pub headed-exit : (n : ℕ) → exit_at img t.words n ≡ exit_at img (headed img t) n
  headed-exit n = sym (headed-word img t (exit_place (nodes img) n) (omega arith))

  headed-told : (w : ℕ) → told img (headed img t) w ≡ told img t.words w
  unfolding told
  headed-told zero = refl
  headed-told (suc j) =
      ap₂ (λ (m a : ℕ). some (record { node = m; scope = a })) (headed-word img t (node_place (nodes img) j) (omega arith)) (headed-word img t (scope_place (nodes img) j) (omega arith))

  headed-tells : {w : ℕ} (s x : ℕ) → Tells img t w (found img t s x) → Tells img (counted img t) w (found img (counted img t) s x)
  headed-tells {w} s x h = record { row = h.row; is = headed-told w ∙ h.is ∙ headed-found s x }

  pub headed-noted : {env : List ℕ} → Noted img t env → Noted img (counted img t) env
  headed-noted {env} h =
      record {
        sized = h.sized;
        outer = λ x l. headed-tells 0 x (h.outer x l);
        entries = λ n x l a p. subst (λ (s : ℕ). Tells img (counted img t) (noted_entry env n) (found img (counted img t) s x)) (headed-entry n) (headed-tells (entry_at img t.words n) x (h.entries n x l a (let z = headed-entry n in omega arith)));
        exits = λ n x l a p. subst (λ (s : ℕ). Tells img (counted img t) (noted_exit env n) (found img (counted img t) s x)) (headed-exit n) (headed-tells (exit_at img t.words n) x (h.exits n x l a (let z = headed-exit n in omega arith)));
      }

-- what a call finds in a table that it has filled
pub record FilledTable (img : List ℕ) (t : Table) : Type 0 where
  pub accepted : verdict img ≡ 0
  pub symbols : (j : ℕ) → j < t.symbols → node_at (nodes img) t.words j < nodes img

module _ (img tab : List ℕ) (passes : test_table img tab ≡ 0) where
  pub counted-filled : {e : Walked} → walked img tab ≡ done e → FilledTable img (counted img e.table)
  counted-filled {e} h =
      let d = walked-ended img tab passes e h in
      record {
        accepted = table-accepted img tab passes;
        symbols = λ j l. let a = headed-word img e.table (node_place (nodes img) j) (omega arith) in let b = symbol-below img _ (d.good.symbols j l) in omega arith;
      }

  pub resolved-filled : {d : Result Resolved SymbolDeclaredTwice} {ws : List ℕ} → Resolves img tab d ws → {w : Resolved} → d ≡ Ok w → FilledTable img (table_of w ws)
  resolved-filled {d} {ws} r {w} q = go (way img tab 0) (went img tab 0) (sym r.way_is ∙ ap (λ (x : Result Resolved SymbolDeclaredTwice). resolved_way x ws) q)
    where
      go : (v : Way) → Went img tab 0 v → v ≡ fills (table_of w ws) → FilledTable img (table_of w ws)
      go (refuses k) h z = absurd (let o : ◌≡◌ {A = ℕ} 0 1 = cc in omega arith)
      go (stops x a b) h z = absurd (let o : ◌≡◌ {A = ℕ} 0 1 = cc in omega arith)
      go (fills t) (p, (e, h, i)) z = let j : t ≡ table_of w ws = cc in subst (FilledTable img) (sym i ∙ j) (counted-filled h)
