-- What resolving an accepted image leaves: no more scopes and symbols than nodes, the walk of every rule, and words that give the same
-- lookups as the table.
use mathlib.Core.Path.{◌≡◌, sym, ◌∙◌, ap, ap₂, subst}
use mathlib.Core.List.{List}
use Prim.Native.Nat.{ℕ, suc, ◌≤◌}
use native.Mathlib.Omega.{arith}
use lib.ListN.{length}
use Rattle.sound.specs.Sound.{table_in}
use Rattle.ast.specs.Image.{nodes, last}
use Rattle.ast.specs.Tests.{verdict}
use Rattle.ast.specs.Tree.{Tree}
use Rattle.table.specs.Layout.{table_length}
use Rattle.table.specs.State.{Walked}
use Rattle.table.specs.Table.{found_node, climb, lookup}
use Rattle.scopes.specs.Resolve.{test_table, zeroed, walked, headed, counted}
use Rattle.scopes.specs.Walk.{done, resolve_tree}
use Rattle.scopes.proofs.Resolving.{Ended, walk-ended, walked-ended, zeroed-long, headed-scopes, headed-symbols}
use Rattle.ast.specs.Rules.{Rule, module_rules}
use Rattle.sight.proofs.Verdict.{root-of}
use Rattle.sight.proofs.WholeModule.{Resolved, resolves}
use Rattle.sight.proofs.Counting.{module-small, module-distinct, rules-are}

module _ (img tab : List ℕ) (e : Walked) (accepted : verdict img ≡ 0) (done-e : walked img tab ≡ done e) where
  ended : Ended img (zeroed img tab) e
  ended = walk-ended img tab accepted e done-e

  pub resolved : Resolved img (module_rules img) e
  unfolding walked
  resolved =
      let r = root-of img accepted in
      subst (λ (rs : List Rule). Resolved img rs e) (sym (rules-are img accepted))
      (resolves img (last img) r.kind r.class r.shape r.lists (zeroed img tab) e
      (ap (λ (u : Tree). resolve_tree img u (record { words = zeroed img tab; scopes = 0; symbols = 0 })) (sym r.is) ∙ done-e)
      (zeroed-long img tab) (ended.scopes, ended.symbols) r.decls (module-small img accepted) (module-distinct img accepted))

  pub left-lookup : (s x : ℕ) → lookup img (table_in img (headed img e.table)) s x ≡ lookup img (counted img e.table) s x
  unfolding lookup
  left-lookup s x =
      ap (λ (y : ℕ). found_node (climb img (suc s) (headed img e.table) y s x)) (headed-symbols img e.table (let z = ended.long in let l = zeroed-long img tab in omega arith))

-- the table that a call leaves, as Lookup reads it, is the one that the walk ended with
pub left-table : (img tab : List ℕ) → test_table img tab ≡ 0 → {e : Walked} → walked img tab ≡ done e → table_in img (headed img e.table) ≡ counted img e.table
left-table img tab p {e} h =
    let d = walked-ended img tab p e h in
    let l : table_length (nodes img) ≤ length e.table.words = (let z = d.long in let y = zeroed-long img tab in omega arith) in
    ap₂ (λ (k y : ℕ). record { words = headed img e.table; scopes = k; symbols = y }) (headed-scopes img e.table l) (headed-symbols img e.table l)
