-- Laws of the stamps: a name that the scope does not have yet is told without a search.
use mathlib.Core.Path.{◌≡◌, refl, sym, ap, subst, ◌∙◌}
use mathlib.Core.Logic.{⊎_elim}
use mathlib.Core.Bool.{Bool, true, false}
use mathlib.Core.List.{List}
use mathlib.Core.Option.{none}
use Prim.Native.Nat.{ℕ, zero, suc, ◌+◌, ◌<◌, ◌≤◌}
use native.Mathlib.Omega.{arith}
use native.Mathlib.Nat.{eq-or-lt_of_le}
use lib.Dec.{eqb}
use lib.ListN.{length, get_or, set, length-set}
use lib.Seq.{get_or-set_same, get_or-set_other}
use borrow.Author.Tests.{eqb-true, eqb-false, ne_eqb}
use Rattle.ast.specs.Image.{nodes, name_of}
use Rattle.table.specs.Layout.{table_length}
use Rattle.table.specs.Rising.{scope_of, node_at}
use Rattle.table.specs.State.{Walked, own_symbol, marked}
use Rattle.table.specs.Table.{row_is, find_from, mark, new_symbol}
use Rattle.table.proofs.Finds.{row_out, row_in}
use Rattle.table.proofs.Frames.{SameRows, mark-same, symbol-same, symbol-node}
use Rattle.scopes.specs.Promises.{Seen}

module _ (img : List ℕ) where
  -- no row of the name in the scope
  from_false : (c : ℕ) (ws : List ℕ) (j s x : ℕ) → ((i : ℕ) → i < j + c → row_is img ws i s x ≡ false) → find_from img c ws j s x ≡ none
  unfolding find_from
  from_false zero ws j s x h = refl
  from_false (suc c) ws j s x h = rw (h j (omega arith), find_from) (from_false c ws (j + 1) s x (λ i l. h i (omega arith)))

  -- a scope above all rows: whatever the stamps are
  pub seen_start : (seen : List ℕ) (e : Walked) → ((j : ℕ) → j < e.table.symbols → scope_of (nodes img) e.table.words j < e.scope) → Seen img seen e
  seen_start seen e h = record { stamped = λ j l q k. absurd (let z = h j l in omega arith) }

  -- a name without the stamp is not in the scope
  pub seen_none : {seen : List ℕ} {e : Walked} (x : ℕ) → Seen img seen e → x < length seen → (get_or seen x 0 ≡ suc e.scope → ⊥)
      → find_from img e.table.symbols e.table.words 0 e.scope x ≡ none
  seen_none {seen} {e} x h l k = from_false e.table.symbols e.table.words 0 e.scope x (λ i b. go i (omega arith) (eqb (scope_of (nodes img) e.table.words i) e.scope) refl)
    where
      other : (i : ℕ) → i < e.table.symbols → scope_of (nodes img) e.table.words i ≡ e.scope → name_of img (node_at (nodes img) e.table.words i) ≡ x → ⊥
      other i b q r = k (ap (λ (y : ℕ). get_or seen y 0) (sym r) ∙ h.stamped i b q (subst (λ (y : ℕ). y < length seen) (sym r) l))

      go : (i : ℕ) → i < e.table.symbols → (b : Bool) → eqb (scope_of (nodes img) e.table.words i) e.scope ≡ b → row_is img e.table.words i e.scope x ≡ false
      go i b true q = row_in img e.table.words i e.scope x (eqb-true _ _ q) ∙ ne_eqb _ _ (λ r. other i b (eqb-true _ _ q) r)
      go i b false q = row_out img e.table.words i e.scope x (eqb-false _ _ q)

  -- a stamp more for this scope breaks none
  pub seen-stamp : {seen : List ℕ} {e : Walked} (x : ℕ) → Seen img seen e → Seen img (set seen x (suc e.scope)) e
  seen-stamp {seen} {e} x h =
      record { stamped = λ j l q k. stamp (name_of img (node_at (nodes img) e.table.words j)) (let z = length-set seen x (suc e.scope) in omega arith) (λ m. h.stamped j l q m) }
    where
      stamp : (y : ℕ) → y < length seen → (y < length seen → get_or seen y 0 ≡ suc e.scope) → get_or (set seen x (suc e.scope)) y 0 ≡ suc e.scope
      stamp y l f = go (eqb y x) refl
        where
          go : (b : Bool) → eqb y x ≡ b → get_or (set seen x (suc e.scope)) y 0 ≡ suc e.scope
          go true q = ap (λ (i : ℕ). get_or (set seen x (suc e.scope)) i 0) (eqb-true _ _ q) ∙ get_or-set_same seen x (suc e.scope) 0 (subst (λ (i : ℕ). i < length seen) (eqb-true _ _ q) l)
          go false q = get_or-set_other seen x y (suc e.scope) 0 (eqb-false _ _ q) ∙ f l

  -- a symbol more, whose name has its stamp
  pub seen-symbol : {seen : List ℕ} (n : ℕ) (e : Walked) → e.table.symbols < nodes img → table_length (nodes img) ≤ length e.table.words
      → (name_of img n < length seen → get_or seen (name_of img n) 0 ≡ suc e.scope) → Seen img seen e → Seen img seen (own_symbol img n e)
  unfolding own_symbol new_symbol
  seen-symbol {seen} n e few long f h = record { stamped = λ j l q k. ⊎_elim (λ r. new j r k) (λ m. old j m q k) (eq-or-lt_of_le (let z : j ≤ e.table.symbols = omega arith in z)) }
    where
      vs : List ℕ
      vs = (new_symbol img e.scope n e.table).words

      same : SameRows (nodes img) e.table.symbols vs e.table.words
      same = symbol-same img e.scope n e.table few

      Stamp : ℕ → Type 0
      Stamp m = name_of img m < length seen → get_or seen (name_of img m) 0 ≡ suc e.scope

      new : (j : ℕ) → j ≡ e.table.symbols → Stamp (node_at (nodes img) vs j)
      new j r = subst Stamp (sym (ap (node_at (nodes img) vs) r ∙ symbol-node img e.scope n e.table few long)) f

      old : (j : ℕ) → j < e.table.symbols → scope_of (nodes img) vs j ≡ e.scope → Stamp (node_at (nodes img) vs j)
      old j m q = subst Stamp (sym (same.nodes j m)) (λ k. h.stamped j m (sym (same.scopes j m) ∙ q) k)

  pub seen-marked : {seen : List ℕ} {n : ℕ} (cur : ℕ) (e : Walked) → n < nodes img → Seen img seen e → Seen img seen (marked img n cur e)
  unfolding marked mark
  seen-marked {seen} {n} cur e l h =
      record { stamped = λ j k q. subst Stamp (sym (same.nodes j k)) (λ m. h.stamped j k (sym (same.scopes j k) ∙ q) m) }
    where
      same : SameRows (nodes img) e.table.symbols (mark img n cur e.scope e.table).words e.table.words
      same = mark-same img n cur e.scope e.table l

      Stamp : ℕ → Type 0
      Stamp m = name_of img m < length seen → get_or seen (name_of img m) 0 ≡ suc e.scope
