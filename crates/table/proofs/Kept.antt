-- The steps of a walk keep what it keeps of its table.
use mathlib.Core.Path.{◌≡◌, refl, ap, ◌∙◌}
use mathlib.Core.Logic.{⊎_elim}
use mathlib.Core.List.{List}
use Prim.Native.Nat.{ℕ, suc, ◌<◌, ◌≤◌}
use native.Mathlib.Omega.{arith}
use native.Mathlib.Nat.{eq-or-lt_of_le}
use lib.ListN.{length, set, drop, length-set}
use lib.Seq.{drop-set-lt}
use Rattle.ast.specs.Image.{nodes}
use Rattle.table.specs.Layout.{entry_place, exit_place, parent_place, scope_place, node_place, table_length}
use Rattle.table.specs.Rising.{scope_of}
use Rattle.table.specs.Table.{Table, mark, new_scope, new_symbol}
use Rattle.table.proofs.Frames.{mark-word, scope-word, symbol-word, symbol-scope}
use Rattle.table.specs.Kept.{Kept}

module _ (img : List ℕ) where
  -- the scopes of the rows stay
  pub mark-rows : (n a b : ℕ) (t : Table) → n < nodes img → (j : ℕ) → scope_of (nodes img) (mark img n a b t).words j ≡ scope_of (nodes img) t.words j
  mark-rows n a b t h j = mark-word img n a b t (scope_place (nodes img) j) (omega arith) (omega arith)

  pub scope-rows : (p : ℕ) (t : Table) → t.scopes < nodes img → (j : ℕ) → scope_of (nodes img) (new_scope img p t).words j ≡ scope_of (nodes img) t.words j
  scope-rows p t h j = scope-word img p t (scope_place (nodes img) j) (omega arith)

  pub symbol-rows : (s n : ℕ) (t : Table) (j : ℕ) → j < t.symbols → scope_of (nodes img) (new_symbol img s n t).words j ≡ scope_of (nodes img) t.words j
  symbol-rows s n t j h = symbol-word img s n t (scope_place (nodes img) j) (omega arith) (omega arith)

  pub mark-length : (n a b : ℕ) (t : Table) → length (mark img n a b t).words ≡ length t.words
  unfolding mark
  mark-length n a b t = length-set (set t.words (entry_place (nodes img) n) a) (exit_place (nodes img) n) b ∙ length-set t.words (entry_place (nodes img) n) a

  pub scope-length : (p : ℕ) (t : Table) → length (new_scope img p t).words ≡ length t.words
  unfolding new_scope
  scope-length p t = length-set t.words (parent_place (nodes img) t.scopes) p

  pub symbol-length : (s n : ℕ) (t : Table) → length (new_symbol img s n t).words ≡ length t.words
  unfolding new_symbol
  symbol-length s n t = length-set (set t.words (scope_place (nodes img) t.symbols) s) (node_place (nodes img) t.symbols) n ∙ length-set t.words (scope_place (nodes img) t.symbols) s

  -- the words past the table
  abbrev pub past : Table → List ℕ
  past t = drop (table_length (nodes img)) t.words

  pub mark-past : (n a b : ℕ) (t : Table) → n < nodes img → past (mark img n a b t) ≡ past t
  unfolding mark
  mark-past n a b t h =
      drop-set-lt (table_length (nodes img)) (set t.words (entry_place (nodes img) n) a) (exit_place (nodes img) n) b (omega arith)
      ∙ drop-set-lt (table_length (nodes img)) t.words (entry_place (nodes img) n) a (omega arith)

  pub scope-past : (p : ℕ) (t : Table) → t.scopes < nodes img → past (new_scope img p t) ≡ past t
  unfolding new_scope
  scope-past p t h = drop-set-lt (table_length (nodes img)) t.words (parent_place (nodes img) t.scopes) p (omega arith)

  pub symbol-past : (s n : ℕ) (t : Table) → t.symbols < nodes img → past (new_symbol img s n t) ≡ past t
  unfolding new_symbol
  symbol-past s n t h =
      drop-set-lt (table_length (nodes img)) (set t.words (scope_place (nodes img) t.symbols) s) (node_place (nodes img) t.symbols) n (omega arith)
      ∙ drop-set-lt (table_length (nodes img)) t.words (scope_place (nodes img) t.symbols) s (omega arith)

  -- the same rows, and as many
  kept_same : (t u : Table) → u.symbols ≡ t.symbols → t.scopes ≤ u.scopes → length u.words ≡ length t.words
      → ((j : ℕ) → scope_of (nodes img) u.words j ≡ scope_of (nodes img) t.words j) → Kept img t → Kept img u
  kept_same t u y k l r s =
      record {
        rising = record { within = (let w = s.rising.within in omega arith); long = (let z = s.rising.long in omega arith); rises = λ i j a b. let p = r i in let q = r j in let z = s.rising.rises i j a (omega arith) in omega arith };
        under = λ j b. let q = r j in let z = s.under j (omega arith) in omega arith;
      }

  pub mark-kept : (n a b : ℕ) (t : Table) → n < nodes img → Kept img t → Kept img (mark img n a b t)
  unfolding mark
  mark-kept n a b t h s =
      kept_same t (mark img n a b t) refl (omega arith) (mark-length n a b t) (mark-rows n a b t h) s

  pub scope_kept : (p : ℕ) (t : Table) → t.scopes < nodes img → Kept img t → Kept img (new_scope img p t)
  unfolding new_scope
  scope_kept p t h s = kept_same t (new_scope img p t) refl (omega arith) (scope-length p t) (scope-rows p t h) s

  -- a symbol of the newest scope
  pub symbol-kept : (s n : ℕ) (t : Table) → t.symbols < nodes img → suc s ≡ t.scopes → Kept img t → Kept img (new_symbol img s n t)
  unfolding new_symbol
  symbol-kept s n t h e d =
      record {
        rising = record { within = omega arith; long = (let z = symbol-length s n t in let y = d.rising.long in omega arith); rises = λ i j a b. ⊎_elim (λ q. last i j a q) (λ l. older i j a l) (eq-or-lt_of_le (let z : j ≤ t.symbols = omega arith in z)) };
        under = λ j b. ⊎_elim (λ q. let z = ap (scope_of (nodes img) u) q in let w = new in omega arith) (λ l. let z = symbol-rows s n t j l in let y = d.under j l in omega arith) (eq-or-lt_of_le (let z : j ≤ t.symbols = omega arith in z));
      }
    where
      u : List ℕ
      u = (new_symbol img s n t).words

      new : scope_of (nodes img) u t.symbols ≡ s
      new = symbol-scope img s n t h d.rising.long

      older : (i j : ℕ) → i ≤ j → j < t.symbols → scope_of (nodes img) u i ≤ scope_of (nodes img) u j
      older i j a l = let p = symbol-rows s n t i (omega arith) in let q = symbol-rows s n t j l in let z = d.rising.rises i j a l in omega arith

      last : (i j : ℕ) → i ≤ j → j ≡ t.symbols → scope_of (nodes img) u i ≤ scope_of (nodes img) u j
      last i j a q =
          let z = ap (scope_of (nodes img) u) q in
          let w = new in
          ⊎_elim (λ p. let y = ap (scope_of (nodes img) u) p in omega arith) (λ l. let y = symbol-rows s n t i (omega arith) in let x = d.under i (omega arith) in omega arith) (eq-or-lt_of_le a)
