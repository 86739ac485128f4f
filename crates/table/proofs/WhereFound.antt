-- Document 02's S-2: a symbol is found in the scope asked or in the nearest above it that holds one of the name, by its earliest row;
-- and nothing else is so.
use mathlib.Core.Path.{◌≡◌, refl, sym, ap, ap₂, subst, ◌∙◌}
use mathlib.Core.Logic.{◌≢◌, ◌⊎◌, inl, inr, ◌↔◌, ⊎_elim}
use mathlib.Core.Bool.{true, false≢true}
use mathlib.Core.List.{List}
use mathlib.Core.Option.{Option, none, some}
use Prim.Native.Nat.{ℕ, zero, suc, ◌<◌, ◌≤◌}
use native.Mathlib.Decide.{dec_lt, ℕ_discrete}
use native.Mathlib.Nat.{zero-add}
use native.Mathlib.Omega.{arith}
use borrow.Author.Tests.{eqb-true, eq-eqb}
use Rattle.ast.specs.Declarations.{or_else}
use Rattle.ast.specs.Image.{nodes}
use Rattle.table.specs.Rising.{scope_of, node_at, parent_at}
use Rattle.table.specs.Table.{Table, Found, row_is, held, found}
use Rattle.table.specs.Where.{Holds, Over, itself, higher, FoundAt, FoundNowhere}
use Rattle.table.proofs.Below.{Hit, hit-of, miss-of}
use Rattle.table.proofs.Finds.{row_in, row_out}
use Rattle.table.proofs.Frame.{found-child, found-root}

module _ (img : List ℕ) (t : Table) where
  abbrev up : ℕ → ℕ
  up s = parent_at (nodes img) t.words s

  -- a row of the scope and the name, by the test of it
  tested : (s x j : ℕ) → Holds img t s x j → row_is img t.words j s x ≡ true
  tested s x j h = row_in img t.words j s x h.scope ∙ eq-eqb _ _ h.name

  holds-by : (s x j : ℕ) → j < t.symbols → row_is img t.words j s x ≡ true → Holds img t s x j
  holds-by s x j l e = go (ℕ_discrete (scope_of (nodes img) t.words j) s)
    where
      go : Dec (scope_of (nodes img) t.words j ≡ s) → Holds img t s x j
      go (yes q) = record { row = l; scope = q; name = eqb-true _ _ (sym (row_in img t.words j s x q) ∙ e) }
      go (no f) = absurd (false≢true (sym (row_out img t.words j s x f) ∙ e))

  -- in one scope
  held-hit : (s x : ℕ) (f : Found) → held img t s x ≡ some f → Hit img t.words t.symbols 0 s x f
  unfolding held
  held-hit s x f e = hit-of img t.words t.symbols 0 s x f e

  held-miss : (s x : ℕ) → held img t s x ≡ none → (j : ℕ) → Holds img t s x j → ⊥
  unfolding held
  held-miss s x e j h = miss-of img t.words t.symbols 0 s x e j (omega arith) (let z = zero-add t.symbols in let y = h.row in omega arith) (tested s x j h)

  -- the way up
  pub over-le : {u s : ℕ} → Over img t u s → u ≤ s
  over-le itself = omega arith
  over-le (higher l o) = let z = over-le o in omega arith

  pub over-over : {u v s : ℕ} → Over img t u v → Over img t v s → Over img t u s
  over-over o itself = o
  over-over o (higher l p) = higher l (over-over o p)

  one_way : {u v s : ℕ} → Over img t u s → Over img t v s → Over img t u v ⊎ Over img t v u
  one_way itself o = inr o
  one_way (higher l o) itself = inl (higher l o)
  one_way (higher l o) (higher m p) = one_way o p

  here-found : (s x : ℕ) (f : Found) → held img t s x ≡ some f → FoundAt img t s x f
  here-found s x f e =
      let g = held-hit s x f e in
      let b : g.row < t.symbols = (let z = zero-add t.symbols in let y = g.within in omega arith) in
      let h = holds-by s x g.row b g.hits in
      let q : s ≡ f.scope = sym h.scope ∙ ap (λ (k : Found). k.scope) g.symbol in
      record {
        over = subst (λ (u : ℕ). Over img t u s) q itself;
        row = g.row;
        holds = subst (λ (u : ℕ). Holds img t u x g.row) q h;
        nearest = λ v o p n j k. n (let y = over-le o in let z = over-le p in omega arith);
        node = sym (ap (λ (k : Found). k.node) g.symbol);
        earliest = λ j k l. g.earlier j (omega arith) l (tested s x j (subst (λ (u : ℕ). Holds img t u x j) (sym q) k));
      }

  above-found : (s x : ℕ) (f : Found) → up s < s → held img t s x ≡ none → FoundAt img t (up s) x f → FoundAt img t s x f
  above-found s x f l e h =
      record {
        over = higher l h.over;
        row = h.row;
        holds = h.holds;
        nearest = λ v o p n j k. between o p n j k;
        node = h.node;
        earliest = h.earliest;
      }
    where
      between : {v : ℕ} → Over img t v s → Over img t f.scope v → v ≢ f.scope → (j : ℕ) → Holds img t v x j → ⊥
      between itself p n j k = held-miss s x e j k
      between {v} (higher m o) p n j k = h.nearest v o p n j k

  above-nowhere : (s x : ℕ) → held img t s x ≡ none → (up s < s → FoundNowhere img t (up s) x) → FoundNowhere img t s x
  above-nowhere s x e h v o = go o
    where
      go : {v : ℕ} → Over img t v s → (j : ℕ) → Holds img t v x j → ⊥
      go itself j k = held-miss s x e j k
      go {v} (higher l o) j k = h l v o j k

  -- what finding gives, in these words
  abbrev Where : ℕ → ℕ → Option Found → Type 0
  Where s x none = FoundNowhere img t s x
  Where s x (some f) = FoundAt img t s x f

  pub found-where : (s x : ℕ) → Where s x (found img t s x)
  found-where s x = go (suc s) s (omega arith)
    where
      step : (s : ℕ) (o : Option Found) → held img t s x ≡ o → Dec (up s < s) → (up s < s → Where (up s) x (found img t (up s) x)) → Where s x (found img t s x)
      step s (some f) e (yes l) h = subst (Where s x) (sym (found-child img t s (up s) x refl l ∙ ap (λ (o : Option Found). or_else o (found img t (up s) x)) e)) (here-found s x f e)
      step s (some f) e (no n) h = subst (Where s x) (sym (found-root img t s x (omega arith) ∙ e)) (here-found s x f e)
      step s none e (yes l) h =
          subst (Where s x) (sym (found-child img t s (up s) x refl l ∙ ap (λ (o : Option Found). or_else o (found img t (up s) x)) e)) (lift (found img t (up s) x) (h l))
        where
          lift : (o : Option Found) → Where (up s) x o → Where s x o
          lift none k = above-nowhere s x e (λ m. k)
          lift (some f) k = above-found s x f l e k
      step s none e (no n) h = subst (Where s x) (sym (found-root img t s x (omega arith) ∙ e)) (above-nowhere s x e (λ l. absurd (n l)))

      go : (f s : ℕ) → s < f → Where s x (found img t s x)
      go zero s l = absurd (omega arith)
      go (suc f) s l = step s (held img t s x) refl (dec_lt (up s) s) (λ m. go f (up s) (omega arith))

  -- at most one symbol stands so; with that each of the two is told both ways
  one-scope : {s x : ℕ} {f g : Found} → FoundAt img t s x f → FoundAt img t s x g → Over img t f.scope g.scope → f.scope ≡ g.scope
  one-scope {f = f} {g} h k o = go (ℕ_discrete g.scope f.scope)
    where
      go : Dec (g.scope ≡ f.scope) → f.scope ≡ g.scope
      go (yes q) = sym q
      go (no n) = absurd (h.nearest g.scope k.over o n k.row k.holds)

  same-scope : {s x : ℕ} {f g : Found} → FoundAt img t s x f → FoundAt img t s x g → f.scope ≡ g.scope
  same-scope h k = ⊎_elim (λ o. one-scope h k o) (λ o. sym (one-scope k h o)) (one_way h.over k.over)

  one_found : {s x : ℕ} (f g : Found) → FoundAt img t s x f → FoundAt img t s x g → f ≡ g
  one_found {x = x} f g h k =
      let q = same-scope h k in
      let a : k.row < h.row → ⊥ = λ l. h.earliest k.row (subst (λ (u : ℕ). Holds img t u x k.row) (sym q) k.holds) l in
      let b : h.row < k.row → ⊥ = λ l. k.earliest h.row (subst (λ (u : ℕ). Holds img t u x h.row) q h.holds) l in
      let r : h.row ≡ k.row = rows (dec_lt k.row h.row) (dec_lt h.row k.row) a b in
      ap₂ (λ (n u : ℕ). record { node = n; scope = u }) (h.node ∙ ap (node_at (nodes img) t.words) r ∙ sym k.node) q
    where
      rows : {i j : ℕ} → Dec (i < j) → Dec (j < i) → (i < j → ⊥) → (j < i → ⊥) → j ≡ i
      rows (yes l) d a b = absurd (a l)
      rows (no l) (yes m) a b = absurd (b m)
      rows (no l) (no m) a b = omega arith

  pub found-exactly : (s x : ℕ) (f : Found) → (found img t s x ≡ some f) ↔ FoundAt img t s x f
  found-exactly s x f = ((λ e. subst (Where s x) e (found-where s x)), λ h. go (found img t s x) (found-where s x) h)
    where
      go : (o : Option Found) → Where s x o → FoundAt img t s x f → o ≡ some f
      go none w h = absurd (w f.scope h.over h.row h.holds)
      go (some g) w h = ap some (one_found g f w h)

  pub nowhere-exactly : (s x : ℕ) → (found img t s x ≡ none) ↔ FoundNowhere img t s x
  nowhere-exactly s x = ((λ e. subst (Where s x) e (found-where s x)), λ h. go (found img t s x) (found-where s x) h)
    where
      go : (o : Option Found) → Where s x o → FoundNowhere img t s x → o ≡ none
      go none w h = refl
      go (some g) w h = absurd (h g.scope w.over w.row w.holds)
