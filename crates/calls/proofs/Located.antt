-- Document 02's S-2, of Lookup's answer: what it gives, of any image and table that it does not refuse, is found so, and nothing else is.
use mathlib.Core.Path.{◌≡◌, refl, sym, ap, ap₂, subst, ◌∙◌}
use mathlib.Core.List.{List}
use mathlib.Core.Option.{Option, none, some}
use Prim.Native.Nat.{ℕ, zero, suc}
use native.Mathlib.Omega.{arith}
use Rattle.ast.specs.Answer.{Answer, refused, located, other}
use Rattle.ast.specs.Image.{kind_at}
use Rattle.names.specs.Number.{number_of}
use Rattle.sound.specs.Sound.{table_in}
use Rattle.table.specs.Table.{Found, symbol_of, found}
use Rattle.table.specs.Where.{FoundAt, FoundNowhere}
use Rattle.table.proofs.WhereFound.{found-exactly, nowhere-exactly}
use Rattle.scopes.specs.Lookup.{test_lookup, symbol_answer, found_by, lookup_call}
use Rattle.calls.specs.Where.{Located}

module _ (img tab : List ℕ) (s : ℕ) (bs : List ℕ) where
  located-by : (o : Option ℕ) → number_of img bs ≡ o → (u k n : ℕ) → symbol_answer img (found_by img tab s o) ≡ located u k n → Located img tab s bs u k n
  unfolding found_by symbol_answer
  located-by none q u k n e = absurd (let z : ◌≡◌ {A = ℕ} 0 1 = cc in omega arith)
  located-by (some x) q u k n e = go (found img (table_in img tab) s x) refl e
    where
      go : (o : Option Found) → found img (table_in img tab) s x ≡ o → symbol_answer img o ≡ located u k n → Located img tab s bs u k n
      go none r h = absurd (let z : ◌≡◌ {A = ℕ} 0 1 = cc in omega arith)
      go (some f) r h =
          let a : f.scope ≡ u = cc in
          let b : f.node ≡ n = cc in
          let c : symbol_of (kind_at img f.node) ≡ k = cc in
          let g : f ≡ record { node = n; scope = u } = ap₂ (λ (m v : ℕ). record { node = m; scope = v }) b a in
          record { name = x; named = q; at = subst (FoundAt img (table_in img tab) s x) g ((found-exactly img (table_in img tab) s x f).0 r); symbol = sym c ∙ ap (λ (m : ℕ). symbol_of (kind_at img m)) b }

  pub lookup-located : (u k n : ℕ) → lookup_call img tab s bs ≡ located u k n → Located img tab s bs u k n
  unfolding lookup_call
  lookup-located u k n e = go (test_lookup img tab s) e
    where
      go : (r : ℕ) → elim r as (λ _. Answer) [ zero ↦ symbol_answer img (found_by img tab s (number_of img bs)) | suc i ↦ refused (suc i) ] ≡ located u k n → Located img tab s bs u k n
      go zero h = located-by (number_of img bs) refl u k n h
      go (suc i) h = absurd (let z : ◌≡◌ {A = ℕ} 0 1 = cc in omega arith)

  -- none: no scope from there on upwards holds a row of a name with these bytes
  pub lookup-nowhere : lookup_call img tab s bs ≡ other 0 0 → (x : ℕ) → number_of img bs ≡ some x → FoundNowhere img (table_in img tab) s x
  unfolding lookup_call found_by symbol_answer
  lookup-nowhere e x q = go (test_lookup img tab s) e
    where
      by_name : (o : Option Found) → found img (table_in img tab) s x ≡ o → symbol_answer img o ≡ other 0 0 → FoundNowhere img (table_in img tab) s x
      by_name none r h = (nowhere-exactly img (table_in img tab) s x).0 r
      by_name (some f) r h = absurd (let z : ◌≡◌ {A = ℕ} 0 1 = cc in omega arith)

      go : (r : ℕ) → elim r as (λ _. Answer) [ zero ↦ symbol_answer img (found_by img tab s (number_of img bs)) | suc i ↦ refused (suc i) ] ≡ other 0 0 → FoundNowhere img (table_in img tab) s x
      go zero h = by_name (found img (table_in img tab) s x) refl (sym (ap (λ (o : Option ℕ). symbol_answer img (found_by img tab s o)) q) ∙ h)
      go (suc i) h = absurd (let z : ◌≡◌ {A = ℕ} 0 1 = cc in omega arith)

  -- and the other way: where nothing is refused, what stands so is what Lookup gives
  pub lookup-where : test_lookup img tab s ≡ 0 → (x : ℕ) → number_of img bs ≡ some x → (f : Found) → FoundAt img (table_in img tab) s x f
      → lookup_call img tab s bs ≡ located f.scope (symbol_of (kind_at img f.node)) f.node
  unfolding lookup_call found_by symbol_answer
  lookup-where t x q f h =
      ap (λ (r : ℕ). elim r as (λ _. Answer) [ zero ↦ symbol_answer img (found_by img tab s (number_of img bs)) | suc i ↦ refused (suc i) ]) t
      ∙ ap (λ (o : Option ℕ). symbol_answer img (found_by img tab s o)) q
      ∙ ap (symbol_answer img) ((found-exactly img (table_in img tab) s x f).1 h)
