-- Runs of tests, as a loop goes through them; and the claims, against how often a node stands as a child.
use mathlib.Core.Path.{◌≡◌, refl, sym, ap, ◌∙◌}
use mathlib.Core.List.{List, [], ◌∷◌}
use Prim.Native.Nat.{ℕ, zero, suc, ◌+◌, ◌-◌, ◌<◌, ◌≤◌}
use native.Mathlib.Omega.{arith}
use native.Mathlib.Nat.{sub-zero, zero-add}
use lib.Dec.{eqb}
use lib.ListN.{length, get_or, set, replicate, length-set, length-replicate, get_or-replicate}
use lib.Seq.{get_or-set_same, get_or-set_other}
use borrow.Author.Tests.{eq-eqb, ne_eqb}
use native.Mathlib.Decide.{dec_lt}
use Rattle.ast.specs.Promises.{bump, claim_all}
use Rattle.ast.specs.Tests.{need, run, is, times}
use Rattle.ast.proofs.Accepted.{skip, stop}
use Rattle.ast.proofs.Count.{is_same, is-other}
use Rattle.ast.proofs.Shapes.{one_more}
use Rattle.ast.proofs.Scans.{need-in, need-out}

-- the whole run is what is left of it
module _ (f : ℕ → ℕ) (c : ℕ) where
  abbrev pub RunLeft : ℕ → Type 0
  RunLeft i = run f c 0 ≡ run f (c - i) i

  pub run-begin : RunLeft 0
  run-begin = rw sub-zero

  pub run-next : (i : ℕ) → RunLeft i → i < c → f i ≡ 0 → RunLeft (i + 1)
  unfolding run
  run-next i l h e = l ∙ rw (one_more h, run) (skip _ _ e)

  pub run-stop : (i k : ℕ) → RunLeft i → i < c → f i ≡ k → (k ≡ 0 → ⊥) → run f c 0 ≡ k
  unfolding run
  run-stop i zero l h e z = absurd (z refl)
  run-stop i (suc k) l h e z = l ∙ rw (one_more h, run) (stop _ _ k e)

  pub run_end : (i : ℕ) → RunLeft i → c ≤ i → run f c 0 ≡ 0
  unfolding run
  run_end i l h = let z : c - i ≡ 0 = omega arith in l ∙ rw (z, run)

-- the same run by a loop that does not stop: every refusal is k
module _ (f : ℕ → ℕ) (c k : ℕ) where
  pub record RunSeen (i r : ℕ) : Type 0 where
    pub none : r ≡ 0 → RunLeft f c i
    pub some : (r ≡ 0 → ⊥) → (r ≡ k) × (run f c 0 ≡ k)

  pub seen-begin : RunSeen 0 0
  seen-begin = record { none = λ e. run-begin f c; some = λ z. absurd (z refl) }

  module _ (i r : ℕ) (s : RunSeen i r) where
    pub seen_next : i < c → f i ≡ 0 → RunSeen (i + 1) r
    seen_next h e = record { none = λ z. run-next f c i (s.none z) h e; some = s.some }

    pub seen_first : i < c → f i ≡ k → (k ≡ 0 → ⊥) → RunSeen (i + 1) k
    seen_first h e z = record { none = λ y. absurd (z y); some = λ y. (refl, go r refl) }
      where
        go : (x : ℕ) → r ≡ x → run f c 0 ≡ k
        go zero q = run-stop f c i k (s.none q) h e z
        go (suc x) q = (s.some (λ y. omega arith)).1

    pub seen_end : c ≤ i → run f c 0 ≡ r
    seen_end h = go r refl
      where
        go : (x : ℕ) → r ≡ x → run f c 0 ≡ r
        go zero q = run_end f c i (s.none q) h ∙ sym q
        go (suc x) q = let y = s.some (λ y. omega arith) in y.1 ∙ sym y.0

-- none, one, several
unfoldable pub sat : ℕ → ℕ
sat zero = 0
sat (suc zero) = 1
sat (suc (suc x)) = 2

bump-sat : (y : ℕ) → bump (sat y) ≡ sat (suc y)
unfolding bump sat
bump-sat zero = refl
bump-sat (suc zero) = refl
bump-sat (suc (suc y)) = refl

sat-one : (y : ℕ) → sat y ≡ 1 → y ≡ 1
unfolding sat
sat-one zero e = absurd (omega arith)
sat-one (suc zero) e = refl
sat-one (suc (suc y)) e = absurd (omega arith)

module _ (v : ℕ) where
  claims-are : (cs us : List ℕ) (y : ℕ) → v < length us → get_or us v 0 ≡ sat y → get_or (claim_all cs us) v 0 ≡ sat (y + times v cs)
  unfolding claim_all times
  claims-are [] us y h e = let z : y + 0 ≡ y = omega arith in rw z e
  claims-are (c ∷ cs) us y h e = go (dec_eq v c) (λ z. claims-are cs (set us c (bump (get_or us c 0))) z (rw length-set h))
    where
      dec_eq : (a b : ℕ) → Dec (a ≡ b)
      dec_eq a b = pick (dec_lt a b) (dec_lt b a)
        where
          pick : Dec (a < b) → Dec (b < a) → Dec (a ≡ b)
          pick (yes l) q = no (λ e. omega arith)
          pick (no l) (yes k) = no (λ e. omega arith)
          pick (no l) (no k) = yes (omega arith)

      go : Dec (v ≡ c) → ((z : ℕ) → get_or (set us c (bump (get_or us c 0))) v 0 ≡ sat z → get_or (claim_all cs (set us c (bump (get_or us c 0)))) v 0 ≡ sat (z + times v cs))
          → get_or (claim_all cs (set us c (bump (get_or us c 0)))) v 0 ≡ sat (y + (is v c + times v cs))
      go (yes q) f =
          let g : get_or (set us c (bump (get_or us c 0))) v 0 ≡ sat (suc y) = rw q (get_or-set_same us c _ 0 (rw q at h) ∙ ap bump (rw q at e) ∙ bump-sat y) in
          let o : is v c ≡ 1 = rw q (is_same c) in
          f (suc y) g ∙ ap sat (omega arith)
      go (no q) f =
          let o = is-other v c q in
          f y (get_or-set_other us c v _ 0 q ∙ e) ∙ ap sat (omega arith)

  pub claimed-times : (cs : List ℕ) → v < 2048 → get_or (claim_all cs (replicate 2048 0)) v 0 ≡ sat (times v cs)
  unfolding sat
  claimed-times cs h = claims-are cs (replicate 2048 0) 0 (rw length-replicate h) (get_or-replicate 2048 v 0 0 h ∙ sat-zero) ∙ ap sat (zero-add (times v cs))
    where
      sat-zero : 0 ≡ sat 0
      sat-zero = refl

  module _ (cs : List ℕ) (us : List ℕ) (h : v < 2048) (e : us ≡ claim_all cs (replicate 2048 0)) where
    pub once : get_or us v 0 ≡ 1 → need 11 (eqb (times v cs) 1) ≡ 0
    once q = need-in 11 _ (eq-eqb _ _ (sat-one (times v cs) (sym (claimed-times cs h) ∙ (rw e at q))))

    pub not-once : (get_or us v 0 ≡ 1 → ⊥) → need 11 (eqb (times v cs) 1) ≡ 11
    unfolding sat
    not-once q = need-out 11 _ (ne_eqb (times v cs) 1 (λ o. q (rw e (claimed-times cs h ∙ ap sat o))))
