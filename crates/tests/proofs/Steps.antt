-- Laws of the answers of tests: how they follow one another.
use mathlib.Core.Path.{◌≡◌, sym}
use Prim.Native.Nat.{ℕ, zero, suc}
use native.Mathlib.Omega.{arith}
use Rattle.std.specs.Prelude.{Result, Ok, Err, IsErrAnd}
use Rattle.ast.specs.Tests.{◌▸◌}
use Rattle.error.specs.Refusals.{refusal_number}
use Rattle.error.specs.declared.Refusal.{Refusal}
use Rattle.error.proofs.Refused.{refusal-some}
use Rattle.tests.specs.Steps.{Answered}

module _ {A : Type 0} {P : A → Type 0} where
  pub passes : (a : A) (t : ℕ) → t ≡ 0 → P a → Answered t P (Ok a)
  passes a t e p = record { refusal = sym e; went = p }

  pub refuses : (e : Refusal) (t : ℕ) → t ≡ refusal_number e → Answered t P (Err e)
  refuses e t h = record { refusal = sym h; went = tt }

  -- the first of two passes
  pub skips : (t u : ℕ) {r : Result A Refusal} → t ≡ 0 → Answered u P r → Answered (t ▸ u) P r
  unfolding ◌▸◌
  skips zero u e h = h
  skips (suc t) u e h = absurd (omega arith)

  -- the first of two refuses
  pub stops : (e : Refusal) (t u : ℕ) → t ≡ refusal_number e → Answered (t ▸ u) P (Err e)
  unfolding ◌▸◌
  stops e zero u h = absurd (refusal-some e (sym h))
  stops e (suc t) u h = refuses e (suc t) h

  -- the refusal that is handed on
  pub handed : (e : Refusal) (t : ℕ) (r : Result A Refusal) → IsErrAnd r (λ x. x ≡ e) → Answered t P (Err e) → Answered t P r
  handed e t (Ok x) h a = absurd h
  handed e t (Err x) h a = rw h a

  -- the same answer to an equal test
  pub retests : (t u : ℕ) {r : Result A Refusal} → t ≡ u → Answered t P r → Answered u P r
  retests t u e h = rw e at h

-- the same answer, of whose value Q holds too
pub maps : {A : Type 0} {P Q : A → Type 0} (t : ℕ) (r : Result A Refusal) → ((x : A) → P x → Q x) → Answered t P r → Answered t Q r
maps t (Ok x) f h = record { refusal = h.refusal; went = f x h.went }
maps t (Err e) f h = record { refusal = h.refusal; went = tt }
