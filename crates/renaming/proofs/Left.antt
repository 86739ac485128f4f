-- What Rename leaves in its output, whatever it answers.
use mathlib.Core.Path.{◌≡◌, refl, ◌∙◌}
use mathlib.Core.List.{List}
use Prim.Native.Nat.{ℕ}
use native.Mathlib.Omega.{arith}
use lib.ListN.{length, drop, length-append, length-drop}
use lib.Seq.{drop_at}
use Rattle.ast.specs.Answer.{result}
use Rattle.rename.specs.Rename.{renamed, offsets, rename}
use Rattle.rename.proofs.Ways.{call-is}
use Rattle.renaming.proofs.Stores.{stores-length}

module _ (img tab rows : List ℕ) (i x : ℕ) (out : List ℕ) where
  -- as long as before, and past the image's length as it was
  pub output-left : (length (rename img tab rows i x out).out ≡ length out) × (drop (length img) (rename img tab rows i x out).out ≡ drop (length img) out)
  unfolding renamed
  output-left =
      call-is img tab rows i x out (λ a bs. (length bs ≡ length out) × (drop (length img) bs ≡ drop (length img) out)) (λ r l. (refl, refl)) (refl, refl)
      (λ e h l.
      let n = stores-length x (offsets img i l) img in
      let d = length-drop (length img) out in
      (length-append (renamed img l i x) (drop (length img) out) ∙ (omega arith), drop_at (renamed img l i x) (drop (length img) out) (length img) n))

  -- without a result it is as it was
  pub output-kept : ((rename img tab rows i x out).answer ≡ result 0 (length img) → ⊥) → (rename img tab rows i x out).out ≡ out
  output-kept = call-is img tab rows i x out (λ a bs. (a ≡ result 0 (length img) → ⊥) → bs ≡ out) (λ r l z. refl) (λ z. refl) (λ e h l z. absurd (z refl))
