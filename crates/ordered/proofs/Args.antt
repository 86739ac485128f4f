-- What a walk over an argument is.
use mathlib.Core.Path.{◌≡◌, refl, sym, ap, subst, ◌∙◌}
use mathlib.Core.List.{List, [], ◌∷◌}
use Prim.Native.Nat.{ℕ, zero, suc}
use native.Mathlib.Omega.{arith}
use Rattle.ast.specs.Image.{field}
use Rattle.ast.specs.Is.{Is}
use Rattle.ast.specs.Kinds.{kind_of}
use Rattle.ast.specs.Tree.{Tree}
use Rattle.table.specs.State.{Walked, introduce, marked}
use Rattle.ast.proofs.Row.{next, node_of, Child, FormedFields}
use Rattle.ast.proofs.Shapes.{row, tree_of, child-is}
use Rattle.ordered.specs.Walk.{occurs, walk_arg, walk}
use Rattle.ordered.specs.Promises.{over, Room, Ready}
use Rattle.ordered.proofs.Grows.{stays, introduces}
use Rattle.ordered.proofs.Steps.{part_room}

module _ (img : List ℕ) where
  -- one argument: its type, then its name in a new scope
  argged : ℕ → ℕ → Walked → Walked
  argged n x e = walk_arg img n (elim x [ zero ↦ 0 | suc m ↦ 1 ] ∷ []) e

  arg-whole : {n : ℕ} (e : Walked) → Is img (kind_of 10) n → over img n e ≡ marked img n e.scope (argged n (field img n 0) (over img (field img n 1) e))
  unfolding walk node_of kind_of argged
  arg-whole e is = ap (λ (u : Tree). walk img occurs u e) (tree_of img is)

  arg-none : (n : ℕ) (e : Walked) → argged n 0 e ≡ e
  unfolding argged walk_arg
  arg-none n e = refl

  arg-some : (n m : ℕ) (e : Walked) → argged n (suc m) e ≡ introduce img n e
  unfolding argged walk_arg
  arg-some n m e = refl

  pub record Arg (n d : ℕ) (e : Walked) : Type 0 where
    pub first : Ready img (kind_of 23) d e
    pub whole : field img n 0 ≡ 0 → over img n e ≡ marked img n e.scope (over img d e)
    pub room : (field img n 0 ≡ 0 → ⊥) → Room img (introduce img n (over img d e))
    pub whole2 : (field img n 0 ≡ 0 → ⊥) → over img n e ≡ marked img n e.scope (introduce img n (over img d e))

  pub arg_of : {n d : ℕ} {e : Walked} → Ready img (kind_of 10) n e → d ≡ field img n 1 → Arg n d e
  unfolding FormedFields next kind_of
  arg_of {n} {d} {e} p q =
      subst (λ (x : ℕ). Arg n x e) (sym q)
      (record {
        first = record { is = child-is img p.is h; room = go (field img n 0) refl };
        whole = w0;
        room = λ z. part_room img p (w1 (field img n 0) refl z) (stays _);
        whole2 = λ z. w1 (field img n 0) refl z;
      })
    where
      h : Child img n 23 (field img n 1)
      h = (row img p.is).1.0

      f : Walked
      f = over img (field img n 1) e

      w0 : field img n 0 ≡ 0 → over img n e ≡ marked img n e.scope (over img (field img n 1) e)
      w0 z = arg-whole e p.is ∙ ap (marked img n e.scope) (ap (λ (x : ℕ). argged n x (over img (field img n 1) e)) z ∙ arg-none n _)

      w1 : (x : ℕ) → field img n 0 ≡ x → (x ≡ 0 → ⊥) → over img n e ≡ marked img n e.scope (introduce img n (over img (field img n 1) e))
      w1 zero s z = absurd (z refl)
      w1 (suc m) s z = arg-whole e p.is ∙ ap (marked img n e.scope) (ap (λ (x : ℕ). argged n x (over img (field img n 1) e)) s ∙ arg-some n m _)

      go : (x : ℕ) → field img n 0 ≡ x → Room img (over img (field img n 1) e)
      go zero s = part_room img p (w0 s) (stays _)
      go (suc m) s = part_room img p (w1 (suc m) s (λ z. omega arith)) (introduces img n _)
