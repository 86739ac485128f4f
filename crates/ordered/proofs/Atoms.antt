-- What a walk over an atom or a type is, and over the term of a variable.
use mathlib.Core.Path.{◌≡◌, refl, sym, ap, subst, ◌∙◌}
use mathlib.Core.Bool.{false}
use mathlib.Core.List.{List, [], ◌∷◌}
use Prim.Native.Nat.{ℕ, zero, suc, ◌<◌}
use native.Mathlib.Omega.{arith}
use lib.Dec.{eqb}
use lib.ListN.{get_or}
use Rattle.ast.specs.Image.{field}
use Rattle.ast.specs.Is.{kind_by, Is}
use Rattle.ast.specs.Kinds.{inner, plain, Field, name, cases, no_child, kind_of}
use Rattle.ast.specs.Tree.{Tree, Trees, none, ◌◂◌, swap, ordered, tree_at}
use Rattle.ast.specs.declared.NodeId.{NodeId}
use Rattle.typed.proofs.Enums.{Cased}
use Rattle.table.specs.State.{Walked, marked}
use Rattle.ast.proofs.Row.{append, next, node_of, Child, FormedFields}
use Rattle.ast.proofs.Shapes.{row, tree_of, child-is, term_kinds, term-last}
use Rattle.ordered.specs.Walk.{Role, occurs, declares, defines, walk_ident, walk, walk_first}
use Rattle.ordered.specs.Promises.{over, inside, Room, Ready, Variable}
use Rattle.ordered.proofs.Grows.{stays, marked-grows}
use Rattle.ordered.proofs.Steps.{room_in, part_room, tree-grows, ident-step, Wrapped, case-of, term-case, term-wild, term-whole-as, term-whole, plain-whole}

module _ (img : List ℕ) where
  -- a leaf
  pub leaf-step : {n : ℕ} (e : Walked) → Is img (kind_by (inner plain) (name ∷ [])) n → over img n e ≡ marked img n e.scope e
  unfolding walk node_of
  leaf-step e is = ap (λ (u : Tree). walk img occurs u e) (tree_of img is)

  -- a plain node that wraps an enum
  pub plain-wrapped : {ks : List ℕ} {n c : ℕ} {i : NodeId} {e : Walked} → Ready img (kind_by (inner plain) (cases ks ∷ [])) n e → Cased img n c i → eqb (get_or ks c no_child) no_child ≡ false
      → Wrapped img occurs (kind_of (get_or ks c no_child)) n i.0 e
  unfolding ordered
  plain-wrapped {ks} {n} {c} {e = e} p q s =
      let k = case-of img (inner plain) ks occurs e p.is (λ ts. refl) c q.number q.child s in
      record {
        low = k.low;
        ready = record { is = k.is; room = part_room img p (plain-whole img e p.is ∙ ap (marked img n e.scope) k.inner) (stays _) };
        inner = k.inner;
      }

  -- the term of a variable: an ident, in its role, or any other term -----------------------------------------------------
  -- only an ident's walk goes by the role
  free-plain : {fs : List Field} {n : ℕ} (r : Role) (e : Walked) → Is img (kind_by (inner plain) fs) n → walk img r (tree_at img n) e ≡ over img n e
  unfolding walk node_of
  free-plain {fs} {n} r e is = subst (λ (u : Tree). walk img r u e ≡ walk img occurs u e) (sym (tree_of img is)) refl

  free-member : {n : ℕ} (r : Role) (e : Walked) → Is img (kind_of 17) n → walk img r (tree_at img n) e ≡ over img n e
  unfolding walk node_of kind_of
  free-member {n} r e is = subst (λ (u : Tree). walk img r u e ≡ walk img occurs u e) (sym (tree_of img is)) refl

  free-case : {n : ℕ} (r : Role) (e : Walked) (c : ℕ) → Is img (kind_of 12) n → c ≡ field img n 0 → eqb (get_or term_kinds c no_child) no_child ≡ false
      → (Is img (kind_of (get_or term_kinds c no_child)) (field img n 1) → walk img r (tree_at img (field img n 1)) e ≡ over img (field img n 1) e) → inside img r n e ≡ inside img occurs n e
  free-case {n} r e c is q s f =
      let k = term-case img {e = e} r is c q refl s in
      let l = term-case img {e = e} occurs is c q refl s in
      k.inner ∙ f k.is ∙ sym l.inner

  pub free-inside : {n : ℕ} (r : Role) (e : Walked) → Is img (kind_of 12) n → (field img n 0 ≡ 0 → ⊥) → inside img r n e ≡ inside img occurs n e
  unfolding kind_of
  free-inside {n} r e is z = go (field img n 0) refl (term-last img is) z
    where
      go : (c : ℕ) → c ≡ field img n 0 → c < 8 → (c ≡ 0 → ⊥) → inside img r n e ≡ inside img occurs n e
      go zero q l y = absurd (y refl)
      go (suc zero) q l y = term-wild img r e is q ∙ sym (term-wild img occurs e is q)
      go (suc (suc zero)) q l y = free-case r e 2 is q refl (free-plain r e)
      go (suc (suc (suc zero))) q l y = free-case r e 3 is q refl (free-member r e)
      go (suc (suc (suc (suc zero)))) q l y = free-case r e 4 is q refl (free-plain r e)
      go (suc (suc (suc (suc (suc zero))))) q l y = free-case r e 5 is q refl (free-plain r e)
      go (suc (suc (suc (suc (suc (suc zero)))))) q l y = free-case r e 6 is q refl (free-plain r e)
      go (suc (suc (suc (suc (suc (suc (suc zero))))))) q l y = free-case r e 7 is q refl (free-plain r e)
      go (suc (suc (suc (suc (suc (suc (suc (suc c)))))))) q l y = absurd (omega arith)

  -- a variable that is an ident, in its role
  pub record VarIdent (r : Role) (n d : ℕ) (e : Walked) : Type 0 where
    pub is : Is img (kind_of 13) d
    pub room : Room img (walk_ident img r d e)
    pub whole : walk img r (tree_at img n) e ≡ marked img n e.scope (marked img d e.scope (walk_ident img r d e))

  pub var-ident : {r : Role} {n d : ℕ} {e : Walked} → Variable img r n e → 0 ≡ field img n 0 → d ≡ field img n 1 → VarIdent r n d e
  var-ident {r} {n} {d} {e} p q q2 =
      let k = term-case img {e = e} r p.is 0 q q2 refl in
      let w = term-whole-as img r e p.is ∙ ap (marked img n e.scope) (k.inner ∙ ident-step img r e k.is) in
      record {
        is = k.is;
        room = room_in img w (marked-grows img p.is.below e.scope (marked-grows img k.is.below e.scope (stays _))) p.room;
        whole = w;
      }

  -- a variable of another case is walked as any term
  pub var-other : {r : Role} {n : ℕ} {e : Walked} → Variable img r n e → (field img n 0 ≡ 0 → ⊥) → (Ready img (kind_of 12) n e) × (walk img r (tree_at img n) e ≡ over img n e)
  var-other {r} {n} {e} p z =
      let w = term-whole-as img r e p.is ∙ ap (marked img n e.scope) (free-inside r e p.is z) ∙ sym (term-whole img e p.is) in
      (record { is = p.is; room = subst (Room img) w p.room }, w)

  -- an if-var: its type, then its term -----------------------------------------------------------------------------
  pub record IfVar (n c d : ℕ) (e : Walked) : Type 0 where
    pub first : Ready img (kind_of 23) d e
    pub second : Variable img declares c (over img d e)
    pub whole : over img n e ≡ marked img n e.scope (walk img declares (tree_at img c) (over img d e))

  if_var-whole : {n : ℕ} (e : Walked) → Is img (kind_of 33) n → over img n e ≡ marked img n e.scope (walk img declares (tree_at img (field img n 0)) (over img (field img n 1) e))
  unfolding walk node_of kind_of
  if_var-whole e is = ap (λ (u : Tree). walk img occurs u e) (tree_of img is)

  pub if_var_of : {n c d : ℕ} {e : Walked} → Ready img (kind_of 33) n e → c ≡ field img n 0 → d ≡ field img n 1 → IfVar n c d e
  unfolding FormedFields next kind_of
  if_var_of {n} {c} {d} {e} p q r =
      let h : Child img n 12 (field img n 0) = (row img p.is).0 in
      let h2 : Child img n 23 (field img n 1) = (row img p.is).1.0 in
      let w = if_var-whole e p.is in
      subst (λ (x : ℕ). IfVar n x d e) (sym q) (subst (λ (x : ℕ). IfVar n (field img n 0) x e) (sym r)
      (record {
        first = record { is = child-is img p.is h2; room = part_room img p w (tree-grows img _ _ _) };
        second = record { is = child-is img p.is h; room = part_room img p w (stays _) };
        whole = w;
      }))

  -- a defined-then: its term, then its variable, if it has one -------------------------------------------------------
  pub record Defined (n d : ℕ) (e : Walked) : Type 0 where
    pub first : Ready img (kind_of 12) d e
    pub whole : field img n 0 ≡ 0 → over img n e ≡ marked img n e.scope (over img d e)
    pub second : (m : ℕ) → field img n 0 ≡ suc m → Variable img (defines e.scope) m (over img d e)
    pub whole2 : (m : ℕ) → field img n 0 ≡ suc m → over img n e ≡ marked img n e.scope (walk img (defines e.scope) (tree_at img m) (over img d e))

  -- in scope order: the term, and the variable if x is one
  defined_kids : ℕ → ℕ → Trees
  defined_kids n x = swap (append (elim x [ zero ↦ none | suc m ↦ tree_at img m ◂ none ]) (tree_at img (field img n 1) ◂ none))

  defined-whole : {n : ℕ} (e : Walked) → Is img (kind_of 34) n → over img n e ≡ marked img n e.scope (walk_first img (defines e.scope) (defined_kids n (field img n 0)) e)
  unfolding walk node_of kind_of defined_kids
  defined-whole e is = ap (λ (u : Tree). walk img occurs u e) (tree_of img is)

  defined-none : (n : ℕ) (e : Walked) → walk_first img (defines e.scope) (defined_kids n 0) e ≡ over img (field img n 1) e
  unfolding walk defined_kids append swap
  defined-none n e = refl

  defined-some : (n m : ℕ) (e : Walked) → walk_first img (defines e.scope) (defined_kids n (suc m)) e ≡ walk img (defines e.scope) (tree_at img m) (over img (field img n 1) e)
  unfolding walk defined_kids append swap
  defined-some n m e = refl

  pub defined_of : {n d : ℕ} {e : Walked} → Ready img (kind_of 34) n e → d ≡ field img n 1 → Defined n d e
  unfolding FormedFields next kind_of
  defined_of {n} {d} {e} p q =
      subst (λ (x : ℕ). Defined n x e) (sym q)
      (record {
        first = record { is = child-is img p.is h2; room = go (field img n 0) refl };
        whole = w0;
        second = λ m s. record { is = child-is img p.is (h m s); room = part_room img p (w1 m s) (stays _) };
        whole2 = w1;
      })
    where
      h : (m : ℕ) → field img n 0 ≡ suc m → Child img n 12 m
      h = (row img p.is).0

      h2 : Child img n 12 (field img n 1)
      h2 = (row img p.is).1.0

      w0 : field img n 0 ≡ 0 → over img n e ≡ marked img n e.scope (over img (field img n 1) e)
      w0 z = defined-whole e p.is ∙ ap (marked img n e.scope) (ap (λ (x : ℕ). walk_first img (defines e.scope) (defined_kids n x) e) z ∙ defined-none n e)

      w1 : (m : ℕ) → field img n 0 ≡ suc m → over img n e ≡ marked img n e.scope (walk img (defines e.scope) (tree_at img m) (over img (field img n 1) e))
      w1 m s = defined-whole e p.is ∙ ap (marked img n e.scope) (ap (λ (x : ℕ). walk_first img (defines e.scope) (defined_kids n x) e) s ∙ defined-some n m e)

      go : (x : ℕ) → field img n 0 ≡ x → Room img (over img (field img n 1) e)
      go zero z = part_room img p (w0 z) (stays _)
      go (suc m) s = part_room img p (w1 m s) (tree-grows img _ _ _)
