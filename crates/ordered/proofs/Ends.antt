-- Where the walks over atoms, arguments and statements end, with what the environment says there.
use mathlib.Core.Path.{◌≡◌, refl, sym, ap, subst, ◌∙◌}
use mathlib.Core.Bool.{false}
use mathlib.Core.List.{List, [], ◌∷◌}
use Prim.Native.Nat.{ℕ, ◌+◌, ◌-◌, ◌<◌}
use native.Mathlib.Omega.{arith}
use Rattle.ast.specs.Image.{nodes, field}
use Rattle.ast.specs.Is.{Is, kind_by}
use Rattle.ast.specs.Items.{items}
use Rattle.ast.specs.Kinds.{inner, plain, name, Field, kind_of}
use Rattle.ast.specs.Tree.{block, ◌◂◌, tree_at}
use Rattle.typed.specs.RowShapes.{WordList}
use Rattle.typed.specs.declared.nodes.NodeList.{NodeList}
use Rattle.table.specs.Table.{new_scope, new_symbol}
use Rattle.table.specs.State.{Walked, introduce, child_scope, own_symbol, marked, back}
use Rattle.ast.proofs.Small.{Small, tree-small, items-small}
use Rattle.table.specs.declared.ScopeId.{ScopeId}
use Rattle.environment.specs.Stands.{Stands, Path}
use Rattle.environment.specs.Builder.{walked_of}
use Rattle.environment.specs.declared.ScopeBuilder.{ScopeBuilder}
use Rattle.environment.proofs.Asking.{loud_fields, quiet}
use Rattle.ordered.specs.Walk.{occurs, declares, walk}
use Rattle.ordered.specs.Promises.{over, inside, rest, over_all, Ends, Room, Ready, ReadyRun}
use Rattle.ordered.proofs.Steps.{plain-whole}
use Rattle.ordered.proofs.Atoms.{leaf-step, if_var_of}
use Rattle.ordered.proofs.Args.{arg_of}
use Rattle.ordered.proofs.Stmts.{match_case}
use Rattle.ordered.proofs.Lists.{rest-start}
use Rattle.ordered.proofs.Idents.{ends-left, ends-then}
use Rattle.ordered.proofs.Paths.{seq-path}

module _ (img : List ℕ) where
  -- by another word for the end
  pub ends_as : {a b f : Walked} {env : List ℕ} → b ≡ a → Ends img a f env → Ends img b f env
  ends_as q h = record { same = h.same ∙ sym q; stands = h.stands }

  -- where branches of a match meet: the builder and the scope are those of one of them
  pub ends_in : {a b : Walked} {x y : ScopeBuilder} {s t : ScopeId} → x ≡ y → s ≡ t → b ≡ a → Ends img a (walked_of y t) y.env.now → Ends img b (walked_of x s) x.env.now
  ends_in {b = b} {y = y} {s} q r w h =
      subst (λ (z : ScopeBuilder). Ends img b (walked_of z s) z.env.now) (sym q) (subst (λ (z : ScopeId). Ends img b (walked_of y z) y.env.now) (sym r) (ends_as w h))

  -- a plain node, after what is below it
  pub plain-ends : {fs : List Field} {n : ℕ} {e f g : Walked} {env env' : List ℕ} → loud_fields fs ≡ false → Ready img (kind_by (inner plain) fs) n e → Ends img (inside img occurs n e) f env
      → g ≡ marked img n e.scope f → env' ≡ env → Ends img (over img n e) g env'
  plain-ends {e = e} q p h w k = ends-left img e.scope p.is.below (quiet img q p.is) (plain-whole img e p.is) w k h

  -- a leaf
  pub leaf-ends : {n : ℕ} {e g : Walked} {env env' : List ℕ} → Is img (kind_by (inner plain) (name ∷ [])) n → g ≡ marked img n e.scope e → env' ≡ env → Stands img e env → Ends img (over img n e) g env'
  unfolding loud_fields
  leaf-ends {e = e} is w k s = ends-left img e.scope is.below (quiet img refl is) (leaf-step img e is) w k (record { same = refl; stands = s })

  -- an if-var: its type, then its term
  pub if-var-ends : {n c d : ℕ} {e f g h : Walked} {env env' env'' : List ℕ} → Ready img (kind_of 33) n e → c ≡ field img n 0 → d ≡ field img n 1 → Ends img (over img d e) f env
      → Ends img (walk img declares (tree_at img c) f) g env' → h ≡ marked img n e.scope g → env'' ≡ env' → Ends img (over img n e) h env''
  unfolding kind_of loud_fields
  if-var-ends {c = c} {e = e} p q q2 a b w k =
      ends-left img e.scope p.is.below (quiet img refl p.is) (if_var_of img p q q2).whole w k (ends-then img (λ (v : Walked). walk img declares (tree_at img c) v) a.same b)

  -- an argument with a name, and one without
  pub arg-ends : {n d : ℕ} {e f g h : Walked} {env env' env'' : List ℕ} → Ready img (kind_of 10) n e → d ≡ field img n 1 → (field img n 0 ≡ 0 → ⊥) → Ends img (over img d e) f env
      → Ends img (introduce img n f) g env' → h ≡ marked img n e.scope g → env'' ≡ env' → Ends img (over img n e) h env''
  unfolding kind_of loud_fields
  arg-ends {n} {e = e} p q z a b v k =
      ends-left img e.scope p.is.below (quiet img refl p.is) ((arg_of img p q).whole2 z) v k (ends-then img (introduce img n) a.same b)

  pub arg-ends-bare : {n d : ℕ} {e f h : Walked} {env env' : List ℕ} → Ready img (kind_of 10) n e → d ≡ field img n 1 → field img n 0 ≡ 0 → Ends img (over img d e) f env
      → h ≡ marked img n e.scope f → env' ≡ env → Ends img (over img n e) h env'
  unfolding kind_of loud_fields
  arg-ends-bare {e = e} p q z a v k = ends-left img e.scope p.is.below (quiet img refl p.is) ((arg_of img p q).whole z) v k a

  -- there is room for an argument's name
  pub arg-room : {n d : ℕ} {e f : Walked} → Ready img (kind_of 10) n e → d ≡ field img n 1 → (field img n 0 ≡ 0 → ⊥) → f ≡ over img d e
      → (f.table.scopes < nodes img) × (f.table.symbols < nodes img)
  unfolding introduce child_scope own_symbol new_scope new_symbol
  arg-room {n} p q z w =
      let r = (subst (λ (v : Walked). Room img (introduce img n v)) (sym w) ((arg_of img p q).room z)).few in
      let a = r.scopes in let b = r.symbols in
      (omega arith, omega arith)

  -- a block of a branch, back from its statements
  pub block-ends : (l : NodeList) (e : Walked) {f g : Walked} {env env' : List ℕ} → Ends img (over_all img occurs l e) f env → g ≡ back img e.scope f → Stands img g env'
      → Ends img (walk img occurs (block (items img l.node.0 l.count l.first)) e) g env'
  unfolding walk
  block-ends l e h w s = record { same = w ∙ ap (back img e.scope) (h.same ∙ sym (rest-start img occurs l.node.0 l.first l.count e)); stands = s }

  -- a match case, back from its pattern and its statements
  pub case-ends : {n c : ℕ} {l : NodeList} {e f g h k : Walked} {env env' env'' env''' : List ℕ} → Ready img (kind_of 35) n e → WordList img n c l → Ends img (over img c e) f env
      → Ends img (over_all img occurs l f) g env' → h ≡ back img e.scope g → Stands img h env'' → k ≡ marked img n e.scope h → env''' ≡ env'' → Ends img (over img n e) k env'''
  unfolding kind_of loud_fields
  case-ends {l = l} {e} p q a b w s v z =
      ends-left img e.scope p.is.below (quiet img refl p.is) (match_case img p q).whole v z
      (record { same = w ∙ ap (back img e.scope) (b.same ∙ ap (over_all img occurs l) a.same); stands = s })

  -- the way back from a block's statements, and from a match case's pattern and statements
  abbrev Way : Walked → Walked → Type 0
  Way e f = Path img f.table e.scope f.scope

  pub block-path : {k n j count : ℕ} {e g : Walked} {env env' : List ℕ} → ReadyRun img k n j count e → Stands img e env → Ends img (rest img occurs n j count 0 e) g env' → Way e g
  unfolding rest
  block-path {n = n} {j} {count} {e} p s h = subst (Way e) (sym h.same) (seq-path img occurs _ e (items-small img n (count - 0) (j + 0)) p.room.few s)

  pub case-path : {n c : ℕ} {l : NodeList} {e f g : Walked} {env env' env'' : List ℕ} → Ready img (kind_of 35) n e → WordList img n c l → Stands img e env → Ends img (over img c e) f env'
      → Ends img (over_all img occurs l f) g env'' → Way e g
  unfolding rest walk Small
  case-path {c = c} {l} {e} p q s a b =
      subst (Way e) (sym (b.same ∙ ap (over_all img occurs l) a.same))
      (seq-path img occurs (tree_at img c ◂ items img l.node.0 (l.count - 0) (l.first + 0)) e (tree-small img c, items-small img l.node.0 (l.count - 0) (l.first + 0)) (match_case img p q).second.room.few s)
