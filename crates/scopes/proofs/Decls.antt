-- The case of a Decl: what the declaration inside is.
use mathlib.Core.Path.{◌≡◌, refl, sym, ap, subst, ◌∙◌}
use mathlib.Core.List.{List}
use Prim.Native.Nat.{ℕ}
use Rattle.ast.specs.Is.{Is}
use Rattle.ast.specs.Kinds.{kind_of}
use Rattle.ast.specs.Named.{decl_kind, type_decl_kind, pred_decl_kind, func_decl_kind, const_decl_kind, rule_decl_kind, enum_decl_kind, model_decl_kind}
use Rattle.ast.specs.Tree.{tree_at}
use Rattle.table.specs.State.{Walked, marked}
use Rattle.typed.specs.Nodes.{decl_at}
use Rattle.typed.specs.declared.nodes.Decl.{Decl}
use Rattle.typed.specs.declared.nodes.Decl.TheVariants as decl
use Rattle.typed.proofs.Enums.{decl-is}
use Rattle.scopes.specs.Promises.{ent, Entering, Visit}
use Rattle.scopes.proofs.Entries.{DeclOf, decl_of, DeclEnter, decl_enter}
use Rattle.scopes.proofs.Visiting.{DeclVisit, decl_visit}

-- its kind, and its node
abbrev pub case_kind : Decl → ℕ
case_kind (decl.Type i) = type_decl_kind
case_kind (decl.Pred i) = pred_decl_kind
case_kind (decl.Func i) = func_decl_kind
case_kind (decl.Const i) = const_decl_kind
case_kind (decl.Rule i) = rule_decl_kind
case_kind (decl.Enum i) = enum_decl_kind
case_kind (decl.Model i) = model_decl_kind

abbrev pub case_node : Decl → ℕ
case_node (decl.Type i) = i.0.0
case_node (decl.Pred i) = i.0.0
case_node (decl.Func i) = i.0.0
case_node (decl.Const i) = i.0.0
case_node (decl.Rule i) = i.0.0
case_node (decl.Enum i) = i.0.0
case_node (decl.Model i) = i.0.0

module _ (img : List ℕ) where
  pub decl-case : {n : ℕ} {t : Decl} → t ≡ decl_at img n → Is img (kind_of decl_kind) n → (s : Decl) → t ≡ s → DeclOf img (case_kind s) n (case_node s)
  decl-case q is (decl.Type i) r = let k = decl-is img is q r in decl_of img is 0 k.number k.child refl
  decl-case q is (decl.Pred i) r = let k = decl-is img is q r in decl_of img is 1 k.number k.child refl
  decl-case q is (decl.Func i) r = let k = decl-is img is q r in decl_of img is 2 k.number k.child refl
  decl-case q is (decl.Const i) r = let k = decl-is img is q r in decl_of img is 3 k.number k.child refl
  decl-case q is (decl.Rule i) r = let k = decl-is img is q r in decl_of img is 4 k.number k.child refl
  decl-case q is (decl.Enum i) r = let k = decl-is img is q r in decl_of img is 5 k.number k.child refl
  decl-case q is (decl.Model i) r = let k = decl-is img is q r in decl_of img is 6 k.number k.child refl

  -- what entering it, after its Decl is marked and i is the image, and visiting it ask and hand back
  pub decl-enters : {i seen env new : List ℕ} {n : ℕ} {e f : Walked} {t : Decl} → i ≡ img → t ≡ decl_at i n → Is img (kind_of decl_kind) n × Entering img seen env (ent (tree_at img n)) e → f ≡ marked img n e.scope e → new ≡ env
      → (s : Decl) → t ≡ s → DeclEnter img i seen new (case_kind s) n (case_node s) e f
  decl-enters {seen = seen} {new = new} {n} {e} {f} k q p w v s r =
      subst (λ (i : List ℕ). DeclEnter img i seen new (case_kind s) n (case_node s) e f) (sym k)
      (decl_enter img (decl-case (q ∙ ap (λ (i : List ℕ). decl_at i n) k) p.0 s r) p.0 p.1 w v)

  pub decl-visits : {n : ℕ} {e : Walked} {t : Decl} → t ≡ decl_at img n → Visit img (kind_of decl_kind) n e → (s : Decl) → t ≡ s → DeclVisit img (case_kind s) n (case_node s) e
  decl-visits q p s r = decl_visit img (decl-case q p.is s r) p
