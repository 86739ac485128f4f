-- An arm that serves several cases of an enum: which numbers the row's case may have.
use mathlib.Core.Path.{◌≡◌, refl, sym, subst, ◌∙◌}
use mathlib.Core.Bool.{not}
use mathlib.Core.Logic.{◌⊎◌, ⊎_elim, inl, inr}
use mathlib.Core.List.{List, [], ◌∷◌}
use Prim.Native.Nat.{ℕ, ◌≤◌}
use native.Mathlib.Omega.{arith}
use lib.Dec.{T}
use mir.Val.{has_key}
use types.Run.{OneOf, miss}
use denote.Enum.Declared.{tag_of}
use Rattle.ast.specs.Image.{field}
use Rattle.ast.specs.Is.{Is}
use Rattle.ast.specs.Kinds.{kind_of}
use Rattle.ast.specs.Named.{decl_kind, term_kind, app_head_kind}
use Rattle.typed.specs.Nodes.{decl_at, term_at, app_head_at}
use Rattle.typed.specs.declared.nodes.Decl.{Decl}
use Rattle.typed.specs.declared.nodes.Decl.TheVariants as decl
use Rattle.typed.specs.declared.nodes.Term.{Term}
use Rattle.typed.specs.declared.nodes.AppHead.{AppHead}
use Rattle.typed.specs.declared.nodes.AppHead.TheVariants as app_head
use Rattle.typed.specs.contracts.nodes.Decl as DeclCode
use Rattle.typed.specs.contracts.nodes.Term as TermCode
use Rattle.typed.specs.contracts.nodes.AppHead as AppHeadCode
use Rattle.typed.proofs.Enums.{decl-is, term-number, app-head-is}

-- x is none of what is left out
apart : (ks : List ℕ) {x y : ℕ} (k : ℕ) → OneOf ks x → x ≡ y → T (not (has_key ks k)) → k ≡ y → ⊥
apart ks k h e m q = miss ks k m (subst (OneOf ks) (e ∙ sym q) h)

-- of Ident and Wildcard it is the other
pub one_left : {x : ℕ} → (0 ≡ x → ⊥) → x ≤ 1 → 1 ≡ x
one_left h l = omega (arith, h)

module _ (img : List ℕ) where
  -- the place of the variant is the row's number
  decl-number : {n : ℕ} {t : Decl} → Is img (kind_of decl_kind) n → t ≡ decl_at img n → tag_of DeclCode.the_type t ≡ field img n 0
  decl-number {n} {t} is q = go t q
    where
      go : (s : Decl) → s ≡ decl_at img n → tag_of DeclCode.the_type s ≡ field img n 0
      go (decl.Type i) e = (decl-is img is e refl).number
      go (decl.Pred i) e = (decl-is img is e refl).number
      go (decl.Func i) e = (decl-is img is e refl).number
      go (decl.Const i) e = (decl-is img is e refl).number
      go (decl.Rule i) e = (decl-is img is e refl).number
      go (decl.Enum i) e = (decl-is img is e refl).number
      go (decl.Model i) e = (decl-is img is e refl).number

  head-number : {n : ℕ} {t : AppHead} → Is img (kind_of app_head_kind) n → t ≡ app_head_at img n → tag_of AppHeadCode.the_type t ≡ field img n 0
  head-number {n} {t} is q = go t q
    where
      go : (s : AppHead) → s ≡ app_head_at img n → tag_of AppHeadCode.the_type s ≡ field img n 0
      go (app_head.Ident i) e = (app-head-is img is e refl).number
      go (app_head.Member i) e = (app-head-is img is e refl).number
      go (app_head.Term i) e = (app-head-is img is e refl).number

  -- a declaration that is neither a rule nor a model
  pub no_body : {n : ℕ} {t : Decl} → Is img (kind_of decl_kind) n → t ≡ decl_at img n → OneOf (0 ∷ 1 ∷ 2 ∷ 3 ∷ 5 ∷ []) (tag_of DeclCode.the_type t)
      → (4 ≡ field img n 0 → ⊥) × (6 ≡ field img n 0 → ⊥)
  no_body is q h = (apart (0 ∷ 1 ∷ 2 ∷ 3 ∷ 5 ∷ []) 4 h (decl-number is q) tt, apart (0 ∷ 1 ∷ 2 ∷ 3 ∷ 5 ∷ []) 6 h (decl-number is q) tt)

  -- a term that is no application, one of case Dom or Cod
  pub no-app : {n : ℕ} {t : Term} → Is img (kind_of term_kind) n → t ≡ term_at img n → OneOf (0 ∷ 1 ∷ 3 ∷ 4 ∷ 5 ∷ 6 ∷ 7 ∷ []) (tag_of TermCode.the_type t) → 2 ≡ field img n 0 → ⊥
  no-app is q h = apart (0 ∷ 1 ∷ 3 ∷ 4 ∷ 5 ∷ 6 ∷ 7 ∷ []) 2 h (term-number img is q) tt

  pub dom-or-cod : {n : ℕ} {t : Term} → Is img (kind_of term_kind) n → t ≡ term_at img n → OneOf (4 ∷ 5 ∷ []) (tag_of TermCode.the_type t) → (4 ≡ field img n 0) ⊎ (5 ≡ field img n 0)
  dom-or-cod is q h = ⊎_elim (λ e. inl (sym e ∙ term-number img is q)) (λ e. inr (sym e ∙ term-number img is q)) h

  -- an app head that is no ident
  pub no_name : {n : ℕ} {t : AppHead} → Is img (kind_of app_head_kind) n → t ≡ app_head_at img n → OneOf (1 ∷ 2 ∷ []) (tag_of AppHeadCode.the_type t) → 0 ≡ field img n 0 → ⊥
  no_name is q h = apart (1 ∷ 2 ∷ []) 0 h (head-number is q) tt
