-- "Twice" exactly: Resolve gives it exactly if some module or model list declares one name twice.
use Rattle.ast.proofs.Bools.{eqb-swap}
use mathlib.Core.Path.{◌≡◌, refl, sym, ap, ap₂, ◌∙◌}
use mathlib.Core.Logic.{◌↔◌}
use mathlib.Core.Bool.{Bool, true, false, ◌||◌, or-false}
use mathlib.Core.List.{List, [], ◌∷◌, ◌++◌, map, map-append}
use mathlib.Core.Option.{Option, none as nothing, some}
use Prim.Native.Nat.{ℕ}
use native.Mathlib.Omega.{arith}
use lib.Dec.{eqb}
use Rattle.ast.specs.Answer.{twice}
use Rattle.ast.specs.Declarations.{module_lists, or_else, earliest}
use Rattle.ast.specs.Image.{last, name_of}
use Rattle.ast.specs.Tree.{tree_at}
use Rattle.scopes.specs.Resolve.{test_table, resolve}
use Rattle.scopes.specs.Twice.{among, repeats, some_repeats, declared_twice}
use Rattle.scopes.specs.Clash.{Clash, clash_from, clash_in, first_clash}
use Rattle.scopes.proofs.Resolving.{twice-first, twice-only}

-- some clash, or none
is_some : Option Clash → Bool
is_some nothing = false
is_some (some c) = true

some-or_else : (o p : Option Clash) → is_some (or_else o p) ≡ (is_some o || is_some p)
unfolding is_some
some-or_else nothing p = refl
some-or_else (some c) p = refl

or-mix : (a b c d : Bool) → ((a || b) || (c || d)) ≡ ((a || c) || (b || d))
or-mix true b c d = refl
or-mix false true true d = refl
or-mix false true false d = refl
or-mix false false c d = refl

-- some of the numbers xs stand in ds
meets : List ℕ → List ℕ → Bool
meets ds [] = false
meets ds (x ∷ xs) = among x ds || meets ds xs

among-snoc : (x y : ℕ) (ds : List ℕ) → among x (ds ++ (y ∷ [])) ≡ (among x ds || eqb x y)
unfolding among
among-snoc x y [] = or-false (eqb x y)
among-snoc x y (d ∷ ds) = ap (λ (b : Bool). eqb x d || b) (among-snoc x y ds) ∙ go (eqb x d)
  where
    go : (a : Bool) → (a || (among x ds || eqb x y)) ≡ ((a || among x ds) || eqb x y)
    go true = refl
    go false = refl

meets-snoc : (y : ℕ) (ds xs : List ℕ) → meets (ds ++ (y ∷ [])) xs ≡ (meets ds xs || among y xs)
unfolding meets among
meets-snoc y ds [] = refl
meets-snoc y ds (x ∷ xs) =
    ap₂ (λ (a b : Bool). a || b) (among-snoc x y ds) (meets-snoc y ds xs)
    ∙ or-mix (among x ds) (eqb x y) (meets ds xs) (among y xs)
    ∙ ap (λ (b : Bool). (among x ds || meets ds xs) || (b || among y xs)) (eqb-swap x y)

meets-nil : (xs : List ℕ) → meets [] xs ≡ false
unfolding meets among
meets-nil [] = refl
meets-nil (x ∷ xs) = meets-nil xs

-- the list itself -------------------------------------------------------------------------------------------------------
-- by the names of nodes
module _ (name : ℕ → ℕ) where
  found : Option ℕ → Bool
  found nothing = false
  found (some n) = true

  found_among : (ds : List ℕ) (x : ℕ) → found (earliest name ds x) ≡ among x (map name ds)
  unfolding earliest found among
  found_among [] x = refl
  found_among (d ∷ ds) x = go (eqb (name d) x) (found_among ds x) ∙ ap (λ (b : Bool). b || among x (map name ds)) (eqb-swap (name d) x)
    where
      go : (b : Bool) → found (earliest name ds x) ≡ among x (map name ds) → found (elim b [ true ↦ some d | false ↦ earliest name ds x ]) ≡ (b || among x (map name ds))
      go true h = refl
      go false h = h

  -- a clash is a name among those before, or one that is repeated
  clash-repeats : (ds ns : List ℕ) → is_some (clash_from name ds ns) ≡ (meets (map name ds) (map name ns) || repeats (map name ns))
  unfolding clash_from meets repeats is_some found
  clash-repeats ds [] = refl
  clash-repeats ds (n ∷ ns) = go (earliest name ds (name n)) (found_among ds (name n)) (clash-repeats (ds ++ (n ∷ [])) ns)
    where
      x : ℕ
      x = name n

      c : ℕ → Clash
      c m = record { name = name n; first = m; second = n }

      go : (o : Option ℕ) → found o ≡ among x (map name ds)
          → is_some (clash_from name (ds ++ (n ∷ [])) ns) ≡ (meets (map name (ds ++ (n ∷ []))) (map name ns) || repeats (map name ns))
          → is_some (elim o [ some m ↦ some (c m) | nothing ↦ clash_from name (ds ++ (n ∷ [])) ns ])
          ≡ ((among x (map name ds) || meets (map name ds) (map name ns)) || (among x (map name ns) || repeats (map name ns)))
      go (some m) f h = ap (λ (b : Bool). (b || meets (map name ds) (map name ns)) || (among x (map name ns) || repeats (map name ns))) f
      go nothing f h =
          h ∙ ap (λ (l : List ℕ). meets l (map name ns) || repeats (map name ns)) (map-append name ds (n ∷ []))
          ∙ ap (λ (b : Bool). b || repeats (map name ns)) (meets-snoc x (map name ds) (map name ns))
          ∙ or_assoc (meets (map name ds) (map name ns)) (among x (map name ns)) (repeats (map name ns))
          ∙ ap (λ (b : Bool). (b || meets (map name ds) (map name ns)) || (among x (map name ns) || repeats (map name ns))) f
        where
          or_assoc : (a b d : Bool) → ((a || b) || d) ≡ (a || (b || d))
          or_assoc true b d = refl
          or_assoc false b d = refl

  -- some list has a clash where some list repeats a name
  clash-some : (nss : List (List ℕ)) → is_some (clash_in name nss) ≡ some_repeats name nss
  unfolding clash_in some_repeats is_some meets
  clash-some [] = refl
  clash-some (ns ∷ nss) =
      some-or_else (clash_from name [] ns) (clash_in name nss)
      ∙ ap₂ (λ (a b : Bool). a || b) (clash-repeats [] ns ∙ ap (λ (b : Bool). b || repeats (map name ns)) (meets-nil (map name ns))) (clash-some nss)

clash-declared : (img : List ℕ) → is_some (first_clash img) ≡ declared_twice img
unfolding first_clash declared_twice
clash-declared img = clash-some (name_of img) (module_lists (tree_at img (last img)))

-- "twice" is given exactly if some module or model list declares one name twice
pub twice-exactly : (img tab : List ℕ) → test_table img tab ≡ 0
    → ((x : ℕ) × (a : ℕ) × (b : ℕ) × ((resolve img tab).answer ≡ twice x a b)) ↔ (declared_twice img ≡ true)
unfolding is_some
twice-exactly img tab passes = (
  λ t. sym (clash-declared img) ∙ ap is_some (twice-only img tab t.0 t.1 t.2 t.3),
  λ d. go (first_clash img) refl (clash-declared img ∙ d),
)
  where
    go : (o : Option Clash) → first_clash img ≡ o → is_some (first_clash img) ≡ true → (x : ℕ) × (a : ℕ) × (b : ℕ) × ((resolve img tab).answer ≡ twice x a b)
    go nothing q e = let z : is_some nothing ≡ true = ap is_some (sym q) ∙ e in let w : ◌≡◌ {A = ℕ} 0 1 = cc in absurd (omega arith)
    go (some c) q e = (c.name, c.first, c.second, twice-first img tab passes c q)
