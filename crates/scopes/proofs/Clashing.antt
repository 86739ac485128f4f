-- The numbers of "twice": the name is below S, the two nodes below N.
use mathlib.Core.Path.{◌≡◌, refl, sym, ap, subst, ◌∙◌}
use mathlib.Core.Bool.{Bool, true, false, not, ◌&&◌, ◌||◌}
use mathlib.Core.List.{List, [], ◌∷◌, ◌++◌}
use mathlib.Core.Option.{Option, none as nothing, some}
use Prim.Native.Nat.{ℕ, ◌<◌, ◌≤◌}
use native.Mathlib.Omega.{arith}
use native.Mathlib.Decide.{dec_lt, ℕ_discrete}
use lib.Dec.{T, eqb, leb}
use borrow.Author.Tests.{le-leb, ne_eqb, leb-true}
use Rattle.ast.specs.Answer.{twice as twice_answer, Fits}
use Rattle.ast.specs.Declarations.{model_lists, model_lists_all, module_lists, or_else, earliest}
use Rattle.ast.specs.Image.{nodes, names, last, kind_at, name_of}
use Rattle.ast.specs.Kinds.{outer, inner, root, decl, signature, rule, enum, model, Field, name, opt_name, child, opt_child, list, lists, cases, Kind, kinds, kind_of}
use Rattle.ast.specs.Rows.{fields_at}
use Rattle.ast.specs.Tests.{verdict}
use Rattle.ast.specs.Tree.{Tree, node, block, Trees, none, ◌◂◌, tree_at}
use Rattle.ast.proofs.Acceptance.{row, name_below, opt-name-below}
use Rattle.ast.proofs.Accepted.{sized, last-below}
use Rattle.ast.proofs.Unfold.{nil, cons, All-append}
use Rattle.ast.proofs.Vars.{Everywhere, EverywhereAll, every-kind}
use Rattle.sound.specs.Sound.{is_symbol}
use Rattle.sound.proofs.Sounds.{named-no, symbol-rule, symbol-arg, symbol_low, symbol-decl}
use Rattle.scopes.specs.Walk.{twice}
use Rattle.scopes.specs.Resolve.{test_table, walked}
use Rattle.scopes.specs.Clash.{Clash, clash_from, clash_in, first_clash}
use Rattle.scopes.proofs.Clashes.{shows}
use Rattle.ast.proofs.Bools.{true-not-false}
use Rattle.scopes.proofs.Namings.{Fit, Symbols, declared_all-symbols, symbol-below, tree-fits}
use Rattle.scopes.proofs.Resolving.{table-accepted, walked-shown}

-- the name of a symbol ---------------------------------------------------------------------------------------------------
-- the row of a kind from 2 to 9, but 6, begins with a name: one computed check over the table of kinds
name_first : List Field → Bool
name_first [] = false
name_first (name ∷ gs) = true
name_first (opt_name ∷ gs) = false
name_first (child k ∷ gs) = false
name_first (opt_child k ∷ gs) = false
name_first (list k ∷ gs) = false
name_first (lists k ∷ gs) = false
name_first (cases ks ∷ gs) = false

begins : ℕ → Kind → Bool
unfolding name_first
begins k kd = not (leb 2 k && leb k 9) || (eqb k 6 || name_first kd.fields)

all-begin : (k : ℕ) → k ≤ 40 → T (begins k (kind_of k))
unfolding begins kinds
all-begin k l = every-kind begins tt k l

first-is : (fs : List Field) → T (name_first fs) → (gs : List Field) × (fs ≡ name ∷ gs)
unfolding name_first
first-is [] t = absurd t
first-is (name ∷ gs) t = (gs, refl)
first-is (opt_name ∷ gs) t = absurd t
first-is (child k ∷ gs) t = absurd t
first-is (opt_child k ∷ gs) t = absurd t
first-is (list k ∷ gs) t = absurd t
first-is (lists k ∷ gs) t = absurd t
first-is (cases ks ∷ gs) t = absurd t

first-name : (k : ℕ) (kd : Kind) → 2 ≤ k → k ≤ 9 → (k ≡ 6 → ⊥) → T (begins k kd) → (gs : List Field) × (kd.fields ≡ name ∷ gs)
unfolding begins
first-name k kd h m p t = first-is kd.fields (rw (le-leb 2 k h, le-leb k 9 m, ne_eqb k 6 p) at t)

module _ (img : List ℕ) where
  -- its name is below S
  pub symbol-name : verdict img ≡ 0 → (n : ℕ) → is_symbol img n ≡ true → name_of img n < names img
  unfolding fields_at kind_of kinds
  symbol-name accepted n s = go (ℕ_discrete k 6) (ℕ_discrete k 10) (ℕ_discrete k 13) (dec_lt k 2)
    where
      k : ℕ
      k = kind_at img n

      l : n < nodes img
      l = symbol-below img n s

      fields-are : (m : ℕ) → k ≡ m → fields_at img n ≡ (kind_of m).fields
      fields-are m e = ap (λ (x : ℕ). (kind_of x).fields) e

      go : Dec (k ≡ 6) → Dec (k ≡ 10) → Dec (k ≡ 13) → Dec (k < 2) → name_of img n < names img
      go (yes e) q r t = opt-name-below img accepted n l _ (fields-are 6 e) (λ z. true-not-false s (symbol-rule img n l e ∙ named-no img n z))
      go (no p) (yes e) r t = opt-name-below img accepted n l _ (fields-are 10 e) (λ z. true-not-false s (symbol-arg img n l e ∙ named-no img n z))
      go (no p) (no q) (yes e) t = name_below img accepted n l _ (fields-are 13 e)
      go (no p) (no q) (no r) (yes t) = absurd (true-not-false s (symbol_low img n l p q r t))
      go (no p) (no q) (no r) (no t) =
          let h : 2 ≤ k = omega arith in
          let m : k ≤ 9 = leb-true k 9 (sym (symbol-decl img n l p q r h) ∙ s) in
          let f = first-name k (kind_of k) h m p (all-begin k (row img accepted n l).kind) in
          name_below img accepted n l f.0 f.1

  -- clashes ----------------------------------------------------------------------------------------------------------------
  -- two symbols, with the name of the second
  record Known (c : Clash) : Type 0 where
    first : is_symbol img c.first ≡ true
    second : is_symbol img c.second ≡ true
    name : c.name ≡ name_of img c.second

  no-clash : {A : Type 0} {a : A} → nothing ≡ some a → ⊥
  no-clash e = let z : ◌≡◌ {A = ℕ} 0 1 = cc in omega arith

  earliest-symbol : (ds : List ℕ) (x m : ℕ) → Symbols img ds → earliest (name_of img) ds x ≡ some m → is_symbol img m ≡ true
  unfolding earliest
  earliest-symbol [] x m a e = absurd (no-clash e)
  earliest-symbol (d ∷ ds) x m (cons h a) e = go (eqb (name_of img d) x) e (earliest-symbol ds x m a)
    where
      go : (b : Bool) → ◌≡◌ {A = Option ℕ} (elim b [ true ↦ some d | false ↦ earliest (name_of img) ds x ]) (some m) → (earliest (name_of img) ds x ≡ some m → is_symbol img m ≡ true) → is_symbol img m ≡ true
      go true q f = let z : d ≡ m = cc in subst (λ (y : ℕ). is_symbol img y ≡ true) z h
      go false q f = f q

  from-known : (ds ns : List ℕ) → Symbols img ds → Symbols img ns → (c : Clash) → clash_from (name_of img) ds ns ≡ some c → Known c
  unfolding clash_from
  from-known ds [] a b c e = absurd (no-clash e)
  from-known ds (n ∷ ns) a (cons h b) c e = go (earliest (name_of img) ds (name_of img n)) refl e (from-known (ds ++ (n ∷ [])) ns (All-append a (cons h nil)) b c)
    where
      go : (o : Option ℕ) → earliest (name_of img) ds (name_of img n) ≡ o
          → ◌≡◌ {A = Option Clash} (elim o [ some m ↦ some (record { name = name_of img n; first = m; second = n }) | nothing ↦ clash_from (name_of img) (ds ++ (n ∷ [])) ns ]) (some c)
          → (clash_from (name_of img) (ds ++ (n ∷ [])) ns ≡ some c → Known c) → Known c
      go (some m) q r f =
          let z : record { name = name_of img n; first = m; second = n } ≡ c = cc in
          subst Known z (record { first = earliest-symbol ds (name_of img n) m a q; second = h; name = refl })
      go nothing q r f = f r

  or-known : (o p : Option Clash) → ((c : Clash) → o ≡ some c → Known c) → ((c : Clash) → p ≡ some c → Known c) → (c : Clash) → or_else o p ≡ some c → Known c
  or-known (some d) p f g c e = f c e
  or-known nothing p f g c e = g c e

  -- what each list declares is symbols
  pub data SymbolLists : List (List ℕ) → Type 0 where
    no_list : SymbolLists []
    a_list : {ns : List ℕ} {nss : List (List ℕ)} → Symbols img ns → SymbolLists nss → SymbolLists (ns ∷ nss)

  lists-append : {nss mss : List (List ℕ)} → SymbolLists nss → SymbolLists mss → SymbolLists (nss ++ mss)
  lists-append no_list b = b
  lists-append (a_list h a) b = a_list h (lists-append a b)

  mutual
    unfolding model_lists Everywhere

    model-symbols : (u : Tree) → Everywhere (Fit img) u → SymbolLists (model_lists u)
    model-symbols (block ts) q = no_list
    model-symbols (node n k (inner i) sh ts) q = no_list
    model-symbols (node n k (outer root) sh ts) q = no_list
    model-symbols (node n k (outer decl) sh ts) q = models-symbols ts q.1
    model-symbols (node n k (outer signature) sh ts) q = no_list
    model-symbols (node n k (outer rule) sh ts) q = no_list
    model-symbols (node n k (outer enum) sh ts) q = models-symbols ts q.1
    model-symbols (node n k (outer model) sh ts) q = a_list (declared_all-symbols img ts q.1) (models-symbols ts q.1)

    models-symbols : (us : Trees) → EverywhereAll (Fit img) us → SymbolLists (model_lists_all us)
    models-symbols none q = no_list
    models-symbols (u ◂ us) q = lists-append (model-symbols u q.0) (models-symbols us q.1)

  module-symbols : (u : Tree) → Everywhere (Fit img) u → SymbolLists (module_lists u)
  unfolding module_lists Everywhere
  module-symbols (block ts) q = no_list
  module-symbols (node n k c sh ts) q = a_list (declared_all-symbols img ts q.1) (models-symbols ts q.1)

  lists-known : (nss : List (List ℕ)) → SymbolLists nss → (c : Clash) → clash_in (name_of img) nss ≡ some c → Known c
  unfolding clash_in
  lists-known [] a c e = absurd (no-clash e)
  lists-known (ns ∷ nss) (a_list h a) c e = or-known (clash_from (name_of img) [] ns) (clash_in (name_of img) nss) (from-known [] ns nil h) (lists-known nss a) c e

  first-known : verdict img ≡ 0 → (c : Clash) → first_clash img ≡ some c → Known c
  unfolding first_clash
  first-known accepted c e = lists-known (module_lists (tree_at img (last img))) (module-symbols (tree_at img (last img)) (tree-fits img accepted (last img) (last-below img accepted))) c e

  -- where the walk stops, at the name x of the nodes a and b: x is below S, a and b are below N
  pub twice-below : (tab : List ℕ) (x a b : ℕ) → test_table img tab ≡ 0 → walked img tab ≡ twice x a b → (x < names img) × (a < nodes img) × (b < nodes img)
  unfolding shows
  twice-below tab x a b passes stops =
      let accepted = table-accepted img tab passes in
      let c = first-known accepted (record { name = x; first = a; second = b }) (sym (walked-shown img tab passes) ∙ ap shows stops) in
      (subst (λ (y : ℕ). y < names img) (sym c.name) (symbol-name accepted b c.second), symbol-below img a c.first, symbol-below img b c.second)

  pub twice-fits : (tab : List ℕ) (x a b : ℕ) → test_table img tab ≡ 0 → walked img tab ≡ twice x a b → Fits (twice_answer x a b)
  unfolding Fits
  twice-fits tab x a b passes stops =
      let s = sized img (table-accepted img tab passes) in
      let f = twice-below tab x a b passes stops in
      (omega arith, omega arith, omega arith)
