-- Two images with one tree, whose declarations carry the same names: a list of one declares a name twice exactly if one of the other
-- does, and their rules are the same.
use mathlib.Core.Bool.{Bool, true, false, ◌||◌}
use mathlib.Core.Path.{◌≡◌, refl, ap, ap₂, ◌∙◌, fun_ext}
use mathlib.Core.List.{List, [], ◌∷◌, ◌++◌, map}
use mathlib.Core.Option.{Option, some}
use Prim.Native.Nat.{ℕ, zero, suc}
use lib.Dec.{eqb}
use Rattle.ast.specs.Declarations.{rule_node, declared, declared_all, model_lists, model_lists_all, module_lists, or_else, earliest}
use Rattle.ast.specs.Image.{last, name_of}
use Rattle.ast.specs.Kinds.{Class, outer, inner, root, decl, signature, rule, enum, model}
use Rattle.ast.specs.Rules.{says_all, rules, rules_all, rules_of, module_rules}
use Rattle.ast.specs.Tree.{Tree, node, block, Trees, none, ◌◂◌, tree_at}
use Rattle.ast.proofs.Unfold.{All, nil, cons, All-append}
use Rattle.ast.proofs.Vars.{Everywhere, EverywhereAll}
use Rattle.scopes.specs.Twice.{repeats, some_repeats, declared_twice}

module _ (img img' : List ℕ) where
  -- a declaration carries the same name
  abbrev pub NamedBy : Class → ℕ → Type 0
  NamedBy (outer o) n = name_of img' n ≡ name_of img n
  NamedBy (inner i) n = Unit {0}

  abbrev pub Named : Tree → Type 0
  Named (node n k c sh ts) = NamedBy c n
  Named (block ts) = Unit {0}

  -- all of some nodes do, all of some lists of nodes
  abbrev AllNamed : List ℕ → Type 0
  AllNamed ns = All (λ n. name_of img' n ≡ name_of img n) ns

  abbrev ListsNamed : List (List ℕ) → Type 0
  ListsNamed [] = Unit {0}
  ListsNamed (ns ∷ nss) = AllNamed ns × ListsNamed nss

  names-same : {ns : List ℕ} → AllNamed ns → map (name_of img') ns ≡ map (name_of img) ns
  names-same nil = refl
  names-same (cons e h) = ap₂ ◌∷◌ e (names-same h)

  earliest-same : {ns : List ℕ} → AllNamed ns → (x : ℕ) → earliest (name_of img') ns x ≡ earliest (name_of img) ns x
  unfolding earliest
  earliest-same nil x = refl
  earliest-same (cons {c} e h) x = ap₂ (λ (y : ℕ) (o : Option ℕ). elim (eqb y x) as (λ b. Option ℕ) [ true ↦ some c | false ↦ o ]) e (earliest-same h x)

  repeats-same : (nss : List (List ℕ)) → ListsNamed nss → some_repeats (name_of img') nss ≡ some_repeats (name_of img) nss
  unfolding some_repeats
  repeats-same [] h = refl
  repeats-same (ns ∷ nss) h = ap₂ (λ (l : List ℕ) (b : Bool). repeats l || b) (names-same h.0) (repeats-same nss h.1)

  lists-join : (nss mss : List (List ℕ)) → ListsNamed nss → ListsNamed mss → ListsNamed (nss ++ mss)
  lists-join [] mss h g = g
  lists-join (ns ∷ nss) mss h g = (h.0, lists-join nss mss h.1 g)

  rule-named : (sh : List ℕ) (n : ℕ) → name_of img' n ≡ name_of img n → AllNamed (rule_node sh n)
  unfolding rule_node
  rule-named [] n e = nil
  rule-named (zero ∷ sh) n e = nil
  rule-named (suc c ∷ sh) n e = cons e nil

  -- what a list declares
  mutual
    unfolding declared Everywhere

    declared-named : (u : Tree) → Everywhere Named u → AllNamed (declared u)
    declared-named (block ts) h = nil
    declared-named (node n k (inner i) sh ts) h = nil
    declared-named (node n k (outer root) sh ts) h = nil
    declared-named (node n k (outer decl) sh ts) h = declared_all-named ts h.1
    declared-named (node n k (outer signature) sh ts) h = cons h.0 nil
    declared-named (node n k (outer rule) sh ts) h = rule-named sh n h.0
    declared-named (node n k (outer enum) sh ts) h = cons h.0 (declared_all-named ts h.1)
    declared-named (node n k (outer model) sh ts) h = cons h.0 nil

    declared_all-named : (us : Trees) → EverywhereAll Named us → AllNamed (declared_all us)
    declared_all-named none h = nil
    declared_all-named (u ◂ us) h = All-append (declared-named u h.0) (declared_all-named us h.1)

  mutual
    unfolding model_lists Everywhere

    lists-named : (u : Tree) → Everywhere Named u → ListsNamed (model_lists u)
    lists-named (block ts) h = tt
    lists-named (node n k (inner i) sh ts) h = tt
    lists-named (node n k (outer root) sh ts) h = tt
    lists-named (node n k (outer decl) sh ts) h = lists_all-named ts h.1
    lists-named (node n k (outer signature) sh ts) h = tt
    lists-named (node n k (outer rule) sh ts) h = tt
    lists-named (node n k (outer enum) sh ts) h = lists_all-named ts h.1
    lists-named (node n k (outer model) sh ts) h = (declared_all-named ts h.1, lists_all-named ts h.1)

    lists_all-named : (us : Trees) → EverywhereAll Named us → ListsNamed (model_lists_all us)
    lists_all-named none h = tt
    lists_all-named (u ◂ us) h = lists-join (model_lists u) (model_lists_all us) (lists-named u h.0) (lists_all-named us h.1)

  module-named : (u : Tree) → Everywhere Named u → ListsNamed (module_lists u)
  unfolding module_lists Everywhere
  module-named (block ts) h = tt
  module-named (node n k c sh ts) h = (declared_all-named ts h.1, lists_all-named ts h.1)

  says-same : (us : Trees) → EverywhereAll Named us → says_all img' us ≡ says_all img us
  says-same us h = fun_ext (earliest-same (declared_all-named us h))

  mutual
    unfolding rules Everywhere

    rules-same : (m : ℕ → Option ℕ) (u : Tree) → Everywhere Named u → rules img' m u ≡ rules img m u
    rules-same m (block ts) h = refl
    rules-same m (node n k (inner i) sh ts) h = refl
    rules-same m (node n k (outer root) sh ts) h = refl
    rules-same m (node n k (outer decl) sh ts) h = rules_all-same m ts h.1
    rules-same m (node n k (outer signature) sh ts) h = refl
    rules-same m (node n k (outer rule) sh ts) h = refl
    rules-same m (node n k (outer enum) sh ts) h = rules_all-same m ts h.1
    rules-same m (node n k (outer model) sh ts) h =
        rules_all-same (λ x. or_else (says_all img' ts x) (m x)) ts h.1
        ∙ ap (λ (f : ℕ → Option ℕ). rules_all img (λ x. or_else (f x) (m x)) ts) (says-same ts h.1)

    rules_all-same : (m : ℕ → Option ℕ) (us : Trees) → EverywhereAll Named us → rules_all img' m us ≡ rules_all img m us
    rules_all-same m none h = refl
    rules_all-same m (u ◂ us) h = ap₂ ◌++◌ (rules-same m u h.0) (rules_all-same m us h.1)

  rules_of-same : (u : Tree) → Everywhere Named u → rules_of img' u ≡ rules_of img u
  unfolding rules_of Everywhere
  rules_of-same (block ts) h = refl
  rules_of-same (node n k c sh ts) h = rules_all-same (says_all img' ts) ts h.1 ∙ ap (λ (f : ℕ → Option ℕ). rules_all img f ts) (says-same ts h.1)

  module _ (tree : tree_at img' (last img') ≡ tree_at img (last img)) (h : Everywhere Named (tree_at img (last img))) where
    -- some list of the one declares a name twice exactly if some list of the other does
    pub twice-same : declared_twice img' ≡ declared_twice img
    unfolding declared_twice
    twice-same =
        ap (λ (u : Tree). some_repeats (name_of img') (module_lists u)) tree ∙ repeats-same (module_lists (tree_at img (last img))) (module-named (tree_at img (last img)) h)

    -- the rules are the same, and what names mean outside them
    pub module-same : module_rules img' ≡ module_rules img
    unfolding module_rules
    module-same = ap (rules_of img') tree ∙ rules_of-same (tree_at img (last img)) h
