-- Each node of an accepted image is marked once, and stands once among the nodes of its rules.
use mathlib.Core.Path.{◌≡◌, sym, ap, subst}
use mathlib.Core.Logic.{inl, inr}
use mathlib.Core.List.{List, [], ◌∷◌, ◌++◌}
use mathlib.Core.Option.{Option}
use Prim.Native.Nat.{ℕ, ◌+◌, ◌≤◌, ◌<◌}
use native.Mathlib.Decide.{dec_lt}
use native.Mathlib.Omega.{arith}
use Rattle.ast.specs.Declarations.{or_else}
use Rattle.ast.specs.Image.{nodes, last}
use Rattle.ast.specs.Kinds.{outer, inner, root, decl, signature, rule, enum, model, plain, term, ident, head, head_member, member, case, if_var, defined_then, arg}
use Rattle.ast.specs.Tests.{is, times, verdict}
use Rattle.ast.specs.Tree.{Tree, node, block, Trees, none, ◌◂◌, tree_at}
use Rattle.ast.proofs.Count.{nodes_of, nodes_all, is_same, is-other, times-append, once, nothing-else}
use Rattle.ast.proofs.Small.{Small, Smalls}
use Rattle.ordered.proofs.Moves.{numbers, numbers_seq}
use Rattle.scopes.specs.Walk.{recorded, recorded_all}
use Rattle.sight.specs.Listing.{Distinct}
use Rattle.sight.specs.Sight.{In}
use Rattle.ast.specs.Rules.{Rule, says_all, rules, rules_all, rules_of, module_rules}
use Rattle.sight.proofs.Lists.{visited, visited_all, module_numbers}
use Rattle.sight.proofs.Verdict.{root-of}

-- members and distinct numbers, by how often a number stands in a list
pub in-times : (v : ℕ) (xs : List ℕ) → In v xs → 1 ≤ times v xs
unfolding times
in-times v [] i = absurd i
in-times v (x ∷ xs) (inl e) = let h : is v x ≡ 1 = subst (λ y. is v y ≡ 1) e (is_same v) in omega arith
in-times v (x ∷ xs) (inr i) = let h = in-times v xs i in omega arith

pub distinct-times : (xs : List ℕ) → ((v : ℕ) → times v xs ≤ 1) → Distinct xs
unfolding times
distinct-times [] h = tt
distinct-times (x ∷ xs) h = (
  (λ i. let a = in-times x xs i in let b = is_same x in let c = h x in omega arith),
  distinct-times xs (λ v. let c = h v in omega arith),
)

module _ (v : ℕ) where
  -- a node after what stands below it
  after-own : (n : ℕ) (ns ms : List ℕ) → times v ns ≤ times v ms → times v (ns ++ (n ∷ [])) ≤ times v (n ∷ ms)
  unfolding times
  after-own n ns ms l = let a = times-append v ns (n ∷ []) in omega arith

  mutual
    unfolding numbers nodes_of times

    numbers-once : (u : Tree) → times v (numbers u) ≤ times v (nodes_of u)
    numbers-once (block ts) = numbers_seq-once ts
    numbers-once (node n k (outer c) sh ts) = omega arith
    numbers-once (node n k (inner plain) sh ts) = after-own n (numbers_seq ts) (nodes_all ts) (numbers_seq-once ts)
    numbers-once (node n k (inner term) sh ts) = after-own n (numbers_seq ts) (nodes_all ts) (numbers_seq-once ts)
    numbers-once (node n k (inner ident) sh ts) = omega arith
    numbers-once (node n k (inner head) sh ts) = after-own n (numbers_seq ts) (nodes_all ts) (numbers_seq-once ts)
    numbers-once (node n k (inner head_member) sh ts) = after-own n (numbers_seq ts) (nodes_all ts) (numbers_seq-once ts)
    numbers-once (node n k (inner member) sh ts) = after-own n (numbers_seq ts) (nodes_all ts) (numbers_seq-once ts)
    numbers-once (node n k (inner case) sh ts) = after-own n (numbers_seq ts) (nodes_all ts) (numbers_seq-once ts)
    numbers-once (node n k (inner if_var) sh ts) = after-own n (numbers_seq ts) (nodes_all ts) (numbers_seq-once ts)
    numbers-once (node n k (inner defined_then) sh ts) = after-own n (numbers_seq ts) (nodes_all ts) (numbers_seq-once ts)
    numbers-once (node n k (inner arg) sh ts) = after-own n (numbers_seq ts) (nodes_all ts) (numbers_seq-once ts)

    numbers_seq-once : (us : Trees) → times v (numbers_seq us) ≤ times v (nodes_all us)
    numbers_seq-once none = omega arith
    numbers_seq-once (u ◂ us) =
        let a = times-append v (numbers u) (numbers_seq us) in
        let b = times-append v (nodes_of u) (nodes_all us) in
        let c = numbers-once u in
        let d = numbers_seq-once us in
        omega arith

  mutual
    unfolding recorded visited nodes_of times

    marked-once : (u : Tree) → times v (recorded u) + times v (visited u) ≤ times v (nodes_of u)
    marked-once (block ts) = omega arith
    marked-once (node n k (inner i) sh ts) = omega arith
    marked-once (node n k (outer root) sh ts) = omega arith
    marked-once (node n k (outer decl) sh ts) = let a = marked_all-once ts in omega arith
    marked-once (node n k (outer signature) sh ts) = let a = numbers_seq-once ts in omega arith
    marked-once (node n k (outer rule) sh ts) = let a = numbers_seq-once ts in omega arith
    marked-once (node n k (outer enum) sh ts) = let a = marked_all-once ts in omega arith
    marked-once (node n k (outer model) sh ts) =
        let a = marked_all-once ts in
        let b = times-append v (recorded_all ts) (visited_all ts) in
        omega arith

    marked_all-once : (us : Trees) → times v (recorded_all us) + times v (visited_all us) ≤ times v (nodes_all us)
    marked_all-once none = omega arith
    marked_all-once (u ◂ us) =
        let a = times-append v (recorded u) (recorded_all us) in
        let b = times-append v (visited u) (visited_all us) in
        let c = times-append v (nodes_of u) (nodes_all us) in
        let d = marked-once u in
        let e = marked_all-once us in
        omega arith

-- the walk over small trees marks small numbers
module _ (m v : ℕ) (l : m ≤ v) where
  mutual
    unfolding Small nodes_of times

    small_times : (u : Tree) → Small m u → times v (nodes_of u) ≡ 0
    small_times (node n k c sh ts) h = let a = h.0 in let b = is-other v n (omega arith) in let d = smalls-times ts h.1 in omega arith
    small_times (block ts) h = smalls-times ts h

    smalls-times : (us : Trees) → Smalls m us → times v (nodes_all us) ≡ 0
    smalls-times none h = omega arith
    smalls-times (u ◂ us) h =
        let a = times-append v (nodes_of u) (nodes_all us) in
        let b = small_times u h.0 in
        let c = smalls-times us h.1 in
        omega arith

pub numbers-small : (m : ℕ) (us : Trees) → Smalls m us → (v : ℕ) → In v (numbers_seq us) → v < m
numbers-small m us h v i = go (dec_lt v m)
  where
    go : Dec (v < m) → v < m
    go (yes l) = l
    go (no f) =
        let a = in-times v (numbers_seq us) i in
        let b = numbers_seq-once v us in
        let c = smalls-times m v (omega arith) us h in
        absurd (omega arith)

-- the nodes that the walks of rules mark
unfoldable pub rule_numbers : List Rule → List ℕ
rule_numbers [] = []
rule_numbers (r ∷ rs) = numbers_seq r.statements ++ rule_numbers rs

module _ (img : List ℕ) (v : ℕ) where
  rules-append : (rs qs : List Rule) → times v (rule_numbers (rs ++ qs)) ≡ times v (rule_numbers rs) + times v (rule_numbers qs)
  unfolding rule_numbers times
  rules-append [] qs = omega arith
  rules-append (r ∷ rs) qs =
      let a = times-append v (numbers_seq r.statements) (rule_numbers (rs ++ qs)) in
      let b = times-append v (numbers_seq r.statements) (rule_numbers rs) in
      let c = rules-append rs qs in
      omega arith

  mutual
    unfolding visited rules rule_numbers times

    rules-once : (m : ℕ → Option ℕ) (u : Tree) → times v (rule_numbers (rules img m u)) ≤ times v (visited u)
    rules-once m (block ts) = omega arith
    rules-once m (node n k (inner i) sh ts) = omega arith
    rules-once m (node n k (outer root) sh ts) = omega arith
    rules-once m (node n k (outer decl) sh ts) = rules_all-once m ts
    rules-once m (node n k (outer signature) sh ts) = omega arith
    rules-once m (node n k (outer rule) sh ts) = let a = times-append v (numbers_seq ts) [] in omega arith
    rules-once m (node n k (outer enum) sh ts) = rules_all-once m ts
    rules-once m (node n k (outer model) sh ts) =
        let a = rules_all-once (λ x. or_else (says_all img ts x) (m x)) ts in
        let b = times-append v (recorded_all ts) (visited_all ts) in
        omega arith

    rules_all-once : (m : ℕ → Option ℕ) (us : Trees) → times v (rule_numbers (rules_all img m us)) ≤ times v (visited_all us)
    rules_all-once m none = omega arith
    rules_all-once m (u ◂ us) =
        let a = rules-append (rules img m u) (rules_all img m us) in
        let b = times-append v (visited u) (visited_all us) in
        let c = rules-once m u in
        let d = rules_all-once m us in
        omega arith

module _ (img : List ℕ) (e : verdict img ≡ 0) where
  -- the declarations of the module
  abbrev pub lists : Trees
  lists = (root-of img e).lists

  -- the module's tree has each node once, and nothing else
  tree-times : (v : ℕ) → times v (last img ∷ nodes_all lists) ≤ 1
  unfolding nodes_of
  tree-times v =
      subst (λ (u : Tree). times v (nodes_of u) ≤ 1) (root-of img e).is (go (dec_lt v (nodes img)))
    where
      go : Dec (v < nodes img) → times v (nodes_of (tree_at img (last img))) ≤ 1
      go (yes l) = let a = once img e v l in omega arith
      go (no f) = let a = nothing-else img e v (omega arith) in omega arith

  tree-small : (v : ℕ) → 1 ≤ times v (last img ∷ nodes_all lists) → v < nodes img
  unfolding nodes_of
  tree-small v h =
      go (dec_lt v (nodes img)) (subst (λ (u : Tree). 1 ≤ times v (nodes_of u)) (sym (root-of img e).is) h)
    where
      go : Dec (v < nodes img) → 1 ≤ times v (nodes_of (tree_at img (last img))) → v < nodes img
      go (yes l) h = l
      go (no f) h = let a = nothing-else img e v (omega arith) in absurd (omega arith)

  marked-times : (v : ℕ) → times v (module_numbers (last img) lists) ≤ times v (last img ∷ nodes_all lists)
  unfolding times
  marked-times v = let a = times-append v (recorded_all lists) (visited_all lists) in let b = marked_all-once v lists in omega arith

  pub module-small : (v : ℕ) → In v (module_numbers (last img) lists) → v < nodes img
  module-small v i =
      let a = in-times v (module_numbers (last img) lists) i in
      let b = marked-times v in
      tree-small v (omega arith)

  pub module-distinct : Distinct (module_numbers (last img) lists)
  module-distinct = distinct-times (module_numbers (last img) lists) (λ v. let a = marked-times v in let b = tree-times v in omega arith)

  pub rules-are : module_rules img ≡ rules_all img (says_all img lists) lists
  unfolding module_rules rules_of
  rules-are = ap (rules_of img) (root-of img e).is

  rules-times : (v : ℕ) → times v (rule_numbers (module_rules img)) ≤ times v (last img ∷ nodes_all lists)
  unfolding times
  rules-times v =
      let a : times v (rule_numbers (module_rules img)) ≡ times v (rule_numbers (rules_all img (says_all img lists) lists)) = ap (λ (rs : List Rule). times v (rule_numbers rs)) rules-are in
      let b = rules_all-once img v (says_all img lists) lists in
      let c = marked_all-once v lists in
      omega arith

  -- each node stands once among the nodes of rules
  pub rule-nodes-once : (v : ℕ) → times v (rule_numbers (module_rules img)) ≤ 1
  rule-nodes-once v = let a = rules-times v in let b = tree-times v in omega arith
