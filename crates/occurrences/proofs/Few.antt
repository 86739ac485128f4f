-- Bounds that the calls need, by the size of the tree alone: no more rows than nodes, and every row is of two nodes.
use mathlib.Core.Path.{◌≡◌, refl, sym, ap, subst}
use mathlib.Core.Bool.{Bool, true, false}
use mathlib.Core.List.{List, [], ◌∷◌, ◌++◌}
use mathlib.Core.Option.{Option, none as nothing, some}
use Prim.Native.Nat.{ℕ, suc, ◌+◌, ◌<◌, ◌≤◌}
use native.Mathlib.Omega.{arith}
use native.Mathlib.Decide.{dec_lt}
use lib.Dec.{leb}
use lib.ListN.{length, length-append}
use Rattle.ast.specs.Declarations.{or_else}
use Rattle.ast.specs.Image.{nodes, last}
use Rattle.ast.specs.Kinds.{outer, inner, root, decl, signature, rule, enum, model, plain, term, ident, head, head_member, member, case, if_var, defined_then, arg}
use Rattle.ast.specs.Tests.{times, verdict}
use Rattle.ast.specs.Tree.{Tree, node, block, Trees, none, ◌◂◌, tree_at, size, sizes}
use Rattle.ast.proofs.Accepted.{sized}
use Rattle.ast.proofs.Count.{nodes_of, nodes_all, is_same, nothing-else, tree-size}
use Rattle.ast.proofs.Unfold.{All, nil, cons, All-append, All-split}
use Rattle.table.specs.Table.{Table, is_var}
use Rattle.rows.specs.Rows.{Row, row}
use Rattle.occurrences.specs.Spots.{Spot, spots, spots_seq, spots_back, spots_first, rule_spots}
use Rattle.ast.specs.Rules.{Rule, says_all, rules, rules_all, rules_of, module_rules}
use Rattle.occurrences.specs.Occurrences.{found, listed, rows_for, rule_rows, all_rows, occurrence_rows, lone_in, lone, rows_by_rule, times_bound}
use Rattle.occurrences.specs.Promises.{Nodes}
use Rattle.table.proofs.Below.{lookup-low}

-- no more spots than nodes -----------------------------------------------------------------------------------------------
mutual
  unfolding spots size

  spots-few : (o : ℕ) (u : Tree) → length (spots o u) ≤ size u
  spots-few o (block ts) = seq-few o ts
  spots-few o (node n k (outer c) sh ts) = omega arith
  spots-few o (node n k (inner plain) sh ts) = let a = seq-few n ts in omega arith
  spots-few o (node n k (inner term) sh ts) = let a = seq-few n ts in omega arith
  spots-few o (node n k (inner ident) sh ts) = omega arith
  spots-few o (node n k (inner head) sh ts) = let a = seq-few n ts in omega arith
  spots-few o (node n k (inner head_member) sh ts) = let a = first-few n ts in omega arith
  spots-few o (node n k (inner member) sh ts) = let a = first-few n ts in omega arith
  spots-few o (node n k (inner case) sh ts) = let a = seq-few n ts in omega arith
  spots-few o (node n k (inner if_var) sh ts) = let a = seq-few n ts in omega arith
  spots-few o (node n k (inner defined_then) sh ts) = let a = back-few n ts in omega arith
  spots-few o (node n k (inner arg) sh ts) = omega arith

  seq-few : (o : ℕ) (us : Trees) → length (spots_seq o us) ≤ sizes us
  seq-few o none = omega arith
  seq-few o (u ◂ us) =
      let a = spots-few o u in
      let b = seq-few o us in
      let c = length-append (spots o u) (spots_seq o us) in
      omega arith

  back-few : (o : ℕ) (us : Trees) → length (spots_back o us) ≤ sizes us
  back-few o none = omega arith
  back-few o (u ◂ us) =
      let a = spots-few o u in
      let b = seq-few o us in
      let c = length-append (spots_seq o us) (spots o u) in
      omega arith

  first-few : (o : ℕ) (us : Trees) → length (spots_first o us) ≤ sizes us
  first-few o none = omega arith
  first-few o (u ◂ us) = let a = spots-few o u in omega arith

-- the nodes of spots are nodes of the tree, or the one above -----------------------------------------------------------------
abbrev pub owners : List Spot → List ℕ
owners [] = []
owners (s ∷ l) = s.node ∷ owners l

pub owners-join : (l k : List Spot) → owners (l ++ k) ≡ owners l ++ owners k
owners-join [] k = refl
owners-join (s ∷ l) k = ap (λ (ns : List ℕ). s.node ∷ ns) (owners-join l k)

module _ {P : ℕ → Type 0} where
  joined-all : (l k : List Spot) → All P (owners l) → All P (owners k) → All P (owners (l ++ k))
  joined-all l k a b = subst (All P) (sym (owners-join l k)) (All-append a b)

  mutual
    unfolding spots nodes_of

    owners_of : (o : ℕ) (u : Tree) → P o → All P (nodes_of u) → All P (owners (spots o u))
    owners_of o (block ts) h a = owners-seq o ts h a
    owners_of o (node n k (outer c) sh ts) h a = nil
    owners_of o (node n k (inner plain) sh ts) h (cons b a) = owners-seq n ts b a
    owners_of o (node n k (inner term) sh ts) h (cons b a) = owners-seq n ts b a
    owners_of o (node n k (inner ident) sh ts) h a = cons h nil
    owners_of o (node n k (inner head) sh ts) h (cons b a) = owners-seq n ts b a
    owners_of o (node n k (inner head_member) sh ts) h (cons b a) = owners-first n ts b a
    owners_of o (node n k (inner member) sh ts) h (cons b a) = owners-first n ts b a
    owners_of o (node n k (inner case) sh ts) h (cons b a) = owners-seq n ts b a
    owners_of o (node n k (inner if_var) sh ts) h (cons b a) = owners-seq n ts b a
    owners_of o (node n k (inner defined_then) sh ts) h (cons b a) = owners-back n ts b a
    owners_of o (node n k (inner arg) sh ts) h a = nil

    owners-seq : (o : ℕ) (us : Trees) → P o → All P (nodes_all us) → All P (owners (spots_seq o us))
    owners-seq o none h a = nil
    owners-seq o (u ◂ us) h a =
        let s = All-split (nodes_of u) a in
        joined-all (spots o u) (spots_seq o us) (owners_of o u h s.0) (owners-seq o us h s.1)

    owners-back : (o : ℕ) (us : Trees) → P o → All P (nodes_all us) → All P (owners (spots_back o us))
    owners-back o none h a = nil
    owners-back o (u ◂ us) h a =
        let s = All-split (nodes_of u) a in
        joined-all (spots_seq o us) (spots o u) (owners-seq o us h s.1) (owners_of o u h s.0)

    owners-first : (o : ℕ) (us : Trees) → P o → All P (nodes_all us) → All P (owners (spots_first o us))
    owners-first o none h a = nil
    owners-first o (u ◂ us) h a = owners_of o u h (All-split (nodes_of u) a).0

-- the rows ---------------------------------------------------------------------------------------------------------------
module _ (img : List ℕ) (t : Table) where
  listed-few : (n : ℕ) (o : Option ℕ) (l : List Row) → length (listed img t n o l) ≤ suc (length l)
  unfolding listed
  listed-few n nothing l = omega arith
  listed-few n (some i) l = go (is_var img (some i))
    where
      go : (b : Bool) → length {A = Row} (elim b as (λ _. List Row) [ true ↦ row n i ∷ l | false ↦ l ]) ≤ suc (length l)
      go true = omega arith
      go false = omega arith

  for-few : (l : List Spot) → length (rows_for img t l) ≤ length l
  unfolding rows_for
  for-few [] = omega arith
  for-few (s ∷ l) = let a = for-few l in let b = listed-few s.node (found img t s) (rows_for img t l) in omega arith

  rule-few : (r : Rule) → length (rule_rows img t r) ≤ sizes r.statements
  unfolding rule_rows rule_spots
  rule-few r = let a = for-few (rule_spots r.statements) in let b = seq-few 0 r.statements in omega arith

  all_append : (rs qs : List Rule) → length (all_rows img t (rs ++ qs)) ≡ length (all_rows img t rs) + length (all_rows img t qs)
  unfolding all_rows
  all_append [] qs = omega arith
  all_append (r ∷ rs) qs =
      let a = length-append (rule_rows img t r) (all_rows img t (rs ++ qs)) in
      let b = length-append (rule_rows img t r) (all_rows img t rs) in
      let c = all_append rs qs in
      omega arith

  mutual
    unfolding rules size all_rows

    rules-few : (m : ℕ → Option ℕ) (u : Tree) → length (all_rows img t (rules img m u)) ≤ size u
    rules-few m (block ts) = omega arith
    rules-few m (node n k (inner i) sh ts) = omega arith
    rules-few m (node n k (outer root) sh ts) = omega arith
    rules-few m (node n k (outer decl) sh ts) = let a = rules_all-few m ts in omega arith
    rules-few m (node n k (outer signature) sh ts) = omega arith
    rules-few m (node n k (outer rule) sh ts) =
        let r : Rule = record { statements = ts; meaning = m } in
        let a = rule-few r in
        let b = length-append (rule_rows img t r) [] in
        omega arith
    rules-few m (node n k (outer enum) sh ts) = let a = rules_all-few m ts in omega arith
    rules-few m (node n k (outer model) sh ts) = let a = rules_all-few (λ x. or_else (says_all img ts x) (m x)) ts in omega arith

    rules_all-few : (m : ℕ → Option ℕ) (us : Trees) → length (all_rows img t (rules_all img m us)) ≤ sizes us
    rules_all-few m none = omega arith
    rules_all-few m (u ◂ us) =
        let a = all_append (rules img m u) (rules_all img m us) in
        let c = rules-few m u in
        let d = rules_all-few m us in
        omega arith

  module-few : (u : Tree) → length (all_rows img t (rules_of img u)) ≤ size u
  unfolding rules_of size all_rows
  module-few (block ts) = omega arith
  module-few (node n k c sh ts) = let a = rules_all-few (says_all img ts) ts in omega arith

  -- no more rows than nodes: no row is dropped
  pub rows_few : verdict img ≡ 0 → length (occurrence_rows img t) ≤ nodes img
  unfolding occurrence_rows module_rules
  rows_few e = let a = module-few (tree_at img (last img)) in let b = tree-size img e in omega arith

-- both numbers of a row are nodes ------------------------------------------------------------------------------------------
-- a number that never stands in a list is none of it
below_all : (N : ℕ) (ns : List ℕ) → ((v : ℕ) → N ≤ v → times v ns ≡ 0) → All (λ v. v < N) ns
unfolding times
below_all N [] f = nil
below_all N (n ∷ ns) f = cons (go (dec_lt n N)) (below_all N ns (λ v l. let a = f v l in omega arith))
  where
    go : Dec (n < N) → n < N
    go (yes l) = l
    go (no g) = let a = f n (omega arith) in let b = is_same n in absurd (omega arith)

pub data Each (P : Row → Type 0) : List Row → Type 0 where
  empty : Each P []
  more : {w : Row} {l : List Row} → P w → Each P l → Each P (w ∷ l)

lone-in : {P : Row → Type 0} (all left : List Row) (w : Row) → lone_in all left ≡ some w → Each P left → P w
unfolding lone_in
lone-in all [] w e h = absurd (let z : ◌≡◌ {A = ℕ} 0 1 = cc in omega arith)
lone-in {P} all (v ∷ left) w e (more p h) = go (leb 2 (times_bound v.right all)) e (λ q. lone-in all left w q h)
  where
    go : (c : Bool) → elim c [ true ↦ lone_in all left | false ↦ some v ] ≡ some w → (lone_in all left ≡ some w → P w) → P w
    go true q r = r q
    go false q r = let z : w ≡ v = cc in subst P (sym z) p

module _ (img : List ℕ) (t : Table) (symbols : Nodes img t) where
  abbrev pub Below : Row → Type 0
  Below w = (w.left < nodes img) × (w.right < nodes img)

  listed_below : (n : ℕ) (o : Option ℕ) (l : List Row) → n < nodes img → ((m : ℕ) → o ≡ some m → m < nodes img) → Each Below l → Each Below (listed img t n o l)
  unfolding listed
  listed_below n nothing l h f a = a
  listed_below n (some i) l h f a = go (is_var img (some i))
    where
      go : (b : Bool) → Each Below (elim b as (λ _. List Row) [ true ↦ row n i ∷ l | false ↦ l ])
      go true = more (h, f i refl) a
      go false = a

  rows-below : (l : List Spot) → All (λ v. v < nodes img) (owners l) → Each Below (rows_for img t l)
  unfolding rows_for
  rows-below [] a = empty
  rows-below (s ∷ l) (cons h a) = listed_below s.node (found img t s) (rows_for img t l) h (lookup-low img t symbols _ _) (rows-below l a)

  -- the first lone row of some rules, each of whose nodes are below N
  pub data Within : List Rule → Type 0 where
    end : Within []
    next : {r : Rule} {rs : List Rule} → All (λ v. v < nodes img) (nodes_all r.statements) → Within rs → Within (r ∷ rs)

  within-append : {rs qs : List Rule} → Within rs → Within qs → Within (rs ++ qs)
  within-append end k = k
  within-append (next a h) k = next a (within-append h k)

  mutual
    unfolding rules nodes_of

    within-rules : (m : ℕ → Option ℕ) (u : Tree) → All (λ v. v < nodes img) (nodes_of u) → Within (rules img m u)
    within-rules m (block ts) a = end
    within-rules m (node n k (inner i) sh ts) a = end
    within-rules m (node n k (outer root) sh ts) a = end
    within-rules m (node n k (outer decl) sh ts) (cons h a) = within_all m ts a
    within-rules m (node n k (outer signature) sh ts) a = end
    within-rules m (node n k (outer rule) sh ts) (cons h a) = next a end
    within-rules m (node n k (outer enum) sh ts) (cons h a) = within_all m ts a
    within-rules m (node n k (outer model) sh ts) (cons h a) = within_all (λ x. or_else (says_all img ts x) (m x)) ts a

    within_all : (m : ℕ → Option ℕ) (us : Trees) → All (λ v. v < nodes img) (nodes_all us) → Within (rules_all img m us)
    within_all m none a = end
    within_all m (u ◂ us) a =
        let s = All-split (nodes_of u) a in
        within-append (within-rules m u s.0) (within_all m us s.1)

  within-module : (u : Tree) → All (λ v. v < nodes img) (nodes_of u) → Within (rules_of img u)
  unfolding rules_of nodes_of
  within-module (block ts) a = end
  within-module (node n k c sh ts) (cons h a) = within_all (says_all img ts) ts a

  lone-within : 0 < nodes img → (rs : List Rule) → Within rs → (w : Row) → lone (rows_by_rule img t rs) ≡ some w → Below w
  unfolding lone rows_by_rule rule_rows rule_spots
  lone-within z [] h w e = absurd (let y : ◌≡◌ {A = ℕ} 0 1 = cc in omega arith)
  lone-within z (r ∷ rs) (next a h) w e = go (lone_in (rule_rows img t r) (rule_rows img t r)) refl e (λ q. lone-within z rs h w q)
    where
      each : Each Below (rule_rows img t r)
      each = rows-below (rule_spots r.statements) (owners-seq 0 r.statements z a)

      go : (o : Option Row) → lone_in (rule_rows img t r) (rule_rows img t r) ≡ o → elim o [ nothing ↦ lone (rows_by_rule img t rs) | some v ↦ some v ] ≡ some w
          → (lone (rows_by_rule img t rs) ≡ some w → Below w) → Below w
      go nothing p q f = f q
      go (some v) p q f = lone-in {P = Below} (rule_rows img t r) (rule_rows img t r) w (subst (λ (o : Option Row). lone_in (rule_rows img t r) (rule_rows img t r) ≡ o) q p) each

  -- a lone occurrence and its binding are below N
  pub lone_below : verdict img ≡ 0 → (w : Row) → lone (rows_by_rule img t (module_rules img)) ≡ some w → Below w
  unfolding module_rules
  lone_below e w q =
      lone-within (let s = (sized img e).some in omega arith) (module_rules img)
      (within-module (tree_at img (last img)) (below_all (nodes img) (nodes_of (tree_at img (last img))) (nothing-else img e))) w q
