-- The rows of the rules of declarations: what names mean outside does not matter, and what each kind of declaration adds.
use mathlib.Core.Path.{◌≡◌, refl, sym, ap, ap₂, subst, ◌∙◌}
use mathlib.Core.Bool.{false}
use mathlib.Core.List.{List, [], ◌∷◌, ◌++◌, append_assoc, append-nil}
use mathlib.Core.Option.{Option, none as nothing}
use Prim.Native.Nat.{ℕ, zero, suc, ◌+◌, ◌<◌, ◌≤◌}
use native.Mathlib.Omega.{arith}
use native.Mathlib.Nat.{add-zero}
use denote.Enum.Declared.{tag_of}
use types.Run.{OneOf, miss}
use lib.Dec.{eqb}
use lib.ListN.{length, get_or, length-append}
use Rattle.ast.specs.Image.{nodes, field, last}
use Rattle.ast.specs.Kinds.{outer, inner, root, decl, signature, rule, enum, model, Field, no_child, Kind, kind_of}
use Rattle.ast.specs.Tree.{Tree, node, block, Trees, none, ◌◂◌, ordered, tree_at}
use Rattle.ast.specs.Items.{items, below}
use Rattle.ast.specs.Is.{Is, kind_by}
use Rattle.ast.specs.Named.{const_decl_kind, ctor_decl_kind, decl_kind, enum_decl_kind, func_decl_kind, model_decl_kind, pred_decl_kind, rule_decl_kind, stmt_kind, type_decl_kind}
use Rattle.ast.specs.Tests.{verdict}
use Rattle.ast.proofs.Row.{append, append-none, Child, Items as RowItems, FormedFields, all_kids, next, ends, node_of}
use Rattle.ast.proofs.Shapes.{tree_of, row, child-is, case-kids, case-one, case-child, run-list, run-tail}
use Rattle.ast.proofs.Accepted.{sized}
use Rattle.typed.specs.Nodes.{decl_at}
use Rattle.typed.specs.RowShapes.{Listed, WordList}
use Rattle.typed.specs.declared.nodes.NodeList.{NodeList}
use Rattle.typed.specs.declared.nodes.Decl.{Decl}
use Rattle.typed.specs.declared.nodes.Decl.TheVariants as in_decl
use Rattle.typed.specs.contracts.nodes.Decl as Decls
use Rattle.typed.proofs.Enums.{DeclIs, decl-is}
use Rattle.typed.specs.declared.items.Items.{Items}
use Rattle.typed.specs.Items.{trees_of}
use Rattle.typed.proofs.Lists.{at-list, Within, begun, taken, none-left}
use Rattle.table.specs.Table.{Table}
use Rattle.rows.specs.declared.Rows.{Rows}
use Rattle.rows.specs.Rows.{Row, Appends}
use Rattle.scopes.proofs.Rooting.{root_is}
use Rattle.rows.proofs.Parts.{Left, left-start, left-next, left_end}
use Rattle.occurrences.specs.Spots.{spots, spots_seq}
use Rattle.ast.specs.Rules.{Rule, rules, rules_all, rules_of, module_rules}
use Rattle.occurrences.specs.Occurrences.{rows_for, rule_rows, all_rows, occurrence_rows, rows_by_rule}
use Rattle.occurrences.specs.Promises.{rows_at, rows_of, joined, lists_in, lists_at, lists_of, module_lists, ReadyRun, ReadyAll, Listing, ListingRun, ListingAll, Whole}
use Rattle.occurrences.proofs.CollectRows.{bare, rows_append, owner}
use Rattle.occurrences.proofs.CollectSteps.{left-count, Gave}

pub joined-append : (a b : List (List Row)) → joined (a ++ b) ≡ joined a ++ joined b
unfolding joined
joined-append [] b = refl
joined-append (l ∷ a) b = ap (λ (k : List Row). l ++ k) (joined-append a b) ∙ sym (append_assoc l (joined a) (joined b))

module _ (img : List ℕ) (t : Table) where
  all-joined : (rs : List Rule) → all_rows img t rs ≡ joined (rows_by_rule img t rs)
  unfolding all_rows joined rows_by_rule
  all-joined [] = refl
  all-joined (r ∷ rs) = ap (λ (k : List Row). rule_rows img t r ++ k) (all-joined rs)

  lists-append : (a b : List Rule) → rows_by_rule img t (a ++ b) ≡ rows_by_rule img t a ++ rows_by_rule img t b
  unfolding rows_by_rule
  lists-append [] b = refl
  lists-append (r ∷ a) b = ap (λ (k : List (List Row)). rule_rows img t r ∷ k) (lists-append a b)

  mutual
    unfolding rules rows_by_rule rule_rows

    free : (m k : ℕ → Option ℕ) (u : Tree) → rows_by_rule img t (rules img m u) ≡ rows_by_rule img t (rules img k u)
    free m k (block ts) = refl
    free m k (node n x (inner i) sh ts) = refl
    free m k (node n x (outer root) sh ts) = refl
    free m k (node n x (outer decl) sh ts) = free_all m k ts
    free m k (node n x (outer signature) sh ts) = refl
    free m k (node n x (outer rule) sh ts) = refl
    free m k (node n x (outer enum) sh ts) = free_all m k ts
    free m k (node n x (outer model) sh ts) = free_all _ _ ts

    free_all : (m k : ℕ → Option ℕ) (us : Trees) → rows_by_rule img t (rules_all img m us) ≡ rows_by_rule img t (rules_all img k us)
    free_all m k none = refl
    free_all m k (u ◂ us) =
        lists-append (rules img m u) (rules_all img m us) ∙ ap₂ ◌++◌ (free m k u) (free_all m k us) ∙ sym (lists-append (rules img k u) (rules_all img k us))

-- the declarations ---------------------------------------------------------------------------------------------------------
abbrev decl_kinds : List ℕ
decl_kinds = type_decl_kind ∷ pred_decl_kind ∷ func_decl_kind ∷ const_decl_kind ∷ rule_decl_kind ∷ enum_decl_kind ∷ model_decl_kind ∷ []

abbrev unmeant : ℕ → Option ℕ
unmeant x = nothing

module _ (img : List ℕ) (t : Table) where
  lists-none : (n j : ℕ) → lists_at img t n 0 j ≡ []
  unfolding lists_at items rules rows_by_rule
  lists-none n j = refl

  -- the lists of declarations one after another
  abbrev pub seq_lists : Trees → List (List Row)
  seq_lists us = rows_by_rule img t (rules_all img unmeant us)

  pub seq-lists-none : {us : Trees} → us ≡ none → seq_lists us ≡ []
  unfolding rules rows_by_rule
  seq-lists-none e = ap seq_lists e

  seq-lists-more : (x : ℕ) {us vs : Trees} → us ≡ tree_at img x ◂ vs → seq_lists us ≡ lists_in img t x ++ seq_lists vs
  unfolding lists_in rules
  seq-lists-more x {vs = vs} e = ap seq_lists e ∙ lists-append img t (rules img unmeant (tree_at img x)) (rules_all img unmeant vs)

  lists-more : (n c j : ℕ) → lists_at img t n (suc c) j ≡ lists_in img t (field img n j) ++ lists_at img t n c (j + 1)
  unfolding lists_at items
  lists-more n c j = seq-lists-more (field img n j) refl

  lists-one : (u : Tree) → rows_by_rule img t (rules_all img unmeant (u ◂ none)) ≡ rows_by_rule img t (rules img unmeant u)
  unfolding rules
  lists-one u = ap (rows_by_rule img t) (append-nil (rules img unmeant u))

  -- a declaration is that of its case
  decl-lists : {n : ℕ} → Is img (kind_of decl_kind) n → (x : ℕ) → x ≡ field img n 0 → eqb (get_or decl_kinds x no_child) no_child ≡ false → lists_in img t n ≡ lists_in img t (field img n 1)
  unfolding lists_in rules kind_of ordered node_of
  decl-lists {n} is x q s =
      ap (λ (u : Tree). rows_by_rule img t (rules img unmeant u)) (tree_of img is)
      ∙ sym (ap (λ (u : Tree). rows_by_rule img t (rules_all img unmeant (below u))) (tree_of img is))
      ∙ ap (λ (us : Trees). rows_by_rule img t (rules_all img unmeant us)) (case-kids img (outer decl) decl_kinds is (λ ts. refl) x q ∙ case-one img decl_kinds n x s)
      ∙ lists-one (tree_at img (field img n 1))

  -- a type, pred, func or const, or a constructor
  signature-none : {fs : List Field} {n : ℕ} → Is img (kind_by (outer signature) fs) n → lists_in img t n ≡ []
  unfolding lists_in rules rows_by_rule node_of
  signature-none is = ap (λ (u : Tree). rows_by_rule img t (rules img unmeant u)) (tree_of img is)

  ctors-none : {kd : Kind} {n : ℕ} → Is img kd n → (c j : ℕ) → RowItems img n ctor_decl_kind c j → lists_at img t n c j ≡ []
  unfolding kind_of
  ctors-none is zero j h = lists-none _ j
  ctors-none {n = n} is (suc c) j h =
      lists-more n c j
      ∙ ap₂ ◌++◌ (signature-none (child-is img is (subst (λ (k : ℕ). Child img n ctor_decl_kind (field img n k)) (add-zero j) (h 0 (omega arith)))))
      (ctors-none is c (j + 1) (λ i l. subst (λ (k : ℕ). Child img n ctor_decl_kind (field img n k)) (let z : j + suc i ≡ j + 1 + i = omega arith in z) (h (suc i) (omega arith))))

  enum-none : {n : ℕ} → Is img (kind_of enum_decl_kind) n → lists_in img t n ≡ []
  unfolding lists_in rules node_of kind_of all_kids ordered FormedFields next lists_at
  enum-none {n} is =
      ap (λ (u : Tree). rows_by_rule img t (rules img unmeant u)) (tree_of img is)
      ∙ ap (λ (us : Trees). rows_by_rule img t (rules_all img unmeant us)) (append-none (items img n (field img n 1) 2))
      ∙ ctors-none is (field img n 1) 2 (row img is).1.0

  -- a rule: its statements ---------------------------------------------------------------------------------------------------
  -- statements do not depend on the node above
  items-owner : {kd : Kind} {n : ℕ} → Is img kd n → (c j : ℕ) → RowItems img n stmt_kind c j → rows_for img t (spots_seq 0 (items img n c j)) ≡ rows_at img t n c j
  unfolding rows_at items spots kind_of bare
  items-owner is zero j h = refl
  items-owner {n = n} is (suc c) j h =
      let s = child-is img is (subst (λ (k : ℕ). Child img n stmt_kind (field img n k)) (add-zero j) (h 0 (omega arith))) in
      rows_append img t (spots 0 (tree_at img (field img n j))) (spots_seq 0 (items img n c (j + 1)))
      ∙ ap₂ ◌++◌ (owner img t s refl 0 ∙ sym (owner img t s refl n))
      (items-owner is c (j + 1) (λ i l. subst (λ (k : ℕ). Child img n stmt_kind (field img n k)) (let z : j + suc i ≡ j + 1 + i = omega arith in z) (h (suc i) (omega arith))))
      ∙ sym (rows_append img t (spots n (tree_at img (field img n j))) (spots_seq n (items img n c (j + 1))))

  rule-lists : {n : ℕ} → Is img (kind_of rule_decl_kind) n → lists_in img t n ≡ rows_for img t (spots_seq 0 (items img n (field img n 1) 2)) ∷ []
  unfolding lists_in rules node_of kind_of all_kids ordered next rows_by_rule rule_rows
  rule-lists {n} is =
      ap (λ (u : Tree). rows_by_rule img t (rules img unmeant u)) (tree_of img is)
      ∙ ap (λ (us : Trees). rows_for img t (spots_seq 0 us) ∷ []) (append-none (items img n (field img n 1) 2))

  -- a list of declarations ------------------------------------------------------------------------------------------------------
  model-lists : {n : ℕ} → Is img (kind_of model_decl_kind) n → lists_in img t n ≡ lists_at img t n (field img n 1) 2
  unfolding lists_in lists_at rules node_of kind_of all_kids ordered next
  model-lists {n} is =
      ap (λ (u : Tree). rows_by_rule img t (rules img unmeant u)) (tree_of img is)
      ∙ free_all img t _ unmeant (append (items img n (field img n 1) 2) none)
      ∙ ap (λ (us : Trees). rows_by_rule img t (rules_all img unmeant us)) (append-none (items img n (field img n 1) 2))

  -- the module --------------------------------------------------------------------------------------------------------------
  module-lists : verdict img ≡ 0 → rows_by_rule img t (module_rules img) ≡ lists_at img t (last img) (field img (last img) 0) 1
  unfolding module_rules rules_of lists_at node_of kind_of all_kids ordered
  module-lists e =
      ap (λ (u : Tree). rows_by_rule img t (rules_of img u)) (tree_of img (root_is img e))
      ∙ free_all img t _ unmeant (append (items img (last img) (field img (last img) 0) 1) none)
      ∙ ap (λ (us : Trees). rows_by_rule img t (rules_all img unmeant us)) (append-none (items img (last img) (field img (last img) 0) 1))

-- what the collectors of declarations ask and give
module _ (img : List ℕ) (t : Table) where
  pub record Declared (k n d c : ℕ) : Type 0 where
    pub low : d < n
    pub listing : Listing img t (kind_of k) d c
    pub whole : lists_in img t n ≡ lists_in img t d

  declared : {n d c : ℕ} → Listing img t (kind_of decl_kind) n c → (x : ℕ) → x ≡ field img n 0 → d ≡ field img n 1 → eqb (get_or decl_kinds x no_child) no_child ≡ false
      → Declared (get_or decl_kinds x no_child) n d c
  unfolding kind_of
  declared {n} {d} {c} p x q r s =
      let h : Child img n (get_or decl_kinds x no_child) d = case-child img (outer decl) decl_kinds p.is x d q r s in
      let w : lists_in img t n ≡ lists_in img t d = decl-lists img t p.is x q s ∙ ap (lists_in img t) (sym r) in
      record {
        low = h.below;
        listing = record { is = child-is img p.is h; few = subst (λ (l : List (List Row)). c + length (joined l) ≤ nodes img) w p.few };
        whole = w;
      }

  -- the case of a declaration: a rule, a model, or one without rules
  abbrev pub DeclCase : ℕ → ℕ → Decl → Type 0
  DeclCase n c (in_decl.Type i) = lists_in img t n ≡ []
  DeclCase n c (in_decl.Pred i) = lists_in img t n ≡ []
  DeclCase n c (in_decl.Func i) = lists_in img t n ≡ []
  DeclCase n c (in_decl.Const i) = lists_in img t n ≡ []
  DeclCase n c (in_decl.Rule i) = Declared rule_decl_kind n i.0.0 c
  DeclCase n c (in_decl.Enum i) = lists_in img t n ≡ []
  DeclCase n c (in_decl.Model i) = Declared model_decl_kind n i.0.0 c

  pub decl-case : {n c : ℕ} {o s : Decl} → Listing img t (kind_of decl_kind) n c → o ≡ decl_at img n → o ≡ s → DeclCase n c s
  unfolding kind_of
  decl-case {n} {c} {s = s} p q r = go s (decl-is img p.is q r)
    where
      go : (s : Decl) → DeclIs img n s → DeclCase n c s
      go (in_decl.Type i) h = let d = declared p 0 h.number h.child refl in d.whole ∙ signature-none img t d.listing.is
      go (in_decl.Pred i) h = let d = declared p 1 h.number h.child refl in d.whole ∙ signature-none img t d.listing.is
      go (in_decl.Func i) h = let d = declared p 2 h.number h.child refl in d.whole ∙ signature-none img t d.listing.is
      go (in_decl.Const i) h = let d = declared p 3 h.number h.child refl in d.whole ∙ signature-none img t d.listing.is
      go (in_decl.Rule i) h = declared p 4 h.number h.child refl
      go (in_decl.Enum i) h = let d = declared p 5 h.number h.child refl in d.whole ∙ enum-none img t d.listing.is
      go (in_decl.Model i) h = declared p 6 h.number h.child refl

  -- Type, Pred, Func, Const or Enum
  abbrev others : List ℕ
  others = 0 ∷ 1 ∷ 2 ∷ 3 ∷ 5 ∷ []

  pub decl-none : {n c : ℕ} {o : Decl} → Listing img t (kind_of decl_kind) n c → o ≡ decl_at img n → OneOf others (tag_of Decls.the_type o) → lists_in img t n ≡ []
  decl-none {n} {c} {o} p q k = go o refl k
    where
      go : (s : Decl) → o ≡ s → OneOf others (tag_of Decls.the_type s) → lists_in img t n ≡ []
      go (in_decl.Type i) r k = decl-case p q r
      go (in_decl.Pred i) r k = decl-case p q r
      go (in_decl.Func i) r k = decl-case p q r
      go (in_decl.Const i) r k = decl-case p q r
      go (in_decl.Rule i) r k = absurd (miss others 4 tt k)
      go (in_decl.Enum i) r k = decl-case p q r
      go (in_decl.Model i) r k = absurd (miss others 6 tt k)

  pub record RuleRun (n : ℕ) (l : NodeList) (c : ℕ) : Type 0 where
    pub run : ReadyAll img t stmt_kind l c
    pub single : lists_in img t n ≡ rows_of img t l ∷ []
    pub whole : joined (lists_in img t n) ≡ rows_of img t l

  pub rule_run : {n x c : ℕ} {l : NodeList} → Listing img t (kind_of rule_decl_kind) n c → WordList img n x l → RuleRun n l c
  unfolding kind_of FormedFields ends next joined
  rule_run {n} {c = c} {l} p q =
      record {
        run = at-list img (λ m j k. ReadyRun img t stmt_kind m j k c) q.list
            (record {
              run = run-tail img p.is refl refl;
              room = record { fits = (let f = subst (λ (k : List Row). c + length k ≤ nodes img) w p.few in let z = (sized img p.is.accepted).few_nodes in omega arith) };
            });
        single = at-list img (λ m j k. lists_in img t n ≡ rows_at img t m k j ∷ []) q.list s;
        whole = at-list img (λ m j k. joined (lists_in img t n) ≡ rows_at img t m k j) q.list w;
      }
    where
      s : lists_in img t n ≡ rows_at img t n (field img n 1) 2 ∷ []
      s = rule-lists img t p.is ∙ ap (λ (k : List Row). k ∷ []) (items-owner img t p.is (field img n 1) 2 (row img p.is).1.0)

      w : joined (lists_in img t n) ≡ rows_at img t n (field img n 1) 2
      w = ap joined s ∙ append-nil (rows_at img t n (field img n 1) 2)

  pub record ModelRun (n : ℕ) (l : NodeList) (c : ℕ) : Type 0 where
    pub node : l.node.0 ≡ n
    pub run : ListingAll img t l c
    pub whole : lists_in img t n ≡ lists_of img t l

  pub model_run : {n x c : ℕ} {l : NodeList} → Listing img t (kind_of model_decl_kind) n c → WordList img n x l → ModelRun n l c
  unfolding kind_of FormedFields ends next
  model_run {n} {c = c} {l} p q =
      let w = model-lists img t p.is in
      record {
        node = q.list.node;
        run = at-list img (λ m j k. ListingRun img t m j k c) q.list
            (record { run = run-tail img p.is refl refl; few = subst (λ (k : List (List Row)). c + length (joined k) ≤ nodes img) w p.few });
        whole = at-list img (λ m j k. lists_in img t n ≡ lists_at img t m k j) q.list w;
      }

-- the loops over lists of declarations
module _ {T : Type 0} (img : List ℕ) (t : Table) where
  -- a loop over what is left in s of the declarations below n, that appends the rows `whole`
  pub record DeclsLeft (n : ℕ) (whole : List Row) (s : Items T) (start now : Rows) : Type 0 where
    pub within : Within img decl_kind n s
    pub left : Left whole (joined (seq_lists img t (trees_of s))) start now

  pub decls-end : {n : ℕ} {whole : List Row} {s : Items T} {start now : Rows} → DeclsLeft n whole s start now → s.left.list.count ≡ 0 → Appends whole start now
  unfolding joined
  decls-end {s = s} p e = left_end p.left (ap joined (seq-lists-none img t (none-left s e)))

  -- a declaration x taken from what is left in s, where d rows stand before
  pub record DeclItem (n x d : ℕ) (s s2 : Items T) : Type 0 where
    pub low : x < n
    pub listing : Listing img t (kind_of decl_kind) x d
    pub rest : Within img decl_kind n s2
    pub more : seq_lists img t (trees_of s) ≡ lists_in img t x ++ seq_lists img t (trees_of s2)

  pub decl_item : {n x d : ℕ} {s s2 : Items T} → Within img decl_kind n s → Gave s x s2 → d + length (joined (seq_lists img t (trees_of s))) ≤ nodes img → DeclItem n x d s s2
  decl_item {n} {x} {d} {s = s} {s2} p o f =
      let g = taken p o.0 o.1 in
      let m = seq-lists-more img t x g.trees in
      record {
        low = g.low;
        listing = record {
          is = g.is;
          few = (let h = subst (λ (k : List Row). d + length k ≤ nodes img) (ap joined m ∙ joined-append (lists_in img t x) (seq_lists img t (trees_of s2))) f in let a = length-append (joined (lists_in img t x)) (joined (seq_lists img t (trees_of s2))) in omega arith);
        };
        rest = g.rest;
        more = m;
      }

  pub decls-start : {l : NodeList} {s begin : Items T} (rows : Rows) → begin ≡ s → ListingAll img t l rows.count → (s.image.now ≡ img) × (s.left.list ≡ l)
      → DeclsLeft l.node.0 (joined (lists_of img t l)) begin rows rows
  unfolding lists_at
  decls-start {l} rows e p h =
      let o = begun e refl p.run h in
      record { within = o.within; left = left-start rows (ap (λ (us : Trees). joined (seq_lists img t us)) o.trees) (let f = p.few in let z = (sized img p.run.accepted).few_nodes in omega arith) }

  pub decls-item : {x : ℕ} {l : NodeList} {s s2 : Items T} {start now : Rows} → ListingAll img t l start.count → DeclsLeft l.node.0 (joined (lists_of img t l)) s start now → Gave s x s2
      → DeclItem l.node.0 x now.count s s2
  decls-item p k o = decl_item k.within o (let e = left-count k.left in let f = p.few in omega arith)

  pub decls-next : {n x : ℕ} {whole : List Row} {s s2 : Items T} {start now next : Rows} → DeclsLeft n whole s start now → DeclItem n x now.count s s2 → Appends (joined (lists_in img t x)) now next
      → DeclsLeft n whole s2 start next
  decls-next {x = x} {s2 = s2} k o a =
      record { within = o.rest; left = left-next k.left (ap joined o.more ∙ joined-append (lists_in img t x) (seq_lists img t (trees_of s2))) a }

module _ (img : List ℕ) (t : Table) where
  pub record ModuleRun (l : NodeList) : Type 0 where
    pub run : ListingAll img t l 0
    pub by_rule : module_lists img t ≡ lists_of img t l
    pub whole : occurrence_rows img t ≡ joined (lists_of img t l)

  pub module_run : {n : ℕ} {l : NodeList} → Whole img t → n ≡ last img → Listed img n 0 l → ModuleRun l
  unfolding kind_of FormedFields ends next occurrence_rows
  module_run {n} {l} p e r =
      record {
        run = at-list img (λ m j k. ListingRun img t m j k 0) q
            (record { run = run-list img (root_is img p.accepted) refl; few = subst (λ (k : List Row). 0 + length k ≤ nodes img) w (let f = p.few in omega arith) });
        by_rule = at-list img (λ m j k. rows_by_rule img t (module_rules img) ≡ lists_at img t m k j) q b;
        whole = at-list img (λ m j k. occurrence_rows img t ≡ joined (lists_at img t m k j)) q w;
      }
    where
      q : Listed img (last img) 0 l
      q = subst (λ (x : ℕ). Listed img x 0 l) e r

      b : rows_by_rule img t (module_rules img) ≡ lists_at img t (last img) (field img (last img) 0) 1
      b = module-lists img t p.accepted

      w : occurrence_rows img t ≡ joined (lists_at img t (last img) (field img (last img) 0) 1)
      w = all-joined img t (module_rules img) ∙ ap joined b
