-- Two images that differ in name words of IdentTerms only: where one is accepted so is the other, and their trees are the same.
use mathlib.Core.Bool.{Bool, true, false}
use mathlib.Core.Path.{◌≡◌, refl, sym, ap, ap₂, ◌∙◌, subst, fun_ext}
use mathlib.Core.List.{List, [], ◌∷◌, ◌++◌}
use Prim.Native.Nat.{ℕ, zero, suc, ◌+◌, ◌<◌, ◌≤◌}
use native.Mathlib.Decide.{ℕ_discrete, dec_lt}
use native.Mathlib.Nat.{add-zero}
use native.Mathlib.Omega.{arith}
use lib.Dec.{T, eqb}
use lib.ListN.{length}
use borrow.Author.Tests.{lt-ltb, le-ltb, eq-eqb, ne_eqb}
use Rattle.ast.specs.Image.{nodes, operands, names, bytes, last, kind_at, start_at, op_at, name_start, name_end, name_bytes}
use Rattle.ast.specs.Kinds.{Field, kinds, kind_of}
use Rattle.ast.specs.Named.{ident_term_kind}
use Rattle.ast.specs.Rows.{Kid, numbers, after, after_fields, fields_at, row_end, kids, shape, kids_to}
use Rattle.ast.specs.Tests.{end_before, test_var, verdict}
use Rattle.ast.specs.Tree.{Tree, node, block, none, ordered, grow, class_at, tree_to, tree_at}
use Rattle.ast.proofs.Accepted.{sized, named, formed, last-below}
use Rattle.ast.proofs.Count.{parents}
use Rattle.ast.proofs.Formed.{FormedNode, Formed}
use Rattle.ast.proofs.RowNames.{field-on, fields-on}
use Rattle.ast.proofs.Vars.{every-kind}
use Rattle.accepting.specs.Moved.{field_words, fields_words}
use Rattle.accepting.proofs.Accepting.{Acceptable, vars-of}
use Rattle.accepting.proofs.Accepting as accepting
use Rattle.accepting.proofs.RowsHeld.{At, at-place, at-none, at-cons, at-same, fields-length, keep, kids-kept, fields-kept}
use Rattle.accepting.proofs.Standing.{Stands, Orderly, kids-same, shape-same, end-same, node-formed, var-held}

-- an image beside another: it differs in name words of IdentTerms only, and these are name numbers
pub record Alike (img img' : List ℕ) : Type 0 where
  pub long : length img' ≡ length img
  pub nodes-are : nodes img' ≡ nodes img
  pub operands-are : operands img' ≡ operands img
  pub names-are : names img' ≡ names img
  pub bytes-are : bytes img' ≡ bytes img
  pub kinds : (n : ℕ) → n < nodes img → kind_at img' n ≡ kind_at img n
  pub starts : (n : ℕ) → n < nodes img → start_at img' n ≡ start_at img n
  pub words : (n : ℕ) → n < nodes img → (kind_at img n ≡ ident_term_kind → ⊥) → (p : ℕ) → start_at img n ≤ p → p < row_end img n → op_at img' p ≡ op_at img p
  pub named : (n : ℕ) → n < nodes img → kind_at img n ≡ ident_term_kind → op_at img' (start_at img n + 2) < names img
  pub ends : (i : ℕ) → name_end img' i ≡ name_end img i
  pub spelt : (i : ℕ) → i < names img → name_bytes img' i ≡ name_bytes img i

-- a node of kind k, over the trees t of its children
made : (n k : ℕ) → List ℕ → (ℕ → Tree) → List Kid → Tree
made n k sh t ks = node n k (kind_of k).class sh (ordered (kind_of k).class (grow t ks))

made-same : (n : ℕ) {k k' : ℕ} {sh sh' : List ℕ} {t t' : ℕ → Tree} {ks ks' : List Kid} → k ≡ k' → sh ≡ sh' → t ≡ t' → ks ≡ ks' → made n k sh t ks ≡ made n k' sh' t' ks'
made-same n a b c d = cc

tree-in : (img : List ℕ) (d n : ℕ) → n < nodes img → tree_to img (suc d) n ≡ made n (kind_at img n) (shape img n) (tree_to img d) (kids img n)
unfolding tree_to made class_at
tree-in img d n h = rw (lt-ltb _ _ h, tree_to)

tree-out : (img : List ℕ) (d n : ℕ) → nodes img ≤ n → tree_to img (suc d) n ≡ block none
unfolding tree_to
tree-out img d n h = rw (le-ltb _ _ h, tree_to)

-- every kind has a field
some_field : List Field → Bool
some_field [] = false
some_field (g ∷ gs) = true

every-field : (k : ℕ) → k ≤ 40 → T (some_field (kind_of k).fields)
unfolding some_field kinds
every-field k l = every-kind (λ j kd. some_field kd.fields) tt k l

some-field : (img : List ℕ) (gs : List Field) (p : ℕ) → T (some_field gs) → p < after_fields img gs p
unfolding some_field after_fields
some-field img [] p t = absurd t
some-field img (g ∷ gs) p t = let a = field-on img g p in let b = fields-on img gs (after img g p) in omega arith

-- the first word of a row after its location lies in it
pub first-in : (img : List ℕ) → verdict img ≡ 0 → (n : ℕ) → n < nodes img → start_at img n + 2 < row_end img n
unfolding row_end fields_at
first-in img accepted n h = some-field img (fields_at img n) (start_at img n + 2) (every-field (kind_at img n) ((formed img accepted).each n h).kind)

module _ (img img' : List ℕ) (accepted : verdict img ≡ 0) (a : Alike img img') where
  f : Formed img
  f = formed img accepted

  -- the names of a row by their new numbers: those of an IdentTerm
  new_name : ℕ → ℕ → ℕ
  new_name n x = elim (eqb (kind_at img n) ident_term_kind) [ true ↦ op_at img' (start_at img n + 2) | false ↦ x ]

  row_named : ℕ → Bool → ℕ → ℕ
  row_named n b x = elim b [ true ↦ op_at img' (start_at img n + 2) | false ↦ x ]

  names-new : (n : ℕ) → kind_at img n ≡ ident_term_kind → new_name n ≡ (λ x. op_at img' (start_at img n + 2))
  unfolding new_name row_named
  names-new n e = ap (row_named n) (eq-eqb _ _ e)

  names-kept : (n : ℕ) → (kind_at img n ≡ ident_term_kind → ⊥) → new_name n ≡ keep
  unfolding new_name row_named
  names-kept n z = ap (row_named n) (ne_eqb _ _ z)

  module _ (n : ℕ) (h : n < nodes img) where
    abbrev place : ℕ
    place = start_at img n + 2

    -- the fields of the row of n in img'
    abbrev Fields : (ℕ → ℕ) → Type 0
    Fields g = At img' place (fields_words img keep g (fields_at img n) place)

    ident-fields : kind_at img n ≡ ident_term_kind → Fields (λ x. op_at img' place)
    unfolding fields_at kind_of kinds fields_words field_words
    ident-fields e = subst (λ k. At img' place (fields_words img keep (λ x. op_at img' place) (kind_of k).fields place)) (sym e) (at-cons img' refl (at-none img'))

    other-fields : (kind_at img n ≡ ident_term_kind → ⊥) → Fields keep
    unfolding row_end
    other-fields z =
        let l = fields-length img' img keep keep (fields_at img n) place in
        at-same img' img (fields-kept img (fields_at img n) place) (λ j i. a.words n h z (place + j) (omega arith) (omega arith))

    fields-at : Fields (new_name n)
    fields-at = go (ℕ_discrete (kind_at img n) ident_term_kind)
      where
        go : Dec (kind_at img n ≡ ident_term_kind) → Fields (new_name n)
        go (yes e) = subst Fields (sym (names-new n e)) (ident-fields e)
        go (no z) = subst Fields (sym (names-kept n z)) (other-fields z)

    name-below : (x : ℕ) → x < names img → new_name n x < names img'
    name-below x l = go (ℕ_discrete (kind_at img n) ident_term_kind)
      where
        go : Dec (kind_at img n ≡ ident_term_kind) → new_name n x < names img'
        go (yes e) = let q = ap (λ (g : ℕ → ℕ). g x) (names-new n e) in let i = a.named n h e in let c = a.names-are in omega arith
        go (no z) = let q = ap (λ (g : ℕ → ℕ). g x) (names-kept n z) in let c = a.names-are in omega arith

  -- every node of img stands in img'
  stands : Stands img' img keep new_name 0 (nodes img)
  stands =
      record {
        inside = λ n h. rw a.nodes-are h;
        kind = a.kinds;
        start = λ n h. a.starts n h ∙ sym (add-zero (start_at img n));
        row = λ n h. at-place img' (ap (λ p. p + 2) (sym (a.starts n h))) (fields-at n h);
      }

  orderly : Orderly img' img keep new_name 0 (nodes img)
  orderly = record { rises = λ c n h. h; names = name-below; room = λ n h. let l = (f.each n h).end in let c = a.operands-are in omega arith }

  module _ (n : ℕ) (h : n < nodes img) where
    end-is : row_end img' n ≡ row_end img n
    end-is = end-same img' img keep new_name 0 (nodes img) stands n h ∙ add-zero (row_end img n)

    kids-alike : kids img' n ≡ kids img n
    kids-alike = kids-same img' img keep new_name 0 (nodes img) stands n h ∙ kids-kept (kids img n)

    shapes-alike : shape img' n ≡ shape img n
    shapes-alike = shape-same img' img keep new_name 0 (nodes img) stands n h

  -- the last nodes
  pub last-same : last img' ≡ last img
  unfolding last
  last-same = rw a.nodes-are

  before-same : (n : ℕ) → n < nodes img → end_before img' n ≡ end_before img n
  unfolding end_before
  before-same zero h = refl
  before-same (suc n) h = end-is n (omega arith)

  node-is : (n : ℕ) → n < nodes img → FormedNode img' n
  node-is n h = node-formed img' img keep new_name 0 (nodes img) stands f (omega arith) orderly n h (a.starts n h ∙ (f.each n h).start ∙ sym (before-same n h))

  kids_to-same : (m : ℕ) → m ≤ nodes img → kids_to img' m ≡ kids_to img m
  unfolding kids_to
  kids_to-same zero h = refl
  kids_to-same (suc m) h = ap₂ (λ (l : List ℕ) (k : List Kid). l ++ numbers k) (kids_to-same m (omega arith)) (kids-alike m (omega arith))

  -- the same trees
  trees-same : (d n : ℕ) → tree_to img' d n ≡ tree_to img d n
  unfolding tree_to
  trees-same zero n = refl
  trees-same (suc d) n = go (dec_lt n (nodes img)) (fun_ext (trees-same d))
    where
      go : Dec (n < nodes img) → tree_to img' d ≡ tree_to img d → tree_to img' (suc d) n ≡ tree_to img (suc d) n
      go (yes h) e =
          let k = a.kinds n h in
          tree-in img' d n (rw a.nodes-are h)
          ∙ made-same n k (shapes-alike n h) e (kids-alike n h)
          ∙ sym (tree-in img d n h)
      go (no h) e = tree-out img' d n (let z = a.nodes-are in omega arith) ∙ sym (tree-out img d n (omega arith))

  -- the tree of each node is the same
  pub tree-same : (n : ℕ) → tree_at img' n ≡ tree_at img n
  unfolding tree_at
  tree-same n = trees-same (suc n) n

  vars-pass : (n : ℕ) → n < nodes img → test_var img' n ≡ 0
  vars-pass n h = var-held img' img keep new_name 0 (nodes img) stands f (omega arith) orderly n h (vars-of img accepted n h)

  names-same : (i : ℕ) → name_start img' i ≡ name_start img i
  unfolding name_start
  names-same zero = refl
  names-same (suc i) = a.ends i

  -- and the one is accepted where the other is
  acceptable : Acceptable img'
  acceptable =
      let s = sized img accepted in
      let z = named img accepted in
      record {
        sized = record {
          head = rw a.long s.head;
          some = rw a.nodes-are s.some;
          few_nodes = rw a.nodes-are s.few_nodes;
          few_operands = rw a.operands-are s.few_operands;
          few_names = rw a.names-are s.few_names;
          few_bytes = rw a.bytes-are s.few_bytes;
          exact = rw (a.long, a.nodes-are, a.operands-are, a.names-are, a.bytes-are) s.exact;
        };
        named = record {
          rising_all = record {
            rises = λ i l. rw (names-same i, a.ends i) (z.rising_all.rises i (rw a.names-are at l));
            ends = rw (a.names-are, a.bytes-are) (names-same (names img) ∙ z.rising_all.ends);
          };
          differ = λ i j l k e. z.differ i j (rw a.names-are at l) k (sym (a.spelt j (let q = a.names-are in omega arith)) ∙ e ∙ a.spelt i (rw a.names-are at l));
        };
        formed = record {
          each = λ n l. node-is n (rw a.nodes-are at l);
          fills = rw (last-same, a.operands-are) (end-is (last img) (last-below img accepted) ∙ f.fills);
          root = rw last-same (a.kinds (last img) (last-below img accepted) ∙ f.root);
        };
        parents = λ v l. rw (a.nodes-are, kids_to-same (nodes img) (omega arith)) (parents img accepted v (rw last-same at l));
        vars = λ n l. vars-pass n (rw a.nodes-are at l);
      }

  pub alike-accepted : verdict img' ≡ 0
  alike-accepted = accepting.accepted img' acceptable
