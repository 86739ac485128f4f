-- Rename, on its definition: the new image is accepted, has the old one's tree and kinds, and all names but those of the IdentTerms
-- under the binding's occurrences.
use mathlib.Core.Bool.{Bool, true, false}
use mathlib.Core.Path.{◌≡◌, refl, sym, ap, ap₂, ◌∙◌, subst}
use mathlib.Core.Logic.{◌⊎◌, inl, inr, ◌≢◌}
use mathlib.Core.List.{List, [], ◌∷◌}
use Prim.Native.Nat.{ℕ, zero, suc, ◌+◌, ◌*◌, ◌-◌, ◌^◌, ◌<◌, ◌≤◌}
use native.Mathlib.Decide.{ℕ_discrete, dec_lt}
use native.Mathlib.Nat.{add-zero}
use native.Mathlib.Omega.{arith}
use lib.Dec.{eqb}
use lib.ListN.{take}
use borrow.Author.Tests.{eqb-true, eq-eqb}
use Rattle.ast.specs.Image.{word, nodes, operands, names, bytes, last, kind_at, start_at, op_at, field, name_of, bytes_place, name_start, name_end, name_bytes}
use Rattle.ast.specs.Kinds.{Class, outer, inner, kinds, kind_of}
use Rattle.ast.specs.Named.{ident_term_kind}
use Rattle.ast.specs.Rows.{row_end, fields_at, after, after_fields}
use Rattle.ast.specs.Rules.{module_rules}
use Rattle.ast.specs.Tests.{end_before, verdict}
use Rattle.ast.specs.Tree.{class_at, tree_at}
use Rattle.ast.proofs.Acceptance.{row_words, name_below}
use Rattle.ast.proofs.Accepted.{sized, formed, last-below}
use Rattle.ast.proofs.Formed.{FormedFields, FormedField}
use Rattle.ast.proofs.Unfold.{tree_at-is, row_of}
use Rattle.ast.proofs.Vars.{Everywhere, everywhere}
use Rattle.ast.proofs.Words.{name-plain}
use Rattle.rows.specs.Rows.{Row}
use Rattle.scopes.specs.Twice.{declared_twice}
use Rattle.sight.specs.Sight.{In}
use Rattle.meaning.specs.Meaning.{marks_in}
use Rattle.renaming.specs.Bytes.{Bytes}
use Rattle.rename.specs.Rename.{set_words, ident_of, name_offset, offsets, renamed}
use Rattle.renaming.proofs.Stores.{member, Spaced, stores-length, stores-other, stores-drop, words-other, words-at, stores-onto, stores-bytes}
use Rattle.renaming.proofs.Alike.{Alike, alike-accepted, tree-same, last-same, first-in}
use Rattle.renaming.proofs.Under.{rows-under}
use Rattle.renaming.proofs.Names.{Named, NamedBy, twice-same, module-same}

module _ (img : List ℕ) (i : ℕ) where
  -- the row of the binding i whose name word stands at an offset
  abbrev RowOf : List Row → ℕ → Type 0
  RowOf l o = (w : Row) × In w l × (w.right ≡ i) × (o ≡ name_offset img (ident_of img w.left))

  offset-row : (l : List Row) (o : ℕ) → In o (offsets img i l) → RowOf l o
  unfolding offsets
  offset-row [] o h = absurd h
  offset-row (w ∷ l) o h = go (eqb w.right i) refl h (offset-row l o)
    where
      more : RowOf l o → RowOf (w ∷ l) o
      more r = (r.0, inr r.1, r.2, r.3)

      go : (b : Bool) → eqb w.right i ≡ b → In o (elim b [ true ↦ name_offset img (ident_of img w.left) ∷ offsets img i l | false ↦ offsets img i l ])
          → (In o (offsets img i l) → RowOf l o) → RowOf (w ∷ l) o
      go true q (inl e) f = (w, inl refl, eqb-true _ _ q, e)
      go true q (inr k) f = more (f k)
      go false q k f = more (f k)

  row-offset : (l : List Row) (w : Row) → In w l → w.right ≡ i → In (name_offset img (ident_of img w.left)) (offsets img i l)
  unfolding offsets
  row-offset [] w h e = absurd h
  row-offset (v ∷ l) w h e = go (eqb v.right i) refl h (row-offset l w)
    where
      o : ℕ
      o = name_offset img (ident_of img w.left)

      go : (b : Bool) → eqb v.right i ≡ b → In w (v ∷ l) → (In w l → w.right ≡ i → In (name_offset img (ident_of img w.left)) (offsets img i l))
          → In (name_offset img (ident_of img w.left)) (elim b [ true ↦ name_offset img (ident_of img v.left) ∷ offsets img i l | false ↦ offsets img i l ])
      go true q (inl z) f = inl (ap (λ (u : Row). name_offset img (ident_of img u.left)) z)
      go true q (inr k) f = inr (f k e)
      go false q (inl z) f = let y : true ≡ false = sym (eq-eqb v.right i (ap (λ (u : Row). u.right) (sym z) ∙ e)) ∙ q in cc
      go false q (inr k) f = f k e

-- rows follow one another
module _ (img : List ℕ) (accepted : verdict img ≡ 0) where
  rows-apart : (m n : ℕ) → m < n → n < nodes img → row_end img m ≤ start_at img n
  unfolding end_before
  rows-apart m zero l h = absurd (omega arith)
  rows-apart m (suc k) l h = go (dec_lt m k) (λ d. rows-apart m k d (omega arith))
    where
      start : start_at img (suc k) ≡ row_end img k
      start = (row_words img accepted (suc k) h).0

      go : Dec (m < k) → (m < k → row_end img m ≤ start_at img k) → row_end img m ≤ start_at img (suc k)
      go (yes d) r = let a = r d in let b = row_words img accepted k (omega arith) in let c = b.1 in rw start (omega arith)
      go (no d) r = let q : m ≡ k = omega arith in rw (start, q) (omega arith)

  -- the row of an IdentTerm: two location words and the name
  ident-end : (m : ℕ) → kind_at img m ≡ ident_term_kind → row_end img m ≡ start_at img m + 2 + 1
  unfolding kind_of after_fields after row_end fields_at
  ident-end m e = ap (λ k. after_fields img (kind_of k).fields (start_at img m + 2)) e

  -- its name word lies in no other row
  name-apart : (m n : ℕ) → m < nodes img → n < nodes img → kind_at img m ≡ ident_term_kind → (m ≡ n → ⊥)
      → (p : ℕ) → start_at img n ≤ p → p < row_end img n → p ≡ start_at img m + 2 → ⊥
  name-apart m n h k e z p a b q = go (dec_lt m n) (dec_lt n m)
    where
      go : Dec (m < n) → Dec (n < m) → ⊥
      go (yes l) d = let r = rows-apart m n l k in let s = ident-end m e in omega arith
      go (no l) (yes d) = let r = rows-apart n m d h in omega arith
      go (no l) (no d) = z (omega arith)

  module _ (i x : ℕ) (below : x < names img) where
    abbrev os : List ℕ
    os = offsets img i (marks_in img)

    abbrev new : List ℕ
    new = renamed img (marks_in img) i x

    abbrev N : ℕ
    N = nodes img

    -- where the stored words lie
    record NameWord (o : ℕ) : Type 0 where
      node : ℕ
      low : node < N
      ident : kind_at img node ≡ ident_term_kind
      is : o ≡ 16 + 8 * N + 4 * (start_at img node + 2)
      end : start_at img node + 3 ≤ operands img
      row : (w : Row) × In w (marks_in img) × (w.right ≡ i) × (ident_of img w.left ≡ node)

    name-word : (o : ℕ) → In o os → NameWord o
    name-word o h =
        let r = offset-row img i (marks_in img) o h in
        let w = r.0 in
        let u = rows-under img accepted w r.1 in
        let m = ident_of img w.left in
        let e = ident-end m u.kind in
        let l = (row_words img accepted m u.low).2 in
        record { node = m; low = u.low; ident = u.kind; is = r.3; end = omega arith; row = (w, r.1, r.2, refl) }

    spaced : Spaced img os
    spaced =
        record {
          fits = λ o h. let s = name-word o h in let z = (sized img accepted).exact in let a = s.end in let b = s.is in omega arith;
          apart = λ o q h k. let s = name-word o h in let t = name-word q k in let b = s.is in let c = t.is in three-ways o q (start_at img s.node) (start_at img t.node) b c;
        }
      where
        three-ways : (o q a b : ℕ) → o ≡ 16 + 8 * N + 4 * (a + 2) → q ≡ 16 + 8 * N + 4 * (b + 2) → (o ≡ q) ⊎ ((o + 4 ≤ q) ⊎ (q + 4 ≤ o))
        three-ways o q a b e f = go (dec_lt a b) (dec_lt b a)
          where
            go : Dec (a < b) → Dec (b < a) → (o ≡ q) ⊎ ((o + 4 ≤ q) ⊎ (q + 4 ≤ o))
            go (yes l) d = inr (inl (omega arith))
            go (no l) (yes d) = inr (inr (omega arith))
            go (no l) (no d) = inl (omega arith)

    -- words before the operand words, and after them
    word-before : (o : ℕ) → o + 4 ≤ 16 + 8 * N → word new o ≡ word img o
    unfolding renamed
    word-before o h = words-other x os img o (λ q k. let s = name-word q k in let e = s.is in inl (omega arith))

    word-after : (o : ℕ) → 16 + 8 * N + 4 * operands img ≤ o → word new o ≡ word img o
    unfolding renamed
    word-after o h = words-other x os img o (λ q k. let s = name-word q k in let e = s.is in let l = s.end in inr (omega arith))

    nodes-are : nodes new ≡ N
    unfolding nodes
    nodes-are = word-before 0 (omega arith)

    operands-are : operands new ≡ operands img
    unfolding operands
    operands-are = word-before 4 (omega arith)

    names-are : names new ≡ names img
    unfolding names
    names-are = word-before 8 (omega arith)

    bytes-are : bytes new ≡ bytes img
    unfolding bytes
    bytes-are = word-before 12 (omega arith)

    kinds-are : (n : ℕ) → n < N → kind_at new n ≡ kind_at img n
    unfolding kind_at
    kinds-are n h = word-before (16 + 4 * n) (omega arith)

    starts-are : (n : ℕ) → n < N → start_at new n ≡ start_at img n
    unfolding start_at
    starts-are n h = rw nodes-are (word-before (16 + 4 * N + 4 * n) (omega arith))

    ends-are : (j : ℕ) → name_end new j ≡ name_end img j
    unfolding name_end
    ends-are j = rw (nodes-are, operands-are) (word-after (16 + 8 * N + 4 * operands img + 4 * j) (omega arith))

    starts-names : (j : ℕ) → name_start new j ≡ name_start img j
    unfolding name_start
    starts-names zero = refl
    starts-names (suc j) = ends-are j

    spelt : (j : ℕ) → name_bytes new j ≡ name_bytes img j
    unfolding name_bytes renamed
    spelt j =
        rw (ends-are j, starts-names j, nodes-are, operands-are, names-are)
        (ap (take (name_end img j - name_start img j)) (stores-drop x os img (bytes_place img + name_start img j) (λ o k. let s = name-word o k in let e = s.is in let l = s.end in omega arith)))

    -- an operand word that is no name word of ours
    op-other : (p : ℕ) → ((o : ℕ) → In o os → o ≡ 16 + 8 * N + 4 * p → ⊥) → op_at new p ≡ op_at img p
    unfolding op_at renamed
    op-other p h = rw nodes-are (words-other x os img (16 + 8 * N + 4 * p) (λ q k. let s = name-word q k in apart q (start_at img s.node) s.is (h q k)))
      where
        apart : (q a : ℕ) → q ≡ 16 + 8 * N + 4 * (a + 2) → (q ≡ 16 + 8 * N + 4 * p → ⊥) → (16 + 8 * N + 4 * p + 4 ≤ q) ⊎ (q + 4 ≤ 16 + 8 * N + 4 * p)
        apart q a e z = go (dec_lt p (a + 2))
          where
            go : Dec (p < a + 2) → (16 + 8 * N + 4 * p + 4 ≤ q) ⊎ (q + 4 ≤ 16 + 8 * N + 4 * p)
            go (yes l) = inl (omega arith)
            go (no l) = inr (let w : q ≢ 16 + 8 * N + 4 * p = z in omega arith)

    op-ours : (p : ℕ) → In (16 + 8 * N + 4 * p) os → op_at new p ≡ x
    unfolding op_at renamed
    op-ours p k = rw nodes-are (words-at x os img spaced (16 + 8 * N + 4 * p) k)

    -- no row of the binding has the IdentTerm n
    abbrev Kept : ℕ → Type 0
    Kept n = (w : Row) → In w (marks_in img) → w.right ≡ i → ident_of img w.left ≡ n → ⊥

    row-kept : (n : ℕ) → n < N → Kept n → (p : ℕ) → start_at img n ≤ p → p < row_end img n → op_at new p ≡ op_at img p
    row-kept n h z p a b =
        op-other p (λ o k e.
        let s = name-word o k in
        let r = s.row in
        let q = s.is in
        name-apart s.node n s.low h s.ident (λ y. z r.0 r.1 r.2 (r.3 ∙ y)) p a b (omega arith))

    not-ident : (n : ℕ) → (kind_at img n ≡ ident_term_kind → ⊥) → Kept n
    not-ident n z w k e q = z (subst (λ m. kind_at img m ≡ ident_term_kind) q (rows-under img accepted w k).kind)

    name-below : (n : ℕ) → n < N → kind_at img n ≡ ident_term_kind → op_at new (start_at img n + 2) < names img
    unfolding FormedFields FormedField kind_of kinds
    name-below n h e = go (member (16 + 8 * N + 4 * (start_at img n + 2)) os)
      where
        go : Dec (In (16 + 8 * N + 4 * (start_at img n + 2)) os) → op_at new (start_at img n + 2) < names img
        go (yes k) = rw (op-ours (start_at img n + 2) k) below
        go (no z) = rw (op-other (start_at img n + 2) (λ o k q. z (subst (λ y. In y os) q k))) (row_of img (formed img accepted) n h ident_term_kind e).1

    -- the new image differs in these name words only
    pub renamed-alike : Alike img new
    unfolding renamed
    renamed-alike =
        record {
          long = stores-length x os img;
          nodes-are = nodes-are;
          operands-are = operands-are;
          names-are = names-are;
          bytes-are = bytes-are;
          kinds = kinds-are;
          starts = starts-are;
          words = λ n h z. row-kept n h (not-ident n z);
          named = name-below;
          ends = ends-are;
          spelt = λ j l. spelt j;
        }

    -- it is accepted
    pub renamed-accepted : verdict new ≡ 0
    renamed-accepted = alike-accepted img new accepted renamed-alike

    -- each node has the same tree
    pub renamed-tree : (n : ℕ) → tree_at new n ≡ tree_at img n
    renamed-tree = tree-same img new accepted renamed-alike

    -- and the same kind
    pub renamed-kind : (n : ℕ) → n < N → kind_at new n ≡ kind_at img n
    renamed-kind = kinds-are

    -- the IdentTerms under the binding's occurrences have the new name, all other nodes keep theirs
    pub renamed-name : (w : Row) → In w (marks_in img) → w.right ≡ i → name_of new (ident_of img w.left) ≡ x
    unfolding field
    renamed-name w k e =
        let m = ident_of img w.left in
        let u = rows-under img accepted w k in
        let q = kinds-are m u.low ∙ u.kind in
        name-plain new m (λ z. omega arith) (λ z. omega arith)
        ∙ rw (starts-are m u.low) (rw add-zero (op-ours (start_at img m + 2) (row-offset img i (marks_in img) w k e)))

    pub other-names : (n : ℕ) → n < N → Kept n → name_of new n ≡ name_of img n
    unfolding name_of
    other-names n h z =
        ap₂ (λ (k w : ℕ). elim (eqb k 6) as (λ b. ℕ) [ true ↦ w - 1 | false ↦ elim (eqb k 10) as (λ b. ℕ) [ true ↦ w - 1 | false ↦ w ] ]) (kinds-are n h) first-word
      where
        first-word : field new n 0 ≡ field img n 0
        first-word = unfold field in rw (starts-are n h, add-zero) (row-kept n h z (start_at img n + 2) (omega arith) (first-in img accepted n h))

    -- declarations keep their names: no list declares a name twice that did not before, and the rules are the same
    decl-named : (n : ℕ) → n < N → Named img new (tree_at img n)
    unfolding class_at kind_of
    decl-named n h = subst (Named img new) (sym (tree_at-is img (formed img accepted) n h)) (go (ℕ_discrete (kind_at img n) ident_term_kind))
      where
        kept : (c : Class) → name_of new n ≡ name_of img n → NamedBy img new c n
        kept (outer o) e = e
        kept (inner c) e = tt

        go : Dec (kind_at img n ≡ ident_term_kind) → NamedBy img new (class_at img n) n
        go (yes e) = subst (λ k. NamedBy img new (kind_of k).class n) (sym e) tt
        go (no z) = kept (class_at img n) (other-names n h (not-ident n z))

    decls-named : Everywhere (Named img new) (tree_at img (last img))
    decls-named = everywhere (Named img new) img (formed img accepted) decl-named (last img) (last-below img accepted)

    root-same : tree_at new (last new) ≡ tree_at img (last img)
    root-same = ap (tree_at new) (last-same img new accepted renamed-alike) ∙ renamed-tree (last img)

    -- some list declares a name twice exactly if one of the old image does
    pub renamed-twice : declared_twice new ≡ declared_twice img
    renamed-twice = twice-same img new root-same decls-named

    -- the rules are the same, and what names mean outside them
    pub renamed-rules : module_rules new ≡ module_rules img
    renamed-rules = module-same img new root-same decls-named

    -- the word of a case's child lies in no IdentTerm's row
    second-word : (n : ℕ) → n < N → field new n 1 ≡ field img n 1
    unfolding field
    second-word n h =
        rw (starts-are n h) (op-other (start_at img n + 2 + 1) (λ o k e. let s = name-word o k in let q = s.is in apart s.node s.low s.ident (omega arith)))
      where
        apart : (m : ℕ) → m < N → kind_at img m ≡ ident_term_kind → start_at img n + 2 + 1 ≡ start_at img m + 2 → ⊥
        apart m l e q = go (dec_lt m n) (dec_lt n m)
          where
            go : Dec (m < n) → Dec (n < m) → ⊥
            go (yes d) c = let r = rows-apart m n d h in let s = ident-end m e in omega arith
            go (no d) (yes c) = let r = rows-apart n m c l in let t = (row_words img accepted n h).1 in omega arith
            go (no d) (no c) = let z : m ≡ n = omega arith in let y : start_at img m ≡ start_at img n = rw z in omega arith

    -- renaming back, where the list is the same
    offset-same : (w : Row) → In w (marks_in img) → name_offset new (ident_of new w.left) ≡ name_offset img (ident_of img w.left)
    offset-same w k =
        let u = rows-under img accepted w k in
        let e : ident_of new w.left ≡ ident_of img w.left = second-word w.left u.over in
        rw (nodes-are, e, starts-are (ident_of img w.left) u.low)

    offsets-same : (l : List Row) → ((w : Row) → In w l → name_offset new (ident_of new w.left) ≡ name_offset img (ident_of img w.left)) → offsets new i l ≡ offsets img i l
    unfolding offsets
    offsets-same [] h = refl
    offsets-same (w ∷ l) h = go (eqb w.right i) (offsets-same l (λ v k. h v (inr k)))
      where
        go : (b : Bool) → offsets new i l ≡ offsets img i l
            → ◌≡◌ {A = List ℕ} (elim b [ true ↦ name_offset new (ident_of new w.left) ∷ offsets new i l | false ↦ offsets new i l ])
            (elim b [ true ↦ name_offset img (ident_of img w.left) ∷ offsets img i l | false ↦ offsets img i l ])
        go true e = ap₂ ◌∷◌ (h w (inl refl)) e
        go false e = e

    old-word : (o : ℕ) → In o os → word img o ≡ name_of img i
    unfolding field op_at
    old-word o k =
        let s = name-word o k in
        let r = s.row in
        let u = rows-under img accepted r.0 r.1 in
        let q = s.ident in
        let e : word img (16 + 8 * N + 4 * (start_at img s.node + 2)) ≡ field img s.node 0 = rw add-zero refl in
        rw s.is (e ∙ sym (name-plain img s.node (λ z. omega arith) (λ z. omega arith)) ∙ ap (name_of img) (sym r.3) ∙ u.name ∙ ap (name_of img) r.2)

    pub renamed-back : Bytes img → marks_in new ≡ marks_in img → renamed new (marks_in new) i (name_of img i) ≡ img
    unfolding renamed
    renamed-back b e =
        ap (λ (l : List ℕ). set_words l (name_of img i) new) (ap (offsets new i) e ∙ offsets-same (marks_in img) offset-same)
        ∙ stores-onto os img (set_words os x img) (name_of img i) spaced b old-word (stores-length x os img) (stores-other x os img)

  -- renaming to its own name copies the image
  pub renamed-own : (i : ℕ) → name_of img i < names img → Bytes img → renamed img (marks_in img) i (name_of img i) ≡ img
  unfolding renamed
  renamed-own i l b = stores-onto (os i (name_of img i) l) img img (name_of img i) (spaced i (name_of img i) l) b (old-word i (name_of img i) l) refl (λ k f. refl)

  -- the name of a binding is a name number
  pub name-low : (i : ℕ) (w : Row) → In w (marks_in img) → w.right ≡ i → name_of img i < names img
  unfolding fields_at kind_of kinds
  name-low i w k e =
      let u = rows-under img accepted w k in
      let m = ident_of img w.left in
      let q : name_of img m ≡ name_of img i = u.name ∙ ap (name_of img) e in
      rw q at (name_below img accepted m u.low [] (ap (λ j. (kind_of j).fields) u.kind))

-- the new image is made of bytes
pub renamed-bytes : (img : List ℕ) → Bytes img → (i x : ℕ) → x < 2 ^ 32 → Bytes (renamed img (marks_in img) i x)
unfolding renamed
renamed-bytes img b i x l = stores-bytes (offsets img i (marks_in img)) img x l b
