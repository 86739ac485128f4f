-- Nodes of an accepted image that stand in another image, with new numbers for nodes and names: there too their rows are formed,
-- have the same shape, hold the children with their new numbers, and pass the test of refusal 12.
use mathlib.Core.Bool.{Bool, true, false}
use mathlib.Core.Path.{◌≡◌, refl, sym, ap, ◌∙◌, subst}
use mathlib.Core.List.{List, [], ◌∷◌, map}
use Prim.Native.Nat.{ℕ, zero, suc, ◌+◌, ◌<◌, ◌≤◌}
use native.Mathlib.Nat.{add-zero}
use native.Mathlib.Omega.{arith}
use lib.Dec.{T, eqb, leb, eqb→eq}
use lib.ListN.{length, get_or, length-append}
use Rattle.ast.specs.Image.{nodes, operands, names, kind_at, start_at, op_at}
use Rattle.ast.specs.Kinds.{Field, name, opt_name, child, opt_child, list, lists, cases, no_child, kinds, kind_of}
use Rattle.ast.specs.Rows.{ops_from, after, after_fields, fields_kids, fields_shape, fields_at, row_end, kids, shape}
use Rattle.ast.specs.Tests.{need, end_before, first, is_var, test_var}
use Rattle.ast.proofs.Formed.{Child, Items, FormedBlocks, FormedField, FormedFields, FormedNode, Formed}
use Rattle.ast.proofs.Unfold.{row_of}
use Rattle.accepting.specs.Moved.{optional, block_words, field_words, fields_words}
use Rattle.accepting.proofs.RowsHeld.{new_kid, At, at-first, at-rest, at-left, at-right, at-place, field-held, fields-held, moved-length, fields-length}

ops-get : (img : List ℕ) (r : ℕ → ℕ) (c p j : ℕ) → j < c → get_or (map r (ops_from img c p)) j 0 ≡ r (op_at img (p + j))
unfolding ops_from
ops-get img r zero p j h = absurd (omega arith)
ops-get img r (suc c) p zero h = ap (λ z. r (op_at img z)) (sym (add-zero p))
ops-get img r (suc c) p (suc j) h = ops-get img r c (p + 1) j (omega arith) ∙ ap (λ z. r (op_at img z)) (omega arith)

-- the first m nodes of img stand in J, the node n as r n, its row q places on, the names in it by f n
pub record Stands (J img : List ℕ) (r : ℕ → ℕ) (f : ℕ → ℕ → ℕ) (q m : ℕ) : Type 0 where
  pub inside : (n : ℕ) → n < m → r n < nodes J
  pub kind : (n : ℕ) → n < m → kind_at J (r n) ≡ kind_at img n
  pub start : (n : ℕ) → n < m → start_at J (r n) ≡ start_at img n + q
  pub row : (n : ℕ) → n < m → At J (start_at J (r n) + 2) (fields_words img r (f n) (fields_at img n) (start_at img n + 2))

-- new numbers rise, new names are names, and the rows have room
pub record Orderly (J img : List ℕ) (r : ℕ → ℕ) (f : ℕ → ℕ → ℕ) (q m : ℕ) : Type 0 where
  pub rises : (c n : ℕ) → c < n → r c < r n
  pub names : (n : ℕ) → n < m → (x : ℕ) → x < names img → f n x < names J
  pub room : (n : ℕ) → n < m → row_end img n + q ≤ operands J

module _ (J img : List ℕ) (r : ℕ → ℕ) (f : ℕ → ℕ → ℕ) (q m : ℕ) (s : Stands J img r f q m) (n : ℕ) (below : n < m) where
  -- what the node n is there: its fields, its children with their new numbers, and its shape
  pub fields-same : fields_at J (r n) ≡ fields_at img n
  unfolding fields_at
  fields-same = ap (λ k. (kind_of k).fields) (s.kind n below)

  pub kids-same : kids J (r n) ≡ map (new_kid r) (kids img n)
  unfolding kids
  kids-same =
      ap (λ gs. fields_kids J gs (start_at J (r n) + 2)) fields-same ∙ (fields-held J img r (f n) (fields_at img n) (start_at img n + 2) (start_at J (r n) + 2) (s.row n below)).kids

  pub shape-same : shape J (r n) ≡ shape img n
  unfolding shape
  shape-same =
      ap (λ gs. fields_shape J gs (start_at J (r n) + 2)) fields-same ∙ (fields-held J img r (f n) (fields_at img n) (start_at img n + 2) (start_at J (r n) + 2) (s.row n below)).shape

  -- the row ends as far on as it starts
  pub end-same : row_end J (r n) ≡ row_end img n + q
  unfolding row_end
  end-same =
      let a = (fields-held J img r (f n) (fields_at img n) (start_at img n + 2) (start_at J (r n) + 2) (s.row n below)).end in
      let b = fields-length J img r (f n) (fields_at img n) (start_at img n + 2) in
      let t = s.start n below in
      ap (λ gs. after_fields J gs (start_at J (r n) + 2)) fields-same ∙ (omega arith)

module _ (J img : List ℕ) (r : ℕ → ℕ) (f : ℕ → ℕ → ℕ) (q m : ℕ) (s : Stands J img r f q m) (rows : Formed img) (within : m ≤ nodes img) (o : Orderly J img r f q m) where
  module _ (n : ℕ) (below : n < m) where
    child-held : (k c : ℕ) → Child img n k c → Child J (r n) k (r c)
    child-held k c h = (o.rises c n h.0, s.kind c (let b = h.0 in omega arith) ∙ h.1)

    word-held : (k c p' : ℕ) → op_at J p' ≡ r c → Child img n k c → Child J (r n) k (op_at J p')
    word-held k c p' e h = subst (Child J (r n) k) (sym e) (child-held k c h)

    items-held : (k c p p' : ℕ) → At J p' (map r (ops_from img c p)) → Items img n k c p → Items J (r n) k c p'
    items-held k c p p' a h j b =
        word-held k (op_at img (p + j)) (p' + j) (a.reads j (let l = moved-length J img r (f n) c p in omega arith) ∙ ops-get img r c p j b) (h j b)

    blocks-held : (k c p p' : ℕ) → At J p' (block_words img r (f n) c p) → FormedBlocks img n k c p → p' + length (block_words img r (f n) c p) ≤ operands J → FormedBlocks J (r n) k c p'
    unfolding FormedBlocks block_words
    blocks-held k zero p p' a h l = tt
    blocks-held k (suc c) p p' a h l =
        let w = op_at img p in
        let items = map r (ops_from img w (p + 1)) in
        let more = block_words img r (f n) c (p + 1 + w) in
        let b = moved-length J img r (f n) w (p + 1) in
        let t = length-append items more in
        subst (λ z. (p' + 1 + z ≤ operands J) × Items J (r n) k z (p' + 1) × FormedBlocks J (r n) k c (p' + 1 + z)) (sym (at-first J a)) (
          omega arith,
          items-held k w (p + 1) (p' + 1) (at-left J items more (at-rest J a)) h.1,
          blocks-held k c (p + 1 + w) (p' + 1 + w) (at-place J (ap (λ z. p' + 1 + z) b) (at-right J items more (at-rest J a))) h.2 (omega arith),
        )

    option-held : (k w : ℕ) → elim w as (λ x. Type 0) [ zero ↦ Unit {0} | suc c ↦ Child img n k c ]
        → elim (optional r w) as (λ x. Type 0) [ zero ↦ Unit {0} | suc c ↦ Child J (r n) k c ]
    unfolding optional
    option-held k zero h = tt
    option-held k (suc c) h = child-held k c h

    optional-below : (w : ℕ) → w ≤ names img → optional (f n) w ≤ names J
    unfolding optional
    optional-below zero h = omega arith
    optional-below (suc x) h = let a = o.names n below x (omega arith) in omega arith

    case-held : (b : Bool) (k c x p' : ℕ) → elim b as (λ z. Type 0) [ true ↦ Unit {0} | false ↦ Child img n k c ] → At J p' (x ∷ elim b [ true ↦ [] | false ↦ r c ∷ [] ])
        → elim b as (λ z. Type 0) [ true ↦ Unit {0} | false ↦ Child J (r n) k (op_at J (p' + 1)) ]
    case-held true k c x p' h a = tt
    case-held false k c x p' h a = word-held k c (p' + 1) (at-first J (at-rest J a)) h

    field-formed : (g : Field) (p p' : ℕ) → At J p' (field_words img r (f n) g p) → FormedField img n g p
        → p' + length (field_words img r (f n) g p) ≤ operands J → FormedField J (r n) g p'
    unfolding FormedField field_words
    field-formed name p p' a h l = let e = at-first J a in let b = o.names n below (op_at img p) h in omega arith
    field-formed opt_name p p' a h l = let e = at-first J a in let b = optional-below (op_at img p) h in omega arith
    field-formed (child k) p p' a h l = word-held k (op_at img p) p' (at-first J a) h
    field-formed (opt_child k) p p' a h l =
        subst (λ z. elim z as (λ x. Type 0) [ zero ↦ Unit {0} | suc c ↦ Child J (r n) k c ]) (sym (at-first J a)) (option-held k (op_at img p) h)
    field-formed (list k) p p' a h l = subst (λ z. Items J (r n) k z (p' + 1)) (sym (at-first J a)) (items-held k (op_at img p) (p + 1) (p' + 1) (at-rest J a) h)
    field-formed (lists k) p p' a h l =
        subst (λ z. FormedBlocks J (r n) k z (p' + 1)) (sym (at-first J a)) (blocks-held k (op_at img p) (p + 1) (p' + 1) (at-rest J a) h (omega arith))
    field-formed (cases ks) p p' a h l =
        let w = op_at img p in
        subst (λ z. (z < length ks) × elim (eqb (get_or ks z no_child) no_child) as (λ b. Type 0) [ true ↦ Unit {0} | false ↦ Child J (r n) (get_or ks z no_child) (op_at J (p' + 1)) ])
        (sym (at-first J a)) (h.0, case-held (eqb (get_or ks w no_child) no_child) (get_or ks w no_child) (op_at img (p + 1)) w p' h.1 a)

    fields-formed : (gs : List Field) (p p' : ℕ) → At J p' (fields_words img r (f n) gs p) → FormedFields img n gs p
        → p' + length (fields_words img r (f n) gs p) ≤ operands J → FormedFields J (r n) gs p'
    unfolding FormedFields fields_words
    fields-formed [] p p' a h l = tt
    fields-formed (g ∷ gs) p p' a h l =
        let here = field_words img r (f n) g p in
        let rest = fields_words img r (f n) gs (after img g p) in
        let t = length-append here rest in
        let e = (field-held J img r (f n) g p p' (at-left J here rest a)).next in (
          omega arith,
          field-formed g p p' (at-left J here rest a) h.1 (omega arith),
          fields-formed gs (after img g p) (after J g p') (at-place J (sym e) (at-right J here rest a)) h.2 (omega arith),
        )

    inside : n < nodes img
    inside = omega arith

    -- its row is formed there, where it starts at the end of the row before
    pub node-formed : start_at J (r n) ≡ end_before J (r n) → FormedNode J (r n)
    unfolding row_end
    node-formed e =
        let g = rows.each n inside in
        let b = end-same J img r f q m s n below in
        let c = o.room n below in
        let d = fields-length J img r (f n) (fields_at img n) (start_at img n + 2) in
        let t = s.start n below in
        record {
          kind = (let k = s.kind n below in let l = g.kind in omega arith);
          start = e;
          end = omega arith;
          row = subst (λ gs. FormedFields J (r n) gs (start_at J (r n) + 2)) (sym (fields-same J img r f q m s n below))
              (fields-formed (fields_at img n) (start_at img n + 2) (start_at J (r n) + 2) (s.row n below) g.row (omega arith));
        }

    -- the first word of a row
    first-is : (w : ℕ) (ws : List ℕ) → fields_words img r (f n) (fields_at img n) (start_at img n + 2) ≡ w ∷ ws → first J (r n) ≡ w
    unfolding first
    first-is w ws e = at-first J (subst (At J (start_at J (r n) + 2)) e (s.row n below))

    first-case : kind_at img n ≡ 12 → first J (r n) ≡ first img n
    unfolding first fields_at kind_of kinds fields_words field_words
    first-case e = first-is _ _ (ap (λ k. fields_words img r (f n) ((kind_of k).fields) (start_at img n + 2)) e)

    first-child : kind_at img n ≡ 33 → first J (r n) ≡ r (first img n)
    unfolding first fields_at kind_of kinds fields_words field_words
    first-child e = first-is _ _ (ap (λ k. fields_words img r (f n) ((kind_of k).fields) (start_at img n + 2)) e)

    first-option : kind_at img n ≡ 34 → first J (r n) ≡ optional r (first img n)
    unfolding first fields_at kind_of kinds fields_words field_words
    first-option e = first-is _ _ (ap (λ k. fields_words img r (f n) ((kind_of k).fields) (start_at img n + 2)) e)

    term-below : kind_at img n ≡ 33 → Child img n 12 (first img n)
    unfolding first kind_of kinds FormedFields FormedField
    term-below e = (row_of img rows n inside 33 e).1

    option-child : kind_at img n ≡ 34 → elim (first img n) as (λ x. Type 0) [ zero ↦ Unit {0} | suc c ↦ Child img n 12 c ]
    unfolding first kind_of kinds FormedFields FormedField
    option-child e = (row_of img rows n inside 34 e).1

  -- terms of case Ident or Wildcard stay such
  is_var-held : (n c : ℕ) → n < m → Child img n 12 c → is_var img c ≡ 0 → is_var J (r c) ≡ 0
  unfolding is_var
  is_var-held n c below h e = ap (λ z. need 12 (leb z 1)) (first-case c (let a = h.0 in omega arith) h.1) ∙ e

  option-var : (n w : ℕ) → n < m → elim w as (λ x. Type 0) [ zero ↦ Unit {0} | suc c ↦ Child img n 12 c ]
      → ◌≡◌ {A = ℕ} (elim w [ zero ↦ 0 | suc c ↦ is_var img c ]) 0 → ◌≡◌ {A = ℕ} (elim (optional r w) [ zero ↦ 0 | suc c ↦ is_var J c ]) 0
  unfolding optional
  option-var n zero below h e = refl
  option-var n (suc c) below h e = is_var-held n c below h e

  -- and where n passes the test of refusal 12 it passes there
  pub var-held : (n : ℕ) → n < m → test_var img n ≡ 0 → test_var J (r n) ≡ 0
  unfolding test_var
  var-held n below e =
      subst (λ k. ◌≡◌ {A = ℕ} (tested J (r n) (eqb k 33) (eqb k 34)) 0) (sym (s.kind n below))
      (go (eqb (kind_at img n) 33) (eqb (kind_at img n) 34) (eqb→eq _ _) (eqb→eq _ _) e)
    where
      tested : List ℕ → ℕ → Bool → Bool → ℕ
      tested i m b c = elim b [
        | true ↦ is_var i (first i m)
        | false ↦ elim c [ true ↦ elim (first i m) [ zero ↦ 0 | suc x ↦ is_var i x ] | false ↦ 0 ]
      ]

      go : (b c : Bool) → (T b → kind_at img n ≡ 33) → (T c → kind_at img n ≡ 34) → tested img n b c ≡ 0 → tested J (r n) b c ≡ 0
      go true c g h e = ap (is_var J) (first-child n below (g tt)) ∙ is_var-held n (first img n) below (term-below n below (g tt)) e
      go false true g h e =
          subst (λ z. ◌≡◌ {A = ℕ} (elim z [ zero ↦ 0 | suc x ↦ is_var J x ]) 0) (sym (first-option n below (h tt)))
          (option-var n (first img n) below (option-child n below (h tt)) e)
      go false false g h e = refl
