-- Rows that stand in another image, with new numbers for children and names: they have the same shape there, and the children with
-- their new numbers.
use mathlib.Core.Bool.{Bool, true, false}
use mathlib.Core.Path.{◌≡◌, refl, sym, ap, ap₂, ◌∙◌, subst}
use mathlib.Core.List.{List, [], ◌∷◌, ◌++◌, map, map-append, map-id}
use Prim.Native.Nat.{ℕ, zero, suc, ◌+◌, ◌<◌}
use native.Mathlib.Nat.{add-zero}
use native.Mathlib.Omega.{arith}
use lib.Dec.{eqb}
use lib.ListN.{length, get_or, length-append, length-map, get_or-append}
use lib.Seq.{get_or-append-add}
use Rattle.ast.specs.Image.{op_at}
use Rattle.ast.specs.Kinds.{Field, name, opt_name, child, opt_child, list, lists, cases, no_child}
use Rattle.ast.specs.Rows.{Kid, one, many, ones, ops_from, after_blocks, block_kids, block_counts, after, field_kids, field_shape, after_fields, fields_kids, fields_shape}
use Rattle.accepting.specs.Moved.{optional, block_words, field_words, fields_words}

-- a row's child by its new number, a block by those of its items
abbrev pub new_kid : (ℕ → ℕ) → Kid → Kid
new_kid r (one c) = one (r c)
new_kid r (many cs) = many (map r cs)

ones-map : (r : ℕ → ℕ) (cs : List ℕ) → ones (map r cs) ≡ map (new_kid r) (ones cs)
unfolding ones
ones-map r [] = refl
ones-map r (c ∷ cs) = ap (λ l. one (r c) ∷ l) (ones-map r cs)

module _ (J : List ℕ) where
  -- the operand words of J from the place p on are xs. Its laws: the first word and the others, a front and what follows it
  pub record At (p : ℕ) (xs : List ℕ) : Type 0 where
    pub reads : (j : ℕ) → j < length xs → op_at J (p + j) ≡ get_or xs j 0

  pub at-first : {p x : ℕ} {xs : List ℕ} → At p (x ∷ xs) → op_at J p ≡ x
  at-first {p} h = ap (op_at J) (sym (add-zero p)) ∙ h.reads 0 (omega arith)

  pub at-rest : {p x : ℕ} {xs : List ℕ} → At p (x ∷ xs) → At (p + 1) xs
  at-rest h = record { reads = λ j l. ap (op_at J) (omega arith) ∙ h.reads (suc j) (omega arith) }

  pub at-left : {p : ℕ} (xs ys : List ℕ) → At p (xs ++ ys) → At p xs
  at-left xs ys h = record { reads = λ j l. h.reads j (let a = length-append xs ys in omega arith) ∙ get_or-append xs ys 0 j l }

  pub at-right : {p : ℕ} (xs ys : List ℕ) → At p (xs ++ ys) → At (p + length xs) ys
  at-right {p} xs ys h =
      let a = length-append xs ys in
      record { reads = λ j l. ap (op_at J) (omega arith) ∙ h.reads (length xs + j) (omega arith) ∙ get_or-append-add xs ys j 0 }

  pub at-place : {p q : ℕ} {xs : List ℕ} → p ≡ q → At p xs → At q xs
  at-place {xs = xs} e h = subst (λ z. At z xs) e h

  pub at-none : {p : ℕ} → At p []
  at-none = record { reads = λ j l. absurd (omega arith) }

  pub at-cons : {p x : ℕ} {xs : List ℕ} → op_at J p ≡ x → At (p + 1) xs → At p (x ∷ xs)
  at-cons {p} {x} {xs} e h = record { reads = go }
    where
      go : (j : ℕ) → j < suc (length xs) → op_at J (p + j) ≡ get_or (x ∷ xs) j 0
      go zero l = ap (op_at J) (add-zero p) ∙ e
      go (suc j) l = ap (op_at J) (let q : p + suc j ≡ p + 1 + j = omega arith in q) ∙ h.reads j (omega arith)

  pub at-append : (xs ys : List ℕ) {p : ℕ} → At p xs → At (p + length xs) ys → At p (xs ++ ys)
  at-append [] ys {p} a b = at-place (add-zero p) b
  at-append (x ∷ xs) ys {p} a b = at-cons (at-first a) (at-append xs ys (at-rest a) (at-place (omega arith) b))

  -- words that are read are such words
  pub ops-at : (c p : ℕ) → At p (ops_from J c p)
  unfolding ops_from
  ops-at zero p = at-none
  ops-at (suc c) p = at-cons refl (ops-at c (p + 1))

-- the same words in another image
pub at-same : (J img : List ℕ) {p : ℕ} {xs : List ℕ} → At img p xs → ((j : ℕ) → j < length xs → op_at J (p + j) ≡ op_at img (p + j)) → At J p xs
at-same J img h e = record { reads = λ j l. e j l ∙ h.reads j l }

module _ (img : List ℕ) where
  pub ops-length : (c p : ℕ) → length (ops_from img c p) ≡ c
  unfolding ops_from
  ops-length zero p = refl
  ops-length (suc c) p = ap suc (ops-length c (p + 1))

module _ (J img : List ℕ) (r f : ℕ → ℕ) where
  -- a run of children
  pub ops-held : (c p p' : ℕ) → At J p' (map r (ops_from img c p)) → ops_from J c p' ≡ map r (ops_from img c p)
  unfolding ops_from
  ops-held zero p p' h = refl
  ops-held (suc c) p p' h = ap₂ ◌∷◌ (at-first J h) (ops-held c (p + 1) (p' + 1) (at-rest J h))

  pub moved-length : (c p : ℕ) → length (map r (ops_from img c p)) ≡ c
  moved-length c p = length-map (ops_from img c p) r ∙ ops-length img c p

  record Blocks (c p p' : ℕ) : Type 0 where
    kids : block_kids J c p' ≡ map (new_kid r) (block_kids img c p)
    counts : block_counts J c p' ≡ block_counts img c p
    next : after_blocks J c p' ≡ p' + length (block_words img r f c p)

  blocks-held : (c p p' : ℕ) → At J p' (block_words img r f c p) → Blocks c p p'
  unfolding block_kids block_counts after_blocks block_words
  blocks-held zero p p' h = record { kids = refl; counts = refl; next = sym (add-zero p') }
  blocks-held (suc c) p p' h =
      let w = op_at img p in
      let e : op_at J p' ≡ w = at-first J h in
      let items = map r (ops_from img w (p + 1)) in
      let rest = at-rest J h in
      let l = moved-length w (p + 1) in
      let more : Blocks c (p + 1 + w) (p' + 1 + w) =
      blocks-held c (p + 1 + w) (p' + 1 + w) (at-place J (ap (λ z. p' + 1 + z) l) (at-right J items (block_words img r f c (p + 1 + w)) rest)) in
      let k = length-append items (block_words img r f c (p + 1 + w)) in
      let n = more.next in
      record {
        kids = subst (λ z. many (ops_from J z (p' + 1)) ∷ block_kids J c (p' + 1 + z) ≡ many items ∷ map (new_kid r) (block_kids img c (p + 1 + w))) (sym e)
            (ap₂ (λ a b. many a ∷ b) (ops-held w (p + 1) (p' + 1) (at-left J items _ rest)) more.kids);
        counts = subst (λ z. z ∷ block_counts J c (p' + 1 + z) ≡ w ∷ block_counts img c (p + 1 + w)) (sym e) (ap (λ b. w ∷ b) more.counts);
        next = ap (λ z. after_blocks J c (p' + 1 + z)) e ∙ n ∙ (omega arith);
      }

  -- the child of a case, and the place after it
  abbrev case_kid : Bool → ℕ → List Kid
  case_kid b c = elim b [ true ↦ [] | false ↦ one c ∷ [] ]

  abbrev case_end : Bool → ℕ → ℕ
  case_end b p = elim b [ true ↦ p + 1 | false ↦ p + 2 ]

  case-kids : (b : Bool) (c c' : ℕ) → (b ≡ false → c' ≡ r c) → case_kid b c' ≡ map (new_kid r) (case_kid b c)
  case-kids true c c' h = refl
  case-kids false c c' h = ap (λ z. one z ∷ []) (h refl)

  case-next : (b : Bool) (p c : ℕ) → case_end b p ≡ p + suc (length {A = ℕ} (elim b [ true ↦ [] | false ↦ c ∷ [] ]))
  case-next true p c = refl
  case-next false p c = refl

  case-second : (b : Bool) (x c p : ℕ) → At J p (x ∷ elim b [ true ↦ [] | false ↦ c ∷ [] ]) → b ≡ false → op_at J (p + 1) ≡ c
  case-second true x c p h e = cc
  case-second false x c p h e = at-first J (at-rest J h)

  -- a field of a row
  pub record Held (g : Field) (p p' : ℕ) : Type 0 where
    pub kids : field_kids J g p' ≡ map (new_kid r) (field_kids img g p)
    pub shape : field_shape J g p' ≡ field_shape img g p
    pub next : after J g p' ≡ p' + length (field_words img r f g p)

  option-shape : (g : ℕ → ℕ) (w : ℕ) → ◌≡◌ {A = ℕ} (elim (optional g w) [ zero ↦ 0 | suc c ↦ 1 ]) (elim w [ zero ↦ 0 | suc c ↦ 1 ])
  unfolding optional
  option-shape g zero = refl
  option-shape g (suc x) = refl

  option-kids : (w : ℕ) → ◌≡◌ {A = List Kid} (elim (optional r w) [ zero ↦ [] | suc c ↦ one c ∷ [] ]) (map (new_kid r) (elim w [ zero ↦ [] | suc c ↦ one c ∷ [] ]))
  unfolding optional
  option-kids zero = refl
  option-kids (suc x) = refl

  abbrev one_shape : ℕ → List ℕ
  one_shape w = elim w as (λ x. ℕ) [ zero ↦ 0 | suc c ↦ 1 ] ∷ []

  abbrev one_kid : ℕ → List Kid
  one_kid w = elim w [ zero ↦ [] | suc c ↦ one c ∷ [] ]

  -- where the field's words with new numbers stand, it is read so
  pub field-held : (g : Field) (p p' : ℕ) → At J p' (field_words img r f g p) → Held g p p'
  unfolding field_kids field_shape after field_words
  field-held name p p' h = record { kids = refl; shape = refl; next = refl }
  field-held opt_name p p' h =
      record { kids = refl; shape = ap one_shape (at-first J h) ∙ ap (λ z. z ∷ []) (option-shape f (op_at img p)); next = refl }
  field-held (child k) p p' h = record { kids = ap (λ z. one z ∷ []) (at-first J h); shape = refl; next = refl }
  field-held (opt_child k) p p' h =
      record {
        kids = ap one_kid (at-first J h) ∙ option-kids (op_at img p);
        shape = ap one_shape (at-first J h) ∙ ap (λ z. z ∷ []) (option-shape r (op_at img p));
        next = refl;
      }
  field-held (list k) p p' h =
      let w = op_at img p in
      let e : op_at J p' ≡ w = at-first J h in
      let l = moved-length w (p + 1) in
      record {
        kids = ap (λ z. ones (ops_from J z (p' + 1))) e ∙ ap ones (ops-held w (p + 1) (p' + 1) (at-rest J h)) ∙ ones-map r (ops_from img w (p + 1));
        shape = ap (λ z. z ∷ []) e;
        next = ap (λ z. p' + 1 + z) e ∙ (omega arith);
      }
  field-held (lists k) p p' h =
      let w = op_at img p in
      let e : op_at J p' ≡ w = at-first J h in
      let b = blocks-held w (p + 1) (p' + 1) (at-rest J h) in
      let n = b.next in
      record {
        kids = ap (λ z. block_kids J z (p' + 1)) e ∙ b.kids;
        shape = ap (λ z. z ∷ block_counts J z (p' + 1)) e ∙ ap (λ z. w ∷ z) b.counts;
        next = ap (λ z. after_blocks J z (p' + 1)) e ∙ n ∙ (omega arith);
      }
  field-held (cases ks) p p' h =
      let e : op_at J p' ≡ op_at img p = at-first J h in
      let b = eqb (get_or ks (op_at img p) no_child) no_child in
      record {
        kids = ap (λ z. case_kid (eqb (get_or ks z no_child) no_child) (op_at J (p' + 1))) e ∙ case-kids b (op_at img (p + 1)) (op_at J (p' + 1)) (case-second b (op_at img p) (r (op_at img (p + 1))) p' h);
        shape = ap (λ z. z ∷ []) e;
        next = ap (λ z. case_end (eqb (get_or ks z no_child) no_child) p') e ∙ case-next b p' (r (op_at img (p + 1)));
      }

  -- the fields of a row
  pub record HeldAll (gs : List Field) (p p' : ℕ) : Type 0 where
    pub kids : fields_kids J gs p' ≡ map (new_kid r) (fields_kids img gs p)
    pub shape : fields_shape J gs p' ≡ fields_shape img gs p
    pub end : after_fields J gs p' ≡ p' + length (fields_words img r f gs p)

  -- where the words of all fields stand, they are read so
  pub fields-held : (gs : List Field) (p p' : ℕ) → At J p' (fields_words img r f gs p) → HeldAll gs p p'
  unfolding fields_kids fields_shape after_fields fields_words
  fields-held [] p p' h = record { kids = refl; shape = refl; end = sym (add-zero p') }
  fields-held (g ∷ gs) p p' h =
      let here = field_words img r f g p in
      let rest = fields_words img r f gs (after img g p) in
      let a = field-held g p p' (at-left J here rest h) in
      let b = fields-held gs (after img g p) (after J g p') (at-place J (sym a.next) (at-right J here rest h)) in
      let l = length-append here rest in
      let m = a.next in
      let n = b.end in
      record {
        kids = ap₂ ◌++◌ a.kids b.kids ∙ sym (map-append (new_kid r) (field_kids img g p) (fields_kids img gs (after img g p)));
        shape = ap₂ ◌++◌ a.shape b.shape;
        end = n ∙ (omega arith);
      }

  -- a field's words are as many as it had
  blocks-length : (c p : ℕ) → p + length (block_words img r f c p) ≡ after_blocks img c p
  unfolding block_words after_blocks
  blocks-length zero p = add-zero p
  blocks-length (suc c) p =
      let items = map r (ops_from img (op_at img p) (p + 1)) in
      let l = moved-length (op_at img p) (p + 1) in
      let k = length-append items (block_words img r f c (p + 1 + op_at img p)) in
      let n = blocks-length c (p + 1 + op_at img p) in
      omega arith

  field-length : (g : Field) (p : ℕ) → p + length (field_words img r f g p) ≡ after img g p
  unfolding field_words after
  field-length name p = refl
  field-length opt_name p = refl
  field-length (child k) p = refl
  field-length (opt_child k) p = refl
  field-length (list k) p = let l = moved-length (op_at img p) (p + 1) in omega arith
  field-length (lists k) p = let l = blocks-length (op_at img p) (p + 1) in omega arith
  field-length (cases ks) p = sym (case-next (eqb (get_or ks (op_at img p) no_child) no_child) p (r (op_at img (p + 1))))

  -- so are the words of all fields
  pub fields-length : (gs : List Field) (p : ℕ) → p + length (fields_words img r f gs p) ≡ after_fields img gs p
  unfolding fields_words after_fields
  fields-length [] p = add-zero p
  fields-length (g ∷ gs) p =
      let l = field-length g p in
      let m = fields-length gs (after img g p) in
      let k = length-append (field_words img r f g p) (fields_words img r f gs (after img g p)) in
      omega arith

-- the same number. Rows with all numbers kept are as they stand
abbrev pub keep : ℕ → ℕ
keep n = n

pub kids-kept : (ks : List Kid) → map (new_kid keep) ks ≡ ks
kids-kept [] = refl
kids-kept (one c ∷ ks) = ap (λ l. one c ∷ l) (kids-kept ks)
kids-kept (many cs ∷ ks) = ap₂ (λ c l. many c ∷ l) (map-id cs) (kids-kept ks)

module _ (img : List ℕ) where
  optional-kept : (w : ℕ) → w ≡ optional keep w
  unfolding optional
  optional-kept zero = refl
  optional-kept (suc x) = refl

  moved-kept : (c p : ℕ) → At img p (map keep (ops_from img c p))
  moved-kept c p = subst (At img p) (sym (map-id (ops_from img c p))) (ops-at img c p)

  blocks-kept : (c p : ℕ) → At img p (block_words img keep keep c p)
  unfolding block_words
  blocks-kept zero p = at-none img
  blocks-kept (suc c) p =
      let w = op_at img p in
      at-cons img refl (at-append img (map keep (ops_from img w (p + 1))) (block_words img keep keep c (p + 1 + w)) (moved-kept w (p + 1))
      (at-place img (ap (λ z. p + 1 + z) (sym (moved-length img img keep keep w (p + 1)))) (blocks-kept c (p + 1 + w))))

  case-kept : (b : Bool) (p : ℕ) → At img p (elim b [ true ↦ [] | false ↦ op_at img p ∷ [] ])
  case-kept true p = at-none img
  case-kept false p = at-cons img refl (at-none img)

  field-kept : (g : Field) (p : ℕ) → At img p (field_words img keep keep g p)
  unfolding field_words
  field-kept name p = at-cons img refl (at-none img)
  field-kept opt_name p = at-cons img (optional-kept (op_at img p)) (at-none img)
  field-kept (child k) p = at-cons img refl (at-none img)
  field-kept (opt_child k) p = at-cons img (optional-kept (op_at img p)) (at-none img)
  field-kept (list k) p = at-cons img refl (moved-kept (op_at img p) (p + 1))
  field-kept (lists k) p = at-cons img refl (blocks-kept (op_at img p) (p + 1))
  field-kept (cases ks) p = at-cons img refl (case-kept (eqb (get_or ks (op_at img p) no_child) no_child) (p + 1))

  -- the words of fields with all numbers kept stand where they stand, and those of rows
  pub fields-kept : (gs : List Field) (p : ℕ) → At img p (fields_words img keep keep gs p)
  unfolding fields_words
  fields-kept [] p = at-none img
  fields-kept (g ∷ gs) p =
      at-append img (field_words img keep keep g p) (fields_words img keep keep gs (after img g p)) (field-kept g p)
      (at-place img (sym (field-length img img keep keep g p)) (fields-kept gs (after img g p)))
