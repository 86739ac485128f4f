-- Each plain row stands where document 01 says, and no node gets two.
use mathlib.Core.Path.{◌≡◌, refl, sym, ap, subst, ◌∙◌}
use mathlib.Core.Logic.{inl, inr}
use mathlib.Core.Bool.{Bool, true, false, ◌&&◌, ◌||◌, not, false≢true}
use mathlib.Core.List.{List, [], ◌∷◌, ◌++◌, Memᴰ}
use Prim.Native.Nat.{ℕ, zero, suc, ◌+◌, ◌<◌, ◌≤◌}
use native.Mathlib.Nat.{add-zero}
use native.Mathlib.Decide.{ℕ_discrete}
use native.Mathlib.Omega.{arith}
use lib.Dec.{T, eqb, eqb→eq, leb}
use lib.ListN.{get_or}
use borrow.Author.Tests.{ne_eqb, eqb-true, eqb-false}
use Rattle.ast.specs.Image.{nodes, kind_at, start_at, op_at, field, last}
use Rattle.ast.specs.Kinds.{Class, outer, inner, root, decl, rule, model, plain, term, ident, head, head_member, member, case, if_var, defined_then, arg, Field, name, opt_name, child, list, cases, no_child, Kind, kinds, kind_of}
use Rattle.ast.specs.Is.{Is, kind_by}
use Rattle.ast.specs.Rows.{Kid, one, numbers, kids, kids_to, after, fields_kids, field_kids, fields_at}
use Rattle.ast.specs.Tests.{is, times, verdict}
use Rattle.ast.specs.Tree.{node, block, Trees, none, ◌◂◌, ordered, grow, class_at, tree_at}
use Rattle.ast.specs.Items.{items, below}
use Rattle.ast.proofs.Row.{append-none, Child, FormedFields, next, node_of, all_kids, append}
use Rattle.ast.proofs.Shapes.{row as fields-of, tree_of, child-is, case-child, case-kids, case-one, case-last, term-last, head-last, term_kinds, head_kinds}
use Rattle.ast.proofs.Accepted.{formed, last-below}
use Rattle.ast.proofs.Unfold.{All, nil, cons, tree_at-is}
use Rattle.ast.proofs.Vars.{Each, and_both}
use Rattle.ast.proofs.Count.{is_same, times-append, parents}
use Rattle.ast.proofs.ByKind.{kind_for, kinds-for, low-kind, each-grow}
use Rattle.ast.proofs.Kids.{child_kind, kid-admitted, every-pair}
use Rattle.table.specs.Table.{Table, is_var, is_kind, at_entry, at_exit}
use Rattle.rows.specs.Rows.{Row}
use Rattle.ast.proofs.Bools.{not-or, is_true, not_equal, and-true, true-is}
use Rattle.bindings.specs.Errors.{introduces, introduced_row, is_ctor, arg_row, arg_rows, defined_row, rows_of, rows_seq, decl_rows, plain_rows}
use Rattle.error.specs.Kinds.{asked}
use Rattle.bindings.specs.Promises.{inside, listed, declared, of_pattern, of_args}
use Rattle.sentences.specs.Places.{Node, Stands, InThen, atom, down}
use Rattle.bindings.proofs.RowLaws.{rows_at, decl_kinds, kids-of, plain-rows, term_rows, ident-rows, member-rows, receiver-rows, head-ident, head-other, case_rows, defined-none, defined-some, case-inside, arg-none, arg-ident, defined-ident, defined-wild, ctor-ident, ctor-none, decl-child, decl-none, rule-rows, model-rows, module-rows}
use Rattle.bindings.proofs.Bodies.{atom_kinds, case-pattern, no-pattern, applied, applied-yes, applied-no, Applied, case-whole, Defined, then_some}
use Rattle.sentences.proofs.Fine.{Fine, FineAt, fine-as, fine-none, fine-no, fine-cons, fine-swap, fine-first, fine-rest, fine-block, at-node, at_row, items-fine, args-fine, decls-fine}

-- kinds -------------------------------------------------------------------------------------------------------------
-- IdentTerm gives its row to the Term above it, and DefinedThenAtom's depends on the atom
abbrev ordinary : ℕ → Bool
ordinary k = not (eqb k 13) && not (eqb k 34)

-- whose children are gone through one after another
abbrev goes_through : Class → Bool
goes_through (outer o) = false
goes_through (inner plain) = true
goes_through (inner term) = false
goes_through (inner ident) = false
goes_through (inner head) = false
goes_through (inner head_member) = false
goes_through (inner member) = false
goes_through (inner case) = true
goes_through (inner if_var) = false
goes_through (inner defined_then) = false
goes_through (inner arg) = false

abbrev sequence : ℕ → Kind → ℕ → Bool
sequence k kd c = not (goes_through kd.class && not (eqb k 29)) || (not (child_kind kd.fields c) || ordinary c)

sequences : (k c : ℕ) → k ≤ 40 → c ≤ 40 → T (sequence k (kind_of k) c)
unfolding kinds
sequences k c l m = every-pair sequence tt k c l m

-- the kinds that stand in a then-atom
abbrev pub then_kind : ℕ → Bool
then_kind k = (leb 12 k && leb k 22) || ((leb 26 k && leb k 27) || (leb 29 k && (leb k 31 || eqb k 34)))

abbrev then_closed : ℕ → Kind → ℕ → Bool
then_closed k kd c = not (then_kind k) || (not (child_kind kd.fields c) || then_kind c)

then-closed : (k c : ℕ) → k ≤ 40 → c ≤ 40 → T (then_closed k (kind_of k) c)
unfolding kinds
then-closed k c l m = every-pair then_closed tt k c l m

-- where rows 1 are asked for below a node that is no ThenAtom, they were asked for there, and it is not Dom, Cod or PredExpr
asked-on : (k : ℕ) (a : Bool) → (k ≡ 29 → ⊥) → asked k a ≡ true → (a ≡ true) × ((k ≡ 18 → ⊥) × ((k ≡ 19 → ⊥) × (k ≡ 26 → ⊥)))
unfolding asked
asked-on k a h e = go (eqb k 29) (eqb k 18) (eqb k 19) (eqb k 26) refl refl refl refl e
  where
    go : (b c d f : Bool) → eqb k 29 ≡ b → eqb k 18 ≡ c → eqb k 19 ≡ d → eqb k 26 ≡ f
        → ◌≡◌ {A = Bool} (elim b [ true ↦ true | false ↦ elim (c || (d || f)) [ true ↦ false | false ↦ a ] ]) true
        → (a ≡ true) × ((k ≡ 18 → ⊥) × ((k ≡ 19 → ⊥) × (k ≡ 26 → ⊥)))
    go true c d f p q r s z = absurd (h (eqb-true k 29 p))
    go false true d f p q r s z = absurd (false≢true z)
    go false false true f p q r s z = absurd (false≢true z)
    go false false false true p q r s z = absurd (false≢true z)
    go false false false false p q r s z = (z, (eqb-false k 18 q, (eqb-false k 19 r, eqb-false k 26 s)))

module _ (img : List ℕ) (accepted : verdict img ≡ 0) where
  -- what stands in a then-atom is a node, of such a kind
  pub then-node : {n : ℕ} → InThen img n → (n < nodes img) × T (then_kind (kind_at img n))
  then-node (atom h) = (h.below, subst (λ (k : ℕ). T (then_kind k)) (sym h.kind) tt)
  then-node (down {p} {c} h s d) =
      let q = then-node h in
      let a = kid-admitted img p ((formed img accepted).each p q.0) s in
      let b : c < nodes img = (let x = q.0 in let y = a.0 in omega arith) in (
        b,
        not-or (child_kind (kind_of (kind_at img p)).fields (kind_at img c)) (then_kind (kind_at img c)) a.1
            (not-or (then_kind (kind_at img p)) _ q.1 (then-closed (kind_at img p) (kind_at img c) (low-kind img accepted p q.0) (low-kind img accepted c b))),
      )

-- no node stands twice in one row
module _ (img : List ℕ) where
  row-times : (c m p : ℕ) → p < m → times c (numbers (kids img p)) ≤ times c (kids_to img m)
  unfolding kids_to
  row-times c zero p l = absurd (omega arith)
  row-times c (suc m) p l = let a = times-append c (kids_to img m) (numbers (kids img m)) in go (ℕ_discrete p m) (row-times c m p) a
    where
      go : Dec (p ≡ m) → (p < m → times c (numbers (kids img p)) ≤ times c (kids_to img m))
          → times c (kids_to img m ++ numbers (kids img m)) ≡ times c (kids_to img m) + times c (numbers (kids img m))
          → times c (numbers (kids img p)) ≤ times c (kids_to img m ++ numbers (kids img m))
      go (yes e) r a = let z = ap (λ (x : ℕ). times c (numbers (kids img x))) e in omega arith
      go (no e) r a = let z = r (omega arith) in omega arith

  pub once-in-row : verdict img ≡ 0 → (p c : ℕ) → p < nodes img → c < last img → times c (numbers (kids img p)) ≤ 1
  once-in-row e p c l k = let a = row-times c (nodes img) p l in let b = parents img e c k in omega arith

-- children by numbers and by trees ----------------------------------------------------------------------------------
every : {P : ℕ → Type 0} (cs : List ℕ) → ((c : ℕ) → Memᴰ c cs → P c) → All P cs
every [] f = nil
every (c ∷ cs) f = cons (f c (Memᴰ.head refl)) (every cs (λ x m. f x (Memᴰ.tail m)))

module _ (img : List ℕ) where
  -- the trees below a node are those of its children
  pub below-is : {kd : Kind} {n : ℕ} → Is img kd n → ((ts : Trees) → ordered kd.class ts ≡ ts) → below (tree_at img n) ≡ grow (tree_at img) (kids img n)
  unfolding class_at
  below-is {kd} {n} is straight =
      ap below (tree_at-is img (formed img is.accepted) n is.below)
      ∙ ap (λ (k : Kind). ordered k.class (grow (tree_at img) (kids img n))) is.kind
      ∙ straight (grow (tree_at img) (kids img n))

  pub kids-at : {kd : Kind} {n : ℕ} → Is img kd n → kids img n ≡ fields_kids img kd.fields (start_at img n + 2)
  unfolding kids fields_at
  kids-at {kd} {n} is = ap (λ (k : Kind). fields_kids img k.fields (start_at img n + 2)) is.kind

  pub field-zero : (n : ℕ) → field img n 0 ≡ op_at img (start_at img n + 2)
  unfolding field
  field-zero n = ap (op_at img) (add-zero (start_at img n + 2))

  -- the child of a case of an enum
  stands-case : (cl : Class) (ks : List ℕ) {n : ℕ} → Is img (kind_by cl (cases ks ∷ [])) n → (c : ℕ) → c ≡ field img n 0 → eqb (get_or ks c no_child) no_child ≡ false → Stands img n (field img n 1)
  unfolding fields_kids field_kids numbers field
  stands-case cl ks {n} is c q e =
      subst (λ (xs : List Kid). Memᴰ (field img n 1) (numbers xs)) (sym (kids-at is))
      (subst (λ (b : Bool). Memᴰ (field img n 1) (numbers (elim b as (λ _. List Kid) [ true ↦ [] | false ↦ one (op_at img (start_at img n + 2 + 1)) ∷ [] ] ++ [])))
      (sym (ap (λ (x : ℕ). eqb (get_or ks x no_child) no_child) (sym (q ∙ field-zero n)) ∙ e)) (Memᴰ.head refl))

  -- the first child
  stands-first : (cl : Class) (k : ℕ) (gs : List Field) {n : ℕ} → Is img (kind_by cl (child k ∷ gs)) n → Stands img n (field img n 0)
  unfolding fields_kids field_kids numbers
  stands-first cl k gs {n} is = subst (λ (xs : List Kid). Memᴰ (field img n 0) (numbers xs)) (sym (kids-at is)) (Memᴰ.head (field-zero n))

  -- a defined-then's term
  option-then : (w e : ℕ) → Memᴰ e (numbers (elim w as (λ _. List Kid) [ zero ↦ [] | suc c ↦ one c ∷ [] ] ++ (one e ∷ [])))
  unfolding numbers
  option-then zero e = Memᴰ.head refl
  option-then (suc c) e = Memᴰ.tail (Memᴰ.head refl)

  stands-term : {n : ℕ} → Is img (kind_of 34) n → Stands img n (field img n 1)
  unfolding fields_kids field_kids field kind_of after
  stands-term {n} is =
      subst (λ (xs : List Kid). Memᴰ (field img n 1) (numbers xs)) (sym (kids-at is)) (option-then (op_at img (start_at img n + 2)) (field img n 1))

module _ (img : List ℕ) (t : Table) where
  each-fine : (a : Bool) (n : ℕ) (ts : Trees) → Each (λ u. Fine img t (u ◂ none) (rows_of img t a n u)) ts → Fine img t ts (rows_seq img t a n ts)
  unfolding Each rows_of
  each-fine a n none h = fine-none img t none
  each-fine a n (u ◂ us) h = fine-cons img t h.0 (each-fine a n us h.1)

  block-fine : (a : Bool) (n : ℕ) (ts : Trees) → Each (λ u. Fine img t (u ◂ none) (rows_of img t a n u)) ts → Fine img t (block ts ◂ none) (rows_of img t a n (block ts))
  unfolding rows_of
  block-fine a n ts h = fine-block img t (each-fine a n ts h)

  -- a node whose children are gone through one after another
  through : {kd : Kind} {n : ℕ} (a : Bool) → Is img kd n → ((ts : Trees) → ordered kd.class ts ≡ ts)
      → ((c : ℕ) → Stands img n c → FineAt img t c (rows_at img t a n c)) → FineAt img t n (inside img t a n)
  through {kd} {n} a is straight f =
      at-node img t is
      (subst (λ (us : Trees). Fine img t us (rows_seq img t a n us)) (sym (below-is img is straight))
      (each-fine a n (grow (tree_at img) (kids img n)) (each-grow (λ u. Fine img t (u ◂ none) (rows_of img t a n u)) (block-fine a n) (tree_at img) (kids img n) (every (numbers (kids img n)) f))))

  -- up from the child of a case of an enum, and from a first child
  case-up : (cl : Class) (ks : List ℕ) {n d : ℕ} {l : List Row} → Is img (kind_by cl (cases ks ∷ [])) n → ((ts : Trees) → ordered cl ts ≡ ts)
      → (c : ℕ) → c ≡ field img n 0 → d ≡ field img n 1 → eqb (get_or ks c no_child) no_child ≡ false → FineAt img t d l → FineAt img t n l
  case-up cl ks {n} {d} {l} is straight c q r s f =
      at-node img t is
      (subst (λ (us : Trees). Fine img t us l) (sym (case-kids img cl ks is straight c q ∙ case-one img ks n c s ∙ ap (λ (x : ℕ). tree_at img x ◂ none) (sym r))) f)

  first-up : (cl : Class) (k : ℕ) (gs : List Field) {n : ℕ} {l : List Row} → Is img (kind_by cl (child k ∷ gs)) n → ((ts : Trees) → ordered cl ts ≡ ts)
      → FineAt img t (field img n 0) l → FineAt img t n l
  unfolding all_kids
  first-up cl k gs {n} {l} is straight f =
      at-node img t is (subst (λ (us : Trees). Fine img t us l) (sym (kids-of img cl (child k ∷ gs) is straight)) (fine-first img t (all_kids img n gs 1) f))

-- each row says what holds --------------------------------------------------------------------------------------------
module _ (img : List ℕ) (t : Table) (accepted : verdict img ≡ 0) where
  -- at a node whose rows 1 are asked for only in a then-atom
  abbrev Claim : ℕ → Type 0
  Claim n = (a : Bool) → (a ≡ true → InThen img n) → T (ordinary (kind_at img n)) → (o : ℕ) → FineAt img t n (rows_at img t a o n)

  pub is_at : {k n : ℕ} → n < nodes img → kind_at img n ≡ k → Is img (kind_of k) n
  is_at l e = record { accepted = accepted; below = l; kind = ap kind_of e }

  ordinary-at : (n : ℕ) {k : ℕ} → kind_at img n ≡ k → T (ordinary k) → T (ordinary (kind_at img n))
  ordinary-at n e q = subst (λ (x : ℕ). T (ordinary x)) (sym e) q

  -- a step down from a node that is none of those that Determines rules out
  step : {n c k : ℕ} → kind_at img n ≡ k → (k ≡ 18 → ⊥) → (k ≡ 19 → ⊥) → (k ≡ 26 → ⊥) → (k ≡ 34 → ⊥) → InThen img n → Stands img n c → InThen img c
  step e p q r s h w =
      down h w (record { dom = λ z. p (sym e ∙ z); cod = λ z. q (sym e ∙ z); predicate = λ z. r (sym e ∙ z); variable = λ z y. s (sym e ∙ z) })

  module _ (n : ℕ) (low : n < nodes img) (ih : (c : ℕ) → c < n → c < nodes img → Claim c) where
    lower : {c : ℕ} → c < n → c < nodes img
    lower l = omega arith

    -- a child of a kind, whatever the node above it
    child-fine : {k c : ℕ} (a : Bool) → Child img n k c → T (ordinary k) → (a ≡ true → InThen img c) → FineAt img t c (rows_at img t a n c)
    child-fine a h q w = ih _ h.below (lower h.below) a w (ordinary-at _ h.kind q) n

    -- children that are gone through
    through-fine : (a : Bool) {kd : Kind} → Is img kd n → ((ts : Trees) → ordered kd.class ts ≡ ts) → T (goes_through kd.class) → (kind_at img n ≡ 29 → ⊥)
        → ((c : ℕ) → Stands img n c → a ≡ true → InThen img c) → FineAt img t n (inside img t a n)
    through-fine a {kd} is straight g h w = through img t a is straight each
      where
        each : (c : ℕ) → Stands img n c → FineAt img t c (rows_at img t a n c)
        each c s =
            let adm = kid-admitted img n ((formed img accepted).each n low) s in
            let b : c < nodes img = lower adm.0 in
            let k = kind_at img n in
            let gt : T (goes_through (kind_of k).class && not (eqb k 29)) =
            subst (λ (z : Bool). T (goes_through (kind_of k).class && not z)) (sym (ne_eqb k 29 h)) (and-true (goes_through (kind_of k).class) (subst (λ (x : Kind). T (goes_through x.class)) (sym is.kind) g)) in
            let ord = not-or (child_kind (kind_of k).fields (kind_at img c)) (ordinary (kind_at img c)) adm.1
            (not-or (goes_through (kind_of k).class && not (eqb k 29)) (not (child_kind (kind_of k).fields (kind_at img c)) || ordinary (kind_at img c)) gt
            (sequences k (kind_at img c) (low-kind img accepted n low) (low-kind img accepted c b))) in
            ih c adm.0 b a (w c s) ord n

    -- a node of class plain
    plain-fine : (fs : List Field) → Is img (kind_by (inner plain) fs) n → (kind_at img n ≡ 29 → ⊥) → Claim n
    unfolding ordered
    plain-fine fs is h a w ord o =
        fine-as img t (sym (plain-rows img t a (kind_at img n) fs o is refl))
        (through-fine (asked (kind_at img n) a) is (λ ts. refl) tt h
        (λ c s e. let q = asked-on (kind_at img n) a h e in
        step refl q.1.0 q.1.1.0 q.1.1.1 (not_equal 34 (and_both (not (eqb (kind_at img n) 13)) (not (eqb (kind_at img n) 34)) ord).1) (w q.0) s))

    -- the child of a term, unless it is an IdentTerm
    term-child : (a : Bool) → (a ≡ true → InThen img n) → kind_at img n ≡ 12 → (c : ℕ) → c ≡ field img n 0 → eqb (get_or term_kinds c no_child) no_child ≡ false
        → T (ordinary (get_or term_kinds c no_child)) → FineAt img t n (inside img t a n)
    unfolding kind_of ordered
    term-child a w e c q s ord =
        let is = is_at low e in
        let h = case-child img (inner term) term_kinds is c _ q refl s in
        fine-as img t (sym (case-inside img t a (inner term) term_kinds is (λ ts. refl) c q refl s))
        (case-up img t (inner term) term_kinds is (λ ts. refl) c q refl s
        (child-fine a h ord (λ z. step e (λ x. omega arith) (λ x. omega arith) (λ x. omega arith) (λ x. omega arith) (w z) (stands-case img (inner term) term_kinds is c q s))))

    -- an ident term: row 1
    ident-fine : (a : Bool) → (a ≡ true → InThen img n) → kind_at img n ≡ 12 → 0 ≡ field img n 0 → FineAt img t n (inside img t a n)
    unfolding kind_of ordered introduced_row
    ident-fine a w e q =
        let is = is_at low e in
        let i = field img n 1 in
        let h = case-child img (inner term) term_kinds is 0 i q refl refl in
        fine-as img t (sym (case-inside img t a (inner term) term_kinds is (λ ts. refl) 0 q refl refl ∙ ident-rows img t a n (child-is img is h)))
        (at_row img t (a && introduces img t n i) 1 is
        (λ b. let p = and_both a (introduces img t n i) (is_true b) in
        inl (
          refl,
          record {
            i = i;
            term = record { node = record { below = low; kind = e }; case = sym q; ident = refl };
            place = w (true-is a p.0);
            new = true-is (introduces img t n i) p.1;
          },
        )))

    term-fine : kind_at img n ≡ 12 → Claim n
    unfolding kind_of ordered rows_of
    term-fine e a w ord o = fine-as img t (sym (term_rows img t a o (is_at low e))) (go (field img n 0) refl (term-last img (is_at low e)))
      where
        go : (c : ℕ) → c ≡ field img n 0 → c < 8 → FineAt img t n (inside img t a n)
        go zero q l = ident-fine a w e q
        go (suc zero) q l = fine-no img t (ap (rows_seq img t a n) (case-kids img (inner term) term_kinds (is_at low e) (λ ts. refl) 1 q))
        go (suc (suc zero)) q l = term-child a w e 2 q refl tt
        go (suc (suc (suc zero))) q l = term-child a w e 3 q refl tt
        go (suc (suc (suc (suc zero)))) q l = term-child a w e 4 q refl tt
        go (suc (suc (suc (suc (suc zero))))) q l = term-child a w e 5 q refl tt
        go (suc (suc (suc (suc (suc (suc zero)))))) q l = term-child a w e 6 q refl tt
        go (suc (suc (suc (suc (suc (suc (suc zero))))))) q l = term-child a w e 7 q refl tt
        go (suc (suc (suc (suc (suc (suc (suc (suc c)))))))) q l = absurd (omega arith)

    head-child : (a : Bool) → (a ≡ true → InThen img n) → kind_at img n ≡ 15 → (c : ℕ) → suc c ≡ field img n 0 → eqb (get_or head_kinds (suc c) no_child) no_child ≡ false
        → T (ordinary (get_or head_kinds (suc c) no_child)) → (o : ℕ) → FineAt img t n (rows_at img t a o n)
    unfolding kind_of ordered
    head-child a w e c q s ord o =
        let is = is_at low e in
        let h = case-child img (inner head) head_kinds is (suc c) _ q refl s in
        fine-as img t (sym (head-other img t a o c is q ∙ case-inside img t a (inner head) head_kinds is (λ ts. refl) (suc c) q refl s))
        (case-up img t (inner head) head_kinds is (λ ts. refl) (suc c) q refl s
        (child-fine a h ord (λ z. step e (λ x. omega arith) (λ x. omega arith) (λ x. omega arith) (λ x. omega arith) (w z) (stands-case img (inner head) head_kinds is (suc c) q s))))

    head-fine : kind_at img n ≡ 15 → Claim n
    head-fine e a w ord o = go (field img n 0) refl (head-last img (is_at low e))
      where
        go : (c : ℕ) → c ≡ field img n 0 → c < 3 → FineAt img t n (rows_at img t a o n)
        go zero q l = fine-no img t (head-ident img t a o (is_at low e) q)
        go (suc zero) q l = head-child a w e 0 q refl tt o
        go (suc (suc zero)) q l = head-child a w e 1 q refl tt o
        go (suc (suc (suc c))) q l = absurd (omega arith)

    -- a receiver
    member-fine : kind_at img n ≡ 17 → Claim n
    unfolding kind_of ordered FormedFields
    member-fine e a w ord o =
        let is = is_at low e in
        let h : Child img n 12 (field img n 0) = (fields-of img is).0 in
        fine-as img t (sym (member-rows img t a o is))
        (first-up img t (inner member) 12 (child 13 ∷ []) is (λ ts. refl)
        (child-fine a h tt (λ z. step e (λ x. omega arith) (λ x. omega arith) (λ x. omega arith) (λ x. omega arith) (w z) (stands-first img (inner member) 12 (child 13 ∷ []) is))))

    receiver-fine : kind_at img n ≡ 16 → Claim n
    unfolding kind_of ordered FormedFields
    receiver-fine e a w ord o =
        let is = is_at low e in
        let h : Child img n 12 (field img n 0) = (fields-of img is).0 in
        fine-as img t (sym (receiver-rows img t a o is))
        (first-up img t (inner head_member) 12 (list 13 ∷ []) is (λ ts. refl)
        (child-fine a h tt (λ z. step e (λ x. omega arith) (λ x. omega arith) (λ x. omega arith) (λ x. omega arith) (w z) (stands-first img (inner head_member) 12 (list 13 ∷ []) is))))

  -- a defined-then -------------------------------------------------------------------------------------------------
  defined-below : {d : ℕ} → Is img (kind_of 34) d → (w : ℕ) → w ≡ field img d 0
      → below (tree_at img d) ≡ elim w as (λ _. Trees) [ zero ↦ tree_at img (field img d 1) ◂ none | suc v ↦ tree_at img (field img d 1) ◂ (tree_at img v ◂ none) ]
  unfolding kind_of node_of
  defined-below {d} is w q = ap below (tree_of img is) ∙ go (field img d 0) w (sym q)
    where
      both : (x : ℕ) → ordered (inner defined_then) (append (elim x [ zero ↦ none | suc m ↦ tree_at img m ◂ none ]) (append (tree_at img (field img d 1) ◂ none) none))
          ≡ elim x as (λ _. Trees) [ zero ↦ tree_at img (field img d 1) ◂ none | suc v ↦ tree_at img (field img d 1) ◂ (tree_at img v ◂ none) ]
      both zero = refl
      both (suc v) = refl

      go : (x y : ℕ) → x ≡ y → ordered (inner defined_then) (append (elim x [ zero ↦ none | suc m ↦ tree_at img m ◂ none ]) (append (tree_at img (field img d 1) ◂ none) none))
          ≡ elim y as (λ _. Trees) [ zero ↦ tree_at img (field img d 1) ◂ none | suc v ↦ tree_at img (field img d 1) ◂ (tree_at img v ◂ none) ]
      go x y e = both x ∙ ap (λ (z : ℕ). elim z as (λ _. Trees) [ zero ↦ tree_at img (field img d 1) ◂ none | suc v ↦ tree_at img (field img d 1) ◂ (tree_at img v ◂ none) ]) e

  -- its term is not its variable: no node stands twice in one row
  twice_there : (e f : ℕ) → e ≡ f → times e (numbers (elim (suc e) as (λ _. List Kid) [ zero ↦ [] | suc c ↦ one c ∷ [] ] ++ (one f ∷ []))) ≡ 2
  unfolding numbers times
  twice_there e f q = let a = is_same e in let b : is e f ≡ 1 = ap (is e) (sym q) ∙ is_same e in omega arith

  other-than-term : {d : ℕ} → Is img (kind_of 34) d → field img d 0 ≡ suc (field img d 1) → ⊥
  unfolding fields_kids field_kids field kind_of after FormedFields next last
  other-than-term {d} is q =
      let e = field img d 1 in
      let h : Child img d 12 e = (fields-of img is).1.0 in
      let k = ap (λ (xs : List Kid). times e (numbers xs)) (kids-at img is)
      ∙ ap (λ (x : ℕ). times e (numbers (elim x as (λ _. List Kid) [ zero ↦ [] | suc c ↦ one c ∷ [] ] ++ (one e ∷ [])))) (sym (field-zero img d) ∙ q)
      ∙ twice_there e e refl in
      let o = once-in-row img accepted d e is.below (let x = is.below in let y = h.below in omega arith) in
      omega arith

  -- row 2 at the variable v of the atom n
  variable-fine : {d v : ℕ} (n : ℕ) → Node img 29 n → field img n 0 ≡ 1 → field img n 1 ≡ d → Is img (kind_of 34) d → kind_at img v ≡ 12 → suc v ≡ field img d 0
      → FineAt img t v (defined_row img t n (tree_at img v))
  variable-fine {d} {v} n at c q is kv e = go (field img v 0) refl s.plain
    where
      s : Defined img t n d v (field img d 1)
      s = then_some img t n v is e refl

      go : (x : ℕ) → x ≡ field img v 0 → field img v 0 ≤ 1 → FineAt img t v (defined_row img t n (tree_at img v))
      go zero z l =
          fine-as img t (sym (defined-ident img t n s.is z refl))
          (at_row img t (is_var img (at_entry img t n (field img v 1))) 2 s.is
          (λ b. inr (inl (
            refl,
            record {
              i = field img v 1;
              atom = n;
              defined = d;
              term = record { node = record { below = s.is.below; kind = kv }; case = sym z; ident = refl };
              is_atom = at;
              case = c;
              child = q;
              variable = sym e;
              seen = b;
            },
          ))))
      go (suc zero) z l = fine-no img t (defined-wild img t n s.is z)
      go (suc (suc x)) z l = absurd (omega arith)

  module _ (n : ℕ) (low : n < nodes img) (ih : (c : ℕ) → c < n → c < nodes img → Claim c) where
    defined-fine : kind_at img n ≡ 29 → field img n 0 ≡ 1 → Child img n 34 (field img n 1) → FineAt img t (field img n 1) (rows_at img t true n (field img n 1))
    unfolding FormedFields next kind_of
    defined-fine e c h = go (field img d 0) refl
      where
        d : ℕ
        d = field img n 1

        is : Is img (kind_of 34) d
        is = is_at (lower n low ih h.below) h.kind

        f : ℕ
        f = field img d 1

        k : Child img d 12 f
        k = (fields-of img is).1.0

        place : InThen img f
        place =
            down
            (step e (λ x. omega arith) (λ x. omega arith) (λ x. omega arith) (λ x. omega arith) (atom (record { below = low; kind = e }))
            (stands-case img (inner plain) atom_kinds (is_at low e) 1 (sym c) refl))
            (stands-term img is)
            (record {
              dom = λ z. let x = h.kind in omega arith;
              cod = λ z. let x = h.kind in omega arith;
              predicate = λ z. let x = h.kind in omega arith;
              variable = λ z y. other-than-term is y;
            })

        term : FineAt img t f (rows_at img t true d f)
        term =
            ih f (let x = h.below in let y = k.below in omega arith) (let x = h.below in let y = k.below in omega arith) true (λ z. place)
            (ordinary-at f k.kind tt) d

        go : (w : ℕ) → w ≡ field img d 0 → FineAt img t d (rows_at img t true n d)
        go zero q =
            at-node img t is
            (subst (λ (us : Trees). Fine img t us (rows_at img t true n d)) (sym (defined-below is 0 q)) (fine-as img t (sym (defined-none img t true n is q refl)) term))
        go (suc v) q =
            let kv : Child img d 12 v = (fields-of img is).0 v (sym q) in
            at-node img t is
            (subst (λ (us : Trees). Fine img t us (rows_at img t true n d)) (sym (defined-below is (suc v) q))
            (fine-as img t (sym (defined-some img t true n v is q refl))
            (fine-swap img t (variable-fine n (record { below = low; kind = e }) c refl is kv.kind q) term)))

    -- a ThenAtom
    atom-fine : kind_at img n ≡ 29 → Claim n
    unfolding kind_of ordered asked
    atom-fine e a w ord o = fine-as img t (sym (plain-rows img t a 29 _ o (is_at low e) e)) (go (field img n 0) refl (case-last img (inner plain) atom_kinds (is_at low e)))
      where
        is : Is img (kind_of 29) n
        is = is_at low e

        up : (c : ℕ) → c ≡ field img n 0 → eqb (get_or atom_kinds c no_child) no_child ≡ false → FineAt img t (field img n 1) (rows_at img t true n (field img n 1)) → FineAt img t n (inside img t true n)
        up c q s f =
            fine-as img t (sym (case-inside img t true (inner plain) atom_kinds is (λ ts. refl) c q refl s))
            (case-up img t (inner plain) atom_kinds is (λ ts. refl) c q refl s f)

        other : (c : ℕ) → c ≡ field img n 0 → eqb (get_or atom_kinds c no_child) no_child ≡ false → T (ordinary (get_or atom_kinds c no_child)) → FineAt img t n (inside img t true n)
        other c q s ord2 =
            up c q s
            (child-fine n low ih true (case-child img (inner plain) atom_kinds is c _ q refl s) ord2
            (λ z. step e (λ x. omega arith) (λ x. omega arith) (λ x. omega arith) (λ x. omega arith) (atom (record { below = low; kind = e })) (stands-case img (inner plain) atom_kinds is c q s)))

        go : (c : ℕ) → c ≡ field img n 0 → c < 3 → FineAt img t n (inside img t true n)
        go zero q l = other 0 q refl tt
        go (suc zero) q l = up 1 q refl (defined-fine e (sym q) (case-child img (inner plain) atom_kinds is 1 _ q refl refl))
        go (suc (suc zero)) q l = other 2 q refl tt
        go (suc (suc (suc c))) q l = absurd (omega arith)

  -- patterns -------------------------------------------------------------------------------------------------------
  -- an ident head that names a constructor
  ctor-yes : {h : ℕ} → Is img (kind_of 15) h → is_ctor img t (tree_at img h) ≡ true → (0 ≡ field img h 0) × (is_kind img 9 (at_exit img t h (field img h 1)) ≡ true)
  ctor-yes {h} is e = go (ℕ_discrete 0 (field img h 0))
    where
      go : Dec (0 ≡ field img h 0) → (0 ≡ field img h 0) × (is_kind img 9 (at_exit img t h (field img h 1)) ≡ true)
      go (yes q) = (q, sym (ctor-ident img t is q refl) ∙ e)
      go (no q) = absurd (false≢true (sym (ctor-none img t is q) ∙ e))

  -- row 3 at an argument
  module _ (n : ℕ) (kn : Node img 35 n) where
    -- its pattern, the application, its head and its arguments
    abbrev pattern_at : ℕ
    pattern_at = field img n 0

    abbrev app_at : ℕ
    app_at = field img pattern_at 1

    abbrev head_at : ℕ
    head_at = field img app_at 0

    abbrev args_at : ℕ
    args_at = field img app_at 1

    argument-fine : 2 ≡ field img pattern_at 0 → Applied img t n head_at args_at → is_ctor img t (tree_at img head_at) ≡ true → (i : ℕ) → i < field img args_at 0
        → FineAt img t (field img args_at (1 + i)) (arg_row img t (tree_at img (field img args_at (1 + i))))
    unfolding kind_of FormedFields
    argument-fine e ap2 c i lt = go (ℕ_discrete 0 (field img x 0))
      where
        x : ℕ
        x = field img args_at (1 + i)

        k : Child img args_at 12 x
        k = (fields-of img ap2.args).0 i lt

        is : Is img (kind_of 12) x
        is = child-is img ap2.args k

        go : Dec (0 ≡ field img x 0) → FineAt img t x (arg_row img t (tree_at img x))
        go (no q) = fine-no img t (arg-none img t is q)
        go (yes q) =
            let y = ctor-yes ap2.head c in
            fine-as img t (sym (arg-ident img t is q refl))
            (at_row img t (is_var img (at_entry img t x (field img x 1))) 3 is
            (λ b. inr (inr (
              refl,
              record {
                i = field img x 1;
                case = n;
                pattern = pattern_at;
                app = app_at;
                head = head_at;
                ctor = field img head_at 1;
                list = args_at;
                place = i;
                term = record { node = record { below = is.below; kind = k.kind }; case = sym q; ident = refl };
                is_case = kn;
                pattern_of = refl;
                applies = sym e;
                app_of = refl;
                head_of = refl;
                is_ident = sym y.0;
                ctor_of = refl;
                is_ctor = y.1;
                list_of = refl;
                within = lt;
                argument = refl;
                seen = b;
              },
            ))))

    pattern-fine : FineAt img t (field img n 0) (of_pattern img t n)
    unfolding kind_of FormedFields ordered all_kids
    pattern-fine = go (ℕ_discrete 2 (field img pattern_at 0))
      where
        is : Is img (kind_of 35) n
        is = is_at kn.below kn.kind

        ip : Is img (kind_of 12) pattern_at
        ip = case-pattern img is refl

        args : 2 ≡ field img pattern_at 0 → Applied img t n head_at args_at → is_ctor img t (tree_at img head_at) ≡ true → FineAt img t pattern_at (of_args img t args_at)
        args e a c =
            let app = child-is img ip (case-child img (inner term) term_kinds ip 2 app_at e refl refl) in
            case-up img t (inner term) term_kinds ip (λ ts. refl) 2 e refl refl
            (at-node img t app
            (subst (λ (us : Trees). Fine img t us (of_args img t args_at)) (sym (kids-of img (inner plain) (child 15 ∷ child 22 ∷ []) app (λ ts. refl)))
            (fine-rest img t (tree_at img head_at)
            (at-node img t a.args
            (subst (λ (us : Trees). Fine img t us (arg_rows img t us)) (sym (kids-of img (inner plain) (list 12 ∷ []) a.args (λ ts. refl) ∙ append-none _))
            (args-fine img t args_at (field img args_at 0) 1 (argument-fine e a c)))))))

        go : Dec (2 ≡ field img pattern_at 0) → FineAt img t pattern_at (of_pattern img t n)
        go (no q) = fine-no img t (no-pattern img t is refl q)
        go (yes q) = pick (is_ctor img t (tree_at img head_at)) refl
          where
            a : Applied img t n head_at args_at
            a = applied img t is refl q refl refl refl

            pick : (b : Bool) → is_ctor img t (tree_at img head_at) ≡ b → FineAt img t pattern_at (of_pattern img t n)
            pick true e = fine-as img t (sym (applied-yes img t a refl e)) (args q a e)
            pick false e = fine-no img t (applied-no img t a refl e)

  -- every kind -----------------------------------------------------------------------------------------------------
  module _ (n : ℕ) (low : n < nodes img) (ih : (c : ℕ) → c < n → c < nodes img → Claim c) where
    -- a match case; it does not stand in a then-atom
    case-fine : kind_at img n ≡ 35 → Claim n
    unfolding kind_of ordered FormedFields next all_kids
    case-fine e true w ord o = absurd (subst (λ (k : ℕ). T (then_kind k)) e (then-node img accepted (w refl)).1)
    case-fine e false w ord o =
        let is = is_at low e in
        fine-as img t (sym (case_rows img t false o is ∙ case-whole img t is refl))
        (at-node img t is
        (subst (λ (us : Trees). Fine img t us (of_pattern img t n ++ listed img t false n (field img n 1) 2))
        (sym (kids-of img (inner case) (child 12 ∷ list 36 ∷ []) is (λ ts. refl) ∙ ap (λ (us : Trees). tree_at img (field img n 0) ◂ us) (append-none (items img n (field img n 1) 2))))
        (fine-cons img t (pattern-fine n (record { below = low; kind = e }))
        (items-fine img t false n (field img n 1) 2 (λ i k. child-fine n low ih false ((fields-of img is).1.0 i k) tt (λ z. absurd (false≢true z)))))))

    -- a node of a class without rows
    bare-fine : {kd : Kind} → Is img kd n → ((k : ℕ) (sh : List ℕ) (ts : Trees) (a : Bool) (o : ℕ) → rows_of img t a o (node n k kd.class sh ts) ≡ []) → Claim n
    unfolding node_of
    bare-fine is h a w ord o = fine-no img t (ap (rows_of img t a o) (tree_of img is) ∙ h _ _ _ a o)

    claim : Claim n
    unfolding rows_of
    claim = go (kind_of (kind_at img n)).class refl
      where
        k : ℕ
        k = kind_at img n

        kind-is : (cl : Class) → (kind_of k).class ≡ cl → T (kind_for cl k)
        kind-is cl e = subst (λ (c : Class). T (kind_for c k)) e (kinds-for k (low-kind img accepted n low))

        is-by : (cl : Class) → (kind_of k).class ≡ cl → Is img (kind_by cl (kind_of k).fields) n
        is-by cl e = record { accepted = accepted; below = low; kind = ap (λ (c : Class). kind_by c (kind_of k).fields) e }

        plain-or : Dec (k ≡ 29) → (kind_of k).class ≡ inner plain → Claim n
        plain-or (yes q) e = atom-fine n low ih q
        plain-or (no q) e = plain-fine n low ih _ (is-by (inner plain) e) q

        go : (cl : Class) → (kind_of k).class ≡ cl → Claim n
        go (outer c) e = bare-fine (is-by (outer c) e) (λ k2 sh ts a o. refl)
        go (inner plain) e = plain-or (ℕ_discrete k 29) e
        go (inner term) e = term-fine n low ih (eqb→eq _ _ (kind-is (inner term) e))
        go (inner ident) e = λ a w ord o. absurd (not_equal {k = k} 13 (and_both (not (eqb k 13)) (not (eqb k 34)) ord).0 (eqb→eq _ _ (kind-is (inner ident) e)))
        go (inner head) e = head-fine n low ih (eqb→eq _ _ (kind-is (inner head) e))
        go (inner head_member) e = receiver-fine n low ih (eqb→eq _ _ (kind-is (inner head_member) e))
        go (inner member) e = member-fine n low ih (eqb→eq _ _ (kind-is (inner member) e))
        go (inner case) e = case-fine (eqb→eq _ _ (kind-is (inner case) e))
        go (inner if_var) e = bare-fine (is-by (inner if_var) e) (λ k2 sh ts a o. refl)
        go (inner defined_then) e = λ a w ord o. absurd (not_equal {k = k} 34 (and_both (not (eqb k 13)) (not (eqb k 34)) ord).1 (eqb→eq _ _ (kind-is (inner defined_then) e)))
        go (inner arg) e = bare-fine (is-by (inner arg) e) (λ k2 sh ts a o. refl)

  claims : (m n : ℕ) → n < m → n < nodes img → Claim n
  claims zero n l low = absurd (omega arith)
  claims (suc m) n l low = claim n low (λ c b lc. claims m c (omega arith) lc)

  -- declarations ---------------------------------------------------------------------------------------------------
  stmts-fine : (n c j : ℕ) → n < nodes img → ((i : ℕ) → i < c → Child img n 36 (field img n (j + i))) → Fine img t (items img n c j) (listed img t false n c j)
  stmts-fine n c j low h =
      items-fine img t false n c j
      (λ i l. let k = h i l in
      claims (suc (field img n (j + i))) (field img n (j + i)) (omega arith) (let b = k.below in omega arith) false (λ z. absurd (false≢true z)) (ordinary-at _ k.kind tt) n)

  abbrev Declares : ℕ → Type 0
  Declares n = kind_at img n ≡ 1 → FineAt img t n (decl_rows img t (tree_at img n))

  decls-in : (n c j : ℕ) → n < nodes img → ((x : ℕ) → x < n → x < nodes img → Declares x) → ((i : ℕ) → i < c → Child img n 1 (field img n (j + i)))
      → Fine img t (items img n c j) (declared img t n c j)
  decls-in n c j low ih h = decls-fine img t n c j (λ i l. let q = h i l in ih _ q.below (let x = q.below in omega arith) q.kind)

  module _ (n : ℕ) (low : n < nodes img) (ih : (c : ℕ) → c < n → c < nodes img → Declares c) where
    decl-fine : Declares n
    unfolding kind_of ordered FormedFields next all_kids
    decl-fine e = go (ℕ_discrete 4 (field img n 0)) (ℕ_discrete 6 (field img n 0))
      where
        is : Is img (kind_of 1) n
        is = is_at low e

        up : (c : ℕ) → c ≡ field img n 0 → eqb (get_or decl_kinds c no_child) no_child ≡ false → FineAt img t (field img n 1) (decl_rows img t (tree_at img (field img n 1))) → FineAt img t n (decl_rows img t (tree_at img n))
        up c q s f = fine-as img t (sym (decl-child img t is c q refl s).1) (case-up img t (outer decl) decl_kinds is (λ ts. refl) c q refl s f)

        rule-up : 4 ≡ field img n 0 → FineAt img t (field img n 1) (decl_rows img t (tree_at img (field img n 1)))
        rule-up q =
            let h = (decl-child img t is 4 q refl refl).0 in
            let ir = child-is img is h in
            let d = field img n 1 in
            fine-as img t (sym (rule-rows img t ir))
            (at-node img t ir
            (subst (λ (us : Trees). Fine img t us (listed img t false d (field img d 1) 2)) (sym (kids-of img (outer rule) (opt_name ∷ list 36 ∷ []) ir (λ ts. refl) ∙ append-none _))
            (stmts-fine d (field img d 1) 2 ir.below (fields-of img ir).1.0)))

        model-up : 6 ≡ field img n 0 → FineAt img t (field img n 1) (decl_rows img t (tree_at img (field img n 1)))
        model-up q =
            let h = (decl-child img t is 6 q refl refl).0 in
            let ir = child-is img is h in
            let d = field img n 1 in
            fine-as img t (sym (model-rows img t ir))
            (at-node img t ir
            (subst (λ (us : Trees). Fine img t us (declared img t d (field img d 1) 2)) (sym (kids-of img (outer model) (name ∷ list 1 ∷ []) ir (λ ts. refl) ∙ append-none _))
            (decls-in d (field img d 1) 2 ir.below (λ x b lx. ih x (let y = h.below in omega arith) lx) (fields-of img ir).1.0)))

        go : Dec (4 ≡ field img n 0) → Dec (6 ≡ field img n 0) → FineAt img t n (decl_rows img t (tree_at img n))
        go (yes q) r = up 4 q refl (rule-up q)
        go (no q) (yes r) = up 6 r refl (model-up r)
        go (no q) (no r) = fine-no img t (decl-none img t is q r)

  declares : (m n : ℕ) → n < m → n < nodes img → Declares n
  declares zero n l low = absurd (omega arith)
  declares (suc m) n l low = decl-fine n low (λ c b lc. declares m c (omega arith) lc)

  -- the plain rows of the module
  pub plain-all : FineAt img t (last img) (plain_rows img t)
  unfolding kind_of ordered FormedFields all_kids plain_rows last
  plain-all =
      let n = last img in
      let low = last-below img accepted in
      let is = is_at low (formed img accepted).root in
      fine-as img t (sym (module-rows img t is))
      (at-node img t is
      (subst (λ (us : Trees). Fine img t us (declared img t n (field img n 0) 1)) (sym (kids-of img (outer root) (list 1 ∷ []) is (λ ts. refl) ∙ append-none _))
      (decls-in n (field img n 0) 1 low (λ c b lc. declares (suc c) c (omega arith) lc) (fields-of img is).0)))
