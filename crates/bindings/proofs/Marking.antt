-- Laws of strict mode's marks.
use mathlib.Core.Path.{◌≡◌, refl, sym, ap, ap₂, subst, ◌∙◌}
use mathlib.Core.Bool.{Bool, true, false, ◌||◌}
use mathlib.Core.List.{List, [], ◌∷◌, ◌++◌, append_assoc}
use Prim.Native.Nat.{ℕ, zero, suc, ◌+◌, ◌-◌, ◌*◌, ◌/◌, ◌<◌, ◌≤◌}
use native.Mathlib.Nat.{sub-zero, add-zero}
use native.Mathlib.Decide.{dec_lt}
use Rattle.std.specs.Prelude.{min}
use Rattle.std.proofs.Math.Nat.{min-le_left, min-le_right, le-min}
use native.Mathlib.Numerals.{add-one}
use native.Mathlib.Omega.{arith}
use lib.Dec.{eqb}
use lib.ListN.{length, get_or, set, replicate, length-set, length-replicate}
use lib.Seq.{get_or-set_same, get_or-set_other}
use borrow.Author.Tests.{eq-eqb, ne_eqb, eqb-true, eqb-false}
use Rattle.ast.specs.Image.{nodes, kind_at, start_at, field}
use Rattle.ast.specs.Kinds.{kind_of}
use Rattle.ast.specs.Rows.{ops_from}
use Rattle.ast.specs.Tests.{verdict}
use Rattle.ast.specs.Is.{Is, Run}
use Rattle.ast.proofs.Blank.{blank}
use Rattle.ast.proofs.Shapes.{one_more, run-list}
use Rattle.ast.proofs.Accepted.{sized}
use Rattle.typed.specs.RowShapes.{Listed}
use Rattle.typed.specs.declared.nodes.NodeList.{NodeList}
use Rattle.typed.specs.declared.nodes.ArgDeclId.{ArgDeclId}
use Rattle.typed.specs.declared.items.Items.{Items}
use Rattle.typed.specs.Items.{Others}
use Rattle.ast.specs.declared.NodeId.{NodeId}
use Rattle.typed.proofs.Lists.{at-list}
use Rattle.scopes.specs.Twice.{among}
use Rattle.rows.specs.Rows.{Row, row, when}
use Rattle.bindings.specs.Errors.{repeated, args_of, repeated_in, repeated_to, strict_from, strict_rows}
use Rattle.scopes.specs.Promises.{Stamped}
use Rattle.bindings.specs.Promises.{marked, Earlier, Met, MarkedOne, AllMarked, span_rows, group_rows}

pub marked_append : (ns ks : List ℕ) (ms : List Bool) → marked (ns ++ ks) ms ≡ marked ks (marked ns ms)
unfolding marked
marked_append [] ks ms = refl
marked_append (n ∷ ns) ks ms = marked_append ns ks (set ms n true)

-- what stands at a node: true where it is in the list
pub marked-at : (ns : List ℕ) (ms : List Bool) (n : ℕ) → n < length ms → get_or (marked ns ms) n false ≡ among n ns || get_or ms n false
unfolding marked among
marked-at [] ms n l = refl
marked-at (m ∷ ns) ms n l =
    marked-at ns (set ms m true) n (subst (λ (x : ℕ). n < x) (sym (length-set ms m true)) l) ∙ go (among n ns) (eqb n m) refl
  where
    go : (b e : Bool) → eqb n m ≡ e → b || get_or (set ms m true) n false ≡ (e || b) || get_or ms n false
    go true true q = refl
    go true false q = refl
    go false true q = ap (λ (x : ℕ). get_or (set ms x true) n false) (sym (eqb-true n m q)) ∙ get_or-set_same ms n true false l
    go false false q = get_or-set_other ms m n true false (eqb-false n m q)

-- the mark of a node
pub mark-test : (ns : List ℕ) (n : ℕ) → n < 2048 → get_or (marked ns (replicate 2048 false)) n false ≡ among n ns
mark-test ns n l =
    marked-at ns (replicate 2048 false) n (subst (λ (x : ℕ). n < x) (sym (length-replicate {A = Bool} 2048 false)) l)
    ∙ go (among n ns) (blank false 2048 n)
  where
    go : (b : Bool) {x : Bool} → x ≡ false → b || x ≡ b
    go true z = refl
    go false z = z

-- what was met of a list by its stamps
pub none-earlier : {l : List ℕ} → l ≡ replicate 1024 0 → Earlier 0 l
none-earlier e x = let z = ap (λ (l : List ℕ). get_or l x 0) e ∙ blank 0 1024 x in omega arith

module _ (m : ℕ) where
  pub met_none : {l : List ℕ} → Earlier m l → Met m [] l
  unfolding among
  met_none h = record { met = λ x. ne_eqb _ _ (λ e. let z = h x in omega arith); earlier = λ x. let z = h x in omega arith }

  -- a name more: by its stamp, whether it was met before
  module _ {seen l k : List ℕ} {r : Bool} (x : ℕ) (h : Met m seen l) (s : Stamped l x m r k) where
    met-again : r ≡ false → among x seen ≡ true
    met-again e = sym (h.met x) ∙ eq-eqb _ _ (s.old e).0

    met-first : r ≡ true → among x seen ≡ false
    met-first e = sym (h.met x) ∙ ne_eqb _ _ (s.new e).0

    met-next : Met m (x ∷ seen) k
    unfolding among
    met-next = go r refl
      where
        same : among x seen ≡ true → (y : ℕ) (b : Bool) → eqb y x ≡ b → eqb (get_or l y 0) (suc m) ≡ b || among y seen
        same a y true q = h.met y ∙ ap (λ (z : ℕ). among z seen) (eqb-true _ _ q) ∙ a
        same a y false q = h.met y

        -- what stands at a name after the stamp
        stamped : x < length l → (y : ℕ) (b : Bool) → eqb y x ≡ b → get_or (set l x (suc m)) y 0 ≡ elim b as (λ _. ℕ) [ true ↦ suc m | false ↦ get_or l y 0 ]
        stamped w y true q = ap (λ (z : ℕ). get_or (set l x (suc m)) z 0) (eqb-true y x q) ∙ get_or-set_same l x (suc m) 0 w
        stamped w y false q = get_or-set_other l x y (suc m) 0 (eqb-false y x q)

        put : {v : ℕ} (y : ℕ) (b : Bool) → v ≡ elim b as (λ _. ℕ) [ true ↦ suc m | false ↦ get_or l y 0 ] → eqb v (suc m) ≡ b || among y seen
        put y true q = eq-eqb _ _ q
        put y false q = ap (λ (v : ℕ). eqb v (suc m)) q ∙ h.met y

        low : {v : ℕ} (y : ℕ) (b : Bool) → v ≡ elim b as (λ _. ℕ) [ true ↦ suc m | false ↦ get_or l y 0 ] → v ≤ suc m
        low y true q = omega arith
        low y false q = let u = h.earlier y in omega arith

        go : (b : Bool) → r ≡ b → Met m (x ∷ seen) k
        go true e =
            let w = (s.new e).1 in
            subst (Met m (x ∷ seen)) (sym (s.new e).2)
            (record { met = λ y. put y (eqb y x) (stamped w y (eqb y x) refl); earlier = λ y. low y (eqb y x) (stamped w y (eqb y x) refl) })
        go false e = subst (Met m (x ∷ seen)) (sym (s.old e).1) (record { met = λ y. same (met-again e) y (eqb y x) refl; earlier = h.earlier })

-- one argument
module _ (img : List ℕ) (m n : ℕ) (ms : List Bool) (l : List ℕ) where
  pub mark-unnamed : {w : ℕ} → w ≡ field img n 0 → w ≡ 0 → MarkedOne img m n ms l ms l
  unfolding repeated
  mark-unnamed e z = record {
    so = λ seen h. (
      seen,
      h,
      λ ns. ap (λ (w : ℕ). marked (elim w as (λ _. List ℕ) [
        | zero ↦ repeated img seen ns
        | suc x ↦ elim (among x seen) [ true ↦ n ∷ repeated img (x ∷ seen) ns | false ↦ repeated img (x ∷ seen) ns ]
      ]) ms) (sym e ∙ z),
    );
  }

  -- of the name x, whose word is w
  module _ {w : ℕ} {r : Bool} {k : List ℕ} (x : ℕ) (e : w ≡ field img n 0) (z : w ≡ suc x) (s : Stamped l x m r k) where
    named : {b : Bool} (seen ns : List ℕ) → among x seen ≡ b → repeated img seen (n ∷ ns) ≡ elim b as (λ _. List ℕ) [ true ↦ n ∷ repeated img (x ∷ seen) ns | false ↦ repeated img (x ∷ seen) ns ]
    unfolding repeated
    named seen ns a = ap (λ (w : ℕ). elim w as (λ _. List ℕ) [
      | zero ↦ repeated img seen ns
      | suc y ↦ elim (among y seen) [ true ↦ n ∷ repeated img (y ∷ seen) ns | false ↦ repeated img (y ∷ seen) ns ]
    ]) (sym e ∙ z) ∙ ap (λ (b : Bool). elim b as (λ _. List ℕ) [ true ↦ n ∷ repeated img (x ∷ seen) ns | false ↦ repeated img (x ∷ seen) ns ]) a

    pub mark-new : r ≡ true → MarkedOne img m n ms l ms k
    mark-new q = record { so = λ seen h. (x ∷ seen, met-next m x h s, λ ns. ap (λ (k : List ℕ). marked k ms) (named seen ns (met-first m x h s q))) }

    pub mark-again : {vs : List Bool} → r ≡ false → vs ≡ set ms n true → MarkedOne img m n ms l vs k
    unfolding marked
    mark-again q v = record {
      so = λ seen h. (x ∷ seen, met-next m x h s, λ ns. ap (λ (k : List ℕ). marked k ms) (named seen ns (met-again m x h s q)) ∙ ap (marked (repeated img (x ∷ seen) ns)) (sym v));
    }

-- the arguments of a list that are left
abbrev pub args_left : Items ArgDeclId → List ℕ
args_left s = ops_from s.image.now s.left.list.count (start_at s.image.now s.left.list.node.0 + 2 + s.left.list.first)

args-more : {x : ℕ} {s t : Items ArgDeclId} → Others s t → x ≡ field s.image.now s.left.list.node.0 s.left.list.first → args_left s ≡ x ∷ args_left t
unfolding ops_from field
args-more {s = s} {t} o q =
    let p = start_at s.image.now s.left.list.node.0 + 2 in
    let c = t.left.list.count in
    let next : p + s.left.list.first + 1 ≡ p + t.left.list.first = (let f = o.first in omega arith) in
    ap (λ (c : ℕ). ops_from s.image.now c (p + s.left.list.first)) o.count
    ∙ ap₂ ◌∷◌ (sym q)
    (ap (ops_from s.image.now c) next ∙ ap₂ (λ (i : List ℕ) (m : NodeId). ops_from i c (start_at i m.0 + 2 + t.left.list.first)) (sym o.image) (sym o.node))

pub args-none : (s : Items ArgDeclId) → s.left.list.count ≡ 0 → args_left s ≡ []
unfolding ops_from
args-none s e = ap (λ (c : ℕ). ops_from s.image.now c (start_at s.image.now s.left.list.node.0 + 2 + s.left.list.first)) e

module _ (img : List ℕ) where
  pub no-list : (m : ℕ) (ms : List Bool) → (kind_at img m ≡ 11 → ⊥) → ms ≡ marked (repeated_in img m) ms
  unfolding repeated_in marked
  no-list m ms h = sym (ap (λ (b : Bool). marked (elim b as (λ _. List ℕ) [ true ↦ repeated img [] (args_of img m) | false ↦ [] ]) ms) (ne_eqb _ _ h))

  pub arguments : {m : ℕ} → verdict img ≡ 0 → m < nodes img → kind_at img m ≡ 11 → Run img 10 m 1 (field img m 0)
  unfolding kind_of
  arguments {m} a l e = let is : Is img (kind_of 11) m = record { accepted = a; below = l; kind = ap kind_of e } in run-list img is refl

  pub list-start : {m : ℕ} {l : NodeList} {s start : Items ArgDeclId} → start ≡ s → kind_at img m ≡ 11 → Listed img m 0 l → (s.image.now ≡ img) × (s.left.list ≡ l) → (ms : List Bool)
      → marked (repeated_in img m) ms ≡ marked (repeated img [] (args_left start)) ms
  unfolding repeated_in args_of
  list-start {m} {l} {s} e k q h ms =
      ap (λ (b : Bool). marked (elim b as (λ _. List ℕ) [ true ↦ repeated img [] (args_of img m) | false ↦ [] ]) ms) (eq-eqb _ _ k)
      ∙ ap (λ (ns : List ℕ). marked (repeated img [] ns) ms)
      (at-list img (λ (n f c : ℕ). ops_from img (field img m 0) (start_at img m + 3) ≡ ops_from img c (start_at img n + 2 + f)) q (ap (ops_from img (field img m 0)) (let z : start_at img m + 3 ≡ start_at img m + 2 + 1 = omega arith in z))
      ∙ ap₂ (λ (i : List ℕ) (l : NodeList). ops_from i l.count (start_at i l.node.0 + 2 + l.first)) (sym h.0) (sym h.1)
      ∙ ap args_left (sym e))

  -- what is left of a list to mark, after the names of those before
  pub record Marking (node : ℕ) (whole : List Bool) (s : Items ArgDeclId) (ms : List Bool) (l : List ℕ) : Type 0 where
    pub seen : List ℕ
    pub met : Met node seen l
    pub marks : whole ≡ marked (repeated img seen (args_left s)) ms

  pub list-begin : {node : ℕ} {whole ms : List Bool} {l : List ℕ} {s : Items ArgDeclId} → Earlier node l → whole ≡ marked (repeated img [] (args_left s)) ms → Marking node whole s ms l
  list-begin {node} e h = record { seen = []; met = met_none node e; marks = h }

  -- one argument more
  pub list-next : {node x : ℕ} {s t : Items ArgDeclId} {whole ms vs : List Bool} {l k : List ℕ} → Marking node whole s ms l
      → Others s t → x ≡ field s.image.now s.left.list.node.0 s.left.list.first → MarkedOne img node x ms l vs k → Marking node whole t vs k
  list-next {x = x} {t = t} {ms = ms} g o q h =
      let r = h.so g.seen g.met in
      record { seen = r.0; met = r.1; marks = g.marks ∙ ap (λ (ns : List ℕ). marked (repeated img g.seen ns) ms) (args-more o q) ∙ r.2 (args_left t) }

  -- all of them are marked
  pub list_done : {node : ℕ} {whole vs : List Bool} {l : List ℕ} (s : Items ArgDeclId) → Marking node whole s vs l → args_left s ≡ [] → vs ≡ whole
  unfolding repeated marked
  list_done {vs = vs} s g z = sym (g.marks ∙ ap (λ (ns : List ℕ). marked (repeated img g.seen ns) vs) z)

  -- and the stamps are earlier ones for the next node
  pub list-passed : {node : ℕ} {whole ms : List Bool} {l : List ℕ} {s : Items ArgDeclId} → Marking node whole s ms l → Earlier (node + 1) l
  list-passed g x = let q = g.met.earlier x in omega arith

  -- a node: there are at most 2,048
  pub node-low : {n : ℕ} → verdict img ≡ 0 → n < nodes img → n < 2048
  node-low a l = let s = (sized img a).few_nodes in omega arith

pub to-next : (img : List ℕ) (m : ℕ) (ms : List Bool) → marked (repeated_in img m) (marked (repeated_to img m) ms) ≡ marked (repeated_to img (m + 1)) ms
unfolding repeated_to
to-next img m ms = sym (marked_append (repeated_to img m) (repeated_in img m) ms) ∙ ap (λ (x : ℕ). marked (repeated_to img x) ms) (sym (add-one m))

pub to_start : (img : List ℕ) (ms : List Bool) → ms ≡ marked (repeated_to img 0) ms
unfolding repeated_to marked
to_start img ms = refl

-- rows 4
module _ (img : List ℕ) where
  -- what is left from the node m on
  abbrev pub strict_left : ℕ → List Row
  strict_left m = span_rows img m (nodes img)

  pub strict-start : strict_rows img ≡ strict_left 0
  unfolding strict_rows
  strict-start = ap (λ (c : ℕ). strict_from img (repeated_to img (nodes img)) c 0) (sym (sub-zero (nodes img)))

  -- up to an end, one node more
  strict_more : (e m : ℕ) {b : Bool} → m < e → b ≡ among m (repeated_to img (nodes img)) → span_rows img m e ≡ when b (row 4 m) ++ span_rows img (m + 1) e
  unfolding strict_from
  strict_more e m h q =
      ap (λ (c : ℕ). strict_from img (repeated_to img (nodes img)) c m) (one_more h)
      ∙ ap (λ (b : Bool). when b (row 4 m) ++ span_rows img (m + 1) e) (sym q)

  pub strict-end : (e m : ℕ) → e ≤ m → span_rows img m e ≡ []
  unfolding strict_from
  strict-end e m h = let z : e - m ≡ 0 = omega arith in ap (λ (c : ℕ). strict_from img (repeated_to img (nodes img)) c m) z

  module _ {ms : List Bool} {count : ℕ} {l : List Row} (a : verdict img ≡ 0) (h : AllMarked img ms count l) where
    -- the same by the marks
    pub strict-item : {b : Bool} (e m : ℕ) → e ≤ nodes img → m < e → b ≡ get_or ms m false → span_rows img m e ≡ when b (row 4 m) ++ span_rows img (m + 1) e
    strict-item e m k l q =
        strict_more e m l
        (q ∙ ap (λ (xs : List Bool). get_or xs m false) h.all
        ∙ mark-test (repeated_to img (nodes img)) m (node-low img a (let z = l in omega arith)))

    -- none at nodes that are not marked
    skips : (d m : ℕ) → ((n : ℕ) → m ≤ n → n < m + d → get_or ms n false ≡ false) → strict_left m ≡ strict_left (m + d)
    unfolding when
    skips zero m f = ap strict_left (sym (add-zero m))
    skips (suc d) m f = go (dec_lt m (nodes img)) (skips d (m + 1) (λ n p q. f n (omega arith) (omega arith)))
      where
        go : Dec (m < nodes img) → strict_left (m + 1) ≡ strict_left (m + 1 + d) → strict_left m ≡ strict_left (m + suc d)
        go (yes k) more =
            strict-item (nodes img) m (omega arith) k refl
            ∙ ap (λ (b : Bool). when b (row 4 m) ++ strict_left (m + 1)) (f m (omega arith) (omega arith))
            ∙ more
            ∙ ap strict_left (let z : m + 1 + d ≡ m + suc d = omega arith in z)
        go (no k) more = strict-end (nodes img) m (omega arith) ∙ sym (strict-end (nodes img) (m + suc d) (omega arith))

  -- those of some nodes, and those after them
  split_at : (d m : ℕ) → strict_left m ≡ span_rows img m (min (m + d) (nodes img)) ++ strict_left (m + d)
  split_at zero m =
      sym (ap (λ (l : List Row). l ++ strict_left (m + 0)) (strict-end (min (m + 0) (nodes img)) m (let q = min-le_left (m + 0) (nodes img) in omega arith)) ∙ ap strict_left (add-zero m))
  split_at (suc d) m = go (dec_lt m (nodes img)) (split_at d (m + 1))
    where
      after : ℕ
      after = m + suc d

      go : Dec (m < nodes img) → strict_left (m + 1) ≡ span_rows img (m + 1) (min (m + 1 + d) (nodes img)) ++ strict_left (m + 1 + d)
          → strict_left m ≡ span_rows img m (min after (nodes img)) ++ strict_left after
      go (yes k) more =
          let w = when (among m (repeated_to img (nodes img))) (row 4 m) in
          strict_more (nodes img) m k refl
          ∙ ap (λ (l : List Row). w ++ l) (more ∙ ap (λ (n : ℕ). span_rows img (m + 1) (min n (nodes img)) ++ strict_left n) (let z : m + 1 + d ≡ after = omega arith in z))
          ∙ sym (append_assoc w (span_rows img (m + 1) (min after (nodes img))) (strict_left after))
          ∙ ap (λ (l : List Row). l ++ strict_left after) (sym (strict_more (min after (nodes img)) m (le-min {k = suc m} {a = after} {b = nodes img} (omega arith) (omega arith)) refl))
      go (no k) more =
          strict-end (nodes img) m (omega arith)
          ∙ sym (ap (λ (l : List Row). l ++ strict_left after) (strict-end (min after (nodes img)) m (let q = min-le_right after (nodes img) in omega arith)) ∙ strict-end (nodes img) after (omega arith))

  -- the group g: its rows, and none where no node of it is marked
  pub group-next : (g : ℕ) → strict_left (g * 32) ≡ group_rows img g ++ strict_left ((g + 1) * 32)
  group-next g = split_at 32 (g * 32) ∙ ap (λ (m : ℕ). group_rows img g ++ strict_left m) (let z : g * 32 + 32 ≡ (g + 1) * 32 = omega arith in z)

  pub group-none : {ms : List Bool} {count : ℕ} {l : List Row} → verdict img ≡ 0 → AllMarked img ms count l → (g : ℕ) → ((n : ℕ) → n / 32 ≡ g → get_or ms n false ≡ false)
      → strict_left (g * 32) ≡ strict_left ((g + 1) * 32)
  group-none a h g f = skips a h 32 (g * 32) (λ n p q. f n (let z : n / 32 ≡ g = omega arith in z)) ∙ ap strict_left (let z : g * 32 + 32 ≡ (g + 1) * 32 = omega arith in z)

  -- a node before the end of a group
  pub group_end : {e k m : ℕ} (g : ℕ) → e ≡ min (g * 32 + 32) k → k ≡ nodes img → m < e → (m < min (g * 32 + 32) (nodes img)) × (m < nodes img)
  group_end {m = m} g q c l =
      let z : m < min (g * 32 + 32) (nodes img) = subst (λ (e : ℕ). m < e) (q ∙ ap (min (g * 32 + 32)) c) l in
      (z, let r = min-le_right (g * 32 + 32) (nodes img) in omega arith)
