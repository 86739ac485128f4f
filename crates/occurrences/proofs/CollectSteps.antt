-- What a collector's calls ask and what they give together, by what the typed read of the row gives.
use mathlib.Core.Path.{◌≡◌, refl, sym, ap, ap₂, subst, ◌∙◌}
use mathlib.Core.Bool.{true, false}
use mathlib.Core.List.{List, [], ◌∷◌, ◌++◌}
use mathlib.Core.Option.{some}
use Prim.Native.Nat.{ℕ, suc, ◌+◌, ◌<◌, ◌^◌}
use native.Mathlib.Omega.{arith}
use native.Mathlib.Nat.{add-zero}
use lib.Dec.{eqb}
use lib.ListN.{length, get_or, length-append}
use Rattle.std.specs.Prelude.{Option as Given, Some, None}
use Rattle.ast.specs.Image.{field, name_of}
use Rattle.ast.specs.Kinds.{Class, inner, plain, head_member, member, case, child, list, cases, no_child, Kind, kind_of}
use Rattle.ast.specs.Named.{app_head_kind, app_head_member_kind, app_term_kind, branch_stmt_kind, defined_then_atom_kind, ident_term_kind, if_atom_kind, if_stmt_kind, match_case_kind, match_stmt_kind, pred_atom_kind, pred_expr_kind, stmt_kind, term_kind, term_list_kind, term_member_kind, then_atom_kind, then_stmt_kind, type_expr_kind, var_if_atom_kind}
use Rattle.ast.specs.Tree.{Trees, ordered, tree_at}
use Rattle.ast.specs.Is.{Is, kind_by, one_term, two_terms}
use Rattle.ast.proofs.Row.{Child, FormedFields, next}
use Rattle.ast.proofs.Shapes.{row, child-is, case-child, run-list, run-tail}
use Rattle.typed.specs.Nodes.{term_word}
use Rattle.typed.specs.RowShapes.{One, Two, Listed, WordList}
use Rattle.typed.specs.declared.nodes.NodeList.{NodeList}
use Rattle.typed.specs.declared.nodes.TermId.{TermId}
use Rattle.typed.specs.declared.nodes.Ids.{Ids}
use Rattle.typed.specs.declared.nodes.StmtId.{StmtId}
use Rattle.typed.specs.declared.items.Items.{Items}
use Rattle.typed.specs.declared.items.Blocks.{Blocks}
use Rattle.typed.specs.Items.{Others, trees_of, OtherBlocks, block_trees}
use Rattle.typed.proofs.Lists.{at-list, Within, begun, begun-row, taken, none-left, BlocksWithin, blocks-begun, block-taken, no-block-left}
use Rattle.table.specs.Table.{Table, is_var}
use Rattle.environment.specs.Asked.{asked, Asks}
use Rattle.environment.proofs.Asking.{ident-below}
use Rattle.rows.specs.declared.Rows.{Rows}
use Rattle.rows.specs.Rows.{Row, row as row_of, put_rows, Appends}
use Rattle.rows.proofs.Parts.{appends-as, appends-no, Left, left-start, left-next, left-room, left_end}
use Rattle.occurrences.specs.Spots.{spots}
use Rattle.occurrences.specs.Occurrences.{found, rows_for}
use Rattle.occurrences.specs.Promises.{spot, ident_rows, rows_in, rows_at, rows_of, Room, Ready, ReadyRun, ReadyAll}
use Rattle.occurrences.proofs.CollectRows.{bare, threads, ident-var, ident-rows, owner, one-rows, two-rows, first_rows, if_var-rows, undefined-rows, defined-rows, case_rows, seq_rows, seq-none, list-rows, items-more, child-list-rows, branch-rows, blocks-more}

-- rows that are equal to what was appended
pub appends-to : {l k : List Row} {a b : Rows} → l ≡ k → Appends k a b → Appends l a b
appends-to e h = appends-as (sym e) h

-- what stands and what is left is the whole
pub left-count : {w k : List Row} {start now : Rows} → Left w k start now → now.count + length k ≡ start.count + length w
left-count {k = k} {now = now} h =
    (h.so (record now { count = now.count + length k; words = record now.words { now = put_rows now.nodes now.count k now.words.now } }) (record { appended = record { count = refl; words = refl }; nodes = refl; lent = refl })).appended.count

module _ (img : List ℕ) (t : Table) where
  -- an ident's row
  pub ident-put : (n i : ℕ) {b : ℕ} {old new : Rows} → found img t (spot n i) ≡ some b → is_var img (some b) ≡ true → Appends (row_of n b ∷ []) old new → Appends (ident_rows img t n i) old new
  ident-put n i {b} e k a = appends-to (ident-var img t n i b e k) a

-- what a collector asks
room_as : {l k : List Row} {c : ℕ} → l ≡ k → Room l c → Room k c
room_as {c = c} e h = subst (λ (l : List Row). Room l c) e h

room-first : (l k : List Row) {c : ℕ} → Room (l ++ k) c → Room l c
room-first l k h = record { fits = (let f = h.fits in let g = length-append l k in omega arith) }

room-second : (l k : List Row) {c r : ℕ} → Room (l ++ k) c → r ≡ c + length l → Room k r
room-second l k h e = record { fits = (let f = h.fits in let g = length-append l k in omega arith) }

module _ (img : List ℕ) (t : Table) where
  -- one child, whose rows are the node's
  pub record Sub (kd : Kind) (n d c : ℕ) : Type 0 where
    pub low : d < n
    pub ready : Ready img t kd d c
    pub whole : rows_in img t n ≡ rows_in img t d

  sub_of : {kd : Kind} (k : ℕ) {n d c : ℕ} → Ready img t kd n c → Child img n k d → bare (kind_of k).class ≡ true
      → rows_in img t n ≡ rows_for img t (spots n (tree_at img d)) → Sub (kind_of k) n d c
  sub_of k {n} p h b e =
      let is = child-is img p.is h in
      let w = e ∙ owner img t is b n in
      record { low = h.below; ready = record { is = is; room = room_as w p.room }; whole = w }

  -- the child of a child
  under : {kd ke : Kind} {n d e c : ℕ} → Sub kd n d c → Sub ke d e c → Sub ke n e c
  under a b = record { low = (let l = a.low in let m = b.low in omega arith); ready = b.ready; whole = a.whole ∙ b.whole }

  -- two children, one after the other
  pub record Pair (k l n a b c : ℕ) : Type 0 where
    pub low : a < n
    pub low2 : b < n
    pub first : Ready img t (kind_of k) a c
    pub second : {r : ℕ} → r ≡ c + length (rows_in img t a) → Ready img t (kind_of l) b r
    pub whole : rows_in img t n ≡ rows_in img t a ++ rows_in img t b

  pair_of : {kd : Kind} {k l n a b c : ℕ} → Ready img t kd n c → Child img n k a → Child img n l b → bare (kind_of k).class ≡ true → bare (kind_of l).class ≡ true
      → rows_in img t n ≡ rows_for img t (spots n (tree_at img a)) ++ rows_for img t (spots n (tree_at img b)) → Pair k l n a b c
  pair_of {n = n} {a} {b} p h h2 u v e =
      let is = child-is img p.is h in
      let is2 = child-is img p.is h2 in
      let w = e ∙ ap₂ ◌++◌ (owner img t is u n) (owner img t is2 v n) in
      let room = room_as w p.room in
      record { low = h.below; low2 = h2.below; first = record { is = is; room = room-first _ _ room }; second = λ q. record { is = is2; room = room-second (rows_in img t a) (rows_in img t b) room q }; whole = w }

  pair_under : {kd : Kind} {k l n d a b c : ℕ} → Sub kd n d c → Pair k l d a b c → Pair k l n a b c
  pair_under s p =
      record { low = (let l = s.low in let m = p.low in omega arith); low2 = (let l = s.low in let m = p.low2 in omega arith); first = p.first; second = p.second; whole = s.whole ∙ p.whole }

  one : {k n d c : ℕ} → bare (kind_of k).class ≡ true → Ready img t (kind_by (inner plain) (child k ∷ [])) n c → One img n d → Sub (kind_of k) n d c
  unfolding FormedFields
  one {k} {n} {d} {c} b p q = subst (λ (x : ℕ). Sub (kind_of k) n x c) (sym q) (sub_of k p (row img p.is).0 b (one-rows img t p.is))

  two : {k l n a b c : ℕ} → bare (kind_of k).class ≡ true → bare (kind_of l).class ≡ true → Ready img t (kind_by (inner plain) (child k ∷ child l ∷ [])) n c → Two img n a b → Pair k l n a b c
  unfolding FormedFields next
  two {k} {l} {n} {a} {b} {c} u v p q =
      subst (λ (x : ℕ). Pair k l n x b c) (sym q.first) (subst (λ (x : ℕ). Pair k l n (field img n 0) x c) (sym q.second)
      (pair_of p (row img p.is).0 (row img p.is).1.0 u v (two-rows img t p.is)))

  -- rows below a case: a node d under n, by its row -----------------------------------------------------------------------------
  -- a Dom, Cod or Id term, or a defined-if
  pub one-term : {n d a c : ℕ} → Sub one_term n d c → One img d a → Sub (kind_of term_kind) n a c
  unfolding kind_of bare
  one-term s q = under s (one refl s.ready q)

  -- a Comp term or an Equal atom
  pub two-terms : {n d a b c : ℕ} → Sub two_terms n d c → Two img d a b → Pair term_kind term_kind n a b c
  unfolding kind_of bare
  two-terms s q = pair_under s (two refl refl s.ready q)

  pub app-term : {n d a b c : ℕ} → Sub (kind_of app_term_kind) n d c → Two img d a b → Pair app_head_kind term_list_kind n a b c
  unfolding kind_of bare
  app-term s q = pair_under s (two refl refl s.ready q)

  pub pred-atom : {n d a b c : ℕ} → Sub (kind_of pred_atom_kind) n d c → Two img d a b → Pair pred_expr_kind term_list_kind n a b c
  unfolding kind_of bare
  pred-atom s q = pair_under s (two refl refl s.ready q)

  pub if-stmt : {n d a c : ℕ} → Sub (kind_of if_stmt_kind) n d c → One img d a → Sub (kind_of if_atom_kind) n a c
  unfolding kind_of bare
  if-stmt s q = under s (one refl s.ready q)

  pub then-stmt : {n d a c : ℕ} → Sub (kind_of then_stmt_kind) n d c → One img d a → Sub (kind_of then_atom_kind) n a c
  unfolding kind_of bare
  then-stmt s q = under s (one refl s.ready q)

  -- the receiver of a member, and of an app head's member
  receiver : {n d c : ℕ} → Ready img t (kind_of term_member_kind) n c → d ≡ field img n 0 → Sub (kind_of term_kind) n d c
  unfolding FormedFields kind_of bare ordered spots
  receiver {n} {d} {c} p q =
      subst (λ (x : ℕ). Sub (kind_of term_kind) n x c) (sym q) (sub_of term_kind p (row img p.is).0 refl (first_rows img t (inner member) p.is (λ ts. refl) (λ x sh ts. refl)))

  head_receiver : {n d c : ℕ} → Ready img t (kind_of app_head_member_kind) n c → d ≡ field img n 0 → Sub (kind_of term_kind) n d c
  unfolding FormedFields kind_of bare ordered spots
  head_receiver {n} {d} {c} p q =
      subst (λ (x : ℕ). Sub (kind_of term_kind) n x c) (sym q) (sub_of term_kind p (row img p.is).0 refl (first_rows img t (inner head_member) p.is (λ ts. refl) (λ x sh ts. refl)))

  pub term-member : {n d a b c : ℕ} → Sub (kind_of term_member_kind) n d c → Two img d a b → Sub (kind_of term_kind) n a c
  term-member s q = under s (receiver s.ready q.first)

  pub head-member : {n d a c : ℕ} {l : NodeList} → Sub (kind_of app_head_member_kind) n d c → WordList img d a l → Sub (kind_of term_kind) n a c
  head-member s q = under s (head_receiver s.ready q.first)

  -- an if-var: the type, then the term
  if_var : {n a b c : ℕ} → Ready img t (kind_of var_if_atom_kind) n c → a ≡ field img n 1 → b ≡ field img n 0 → Pair type_expr_kind term_kind n a b c
  unfolding FormedFields next kind_of bare
  if_var {n} {a} {b} {c} p q r =
      subst (λ (x : ℕ). Pair type_expr_kind term_kind n x b c) (sym q) (subst (λ (x : ℕ). Pair type_expr_kind term_kind n (field img n 1) x c) (sym r)
      (pair_of p (row img p.is).1.0 (row img p.is).0 refl refl (if_var-rows img t p.is)))

  pub if-var : {n d a b c : ℕ} → Sub (kind_of var_if_atom_kind) n d c → Two img d a b → Pair type_expr_kind term_kind n b a c
  if-var s q = pair_under s (if_var s.ready q.second q.first)

  -- a defined-then, with and without a variable
  undefined : {n d c : ℕ} → Ready img t (kind_of defined_then_atom_kind) n c → field img n 0 ≡ 0 → d ≡ field img n 1 → Sub (kind_of term_kind) n d c
  unfolding FormedFields next kind_of bare
  undefined {n} {d} {c} p e q = subst (λ (x : ℕ). Sub (kind_of term_kind) n x c) (sym q) (sub_of term_kind p (row img p.is).1.0 refl (undefined-rows img t p.is e))

  defined : {n m d c : ℕ} → Ready img t (kind_of defined_then_atom_kind) n c → field img n 0 ≡ suc m → d ≡ field img n 1 → Pair term_kind term_kind n m d c
  unfolding FormedFields next kind_of bare
  defined {n} {m} {d} {c} p e q =
      subst (λ (x : ℕ). Pair term_kind term_kind n m x c) (sym q) (pair_of p ((row img p.is).0 m e) (row img p.is).1.0 refl refl (defined-rows img t p.is m e))

  pub defined-var : {n d b c : ℕ} {v : Given TermId} {m : TermId} → Sub (kind_of defined_then_atom_kind) n d c → Two img d (term_word v) b → v ≡ Some m → Pair term_kind term_kind n m.0.0 b c
  defined-var s q e = pair_under s (defined s.ready (sym q.first ∙ ap term_word e) q.second)

  -- the rows of the variable, if there is one
  abbrev pub var_rows : Given TermId → List Row
  var_rows None = []
  var_rows (Some m) = rows_in img t m.0.0

  pub var-given : {v : Given TermId} {m : TermId} {start now next : Rows} → v ≡ Some m → Appends (rows_in img t m.0.0) start next → now ≡ next → Appends (var_rows v) start now
  var-given {start = start} {now} e a q = appends-to (ap var_rows e) (subst (Appends _ start) (sym q) a)

  pub var-none : {v : Given TermId} {start now : Rows} → v ≡ None → now ≡ start → Appends (var_rows v) start now
  var-none {v} {start} e q = subst (Appends (var_rows v) start) (sym q) (appends-no start (ap var_rows e))

  pub record Defined (n b c : ℕ) (v : Given TermId) : Type 0 where
    pub term : {r : ℕ} → r ≡ c + length (var_rows v) → Ready img t (kind_of term_kind) b r
    pub whole : rows_in img t n ≡ var_rows v ++ rows_in img t b

  pub defined-then : {n d b c : ℕ} (v : Given TermId) → Sub (kind_of defined_then_atom_kind) n d c → Two img d (term_word v) b → Defined n b c v
  defined-then {b = b} {c} None s q =
      let o = under s (undefined s.ready (sym q.first) q.second) in
      record { term = λ {r} e. subst (Ready img t (kind_of term_kind) b) (sym (e ∙ add-zero c)) o.ready; whole = o.whole }
  defined-then (Some m) s q = let o = pair_under s (defined s.ready (sym q.first) q.second) in record { term = o.second; whole = o.whole }

  -- a node that wraps an enum -----------------------------------------------------------------------------------------------------
  pub wrapped : (cl : Class) (ks : List ℕ) {n d c : ℕ} → threads cl ≡ true → ((ts : Trees) → ordered cl ts ≡ ts) → Ready img t (kind_by cl (cases ks ∷ [])) n c
      → (x : ℕ) → x ≡ field img n 0 → d ≡ field img n 1 → eqb (get_or ks x no_child) no_child ≡ false → bare (kind_of (get_or ks x no_child)).class ≡ true
      → Sub (kind_of (get_or ks x no_child)) n d c
  wrapped cl ks {n} {d} {c} u straight p x q r s b =
      sub_of (get_or ks x no_child) p (case-child img cl ks p.is x d q r s) b
      (case_rows img t cl ks p.is u straight x q s ∙ ap (λ (i : ℕ). rows_for img t (spots n (tree_at img i))) (sym r))

  -- a Term or AppHead of case Ident
  pub record Ident (n d c : ℕ) : Type 0 where
    pub room : Room (ident_rows img t n d) c
    pub asks : Asks img n d
    pub whole : rows_in img t n ≡ ident_rows img t n d

  pub ident_of : (cl : Class) (ks : List ℕ) {n d c : ℕ} → threads cl ≡ true → ((ts : Trees) → ordered cl ts ≡ ts) → Ready img t (kind_by cl (cases (ident_term_kind ∷ ks) ∷ [])) n c
      → 0 ≡ field img n 0 → d ≡ field img n 1 → asked img n ≡ some (name_of img d) → Ident n d c
  ident_of cl ks {n} {d} {c} u straight p q r a =
      let is = child-is img p.is (case-child img cl (ident_term_kind ∷ ks) p.is 0 d q r refl) in
      let w = case_rows img t cl (ident_term_kind ∷ ks) p.is u straight 0 q refl ∙ ap (λ (i : ℕ). rows_for img t (spots n (tree_at img i))) (sym r) ∙ ident-rows img t is n in
      record { room = room_as w p.room; asks = record { low = p.is.below; is = a; below = ident-below img is }; whole = w }

  pub ident-fits : (n i : ℕ) {b c : ℕ} → found img t (spot n i) ≡ some b → is_var img (some b) ≡ true → Room (ident_rows img t n i) c → c + 1 < 2 ^ 32
  ident-fits n i {b} e k p = (room_as (ident-var img t n i b e k) p).fits

-- lists ---------------------------------------------------------------------------------------------------------------------------
-- a call gave the node x from what is left in s
abbrev pub Gave : {T : Type 0} → Items T → ℕ → Items T → Type 0
Gave s x s2 = Others s s2 × (x ≡ field s.image.now s.left.list.node.0 s.left.list.first)

module _ {T : Type 0} (img : List ℕ) (t : Table) where
  -- a loop over what is left in s of the children of n, of kind k, that appends the rows `whole`
  pub record RowsLeft (k n : ℕ) (whole : List Row) (s : Items T) (start now : Rows) : Type 0 where
    pub within : Within img k n s
    pub left : Left whole (seq_rows img t n (trees_of s)) start now

  pub rows_end : {k n : ℕ} {whole : List Row} {s : Items T} {start now : Rows} → RowsLeft k n whole s start now → s.left.list.count ≡ 0 → Appends whole start now
  rows_end {n = n} {s = s} p e = left_end p.left (seq-none img t n (none-left s e))

  -- a loop begins: over a list that is given, and over one that is read from the row of n
  pub rows_start : {k : ℕ} {l : NodeList} {s begin : Items T} (rows : Rows) → begin ≡ s → ReadyAll img t k l rows.count → (s.image.now ≡ img) × (s.left.list ≡ l)
      → RowsLeft k l.node.0 (rows_of img t l) begin rows rows
  unfolding rows_at
  rows_start {l = l} rows e p h =
      let o = begun e refl p.run h in
      record { within = o.within; left = left-start rows (ap (seq_rows img t l.node.0) o.trees) p.room.fits }

  pub row_start : {k n j : ℕ} {whole : List Row} {l : NodeList} {s begin : Items T} (rows : Rows) → begin ≡ s → ReadyRun img t k n (j + 1) (field img n j) rows.count
      → whole ≡ rows_at img t n (field img n j) (j + 1) → Listed img n j l → (s.image.now ≡ img) × (s.left.list ≡ l) → RowsLeft k n whole begin rows rows
  unfolding rows_at
  row_start {n = n} rows e p w q h =
      let o = begun-row e q p.run h in
      record { within = o.within; left = left-start rows (w ∙ ap (seq_rows img t n) o.trees) (room_as (sym w) p.room).fits }

  -- a node x taken from what is left in s, where the loop stands at d
  pub record Item (k n x d : ℕ) (s s2 : Items T) : Type 0 where
    pub low : x < n
    pub ready : Ready img t (kind_of k) x d
    pub rest : Within img k n s2
    pub more : seq_rows img t n (trees_of s) ≡ rows_in img t x ++ seq_rows img t n (trees_of s2)

  item_of : {k n x : ℕ} {whole : List Row} {s s2 : Items T} {start now : Rows} → bare (kind_of k).class ≡ true → RowsLeft k n whole s start now
      → Gave s x s2 → Item k n x now.count s s2
  item_of {n = n} {x} u p o =
      let g = taken p.within o.0 o.1 in
      let m = items-more img t n x g.is u g.trees in
      record { low = g.low; ready = record { is = g.is; room = record { fits = left-room _ _ p.left m } }; rest = g.rest; more = m }

  pub term-item : {n x : ℕ} {whole : List Row} {s s2 : Items T} {start now : Rows} → RowsLeft term_kind n whole s start now
      → Gave s x s2 → Item term_kind n x now.count s s2
  unfolding kind_of bare
  term-item p o = item_of refl p o

  pub stmt-item : {n x : ℕ} {whole : List Row} {s s2 : Items T} {start now : Rows} → RowsLeft stmt_kind n whole s start now
      → Gave s x s2 → Item stmt_kind n x now.count s s2
  unfolding kind_of bare
  stmt-item p o = item_of refl p o

  pub case-item : {n x : ℕ} {whole : List Row} {s s2 : Items T} {start now : Rows} → RowsLeft match_case_kind n whole s start now
      → Gave s x s2 → Item match_case_kind n x now.count s s2
  unfolding kind_of bare
  case-item p o = item_of refl p o

  pub rows_next : {k n x : ℕ} {whole : List Row} {s s2 : Items T} {start now next : Rows} → RowsLeft k n whole s start now → Item k n x now.count s s2
      → Appends (rows_in img t x) now next → RowsLeft k n whole s2 start next
  rows_next p o a = record { within = o.rest; left = left-next p.left o.more a }

module _ (img : List ℕ) (t : Table) where
  -- a term list: its terms
  pub record ListRun (k n c : ℕ) : Type 0 where
    pub run : ReadyRun img t k n 1 (field img n 0) c
    pub whole : rows_in img t n ≡ rows_at img t n (field img n 0) 1

  list_run : {k n c : ℕ} → Ready img t (kind_by (inner plain) (list k ∷ [])) n c → ListRun k n c
  list_run {k} {n} {c} p =
      let w = list-rows img t p.is in
      record { run = record { run = run-list img p.is refl; room = room_as w p.room }; whole = w }

  pub term_list : {n c : ℕ} → Ready img t (kind_of term_list_kind) n c → ListRun term_kind n c
  unfolding kind_of
  term_list p = list_run p

  -- a term a, then the s nodes from place j of the row of m on: a match case and a match
  pub record ThenList (k n a c m j s : ℕ) : Type 0 where
    pub node : m ≡ n
    pub first : Ready img t (kind_of term_kind) a c
    pub second : {r : ℕ} → r ≡ c + length (rows_in img t a) → ReadyRun img t k m j s r
    pub whole : rows_in img t n ≡ rows_in img t a ++ rows_at img t m s j

  then_list : (cl : Class) {k n a c : ℕ} → threads cl ≡ true → ((ts : Trees) → ordered cl ts ≡ ts) → Ready img t (kind_by cl (child term_kind ∷ list k ∷ [])) n c
      → a ≡ field img n 0 → ThenList k n a c n 2 (field img n 1)
  unfolding FormedFields next kind_of bare
  then_list cl {k} {n} {a} {c} u straight p q =
      subst (λ (x : ℕ). ThenList k n x c n 2 (field img n 1)) (sym q)
      (record {
        node = refl;
        first = record { is = is; room = room-first _ _ room };
        second = λ {r} e. record { run = run-tail img p.is refl refl; room = room-second (rows_in img t (field img n 0)) (rows_at img t n (field img n 1) 2) room e };
        whole = w;
      })
    where
      h : Child img n term_kind (field img n 0)
      h = (row img p.is).0

      is : Is img (kind_of term_kind) (field img n 0)
      is = child-is img p.is h

      w : rows_in img t n ≡ rows_in img t (field img n 0) ++ rows_at img t n (field img n 1) 2
      w = child-list-rows img t cl p.is u straight ∙ ap (λ (l : List Row). l ++ rows_at img t n (field img n 1) 2) (owner img t is refl n)

      room : Room (rows_in img t (field img n 0) ++ rows_at img t n (field img n 1) 2) c
      room = room_as w p.room

  pub match_case : {n a c : ℕ} {l : NodeList} → Ready img t (kind_of match_case_kind) n c → WordList img n a l → ThenList stmt_kind n a c l.node.0 l.first l.count
  unfolding kind_of threads ordered
  match_case {n} {a} {c} p q = at-list img (ThenList stmt_kind n a c) q.list (then_list (inner case) refl (λ ts. refl) p q.first)

  pub match_of : {n a c : ℕ} → Ready img t (kind_of match_stmt_kind) n c → a ≡ field img n 0 → ThenList match_case_kind n a c n 2 (field img n 1)
  unfolding kind_of threads ordered
  match_of p q = then_list (inner plain) refl (λ ts. refl) p q

  -- a loop over what is left in s of the blocks of the branch n
  pub record BlocksLeft (n : ℕ) (s : Blocks) (start now : Rows) : Type 0 where
    pub within : BlocksWithin img n s
    pub left : Left (rows_in img t n) (seq_rows img t n (block_trees s)) start now

  pub blocks-end : {n : ℕ} {s : Blocks} {start now : Rows} → BlocksLeft n s start now → s.left.list.count ≡ 0 → Appends (rows_in img t n) start now
  blocks-end {n} {s} p e = left_end p.left (seq-none img t n (no-block-left s e))

  pub blocks_start : {n : ℕ} {l : NodeList} {s begin : Blocks} (rows : Rows) → begin ≡ s → Ready img t (kind_of branch_stmt_kind) n rows.count → Listed img n 0 l
      → (s.image.now ≡ img) × (s.left.list ≡ l) → BlocksLeft n begin rows rows
  blocks_start {n} rows e p q h =
      let o = blocks-begun e p.is q h in
      record { within = o.within; left = left-start rows (branch-rows img t p.is ∙ ap (seq_rows img t n) o.trees) p.room.fits }

  -- a block k taken from what is left in s, where the loop stands at d
  pub record Block (n : ℕ) (k : NodeList) (d : ℕ) (s s2 : Blocks) : Type 0 where
    pub node : k.node.0 ≡ n
    pub run : ReadyAll img t stmt_kind k d
    pub rest : BlocksWithin img n s2
    pub more : seq_rows img t n (block_trees s) ≡ rows_of img t k ++ seq_rows img t n (block_trees s2)

  pub block_of : {n : ℕ} {k : Ids StmtId} {s s2 : Blocks} {start now : Rows} → BlocksLeft n s start now
      → OtherBlocks s k s2 × Listed s.image.now s.left.list.node.0 s.left.list.first k.list → Block n k.list now.count s s2
  block_of {k = k} p o =
      let g = block-taken p.within o.0 o.1 in
      let m = blocks-more img t k.list g.node g.trees in
      record { node = g.node; run = record { run = g.run; room = record { fits = left-room _ _ p.left m } }; rest = g.rest; more = m }

  pub blocks_next : {n : ℕ} {k : NodeList} {s s2 : Blocks} {start now next : Rows} → BlocksLeft n s start now → Block n k now.count s s2
      → Appends (rows_of img t k) now next → BlocksLeft n s2 start next
  blocks_next p o a = record { within = o.rest; left = left-next p.left o.more a }
