-- The tests of a node, of the nodes, and of the whole tree, as the code goes through them.
use mathlib.Core.Path.{◌≡◌, refl, sym, ap, ◌∙◌}
use mathlib.Core.Bool.{Bool, true, false, not, ◌||◌, true≢false}
use mathlib.Core.Logic.{◌⊎◌, inl, inr}
use mathlib.Core.List.{List, [], ◌∷◌}
use Prim.Native.Nat.{ℕ, zero, suc, ◌+◌, ◌-◌, ◌*◌, ◌<◌, ◌≤◌}
use native.Mathlib.Omega.{arith}
use native.Mathlib.Numerals.{add-one}
use lib.Dec.{eqb, leb, ltb, leb→le}
use native.Mathlib.Decide.{dec_lt}
use lib.ListN.{length}
use borrow.Author.Tests.{lt-ltb, le-ltb, le-leb, lt-leb, eq-eqb, ne_eqb, eqb-true, eqb-false, leb-true, leb-false}
use Rattle.ast.specs.Image.{nodes, kind_at, start_at, op_at, field, operands, names, bytes, last}
use Rattle.ast.specs.Kinds.{Field, name, opt_name, child, opt_child, list, lists, cases, kind_of}
use Rattle.ast.specs.Rows.{numbers, kids, kids_to, fields_at, row_end, after}
use Rattle.ast.specs.Promises.{claim_all}
use Rattle.ast.specs.Tests.{◌▸◌, need, run, in_row, child_word, test_field, test_fields, times, first, is_var, test_var, test_sizes, test_node, test_parents, test_tree, end_before}
use Rattle.ast.proofs.Accepted.{both, needed, skip, stop, stop-at}
use Rattle.error.specs.declared.Refusal.{Refusal}
use Rattle.error.specs.declared.Refusal.TheVariants as refusal
use Rattle.tests.specs.Rows.{FieldsStep}
use Rattle.tests.specs.Steps.{Answered, Ended, KnownBelow, NodeTested, NodesTested}
use Rattle.tests.specs.declared.Row.{Row}
use Rattle.tests.proofs.Steps.{passes, refuses, skips, stops, retests}
use Rattle.error.proofs.Refused.{refusal-some}
use Rattle.tests.proofs.Fields.{in-row, out-row}
use Rattle.std.specs.Prelude.{Result, Ok, Err}
use Rattle.ast.proofs.Runs.{RunLeft, run-begin, run-next, run-stop, run_end}
use Rattle.ast.proofs.Scans.{need-in, need-out, claim-append, ▸-assoc}
use Rattle.tests.proofs.Entries.{some-field}
use Rattle.ast.specs.declared.NodeId.{NodeId}
use Rattle.typed.specs.Nodes.{term_of, term_at}
use Rattle.typed.specs.declared.nodes.IdentTermId.{IdentTermId}
use Rattle.typed.specs.declared.nodes.Term.{Term}
use Rattle.typed.specs.declared.nodes.Term.TheVariants as term

-- the first word of a node's first field is tested first, and where it lies in the rows, so do the words before it
module _ (img : List ℕ) (n : ℕ) where
  first-field : (g : Field) (p : ℕ) → (rest : ℕ) × (test_field img n g p ≡ in_row img p ▸ rest)
  unfolding test_field child_word
  first-field name p = (_, refl)
  first-field opt_name p = (_, refl)
  first-field (child k) p = (_, refl)
  first-field (opt_child k) p = (_, refl)
  first-field (list k) p = (_, refl)
  first-field (lists k) p = (_, refl)
  first-field (cases ks) p = (_, refl)

  first-word : (gs : List Field) (p : ℕ) → (length gs ≡ 0 → ⊥) → (rest : ℕ) × (test_fields img n gs p ≡ in_row img p ▸ rest)
  unfolding test_fields
  first-word [] p some = absurd (some refl)
  first-word (g ∷ gs) p some = let f = first-field g p in (_, ap (λ x. x ▸ test_fields img n gs (after img g p)) f.1 ∙ ▸-assoc (in_row img p) f.0 _)

  located : kind_at img n ≤ 40 → (p : ℕ) → in_row img p ▸ in_row img (p + 1) ▸ test_fields img n (fields_at img n) (p + 2) ≡ test_fields img n (fields_at img n) (p + 2)
  unfolding fields_at
  located h p = go (first-word (kind_of (kind_at img n)).fields (p + 2) (some-field (kind_at img n) h)) (dec_lt p (operands img)) (dec_lt (p + 1) (operands img))
    where
      go : (rest : ℕ) × (test_fields img n (kind_of (kind_at img n)).fields (p + 2) ≡ in_row img (p + 2) ▸ rest) → Dec (p < operands img) → Dec (p + 1 < operands img)
          → in_row img p ▸ in_row img (p + 1) ▸ test_fields img n (kind_of (kind_at img n)).fields (p + 2) ≡ test_fields img n (kind_of (kind_at img n)).fields (p + 2)
      go w (yes l) (yes m) = skip _ _ (in-row img _ l) ∙ skip _ _ (in-row img _ m)
      go w (yes l) (no m) = skip _ _ (in-row img _ l) ∙ stop _ _ 6 (out-row img _ (omega arith)) ∙ sym (w.1 ∙ stop _ _ 6 (out-row img _ (omega arith)))
      go w (no l) m = stop _ _ 6 (out-row img _ (omega arith)) ∙ sym (w.1 ∙ stop _ _ 6 (out-row img _ (omega arith)))

-- two tests at once
pub the-other : (a b : Bool) → (a || b) ≡ true → a ≡ false → b ≡ true
the-other true b h e = absurd (true≢false e)
the-other false b h e = h

pub both-pass : (start end bound : ℕ) → (not (eqb start end) || leb bound (end + 2)) ≡ false → (start ≡ end) × (end + 2 < bound)
both-pass start end bound t = go (eqb start end) refl t
  where
    go : (b : Bool) → eqb start end ≡ b → (not b || leb bound (end + 2)) ≡ false → (start ≡ end) × (end + 2 < bound)
    go true f u = (eqb-true _ _ f, leb-false _ _ u)
    go false f u = absurd (true≢false u)

module _ (img : List ℕ) where
  module _ (n : ℕ) {us vs : List ℕ} where
    -- the answer to the tests of a node, from those of its row
    pub node-kind : 40 < kind_at img n → NodeTested img n us vs (Err refusal.UnknownKind)
    unfolding test_node
    node-kind h = stops _ _ _ (need-out 6 _ (lt-leb _ _ h))

    module _ (h : kind_at img n ≤ 40) where
      kinded : {r : Result ℕ Refusal} → Answered (need 7 (eqb (start_at img n) (end_before img n)) ▸ in_row img (start_at img n) ▸ in_row img (start_at img n + 1) ▸ test_fields img n (fields_at img n) (start_at img n + 2)) (Ended (row_end img n) (numbers (kids img n)) us vs) r
          → NodeTested img n us vs r
      unfolding test_node
      kinded t = skips _ _ (need-in 6 _ (le-leb _ _ h)) t

      pub node-start : (start_at img n ≡ end_before img n → ⊥) → NodeTested img n us vs (Err refusal.RowOutside)
      node-start q = kinded (stops _ _ _ (need-out 7 _ (ne_eqb _ _ q)))

      module _ (q : start_at img n ≡ end_before img n) where
        placed : {r : Result ℕ Refusal} → Answered (test_fields img n (fields_at img n) (start_at img n + 2)) (Ended (row_end img n) (numbers (kids img n)) us vs) r → NodeTested img n us vs r
        placed t = kinded (skips _ _ (need-in 7 _ (eq-eqb _ _ q)) (retests _ _ (sym (located img n h (start_at img n))) t))

        pub node-out : operands img ≤ start_at img n + 2 → NodeTested img n us vs (Err refusal.RowOutside)
        unfolding fields_at
        node-out l = let w = first-word img n (kind_of (kind_at img n)).fields (start_at img n + 2) (some-field _ h) in placed (refuses _ _ (w.1 ∙ stop _ _ 6 (out-row img _ l)))

        pub node-bad : (e : Refusal) → FieldsStep img n (fields_at img n) (start_at img n + 2) us vs (Err e) → NodeTested img n us vs (Err e)
        node-bad e t = placed (refuses e _ (sym t.refusal))

        pub node_in : (row : Row) → FieldsStep img n (fields_at img n) (start_at img n + 2) us vs (Ok row) → NodeTested img n us vs (Ok row.at)
        unfolding row_end kids
        node_in row t =
            let l = row.low in
            let o = row.image.now.within.short in
            placed (passes _ _ (sym t.refusal) (record { place = t.went.place; claimed = t.went.claimed; low = omega arith }))

      -- as the code tests the two at once
      pub node-outside : (end bound : ℕ) → end ≡ end_before img n → bound ≡ operands img → (not (eqb (start_at img n) end) || leb bound (end + 2)) ≡ true → NodeTested img n us vs (Err refusal.RowOutside)
      node-outside end bound e o t = go (eqb (start_at img n) end) refl t
        where
          go : (b : Bool) → eqb (start_at img n) end ≡ b → (not b || leb bound (end + 2)) ≡ true → NodeTested img n us vs (Err refusal.RowOutside)
          go true f u = let s = eqb-true _ _ f in let l = leb-true _ _ u in node-out (s ∙ e) (omega arith)
          go false f u = node-start (λ s. eqb-false _ _ f (s ∙ sym e))

  -- a node that passes has a kind that there is
  kind-known : (n : ℕ) → test_node img n ≡ 0 → kind_at img n ≤ 40
  unfolding test_node
  kind-known n e = leb→le _ _ (needed 5 _ (both _ _ e).0)

  known-next : (n : ℕ) → KnownBelow img n → kind_at img n ≤ 40 → KnownBelow img (n + 1)
  known-next n below k i h = go (dec_lt i n)
    where
      go : Dec (i < n) → kind_at img i ≤ 40
      go (yes l) = below i l
      go (no l) = let e : i ≡ n = omega arith in rw e k

  -- the nodes before n have passed
  pub record NodesLeft (us : List ℕ) (n end : ℕ) (vs : List ℕ) : Type 0 where
    pub left : RunLeft (test_node img) (nodes img) n
    pub known : KnownBelow img n
    pub ended : end ≡ end_before img n
    pub claimed : vs ≡ claim_all (kids_to img n) us
    pub low : end ≤ 8192

  pub nodes-begin : (us : List ℕ) → NodesLeft us 0 0 us
  unfolding end_before kids_to claim_all
  nodes-begin us = record { left = run-begin _ _; known = λ i h. absurd (omega arith); ended = refl; claimed = refl; low = omega arith }

  module _ (us : List ℕ) (n end : ℕ) {vs ws : List ℕ} (i : NodesLeft us n end vs) (h : n < nodes img) where
    pub nodes-next : (after : ℕ) → NodeTested img n vs ws (Ok after) → NodesLeft us (n + 1) after ws
    unfolding end_before kids_to
    nodes-next after t =
        let g = t.went in
        record {
          left = run-next _ _ n i.left h (sym t.refusal);
          known = known-next n i.known (kind-known n (sym t.refusal));
          ended = rw add-one g.place;
          low = g.low;
          claimed = rw add-one (g.claimed ∙ ap (claim_all (numbers (kids img n))) i.claimed ∙ sym (claim-append (kids_to img n) _ us));
        }

    pub nodes-stop : (e : Refusal) → NodeTested img n vs ws (Err e) → NodesTested img us ws (Err e)
    nodes-stop e t = refuses e _ (run-stop _ _ n _ i.left h (sym t.refusal) (refusal-some e))

  pub nodes-end : (us : List ℕ) (end : ℕ) {vs : List ℕ} → NodesLeft us (nodes img) end vs → NodesTested img us vs (Ok end)
  nodes-end us end i = passes end _ (run_end _ _ _ i.left (omega arith)) (record { place = i.ended; claimed = i.claimed; low = i.low })

  -- 11
  abbrev pub parent : ℕ → ℕ
  parent v = need 11 (eqb (times v (kids_to img (nodes img))) 1)

  pub parents-are : test_parents img ≡ run parent (last img) 0
  unfolding test_parents
  parents-are = refl

  -- the first word of a row, as the code reads it
  pub first-is : (n : ℕ) → field img n 0 ≡ first img n
  unfolding first field
  first-is n = ap (op_at img) (omega arith)

  -- 12: of a term
  by-term : Term → ℕ
  by-term (term.Ident i) = 0
  by-term term.Wildcard = 0
  by-term (term.App i) = 12
  by-term (term.Member i) = 12
  by-term (term.Dom i) = 12
  by-term (term.Cod i) = 12
  by-term (term.Id i) = 12
  by-term (term.Comp i) = 12

  var-is : (c : ℕ) → is_var img c ≡ by-term (term_at img c)
  unfolding is_var need term_of by-term
  var-is c = ap (λ w. need 12 (leb w 1)) (sym (first-is c)) ∙ go (field img c 0) (record { 0 = field img c 1 })
    where
      go : (w : ℕ) (i : NodeId) → need 12 (leb w 1) ≡ by-term (term_of w i)
      go zero i = refl
      go (suc zero) i = refl
      go (suc (suc zero)) i = refl
      go (suc (suc (suc zero))) i = refl
      go (suc (suc (suc (suc zero)))) i = refl
      go (suc (suc (suc (suc (suc zero))))) i = refl
      go (suc (suc (suc (suc (suc (suc zero)))))) i = refl
      go (suc (suc (suc (suc (suc (suc (suc w))))))) i = need-out 12 _ (lt-leb _ _ (omega arith))

  module _ (c : ℕ) (t : Term) (e : t ≡ term_at img c) where
    pub var-yes : ((i : IdentTermId) × t ≡ term.Ident i) ⊎ (t ≡ term.Wildcard) → is_var img c ≡ 0
    unfolding by-term
    var-yes (inl (i, h)) = var-is c ∙ ap by-term (sym e ∙ h)
    var-yes (inr h) = var-is c ∙ ap by-term (sym e ∙ h)

    pub var_no : ((i : IdentTermId) → t ≡ term.Ident i → ⊥) → (t ≡ term.Wildcard → ⊥) → is_var img c ≡ 12
    unfolding by-term
    var_no a b = var-is c ∙ ap by-term (sym e) ∙ go t a b
      where
        go : (u : Term) → ((i : IdentTermId) → u ≡ term.Ident i → ⊥) → (u ≡ term.Wildcard → ⊥) → by-term u ≡ 12
        go (term.Ident i) a b = absurd (a i refl)
        go term.Wildcard a b = absurd (b refl)
        go (term.App i) a b = refl
        go (term.Member i) a b = refl
        go (term.Dom i) a b = refl
        go (term.Cod i) a b = refl
        go (term.Id i) a b = refl
        go (term.Comp i) a b = refl

  -- and of a node
  module _ (n : ℕ) where
    pub var-if : eqb (kind_at img n) 33 ≡ true → test_var img n ≡ is_var img (field img n 0)
    unfolding test_var
    var-if e = rw (e, test_var) (ap (is_var img) (sym (first-is n)))

    module _ (a : eqb (kind_at img n) 33 ≡ false) where
      pub var-other : eqb (kind_at img n) 34 ≡ false → test_var img n ≡ 0
      unfolding test_var
      var-other b = rw (a, b, test_var)

      module _ (b : eqb (kind_at img n) 34 ≡ true) where
        then-var : ℕ → ℕ
        then-var w = elim w [ zero ↦ 0 | suc c ↦ is_var img c ]

        var-given : (w : ℕ) → w ≡ field img n 0 → test_var img n ≡ then-var w
        unfolding test_var first then-var
        var-given w e = rw (a, b, test_var) (ap then-var (sym (first-is n) ∙ sym e))

        pub var-none : 0 ≡ field img n 0 → test_var img n ≡ 0
        unfolding then-var
        var-none e = var-given 0 e

        pub var-then : (c : ℕ) → suc c ≡ field img n 0 → test_var img n ≡ is_var img c
        unfolding then-var
        var-then c e = var-given (suc c) e

  -- 10 to 12
  module _ (end : ℕ) (some : 0 < nodes img) (e : end ≡ end_before img (nodes img)) where
    end-last : end ≡ row_end img (last img)
    unfolding last end_before
    end-last = e ∙ go (nodes img) some
      where
        go : (m : ℕ) → 0 < m → end_before img m ≡ row_end img (m - 1)
        go zero h = absurd (omega arith)
        go (suc m) h = let q : suc m - 1 ≡ m = omega arith in rw q

    pub tree-open : (end ≡ operands img → ⊥) → test_tree img ≡ 10
    unfolding test_tree
    tree-open h = stop _ _ 9 (need-out 10 _ (ne_eqb _ _ (rw end-last at h)))

    module _ (f : end ≡ operands img) where
      pub tree-top : (kind_at img (last img) ≡ 0 → ⊥) → test_tree img ≡ 10
      unfolding test_tree
      tree-top h = skip _ _ (need-in 10 _ (eq-eqb _ _ (sym end-last ∙ f))) ∙ stop _ _ 9 (need-out 10 _ (ne_eqb _ _ h))

      pub tree-left : kind_at img (last img) ≡ 0 → test_tree img ≡ test_parents img ▸ run (test_var img) (nodes img) 0
      unfolding test_tree
      tree-left h = skip _ _ (need-in 10 _ (eq-eqb _ _ (sym end-last ∙ f))) ∙ skip _ _ (need-in 10 _ (eq-eqb _ _ h))

      pub tree-parents : kind_at img (last img) ≡ 0 → (k : ℕ) → test_parents img ≡ k → (k ≡ 0 → ⊥) → test_tree img ≡ k
      tree-parents h k p z = tree-left h ∙ stop-at _ _ k p z

      pub tree-vars : kind_at img (last img) ≡ 0 → test_parents img ≡ 0 → test_tree img ≡ run (test_var img) (nodes img) 0
      tree-vars h p = tree-left h ∙ skip _ _ p

  -- each node, then the whole tree
  pub nodes-halt : (k : ℕ) → run (test_node img) (nodes img) 0 ≡ k → (k ≡ 0 → ⊥) → run (test_node img) (nodes img) 0 ▸ test_tree img ≡ k
  nodes-halt k e z = stop-at _ _ k e z

  pub nodes-passed : run (test_node img) (nodes img) 0 ≡ 0 → run (test_node img) (nodes img) 0 ▸ test_tree img ≡ test_tree img
  nodes-passed e = skip _ _ e

  -- 1 to 3
  size-1 : 16 ≤ length img → need 1 (leb 16 (length img)) ≡ 0
  size-1 h = need-in 1 _ (le-leb _ _ h)

  pub sizes-1 : length img < 16 → test_sizes img ≡ 1
  unfolding test_sizes
  sizes-1 h = stop _ _ 0 (need-out 1 _ (lt-leb _ _ h))

  module _ (a : 16 ≤ length img) where
    pub sizes-2 : nodes img ≡ 0 → test_sizes img ≡ 2
    unfolding test_sizes
    sizes-2 h = skip _ _ (size-1 a) ∙ stop _ _ 1 (need-out 2 _ (le-ltb 0 (nodes img) (omega arith)))

    module _ (b : 0 < nodes img) where
      two : need 2 (ltb 0 (nodes img)) ≡ 0
      two = need-in 2 _ (lt-ltb _ _ b)

      pub sizes-3 : 2048 < nodes img → test_sizes img ≡ 2
      unfolding test_sizes
      sizes-3 h = skip _ _ (size-1 a) ∙ skip _ _ two ∙ stop _ _ 1 (need-out 2 _ (lt-leb _ _ h))

      module _ (d : nodes img ≤ 2048) where
        three : need 2 (leb (nodes img) 2048) ≡ 0
        three = need-in 2 _ (le-leb _ _ d)

        pub sizes-4 : 8192 < operands img → test_sizes img ≡ 2
        unfolding test_sizes
        sizes-4 h = skip _ _ (size-1 a) ∙ skip _ _ two ∙ skip _ _ three ∙ stop _ _ 1 (need-out 2 _ (lt-leb _ _ h))

        module _ (e : operands img ≤ 8192) where
          four : need 2 (leb (operands img) 8192) ≡ 0
          four = need-in 2 _ (le-leb _ _ e)

          pub sizes-5 : 1024 < names img → test_sizes img ≡ 2
          unfolding test_sizes
          sizes-5 h = skip _ _ (size-1 a) ∙ skip _ _ two ∙ skip _ _ three ∙ skip _ _ four ∙ stop _ _ 1 (need-out 2 _ (lt-leb _ _ h))

          module _ (f : names img ≤ 1024) where
            five : need 2 (leb (names img) 1024) ≡ 0
            five = need-in 2 _ (le-leb _ _ f)

            pub sizes-6 : 8192 < bytes img → test_sizes img ≡ 2
            unfolding test_sizes
            sizes-6 h = skip _ _ (size-1 a) ∙ skip _ _ two ∙ skip _ _ three ∙ skip _ _ four ∙ skip _ _ five ∙ stop _ _ 1 (need-out 2 _ (lt-leb _ _ h))

            module _ (g : bytes img ≤ 8192) where
              six : need 2 (leb (bytes img) 8192) ≡ 0
              six = need-in 2 _ (le-leb _ _ g)

              pub sizes-7 : (length img ≡ 16 + 8 * nodes img + 4 * operands img + 4 * names img + bytes img → ⊥) → test_sizes img ≡ 3
              unfolding test_sizes
              sizes-7 h = skip _ _ (size-1 a) ∙ skip _ _ two ∙ skip _ _ three ∙ skip _ _ four ∙ skip _ _ five ∙ skip _ _ six ∙ need-out 3 _ (ne_eqb _ _ h)

              pub sizes-0 : length img ≡ 16 + 8 * nodes img + 4 * operands img + 4 * names img + bytes img → test_sizes img ≡ 0
              unfolding test_sizes
              sizes-0 h = skip _ _ (size-1 a) ∙ skip _ _ two ∙ skip _ _ three ∙ skip _ _ four ∙ skip _ _ five ∙ skip _ _ six ∙ need-in 3 _ (eq-eqb _ _ h)
