-- Laws of the test whether a table is sound, as code goes through it.
use mathlib.Core.Path.{◌≡◌, refl, sym, ap, ap₂, subst, ◌∙◌}
use mathlib.Core.Bool.{Bool, true, false, ◌&&◌, ◌||◌}
use mathlib.Core.Logic.{◌⊎◌, inl, inr}
use mathlib.Core.List.{List}
use Prim.Native.Nat.{ℕ, zero, suc, ◌+◌, ◌-◌, ◌<◌, ◌≤◌}
use native.Mathlib.Nat.{zero-add}
use native.Mathlib.Omega.{arith}
use native.Mathlib.Decide.{dec_lt}
use lib.Dec.{leb, eqb, eqb→eq, leb→le, ltb→lt}
use lib.ListN.{get_or}
use borrow.Author.Tests.{lt-ltb, le-ltb, le-leb, lt-leb, eq-eqb, ne_eqb}
use Rattle.std.specs.List.{list_all, range_with_len}
use Rattle.ast.specs.Image.{nodes, kind_at, field}
use Rattle.ast.specs.Tests.{◌▸◌, need, run}
use Rattle.ast.proofs.Accepted.{skip, stop, both, ran}
use Rattle.ast.proofs.Accepted.{needed as tested}
use Rattle.ast.proofs.Bools.{true-is}
use Rattle.ast.proofs.Scans.{need-in, need-out}
use Rattle.table.specs.Layout.{all_ones, nodes_place, parent_place, scope_place, node_place}
use Rattle.table.specs.Table.{symbol_of, declares}
use Rattle.table.specs.Values.{number_of}
use Rattle.table.specs.declared.Symbol.{Symbol}
use Rattle.table.specs.declared.Symbol.TheVariants as symbol
use Rattle.sound.specs.Sound.{has_name, is_symbol, scopes_in, symbols_in, parent_below, row_sound, test_sound}

-- tests that all give 16 where they fail, as one
pub needs-run : (f : ℕ → ℕ) (test : ℕ → Bool) → ((i : ℕ) → f i ≡ need 16 (test i)) → (c i : ℕ) → need 16 (list_all test (range_with_len i c)) ≡ run f c i
unfolding run need
needs-run f test e zero i = refl
needs-run f test e (suc c) i = go (test i) (e i) (needs-run f test e c (i + 1))
  where
    go : (b : Bool) → f i ≡ need 16 b → need 16 (list_all test (range_with_len (i + 1) c)) ≡ run f c (i + 1)
        → need 16 (b && list_all test (range_with_len (i + 1) c)) ≡ f i ▸ run f c (i + 1)
    go true q r = r ∙ sym (skip _ _ q)
    go false q r = sym (stop _ _ 15 q)

-- what a test says of a code that is 0 or 16
pub needed : (b : Bool) (k : ℕ) → need 16 b ≡ k → b ≡ eqb k 0
unfolding need
needed true k e = rw (sym e) refl
needed false k e = rw (sym e) refl

module _ (img : List ℕ) where
  pub named-no : (n : ℕ) → field img n 0 ≡ 0 → has_name img n ≡ false
  unfolding has_name
  named-no n h = rw (eq-eqb _ _ h, has_name)

  pub named-yes : (n : ℕ) → (field img n 0 ≡ 0 → ⊥) → has_name img n ≡ true
  unfolding has_name
  named-yes n h = rw (ne_eqb _ _ h, has_name)

  pub symbol-out : (n : ℕ) → nodes img ≤ n → is_symbol img n ≡ false
  unfolding is_symbol
  symbol-out n h = rw (le-ltb _ _ h, is_symbol)

  -- what a kind's number says
  abbrev by-number : ℕ → ℕ → Bool
  by-number n k = elim (eqb k 6) [
    | true ↦ has_name img n
    | false ↦ elim (eqb k 10) [
      | true ↦ has_name img n
      | false ↦ (leb 2 k && leb k 9) || eqb k 13
    ]
  ]

  module _ (n : ℕ) (below : n < nodes img) where
    by-kind : (k : ℕ) → k ≡ kind_at img n → is_symbol img n ≡ by-number n k
    unfolding is_symbol
    by-kind k e = rw (lt-ltb _ _ below, e, is_symbol)

    pub symbol-rule : kind_at img n ≡ 6 → is_symbol img n ≡ has_name img n
    symbol-rule h = by-kind 6 (sym h)

    pub symbol-arg : kind_at img n ≡ 10 → is_symbol img n ≡ has_name img n
    symbol-arg h = by-kind 10 (sym h)

    pub symbol-var : kind_at img n ≡ 13 → is_symbol img n ≡ true
    symbol-var h = by-kind 13 (sym h)

    module _ (not-rule : kind_at img n ≡ 6 → ⊥) (not-arg : kind_at img n ≡ 10 → ⊥) (not-var : kind_at img n ≡ 13 → ⊥) where
      others : is_symbol img n ≡ ((leb 2 (kind_at img n) && leb (kind_at img n) 9) || false)
      others = by-kind _ refl ∙ rw (ne_eqb _ _ not-rule, by-number) (rw (ne_eqb _ _ not-arg) (rw (ne_eqb _ _ not-var)))

      pub symbol_low : kind_at img n < 2 → is_symbol img n ≡ false
      symbol_low h = others ∙ rw (lt-leb _ _ h)

      pub symbol-decl : 2 ≤ kind_at img n → is_symbol img n ≡ leb (kind_at img n) 9
      symbol-decl h = others ∙ rw (le-leb _ _ h) (go (leb (kind_at img n) 9))
        where
          go : (b : Bool) → (b || false) ≡ b
          go true = refl
          go false = refl

    -- what a symbol's number says, of a kind that has one
    said : Bool → ℕ → Bool
    said false m = false
    said true m = elim (eqb m 7) [
      | true ↦ has_name img n
      | false ↦ elim (eqb m 8) [ true ↦ has_name img n | false ↦ true ]
    ]

    beyond : (k : ℕ) → 13 < k → by-number n k ≡ false
    beyond k h = rw (ne_eqb k 6 (λ e. omega arith), by-number) (rw (ne_eqb k 10 (λ e. omega arith)) (rw (ne_eqb k 13 (λ e. omega arith), lt-leb k 9 (omega arith), le-leb 2 k (omega arith))))

    symbols-are : (k : ℕ) → by-number n k ≡ said (declares k) (symbol_of k)
    unfolding symbol_of declares said
    symbols-are zero = refl
    symbols-are (suc zero) = refl
    symbols-are (suc (suc zero)) = refl
    symbols-are (suc (suc (suc zero))) = refl
    symbols-are (suc (suc (suc (suc zero)))) = refl
    symbols-are (suc (suc (suc (suc (suc zero))))) = refl
    symbols-are (suc (suc (suc (suc (suc (suc zero)))))) = refl
    symbols-are (suc (suc (suc (suc (suc (suc (suc zero))))))) = refl
    symbols-are (suc (suc (suc (suc (suc (suc (suc (suc zero)))))))) = refl
    symbols-are (suc (suc (suc (suc (suc (suc (suc (suc (suc zero))))))))) = refl
    symbols-are (suc (suc (suc (suc (suc (suc (suc (suc (suc (suc zero)))))))))) = refl
    symbols-are (suc (suc (suc (suc (suc (suc (suc (suc (suc (suc (suc zero))))))))))) = refl
    symbols-are (suc (suc (suc (suc (suc (suc (suc (suc (suc (suc (suc (suc zero)))))))))))) = refl
    symbols-are (suc (suc (suc (suc (suc (suc (suc (suc (suc (suc (suc (suc (suc zero))))))))))))) = refl
    symbols-are (suc (suc (suc (suc (suc (suc (suc (suc (suc (suc (suc (suc (suc (suc k)))))))))))))) = beyond (suc (suc (suc (suc (suc (suc (suc (suc (suc (suc (suc (suc (suc (suc k)))))))))))))) (omega arith)

    module _ (k : ℕ) (e : k ≡ kind_at img n) where
      pub symbol-none : false ≡ declares k → is_symbol img n ≡ false
      unfolding said
      symbol-none d = by-kind k e ∙ symbols-are k ∙ ap (λ b. said b (symbol_of k)) (sym d)

      module _ (s : Symbol) (m : number_of s ≡ symbol_of k) (d : true ≡ declares k) where
        by-said : is_symbol img n ≡ said true (number_of s)
        by-said = by-kind k e ∙ symbols-are k ∙ ap₂ said (sym d) (sym m)

        pub symbol-named : (s ≡ symbol.Rule) ⊎ (s ≡ symbol.Arg) → is_symbol img n ≡ has_name img n
        unfolding said
        symbol-named (inl h) = by-said ∙ ap (λ t. said true (number_of t)) h
        symbol-named (inr h) = by-said ∙ ap (λ t. said true (number_of t)) h

        pub symbol-yes : (s ≡ symbol.Rule → ⊥) → (s ≡ symbol.Arg → ⊥) → is_symbol img n ≡ true
        unfolding said
        symbol-yes a b = by-said ∙ go s a b
          where
            go : (t : Symbol) → (t ≡ symbol.Rule → ⊥) → (t ≡ symbol.Arg → ⊥) → said true (number_of t) ≡ true
            go symbol.Type a b = refl
            go symbol.Pred a b = refl
            go symbol.Func a b = refl
            go symbol.Const a b = refl
            go symbol.Enum a b = refl
            go symbol.Ctor a b = refl
            go symbol.Model a b = refl
            go symbol.Rule a b = absurd (a refl)
            go symbol.Arg a b = absurd (b refl)
            go symbol.Var a b = refl

module _ (img ws : List ℕ) where
  pub parent-low : (s p : ℕ) → p ≡ get_or ws (parent_place (nodes img) s) 0 → p < s → parent_below img ws s ≡ 0
  unfolding parent_below
  parent-low s p e h = need-in 16 _ (lt-ltb _ _ (let z : get_or ws (parent_place (nodes img) s) 0 < s = omega arith in z))

  pub row_out : (j : ℕ) → scopes_in img ws ≤ get_or ws (scope_place (nodes img) j) 0 → row_sound img ws j ≡ 16
  unfolding row_sound
  row_out j h = stop _ _ 15 (need-out 16 _ (le-ltb _ _ h))

  pub row_in : (j : ℕ) → get_or ws (scope_place (nodes img) j) 0 < scopes_in img ws → row_sound img ws j ≡ need 16 (is_symbol img (get_or ws (node_place (nodes img) j) 0))
  unfolding row_sound
  row_in j h = skip _ _ (need-in 16 _ (lt-ltb _ _ h))

  pub row-yes : (j s k : ℕ) → s ≡ get_or ws (scope_place (nodes img) j) 0 → k ≡ scopes_in img ws → (n : ℕ) → n ≡ get_or ws (node_place (nodes img) j) 0 → s < k → is_symbol img n ≡ true → row_sound img ws j ≡ 0
  row-yes j s k scope count n e h q = row_in j (omega arith) ∙ need-in 16 _ (ap (is_symbol img) (sym e) ∙ q)

  pub row-need : (j : ℕ) → row_sound img ws j ≡ need 16 (eqb (row_sound img ws j) 0)
  unfolding need
  row-need j = go (dec_lt (get_or ws (scope_place (nodes img) j) 0) (scopes_in img ws)) (is_symbol img (get_or ws (node_place (nodes img) j) 0)) refl
    where
      go : Dec (get_or ws (scope_place (nodes img) j) 0 < scopes_in img ws) → (b : Bool) → is_symbol img (get_or ws (node_place (nodes img) j) 0) ≡ b
          → row_sound img ws j ≡ need 16 (eqb (row_sound img ws j) 0)
      go (no h) b e = rw (row_out j (omega arith))
      go (yes h) true e = rw (row_in j h, e)
      go (yes h) false e = rw (row_in j h, e)

  -- what the code has read: N, the first word, K and Y
  pub record Read (n f k y : ℕ) : Type 0 where
    pub nodes_are : n ≡ nodes img
    pub first-is : f ≡ get_or ws nodes_place 0
    pub scopes-are : k ≡ scopes_in img ws
    pub symbols-are : y ≡ symbols_in img ws

  -- the whole test, stage by stage
  module _ {n f k y : ℕ} (r : Read n f k y) where
    pub sound-nodes : (f ≡ n → ⊥) → test_sound img ws ≡ 16
    unfolding test_sound
    sound-nodes h = stop _ _ 15 (need-out 16 _ (ne_eqb _ _ (λ e. h (r.first-is ∙ e ∙ sym r.nodes_are))))

    module _ (first : f ≡ n) where
      as_first : need 16 (eqb (get_or ws nodes_place 0) (nodes img)) ≡ 0
      as_first = need-in 16 _ (eq-eqb _ _ (sym r.first-is ∙ first ∙ r.nodes_are))

      pub sound_none : k ≡ 0 → test_sound img ws ≡ 16
      unfolding test_sound
      sound_none h = skip _ _ as_first ∙ stop _ _ 15 (need-out 16 _ (lt-leb _ _ (let z : scopes_in img ws < 1 = omega arith in z)))

      module _ (some : k ≡ 0 → ⊥) where
        as_some : need 16 (leb 1 (scopes_in img ws)) ≡ 0
        as_some = need-in 16 _ (le-leb _ _ (let z : 1 ≤ scopes_in img ws = omega (arith, some) in z))

        pub sound-scopes : n < k → test_sound img ws ≡ 16
        unfolding test_sound
        sound-scopes h = skip _ _ as_first ∙ skip _ _ as_some ∙ stop _ _ 15 (need-out 16 _ (lt-leb _ _ (let z : nodes img < scopes_in img ws = omega arith in z)))

        module _ (few : k ≤ n) where
          as-few : need 16 (leb (scopes_in img ws) (nodes img)) ≡ 0
          as-few = need-in 16 _ (le-leb _ _ (let z : scopes_in img ws ≤ nodes img = omega arith in z))

          pub sound-symbols : n < y → test_sound img ws ≡ 16
          unfolding test_sound
          sound-symbols h =
              skip _ _ as_first ∙ skip _ _ as_some ∙ skip _ _ as-few
              ∙ stop _ _ 15 (need-out 16 _ (lt-leb _ _ (let z : nodes img < symbols_in img ws = omega arith in z)))

          module _ (fewer : y ≤ n) where
            as-fewer : need 16 (leb (symbols_in img ws) (nodes img)) ≡ 0
            as-fewer = need-in 16 _ (le-leb _ _ (let z : symbols_in img ws ≤ nodes img = omega arith in z))

            pub sound-rest : get_or ws (parent_place (nodes img) 0) 0 ≡ all_ones → test_sound img ws ≡ (run (parent_below img ws) (k - 1) 1 ▸ run (row_sound img ws) y 0)
            unfolding test_sound
            sound-rest h =
                skip _ _ as_first ∙ skip _ _ as_some ∙ skip _ _ as-few ∙ skip _ _ as-fewer ∙ skip _ _ (need-in 16 _ (eq-eqb _ _ h))
                ∙ ap₂ (λ a b. run (parent_below img ws) (a - 1) 1 ▸ run (row_sound img ws) b 0) (sym r.scopes-are) (sym r.symbols-are)

            module _ (p : ℕ) (parent-is : p ≡ get_or ws (parent_place (nodes img) 0) 0) where
              pub sound-root : (p ≡ all_ones → ⊥) → test_sound img ws ≡ 16
              unfolding test_sound
              sound-root h = skip _ _ as_first ∙ skip _ _ as_some ∙ skip _ _ as-few ∙ skip _ _ as-fewer ∙ stop _ _ 15 (need-out 16 _ (ne_eqb _ _ (λ e. h (parent-is ∙ e))))

              module _ (root : p ≡ all_ones) (b : Bool) (parents-are : need 16 b ≡ run (parent_below img ws) (k - 1) 1) where
                rest : test_sound img ws ≡ (need 16 b ▸ run (row_sound img ws) y 0)
                rest = sound-rest (sym parent-is ∙ root) ∙ ap (λ a. a ▸ run (row_sound img ws) y 0) (sym parents-are)

                pub sound-parents : b ≡ false → test_sound img ws ≡ 16
                sound-parents h = rest ∙ stop _ _ 15 (need-out 16 b h)

                pub sound-rows : b ≡ true → (c : Bool) → need 16 c ≡ run (row_sound img ws) y 0 → test_sound img ws ≡ need 16 c
                sound-rows h c e = rest ∙ skip _ _ (need-in 16 b h) ∙ sym e

pub halt : (a b : ℕ) → (a ≡ 0 → ⊥) → a ▸ b ≡ a
unfolding ◌▸◌
halt zero b h = absurd (h refl)
halt (suc a) b h = refl

-- what a sound table is
pub record IsSound (img ws : List ℕ) : Type 0 where
  pub counted : get_or ws nodes_place 0 ≡ nodes img
  pub some : 1 ≤ scopes_in img ws
  pub few_scopes : scopes_in img ws ≤ nodes img
  pub few_symbols : symbols_in img ws ≤ nodes img
  pub root : get_or ws (parent_place (nodes img) 0) 0 ≡ all_ones
  pub under : (j : ℕ) → j < symbols_in img ws → get_or ws (scope_place (nodes img) j) 0 < scopes_in img ws
  pub symbol : (j : ℕ) → j < symbols_in img ws → is_symbol img (get_or ws (node_place (nodes img) j) 0) ≡ true

pub sound-is : (img ws : List ℕ) → test_sound img ws ≡ 0 → IsSound img ws
unfolding test_sound row_sound
sound-is img ws e =
    let a = both _ _ e in
    let b = both _ _ a.1 in
    let c = both _ _ b.1 in
    let d = both _ _ c.1 in
    let f = both _ _ d.1 in
    let rows = (both _ _ f.1).1 in
    let row = λ (j : ℕ) (l : j < symbols_in img ws). both _ _ (subst (λ (i : ℕ). row_sound img ws i ≡ 0) (zero-add j) (ran (row_sound img ws) (symbols_in img ws) 0 rows j l)) in
    record {
      counted = eqb→eq _ _ (tested 15 _ a.0);
      some = leb→le _ _ (tested 15 _ b.0);
      few_scopes = leb→le _ _ (tested 15 _ c.0);
      few_symbols = leb→le _ _ (tested 15 _ d.0);
      root = eqb→eq _ _ (tested 15 _ f.0);
      under = λ j l. ltb→lt _ _ (tested 15 _ (row j l).0);
      symbol = λ j l. true-is _ (tested 15 _ (row j l).1);
    }
