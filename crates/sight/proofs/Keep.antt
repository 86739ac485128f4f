-- What steps keep: numbers and counts rise, new places stand below the blocks around, and what is bound elsewhere stays.
use mathlib.Core.Path.{◌≡◌, refl, sym, ◌∙◌, subst}
use mathlib.Core.Logic.{◌⊎◌, inl, inr, ◌↔◌}
use mathlib.Core.Bool.{Bool, true, false}
use mathlib.Core.List.{List, [], ◌∷◌, ◌++◌}
use mathlib.Core.Option.{Option, some}
use Prim.Native.Nat.{ℕ, ◌≤◌}
use native.Mathlib.Omega.{arith}
use Rattle.ast.specs.Image.{name_of}
use Rattle.table.specs.State.{Walked, introduce}
use Rattle.table.specs.Table.{lookup, is_kind, is_value, mark}
use Rattle.ordered.specs.Walk.{Role, defines, walk_ident}
use Rattle.ast.proofs.Bools.{true-not-false}
use Rattle.sight.specs.Sight.{Sort, defined, Place, add, opened, In, Within}
use Rattle.sight.proofs.Members.{in_left, in_right}
use Rattle.sight.proofs.Flat.{limit, Adds, Visible, Hit, bind, bind-hit, bind-miss, bind-cong}
use Rattle.sight.proofs.Steps.{State, Simple, occur, declare, apply, role, sort, placing, Steps, stay, next, marks, places, fixes, drops}

module _ (img : List ℕ) (outer : ℕ → Option ℕ) where
  -- the binding of x as seen from below the blocks and cases b, among the places numbered below lim
  abbrev pub bound : ℕ → List Place → List ℕ → ℕ → Option ℕ
  bound lim ps b x = bind (name_of img) (is_kind img 13) (is_kind img 5) outer lim ps b x

  abbrev pub AddsHere : Sort → Option ℕ → Type 0
  AddsHere σ o = Adds (name_of img) (is_kind img 13) (is_kind img 5) outer σ o

  abbrev pub HitsHere : ℕ → List ℕ → ℕ → Place → Option ℕ → Type 0
  HitsHere lim b x p o = Hit (name_of img) (is_kind img 13) (is_kind img 5) outer lim b x p o

  pub bound-hit : (lim : ℕ) (p : Place) (ps : List Place) (b : List ℕ) (x : ℕ) → HitsHere lim b x p (bound (limit p) ps p.around x)
      → bound lim (p ∷ ps) b x ≡ some p.ident
  bound-hit = bind-hit (name_of img) (is_kind img 13) (is_kind img 5) outer

  pub bound-miss : (lim : ℕ) (p : Place) (ps : List Place) (b : List ℕ) (x : ℕ) → (HitsHere lim b x p (bound (limit p) ps p.around x) → ⊥)
      → bound lim (p ∷ ps) b x ≡ bound lim ps b x
  bound-miss = bind-miss (name_of img) (is_kind img 13) (is_kind img 5) outer

  pub bound-cong : (ps : List Place) (lim lim' : ℕ) (b b' : List ℕ) (x : ℕ) → ((p : Place) → In p ps → Visible lim b p ↔ Visible lim' b' p)
      → bound lim ps b x ≡ bound lim' ps b' x
  bound-cong = bind-cong (name_of img) (is_kind img 13) (is_kind img 5) outer

  -- an ident introduces or not, by what lookup gives
  abbrev pub Choice : Sort → Role → ℕ → Walked → Option ℕ → Type 0
  Choice σ r i e o = ((walk_ident img r i e ≡ introduce img i e) × AddsHere σ o) ⊎ ((walk_ident img r i e ≡ e) × (AddsHere σ o → ⊥))

  -- what introduces unless a test holds
  abbrev unless : ℕ → Walked → Bool → Walked
  unless i e c = elim c [ true ↦ e | false ↦ introduce img i e ]

  chosen : (i : ℕ) (e : Walked) (c : Bool) → ((unless i e c ≡ introduce img i e) × (c ≡ false)) ⊎ ((unless i e c ≡ e) × (c ≡ false → ⊥))
  chosen i e true = inr (refl, λ h. true-not-false refl h)
  chosen i e false = inl (refl, refl)

  pub choice : (c : Simple) (i : ℕ) (e : Walked) → Choice (sort c) (role c) i e (lookup img e.table e.scope (name_of img i))
  unfolding walk_ident is_value
  choice occur i e = go (is_kind img 13 o) (is_kind img 5 o) refl refl
    where
      o : Option ℕ
      o = lookup img e.table e.scope (name_of img i)

      result : Bool → Bool → Walked
      result a b = unless i e (elim a [ true ↦ true | false ↦ b ])

      go : (a b : Bool) → is_kind img 13 o ≡ a → is_kind img 5 o ≡ b
          → ((result a b ≡ introduce img i e) × ((is_kind img 13 o ≡ false) × (is_kind img 5 o ≡ false)))
          ⊎ ((result a b ≡ e) × ((is_kind img 13 o ≡ false) × (is_kind img 5 o ≡ false) → ⊥))
      go true b p q = inr (refl, λ h. true-not-false p h.0)
      go false true p q = inr (refl, λ h. true-not-false q h.1)
      go false false p q = inl (refl, (p, q))
  choice declare i e = chosen i e (is_kind img 13 (lookup img e.table e.scope (name_of img i)))
  choice apply i e = inr (refl, λ h. h)

  pub choice-defined : (k before i : ℕ) (e : Walked) → Choice (defined k) (defines before) i e (lookup img e.table before (name_of img i))
  unfolding walk_ident
  choice-defined k before i e = chosen i e (is_kind img 13 (lookup img e.table before (name_of img i)))

  abbrev Counts : Walked → Walked → Type 0
  Counts e f = (e.table.scopes ≤ f.table.scopes) × (e.table.symbols ≤ f.table.symbols)

  counts : (σ : Sort) (r : Role) (i : ℕ) (e : Walked) (o : Option ℕ) → Choice σ r i e o → Counts e (walk_ident img r i e)
  unfolding introduce
  counts σ r i e o (inl h) = subst (Counts e) (sym h.0) (omega arith, omega arith)
  counts σ r i e o (inr h) = subst (Counts e) (sym h.0) (omega arith, omega arith)

  -- places numbered from k on, below the blocks b, are not visible from b' below lim
  abbrev pub Blind : ℕ → List ℕ → ℕ → List ℕ → Type 0
  Blind k b lim b' = (lim ≤ k) ⊎ (Within b b' → ⊥)

  abbrev pub New : List ℕ → List ℕ → ℕ → Place → Type 0
  New b ns k p = (k ≤ p.at) × Within b p.around × In p.node ns × In p.ident ns

  pub record Kept (b ns : List ℕ) (st st' : State) : Type 0 where
    pub later : st.met.next ≤ st'.met.next
    pub scopes≤ : st.now.table.scopes ≤ st'.now.table.scopes
    pub symbols≤ : st.now.table.symbols ≤ st'.now.table.symbols
    pub new : (p : Place) → In p st'.met.places → In p st.met.places ⊎ New b ns st.met.next p
    pub quiet : (lim : ℕ) (b' : List ℕ) (x : ℕ) → Blind st.met.next b lim b' → bound lim st'.met.places b' x ≡ bound lim st.met.places b' x

  -- one place more
  pub kept_place : (b : List ℕ) (σ : Sort) (r : Role) (n i : ℕ) (st : State) (o : Option ℕ) → Choice σ r i st.now o
      → Kept b (i ∷ n ∷ []) st (placing img b σ r n i st)
  unfolding add mark
  kept_place b σ r n i st o h =
      let c = counts σ r i st.now o h in
      record {
        later = omega arith;
        scopes≤ = c.0;
        symbols≤ = c.1;
        new = λ p j. elim j [
          | inl e ↦ inr (subst (New b (i ∷ n ∷ []) st.met.next) (sym e) (omega arith, (λ m k. k), inr (inl refl), inl refl))
          | inr k ↦ inl k
        ];
        quiet = λ lim b' x d. bound-miss lim
            (record { at = st.met.next; node = n; ident = i; sort = σ; around = b }) st.met.places b' x
            (λ w. elim d [ inl l ↦ let m = w.0.0 in omega arith | inr f ↦ f w.0.1 ]);
      }

  kept_next : (b ns ms : List ℕ) (st st' st'' : State) → Kept b ns st st' → Kept b ms st' st'' → Kept b (ns ++ ms) st st''
  kept_next b ns ms st st' st'' f g =
      let l = f.later in
      record {
        later = omega arith;
        scopes≤ = omega arith;
        symbols≤ = omega arith;
        new = λ p j. before p (g.new p j);
        quiet = λ lim b' x d. g.quiet lim b' x (elim d [ inl m ↦ inl (omega arith) | inr k ↦ inr k ]) ∙ f.quiet lim b' x d;
      }
    where
      fresh : (p : Place) → In p st.met.places ⊎ New b ns st.met.next p → In p st.met.places ⊎ New b (ns ++ ms) st.met.next p
      fresh p (inl i) = inl i
      fresh p (inr h) = inr (h.0, h.1, in_left p.node ns ms h.2, in_left p.ident ns ms h.3)

      before : (p : Place) → In p st'.met.places ⊎ New b ms st'.met.next p → In p st.met.places ⊎ New b (ns ++ ms) st.met.next p
      before p (inl i) = fresh p (f.new p i)
      before p (inr h) =
          let l = f.later in
          let m = h.0 in
          inr (omega arith, h.1, in_right p.node ns ms h.2, in_right p.ident ns ms h.3)

  pub kept : {b ns : List ℕ} {st st' : State} → Steps img b ns st st' → Kept b ns st st'
  unfolding mark opened
  kept {st = st} stay = record { later = omega arith; scopes≤ = omega arith; symbols≤ = omega arith; new = λ p j. inl j; quiet = λ lim b' x d. refl }
  kept (next {b = b} {ns = ns} {ms = ms} {st = st} {st' = st'} {st'' = st''} s u) = kept_next b ns ms st st' st'' (kept s) (kept u)
  kept (marks {st = st} n e x) = record { later = omega arith; scopes≤ = omega arith; symbols≤ = omega arith; new = λ p j. inl j; quiet = λ lim b' x d. refl }
  kept (places {b = b} {st = st} c n i k) =
      kept_place b (sort c) (role c) n i st (lookup img st.now.table st.now.scope (name_of img i)) (choice c i st.now)
  kept (fixes {b = b} {ns = ns} {st = st} {st' = st'} s n i k) =
      kept_next b ns (i ∷ n ∷ []) st st' (placing img b (defined st.met.next) (defines st.now.scope) n i st') (kept s)
      (kept_place b (defined st.met.next) (defines st.now.scope) n i st' (lookup img st'.now.table st.now.scope (name_of img i))
      (choice-defined st.met.next st.now.scope i st'.now))
  kept (drops {b = b} {ns = ns} {st = st} {st' = st'} s) =
      let f = kept s in
      let l = f.later in
      record {
        later = omega arith;
        scopes≤ = f.scopes≤;
        symbols≤ = f.symbols≤;
        new = λ p j. elim (f.new p j) [ inl i ↦ inl i | inr h ↦ let m = h.0 in inr (omega arith, (λ k i. h.1 k (inr i)), h.2, h.3) ];
        quiet = λ lim b' x d. f.quiet lim b' x (elim d [ inl m ↦ inl (omega arith) | inr g ↦ inr (λ w. g (λ k i. w k (inr i))) ]);
      }
