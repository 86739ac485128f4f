-- What holds all along the walk of a rule body: lookup at the current scope, and at each exit recorded, gives the binding
-- among the places met so far.
use mathlib.Core.Path.{◌≡◌, refl, sym, ◌∙◌, ap, subst}
use mathlib.Core.Logic.{◌⊎◌, inl, inr, ◌≢◌}
use mathlib.Core.Bool.{Bool, true, false}
use mathlib.Core.List.{List, [], ◌∷◌, ◌++◌}
use mathlib.Core.Option.{Option, none, some}
use Prim.Native.Nat.{ℕ, suc, ◌≤◌, ◌<◌}
use native.Mathlib.Omega.{arith}
use native.Mathlib.Decide.{ℕ_discrete}
use lib.Dec.{eqb}
use borrow.Author.Tests.{eq-eqb, ne_eqb}
use Rattle.ast.specs.Declarations.{or_else, earliest}
use Rattle.ast.specs.Image.{nodes, name_of, kind_at}
use Rattle.ordered.specs.Walk.{Role, defines, walk_ident}
use Rattle.table.specs.State.{Walked, introduce}
use Rattle.table.specs.Table.{Table, lookup, is_kind, mark, exit_at}
use Rattle.table.specs.Kept.{Kept as KeptTable}
use Rattle.table.proofs.Kept.{mark-kept}
use Rattle.sight.specs.Listing.{Distinct}
use Rattle.sight.specs.Sight.{Sort, defined, Place, add, opened, In, Within}
use Rattle.sight.proofs.Flat.{limit_of, Sorted, Chain}
use Rattle.sight.proofs.Frame.{Bounds, Later, later-next}
use Rattle.table.proofs.Frame.{mark-lookup, mark-exit, mark-exit-same, new-lookup, new-lookup-old, new-exit, new-kept}
use Rattle.sight.proofs.Keep.{bound, AddsHere, HitsHere, bound-hit, bound-miss, bound-cong, Choice, choice, choice-defined, New, Kept, kept, kept_place}
use Rattle.sight.proofs.Members.{in_left, in_right, distinct-left, distinct-right, distinct_apart}
use Rattle.sight.proofs.Steps.{State, Simple, occur, declare, apply, role, sort, marking, placing, opening, closing, Steps, stay, next, marks, places, fixes, drops}

abbrev at-eq : {p q : Place} → p ≡ q → p.at ≡ q.at
at-eq e = ap (λ (z : Place). z.at) e

module _ (img : List ℕ) (outer : ℕ → Option ℕ) where
  -- the exit recorded for a place: lookup there gives the bindings seen from it
  abbrev pub ExitOf : Table → List Place → Place → Type 0
  ExitOf t ps p =
      (exit_at img t.words p.node < t.scopes) ×
      ((x : ℕ) → lookup img t (exit_at img t.words p.node) x ≡ bound img outer (suc p.at) ps p.around x)

  pub record Good (b : List ℕ) (st : State) : Type 0 where
    pub sane : KeptTable img st.now.table
    pub inside : st.now.scope < st.now.table.scopes
    pub reads : (x : ℕ) → lookup img st.now.table st.now.scope x ≡ bound img outer st.met.next st.met.places b x
    pub sorted : Sorted (name_of img) (is_kind img 13) (is_kind img 5) outer st.met.places
    pub low : (p : Place) → In p st.met.places → p.at < st.met.next
    pub low_around : (p : Place) → In p st.met.places → (n : ℕ) → In n p.around → n < st.met.next
    pub low_node : (p : Place) → In p st.met.places → p.node < nodes img
    pub low_blocks : (n : ℕ) → In n b → n < st.met.next
    pub chain : Chain st.met.places st.met.next b
    pub chains : (o : Place) → In o st.met.places → Chain st.met.places (suc o.at) o.around
    pub seen : (p : Place) → In p st.met.places → ExitOf st.now.table st.met.places p
    pub single : (p q : Place) → In p st.met.places → In q st.met.places → p.ident ≡ q.ident → p ≡ q

  -- the limit does not matter above all numbers
  bound-limit : (ps : List Place) (k : ℕ) → ((p : Place) → In p ps → p.at < k) → (lim : ℕ) → k ≤ lim → (b : List ℕ) (x : ℕ)
      → bound img outer lim ps b x ≡ bound img outer k ps b x
  bound-limit ps k low lim l b x =
      bound-cong img outer ps lim k b b x
      (λ p i. (λ v. (low p i, v.1), λ v. (let m = low p i in omega arith, v.1)))

  -- an ident at its place
  module _ (b : List ℕ) (σ : Sort) (r : Role) (n i : ℕ) (st : State) (g : Good b st) where
    abbrev here : Place
    here = record { at = st.met.next; node = n; ident = i; sort = σ; around = b }

    abbrev ps : List Place
    ps = st.met.places

    abbrev asks : Option ℕ
    asks = bound img outer (limit_of σ st.met.next) ps b (name_of img i)

    record Did (e : Walked) : Type 0 where
      sane : KeptTable img e.table
      inside : e.scope < e.table.scopes
      rise : st.now.table.scopes ≤ e.table.scopes
      old : (s x : ℕ) → s < st.now.table.scopes → lookup img e.table s x ≡ lookup img st.now.table s x
      exits : (m : ℕ) → m < nodes img → exit_at img e.table.words m ≡ exit_at img st.now.table.words m
      reads : (x : ℕ) → lookup img e.table e.scope x ≡ bound img outer (suc st.met.next) (here ∷ ps) b x

    -- who is no hit leaves the binding
    passed : (x : ℕ) → (HitsHere img outer (suc st.met.next) b x here (bound img outer (limit_of σ st.met.next) ps b x) → ⊥)
        → lookup img st.now.table st.now.scope x ≡ bound img outer (suc st.met.next) (here ∷ ps) b x
    passed x f =
        g.reads x
        ∙ sym (bound-limit ps st.met.next g.low (suc st.met.next) (omega arith) b x)
        ∙ sym (bound-miss img outer (suc st.met.next) here ps b x f)

    did-keep : (AddsHere img outer σ asks → ⊥) → Did st.now
    did-keep f =
        record {
          sane = g.sane;
          inside = g.inside;
          rise = omega arith;
          old = λ s x l. refl;
          exits = λ m l. refl;
          reads = λ x. passed x (λ h. f (subst (λ y. AddsHere img outer σ (bound img outer (limit_of σ st.met.next) ps b y)) (sym h.1.0) h.1.1));
        }

    did-introduce : AddsHere img outer σ asks → Bounds img (introduce img i st.now).table → Did (introduce img i st.now)
    unfolding introduce earliest
    did-introduce a l =
        let l₀ = l.0 in
        let l₁ = l.1 in
        record {
          sane = new-kept img i st.now g.sane g.inside (omega arith) (omega arith);
          inside = omega arith;
          rise = omega arith;
          old = λ s x k. new-lookup-old img i st.now g.sane g.inside (omega arith) (omega arith) s x k;
          exits = λ m k. new-exit img i st.now g.sane g.inside (omega arith) (omega arith) m k;
          reads = λ x. new-lookup img i st.now g.sane g.inside (omega arith) (omega arith) x ∙ go x (ℕ_discrete (name_of img i) x);
        }
      where
        pick_by : ℕ → Bool → Option ℕ
        pick_by x c = or_else (elim c [ true ↦ some i | false ↦ none ]) (lookup img st.now.table st.now.scope x)

        go : (x : ℕ) → Dec (name_of img i ≡ x) → pick_by x (eqb (name_of img i) x) ≡ bound img outer (suc st.met.next) (here ∷ ps) b x
        go x (yes e) =
            ap (λ y. pick_by x (eqb (name_of img i) y)) (sym e)
            ∙ ap (pick_by x) (eq-eqb (name_of img i) (name_of img i) refl)
            ∙ sym (bound-hit img outer (suc st.met.next) here ps b x
            ((omega arith, λ m j. j), (e, subst (λ y. AddsHere img outer σ (bound img outer (limit_of σ st.met.next) ps b y)) e a)))
        go x (no f) = ap (pick_by x) (ne_eqb (name_of img i) x f) ∙ passed x (λ h. f h.1.0)

    did : Choice img outer σ r i st.now asks → Bounds img (walk_ident img r i st.now).table → Did (walk_ident img r i st.now)
    did (inl h) l = subst Did (sym h.0) (did-introduce h.1 (subst (λ (e : Walked). Bounds img e.table) h.0 l))
    did (inr h) l = subst Did (sym h.0) (did-keep h.1)

    abbrev result : State
    result = placing img b σ r n i st

    abbrev exit : Walked
    exit = walk_ident img r i st.now

    placed : Choice img outer σ r i st.now asks → kind_at img i ≡ 13 → i < nodes img → n < nodes img
        → ((p : Place) → In p ps → (In p.node (i ∷ n ∷ []) → ⊥) × (In p.ident (i ∷ n ∷ []) → ⊥))
        → limit_of σ st.met.next ≤ st.met.next → Bounds img exit.table → Good b result × Later img st.now.table result.now.table (i ∷ n ∷ [])
    unfolding add mark is_kind
    placed c kind i<N n<N clear limited fits = (
      record {
        sane = mark-kept img n st.now.scope exit.scope t₂ n<N (mark-kept img i st.now.scope exit.scope exit.table i<N d.sane);
        inside = d.inside;
        reads = λ x. same exit.scope x ∙ d.reads x;
        sorted = ((λ q j. g.low q j), limited, ap (λ k. eqb k 13) kind, g.sorted);
        low = λ p j. elim j [ inl e ↦ let q = at-eq e in omega arith | inr k ↦ let l = g.low p k in omega arith ];
        low_around = λ p j m k. elim j [
          | inl e ↦ let l = g.low_blocks m (subst (λ (z : Place). In m z.around) e k) in omega arith
          | inr h ↦ let l = g.low_around p h m k in omega arith
        ];
        low_node = λ p j. elim j [ inl e ↦ subst (λ (z : Place). z.node < nodes img) (sym e) n<N | inr k ↦ g.low_node p k ];
        low_blocks = λ m j. let l = g.low_blocks m j in omega arith;
        chain = chained;
        chains = λ o j. elim j [ inl e ↦ subst (λ (z : Place). Chain (here ∷ ps) (suc z.at) z.around) (sym e) chained | inr k ↦ older o k ];
        seen = λ p j. elim j [ inl e ↦ subst (λ (z : Place). ExitOf result.now.table (here ∷ ps) z) (sym e) seen_here | inr k ↦ seen_old p k ];
        single = singles;
      },
      record {
        lookups = λ s x l. same s x ∙ d.old s x l;
        exits = λ m l f. exits m l (λ e. f (inl e)) (λ e. f (inr (inl e)));
      },
    )
      where
        d : Did exit
        d = did c fits

        t₂ : Table
        t₂ = mark img i st.now.scope exit.scope exit.table

        same : (s x : ℕ) → lookup img result.now.table s x ≡ lookup img exit.table s x
        same s x = mark-lookup img n st.now.scope exit.scope t₂ n<N s x ∙ mark-lookup img i st.now.scope exit.scope exit.table i<N s x

        exits : (m : ℕ) → m < nodes img → m ≢ i → m ≢ n → exit_at img result.now.table.words m ≡ exit_at img st.now.table.words m
        exits m l f h =
            mark-exit img n st.now.scope exit.scope t₂ n<N m l h
            ∙ mark-exit img i st.now.scope exit.scope exit.table i<N m l f
            ∙ d.exits m l

        chained : Chain (here ∷ ps) (suc st.met.next) b
        chained q s (inl e) (inl f) l m w v = subst (λ (z : Place). Within q.around z.around) (sym f) w
        chained q s (inr j) (inl f) l m w v = subst (λ (z : Place). Within q.around z.around) (sym f) w
        chained q s (inl e) (inr k) l m w v = let u = g.low s k in let e' = at-eq e in absurd (omega arith)
        chained q s (inr j) (inr k) l m w v = g.chain q s j k l (g.low s k) w v

        older : (o : Place) → In o ps → Chain (here ∷ ps) (suc o.at) o.around
        older o k q s (inr j) (inr h) l m w v = g.chains o k q s j h l m w v
        older o k q s (inl e) (inl f) l m w v = let u = g.low o k in let f' = at-eq f in absurd (omega arith)
        older o k q s (inr j) (inl f) l m w v = let u = g.low o k in let f' = at-eq f in absurd (omega arith)
        older o k q s (inl e) (inr h) l m w v = let u = g.low s h in let e' = at-eq e in absurd (omega arith)

        exit_here : exit_at img result.now.table.words n ≡ exit.scope
        exit_here = mark-exit-same img n st.now.scope exit.scope t₂ n<N (mark-kept img i st.now.scope exit.scope exit.table i<N d.sane)

        seen_here : ExitOf result.now.table (here ∷ ps) here
        seen_here =
            subst (λ s. (s < exit.table.scopes) × ((x : ℕ) → lookup img result.now.table s x ≡ bound img outer (suc st.met.next) (here ∷ ps) b x))
            (sym exit_here) (d.inside, λ x. same exit.scope x ∙ d.reads x)

        seen_old : (p : Place) → In p ps → ExitOf result.now.table (here ∷ ps) p
        seen_old p j =
            subst (λ s. (s < exit.table.scopes) × ((x : ℕ) → lookup img result.now.table s x ≡ bound img outer (suc p.at) (here ∷ ps) p.around x))
            (sym (exits p.node (g.low_node p j) (λ e. (clear p j).0 (inl e)) (λ e. (clear p j).0 (inr (inl e))))) (
              (let a = (g.seen p j).0 in let u = d.rise in omega arith),
              λ x. same (exit_at img st.now.table.words p.node) x
                  ∙ d.old (exit_at img st.now.table.words p.node) x (g.seen p j).0
                  ∙ (g.seen p j).1 x
                  ∙ sym (bound-miss img outer (suc p.at) here ps p.around x
                  (λ h. let a = h.0.0 in let u = g.low p j in omega arith)),
            )

        singles : (p q : Place) → In p (here ∷ ps) → In q (here ∷ ps) → p.ident ≡ q.ident → p ≡ q
        singles p q (inl e) (inl f) h = e ∙ sym f
        singles p q (inl e) (inr k) h = absurd ((clear q k).1 (inl (sym h ∙ ap (λ (z : Place). z.ident) e)))
        singles p q (inr j) (inl f) h = absurd ((clear p j).1 (inl (h ∙ ap (λ (z : Place). z.ident) f)))
        singles p q (inr j) (inr k) h = g.single p q j k h

  -- the nodes of places met are not marked again
  abbrev pub Clear : State → List ℕ → Type 0
  Clear st ns = (p : Place) → In p st.met.places → (In p.node ns → ⊥) × (In p.ident ns → ⊥)

  abbrev pub Small : List ℕ → Type 0
  Small ns = (n : ℕ) → In n ns → n < nodes img

  clear-left : (ns ms : List ℕ) (st : State) → Clear st (ns ++ ms) → Clear st ns
  clear-left ns ms st f p j = (λ i. (f p j).0 (in_left p.node ns ms i), λ i. (f p j).1 (in_left p.ident ns ms i))

  clear_next : (b ns ms : List ℕ) (st st' : State) → Kept img outer b ns st st' → Distinct (ns ++ ms) → Clear st (ns ++ ms) → Clear st' ms
  clear_next b ns ms st st' k d f p j = go (k.new p j)
    where
      go : In p st.met.places ⊎ New img outer b ns st.met.next p → (In p.node ms → ⊥) × (In p.ident ms → ⊥)
      go (inl i) = (λ h. (f p i).0 (in_right p.node ns ms h), λ h. (f p i).1 (in_right p.ident ns ms h))
      go (inr h) = (distinct_apart ns ms d p.node h.2, distinct_apart ns ms d p.ident h.3)

  simple-limit : (c : Simple) (k : ℕ) → k ≡ limit_of (sort c) k
  simple-limit occur k = refl
  simple-limit declare k = refl
  simple-limit apply k = refl

  good-marks : (b : List ℕ) (st : State) (n e x : ℕ) → n < nodes img → Clear st (n ∷ []) → Good b st
      → Good b (marking img n e x st) × Later img st.now.table (mark img n e x st.now.table) (n ∷ [])
  unfolding mark
  good-marks b st n e x l f g = (
    record {
      sane = mark-kept img n e x st.now.table l g.sane;
      inside = g.inside;
      reads = λ y. mark-lookup img n e x st.now.table l st.now.scope y ∙ g.reads y;
      sorted = g.sorted;
      low = g.low;
      low_around = g.low_around;
      low_node = g.low_node;
      low_blocks = g.low_blocks;
      chain = g.chain;
      chains = g.chains;
      seen = λ p j. subst
          (λ s. (s < st.now.table.scopes)
          × ((y : ℕ) → lookup img (mark img n e x st.now.table) s y ≡ bound img outer (suc p.at) st.met.places p.around y))
          (sym (mark-exit img n e x st.now.table l p.node (g.low_node p j) (λ q. (f p j).0 (inl q))))
          ((g.seen p j).0, λ y. mark-lookup img n e x st.now.table l (exit_at img st.now.table.words p.node) y ∙ (g.seen p j).1 y);
      single = g.single;
    },
    record {
      lookups = λ s y k. mark-lookup img n e x st.now.table l s y;
      exits = λ m k h. mark-exit img n e x st.now.table l m k (λ q. h (inl q));
    },
  )

  good-opening : (b : List ℕ) (st : State) → Good b st → Good (st.met.next ∷ b) (opening st)
  unfolding opened
  good-opening b st g =
      record {
        sane = g.sane;
        inside = g.inside;
        reads = λ x. g.reads x
            ∙ bound-cong img outer st.met.places st.met.next (suc st.met.next) b (st.met.next ∷ b) x
            (λ p j. (λ v. (let l = v.0 in omega arith, λ n k. inr (v.1 n k)), λ v. (g.low p j, shrink p j v.1)));
        sorted = g.sorted;
        low = λ p j. let l = g.low p j in omega arith;
        low_around = λ p j n k. let l = g.low_around p j n k in omega arith;
        low_node = g.low_node;
        low_blocks = λ n j. elim j [ inl e ↦ omega arith | inr k ↦ let l = g.low_blocks n k in omega arith ];
        chain = λ q r j k l m w v. g.chain q r j k l (g.low r k) (shrink q j w) (shrink r k v);
        chains = g.chains;
        seen = g.seen;
        single = g.single;
      }
    where
      -- what was met before the block has not its number
      shrink : (p : Place) → In p st.met.places → Within p.around (st.met.next ∷ b) → Within p.around b
      shrink p j w n k = go (w n k)
        where
          go : In n (st.met.next ∷ b) → In n b
          go (inl e) = let l = g.low_around p j n k in absurd (omega arith)
          go (inr h) = h

  good-closing : (b ns : List ℕ) (st st' : State) → Kept img outer (st.met.next ∷ b) ns (opening st) st' → Good b st
      → Good (st.met.next ∷ b) st' → Later img st.now.table st'.now.table ns → Good b (closing img st st')
  unfolding opened
  good-closing b ns st st' k g g' r =
      record {
        sane = g'.sane;
        inside = let l = g.inside in let m = k.scopes≤ in omega arith;
        reads = λ x.
            r.lookups st.now.scope x g.inside
            ∙ g.reads x
            ∙ sym (bound-limit st.met.places st.met.next g.low st'.met.next (let l = k.later in omega arith) b x)
            ∙ sym (k.quiet st'.met.next b x (inr (λ w. let l = g.low_blocks st.met.next (w st.met.next (inl refl)) in omega arith)));
        sorted = g'.sorted;
        low = g'.low;
        low_around = g'.low_around;
        low_node = g'.low_node;
        low_blocks = λ n j. let l = g.low_blocks n j in let m = k.later in omega arith;
        chain = λ q s i j l m w v. g.chain q s (old q w (k.new q i)) (old s v (k.new s j)) l (g.low s (old s v (k.new s j))) w v;
        chains = g'.chains;
        seen = g'.seen;
        single = g'.single;
      }
    where
      -- what is in sight outside the block was met before it
      old : (p : Place) → Within p.around b → In p st.met.places ⊎ New img outer (st.met.next ∷ b) ns (suc st.met.next) p → In p st.met.places
      old p w (inl i) = i
      old p w (inr h) = let l = g.low_blocks st.met.next (w st.met.next (h.1 st.met.next (inl refl))) in absurd (omega arith)

  pub good : {b ns : List ℕ} {st st' : State} → Steps img b ns st st' → Bounds img st'.now.table → Small ns → Distinct ns → Clear st ns → Good b st
      → Good b st' × Later img st.now.table st'.now.table ns
  unfolding mark opened
  good {st = st} stay bs sm di cl g = (g, record { lookups = λ s x l. refl; exits = λ m l f. refl })
  good (next {b = b} {ns = ns} {ms = ms} {st = st} {st' = st'} {st'' = st''} s u) bs sm di cl g =
      let k = kept img outer s in
      let k' = kept img outer u in
      let a = k'.scopes≤ in
      let c = k'.symbols≤ in
      let h : Good b st' × Later img st.now.table st'.now.table ns =
      good s (omega arith, omega arith) (λ n i. sm n (in_left n ns ms i)) (distinct-left ns ms di) (clear-left ns ms st cl) g in
      let h' : Good b st'' × Later img st'.now.table st''.now.table ms =
      good u bs (λ n i. sm n (in_right n ns ms i)) (distinct-right ns ms di) (clear_next b ns ms st st' k di cl) h.0 in
      (h'.0, later-next img st.now.table st'.now.table st''.now.table ns ms k.scopes≤ h.1 h'.1)
  good (marks {b = b} {st = st} n e x) bs sm di cl g = good-marks b st n e x (sm n (inl refl)) cl g
  good (places {b = b} {st = st} c n i k) bs sm di cl g =
      placed b (sort c) (role c) n i st g
      (subst (λ o. Choice img outer (sort c) (role c) i st.now o)
      (g.reads (name_of img i) ∙ ap (λ l. bound img outer l st.met.places b (name_of img i)) (simple-limit c st.met.next))
      (choice img outer c i st.now))
      k (sm i (inl refl)) (sm n (inr (inl refl))) cl (let e = simple-limit c st.met.next in omega arith) bs
  good (fixes {b = b} {ns = ns} {st = st} {st' = st'} s n i k) bs sm di cl g =
      let ms : List ℕ = i ∷ n ∷ [] in
      let σ : Sort = defined st.met.next in
      let r : Role = defines st.now.scope in
      let f = kept img outer s in
      let c = choice-defined img outer st.met.next st.now.scope i st'.now in
      let f' = kept_place img outer b σ r n i st' (lookup img st'.now.table st.now.scope (name_of img i)) c in
      let a = f'.scopes≤ in
      let a' = f'.symbols≤ in
      let l = f.later in
      let h : Good b st' × Later img st.now.table st'.now.table ns =
      good s (omega arith, omega arith) (λ m j. sm m (in_left m ns ms j)) (distinct-left ns ms di) (clear-left ns ms st cl) g in
      let h' : Good b (placing img b σ r n i st') × Later img st'.now.table (placing img b σ r n i st').now.table ms =
      placed b σ r n i st' h.0
      (subst (λ o. Choice img outer σ r i st'.now o)
      (h.1.lookups st.now.scope (name_of img i) g.inside ∙ g.reads (name_of img i)
      ∙ sym (f.quiet st.met.next b (name_of img i) (inl (omega arith))))
      c)
      k (sm i (in_right i ns ms (inl refl))) (sm n (in_right n ns ms (inr (inl refl)))) (clear_next b ns ms st st' f di cl) l bs in
      (h'.0, later-next img st.now.table st'.now.table (placing img b σ r n i st').now.table ns ms f.scopes≤ h.1 h'.1)
  good (drops {b = b} {ns = ns} {st = st} {st' = st'} s) bs sm di cl g =
      let h : Good (st.met.next ∷ b) st' × Later img st.now.table st'.now.table ns = good s bs sm di cl (good-opening b st g) in
      (good-closing b ns st st' (kept img outer s) g h.0 h.1, h.1)
