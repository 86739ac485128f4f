-- The binding of a name among places, without scopes: the last introducing place in sight. It is a Var exactly where a
-- naming place is in sight, and two places have one binding exactly where `Same` says so.
use Rattle.std.proofs.lemmas.Bool.{cases_Bool}
use mathlib.Core.Path.{◌≡◌, refl, sym, ◌∙◌, ap, subst}
use mathlib.Core.Logic.Dec
use mathlib.Core.Logic.{◌⊎◌, inl, inr, ◌↔◌}
use mathlib.Core.Bool.{Bool, true, false, Bool-discrete}
use mathlib.Core.List.{List, [], ◌∷◌}
use mathlib.Core.Option.{Option, some}
use Prim.Native.Nat.{ℕ, suc, ◌≤◌, ◌<◌}
use native.Mathlib.Decide.{ℕ_discrete, dec_lt}
use native.Mathlib.Omega.{arith}
use Rattle.ast.proofs.Bools.{true-not-false}
use Rattle.sight.specs.Sight.{Sort, ordinary, declared, applied, defined, Place, In, Within, Sees, Names, Naming, Fresh, FreshSort, NamedBelow, Occurrence, NoneFresh, Same}

-- lists of numbers
dec_in : (n : ℕ) (b : List ℕ) → Dec (In n b)
dec_in n [] = no (λ h. h)
dec_in n (m ∷ b) = go (ℕ_discrete n m) (dec_in n b)
  where
    go : Dec (n ≡ m) → Dec (In n b) → Dec (In n (m ∷ b))
    go (yes e) d = yes (inl e)
    go (no f) (yes h) = yes (inr h)
    go (no f) (no g) = no (λ h. elim h [ inl e ↦ f e | inr k ↦ g k ])

dec_within : (a b : List ℕ) → Dec (Within a b)
dec_within [] b = yes (λ n h. absurd h)
dec_within (m ∷ a) b = go (dec_in m b) (dec_within a b)
  where
    go : Dec (In m b) → Dec (Within a b) → Dec (Within (m ∷ a) b)
    go (yes h) (yes k) = yes (λ n i. elim i [ inl e ↦ subst (λ x. In x b) (sym e) h | inr j ↦ k n j ])
    go (yes h) (no g) = no (λ w. g (λ n i. w n (inr i)))
    go (no f) d = no (λ w. f (w m (inl refl)))

unfoldable pub pick : {A : Type 0} → Dec A → Option ℕ → Option ℕ → Option ℕ
pick (yes a) u v = u
pick (no f) u v = v

pub pick_yes : {A : Type 0} (d : Dec A) (u v : Option ℕ) → A → pick d u v ≡ u
unfolding pick
pick_yes (yes a) u v h = refl
pick_yes (no f) u v h = absurd (f h)

pub pick_no : {A : Type 0} (d : Dec A) (u v : Option ℕ) → (A → ⊥) → pick d u v ≡ v
unfolding pick
pick_no (yes a) u v h = absurd (h a)
pick_no (no f) u v h = refl

-- the number below which a naming place keeps this one from introducing
abbrev pub limit_of : Sort → ℕ → ℕ
limit_of ordinary a = a
limit_of declared a = a
limit_of applied a = a
limit_of (defined k) a = k

abbrev pub limit : Place → ℕ
limit p = limit_of p.sort p.at

-- from a point below the blocks and cases b, where lim is the next number
abbrev pub Visible : ℕ → List ℕ → Place → Type 0
Visible lim b p = (p.at < lim) × Within p.around b

-- of two places in sight of a point, the earlier is in sight of the later
abbrev pub Chain : List Place → ℕ → List ℕ → Type 0
Chain ps lim b =
    (q r : Place) → In q ps → In r ps → q.at ≤ r.at → r.at < lim → Within q.around b → Within r.around b → Within q.around r.around

module _ (name : ℕ → ℕ) (var const : Option ℕ → Bool) (outer : ℕ → Option ℕ) where
  abbrev pub constant : ℕ → Bool
  constant x = const (outer x)

  -- whether an ident of the sort introduces, by what lookup gives
  abbrev pub Adds : Sort → Option ℕ → Type 0
  Adds ordinary o = (var o ≡ false) × (const o ≡ false)
  Adds declared o = var o ≡ false
  Adds (defined k) o = var o ≡ false
  Adds applied o = ⊥

  pub dec_adds : (σ : Sort) (o : Option ℕ) → Dec (Adds σ o)
  dec_adds ordinary o = Dec.and (Bool-discrete (var o) false) (Bool-discrete (const o) false)
  dec_adds declared o = Bool-discrete (var o) false
  dec_adds (defined k) o = Bool-discrete (var o) false
  dec_adds applied o = no (λ h. h)

  abbrev pub Hit : ℕ → List ℕ → ℕ → Place → Option ℕ → Type 0
  Hit lim b x p o = Visible lim b p × ((name p.ident ≡ x) × Adds p.sort o)

  pub dec_hit : (lim : ℕ) (b : List ℕ) (x : ℕ) (p : Place) (o : Option ℕ) → Dec (Hit lim b x p o)
  dec_hit lim b x p o =
      Dec.and (Dec.and (dec_lt p.at lim) (dec_within p.around b)) (Dec.and (ℕ_discrete (name p.ident) x) (dec_adds p.sort o))

  -- the binding of x as seen from b, among the places numbered below lim; the list has the last place first
  unfoldable pub bind : ℕ → List Place → List ℕ → ℕ → Option ℕ
  bind lim [] b x = outer x
  bind lim (p ∷ ps) b x =
      pick (dec_hit lim b x p (bind (limit p) ps p.around x)) (some p.ident) (bind lim ps b x)

  -- what lookup gives where p asks whether to introduce x
  abbrev pub asked : Place → List Place → ℕ → Option ℕ
  asked p ps x = bind (limit p) ps p.around x

  pub bind-hit : (lim : ℕ) (p : Place) (ps : List Place) (b : List ℕ) (x : ℕ) → Hit lim b x p (asked p ps x) → bind lim (p ∷ ps) b x ≡ some p.ident
  unfolding bind
  bind-hit lim p ps b x h = pick_yes (dec_hit lim b x p (asked p ps x)) (some p.ident) (bind lim ps b x) h

  pub bind-miss : (lim : ℕ) (p : Place) (ps : List Place) (b : List ℕ) (x : ℕ) → (Hit lim b x p (asked p ps x) → ⊥) → bind lim (p ∷ ps) b x ≡ bind lim ps b x
  unfolding bind
  bind-miss lim p ps b x h = pick_no (dec_hit lim b x p (asked p ps x)) (some p.ident) (bind lim ps b x) h

  -- places that are visible from one point exactly if they are from the other have one binding
  pub bind-cong : (ps : List Place) (lim lim' : ℕ) (b b' : List ℕ) (x : ℕ) →
      ((p : Place) → In p ps → Visible lim b p ↔ Visible lim' b' p) → bind lim ps b x ≡ bind lim' ps b' x
  unfolding bind
  bind-cong [] lim lim' b b' x h = refl
  bind-cong (p ∷ ps) lim lim' b b' x h =
      go (dec_hit lim b x p (asked p ps x)) (bind-cong ps lim lim' b b' x (λ q i. h q (inr i)))
    where
      go : Dec (Hit lim b x p (asked p ps x)) → bind lim ps b x ≡ bind lim' ps b' x → bind lim (p ∷ ps) b x ≡ bind lim' (p ∷ ps) b' x
      go (yes k) e = bind-hit lim p ps b x k ∙ sym (bind-hit lim' p ps b' x ((h p (inl refl)).0 k.0, k.1))
      go (no f) e =
          bind-miss lim p ps b x f ∙ e ∙ sym (bind-miss lim' p ps b' x (λ k. f ((h p (inl refl)).1 k.0, k.1)))

  -- the list is in order, with the last place first
  abbrev pub Sorted : List Place → Type 0
  Sorted [] = Unit {0}
  Sorted (p ∷ ps) = ((q : Place) → In q ps → q.at < p.at) × (limit p ≤ p.at) × (var (some p.ident) ≡ true) × Sorted ps

  module _ (outside : (x : ℕ) → var (outer x) ≡ false) where
    pub bind-outer : (ps : List Place) → Sorted ps → (lim : ℕ) (b : List ℕ) (x : ℕ) → var (bind lim ps b x) ≡ false → bind lim ps b x ≡ outer x
    unfolding bind
    bind-outer [] s lim b x e = refl
    bind-outer (p ∷ ps) s lim b x e = go (dec_hit lim b x p (asked p ps x)) (bind-outer ps s.3 lim b x)
      where
        go : Dec (Hit lim b x p (asked p ps x)) → (var (bind lim ps b x) ≡ false → bind lim ps b x ≡ outer x) → bind lim (p ∷ ps) b x ≡ outer x
        go (yes k) r = absurd (true-not-false s.2 (ap var (sym (bind-hit lim p ps b x k)) ∙ e))
        go (no f) r = bind-miss lim p ps b x f ∙ r (ap var (sym (bind-miss lim p ps b x f)) ∙ e)

    -- a naming place of x, visible from the point
    abbrev pub Seen : ℕ → List Place → List ℕ → ℕ → Type 0
    Seen lim ps b x = (p : Place) × In p ps × Naming name constant p × (name p.ident ≡ x) × Visible lim b p

    -- who introduces is a naming place; a naming place that does not introduce has found a Var
    adds-names : (σ : Sort) (x : ℕ) (o : Option ℕ) → (var o ≡ false → o ≡ outer x) → Adds σ o → Names name constant σ x
    adds-names ordinary x o h a = ap const (sym (h a.0)) ∙ a.1
    adds-names declared x o h a = tt
    adds-names (defined k) x o h a = tt
    adds-names applied x o h a = a

    names-found : (σ : Sort) (x : ℕ) (o : Option ℕ) → (var o ≡ false → o ≡ outer x) → Names name constant σ x → (Adds σ o → ⊥) → var o ≡ true
    names-found ordinary x o h c f = elim (cases_Bool (var o)) [ inl e ↦ e | inr e ↦ absurd (f (e, ap const (h e) ∙ c)) ]
    names-found declared x o h c f = elim (cases_Bool (var o)) [ inl e ↦ e | inr e ↦ absurd (f e) ]
    names-found (defined k) x o h c f = elim (cases_Bool (var o)) [ inl e ↦ e | inr e ↦ absurd (f e) ]
    names-found applied x o h c f = absurd c

    -- the binding is a Var exactly if a naming place is seen
    pub var-seen : (ps : List Place) → Sorted ps → (lim : ℕ) (b : List ℕ) (x : ℕ) → var (bind lim ps b x) ≡ true → Seen lim ps b x
    unfolding bind
    var-seen [] s lim b x e = absurd (true-not-false e (outside x))
    var-seen (p ∷ ps) s lim b x e = go (dec_hit lim b x p (asked p ps x)) (var-seen ps s.3 lim b x)
      where
        go : Dec (Hit lim b x p (asked p ps x)) → (var (bind lim ps b x) ≡ true → Seen lim ps b x) → Seen lim (p ∷ ps) b x
        go (yes k) r =
            (p, inl refl, rw k.1.0 (adds-names p.sort x (asked p ps x) (bind-outer ps s.3 (limit p) p.around x) k.1.1), k.1.0, k.0)
        go (no f) r =
            let h = r (ap var (sym (bind-miss lim p ps b x f)) ∙ e) in
            (h.0, inr h.1, h.2, h.3, h.4)

    pub seen-var : (ps : List Place) → Sorted ps → (lim : ℕ) (b : List ℕ) (x : ℕ) → Seen lim ps b x → var (bind lim ps b x) ≡ true
    unfolding bind
    seen-var [] s lim b x h = absurd h.1
    seen-var (p ∷ ps) s lim b x h = go (dec_hit lim b x p (asked p ps x)) h.1 (seen-var ps s.3 lim b x)
      where
        go : Dec (Hit lim b x p (asked p ps x)) → In h.0 (p ∷ ps) → (Seen lim ps b x → var (bind lim ps b x) ≡ true) → var (bind lim (p ∷ ps) b x) ≡ true
        go (yes k) i r = ap var (bind-hit lim p ps b x k) ∙ s.2
        go (no f) (inr i) r = ap var (bind-miss lim p ps b x f) ∙ r (h.0, i, h.2, h.3, h.4)
        go (no f) (inl e) r =
            let e' : name p.ident ≡ x = ap (λ (q : Place). name q.ident) (sym e) ∙ h.3 in
            let v : Visible lim b p = subst (λ (q : Place). Visible lim b q) e h.4 in
            let nm : Names name constant p.sort x = subst (λ y. Names name constant p.sort y) e' (subst (λ (q : Place). Naming name constant q) e h.2) in
            let found : var (asked p ps x) ≡ true = names-found p.sort x (asked p ps x) (bind-outer ps s.3 (limit p) p.around x) nm (λ a. f (v, (e', a))) in
            let w : Seen (limit p) ps p.around x = var-seen ps s.3 (limit p) p.around x found in
            let low = w.4.0 in
            let lim≤ = s.1 in
            let vis = v.0 in
            ap var (bind-miss lim p ps b x f) ∙ r (w.0, w.1, w.2, w.3, (omega arith, λ n i. v.1 n (w.4.1 n i)))

    -- fresh definitions
    abbrev FreshIn : List Place → Sort → Place → Type 0
    FreshIn ps σ d = FreshSort name constant ps σ d

    fresh-down : (q : Place) (ps : List Place) (d : Place) (σ : Sort) → FreshIn (q ∷ ps) σ d → FreshIn ps σ d
    fresh-down q ps d ordinary f = f
    fresh-down q ps d declared f = f
    fresh-down q ps d applied f = f
    fresh-down q ps d (defined k) f = λ h. f (h.0, inr h.1, h.2, h.3, h.4, h.5)

    fresh_up : (q : Place) (ps : List Place) (d : Place) (σ : Sort) → limit_of σ d.at ≤ d.at → d.at < q.at → FreshIn ps σ d → FreshIn (q ∷ ps) σ d
    fresh_up q ps d ordinary l u f = f
    fresh_up q ps d declared l u f = f
    fresh_up q ps d applied l u f = f
    fresh_up q ps d (defined k) l u f = λ h. go h h.1
      where
        go : (h : NamedBelow name constant (q ∷ ps) k d) → In h.0 (q ∷ ps) → ⊥
        go h (inl e) = let e' = ap (λ (p : Place). p.at) e in let h' = h.4 in omega arith
        go h (inr i) = f (h.0, i, h.2, h.3, h.4, h.5)

    fresh-adds : (q : Place) (ps : List Place) → Sorted (q ∷ ps) → (σ : Sort) → limit_of σ q.at ≤ q.at → FreshIn (q ∷ ps) σ q
        → Adds σ (bind (limit_of σ q.at) ps q.around (name q.ident))
    fresh-adds q ps s ordinary l f = absurd f
    fresh-adds q ps s declared l f = absurd f
    fresh-adds q ps s applied l f = f
    fresh-adds q ps s (defined k) l f = go (cases_Bool (var (bind k ps q.around (name q.ident))))
      where
        go : (var (bind k ps q.around (name q.ident)) ≡ true) ⊎ (var (bind k ps q.around (name q.ident)) ≡ false)
            → var (bind k ps q.around (name q.ident)) ≡ false
        go (inr e) = e
        go (inl e) =
            let h : Seen k ps q.around (name q.ident) = var-seen ps s.3 k q.around (name q.ident) e in
            let u = h.4.0 in
            absurd (f (h.0, inr h.1, h.2, h.3, u, (omega arith, h.4.1)))

    -- who introduces, with a naming place earlier in its sight, is a fresh definition
    adds-fresh : (q : Place) (ps : List Place) → Sorted (q ∷ ps) → (σ : Sort) → limit_of σ q.at ≤ q.at
        → var (bind q.at ps q.around (name q.ident)) ≡ true
        → Adds σ (bind (limit_of σ q.at) ps q.around (name q.ident)) → FreshIn (q ∷ ps) σ q
    adds-fresh q ps s ordinary l v a = true-not-false v a.0
    adds-fresh q ps s declared l v a = true-not-false v a
    adds-fresh q ps s applied l v a = a
    adds-fresh q ps s (defined k) l v a = λ h. go h h.1
      where
        go : (h : NamedBelow name constant (q ∷ ps) k q) → In h.0 (q ∷ ps) → ⊥
        go h (inl e) = let e' = ap (λ (p : Place). p.at) e in let h' = h.4 in omega arith
        go h (inr i) = true-not-false (seen-var ps s.3 k q.around (name q.ident) (h.0, i, h.2, h.3, (h.4, h.5.1))) a

    pub sorted-limit : (ps : List Place) → Sorted ps → (p : Place) → In p ps → limit p ≤ p.at
    sorted-limit [] s p i = absurd i
    sorted-limit (q ∷ ps) s p (inl e) = subst (λ (r : Place). limit r ≤ r.at) (sym e) s.1
    sorted-limit (q ∷ ps) s p (inr i) = sorted-limit ps s.3 p i

    pub sorted-unique : (ps : List Place) → Sorted ps → (p r : Place) → In p ps → In r ps → p.at ≡ r.at → p ≡ r
    sorted-unique [] s p r i j e = absurd i
    sorted-unique (q ∷ ps) s p r (inl d) (inl f) e = d ∙ sym f
    sorted-unique (q ∷ ps) s p r (inl d) (inr j) e =
        let d' = ap (λ (z : Place). z.at) d in let l = s.0 r j in absurd (omega arith)
    sorted-unique (q ∷ ps) s p r (inr i) (inl f) e =
        let f' = ap (λ (z : Place). z.at) f in let l = s.0 p i in absurd (omega arith)
    sorted-unique (q ∷ ps) s p r (inr i) (inr j) e = sorted-unique ps s.3 p r i j e

    -- no fresh definition of x after p is visible
    abbrev pub Last : List Place → ℕ → List ℕ → ℕ → Place → Type 0
    Last ps lim b x p =
        (d : Place) → In d ps → Fresh name constant ps d → name d.ident ≡ x → p.at < d.at → Visible lim b d → ⊥

    -- the binding seen from a point is the one seen from any naming place there with no fresh definition after it
    pub bind-at : (ps : List Place) → Sorted ps → (lim : ℕ) (b : List ℕ) → Chain ps lim b → (p : Place) → In p ps → Naming name constant p
        → Visible lim b p → Last ps lim b (name p.ident) p → bind lim ps b (name p.ident) ≡ bind (suc p.at) ps p.around (name p.ident)
    unfolding bind
    bind-at [] s lim b c p i nm v z = absurd i
    bind-at (q ∷ ps) s lim b c p (inl e) nm v z =
        bind-cong (q ∷ ps) lim (suc p.at) b p.around (name p.ident)
        (λ r j. (
          (λ w. (top r j, c r p j (inl e) (down (top r j)) v.0 w.1 v.1)),
          (λ w. ((let l = w.0 in let m = v.0 in omega arith), λ n k. v.1 n (w.1 n k))),
        ))
      where
        down : {a b : ℕ} → a < suc b → a ≤ b
        down h = omega arith

        top : (r : Place) → In r (q ∷ ps) → r.at < suc p.at
        top r (inl f) = let f' = ap (λ (z : Place). z.at) f in let e' = ap (λ (z : Place). z.at) e in omega arith
        top r (inr j) = let l = s.0 r j in let e' = ap (λ (z : Place). z.at) e in omega arith
    bind-at (q ∷ ps) s lim b c p (inr i) nm v z =
        bind-miss lim q ps b (name p.ident) miss
        ∙ bind-at ps s.3 lim b (λ r t j k. c r t (inr j) (inr k)) p i nm v (λ d j f e l w. z d (inr j) (fresh_up q ps d d.sort (sorted-limit ps s.3 d j) (s.0 d j) f) e l w)
        ∙ sym (bind-miss (suc p.at) q ps p.around (name p.ident) (λ h. let l = h.0.0 in let m = s.0 p i in omega arith))
      where
        miss : Hit lim b (name p.ident) q (asked q ps (name p.ident)) → ⊥
        miss h =
            let e : name q.ident ≡ name p.ident = h.1.0 in
            let below = s.0 p i in
            let w : Within p.around q.around = c p q (inr i) (inl refl) (omega arith) h.0.0 v.1 h.0.1 in
            let found : var (bind q.at ps q.around (name q.ident)) ≡ true = seen-var ps s.3 q.at q.around (name q.ident) (p, i, nm, sym e, (below, w)) in
            let a : Adds q.sort (asked q ps (name q.ident)) = subst (λ y. Adds q.sort (asked q ps y)) (sym e) h.1.1 in
            z q (inl refl) (adds-fresh q ps s q.sort s.1 found a) e below h.0

    -- a Var comes from a naming place with no fresh definition after it
    abbrev pub From : List Place → ℕ → List ℕ → ℕ → Type 0
    From ps lim b x =
        (p : Place) × In p ps × (bind lim ps b x ≡ some p.ident) × Naming name constant p × (name p.ident ≡ x) × Visible lim b p × Last ps lim b x p

    pub bind-from : (ps : List Place) → Sorted ps → (lim : ℕ) (b : List ℕ) (x : ℕ) → var (bind lim ps b x) ≡ true → From ps lim b x
    unfolding bind
    bind-from [] s lim b x e = absurd (true-not-false e (outside x))
    bind-from (q ∷ ps) s lim b x e = go (dec_hit lim b x q (asked q ps x)) (bind-from ps s.3 lim b x)
      where
        top : (d : Place) → In d (q ∷ ps) → q.at < d.at → ⊥
        top d (inl f) l = let f' = ap (λ (z : Place). z.at) f in omega arith
        top d (inr j) l = let m = s.0 d j in omega arith

        go : Dec (Hit lim b x q (asked q ps x)) → (var (bind lim ps b x) ≡ true → From ps lim b x) → From (q ∷ ps) lim b x
        go (yes k) r = (
          q,
          inl refl,
          bind-hit lim q ps b x k,
          rw k.1.0 (adds-names q.sort x (asked q ps x) (bind-outer ps s.3 (limit q) q.around x) k.1.1),
          k.1.0,
          k.0,
          λ d j f e' l w. top d j l,
        )
        go (no f) r =
            let h : From ps lim b x = r (ap var (sym (bind-miss lim q ps b x f)) ∙ e) in
            (h.0, inr h.1, bind-miss lim q ps b x f ∙ h.2, h.3, h.4, h.5, last h)
          where
            last : (h : From ps lim b x) → Last (q ∷ ps) lim b x h.0
            last h d (inr j) g e' l w = h.6 d j (fresh-down q ps d d.sort g) e' l w
            last h d (inl i) g e' l w =
                let g' : FreshIn (q ∷ ps) q.sort q = subst (λ (z : Place). Fresh name constant (q ∷ ps) z) i g in
                let e'' : name q.ident ≡ x = ap (λ (z : Place). name z.ident) (sym i) ∙ e' in
                f (subst (λ (z : Place). Visible lim b z) i w, (e'', subst (λ y. Adds q.sort (asked q ps y)) e'' (fresh-adds q ps s q.sort s.1 g')))

    -- the theorem on flat lists: the places of a rule, and what lookup gives at each
    module _ (ps : List Place) (s : Sorted ps) where
      abbrev pub binding : Place → Option ℕ
      binding o = bind (suc o.at) ps o.around (name o.ident)

      pub var→occurrence : (o : Place) → In o ps → var (binding o) ≡ true → Occurrence name constant ps o
      var→occurrence o i e = go (var-seen ps s (suc o.at) o.around (name o.ident) e)
        where
          go : Seen (suc o.at) ps o.around (name o.ident) → Occurrence name constant ps o
          go h = elim (dec_lt h.0.at o.at) [
            | yes l ↦ inr (h.0, h.1, h.2, h.3, l, (omega arith, h.4.1))
            | no f ↦ let l = h.4.0 in inl (subst (λ (z : Place). Naming name constant z) (sorted-unique ps s h.0 o h.1 i (omega arith)) h.2)
          ]

      pub occurrence→var : (o : Place) → In o ps → Occurrence name constant ps o → var (binding o) ≡ true
      occurrence→var o i (inl nm) = seen-var ps s (suc o.at) o.around (name o.ident) (o, i, nm, refl, (omega arith, λ n j. j))
      occurrence→var o i (inr h) =
          let l = h.4 in
          seen-var ps s (suc o.at) o.around (name o.ident) (h.0, h.1, h.2, h.3, (omega arith, h.5.1))

      module _ (chains : (o : Place) → In o ps → Chain ps (suc o.at) o.around)
          (single : (p q : Place) → In p ps → In q ps → p.ident ≡ q.ident → p ≡ q) where
        abbrev SameHere : Place → Place → Type 0
        SameHere o q = Same name constant ps o q

        -- the binding of o is the one of the naming place
        at-naming : (o p : Place) → In o ps → In p ps → Naming name constant p → name p.ident ≡ name o.ident → Sees p o
            → NoneFresh name constant ps p o → binding o ≡ binding p
        at-naming o p i j nm e v z =
            let w = v.0 in
            ap (λ x. bind (suc o.at) ps o.around x) (sym e)
            ∙ bind-at ps s (suc o.at) o.around (chains o i) p j nm (omega arith, v.1) (λ d k f e' l u. z d k f (e' ∙ e) l (let m = u.0 in omega arith, u.1))

        pub same→equal : (o q : Place) → In o ps → In q ps → SameHere o q → binding o ≡ binding q
        same→equal o q i j h =
            let p = h.1.0 in
            at-naming o p i h.1.1 h.1.2 h.1.3 h.1.4 h.1.6
            ∙ sym (at-naming q p j h.1.1 h.1.2 (h.1.3 ∙ h.0) h.1.5 h.1.7)

        pub equal→same : (o q : Place) → In o ps → In q ps → var (binding o) ≡ true → binding o ≡ binding q → SameHere o q
        equal→same o q i j v e =
            let h : From ps (suc o.at) o.around (name o.ident) = bind-from ps s (suc o.at) o.around (name o.ident) v in
            let k : From ps (suc q.at) q.around (name q.ident) = bind-from ps s (suc q.at) q.around (name q.ident) (ap var (sym e) ∙ v) in
            join h k
          where
            none-fresh : (o p : Place) → Last ps (suc o.at) o.around (name o.ident) p → NoneFresh name constant ps p o
            none-fresh o p z d k f e' l u = let m = u.0 in z d k f e' l (omega arith, u.1)

            sees : (o p : Place) → Visible (suc o.at) o.around p → Sees p o
            sees o p w = let m = w.0 in (omega arith, w.1)

            join : From ps (suc o.at) o.around (name o.ident) → From ps (suc q.at) q.around (name q.ident) → SameHere o q
            join h k =
                let a = h.2 in
                let b = k.2 in
                let same : h.0.ident ≡ k.0.ident = cc in
                let p≡ : k.0 ≡ h.0 = sym (single h.0 k.0 h.1 k.1 same) in
                let kn : name h.0.ident ≡ name q.ident = ap name same ∙ k.4 in (
                  sym h.4 ∙ kn,
                  (
                    h.0,
                    h.1,
                    h.3,
                    h.4,
                    sees o h.0 h.5,
                    sees q h.0 (subst (λ (z : Place). Visible (suc q.at) q.around z) p≡ k.5),
                    none-fresh o h.0 h.6,
                    none-fresh q h.0 (subst (λ (z : Place). Last ps (suc q.at) q.around (name q.ident) z) p≡ k.6),
                  ),
                )

        -- the binding of a Var is the IdentTerm of a naming place, which has itself for its binding
        pub introduced : (o : Place) → In o ps → var (binding o) ≡ true
            → (q : Place) × In q ps × Naming name constant q × (binding o ≡ some q.ident) × (binding q ≡ some q.ident)
        introduced o i v =
            let h : From ps (suc o.at) o.around (name o.ident) = bind-from ps s (suc o.at) o.around (name o.ident) v in
            let e : binding o ≡ binding h.0 =
            at-naming o h.0 i h.1 h.3 h.4 (let m = h.5.0 in (omega arith, h.5.1))
            (λ d k f e' l u. let m = u.0 in h.6 d k f e' l (omega arith, u.1)) in
            (h.0, h.1, h.3, h.2, sym e ∙ h.2)
