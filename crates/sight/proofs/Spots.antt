-- The spots of a rule are its places in the list's order, each node once.
use mathlib.Core.Path.{◌≡◌, refl, sym, ◌∙◌, ap, ap₂, subst}
use mathlib.Core.Logic.{◌⊎◌, inl, inr}
use mathlib.Core.List.{List, [], ◌∷◌, ◌++◌, append-nil}
use Prim.Native.Nat.{ℕ, zero, suc, ◌+◌, ◌≤◌, ◌<◌}
use native.Mathlib.Omega.{arith}
use Rattle.ast.specs.Image.{kind_at}
use Rattle.ast.specs.Kinds.{outer, inner, plain, term, ident, head, head_member, member, case, if_var, defined_then, arg}
use Rattle.ast.specs.Tests.{times}
use Rattle.ast.specs.Tree.{Tree, node, block, Trees, none, ◌◂◌}
use Rattle.ast.proofs.Count.{times-append}
use Rattle.ordered.proofs.Moves.{numbers, numbers_seq}
use Rattle.sight.specs.Sight.{Sort, ordinary, declared, applied, defined, Place, Met, add, opened, place, place_seq, place_then, place_first, rule_places, In}
use Rattle.occurrences.specs.Spots.{Spot, spots, spots_seq, spots_back, spots_first, rule_spots}
use Rattle.occurrences.proofs.Few.{owners, owners-join}
use Rattle.sight.proofs.Members.{in_left, in_right, in_split}
use Rattle.sight.proofs.Flat.{limit_of}
use Rattle.sight.proofs.Steps.{Simple, occur, declare, apply, sort, IdentOnly, VarTerm, VarTerms, Body, Bodies, Members, Defines}
use Rattle.sight.specs.Listing.{InTermSort, Ahead, InOrder}
use Rattle.sight.proofs.Listing.{spot_of, spots_of}

spots_of-join : (ps qs : List Place) → spots_of (ps ++ qs) ≡ spots_of ps ++ spots_of qs
spots_of-join [] qs = refl
spots_of-join (p ∷ ps) qs = ap (λ (l : List Spot). spot_of p ∷ l) (spots_of-join ps qs)

-- where a place's atom starts, for a defined-then's variable; else its own number
abbrev start : Place → ℕ
start p = limit_of p.sort p.at

-- a place numbered from a on, whose atom starts from a on, is not in the term of one before a
abbrev Within : ℕ → ℕ → Place → Type 0
Within a b p = (a ≤ start p) × (a ≤ p.at) × (p.at < b)

before : (a b c d : ℕ) (p q : Place) → Within a b p → Within c d q → b ≤ c → Ahead p q
before a b c d p q v w l = inr (omega arith, outside q.sort w.0)
  where
    outside : (σ : Sort) → c ≤ limit_of σ q.at → InTermSort σ q p → ⊥
    outside ordinary m h = h
    outside declared m h = h
    outside applied m h = h
    outside (defined k) m h = let h₀ = h.0 in let v₂ = v.2 in omega arith

order-join : (ps qs : List Place) → InOrder ps → InOrder qs → ((p q : Place) → In p ps → In q qs → Ahead p q) → InOrder (ps ++ qs)
order-join [] qs f g h = g
order-join (p ∷ ps) qs f g h = (
  (λ q i. elim (in_split q ps qs i) [ inl j ↦ f.0 q j | inr j ↦ h p q (inl refl) j ]),
  order-join ps qs f.1 g (λ r q i j. h r q (inr i) j),
)

-- the kind of a place's node: an AppHead for an app head's ident, else a Term
abbrev pub owner_kind : Sort → ℕ
owner_kind ordinary = 12
owner_kind declared = 12
owner_kind applied = 15
owner_kind (defined k) = 12

-- a sort that an IdentTerm has below a Term
abbrev Asks : Simple → Type 0
Asks occur = Unit {0}
Asks declare = Unit {0}
Asks apply = ⊥

asks-kind : (c : Simple) → Asks c → 12 ≡ owner_kind (sort c)
asks-kind occur a = refl
asks-kind declare a = refl
asks-kind apply a = absurd a

-- from m to m' the places of the spots l are met, and the nodes ns marked
record Meets (img : List ℕ) (m m' : Met) (ns : List ℕ) (l : List Spot) : Type 0 where
  later : m.next ≤ m'.next
  here : List Place
  are : spots_of here ≡ l
  order : InOrder here
  within : (p : Place) → In p here → Within m.next m'.next p
  olds : (p : Place) → In p m.places → In p m'.places
  adds : (p : Place) → In p here → In p m'.places
  news : (p : Place) → In p m'.places → In p m.places ⊎ In p here
  once : (v : ℕ) → times v (owners l) ≤ times v ns
  kinds : (p : Place) → In p here → kind_at img p.node ≡ owner_kind p.sort

simple-start : (c : Simple) (k : ℕ) → k ≤ limit_of (sort c) k
simple-start occur k = omega arith
simple-start declare k = omega arith
simple-start apply k = omega arith

own-once : (i o v : ℕ) → times v (o ∷ []) ≤ times v (i ∷ o ∷ [])
unfolding times
own-once i o v = omega arith

module _ (img : List ℕ) where
  meets-none : (m : Met) (ns : List ℕ) → Meets img m m ns []
  unfolding times
  meets-none m ns =
      record {
        later = omega arith;
        here = [];
        are = refl;
        order = tt;
        within = λ p i. absurd i;
        olds = λ p i. i;
        adds = λ p i. absurd i;
        news = λ p i. inl i;
        once = λ v. omega arith;
        kinds = λ p i. absurd i;
      }

  meets-more : {m m' : Met} {ns : List ℕ} {l : List Spot} (ms : List ℕ) → Meets img m m' ns l → Meets img m m' (ns ++ ms) l
  meets-more {ns = ns} ms f =
      record {
        later = f.later;
        here = f.here;
        are = f.are;
        order = f.order;
        within = f.within;
        olds = f.olds;
        adds = f.adds;
        news = f.news;
        once = λ v. let a = f.once v in let b = times-append v ns ms in omega arith;
        kinds = f.kinds;
      }

  -- the IdentTerm i in its Term or AppHead o
  meets-add : (c : Simple) (o : ℕ) (b : List ℕ) (i : ℕ) (m : Met) → kind_at img o ≡ owner_kind (sort c)
      → Meets img m (add (sort c) o b i m) (i ∷ o ∷ []) (record { node = o; ident = i } ∷ [])
  unfolding add
  meets-add c o b i m kind =
      record {
        later = omega arith;
        here = p ∷ [];
        are = refl;
        order = (λ q j. absurd j, tt);
        within = λ q j. elim j [ inl e ↦ subst (Within m.next (suc m.next)) (sym e) (simple-start c m.next, omega arith, omega arith) | inr k ↦ absurd k ];
        olds = λ q j. inr j;
        adds = λ q j. elim j [ inl e ↦ inl e | inr k ↦ absurd k ];
        news = λ q j. elim j [ inl e ↦ inr (inl e) | inr k ↦ inl k ];
        once = own-once i o;
        kinds = λ q j. elim j [ inl e ↦ subst (λ (z : Place). kind_at img z.node ≡ owner_kind z.sort) (sym e) kind | inr k ↦ absurd k ];
      }
    where
      p : Place
      p = record { at = m.next; node = o; ident = i; sort = sort c; around = b }

  -- a defined-then's variable, listed before the term
  meets-var : {m m' : Met} {ns : List ℕ} {l : List Spot} → Meets img m m' ns l → (o : ℕ) (b : List ℕ) (i : ℕ) → kind_at img o ≡ 12
      → Meets img m (add (defined m.next) o b i m') (ns ++ (i ∷ o ∷ [])) (record { node = o; ident = i } ∷ l)
  unfolding add times
  meets-var {m} {m'} {ns} {l} f o b i kind =
      let late = f.later in
      record {
        later = omega arith;
        here = d ∷ f.here;
        are = ap (λ (k : List Spot). spot_of d ∷ k) f.are;
        order = (λ q j. let w = f.within q j in let w₁ = w.1 in inl (w₁, w.2), f.order);
        within = λ q j. elim j [
          | inl e ↦ subst (Within m.next (suc m'.next)) (sym e) (omega arith, omega arith, omega arith)
          | inr k ↦ let w = f.within q k in (w.0, w.1, (let w₂ = w.2 in omega arith))
        ];
        olds = λ q j. inr (f.olds q j);
        adds = λ q j. elim j [ inl e ↦ inl e | inr k ↦ inr (f.adds q k) ];
        news = λ q j. elim j [ inl e ↦ inr (inl e) | inr k ↦ elim (f.news q k) [ inl h ↦ inl h | inr h ↦ inr (inr h) ] ];
        once = λ v. count v;
        kinds = λ q j. elim j [ inl e ↦ subst (λ (z : Place). kind_at img z.node ≡ owner_kind z.sort) (sym e) kind | inr k ↦ f.kinds q k ];
      }
    where
      d : Place
      d = record { at = m'.next; node = o; ident = i; sort = defined m.next; around = b }

      count : (v : ℕ) → times v (o ∷ owners l) ≤ times v (ns ++ (i ∷ o ∷ []))
      count v = let a = f.once v in let e = times-append v ns (i ∷ o ∷ []) in let h = own-once i o v in omega arith

  meets-next : {m m' m'' : Met} {ns ms : List ℕ} {l k : List Spot} → Meets img m m' ns l → Meets img m' m'' ms k → Meets img m m'' (ns ++ ms) (l ++ k)
  meets-next {m} {m'} {m''} {ns} {ms} {l} {k} f g =
      let a = f.later in
      let b = g.later in
      record {
        later = omega arith;
        here = f.here ++ g.here;
        are = spots_of-join f.here g.here ∙ ap₂ ◌++◌ f.are g.are;
        order = order-join f.here g.here f.order g.order
            (λ p q i j. before m.next m'.next m'.next m''.next p q (f.within p i) (g.within q j) (omega arith));
        within = λ p i. elim (in_split p f.here g.here i) [
          | inl j ↦ let w = f.within p j in (w.0, w.1, (let w₂ = w.2 in omega arith))
          | inr j ↦ let w = g.within p j in ((let w₀ = w.0 in omega arith), (let w₁ = w.1 in omega arith), w.2)
        ];
        olds = λ p i. g.olds p (f.olds p i);
        adds = λ p i. elim (in_split p f.here g.here i) [ inl j ↦ g.olds p (f.adds p j) | inr j ↦ g.adds p j ];
        news = λ p i. elim (g.news p i) [
          | inr j ↦ inr (in_right p f.here g.here j)
          | inl j ↦ elim (f.news p j) [ inl h ↦ inl h | inr h ↦ inr (in_left p f.here g.here h) ]
        ];
        once = λ v.
            let c = f.once v in
            let d = g.once v in
            let e = times-append v ns ms in
            let h : times v (owners (l ++ k)) ≡ times v (owners l) + times v (owners k) = ap (times v) (owners-join l k) ∙ times-append v (owners l) (owners k) in
            omega arith;
        kinds = λ p i. elim (in_split p f.here g.here i) [ inl j ↦ f.kinds p j | inr j ↦ g.kinds p j ];
      }

  meets-open : {m m' : Met} {ns : List ℕ} {l : List Spot} → Meets img (opened m) m' ns l → Meets img m m' ns l
  unfolding opened
  meets-open {m} f =
      let a = f.later in
      record {
        later = omega arith;
        here = f.here;
        are = f.are;
        order = f.order;
        within = λ p i. let w = f.within p i in ((let w₀ = w.0 in omega arith), (let w₁ = w.1 in omega arith), w.2);
        olds = f.olds;
        adds = f.adds;
        news = f.news;
        once = f.once;
        kinds = f.kinds;
      }

  -- a Term or AppHead with its IdentTerm
  abbrev Owned : Simple → ℕ → List ℕ → Met → Trees → Type 0
  Owned c n b m ts = Meets img m (place_seq (sort c) n b ts m) (numbers_seq ts ++ (n ∷ [])) (spots_seq n ts)

  ident_meets : (c : Simple) (n : ℕ) (b : List ℕ) (ts : Trees) (m : Met) → kind_at img n ≡ owner_kind (sort c) → IdentOnly img ts → Owned c n b m ts
  unfolding numbers place spots
  ident_meets c n b ts m kind h = subst (Owned c n b m) (sym h.only) (meets-add c n b h.i m kind)

  -- a Term: its IdentTerm, or what stands below it
  owner : (c : Simple) (n : ℕ) (b : List ℕ) (ts : Trees) (m : Met) → kind_at img n ≡ owner_kind (sort c) → IdentOnly img ts ⊎ Bodies img ts
      → (Bodies img ts → Meets img m (place_seq (sort c) n b ts m) (numbers_seq ts) (spots_seq n ts)) → Owned c n b m ts
  owner c n b ts m kind (inl h) f = ident_meets c n b ts m kind h
  owner c n b ts m kind (inr h) f = meets-more (n ∷ []) (f h)

  -- a defined-then's variable
  define_var : {m m' : Met} {ns : List ℕ} {l : List Spot} (o : ℕ) (b : List ℕ) (u : Tree) → VarTerm img u → Meets img m m' ns l
      → Meets img m (place (defined m.next) o b u m') (ns ++ numbers u) (spots o u ++ l)
  unfolding numbers place spots
  define_var {m} {m'} {ns} {l} o b u v f =
      subst (λ (w : Tree). Meets img m (place (defined m.next) o b w m') (ns ++ numbers w) (spots o w ++ l)) (sym v.is) (go v.only)
    where
      is : Trees → Tree
      is ws = node v.n v.k (inner term) v.sh ws

      go : IdentOnly img v.vs ⊎ (v.vs ≡ none) → Meets img m (place (defined m.next) o b (is v.vs) m') (ns ++ numbers (is v.vs)) (spots o (is v.vs) ++ l)
      go (inl h) =
          subst (λ (ws : Trees). Meets img m (place (defined m.next) o b (is ws) m') (ns ++ numbers (is ws)) (spots o (is ws) ++ l)) (sym h.only)
          (meets-var f v.n b h.i v.kind)
      go (inr e) =
          subst (λ (ws : Trees). Meets img m (place (defined m.next) o b (is ws) m') (ns ++ numbers (is ws)) (spots o (is ws) ++ l)) (sym e)
          (meets-more (v.n ∷ []) f)

  define_vars : {m m' : Met} {ns : List ℕ} {l : List Spot} (o : ℕ) (b : List ℕ) (us : Trees) → VarTerms img us → Meets img m m' ns l
      → Meets img m (place_seq (defined m.next) o b us m') (ns ++ numbers_seq us) (spots_seq o us ++ l)
  unfolding numbers place spots VarTerms
  define_vars o b none v f = meets-more [] f
  define_vars {m} {m'} {ns} {l} o b (u ◂ none) v f =
      subst (λ (k : List Spot). Meets img m (place (defined m.next) o b u m') (ns ++ (numbers u ++ [])) (k ++ l)) (sym (append-nil (spots o u)))
      (subst (λ (ms : List ℕ). Meets img m (place (defined m.next) o b u m') (ns ++ ms) (spots o u ++ l)) (sym (append-nil (numbers u))) (define_var o b u v f))
  define_vars o b (u ◂ (w ◂ us)) v f = absurd v

  mutual
    unfolding spots place numbers Body

    meets : (c : Simple) → Asks c → (o : ℕ) (b : List ℕ) (u : Tree) → Body img u → (m : Met) → Meets img m (place (sort c) o b u m) (numbers u) (spots o u)
    meets c a o b (block ts) h m = meets-open (meets_seq occur tt o (m.next ∷ b) ts h (opened m))
    meets c a o b (node n k (outer d) sh ts) h m = absurd h
    meets c a o b (node n k (inner plain) sh ts) h m = meets-more (n ∷ []) (meets_seq occur tt n b ts h m)
    meets c a o b (node n k (inner term) sh ts) h m = owner c n b ts m (h.0 ∙ asks-kind c a) h.1 (λ g. meets_seq c a n b ts g m)
    meets c a o b (node n k (inner ident) sh ts) h m = absurd h
    meets c a o b (node n k (inner head) [] ts) h m = absurd h
    meets c a o b (node n k (inner head) (zero ∷ sh) ts) h m = ident_meets apply n b ts m h.0 h.1
    meets c a o b (node n k (inner head) (suc e ∷ sh) ts) h m = meets-more (n ∷ []) (meets_seq occur tt n b ts h m)
    meets c a o b (node n k (inner head_member) sh ts) h m = meets-more (n ∷ []) (meets_first n b ts h m)
    meets c a o b (node n k (inner member) sh ts) h m = meets-more (n ∷ []) (meets_first n b ts h m)
    meets c a o b (node n k (inner case) sh ts) h m = meets-more (n ∷ []) (meets-open (meets_seq occur tt n (m.next ∷ b) ts h (opened m)))
    meets c a o b (node n k (inner if_var) sh ts) h m = meets-more (n ∷ []) (meets_then declare tt n b ts h m)
    meets c a o b (node n k (inner defined_then) sh ts) h m = meets-more (n ∷ []) (meets_back n b ts h m)
    meets c a o b (node n k (inner arg) sh ts) h m = absurd h

    meets_seq : (c : Simple) → Asks c → (o : ℕ) (b : List ℕ) (us : Trees) → Bodies img us → (m : Met) → Meets img m (place_seq (sort c) o b us m) (numbers_seq us) (spots_seq o us)
    meets_seq c a o b none h m = meets-none m []
    meets_seq c a o b (u ◂ us) h m = meets-next (meets c a o b u h.0 m) (meets_seq c a o b us h.1 (place (sort c) o b u m))

    meets_then : (c : Simple) → Asks c → (o : ℕ) (b : List ℕ) (us : Trees) → Bodies img us → (m : Met)
        → Meets img m (place_then (sort c) o b us m) (numbers_seq us) (spots_seq o us)
    meets_then c a o b none h m = meets-none m []
    meets_then c a o b (u ◂ us) h m = meets-next (meets occur tt o b u h.0 m) (meets_seq c a o b us h.1 (place ordinary o b u m))

    meets_back : (o : ℕ) (b : List ℕ) (us : Trees) → Defines img us → (m : Met) → Meets img m (place_then (defined m.next) o b us m) (numbers_seq us) (spots_back o us)
    meets_back o b none h m = meets-none m []
    meets_back o b (u ◂ us) h m = define_vars o b us h.1 (meets occur tt o b u h.0 m)

    meets_first : (o : ℕ) (b : List ℕ) (us : Trees) → Members img us → (m : Met) → Meets img m (place_first o b us m) (numbers_seq us) (spots_first o us)
    meets_first o b none h m = meets-none m []
    meets_first o b (u ◂ us) h m = meets-more (numbers_seq us) (meets occur tt o b u h.0 m)

  -- the places of a rule in the list's order
  pub record Ordered (ts : Trees) : Type 0 where
    pub list : List Place
    pub are : spots_of list ≡ rule_spots ts
    pub order : InOrder list
    pub all : (p : Place) → In p (rule_places ts) → In p list
    pub only : (p : Place) → In p list → In p (rule_places ts)
    pub kinds : (p : Place) → In p list → kind_at img p.node ≡ owner_kind p.sort

  pub ordered : (ts : Trees) → Bodies img ts → Ordered ts
  unfolding rule_places rule_spots
  ordered ts h =
      let f = meets_seq occur tt 0 [] ts h (record { next = 0; places = [] }) in
      record { list = f.here; are = f.are; order = f.order; all = λ p i. elim (f.news p i) [ inl j ↦ absurd j | inr j ↦ j ]; only = f.adds; kinds = f.kinds }

  -- their nodes are nodes of the rule, each once
  pub owners-once : (ts : Trees) → Bodies img ts → (v : ℕ) → times v (owners (rule_spots ts)) ≤ times v (numbers_seq ts)
  unfolding rule_spots
  owners-once ts h v = (meets_seq occur tt 0 [] ts h (record { next = 0; places = [] })).once v
