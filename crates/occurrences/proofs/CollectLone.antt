-- The count of bindings in a rule, and the first lone occurrence.
use mathlib.Core.Path.{◌≡◌, refl, sym, ap, ap₂, subst, ◌∙◌}
use mathlib.Core.Bool.{Bool, true, false, cond, not}
use mathlib.Core.List.{List, [], ◌∷◌, ◌++◌}
use mathlib.Core.Option.{Option, none as nothing, some}
use Prim.Native.Nat.{ℕ, zero, suc, ◌+◌, ◌<◌, ◌≤◌}
use native.Mathlib.Omega.{arith}
use native.Mathlib.Decide.{dec_lt}
use lib.Dec.{eqb, ltb, leb}
use lib.ListN.{length, length-append, get_or, set, replicate, length-set, length-replicate, get_or-replicate}
use lib.Seq.{get_or-set_same, get_or-set_other, ext_get_or}
use borrow.Author.Tests.{eqb-true, eqb-false, le-leb, lt-leb}
use Rattle.std.specs.Prelude.{Option as Given, Some, None, Result, Ok, Err, IsErrAnd}
use Rattle.std.specs.List.{find}
use Rattle.ast.specs.Image.{nodes}
use Rattle.ast.specs.Kinds.{kind_of}
use Rattle.ast.specs.Items.{items}
use Rattle.ast.specs.Named.{decl_kind, rule_decl_kind}
use Rattle.ast.specs.Promises.{bump, claim_all}
use Rattle.ast.specs.Tests.{is, times}
use Rattle.ast.proofs.Accepted.{sized}
use Rattle.ast.proofs.Count.{is_same, is-other}
use Rattle.ast.proofs.Runs.{sat, claimed-times}
use Rattle.ast.proofs.Unfold.{All, nil, cons, All-map}
use Rattle.typed.specs.RowShapes.{WordList}
use Rattle.typed.specs.declared.nodes.NodeList.{NodeList}
use Rattle.typed.specs.declared.items.Items.{Items}
use Rattle.typed.specs.Items.{trees_of}
use Rattle.typed.proofs.Lists.{Within, begun, none-left}
use Rattle.table.specs.Table.{Table, is_var}
use Rattle.rows.specs.declared.Rows.{Rows}
use Rattle.rows.specs.declared.Written.{Written}
use Rattle.rows.specs.declared.Pairs.{Pairs}
use Rattle.rows.specs.Rows.{Row, row, rights, Appends, Starts, Shows, shown, pairs_left}
use Rattle.rows.proofs.Reading.{shown-appends}
use Rattle.occurrences.specs.Spots.{Spot, spots_seq}
use Rattle.occurrences.specs.Occurrences.{found, listed, rows_for, times_bound, lone_in, lone}
use Rattle.occurrences.specs.Promises.{rows_at, rows_of, joined, lists_in, lists_at, lists_of, Listing, ListingAll, Nodes, under, uncounted, lone_of}
use Rattle.occurrences.specs.declared.Lone.{Lone}
use Rattle.occurrences.proofs.CollectSteps.{Gave}
use Rattle.occurrences.proofs.CollectRules.{joined-append, seq_lists, seq-lists-none, RuleRun, rule_run, DeclItem, decl_item}
use Rattle.table.proofs.Below.{lookup-low}

-- under two times
few-is : (x : ℕ) → leb 2 x ≡ not (ltb x 2)
few-is zero = refl
few-is (suc zero) = refl
few-is (suc (suc x)) = le-leb 2 (suc (suc x)) (omega arith) ∙ ap not (sym (lt-leb (suc (suc (suc x))) 2 (omega arith)))

-- the loops -----------------------------------------------------------------------------------------------------------------
-- the counts us came to vs, each binding's by a step, with the rows of p left: what is left to count from there is the whole
module _ (rows : Written) (count_all : List ℕ → List ℕ → List ℕ) (step : ℕ → ℕ) where
  pub record Counted (p : Pairs) (us vs : List ℕ) : Type 0 where
    pub left : count_all (rights (shown rows)) us ≡ count_all (rights (pairs_left p)) vs

  pub counted-start : {p : Pairs} (us : List ℕ) → pairs_left p ≡ shown rows → Counted p us us
  counted-start us e = record { left = ap (λ (l : List Row). count_all (rights l) us) (sym e) }

  pub counted-next : ((b : ℕ) (bs us : List ℕ) → count_all (b ∷ bs) us ≡ count_all bs (set us b (step (get_or us b 0)))) → {p q : Pairs} {w : Row} {us vs zs : List ℕ} → Counted p us vs
      → pairs_left p ≡ w ∷ pairs_left q → zs ≡ set vs w.right (step (get_or vs w.right 0)) → Counted q us zs
  unfolding rights
  counted-next one {p} {q} {w} {us} {vs} {zs} k e h =
      record { left = k.left ∙ ap (λ (l : List Row). count_all (rights l) vs) e ∙ one w.right (rights (pairs_left q)) vs ∙ ap (count_all (rights (pairs_left q))) (sym h) }

  pub counted-end : ((us : List ℕ) → count_all [] us ≡ us) → {p : Pairs} {us vs : List ℕ} → Counted p us vs → pairs_left p ≡ [] → vs ≡ count_all (rights (shown rows)) us
  unfolding rights
  counted-end none {p} {us} {vs} k e = sym (k.left ∙ ap (λ (l : List Row). count_all (rights l) vs) e ∙ none vs)

abbrev pub row_of : Given Row → Option Row
row_of None = nothing
row_of (Some w) = some w

-- the search for the first whose binding is counted under two times
module _ (us : List ℕ) where
  abbrev pub is_few : Row → Bool
  is_few w = ltb (get_or us w.right 0) 2

  pub under-find : (l : List Row) → row_of (find is_few l) ≡ under us l
  unfolding under
  under-find [] = refl
  under-find (w ∷ l) = go (is_few w) (few-is (get_or us w.right 0)) (under-find l)
    where
      go : (b : Bool) → leb 2 (get_or us w.right 0) ≡ not b → row_of (find is_few l) ≡ under us l
          → row_of (cond b (Some w) (find is_few l)) ≡ elim (leb 2 (get_or us w.right 0)) as (λ _. Option Row) [ true ↦ under us l | false ↦ some w ]
      go true e r = rw e refl
      go false e r = rw e r

-- one more binding counted, and none
pub claim-one : (b : ℕ) (bs us : List ℕ) → claim_all (b ∷ bs) us ≡ claim_all bs (set us b (bump (get_or us b 0)))
unfolding claim_all
claim-one b bs us = refl

pub claim-none : (us : List ℕ) → claim_all [] us ≡ us
unfolding claim_all
claim-none us = refl

pub uncount-one : (b : ℕ) (bs us : List ℕ) → uncounted (b ∷ bs) us ≡ uncounted bs (set us b 0)
unfolding uncounted
uncount-one b bs us = refl

pub uncount-none : (us : List ℕ) → uncounted [] us ≡ us
unfolding uncounted
uncount-none us = refl

-- bindings are nodes ----------------------------------------------------------------------------------------------------------
module _ (img : List ℕ) (t : Table) (symbols : Nodes img t) where
  listed-low : (n : ℕ) (o : Option ℕ) (l : List Row) → ((m : ℕ) → o ≡ some m → m < nodes img) → All (λ v. v < nodes img) (rights l) → All (λ v. v < nodes img) (rights (listed img t n o l))
  unfolding listed rights
  listed-low n nothing l h a = a
  listed-low n (some i) l h a = go (is_var img (some i))
    where
      go : (b : Bool) → All (λ v. v < nodes img) (rights (elim b as (λ _. List Row) [ true ↦ row n i ∷ l | false ↦ l ]))
      go true = cons (h i refl) a
      go false = a

  rights-low : (l : List Spot) → All (λ v. v < nodes img) (rights (rows_for img t l))
  unfolding rows_for rights
  rights-low [] = nil
  rights-low (s ∷ l) = listed-low s.node (found img t s) (rows_for img t l) (lookup-low img t symbols _ _) (rights-low l)

-- counts and lone rows ----------------------------------------------------------------------------------------------------------
times-rights : (b : ℕ) (l : List Row) → times_bound b l ≡ times b (rights l)
unfolding times_bound times rights
times-rights b [] = refl
times-rights b (w ∷ l) = go (eqb b w.right) refl (times-rights b l)
  where
    go : (c : Bool) → eqb b w.right ≡ c → times_bound b l ≡ times b (rights l) → ◌≡◌ {A = ℕ} (elim c [ true ↦ suc (times_bound b l) | false ↦ times_bound b l ]) (is b w.right + times b (rights l))
    go true e h = let z : is b w.right ≡ 1 = ap (is b) (sym (eqb-true _ _ e)) ∙ is_same b in omega arith
    go false e h = let z = is-other b w.right (eqb-false _ _ e) in omega arith

sat-two : (x : ℕ) → leb 2 (sat x) ≡ leb 2 x
unfolding sat
sat-two zero = refl
sat-two (suc zero) = refl
sat-two (suc (suc x)) = sym (le-leb 2 (suc (suc x)) (omega arith))

-- the search by counts is the search of the definition
under-lone : (all l : List Row) → All (λ v. v < 2048) (rights l) → under (claim_all (rights all) (replicate 2048 0)) l ≡ lone_in all l
unfolding under lone_in rights
under-lone all [] a = refl
under-lone all (w ∷ l) (cons h a) =
    ap₂ (λ (b : Bool) (o : Option Row). elim b as (λ _. Option Row) [ true ↦ o | false ↦ some w ])
    (ap (leb 2) (claimed-times w.right (rights all) h ∙ ap sat (sym (times-rights w.right all))) ∙ sat-two (times_bound w.right all))
    (under-lone all l a)

same_or : (a b : ℕ) → Dec (a ≡ b)
same_or a b = pick (dec_lt a b) (dec_lt b a)
  where
    pick : Dec (a < b) → Dec (b < a) → Dec (a ≡ b)
    pick (yes l) q = no (λ e. omega arith)
    pick (no l) (yes k) = no (λ e. omega arith)
    pick (no l) (no k) = yes (omega arith)

-- a count that is 0, or whose binding is still to come, ends as 0
uncounted-at : (v : ℕ) (bs us : List ℕ) → v < length us → (times v bs ≡ 0 → get_or us v 0 ≡ 0) → get_or (uncounted bs us) v 0 ≡ 0
unfolding uncounted times
uncounted-at v [] us l h = h refl
uncounted-at v (b ∷ bs) us l h = go (same_or v b) (uncounted-at v bs (set us b 0) (rw length-set l))
  where
    go : Dec (v ≡ b) → ((times v bs ≡ 0 → get_or (set us b 0) v 0 ≡ 0) → get_or (uncounted bs (set us b 0)) v 0 ≡ 0) → get_or (uncounted bs (set us b 0)) v 0 ≡ 0
    go (yes q) f = f (λ z. rw q (get_or-set_same us b 0 0 (rw q at l)))
    go (no q) f = f (λ z. get_or-set_other us b v 0 0 q ∙ h (let o = is-other v b q in omega arith))

claims-length : (bs us : List ℕ) → length (claim_all bs us) ≡ length us
unfolding claim_all
claims-length [] us = refl
claims-length (b ∷ bs) us = claims-length bs (set us b (bump (get_or us b 0))) ∙ length-set us b (bump (get_or us b 0))

uncounted-length : (bs us : List ℕ) → length (uncounted bs us) ≡ length us
unfolding uncounted
uncounted-length [] us = refl
uncounted-length (b ∷ bs) us = uncounted-length bs (set us b 0) ∙ length-set us b 0

-- counted and uncounted, nothing is counted
back-to-zeros : (bs : List ℕ) → uncounted bs (claim_all bs (replicate 2048 0)) ≡ replicate 2048 0
unfolding sat
back-to-zeros bs =
    ext_get_or 0 _ _ (uncounted-length bs _ ∙ claims-length bs _)
    (λ v l. let h : v < 2048 = subst (λ (x : ℕ). v < x) (uncounted-length bs _ ∙ claims-length bs _ ∙ length-replicate {A = ℕ} 2048 0) l in
    uncounted-at v bs (claim_all bs (replicate 2048 0)) (subst (λ (x : ℕ). v < x) (uncounted-length bs _) l) (λ z. claimed-times v bs h ∙ ap sat z) ∙ sym (get_or-replicate 2048 v 0 0 h))

lone-single : (l : List Row) → lone (l ∷ []) ≡ lone_in l l
unfolding lone
lone-single l = go (lone_in l l)
  where
    go : (o : Option Row) → ◌≡◌ {A = Option Row} (elim o [ nothing ↦ lone [] | some w ↦ some w ]) o
    go nothing = refl
    go (some w) = refl

-- the checks --------------------------------------------------------------------------------------------------------------------
lone-skip : (a b : List (List Row)) → lone a ≡ nothing → lone (a ++ b) ≡ lone b
unfolding lone
lone-skip [] b e = refl
lone-skip (l ∷ a) b e = go (lone_in l l) e (lone-skip a b)
  where
    go : (o : Option Row) → ◌≡◌ {A = Option Row} (elim o [ nothing ↦ lone a | some w ↦ some w ]) nothing → (lone a ≡ nothing → lone (a ++ b) ≡ lone b)
        → ◌≡◌ {A = Option Row} (elim o [ nothing ↦ lone (a ++ b) | some w ↦ some w ]) (lone b)
    go nothing q f = f q
    go (some w) q f = absurd (let z : ◌≡◌ {A = ℕ} 0 1 = cc in omega arith)

lone-hit : (a b : List (List Row)) (w : Row) → lone a ≡ some w → lone (a ++ b) ≡ some w
unfolding lone
lone-hit [] b w e = absurd (let z : ◌≡◌ {A = ℕ} 0 1 = cc in omega arith)
lone-hit (l ∷ a) b w e = go (lone_in l l) e (lone-hit a b w)
  where
    go : (o : Option Row) → ◌≡◌ {A = Option Row} (elim o [ nothing ↦ lone a | some v ↦ some v ]) (some w) → (lone a ≡ some w → lone (a ++ b) ≡ some w)
        → ◌≡◌ {A = Option Row} (elim o [ nothing ↦ lone (a ++ b) | some v ↦ some v ]) (some w)
    go nothing q f = f q
    go (some v) q f = q

lone-none : nothing ≡ lone []
unfolding lone
lone-none = refl

-- what `?` hands back is the same lone occurrence
pub lone-passed : {A : Type 0} (r : Result A Lone) (l : Lone) → IsErrAnd r (λ x. x ≡ l) → lone_of r ≡ some (row l.node.0 l.binding.0)
lone-passed (Ok a) l h = absurd h
lone-passed (Err x) l h = ap (λ (y : Lone). some (row y.node.0 y.binding.0)) h

-- no rule, no lone occurrence
pub lone-nothing : {a : List (List Row)} → a ≡ [] → nothing ≡ lone a
lone-nothing e = lone-none ∙ sym (ap lone e)

module _ {T : Type 0} (img : List ℕ) (t : Table) where
  -- a loop over declarations that found none yet, with s left, and nothing counted
  pub record ChecksLeft (l : NodeList) (s : Items T) (cs us : List ℕ) : Type 0 where
    pub within : Within img decl_kind l.node.0 s
    pub few : 0 + length (joined (seq_lists img t (trees_of s))) ≤ nodes img
    pub same : lone (lists_of img t l) ≡ lone (seq_lists img t (trees_of s))
    pub clean : us ≡ cs

  pub checks-end : {l : NodeList} {s : Items T} {cs us : List ℕ} → ChecksLeft l s cs us → s.left.list.count ≡ 0 → nothing ≡ lone (lists_of img t l)
  checks-end {s = s} k e = lone-nothing (seq-lists-none img t (none-left s e)) ∙ sym k.same

  pub checks-start : {l : NodeList} {s begin : Items T} (cs : List ℕ) → begin ≡ s → ListingAll img t l 0 → (s.image.now ≡ img) × (s.left.list ≡ l) → ChecksLeft l begin cs cs
  unfolding lists_at
  checks-start cs e p h =
      let o = begun e refl p.run h in
      let w = ap (seq_lists img t) o.trees in
      record { within = o.within; few = subst (λ (k : List (List Row)). 0 + length (joined k) ≤ nodes img) w p.few; same = ap lone w; clean = refl }

  pub checks-item : {x : ℕ} {l : NodeList} {s s2 : Items T} {cs us : List ℕ} → ChecksLeft l s cs us → Gave s x s2 → DeclItem img t l.node.0 x 0 s s2
  checks-item k o = decl_item img t k.within o k.few

  pub checks-next : {x : ℕ} {l : NodeList} {s s2 : Items T} {cs us os : List ℕ} → ChecksLeft l s cs us → DeclItem img t l.node.0 x 0 s s2 → nothing ≡ lone (lists_in img t x) → os ≡ us → ChecksLeft l s2 cs os
  checks-next {x} {s2 = s2} k d f e =
      record {
        within = d.rest;
        few = (let g = k.few in let a = ap (λ (m : List (List Row)). length (joined m)) d.more ∙ ap length (joined-append (lists_in img t x) rest) ∙ length-append (joined (lists_in img t x)) (joined rest) in omega arith);
        same = k.same ∙ ap lone d.more ∙ lone-skip (lists_in img t x) rest (sym f);
        clean = e ∙ k.clean;
      }
    where
      rest : List (List Row)
      rest = seq_lists img t (trees_of s2)

  pub checks-found : {x : ℕ} {l : NodeList} {s s2 : Items T} {cs us : List ℕ} {w : Row} → ChecksLeft l s cs us → DeclItem img t l.node.0 x 0 s s2 → some w ≡ lone (lists_in img t x) → some w ≡ lone (lists_of img t l)
  checks-found {x} {s2 = s2} {w = w} k d f = sym (k.same ∙ ap lone d.more ∙ lone-hit (lists_in img t x) (seq_lists img t (trees_of s2)) w (sym f))

module _ (img : List ℕ) (t : Table) where
  -- a rule: its rows collected, to be counted, searched and counted 0 times again
  pub record RuleShown (rule : ℕ) (w : Written) (cs : List ℕ) : Type 0 where
    pub lone_is : {us : List ℕ} {o : Option Row} → us ≡ claim_all (rights (shown w)) cs → o ≡ under us (shown w) → o ≡ lone (lists_in img t rule)
    pub clean : {us zs : List ℕ} → us ≡ claim_all (rights (shown w)) cs → zs ≡ uncounted (rights (shown w)) us → zs ≡ cs

  pub rule_shown : {rule name N lent : ℕ} {body : NodeList} {start end : Rows} {w : Written} {ws cs : List ℕ} → Nodes img t → Listing img t (kind_of rule_decl_kind) rule 0 → WordList img rule name body
      → N ≡ nodes img → length ws ≡ 4097 → cs ≡ replicate 2048 0 → Starts lent N ws start → Appends (rows_of img t body) start end → Shows end w → RuleShown rule w cs
  unfolding rows_at
  rule_shown {rule} {body = body} {start} {w = w} {ws} {cs} symbols p q n long zeros s a shows =
      record {
        lone_is = λ {us} {o} counts found. found ∙ ap₂ under (by counts) read ∙ under-lone l l few ∙ sym (lone-single l) ∙ sym (ap lone u.single);
        clean = λ {us} {zs} counts cleared. cleared ∙ ap₂ (λ (k : List Row) (ys : List ℕ). uncounted (rights k) ys) read (by counts) ∙ back-to-zeros (rights l) ∙ sym zeros;
      }
    where
      u : RuleRun img t rule body 0
      u = rule_run img t p q

      l : List Row
      l = rows_of img t body

      size : start.nodes ≡ nodes img
      size = s.nodes ∙ n

      read : shown w ≡ l
      read =
          shown-appends s.count a shows (let f = subst (λ (k : List Row). 0 + length k ≤ nodes img) u.whole p.few in let e = size in omega arith)
          (let z = (sized img p.is.accepted).few_nodes in let e = size in let k = ap length s.words in omega arith)

      by : {us : List ℕ} → us ≡ claim_all (rights (shown w)) cs → us ≡ claim_all (rights l) (replicate 2048 0)
      by counts = counts ∙ ap₂ (λ (k : List Row) (ys : List ℕ). claim_all (rights k) ys) read zeros

      few : All (λ v. v < 2048) (rights l)
      few = let z = (sized img p.is.accepted).few_nodes in All-map (λ c h. omega arith) (rights-low img t symbols (spots_seq body.node.0 (items img body.node.0 body.count body.first)))
