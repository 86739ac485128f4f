-- In the table that Resolve leaves, an ordinary ident term introduces its name, as row 1 reads it off entry and exit, exactly if lookup of
-- the name at the term's entry gives neither a Var nor a Const. The terms are those of specs/Terms.antt; none that sight calls ordinary is
-- left out.
use mathlib.Core.Path.{◌≡◌, refl, sym, ◌∙◌, ap, subst}
use mathlib.Core.Logic.{◌⊎◌, inl, inr}
use mathlib.Core.Bool.{Bool, true, false, not, false≢true}
use mathlib.Core.List.{List, [], ◌∷◌, ◌++◌}
use Prim.Native.Nat.{ℕ, zero, suc}
use Rattle.ast.specs.Image.{kind_at, name_of}
use Rattle.ast.specs.Kinds.{Class, outer, inner, plain, term, ident, head, head_member, member, case, if_var, defined_then, arg}
use Rattle.ast.specs.Rules.{Rule, module_rules}
use Rattle.ast.specs.Tests.{verdict}
use Rattle.ast.specs.Tree.{Tree, node, block, Trees, none, ◌◂◌}
use Rattle.table.specs.State.{Walked}
use Rattle.table.specs.Table.{Table, is_value, at_entry}
use Rattle.scopes.specs.Resolve.{test_table, walked, counted, Way, table_by, table_call, resolve}
use Rattle.scopes.specs.Twice.{declared_twice}
use Rattle.scopes.specs.Walk.{done}
use Rattle.scopes.proofs.Calls.{way_fills}
use Rattle.scopes.proofs.Resolving.{table-accepted}
use Rattle.scopes.proofs.Single.{single-done}
use Rattle.bindings.specs.Errors.{introduces}
use Rattle.occurrences.specs.Spots.{Spot}
use Rattle.sight.specs.Listing.{places_of, Unrefused}
use Rattle.sound.specs.Sound.{table_in}
use Rattle.sight.specs.Sight.{Sort, ordinary, declared, applied, defined, Place, Met, add, opened, head_sort, place, place_seq, place_then, place_first, rule_places, In}
use Rattle.sight.proofs.Answering.{passes}
use Rattle.sight.proofs.Listing.{spot_of}
use Rattle.sight.proofs.Members.{in_left, in_right}
use Rattle.sight.proofs.Resolving.{resolved, left-table}
use Rattle.sight.proofs.Steps.{IdentOnly, Idents, Body, Bodies, Members}
use Rattle.meaning.specs.Meaning.{Env, Part, occurs, declares, names, defines, meet_ident, meet}
use Rattle.meaning.specs.Meaning as meaning
use Rattle.meaning.specs.Recorded.{Around}
use Rattle.meaning.specs.Terms.{below_head, term_if, terms, terms_seq, terms_first, rule_terms}
use Rattle.meaning.proofs.Faults.{introduces-is}
use Rattle.meaning.proofs.Told.{defines-bodies, is-value, meets, meets_seq, Told, ToldSeq, ToldThen}
use Rattle.meaning.proofs.Rules.{rules-told}

module _ (img : List ℕ) (T₀ : Table) where
  -- the term n, of the IdentTerm i, introduces its name exactly if the name is no Var and no Const at its entry
  abbrev pub ByEntry : ℕ → ℕ → Type 0
  ByEntry n i = introduces img T₀ n i ≡ not (is_value img (at_entry img T₀ n i))

  data Each : List Spot → Type 0 where
    nil : Each []
    cons : {s : Spot} {l : List Spot} → ByEntry s.node s.ident → Each l → Each (s ∷ l)

  both : {k l : List Spot} → Each k → Each l → Each (k ++ l)
  both nil g = g
  both (cons e f) g = cons e (both f g)

  one : {l : List Spot} → Each l → (s : Spot) → In s l → ByEntry s.node s.ident
  one nil s i = absurd i
  one (cons e f) s (inl q) = subst (λ (r : Spot). ByEntry r.node r.ident) (sym q) e
  one (cons e f) s (inr i) = one f s i

  abbrev name : ℕ → ℕ
  name = name_of img

  abbrev kind : ℕ → ℕ
  kind = kind_at img

  -- the part of ordinary ident terms
  abbrev is_occurs : Part → Bool
  is_occurs occurs = true
  is_occurs declares = false
  is_occurs names = false
  is_occurs (defines before) = false

  ident-each : (p : Part) (n i : ℕ) (env : Env) → kind i ≡ 13 → Around img T₀ n env (meet_ident name kind p i env) → Each (term_if (is_occurs p) n i)
  unfolding term_if meaning.introduces
  ident-each occurs n i env k h =
      cons
      (introduces-is img T₀ occurs tt n i env k h ∙ ap not (sym (is-value img (at_entry img T₀ n i) ∙ ap (meaning.is_value kind) (h.entry (name i)))))
      nil
  ident-each declares n i env k h = nil
  ident-each names n i env k h = nil
  ident-each (defines before) n i env k h = nil

  lone-each : (p : Part) (n : ℕ) (ts : Trees) → IdentOnly img ts → (env : Env) → Around img T₀ n env (meets_seq img T₀ p ts env) → Each (terms_seq (is_occurs p) n ts)
  unfolding terms meet
  lone-each p n ts h env =
      subst (λ (us : Trees). Around img T₀ n env (meets_seq img T₀ p us env) → Each (terms_seq (is_occurs p) n us)) (sym h.only)
      (λ r. both (ident-each p n h.i env h.kind r) nil)

  -- member names are none
  names-each : (us : Trees) → Idents img us → (o : ℕ) → Each (terms_seq false o us)
  unfolding Idents terms term_if
  names-each none h o = nil
  names-each (block ts ◂ us) h o = absurd h
  names-each (node n k c sh ts ◂ us) h o =
      subst (λ (d : Class). Each (terms false o (node n k d sh ts) ++ terms_seq false o us)) (sym h.0) (names-each us h.1 o)

  mutual
    unfolding Told Body terms

    each : (u : Tree) → Body img u → (p : Part) (o : ℕ) (env : Env) → Told img T₀ p u env → Each (terms (is_occurs p) o u)
    each (block ts) h p o env t = each_seq ts h occurs o env t
    each (node n k (outer c) sh ts) h p o env t = nil
    each (node n k (inner plain) sh ts) h p o env t = each_seq ts h occurs n env t.1
    each (node n k (inner term) sh ts) h p o env t = elim h.1 [ inl i ↦ lone-each p n ts i env t.0 | inr b ↦ each_seq ts b p n env t.1 ]
    each (node n k (inner ident) sh ts) h p o env t = absurd h
    each (node n k (inner head) [] ts) h p o env t = absurd h
    each (node n k (inner head) (zero ∷ sh) ts) h p o env t = lone-each names n ts h.1 env t.0
    each (node n k (inner head) (suc c ∷ sh) ts) h p o env t = each_seq ts h occurs n env t.1
    each (node n k (inner head_member) sh ts) h p o env t = each_member ts h n env t
    each (node n k (inner member) sh ts) h p o env t = each_member ts h n env t.1
    each (node n k (inner case) sh ts) h p o env t = each_seq ts h occurs n env t.1
    each (node n k (inner if_var) sh ts) h p o env t = each_first ts h declares refl n env t.1
    each (node n k (inner defined_then) sh ts) h p o env t = each_first ts (defines-bodies img ts h) (defines env) refl n env t.1
    each (node n k (inner arg) sh ts) h p o env t = nil

    each_seq : (us : Trees) → Bodies img us → (p : Part) (o : ℕ) (env : Env) → ToldSeq img T₀ p us env → Each (terms_seq (is_occurs p) o us)
    each_seq none h p o env t = nil
    each_seq (u ◂ us) h p o env t = both (each u h.0 p o env t.0) (each_seq us h.1 p o (meets img T₀ p u env) t.1)

    each_first : (us : Trees) → Bodies img us → (p : Part) → is_occurs p ≡ false → (o : ℕ) (env : Env) → ToldThen img T₀ p us env → Each (terms_first o us)
    each_first none h p q o env t = nil
    each_first (u ◂ us) h p q o env t =
        both (each u h.0 occurs o env t.0)
        (subst (λ (b : Bool). Each (terms_seq b o us)) q (each_seq us h.1 p o (meets img T₀ occurs u env) t.1))

    each_member : (us : Trees) → Members img us → (o : ℕ) (env : Env) → ToldThen img T₀ names us env → Each (terms_first o us)
    each_member none h o env t = nil
    each_member (u ◂ us) h o env t = both (each u h.0 occurs o env t.0) (names-each us h.1 o)

-- in the table of the walk, its counts in front
pub rules-by-entry : (img tab : List ℕ) (e : Walked) → verdict img ≡ 0 → walked img tab ≡ done e → (r : Rule) → In r (module_rules img)
    → (s : Spot) → In s (rule_terms r) → ByEntry img (counted img e.table) s.node s.ident
unfolding rule_terms
rules-by-entry img tab e accepted q r i =
    one img (counted img e.table)
    (each_seq img (counted img e.table) r.statements ((resolved img tab e accepted q).walks r i).1.body occurs 0 r.meaning (rules-told img tab e accepted q r i))

-- in the table that Resolve leaves: at every ordinary ident term of a rule
pub introduces-by-entry : (img tab : List ℕ) → Unrefused (resolve img tab).answer → declared_twice img ≡ false → (r : Rule) → In r (module_rules img)
    → (s : Spot) → In s (rule_terms r)
    → introduces img (table_in img (resolve img tab).table) s.node s.ident
    ≡ not (is_value img (at_entry img (table_in img (resolve img tab).table) s.node s.ident))
unfolding resolve table_call table_by
introduces-by-entry img tab unrefused once r i s j =
    let p = passes img tab _ (test_table img tab) unrefused in
    let d = single-done img tab p once in
    let same = ap (λ (w : Way). table_in img (table_by img tab w)) (way_fills img tab p d.1) ∙ left-table img tab p d.1 in
    subst (λ (t : Table). ByEntry img t s.node s.ident) (sym same) (rules-by-entry img tab d.0 (table-accepted img tab p) d.1 r i s j)

-- none is left out: every place of a rule that sight calls ordinary is listed
abbrev is_ordinary : Sort → Bool
is_ordinary ordinary = true
is_ordinary declared = false
is_ordinary applied = false
is_ordinary (defined k) = false

module _ (p : Place) (own : p.sort ≡ ordinary) where
  -- p was met before, or is listed
  abbrev MetOr : List Spot → Met → Type 0
  MetOr l m = In p m.places ⊎ In (spot_of p) l

  here : (σ : Sort) (o : ℕ) (b : List ℕ) (i : ℕ) (m : Met) → In p (add σ o b i m).places → MetOr (term_if (is_ordinary σ) o i) m
  unfolding add term_if
  here σ o b i m (inr j) = inl j
  here ordinary o b i m (inl e) = inr (inl (ap spot_of e))
  here declared o b i m (inl e) = absurd (false≢true (ap (λ (q : Place). is_ordinary q.sort) (sym e) ∙ ap is_ordinary own))
  here applied o b i m (inl e) = absurd (false≢true (ap (λ (q : Place). is_ordinary q.sort) (sym e) ∙ ap is_ordinary own))
  here (defined k) o b i m (inl e) = absurd (false≢true (ap (λ (q : Place). is_ordinary q.sort) (sym e) ∙ ap is_ordinary own))

  -- of two lists one after the other
  joined : (k l : List Spot) (m m' : Met) → (In p m'.places → MetOr k m) → MetOr l m' → MetOr (k ++ l) m
  joined k l m m' f (inl i) = elim (f i) [ inl j ↦ inl j | inr j ↦ inr (in_left (spot_of p) k l j) ]
  joined k l m m' f (inr i) = inr (in_right (spot_of p) k l i)

  mutual
    unfolding place terms opened head_sort below_head

    met : (u : Tree) (σ : Sort) (o : ℕ) (b : List ℕ) (m : Met) → In p (place σ o b u m).places → MetOr (terms (is_ordinary σ) o u) m
    met (block ts) σ o b m i = met_seq ts ordinary o (m.next ∷ b) (opened m) i
    met (node n k (outer c) sh ts) σ o b m i = inl i
    met (node n k (inner plain) sh ts) σ o b m i = met_seq ts ordinary n b m i
    met (node n k (inner term) sh ts) σ o b m i = met_seq ts σ n b m i
    met (node n k (inner ident) sh ts) σ o b m i = here σ o b n m i
    met (node n k (inner head) [] ts) σ o b m i = met_seq ts ordinary n b m i
    met (node n k (inner head) (zero ∷ sh) ts) σ o b m i = met_seq ts applied n b m i
    met (node n k (inner head) (suc c ∷ sh) ts) σ o b m i = met_seq ts ordinary n b m i
    met (node n k (inner head_member) sh ts) σ o b m i = met_first ts n b m i
    met (node n k (inner member) sh ts) σ o b m i = met_first ts n b m i
    met (node n k (inner case) sh ts) σ o b m i = met_seq ts ordinary n (m.next ∷ b) (opened m) i
    met (node n k (inner if_var) sh ts) σ o b m i = met_then ts declared refl n b m i
    met (node n k (inner defined_then) sh ts) σ o b m i = met_then ts (defined m.next) refl n b m i
    met (node n k (inner arg) sh ts) σ o b m i = inl i

    met_seq : (us : Trees) (σ : Sort) (o : ℕ) (b : List ℕ) (m : Met) → In p (place_seq σ o b us m).places → MetOr (terms_seq (is_ordinary σ) o us) m
    met_seq none σ o b m i = inl i
    met_seq (u ◂ us) σ o b m i =
        joined (terms (is_ordinary σ) o u) (terms_seq (is_ordinary σ) o us) m (place σ o b u m) (λ j. met u σ o b m j) (met_seq us σ o b (place σ o b u m) i)

    met_then : (us : Trees) (σ : Sort) → is_ordinary σ ≡ false → (o : ℕ) (b : List ℕ) (m : Met) → In p (place_then σ o b us m).places → MetOr (terms_first o us) m
    met_then none σ q o b m i = inl i
    met_then (u ◂ us) σ q o b m i =
        joined (terms true o u) (terms_seq false o us) m (place ordinary o b u m) (λ j. met u ordinary o b m j)
        (subst (λ (c : Bool). MetOr (terms_seq c o us) (place ordinary o b u m)) q (met_seq us σ o b (place ordinary o b u m) i))

    met_first : (us : Trees) (o : ℕ) (b : List ℕ) (m : Met) → In p (place_first o b us m).places → MetOr (terms_first o us) m
    met_first none o b m i = inl i
    met_first (u ◂ us) o b m i = joined (terms true o u) (terms_seq false o us) m (place ordinary o b u m) (λ j. met u ordinary o b m j) (inl i)

pub ordinary-listed : (r : Rule) (p : Place) → In p (places_of r) → p.sort ≡ ordinary → In (spot_of p) (rule_terms r)
unfolding rule_places rule_terms
ordinary-listed r p i q = elim (met_seq p q r.statements ordinary 0 [] (record { next = 0; places = [] }) i) [ inl j ↦ absurd j | inr j ↦ j ]
