-- Two occurrences are of one variable, by sight, after a rename that is given exactly if they were before: by order and nesting alone,
-- for both images.
use mathlib.Core.Bool.{true, false}
use mathlib.Core.Path.{◌≡◌, refl, sym, ap, ap₂, ◌∙◌, subst}
use mathlib.Core.Logic.{inl, inr, ◌↔◌}
use mathlib.Core.List.{List, [], ◌∷◌}
use mathlib.Core.Option.{some}
use Prim.Native.Nat.{ℕ, ◌<◌}
use borrow.Author.Tests.{eq-eqb}
use Rattle.ast.specs.Image.{names, field, name_of}
use Rattle.ast.specs.Named.{ident_term_kind}
use Rattle.ast.specs.Rules.{Rule, module_rules}
use Rattle.ast.specs.Tests.{verdict}
use Rattle.ast.proofs.Accepted.{both, skip}
use Rattle.rows.specs.Rows.{Row, row}
use Rattle.table.specs.State.{Walked}
use Rattle.table.specs.Table.{Table, lookup, is_kind, exit_at}
use Rattle.scopes.specs.Resolve.{test_table, walked, counted}
use Rattle.scopes.specs.Calls.{test_rows}
use Rattle.scopes.specs.Twice.{declared_twice}
use Rattle.scopes.specs.Walk.{done}
use Rattle.scopes.proofs.Calls.{rows-table}
use Rattle.scopes.proofs.Resolving.{table-accepted}
use Rattle.scopes.proofs.Single.{single-done}
use Rattle.occurrences.specs.Occurrences.{occurrences}
use Rattle.sight.specs.Listing.{places_of, Occurs, Unrefused}
use Rattle.sight.specs.Sight.{Place, In, outer_const, Same}
use Rattle.sight.proofs.Demand.{list, binding, occurrences-listed, row_is, row-kind, equal-exactly}
use Rattle.sight.proofs.Leaving.{answered, binding-is}
use Rattle.sight.proofs.Listing.{spot_of, spots_of}
use Rattle.sight.proofs.Resolving.{resolved}
use Rattle.sight.proofs.RowLaws.{all-all, binding_of}
use Rattle.sight.proofs.Spots.{ordered}
use Rattle.sight.proofs.WholeModule.{WalkOf, var-is-occurrence}
use Rattle.meaning.specs.Meaning.{marks_in}
use Rattle.meaning.proofs.ByMeaning.{list-by-meaning}
use Rattle.rename.specs.Rename.{renamed}
use Rattle.renaming.proofs.Rename.{renamed-alike, renamed-accepted, renamed-twice, renamed-rules}
use Rattle.renaming.proofs.Under.{spot-ident}

in-spots : (p : Place) (l : List Place) → In p l → In (spot_of p) (spots_of l)
in-spots p [] i = absurd i
in-spots p (q ∷ l) (inl e) = inl (ap spot_of e)
in-spots p (q ∷ l) (inr i) = inr (in-spots p l i)

-- where the call's tests pass, the image's do
pub image-of : (img tab rows : List ℕ) → test_rows img tab rows ≡ 0 → verdict img ≡ 0
image-of img tab rows e = table-accepted img tab (rows-table img tab rows e)

-- a place whose node is listed is a variable occurrence
module _ (img tab rows : List ℕ) (passed : test_rows img tab rows ≡ 0) (once : declared_twice img ≡ false) where
  ended : (e : Walked) × (walked img tab ≡ done e)
  ended = single-done img tab (rows-table img tab rows passed) once

  -- Occurrences gives a result
  pub unrefused : Unrefused (occurrences img tab rows).answer
  unrefused = subst Unrefused (sym (answered img tab rows passed ended.0 ended.1)) tt

  abbrev filled : Table
  filled = counted img ended.0.table

  walks : (r : Rule) → In r (module_rules img) → WalkOf img r filled
  walks = (resolved img tab ended.0 (image-of img tab rows passed) ended.1).walks

  place-ident : (r : Rule) → In r (module_rules img) → (p : Place) → In p (places_of r) → field img p.node 1 ≡ p.ident
  place-ident r i p j =
      let m = ordered img r.statements (walks r i).1.body in
      spot-ident img (image-of img tab rows passed) r i (spot_of p) (subst (In (spot_of p)) m.are (in-spots p m.list (m.all p j)))

  listed-occurs : (r : Rule) → In r (module_rules img) → (p : Place) → In p (places_of r) → (w : Row) → In w (list img tab rows) → w.left ≡ p.node → Occurs img r p
  unfolding is_kind
  listed-occurs r i p j w k e = go ((row_is img tab rows unrefused once w).0 k)
    where
      go : (s : Rule) × In s (module_rules img) × ((q : Place) × In q (places_of s) × (Occurs img s q × (w.left ≡ q.node) × (binding img tab rows q ≡ some w.right))) → Occurs img r p
      go (s, a, (q, b, (o, f, g))) =
          let n : p.node ≡ q.node = sym e ∙ f in
          let d : p.ident ≡ q.ident = sym (place-ident r i p j) ∙ ap (λ m. field img m 1) n ∙ place-ident s a q b in
          let same : binding_of img filled p ≡ binding_of img filled q = ap₂ (λ (m c : ℕ). lookup img filled (exit_at img filled.words m) (name_of img c)) n d in
          let found : binding_of img filled p ≡ some w.right = same ∙ sym (binding-is img tab rows passed ended.0 ended.1 q) ∙ g in
          let kind : is_kind img ident_term_kind (binding_of img filled p) ≡ true = ap (is_kind img ident_term_kind) found ∙ eq-eqb _ _ (row-kind img tab rows unrefused once w k).1 in
          (var-is-occurrence img filled r (walks r i) p j).0 kind

  -- and the other way round
  occurs-listed : (r : Rule) → In r (module_rules img) → (p : Place) → In p (places_of r) → Occurs img r p → (b : ℕ) × In (row p.node b) (list img tab rows)
  occurs-listed r i p j o = let g = all-all img (binding img tab rows) (occurrences-listed img tab rows unrefused once) r i p j o in (g.0, g.2)

-- before and after
module _ (img tab rows : List ℕ) (passed : test_rows img tab rows ≡ 0) (once : declared_twice img ≡ false) (i x : ℕ) (below : x < names img)
    (lists : marks_in (renamed img (marks_in img) i x) ≡ marks_in img) where
  abbrev new : List ℕ
  new = renamed img (marks_in img) i x

  image : verdict img ≡ 0
  image = image-of img tab rows passed

  -- the words lent with the old image are enough for the new one
  pub new-passed : test_rows new tab rows ≡ 0
  unfolding test_rows test_table
  new-passed =
      let a = both _ _ passed in
      let b = both _ _ a.0 in
      let n = (renamed-alike img image i x below).nodes-are in
      skip _ _ (skip _ _ (renamed-accepted img image i x below) ∙ rw n b.1) ∙ rw n a.1

  new-once : declared_twice new ≡ false
  new-once = renamed-twice img image i x below ∙ once

  -- Occurrences leaves the same list
  pub list-same : list new tab rows ≡ list img tab rows
  list-same = list-by-meaning new tab rows (unrefused new tab rows new-passed new-once) new-once ∙ lists ∙ sym (list-by-meaning img tab rows (unrefused img tab rows passed once) once)

  new-rule : (r : Rule) → In r (module_rules img) → In r (module_rules new)
  new-rule r k = subst (In r) (sym (renamed-rules img image i x below)) k

  -- the variable occurrences of every rule are the same
  pub occurs-same : (r : Rule) → In r (module_rules img) → (p : Place) → In p (places_of r) → Occurs img r p ↔ Occurs new r p
  occurs-same r k p j = (
    (λ o. let g = occurs-listed img tab rows passed once r k p j o in
        listed-occurs new tab rows new-passed new-once r (new-rule r k) p j (row p.node g.0) (subst (In (row p.node g.0)) (sym list-same) g.1) refl),
    (λ o. let g = occurs-listed new tab rows new-passed new-once r (new-rule r k) p j o in
        listed-occurs img tab rows passed once r k p j (row p.node g.0) (subst (In (row p.node g.0)) list-same g.1) refl),
  )

  -- two occurrences are of one variable, by sight, in the new image exactly if they are in the old
  pub lit-same : (r : Rule) → In r (module_rules img) → (p q : Place) → In p (places_of r) → In q (places_of r) → Occurs img r p → Occurs img r q
      → Same (name_of img) (outer_const img r) (places_of r) p q ↔ Same (name_of new) (outer_const new r) (places_of r) p q
  lit-same r k p q j m o u =
      let g = occurs-listed img tab rows passed once r k p j o in
      let h = occurs-listed img tab rows passed once r k q m u in
      let a = equal-exactly img tab rows (unrefused img tab rows passed once) once r k p q j m o u (row p.node g.0) (row q.node h.0) g.1 h.1 refl refl in
      let b = equal-exactly new tab rows (unrefused new tab rows new-passed new-once) new-once r (new-rule r k) p q j m ((occurs-same r k p j).0 o) ((occurs-same r k q m).0 u)
      (row p.node g.0) (row q.node h.0) (subst (In (row p.node g.0)) (sym list-same) g.1) (subst (In (row q.node h.0)) (sym list-same) h.1) refl refl in
      (λ s. b.0 (a.1 s), λ s. a.0 (b.1 s))
